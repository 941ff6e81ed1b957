-- What one call's events say of the log: it has gone on, and a store that had stopped stands as it stood.
use Rattle.std.proofs.Common.{ℕ, inl, inr, List, [], ◌∙◌, sym, arith}
use Rattle.std.proofs.lemmas.List.{append-nil}
use Rattle.vd_law.specs.Entries.{Entry}
use Rattle.vd_device.specs.Disks.{Disk, HasStopped, StoppedSince, Records}
use Rattle.vd_device.specs.Frames.{GoesOn}

pub recorded-goes-on : (es : List Entry) (before after : ℕ) (old new : Disk) → Records es before after old new → GoesOn old new
recorded-goes-on es before after old new r = elim r.goes_on [
  | inl runs ↦ record { start = r.start; more = es; log = runs.2 }
  | inr stands ↦ record { start = r.start; more = []; log = stands.1 ∙ sym (append-nil old.log) }
]

pub recorded-stood : (es : List Entry) (before after : ℕ) (old new : Disk) → Records es before after old new → HasStopped before old → StoppedSince after old new
recorded-stood es before after old new r stopped = elim r.goes_on [
  | inl runs ↦ absurd (omega (arith, runs.0, stopped))
  | inr stands ↦ record { stopped = stands.0; start = r.start; log = stands.1 }
]
