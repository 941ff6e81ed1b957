-- A run of primitives by which a guest discards a chunk and a flush releases its storage.
use Rattle.std.specs.Prelude.{ℕ, ◌≡◌, true, false, List, [], ◌∷◌, None}
use Rattle.vd_image.specs.Log.{Sector, CallId, Write, Flush, Fine, Ask, Issue, Done, Reply}
use Rattle.vd_image.specs.Image.{Record}
use Rattle.vd_crash.specs.facts.Safe.{Opening, events}
use Rattle.vd_crash.specs.primitives.Primitives.{State, Interleaves}

-- a record that says of this chunk that it is zeros and has no storage
abbrev pub loss : ℕ → ℕ → Record
loss generation c = record { same_version = true; generation = generation; well_formed = true; facts = record { chunk = c; mapping = record { storage = None; zeros = true; has = λ b. false } } ∷ [] }

-- a run after which the chunk is zeros and no storage is its own, in which the discard and the flush were answered well
pub record IsReleasing (o : Opening) (start : State) (c first : ℕ) (content : List Sector) (d f : CallId) : Type 0 where
  pub after : State
  pub run : Interleaves o start after
  pub zeros : after.memory.discards.zeros c ≡ true
  pub released : after.memory.index.table c ≡ None
  pub history : events after.history ≡ Ask d (Write first content) ∷ Issue d first content ∷ Done d ∷ Reply d Fine ∷ Ask f Flush ∷ Reply f Fine ∷ []
