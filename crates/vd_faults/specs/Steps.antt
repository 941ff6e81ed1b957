-- What an entry is to the versions of sectors.
use Rattle.std.specs.Prelude.{ℕ, ◌≡◌}
use Rattle.vd_law.specs.declared.entry.CallId.{CallId}
use Rattle.vd_law.specs.Entries.{Entry, Issue, Done, Past, ◌▸◌}
use Rattle.vd_law.specs.Contents.{issued_contents, last_done}
use Rattle.vd_faults.specs.declared.versions.Step as step
use Rattle.vd_faults.specs.declared.versions.Step.TheVariants as steps

-- an entry that begins no write and ends none well
abbrev pub LeavesVersions : Entry → Type 0
LeavesVersions e = (p : Past) (s : ℕ) → (issued_contents (p ▸ e) s ≡ issued_contents p s) × (last_done (p ▸ e) s ≡ last_done p s)

abbrev pub IsVersionStep : Entry → step.Step → Type 0
IsVersionStep e (steps.Begins first content) = (id : CallId) × (e ≡ Issue id first content.now)
IsVersionStep e steps.IsDone = (id : CallId) × (e ≡ Done id)
IsVersionStep e steps.Other = LeavesVersions e
