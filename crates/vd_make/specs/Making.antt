-- What `make` answers.
use Rattle.std.specs.Prelude.{ℕ, ◌≡◌, ◌<◌, ◌≤◌, ◌⊎◌}
use Rattle.vd_format.specs.declared.header.Header.{Header}
use Rattle.vd_format.specs.Layouts.{store_need}
use Rattle.vd_device.specs.declared.store.Store as store
use Rattle.vd_device.specs.Quiet.{OnlyReads, IsCallFault}
use Rattle.vd_report.specs.declared.line.Line.TheVariants as lines
use Rattle.vd_report.specs.Outcomes.{Outcome, Says}

module _ {S : Type 0} (g : store.Ghosts S) where
  -- What becomes of making the image with this header: the store has too few sectors, or there is no memory, which is free, and
  -- then nothing is written; or a call fails, or the image is made.
  pub data MakingEnds (h : Header) (s s' : S) : Outcome → Type 0 where
    Too_few : g.sectors s < store_need h → OnlyReads g s s' → MakingEnds h s s' (Says (lines.TooSmall (store_need h) (g.sectors s)))
    Lacks_memory : store_need h ≤ g.sectors s → OnlyReads g s s' → MakingEnds h s s' (Says lines.NoMemory)
    Write_failed : (ticket : ℕ) → store_need h ≤ g.sectors s → IsCallFault g s s' ticket → MakingEnds h s s' (Says (lines.StoreFault ticket))
    Is_made : store_need h ≤ g.sectors s → MakingEnds h s s' (Says (lines.Made (store_need h)))

-- the image was made, whether or not this could be printed
abbrev pub WasMade : (status : ℕ) → Type 0
WasMade status = (status ≡ 0) ⊎ (status ≡ 6)
