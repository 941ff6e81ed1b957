-- What a settle makes of the regions, and what its caller is told.
use Rattle.std.specs.Prelude.{ℕ, List, Option, None, slice_set}
use Rattle.vd_regions.specs.declared.regions.Region.{Region}
use Rattle.vd_machine.specs.declared.outcome.Outcome.{Outcome}
use Rattle.vd_machine.specs.declared.outcome.Outcome.TheVariants.{Done, Late, Failed}
use Rattle.vd_core.specs.declared.outcome.Step.{Step}
use Rattle.vd_core.specs.declared.outcome.Step.TheVariants.{Again}
use Rattle.vd_core.specs.declared.outcome.Step.TheVariants as step

-- what the step tells its caller
abbrev pub step_of : Outcome → Step
step_of Done = Again
step_of Late = step.Late
step_of Failed = Again

-- the regions after a settle with which a piece ends, unless it was late
abbrev pub regions_after_end : Outcome → (i : ℕ) → List (Option Region) → List (Option Region)
regions_after_end Done i regions = slice_set regions i None
regions_after_end Late i regions = regions
regions_after_end Failed i regions = slice_set regions i None

-- the regions after a settle with which a piece ends where it has failed
abbrev pub regions_after_failure : Outcome → (i : ℕ) → List (Option Region) → List (Option Region)
regions_after_failure Done i regions = regions
regions_after_failure Late i regions = regions
regions_after_failure Failed i regions = slice_set regions i None
