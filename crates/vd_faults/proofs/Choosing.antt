-- When a log can take an entry.
use Rattle.std.proofs.Common.{◌≡◌, ℕ, true, not, ◌&&◌, Option, length, arith}
use Rattle.std.specs.Prelude.{◌==◌, nat_le, nat_lt}
use Rattle.std.proofs.lemmas.Bool.{eqb-true, and_parts}
use Rattle.vd_law.specs.Entries.{Entry}
use Rattle.vd_law.specs.Logs.{LogState, content_of}
use Rattle.vd_device.specs.Calls.{next_number}
use Rattle.vd_faults.specs.Tapes.{is_blown, runs_on, takes}

pub runs_on-runs : (log : LogState) (fuse : Option ℕ) (over : ℕ) → runs_on log fuse over ≡ true → over ≡ 0
runs_on-runs log fuse over goes = eqb-true over 0 (and_parts (over == 0) (not (is_blown fuse log.entries)) goes).0

-- a log that takes an entry runs
pub takes-runs : (log : LogState) (fuse : Option ℕ) (over : ℕ) (e : Entry) → takes log fuse over e ≡ true → over ≡ 0
takes-runs log fuse over e can =
    runs_on-runs log fuse over (and_parts (runs_on log fuse over) (nat_lt 0 log.left.events && nat_le (length (content_of e)) log.left.sectors) can).0

-- a store that has stopped doesn't run
pub stopped-over : (over : ℕ) → next_number over ≡ 0 → {X : Type 0} → X
stopped-over over runs = absurd (omega arith)
