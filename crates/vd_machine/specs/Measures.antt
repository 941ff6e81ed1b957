-- How many steps a flush makes at most until its reply.
use Rattle.std.specs.Prelude.{ℕ, ◌+◌, ◌-◌, ◌*◌, ◌&&◌, Bool, true, false, if◌then◌else◌, length, is_some}
use Rattle.std.specs.List.{count_by}
use Rattle.vd_keeper.specs.declared.stage.Stage.{Stage}
use Rattle.vd_keeper.specs.declared.stage.Stage.TheVariants.{Rest, DataFlush, Puts, Syncs, Seals, Broken}
use Rattle.vd_keeper.specs.declared.stage.Way.{Way}
use Rattle.vd_keeper.specs.declared.stage.Way.TheVariants.{Nothing, Records, Recycle}
use Rattle.vd_keeper.specs.declared.stage.Route.TheVariants.{Owed}
use Rattle.vd_keeper.specs.Keeping.{KeeperState}
use Rattle.vd_keeper.specs.Flushes.{records_for}
use Rattle.vd_keeper.specs.Entries.{chunks_with}
use Rattle.vd_keeper.specs.Moves.{none_of, after_begin}
use Rattle.vd_passes.specs.declared.pass.Pass.{Pass}
use Rattle.vd_passes.specs.declared.pass.Phase.{Phase}
use Rattle.vd_passes.specs.declared.pass.Phase.TheVariants.{Asked, Flushing, Ready}

-- what is still to be put
abbrev pub puts_left : Way → KeeperState → ℕ
puts_left Nothing k = 0
puts_left Records k = records_for (length (chunks_with k.header k.snapshot) - k.logged)
puts_left (Recycle tracked) k = if k.head then 0 else count_by (λ mark. mark) k.marked + 1

-- how often puts are still to be made durable: sectors of the map before the header, and the header
abbrev pub syncs_left : Way → KeeperState → ℕ
syncs_left Nothing k = 0
syncs_left Records k = 1
syncs_left (Recycle tracked) k = if k.head then 1 else (if none_of k.marked && none_of k.put then 1 else 2)

abbrev pub calls_left : KeeperState → ℕ
calls_left k = 2 * puts_left k.way k + 2 * syncs_left k.way k

-- a call is submitted in one step and settled in another; a seal and a reply end the flush
abbrev pub steps_at : Stage → KeeperState → (waits : Bool) → ℕ
steps_at Rest k waits = 0
steps_at DataFlush k waits = calls_left k + 3
steps_at Puts k true = calls_left k + 3
steps_at Puts k false = calls_left k + 2
steps_at Syncs k true = calls_left k + 1
steps_at Syncs k false = calls_left k + 2
steps_at Seals k waits = 2
steps_at Broken k waits = 0

abbrev pub flush_steps_in : Phase → KeeperState → Pass → ℕ
flush_steps_in Asked k p = steps_at DataFlush (after_begin Owed k) true + 1
flush_steps_in Flushing k p = steps_at k.stage k (is_some p.ticket)
flush_steps_in Ready k p = 1
flush_steps_in _ k p = 0

abbrev pub flush_steps : KeeperState → Pass → ℕ
flush_steps k p = flush_steps_in p.phase k p
