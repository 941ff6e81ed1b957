use Rattle.std.proofs.Common.{◌-◌, length}
use Rattle.vd_keeper.specs.Entries.{union_of, fact_of}
use Rattle.vd_keeper.proofs.EntryLaws.{IsCollecting}
use Rattle.vd_keeper.proofs.putting.next_facts.Given as goal

abbrev pub invariant-loop-at : goal.invariant-loop-at
invariant-loop-at l = IsCollecting (fact_of l.header l.table (union_of l.stale.bits l.snapshot.bits)) l.snapshot l.from l.facts l.at

abbrev pub decreases-loop-at : goal.decreases-loop-at
decreases-loop-at l = 24 - length l.facts
