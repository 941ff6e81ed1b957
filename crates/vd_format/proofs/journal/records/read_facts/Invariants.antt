use Rattle.vd_format.proofs.SlotReading.{ReadsOn}
use Rattle.vd_format.proofs.journal.records.read_facts.Given as goal

abbrev pub invariant-loop-place : goal.invariant-loop-place
invariant-loop-place l = ReadsOn l.shape l.bytes l.count l.place l.from l.facts
