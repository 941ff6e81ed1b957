use Rattle.std.proofs.Common.{◌≡◌, drop}
use Rattle.vd_faults.specs.Rules.{failing}
use Rattle.vd_faults.proofs.rules.Rules.fault.Given as goal

abbrev pub invariant-loop-rule : goal.invariant-loop-rule
invariant-loop-rule l =
    (l.rule-items ≡ l.self) × (failing l.ending l.log.entries l.ticket (drop l.rule-index l.rule-items) ≡ failing l.ending l.log.entries l.ticket l.rule-items)
