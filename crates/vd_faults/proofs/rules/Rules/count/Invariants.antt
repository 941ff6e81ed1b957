use Rattle.std.proofs.Common.{◌≡◌, ◌++◌, take, drop, map}
use Rattle.vd_faults.specs.Rules.{counted}
use Rattle.vd_faults.proofs.rules.Rules.count.Given as goal

abbrev pub invariant-loop-i : goal.invariant-loop-i
invariant-loop-i l =
    l.self-inside.list.items ≡ map (counted l.first l.count) (take l.i l.initial.self-inside.list.items) ++ drop l.i l.initial.self-inside.list.items
