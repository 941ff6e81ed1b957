use Rattle.std.proofs.Common.{◌≡◌, ◌++◌, take, drop, map}
use Rattle.vd_faults.specs.Rules.{polled}
use Rattle.vd_faults.proofs.rules.Rules.poll.Given as goal

abbrev pub invariant-loop-i : goal.invariant-loop-i
invariant-loop-i l =
    l.self-inside.list.items ≡ map (polled l.ticket) (take l.i l.initial.self-inside.list.items) ++ drop l.i l.initial.self-inside.list.items
