use Rattle.std.proofs.Common.{◌+◌, ◌^◌, ◌≤◌, length}
use Rattle.vd_bits.proofs.SearchLaws.{answers, first-found, first-none}
use Rattle.vd_bits.proofs.marked.Marked.first.Goals as goal
use Rattle.vd_bits.proofs.marked.Marked.first.Goals.{After-descend}

last : (c : After-descend) → length c.self.inside.flags ≤ 64 ^ (length c.deref.result.now + 1)
last c = rw c.deref.ensures.value c.self.invariant.covered.last

pub descend-requires-clause-levels : goal.descend-requires-clause-levels
descend-requires-clause-levels c = rw c.deref.ensures.value c.self.invariant.covered.levels

pub returns-clause-lowest : goal.returns-clause-lowest
returns-clause-lowest c =
    rw (← c.self.view_is) (first-found c.self.inside.flags (64 ^ (length c.deref.result.now + 1)) (last c) c.descend.result c.descend.ensures.found)

pub returns-clause-none : goal.returns-clause-none
returns-clause-none c =
    let flags = c.self.inside.flags in let whole = 64 ^ (length c.deref.result.now + 1) in
    rw (← c.self.view_is) (answers flags 0 c.descend.result (first-found flags whole (last c) c.descend.result c.descend.ensures.found) (first-none flags whole (last c) c.descend.result c.descend.ensures.none))
