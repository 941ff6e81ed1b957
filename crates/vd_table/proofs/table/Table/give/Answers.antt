use Rattle.std.proofs.Common.{◌≡◌, ◌<◌, ℕ, None, Some, length}
use Rattle.std.specs.List.{slice_get}
use Rattle.vd_table.proofs.Links.{given-linked}
use Rattle.vd_table.proofs.table.Table.give.Goals as goal

pub invariant_of-self : goal.invariant_of-self
invariant_of-self c =
    let t = c.self.inside in
    let none : slice_get t.storage.items c.args.chunk ≡ Some None = rw (← c.self.view_is) at c.requires.none in
    let inside : c.args.p < length t.owners.items = rw (← c.self.view_is) at c.requires.storage in
    let nobody : (other : ℕ) → slice_get t.storage.items other ≡ Some (Some c.args.p) → ⊥ = rw (← c.self.view_is) at c.requires.free in
    rw c.unmark.ensures (given-linked t.storage.items t.owners.items t.free c.self.invariant c.args.chunk c.args.p none inside nobody)
