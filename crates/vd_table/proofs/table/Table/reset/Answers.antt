use Rattle.std.proofs.Common.{◌≡◌, rules, replicate, None, length}
use Rattle.vd_table.proofs.Links.{empty-linked}
use Rattle.vd_table.proofs.table.Table.reset.Goals as goal

pub invariant_of-self : goal.invariant_of-self
invariant_of-self c =
    let t = c.self.inside in
    let e : c.fill.new.self.items ≡ replicate (length t.storage.items) None = search rules in
    let f : c.fill-2.new.self.items ≡ replicate (length t.owners.items) None = search rules in
    rw (e, f, c.mark_all.ensures, c.self.invariant.each) (empty-linked (length t.storage.items) (length t.owners.items) c.self.invariant.short c.self.invariant.few)
