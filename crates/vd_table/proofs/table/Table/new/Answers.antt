use Rattle.std.proofs.Common.{◌≡◌, arith, rules, replicate, None, true}
use Rattle.std.proofs.lemmas.List.{length-replicate}
use Rattle.vd_table.proofs.Links.{empty-linked}
use Rattle.vd_table.proofs.table.Table.new.Goals as goal

pub invariant_of-result : goal.invariant_of-result
invariant_of-result c =
    let e : c.in_ok-vec.field-0.items ≡ replicate c.args.chunks None = search rules in
    let f : c.in_ok-vec-2.field-0.items ≡ replicate c.args.storage None = search rules in
    let g : c.mark_all.new.self ≡ replicate c.args.storage true = rw (c.in_ok-free.ensures, length-replicate) at c.mark_all.ensures in
    rw (e, f, g) (empty-linked c.args.chunks c.args.storage (omega arith) (omega arith))
