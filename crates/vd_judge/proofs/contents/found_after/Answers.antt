use Rattle.std.proofs.Common.{sym, subst}
use Rattle.std.specs.Prelude.{IsTrue, ◌↔◌}
use Rattle.std.specs.List.{Contains}
use Rattle.vd_judge.specs.declared.contents.Change.{Change}
use Rattle.vd_judge.specs.ContentStates.{contents_after_change}
use Rattle.vd_judge.proofs.Searching.{found-push}
use Rattle.vd_judge.proofs.contents.found_after.Goals as goal

pub returns-else-found : goal.returns-else-found
returns-else-found c contents before =
    subst (λ (change : Change). IsTrue c.is_same_sector.result ↔ Contains (contents_after_change change contents) c.args.v.now) (sym c.in-More.is)
    (found-push c.args.found c.is_same_sector.result contents c.in-More.w.now c.args.v.now before c.is_same_sector.ensures c.if-found.false)
