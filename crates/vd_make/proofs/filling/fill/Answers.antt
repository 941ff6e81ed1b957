use Rattle.std.proofs.lemmas.Result.{err_from_is_err_and}
use Rattle.vd_make.proofs.KeepLaws.{keeps_none, keeps_one}
use Rattle.vd_make.proofs.filling.fill.Goals as goal

pub returns-in_err-lay-clause-fills : goal.returns-in_err-lay-clause-fills
returns-in_err-lay-clause-fills g c v all told =
    let p = err_from_is_err_and c.from_residual.result c.from_residual.ensures.1 in
    rw p.1 (keeps_none v _ _ p.0 _ _ (c.lay.ensures.lays v all told))

pub returns-clause-fills : goal.returns-clause-fills
returns-clause-fills g c v all told =
    let before = c.sync.ensures.keeps.telling.told_before told in
    keeps_one v _ _ _ c.sync.result _ _ _ (c.lay.ensures.lays v all before) (c.in_ok-lay.ensures.laid v all before) (c.sync.ensures.syncs told)
