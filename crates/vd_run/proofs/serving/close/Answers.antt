use Rattle.std.proofs.Common.{◌≡◌, ◌∙◌, ap, sym, subst, Bool, true, List, Some}
use Rattle.std.specs.Prelude.{slice_get}
use Rattle.vd_keeper.specs.Keeping.{KeeperState}
use Rattle.vd_machine.specs.Views.{View}
use Rattle.vd_run.specs.Driving.{IsToLog}
use Rattle.vd_run.proofs.Guest.Logging.{adopted}
use Rattle.vd_run.proofs.serving.close.Goals as goal

pub returns-clause-adopted : goal.returns-clause-adopted
returns-clause-adopted g c = λ ok block fresh.
    let is = c.adopt.ensures.adopts.others in let old = c.args.core.now in
    let was : slice_get old.fresh block ≡ Some true = ap (λ (xs : List Bool). slice_get xs block) (sym (c.flush.ensures.fresh ∙ ap (λ (v : View _ _). v.fresh) is)) ∙ fresh in
    c.flush.ensures.logged ok block (subst (λ (k : KeeperState). IsToLog k block) (sym (ap (λ (v : View _ _). v.keeping) is)) (adopted old.fresh old.keeping block was))
