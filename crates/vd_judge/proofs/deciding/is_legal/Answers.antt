use Rattle.std.proofs.Common.{◌+◌, take, sym, ◌∙◌, subst}
use Rattle.std.proofs.lemmas.Bool.{false≢true}
use Rattle.vd_law.proofs.Going.{take_one_more}
use Rattle.vd_law.specs.Entries.{entry_of}
use Rattle.vd_law.specs.Rules.{IsLegal}
use Rattle.vd_law.proofs.RuleLaws.{legal-push, legal-last, legal-take}
use Rattle.vd_judge.proofs.deciding.is_legal.Goals as goal

pub returns-then-not-may_follow : goal.returns-then-not-may_follow
returns-then-not-may_follow g c =
    let disk = g.F.Flat.disk c.args.start.now in let es = c.args.log.now.entries in let e = entry_of c.event.result in (
      (λ told. absurd (false≢true told)),
      (λ legal. let next : IsLegal disk (take (c.loop-i.i + 1) es) = legal-take disk (c.loop-i.i + 1) es legal in
          let follows = legal-last disk (take c.loop-i.i es) e (subst (IsLegal disk) (take_one_more es c.loop-i.i e c.event.ensures) next) in
          sym c.if-not-may_follow.true ∙ c.may_follow.ensures.1 follows),
    )

pub loop-i-preserved : goal.loop-i-preserved
loop-i-preserved g c =
    let disk = g.F.Flat.disk c.args.start.now in let es = c.args.log.now.entries in let e = entry_of c.event.result in
    subst (IsLegal disk) (sym (take_one_more es c.loop-i.i e c.event.ensures))
    (legal-push disk (take c.loop-i.i es) e c.loop-i.invariant (c.may_follow.ensures.0 c.if-not-may_follow.false))
