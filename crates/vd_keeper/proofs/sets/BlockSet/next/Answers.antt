use Rattle.vd_keeper.proofs.SetLaws.{next-of, none-of, of-none, few-next}
use Rattle.vd_keeper.proofs.sets.BlockSet.next.Goals as goal

pub returns-clause-next : goal.returns-clause-next
returns-clause-next c = rw (← c.self.view_is) (next-of c.self.inside c.args.from c.first_from.result c.self.invariant c.first_from.ensures.lowest)

pub returns-clause-none : goal.returns-clause-none
returns-clause-none c =
    rw (← c.self.view_is)
    ((λ is. none-of c.self.inside c.args.from c.self.invariant (c.first_from.ensures.none.0 is)), (λ none. c.first_from.ensures.none.1 (of-none c.self.inside c.args.from c.self.invariant none)))

pub returns-clause-few : goal.returns-clause-few
returns-clause-few c = few-next c.self.inside c.args.from c.first_from.result c.self.invariant (next-of c.self.inside c.args.from c.first_from.result c.self.invariant c.first_from.ensures.lowest)
