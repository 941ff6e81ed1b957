-- The passes come back in the order in which they went.
use Rattle.std.proofs.Common.{◌∙◌, ◌<◌, ap, sym, subst, arith}
use Rattle.vd_turn.proofs.Numbered.{all_there}
use Rattle.turn_bench.proofs.race.Goals as goal

pub close-requires-clause-all : goal.close-requires-clause-all
close-requires-clause-all g c = λ n low. all_there c.in-Ok.made.1.items c.in_ok-passes.passes.items c.args.passes c.in-Ok.ensures.numbers (omega (arith, c.in_ok-passes.ensures.len, c.in_ok-passes.passes.ok, c.in-Ok.made.1.ok))
    (λ i d there. let e = (c.in_ok-passes.ensures.each i d there).1 in e.call.met.0 ∙ sym (ap (λ j. j.number) (e.job_is d)))
    n (subst (λ m. n < m) c.in-Ok.ensures.turn.1 low)
