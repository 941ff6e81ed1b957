use Rattle.std.proofs.Common.{◌≡◌, ℕ, inl, inr, take, sym, ◌∙◌, subst, arith}
use Rattle.std.specs.List.{All}
use Rattle.std.proofs.lemmas.Bool.{cases_lt, false≢true}
use Rattle.vd_law.specs.Entries.{past}
use Rattle.vd_law.specs.Contents.{Open, open_writes}
use Rattle.vd_law.proofs.Opening.{own_alone, another_refutes}
use Rattle.vd_judge.proofs.rules.is_untouched.Goals as goal

pub returns-then-another_open : goal.returns-then-another_open
returns-then-another_open c =
    let p = past (take c.args.i c.args.log.now.entries) in (
      (λ told s from below. absurd (false≢true told)),
      (λ untouched. absurd (another_refutes c.args.id (open_writes p c.loop-s.s) (sym c.another_open.ensures ∙ c.if-another_open.true) (untouched c.loop-s.s c.loop-s.auto.s c.loop-s-test.true))),
    )

pub loop-s-preserved : goal.loop-s-preserved
loop-s-preserved c s from below =
    let p = past (take c.args.i c.args.log.now.entries) in
    elim (cases_lt s c.loop-s.s) [
      | inl earlier ↦ c.loop-s.invariant s from earlier
      | inr last ↦ let same : c.loop-s.s ≡ s = omega arith in
          subst (λ (n : ℕ). All (λ (w : Open). w.call ≡ c.args.id) (open_writes p n)) same (own_alone c.args.id (open_writes p c.loop-s.s) (sym c.another_open.ensures ∙ c.if-another_open.false))
    ]
