-- The seat that knows what all passes know finds the value at home.
use Rattle.std.proofs.Common.{◌≡◌, ◌∙◌, false, rules, ap}
use Rattle.vd_turn.specs.Lists.{IsLaterFor}
use Rattle.vd_turn.specs.Passes.{Belongs}
use Rattle.vd_turn.proofs.Ends.{closes, later_end, some_there, from_first}
use Rattle.vd_turn.proofs.lock.Turn.close.Goals as goal

pub unwrap-value-requires : goal.unwrap-value-requires
unwrap-value-requires g c =
    let e = closes g.V.Kept _ _ _ c.args.passes.items _ _ _ _ c.gather-place.ensures.1 (ap (λ t. t.passes) c.self.view_is) c.requires.all c.close_with-closed.ensures.values.2 c.take.ensures.value in
    rw e.1 (search rules)

pub returns-clause-later : goal.returns-clause-later
returns-clause-later g c = later_end g.V.Kept _ _ _ c.args.passes.items _ _ _ _ _ c.gather-place.ensures.1 (ap (λ t. t.passes) c.self.view_is) c.requires.all c.close_with-closed.ensures.values.2 c.take.ensures.value c.unwrap-value.ensures

pub returns-clause-fixed : goal.returns-clause-fixed
returns-clause-fixed g c =
    let later = later_end g.V.Kept _ _ _ c.args.passes.items _ _ _ _ _ c.gather-place.ensures.1 (ap (λ t. t.passes) c.self.view_is) c.requires.all c.close_with-closed.ensures.values.2 c.take.ensures.value c.unwrap-value.ensures in
    from_first (λ pass. IsLaterFor g.V.Kept pass.number pass.last c.unwrap-value.result) (λ pass. Belongs g.V.Kept c.args.self pass × (pass.holds ≡ false)) _ c.args.passes.items (some_there _ _ (c.requires.all 0 (rw (← ap (λ t. t.passes) c.self.view_is) c.self.invariant.2)))
    (λ pass after of_turn. after.fixed ∙ of_turn.0.1) later c.requires.each
