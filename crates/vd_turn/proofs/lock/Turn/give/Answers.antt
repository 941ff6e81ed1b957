-- The value that goes into the slot is the one that the store leaves at home.
use Rattle.std.proofs.Common.{rules, ap, sym, subst, true, ◌*◌, ◌∙◌, Some, None}
use Rattle.vd_turn.specs.Lists.{IsGrownBy}
use Rattle.vd_turn.proofs.Calls.{may_give, exchanged_slot, given_back}
use Rattle.vd_turn.proofs.Seated.{seat_when, seat_kept, last_is, some_note}
use Rattle.vd_turn.proofs.lock.Turn.give.Goals as goal

pub store-requires : goal.store-requires
store-requires g c =
    let v = c.args.pass.now in let y = c.held.inside.value in
    let holding = seat_when _ _ _ _ v true c.pass.view_is c.pass.invariant c.requires.holds in
    let grown = subst (IsGrownBy g.V.Kept v.number v.last) (sym c.held.view_is) c.requires.grown in (
      search rules,
      search rules,
      may_give g.V.Kept _ _ _ v.number _ v.last y v.found _ (exchanged_slot v.number v.last v.found None (Some y) _ _ holding c.exchange-empty.ensures.3) (ap (λ n. 2 * n) c.length-length.ensures.counts) grown,
    )

pub invariant_of-pass-inside : goal.invariant_of-pass-inside
invariant_of-pass-inside g c =
    let given = given_back c.args.pass.now c.held.inside.value _ _ _ (seat_when _ _ _ _ _ true c.pass.view_is c.pass.invariant c.requires.holds) c.exchange-empty.ensures.3 c.store.ensures.2 in
    (some_note _ _ _ _ _ given, tt)

pub invariant_of-pass : goal.invariant_of-pass
invariant_of-pass g c =
    let given = given_back c.args.pass.now c.held.inside.value _ _ _ (seat_when _ _ _ _ _ true c.pass.view_is c.pass.invariant c.requires.holds) c.exchange-empty.ensures.3 c.store.ensures.2 in
    seat_kept _ _ _ _ _ _ _ (ap (λ u. u.number) c.pass.view_is) given

pub returns-clause-pass : goal.returns-clause-pass
returns-clause-pass g c =
    let given = given_back c.args.pass.now c.held.inside.value _ _ _ (seat_when _ _ _ _ _ true c.pass.view_is c.pass.invariant c.requires.holds) c.exchange-empty.ensures.3 c.store.ensures.2 in (
      ap (λ u. u.number) c.pass.view_is,
      (search rules, ap g.V.Kept.fixed (last_is _ _ _ _ _ _ given ∙ c.held.view_is) ∙ (c.requires.grown.fixed ∙ c.requires.belongs.1)),
    )

pub returns-clause-given : goal.returns-clause-given
returns-clause-given g c =
    let given = given_back c.args.pass.now c.held.inside.value _ _ _ (seat_when _ _ _ _ _ true c.pass.view_is c.pass.invariant c.requires.holds) c.exchange-empty.ensures.3 c.store.ensures.2 in
    (ap (λ m. m.0.holds) given, last_is _ _ _ _ _ _ given ∙ c.held.view_is)
