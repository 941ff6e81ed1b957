-- The seat takes the value at the exchange, and what is read from the slot is that value.
use Rattle.std.proofs.Common.{rules, ap, sym, subst, false, Some, None, ◌∙◌, ◌++◌, ◌∷◌, [], inr, append_assoc}
use Rattle.vd_turn.specs.Lists.{IsLaterFor}
use Rattle.vd_turn.proofs.Calls.{front, may_look, may_take, has_value, is_later, found_one, read_value, exchanged_slot}
use Rattle.vd_turn.proofs.Seated.{seat_when, last_is}
use Rattle.vd_turn.proofs.lock.Turn.try_take.Goals as goal

pub load-word-requires : goal.load-word-requires
load-word-requires g c = (search rules, search rules, may_look g.V.Kept _ _ _ _ _ _ _ (seat_when _ _ _ _ _ false c.pass.view_is c.pass.invariant c.requires.rests))

pub compare_exchange-requires : goal.compare_exchange-requires
compare_exchange-requires g c =
    let is = found_one _ _ _ _ _ _ (seat_when _ _ _ _ _ false c.pass.view_is c.pass.invariant c.requires.rests) c.load-word.ensures.2 in (
      search rules,
      search rules,
      may_take g.V.Kept _ _ _ _ _ _ _ _ is c.if-word-eq1.false,
    )

pub exchange-requires : goal.exchange-requires
exchange-requires g c =
    let is = found_one _ _ _ _ _ _ (seat_when _ _ _ _ _ false c.pass.view_is c.pass.invariant c.requires.rests) c.load-word.ensures.2 in
    let t = c.compare_exchange.ensures.2.0 c.if-compare_exchange-word.false in (search rules, (Some t.value, front _ _ _ (ap (λ m. m.1) (has_value g.V.Kept _ _ _ _ _ _ is t))))

pub returns-then-compare_exchange-word-clause-none : goal.returns-then-compare_exchange-word-clause-none
returns-then-compare_exchange-word-clause-none g c =
    let word = c.load-word.result in let other = c.compare_exchange.result in
    let missed = c.compare_exchange.ensures.2.1 c.if-compare_exchange-word.true in
    inr (word, other, ap (λ m. m.0.found) missed ∙ (ap (λ m. m.0.found ++ other ∷ []) c.load-word.ensures.2 ∙ (ap (λ u. (u.found ++ word ∷ []) ++ other ∷ []) c.pass.view_is ∙ append_assoc _ (word ∷ []) (other ∷ []))), c.if-compare_exchange-word.true)

pub returns-clause-pass : goal.returns-clause-pass
returns-clause-pass g c =
    let is = found_one _ _ _ _ _ _ (seat_when _ _ _ _ _ false c.pass.view_is c.pass.invariant c.requires.rests) c.load-word.ensures.2 in
    let t = c.compare_exchange.ensures.2.0 c.if-compare_exchange-word.false in
    let in_hand = exchanged_slot _ _ _ (Some t.value) None _ _ (has_value g.V.Kept _ _ _ _ _ _ is t) c.exchange.ensures.3 in
    let later = is_later g.V.Kept _ _ _ _ _ _ is t in (
      ap (λ u. u.number) c.pass.view_is,
      (search rules, ap g.V.Kept.fixed (last_is _ _ _ _ _ _ in_hand) ∙ (later.fixed ∙ c.requires.belongs.1)),
    )

pub returns-clause-later : goal.returns-clause-later
returns-clause-later g c =
    let is = found_one _ _ _ _ _ _ (seat_when _ _ _ _ _ false c.pass.view_is c.pass.invariant c.requires.rests) c.load-word.ensures.2 in
    let t = c.compare_exchange.ensures.2.0 c.if-compare_exchange-word.false in
    let same = read_value _ _ _ c.unwrap-value.result _ _ _ (has_value g.V.Kept _ _ _ _ _ _ is t) c.exchange.ensures.2 c.unwrap-value.ensures in
    subst (IsLaterFor g.V.Kept c.args.pass.now.number c.args.pass.now.last) (sym same) (is_later g.V.Kept _ _ _ _ _ _ is t)

pub returns-clause-fixed : goal.returns-clause-fixed
returns-clause-fixed g c =
    let is = found_one _ _ _ _ _ _ (seat_when _ _ _ _ _ false c.pass.view_is c.pass.invariant c.requires.rests) c.load-word.ensures.2 in
    let t = c.compare_exchange.ensures.2.0 c.if-compare_exchange-word.false in
    let same = read_value _ _ _ c.unwrap-value.result _ _ _ (has_value g.V.Kept _ _ _ _ _ _ is t) c.exchange.ensures.2 c.unwrap-value.ensures in
    let later = is_later g.V.Kept _ _ _ _ _ _ is t in ap g.V.Kept.fixed same ∙ (later.fixed ∙ c.requires.belongs.1)
