-- The table begins with the value at home, and each pass has seen it.
use Rattle.std.proofs.Common.{◌≡◌, ◌∙◌, ◌++◌, ◌*◌, [], ◌∷◌, map, refl, ap, Some}
use Rattle.std.specs.List.{range_with_len}
use Rattle.vd_turn.specs.Values.{PassValue}
use Rattle.vd_turn.specs.Passes.{pass_number, Rests}
use Rattle.vd_turn.proofs.Numbered.{numbers_of, each_rests}
use Rattle.std.proofs.lemmas.List.Elements.{All-same}
use Rattle.vd_turn.proofs.Ends.{may_start}
use Rattle.vd_turn.proofs.lock.Turn.new.Goals as goal

pub new-requires : goal.new-requires
new-requires g c = may_start g.V.Kept _ _ c.args.value _ _ (c.push_reserved.ensures.items ∙ ap (λ l. l ++ Some c.args.value ∷ []) c.in-Ok.ensures.slots.0) c.of.ensures (ap (λ n. 2 * n) c.length.ensures.counts)

pub returns-in-Ok-new-clause-numbers : goal.returns-in-Ok-new-clause-numbers
returns-in-Ok-new-clause-numbers g c = ap (map pass_number) c.deal-rights.ensures ∙ numbers_of _ _ (range_with_len 0 c.args.passes)

pub returns-in-Ok-new-clause-each : goal.returns-in-Ok-new-clause-each
returns-in-Ok-new-clause-each g c =
    let turn = c.in-Ok-new.board.shared in let x = turn.key.start.value in let begun : x ≡ c.args.value = ap (λ k. k.start.value) c.in-Ok-new.ensures.ok.5 ∙ c.of.ensures in
    let P : PassValue _ → Type 0 = λ pass. ((pass.turn ≡ turn.table_id) × (g.V.Kept.fixed pass.last ≡ g.V.Kept.fixed x)) × Rests pass c.args.value in
    All-same P _ _ c.deal-rights.ensures (each_rests turn.table_id x (range_with_len 0 c.args.passes) P (λ n. ((refl, refl), (refl, begun))))
