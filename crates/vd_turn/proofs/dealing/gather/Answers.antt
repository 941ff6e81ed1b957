-- The notes of the pass that is popped go before those of the passes that are gone.
use Rattle.std.proofs.Common.{◌≡◌, ◌∙◌, ◌++◌, false, map, ap, rules, Some}
use Rattle.std.proofs.lemmas.List.Elements.{All-pop}
use Rattle.vd_turn.specs.Board.{note_of}
use Rattle.vd_turn.proofs.Cuts.{may_join, joined, still_rests, all_but_last}
use Rattle.vd_turn.proofs.dealing.gather.Goals as goal

pub join_seat-requires : goal.join_seat-requires
join_seat-requires g c = (search rules, search rules, ap (λ m. m.1) c.into_place.ensures.0, search rules, may_join g.V.Kept _ _ _ _ _ _ _ _ _ c.loop-pass.invariant.rests c.into_place.ensures.0)

pub loop-pass-preserved : goal.loop-pass-preserved
loop-pass-preserved g c =
    let popped = All-pop (λ pass. (pass.turn ≡ c.args.top.now.table_id) × (pass.holds ≡ false)) _ _ (Some c.in-Some-pop.pass) c.in-Some-pop.ensures.items c.loop-pass.invariant.each in
    let after = joined c.in-Some-pop.pass.number c.in-Some-pop.pass.last _ _ _ _ c.loop-pass.invariant.rests c.into_place.ensures.0 c.join_seat.ensures.2 in record {
      table = search rules;
      rests = still_rests _ _ _ after;
      notes = ap (λ m. map note_of c.pop-in-loop-pass.new.self.items ++ m.0.notes) after ∙ all_but_last note_of _ _ _ _ _ c.in-Some-pop.ensures.items c.loop-pass.invariant.notes;
      each = popped.0;
    }
