-- One note is cut off at each turn of the loop.
use Rattle.std.proofs.Common.{◌∙◌, ◌-◌, ap, rules, arith}
use Rattle.vd_turn.specs.Passes.{resting}
use Rattle.vd_turn.proofs.Cuts.{may_cut, cut_off, cut_rest, counted, passes_more}
use Rattle.vd_turn.proofs.dealing.deal.Goals as goal

pub split_seat-own-requires : goal.split_seat-own-requires
split_seat-own-requires g c = (search rules, search rules, may_cut g.V.Kept _ _ c.loop-number.number (c.args.count - c.loop-number.number) c.args.top.now.key.start.value _ c.loop-number.invariant.left (omega arith))

pub resting-requires : goal.resting-requires
resting-requires g c = cut_off c.loop-number.number (c.args.count - c.loop-number.number) c.args.top.now.key.start.value _ _ c.loop-number.invariant.left (omega arith) c.split_seat-own.ensures.4

pub push_reserved-requires : goal.push_reserved-requires
push_reserved-requires g c = omega (arith, counted _ _ _ c.loop-number.invariant.made, c.loop-number.passes.ok, c.loop-number.invariant.room)

pub loop-number-preserved : goal.loop-number-preserved
loop-number-preserved g c = record {
  table = search rules;
  left = cut_rest c.loop-number.number c.args.count (c.args.count - c.loop-number.number) c.args.top.now.key.start.value _ _ c.loop-number.invariant.left (omega arith) (omega arith) c.split_seat-own.ensures.2;
  room = search rules;
  made = passes_more _ _ _ _ c.loop-number.number c.push_reserved.ensures.items c.loop-number.invariant.made (c.resting.ensures ∙ ap (λ t. resting t c.args.top.now.key.start.value c.loop-number.number) (c.split_seat-own.ensures.3 ∙ c.loop-number.invariant.table));
}
