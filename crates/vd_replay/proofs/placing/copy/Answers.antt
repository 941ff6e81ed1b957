use Rattle.std.proofs.Common.{inl, inr, sym, ◌∙◌, arith}
use Rattle.std.proofs.lemmas.Bool.{cases_lt}
use Rattle.std.proofs.lemmas.Option.{slice_get_past}
use Rattle.vd_replay.proofs.placing.copy.Goals as goal
use Rattle.vd_lists.proofs.Lists.{same_list}

pub returns : goal.returns
returns c =
    let size = c.loop-chunk.invariant.size in
    let other = c.requires.other in
    same_list c.loop-chunk.map c.args.other.now (size ∙ sym other)
    (λ i. elim (cases_lt i c.args.chunks) [
      | inl below ↦ c.loop-chunk.invariant.each i (omega arith)
      | inr past ↦ slice_get_past c.loop-chunk.map i (omega arith) ∙ sym (slice_get_past c.args.other.now i (omega arith))
    ])
