use Rattle.std.proofs.Common.{inl, inr, replicate, sym, ◌∙◌, arith}
use Rattle.std.proofs.lemmas.Bool.{cases_lt}
use Rattle.std.proofs.lemmas.List.{length-replicate}
use Rattle.std.proofs.lemmas.Option.{slice_get_past}
use Rattle.vd_format.specs.Entries.{empty_entry}
use Rattle.vd_replay.proofs.placing.clear.Goals as goal
use Rattle.vd_lists.proofs.Lists.{same_list}
use Rattle.vd_lists.proofs.Places.{slice_get_replicate}

pub returns : goal.returns
returns c =
    let size = c.loop-chunk.invariant.size in
    let many = length-replicate c.args.chunks empty_entry in
    same_list c.loop-chunk.map (replicate c.args.chunks empty_entry) (size ∙ sym many)
    (λ i. elim (cases_lt i c.args.chunks) [
      | inl below ↦ c.loop-chunk.invariant.each i (omega arith) ∙ sym (slice_get_replicate c.args.chunks empty_entry i below)
      | inr past ↦ slice_get_past c.loop-chunk.map i (omega arith) ∙ sym (slice_get_past (replicate c.args.chunks empty_entry) i (omega arith))
    ])
