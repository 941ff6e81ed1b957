use Rattle.std.proofs.Common.{◌<◌, List, length, ap, sym, ◌∙◌, subst, arith}
use Rattle.std.specs.Prelude.{slice_set}
use Rattle.std.proofs.lemmas.List.{length-set}
use Rattle.vd_format.specs.declared.map.Entry.{Entry}
use Rattle.vd_format.specs.declared.journal.Fact2.{Fact2}
use Rattle.vd_format.specs.Entries.{IsEntry}
use Rattle.vd_replay.specs.Pages.{AreEntries}
use Rattle.vd_replay.proofs.JournalLaws.{put_next, entries_put}
use Rattle.vd_replay.proofs.journal.apply.Goals as goal
use Rattle.vd_lists.proofs.Elements.{all_at_place}

pub loop-place-preserved : goal.loop-place-preserved
loop-place-preserved c =
    let f = c.get-fact.result in
    let within : f.chunk < length c.loop-place.map = (let size = c.loop-place.invariant.size in let h = all_at_place (λ (x : Fact2). x.chunk < length c.args.map.now) c.args.facts.now c.loop-place.place f c.requires c.get-fact.ensures in omega arith) in
    record {
      put = c.put.ensures ∙ ap (λ (es : List Entry). slice_set es f.chunk f.entry) c.loop-place.invariant.put ∙ sym (put_next c.args.map.now c.args.facts.now c.loop-place.place f c.get-fact.ensures);
      size = ap length c.put.ensures ∙ length-set c.loop-place.map f.chunk f.entry ∙ c.loop-place.invariant.size;
      grammar = λ shape are before. subst (λ (es : List Entry). AreEntries shape (length c.args.map.now) es) (sym c.put.ensures)
          (entries_put shape (length c.args.map.now) c.loop-place.map f.chunk f.entry within (all_at_place (λ (x : Fact2). IsEntry shape x.chunk x.entry) c.args.facts.now c.loop-place.place f are.entries c.get-fact.ensures)
          (c.loop-place.invariant.grammar shape are before));
    }
