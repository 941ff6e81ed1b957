use Rattle.std.proofs.Common.{ℕ, ◌+◌, ◌≡◌, List, length, take, ap, sym, ◌∙◌, subst, arith, length-take-le}
use Rattle.std.specs.Prelude.{OnOk}
use Rattle.vd_law.specs.declared.entry.Sector.{Sector}
use Rattle.vd_device.specs.Quiet.{sectors_from}
use Rattle.vd_device.proofs.QuietLaws.{reads_twice}
use Rattle.vd_replay.specs.Pages.{area_at, chunks_in, AreEntries, Judged}
use Rattle.vd_replay.proofs.PageLaws.{piece_at}
use Rattle.vd_replay.proofs.pages.read_map.Goals as goal

pub returns-in_err-read_only-clause-quiet : goal.returns-in_err-read_only-clause-quiet
returns-in_err-read_only-clause-quiet g c = reads_twice c.loop-done.invariant.quiet c.read_only.ensures.quiet

pub loop-done-preserved : goal.loop-done-preserved
loop-done-preserved g c =
    let n : length (take c.min-some.result c.loop-done.room) ≡ c.min-some.result = length-take-le c.min-some.result c.loop-done.room (omega arith) in
    let m : length c.read_only.new.out ≡ c.min-some.result = c.read_only.ensures.size ∙ n in
    let new = (g.S.Store.disk c.read_only.new.store).held in
    record {
      quiet = reads_twice c.loop-done.invariant.quiet c.read_only.ensures.quiet;
      most = omega arith;
      size = c.take_pages-judged.ensures.size ∙ c.loop-done.invariant.size;
      grammar = subst (λ (k : ℕ). OnOk c.take_pages-judged.result (AreEntries c.args.shape.now (chunks_in c.args.shape.now (c.loop-done.done + k)) c.take_pages-judged.new.pages)) m c.take_pages-judged.ensures.grammar;
      judged = λ told. subst (λ (k : ℕ). Judged c.args.shape.now (area_at new c.args.from) (chunks_in c.args.shape.now (c.loop-done.done + k)) c.take_pages-judged.new.pages c.take_pages-judged.result) m
          (c.take_pages-judged.ensures.judged (area_at new c.args.from)
          (piece_at new c.args.from c.loop-done.done c.min-some.result c.read_only.new.out
          (c.in_ok-read_only.ensures.read told ∙ ap (λ (k : ℕ). sectors_from new (c.args.from + k) (length (take c.min-some.result c.loop-done.room))) c.from.ensures ∙ ap (sectors_from new (c.args.from + c.loop-done.done)) n) m)
          (subst (λ (held : List Sector). Judged c.args.shape.now (area_at held c.args.from) (chunks_in c.args.shape.now c.loop-done.done) c.loop-done.pages c.loop-done.judged) (sym (c.read_only.ensures.quiet.held told))
          (c.loop-done.invariant.judged (c.read_only.ensures.quiet.keeps.telling.told_before told))));
    }
