use Rattle.std.proofs.Common.{◌+◌, ◌-◌, ◌/◌, ◌<◌, length, ap, sym, ◌∙◌, subst, arith, List}
use Rattle.std.proofs.lemmas.List.{length-set}
use Rattle.vd_format.specs.declared.map.Entry.{Entry}
use Rattle.vd_replay.specs.Pages.{AreRead, AreEntries}
use Rattle.vd_replay.proofs.PageLaws.{read_more, read_bad, entries_more}
use Rattle.vd_replay.proofs.pages.take_page.Goals as goal

pub loop-chunk-preserved : goal.loop-chunk-preserved
loop-chunk-preserved c =
    let n = c.loop-chunk.chunk in
    let within : n < length c.loop-chunk.pages = (let size = c.loop-chunk.invariant.size in omega arith) in
    let spells = (c.read_entry.ensures.ok c.in-Ok.entry).0 c.in-Ok.is in
    record {
      size = ap length c.put.ensures ∙ length-set c.loop-chunk.pages n c.in-Ok.entry ∙ c.loop-chunk.invariant.size;
      grammar = λ before. subst (λ (es : List Entry). AreEntries c.args.shape.now (n + 1) es) (sym c.put.ensures)
          (entries_more c.args.shape.now n c.loop-chunk.pages c.in-Ok.entry within spells.grammar (c.loop-chunk.invariant.grammar before));
      read = λ at is before. subst (λ (es : List Entry). AreRead c.args.shape.now at (n + 1) es) (sym c.put.ensures)
          (read_more c.args.shape.now at n (c.args.first / 32) (n - c.args.first) c.loop-chunk.pages c.args.sector.now c.in-Ok.entry within (omega arith) (omega arith) is
          (sym c.in-Ok.is ∙ c.read_entry.ensures.read) (c.loop-chunk.invariant.read at is before));
    }

pub returns-in-Err-clause-judged : goal.returns-in-Err-clause-judged
returns-in-Err-clause-judged c at is before =
    let n = c.loop-chunk.chunk in
    read_bad c.args.shape.now at n c.args.end (c.args.first / 32) (n - c.args.first) c.in-Err.value c.loop-chunk.pages c.args.sector.now c.loop-chunk-test.true (omega arith) (omega arith) is
    (sym c.in-Err.is ∙ c.read_entry.ensures.read) (c.loop-chunk.invariant.read at is before)
