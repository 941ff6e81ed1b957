use Rattle.std.proofs.Common.{◌+◌, ◌^◌, ◌<◌, true, length, get_or, replicate, sym, ◌∙◌, arith}
use Rattle.std.proofs.lemmas.List.{length-replicate}
use Rattle.std.proofs.lemmas.Option.{slice_get-get_or, slice_get_within}
use Rattle.vd_bits.specs.Summaries.{Summarizes}
use Rattle.vd_bits.proofs.LevelLaws.{each_more, later_more, covered, full-level}
use Rattle.vd_bits.proofs.levels.raise_all.Goals as goal

pub loop-level-preserved : goal.loop-level-preserved
loop-level-preserved c =
    let xs = c.loop-level.above in let i = c.loop-level.level-index in let level = get_or xs i c.level-item.result in
    let inside : i < length xs = omega arith in
    let at = sym (c.loop-level.invariant.later i (omega arith)) ∙ slice_get-get_or xs i c.level-item.result inside in
    record {
      later = later_more c.args.above.now xs i c.raise.new.self c.loop-level.invariant.later;
      done = λ marked levels.
          each_more (λ n high. Summarizes (64 ^ (n + 1)) (replicate (length marked) true) high) xs i c.raise.new.self inside (c.loop-level.invariant.done marked levels)
          (full-level marked i level c.raise.new.self (levels i level at) c.raise.ensures);
    }

pub returns : goal.returns
returns c = λ marked was.
    let xs = c.loop-level.above in
    covered marked (replicate (length marked) true) c.args.above.now xs (length-replicate (length marked) true) (omega arith) was
    (λ n level at. c.loop-level.invariant.done marked was.levels n level (omega (arith, slice_get_within xs n level at)) at)
