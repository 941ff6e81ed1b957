use Rattle.std.proofs.Common.{◌≡◌, ◌+◌, ◌/◌, ◌^◌, ◌<◌, true, Some, length, get_or, set, slice_get, sym, ap, ◌∙◌, arith, subst, length-set}
use Rattle.std.proofs.lemmas.List.{set-get_or}
use Rattle.std.proofs.lemmas.Option.{slice_get-get_or, slice_get_within}
use Rattle.vd_bits.specs.Summaries.{Summarizes, IsCovered}
use Rattle.vd_bits.proofs.WordLaws.{next_word}
use Rattle.vd_bits.proofs.LevelLaws.{each_more, later_more, each_level, covered, marked-level, shown-level}
use Rattle.vd_bits.proofs.levels.mark_above.Goals as goal
use Rattle.vd_bits.proofs.levels.mark_above.Goals.{After-level-item}

at : (c : After-level-item) → slice_get c.args.above.now c.loop-level.level-index ≡ Some (get_or c.loop-level.above c.loop-level.level-index c.level-item.result)
at c = sym (c.loop-level.invariant.later c.loop-level.level-index (omega arith)) ∙ slice_get-get_or c.loop-level.above c.loop-level.level-index c.level-item.result (omega arith)

word : (c : After-level-item) → c.loop-level.place / 64 ≡ c.args.page / 64 ^ (c.loop-level.level-index + 1)
word c = ap (λ place. place / 64) c.loop-level.invariant.place ∙ next_word c.args.page c.loop-level.level-index

within : (c : After-level-item) → c.loop-level.place / 64 < length (get_or c.loop-level.above c.loop-level.level-index c.level-item.result)
within c = omega (arith, word c, c.requires c.loop-level.level-index (get_or c.loop-level.above c.loop-level.level-index c.level-item.result) (at c))

pub get-requires : goal.get-requires
get-requires c = within c

pub returns-then-get : goal.returns-then-get
returns-then-get c = λ marked inside was.
    let k = (goal.at.returns-then-get c).After-level-item in
    let xs = c.loop-level.above in let i = c.loop-level.level-index in let level = get_or xs i c.level-item.result in
    let up : slice_get level (c.args.page / 64 ^ (i + 1)) ≡ Some true = ap (λ place. slice_get level place) (sym (word k)) ∙ c.if-get.ensures in
    subst (IsCovered (set marked c.args.page true)) (sym (set-get_or xs i c.level-item.result))
    (covered marked (set marked c.args.page true) c.args.above.now xs (length-set marked c.args.page true) (omega arith) was
    (each_level (λ n high. Summarizes (64 ^ (n + 1)) (set marked c.args.page true) high) c.args.above.now xs i c.loop-level.invariant.later (c.loop-level.invariant.done marked inside was.levels)
    (shown-level marked c.args.above.now c.args.page inside was.levels i level (at k) up)))

pub put-requires : goal.put-requires
put-requires c = within (goal.at.put-requires c).After-level-item

pub loop-level-preserved : goal.loop-level-preserved
loop-level-preserved c =
    let k = (goal.at.loop-level-preserved c).After-level-item in
    let xs = c.loop-level.above in let i = c.loop-level.level-index in let level = get_or xs i c.level-item.result in
    record {
      place = word k;
      later = later_more c.args.above.now xs i c.put.new.self c.loop-level.invariant.later;
      done = λ marked inside levels.
          each_more (λ n high. Summarizes (64 ^ (n + 1)) (set marked c.args.page true) high) xs i c.put.new.self (omega arith) (c.loop-level.invariant.done marked inside levels)
          (marked-level marked c.args.above.now c.args.page inside levels i level c.put.new.self (at k) (c.put.ensures ∙ ap (λ place. set level place true) (word k)));
    }

pub returns : goal.returns
returns c = λ marked inside was.
    let xs = c.loop-level.above in
    covered marked (set marked c.args.page true) c.args.above.now xs (length-set marked c.args.page true) (omega arith) was
    (λ n level at. c.loop-level.invariant.done marked inside was.levels n level (omega (arith, slice_get_within xs n level at)) at)
