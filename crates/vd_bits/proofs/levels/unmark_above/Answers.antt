use Rattle.std.proofs.Common.{◌≡◌, ℕ, ◌+◌, ◌/◌, ◌^◌, ◌<◌, Bool, List, false, Some, length, get_or, set, slice_get, sym, ap, ◌∙◌, arith, subst, length-set}
use Rattle.std.proofs.lemmas.Option.{slice_get-get_or, slice_get_within}
use Rattle.vd_bits.specs.Summaries.{Summarizes, AreLevels}
use Rattle.vd_bits.specs.Searches.{HasOne, NoneOf}
use Rattle.vd_bits.proofs.WordLaws.{next_word}
use Rattle.vd_bits.proofs.LevelLaws.{each_more, later_more, each_level, covered, emptied-level, emptied-word, kept-level, kept-word}
use Rattle.vd_bits.proofs.levels.unmark_above.Goals as goal
use Rattle.vd_bits.proofs.levels.unmark_above.Goals.{After-level-item, After-empties}

at : (c : After-level-item) → slice_get c.args.above.now c.loop-level.level-index ≡ Some (get_or c.loop-level.above c.loop-level.level-index c.level-item.result)
at c = sym (c.loop-level.invariant.later c.loop-level.level-index (omega arith)) ∙ slice_get-get_or c.loop-level.above c.loop-level.level-index c.level-item.result (omega arith)

word : (c : After-level-item) → c.loop-level.place / 64 ≡ c.args.page / 64 ^ (c.loop-level.level-index + 1)
word c = ap (λ place. place / 64) c.loop-level.invariant.place ∙ next_word c.args.page c.loop-level.level-index

-- the level as it was put down
new : (c : After-empties) (marked : List Bool) → c.args.page < length marked → AreLevels marked c.args.above.now → NoneOf (set marked c.args.page false) 64 (c.args.page / 64)
    → Summarizes (64 ^ (c.loop-level.level-index + 1)) (set marked c.args.page false) c.empties.new.level
new c marked inside levels none =
    let k = c.before in
    let i = c.loop-level.level-index in let level = get_or c.loop-level.above i c.level-item.result in
    emptied-level marked c.args.above.now c.args.page inside levels i level c.empties.new.level (at k) (c.empties.ensures.level ∙ ap (λ place. set level place false) (word k)) (c.loop-level.invariant.empty marked inside levels none)

-- and those up to it
done : (c : After-empties) (marked : List Bool) → c.args.page < length marked → AreLevels marked c.args.above.now → NoneOf (set marked c.args.page false) 64 (c.args.page / 64)
    → (n : ℕ) (level : List Bool) → n < c.loop-level.level-index + 1 → slice_get (set c.loop-level.above c.loop-level.level-index c.empties.new.level) n ≡ Some level → Summarizes (64 ^ (n + 1)) (set marked c.args.page false) level
done c marked inside levels none =
    each_more (λ n high. Summarizes (64 ^ (n + 1)) (set marked c.args.page false) high) c.loop-level.above c.loop-level.level-index c.empties.new.level (omega arith) (c.loop-level.invariant.done marked inside levels none) (new c marked inside levels none)

pub empties-requires : goal.empties-requires
empties-requires c = omega (arith, word c, c.requires c.loop-level.level-index (get_or c.loop-level.above c.loop-level.level-index c.level-item.result) (at c))

pub returns-then-not-empties : goal.returns-then-not-empties
returns-then-not-empties c = λ marked inside none was.
    let k = (goal.at.returns-then-not-empties c).After-empties in
    let xs = c.loop-level.above in let i = c.loop-level.level-index in
    let one : HasOne (set marked c.args.page false) (64 ^ (i + 1 + 1)) (c.args.page / 64 ^ (i + 1 + 1)) =
    kept-word marked c.args.above.now c.args.page inside was.levels i c.empties.new.level (new k marked inside was.levels none) (subst (λ place. HasOne c.empties.new.level 64 (place / 64)) (word k.before) (c.empties.ensures.kept c.if-not-empties.true)) in
    covered marked (set marked c.args.page false) c.args.above.now (set xs i c.empties.new.level) (length-set marked c.args.page false) (omega (arith, length-set xs i c.empties.new.level)) was
    (each_level (λ n high. Summarizes (64 ^ (n + 1)) (set marked c.args.page false) high) c.args.above.now (set xs i c.empties.new.level) (i + 1)
    (later_more c.args.above.now xs i c.empties.new.level c.loop-level.invariant.later) (done k marked inside was.levels none)
    (λ n high h there. kept-level marked c.args.above.now c.args.page inside was.levels (i + 1 + 1) one n high (omega (arith, h)) there))

pub loop-level-preserved : goal.loop-level-preserved
loop-level-preserved c =
    let k = (goal.at.loop-level-preserved c).After-empties in
    record {
      place = word k.before;
      later = later_more c.args.above.now c.loop-level.above c.loop-level.level-index c.empties.new.level c.loop-level.invariant.later;
      empty = λ marked inside levels none.
          emptied-word marked c.args.above.now c.args.page inside levels c.loop-level.level-index c.empties.new.level (new k marked inside levels none) (subst (λ place. NoneOf c.empties.new.level 64 (place / 64)) (word k.before) (c.empties.ensures.empty c.if-not-empties.false));
      done = done k;
    }

pub returns : goal.returns
returns c = λ marked inside none was.
    let xs = c.loop-level.above in
    covered marked (set marked c.args.page false) c.args.above.now xs (length-set marked c.args.page false) (omega arith) was
    (λ n level at. c.loop-level.invariant.done marked inside was.levels none n level (omega (arith, slice_get_within xs n level at)) at)
