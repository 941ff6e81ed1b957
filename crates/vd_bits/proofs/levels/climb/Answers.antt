use Rattle.std.proofs.Common.{◌≡◌, ◌+◌, ◌/◌, ◌^◌, length, arith, subst}
use Rattle.vd_bits.proofs.LevelLaws.{at_level}
use Rattle.vd_bits.proofs.SearchLaws.{Climbs, climbed, climbs-on, climbs-none}
use Rattle.vd_bits.proofs.levels.climb.Goals as goal

pub returns-in-Some-clause-first : goal.returns-in-Some-clause-first
returns-in-Some-clause-first c = λ marked levels none.
    let i = c.loop-level.level in let level = c.index-above-level.result in
    climbed marked level (i + 1) (levels i level (at_level c.args.above.now i level c.loop-level-test.true c.index-above-level.is)) c.args.from (c.loop-level.place / 64 + 1) c.in-Some.word (c.loop-level.invariant marked levels none) c.in-Some.ensures.found

pub loop-level-preserved : goal.loop-level-preserved
loop-level-preserved c = λ marked levels none.
    let i = c.loop-level.level in let level = c.index-above-level.result in
    climbs-on marked level (i + 1) (levels i level (at_level c.args.above.now i level c.loop-level-test.true c.index-above-level.is)) c.args.from (c.loop-level.place / 64 + 1) (c.loop-level.invariant marked levels none) c.in_default.ensures.none

pub returns-clause-none : goal.returns-clause-none
returns-clause-none c = λ marked was none.
    let all : c.loop-level.level ≡ length c.args.above.now = omega arith in
    climbs-none marked c.args.from (64 ^ (length c.args.above.now + 1)) (c.loop-level.place / 64 + 1) was.last (omega arith)
    (subst (λ i. Climbs marked c.args.from (64 ^ (i + 1)) (c.loop-level.place / 64 + 1)) all (c.loop-level.invariant marked was.levels none))
