use Rattle.std.proofs.Common.{◌≡◌, ◌+◌, ◌-◌, ◌^◌, true, length, arith, subst}
use Rattle.std.proofs.lemmas.Option.{slice_get_within}
use Rattle.vd_bits.specs.Summaries.{Summarizes}
use Rattle.vd_bits.proofs.LevelLaws.{at_level, word_fits}
use Rattle.vd_bits.proofs.SearchLaws.{Descends, descended, descended-none, ends-found, ends-none}
use Rattle.vd_bits.proofs.levels.descend.Goals as goal
use Rattle.vd_bits.proofs.levels.descend.Goals.{After-index-above-level, After-lowest_from-2}

below : (c : After-index-above-level) → c.loop-level.level ≡ c.loop-level.level - 1 + 1
below c = omega arith

-- the level that is searched next, and what was found above it
shown : (c : After-index-above-level) → Summarizes (64 ^ (c.loop-level.level - 1 + 1)) c.args.flags.now c.index-above-level.result
shown c = c.requires.levels (c.loop-level.level - 1) c.index-above-level.result (at_level c.args.above.now (c.loop-level.level - 1) c.index-above-level.result (omega arith) c.index-above-level.is)

come : (c : After-index-above-level) → Descends c.args.flags.now (64 ^ (length c.args.above.now + 1)) c.args.word (64 ^ (c.loop-level.level - 1 + 1 + 1)) c.loop-level.place
come c = subst (λ level. Descends c.args.flags.now (64 ^ (length c.args.above.now + 1)) c.args.word (64 ^ (level + 1)) c.loop-level.place) (below c) c.loop-level.invariant.descends

ended : (c : After-lowest_from-2) → Descends c.args.flags.now (64 ^ (length c.args.above.now + 1)) c.args.word 64 c.loop-level.place
ended c =
    let last : c.loop-level.level ≡ 0 = omega arith in
    subst (λ level. Descends c.args.flags.now (64 ^ (length c.args.above.now + 1)) c.args.word (64 ^ (level + 1)) c.loop-level.place) last c.loop-level.invariant.descends

pub returns-in_err-place-clause-none : goal.returns-in_err-place-clause-none
returns-in_err-place-clause-none c =
    let k = (goal.at.returns-in_err-place-clause-none c).After-index-above-level in
    rw c.from_residual.ensures (descended-none c.args.flags.now c.index-above-level.result (c.loop-level.level - 1 + 1) (shown k) (64 ^ (length c.args.above.now + 1)) c.args.word c.loop-level.place (come k) c.in_err-place.ensures.none)

pub loop-level-preserved : goal.loop-level-preserved
loop-level-preserved c =
    let k = (goal.at.loop-level-preserved c).After-index-above-level in
    let found = c.in_ok-place.ensures.found in record {
      small = word_fits c.args.flags.now c.index-above-level.result (c.loop-level.level - 1) c.in_ok-place.place (2 ^ 64) (shown k) c.requires.fits (slice_get_within c.index-above-level.result c.in_ok-place.place true found.is_marked);
      descends = descended c.args.flags.now c.index-above-level.result (c.loop-level.level - 1 + 1) (shown k) (64 ^ (length c.args.above.now + 1)) c.args.word c.loop-level.place c.in_ok-place.place (come k) found c.in_ok-place.ensures.word;
    }

pub returns-clause-found : goal.returns-clause-found
returns-clause-found c =
    ends-found c.args.flags.now (64 ^ (length c.args.above.now + 1)) c.args.word c.loop-level.place (ended c) c.lowest_from-2.result c.lowest_from-2.ensures.found c.lowest_from-2.ensures.word

pub returns-clause-none : goal.returns-clause-none
returns-clause-none c =
    ends-none c.args.flags.now (64 ^ (length c.args.above.now + 1)) c.args.word c.loop-level.place (ended c) c.lowest_from-2.result c.lowest_from-2.ensures.none
