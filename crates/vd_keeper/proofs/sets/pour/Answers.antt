use Rattle.std.proofs.Common.{◌+◌, ◌<◌, ◌^◌, refl, arith}
use Rattle.vd_bits.specs.Marks.{IsLowest, NoneFrom}
use Rattle.vd_keeper.specs.Sets.{marks_of}
use Rattle.vd_keeper.proofs.Pouring.{found-inside, found-small, poured-one, poured-empty, poured-into}
use Rattle.vd_keeper.proofs.sets.pour.Goals as goal
use Rattle.vd_keeper.proofs.sets.pour.Goals.{In-Some, In_default}

lowest : (c : In-Some) → IsLowest (marks_of c.args.from.now) c.loop-chunk.at c.in-Some.chunk
lowest c = rw c.requires.chunks at c.in-Some.ensures.lowest

none : (c : In_default) → NoneFrom (marks_of c.args.from.now) c.loop-chunk.at
none c = rw c.requires.chunks at (c.in_default.ensures.none.0 refl)

small : (c : In-Some) → c.in-Some.chunk + 1 < 2 ^ 32
small c = found-small c.args.from.now c.args.into.now c.loop-chunk.from c.loop-chunk.into c.loop-chunk.at c.in-Some.chunk c.loop-chunk.invariant c.requires.some (lowest c) c.requires.few

pub overflow_cast-chunk : goal.overflow_cast-chunk
overflow_cast-chunk c = omega (arith, small (goal.at.overflow_cast-chunk c).In-Some)

pub pour_chunk-requires-clause-inside : goal.pour_chunk-requires-clause-inside
pour_chunk-requires-clause-inside c =
    found-inside c.args.from.now c.args.into.now c.loop-chunk.from c.loop-chunk.into c.loop-chunk.at c.in-Some.chunk c.loop-chunk.invariant c.requires.some (lowest (goal.at.pour_chunk-requires-clause-inside c).In-Some)

pub overflow_add-at : goal.overflow_add-at
overflow_add-at c = omega (arith, small (goal.at.overflow_add-at c).In-Some)

pub loop-chunk-preserved : goal.loop-chunk-preserved
loop-chunk-preserved c =
    poured-one c.args.from.now c.args.into.now c.loop-chunk.from c.loop-chunk.into c.pour_chunk.new.from c.pour_chunk.new.into c.loop-chunk.at c.in-Some.chunk c.loop-chunk.invariant c.requires.size c.requires.chunk c.requires.some
    (lowest (goal.at.loop-chunk-preserved c).In-Some) c.pour_chunk.ensures.into c.pour_chunk.ensures.from

pub returns-clause-into : goal.returns-clause-into
returns-clause-into c = poured-into c.args.from.now c.args.into.now c.loop-chunk.from c.loop-chunk.into c.loop-chunk.at c.loop-chunk.invariant c.requires.size c.requires.some (none c)

pub returns-clause-empty : goal.returns-clause-empty
returns-clause-empty c = poured-empty c.args.from.now c.args.into.now c.loop-chunk.from c.loop-chunk.into c.loop-chunk.at c.loop-chunk.invariant c.requires.size c.requires.some (none c)
