use Rattle.std.proofs.Common.{◌≡◌, ◌∙◌, arith}
use Rattle.vd_keeper.proofs.Joining.{adopting-one, adopting-all}
use Rattle.vd_keeper.proofs.owing.adopt.Goals as goal

pub loop-chunk-preserved : goal.loop-chunk-preserved
loop-chunk-preserved c = adopting-one c.args.owed.now c.loop-chunk.owed c.adopt_chunk.new.owed c.args.fresh.now.bits c.args.stale.now.bits c.loop-chunk.chunk c.loop-chunk.invariant c.adopt_chunk.ensures

pub returns : goal.returns
returns c =
    adopting-all c.args.owed.now c.loop-chunk.owed c.args.fresh.now.bits c.args.stale.now.bits c.loop-chunk.chunk c.requires.some
    (let end : c.loop-chunk.chunk ≡ c.args.chunks = omega arith in end ∙ c.requires.chunks)
    c.loop-chunk.invariant c.requires.fresh_size
