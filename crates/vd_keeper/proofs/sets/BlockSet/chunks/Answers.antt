use Rattle.std.proofs.Common.{◌≡◌, ◌<◌, length, ◌∙◌, arith}
use Rattle.vd_keeper.specs.Sets.{chunks_from}
use Rattle.vd_keeper.proofs.NextChunks.{count-marks_of, chunks-below}
use Rattle.vd_keeper.proofs.sets.BlockSet.chunks.Goals as goal
use Rattle.vd_keeper.proofs.sets.BlockSet.chunks.Goals.{After-count}

counted : (c : After-count) → c.count.result ≡ length (chunks_from c.self.inside.blocks 0)
counted c = c.count.ensures ∙ rw c.self.invariant.chunks (count-marks_of c.self.inside.blocks)

pub returns-clause-chunks : goal.returns-clause-chunks
returns-clause-chunks c = rw (← c.self.view_is) (counted c)

pub returns-clause-few : goal.returns-clause-few
returns-clause-few c =
    let kept = c.self.invariant in
    let some : 0 < c.self.inside.blocks.chunk = omega (arith, kept.some, kept.chunk) in
    omega (arith, counted c, chunks-below c.self.inside.blocks some, kept.few)
