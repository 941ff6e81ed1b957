use Rattle.std.proofs.Common.{◌≡◌, ℕ, ◌+◌, ◌*◌, ◌/◌, ◌%◌, ◌^◌, ◌<◌, arith}
use Rattle.vd_format.specs.declared.header.Header.{Header}
use Rattle.vd_format.specs.Headers.{IsValid}
use Rattle.vd_format.specs.Layouts.{place_of_sector}
use Rattle.vd_image.proofs.Layouts.{parts_inside}
use Rattle.vd_replay.specs.Disks.{IsStorageAt}
use Rattle.vd_replay.proofs.disk.place.Goals as goal
use Rattle.vd_replay.proofs.disk.place.Goals.{After-from}

small : (h : Header) (start chunk block p s : ℕ) → IsValid h → IsStorageAt h start → chunk ≡ h.chunk → block ≡ h.block → p < h.storage → place_of_sector start chunk block p s < 2 ^ 32
small h start chunk block p s valid storage chunk_is block_is inside =
    rw (chunk_is, block_is, storage.start) (let place = (parts_inside h valid).places p s inside in let near = storage.near in omega (arith, place, near))

below : (c : After-from) → place_of_sector c.args.storage_at c.from.result c.from-block.result c.args.p c.args.sector < 2 ^ 32
below c = small c.args.header.now c.args.storage_at c.from.result c.from-block.result c.args.p c.args.sector c.requires.valid c.requires.storage c.from.ensures c.from-block.ensures c.requires.inside

pub place_of_block-requires-clause-fits : goal.place_of_block-requires-clause-fits
place_of_block-requires-clause-fits c = omega (arith, below (goal.at.place_of_block-requires-clause-fits c).After-from)

pub overflow_add-result : goal.overflow_add-result
overflow_add-result c = omega (arith, below (goal.at.overflow_add-result c).After-from, c.place_of_block.ensures)

pub returns-clause-near : goal.returns-clause-near
returns-clause-near c = omega (arith, below (goal.at.returns-clause-near c).After-from, c.place_of_block.ensures)
