use Rattle.std.proofs.Common.{ℕ, ◌*◌, ◌<◌, ◌≡◌, length, ap, ◌∙◌, arith}
use Rattle.vd_bits.specs.Blocks.{Blocks}
use Rattle.vd_replay.proofs.PlacingLaws.{mask_fits, masked_size, placed_more, placed_sizes, spread_more, twins_found}
use Rattle.vd_replay.proofs.placing.place_all.Goals as goal

pub place-requires-clause-blocks : goal.place-requires-clause-blocks
place-requires-clause-blocks c =
    let inv = c.loop-chunk.invariant in
    mask_fits c.args.shape.now c.loop-chunk.chunk c.get-entry.result c.loop-chunk.fresh inv.sizes.chunk inv.sizes.blocks
    (c.requires.entries.each c.loop-chunk.chunk c.get-entry.result c.loop-chunk-test.true c.get-entry.ensures)

pub returns-in-Err-clause-placed : goal.returns-in-Err-clause-placed
returns-in-Err-clause-placed c = twins_found c.args.map.now c.loop-chunk.chunk c.in-Err.first c.get-entry.result c.loop-chunk.table c.get-entry.ensures c.loop-chunk.invariant.placed c.in-Err.ensures.twin

pub loop-chunk-preserved : goal.loop-chunk-preserved
loop-chunk-preserved c =
    let inv = c.loop-chunk.invariant in
    let n = c.loop-chunk.chunk in
    let places = c.in_default.ensures.ok in
    let chunk : c.loop-chunk.fresh.chunk ≡ c.args.shape.now.chunk = inv.sizes.chunk in
    let blocks : length c.loop-chunk.fresh.bits ≡ c.args.shape.now.blocks = inv.sizes.blocks in
    let some : 0 < c.loop-chunk.fresh.chunk = (let k = c.requires.shape.some in omega arith) in
    let row : n * c.loop-chunk.fresh.chunk ≡ n * c.args.shape.now.chunk = ap (λ (k : ℕ). n * k) chunk in
    let starts : n * c.loop-chunk.fresh.chunk < length c.loop-chunk.fresh.bits = (let k = c.requires.shape.first_block n c.loop-chunk-test.true in omega arith) in
    let size : length c.place.new.fresh.bits ≡ length c.loop-chunk.fresh.bits = ap (λ (f : Blocks). length f.bits) places.mask ∙ masked_size c.loop-chunk.fresh n c.get-entry.result.mask starts in
    let within : n < length c.loop-chunk.table.chunks = (let a = inv.sizes.chunks in let k = c.loop-chunk-test.true in omega (arith, a, k)) in
    let sizes = placed_sizes n c.get-entry.result c.loop-chunk.table c.place.new.table c.loop-chunk.fresh c.place.new.fresh places in
    record {
      sizes = record {
        chunks = sizes.0 ∙ inv.sizes.chunks;
        storage = sizes.1 ∙ inv.sizes.storage;
        chunk = ap (λ (f : Blocks). f.chunk) places.mask ∙ inv.sizes.chunk;
        blocks = size ∙ inv.sizes.blocks;
      };
      placed = placed_more c.args.map.now n c.get-entry.result c.loop-chunk.table c.place.new.table c.loop-chunk.fresh c.place.new.fresh within c.get-entry.ensures inv.placed places;
      spread = spread_more c.args.map.now n c.get-entry.result c.loop-chunk.fresh c.place.new.fresh some starts size c.get-entry.ensures places.mask inv.spread;
    }
