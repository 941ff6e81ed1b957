-- What holds of the fields of a set of blocks.
use Rattle.std.specs.Prelude.{◌≡◌, ◌^◌, ◌<◌, length}
use Rattle.vd_keeper.specs.declared.sets.BlockSet.TheInside.{Inside}
use Rattle.vd_keeper.specs.Sets.{marks_of}

-- the chunks are those that have a block
pub record IsIndexed (set : Inside) : Type 0 where
  pub chunk : set.chunk ≡ set.blocks.chunk
  pub some : 0 < set.chunk
  pub few : length set.blocks.bits < 2 ^ 32
  pub chunks : set.chunks ≡ marks_of set.blocks
