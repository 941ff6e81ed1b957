-- What the fields of a bitmap stand for, and what holds of them.
use Rattle.std.specs.Prelude.{◌≡◌, ◌^◌, ◌%◌, ◌<◌, length}
use Rattle.vd_bits.specs.Marks.{count_true}
use Rattle.vd_bits.specs.declared.bits.Bits.TheInside.{Inside}
use Rattle.vd_bits.specs.Blocks.{Blocks}

abbrev pub blocks_state : Inside → Blocks
blocks_state b = record { chunk = b.chunk; bits = b.flags }

-- the number of true bits is kept, a chunk's bits stand in one word, and blocks have numbers of 32 bits
pub record IsTallied (b : Inside) : Type 0 where
  pub count : b.count ≡ count_true b.flags
  pub some : 0 < b.chunk
  pub even : 64 % b.chunk ≡ 0
  pub few : length b.flags < 2 ^ 32
