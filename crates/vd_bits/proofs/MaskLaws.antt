-- What a chunk's mask says of each of its blocks, for the crates above.
use Rattle.std.proofs.Common.{◌≡◌, ℕ, ◌+◌, ◌*◌, ◌<◌, false, cond, get_or, drop, ap, ◌∙◌, get_or-take, get_or-drop}
use Rattle.std.specs.Int.{bit_at}
use Rattle.std.proofs.lemmas.Simd.{bit_mask_l}
use Rattle.vd_bits.specs.Blocks.{Blocks, bits_in}
use Rattle.vd_bits.specs.Masks.{mask_of}

-- bit i of a chunk's mask is its block i, or 0
pub bit_of_mask : (b : Blocks) (n i : ℕ) → i < b.chunk → bit_at (mask_of (bits_in b n)) i ≡ cond (get_or b.bits (n * b.chunk + i) false) 1 0
bit_of_mask b n i h =
    bit_mask_l (bits_in b n) i ∙ ap (λ v. cond v 1 0) (get_or-take b.chunk (drop (n * b.chunk) b.bits) i false h ∙ get_or-drop (n * b.chunk) b.bits i false)
