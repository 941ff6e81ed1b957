-- What was local when a core was made, by the entries of the map then.
use Rattle.std.specs.Prelude.{ℕ, ◌≡◌, ◌*◌, ◌/◌, ◌<◌, Bool, true, false, List, Option, None, Some, slice_get}
use Rattle.vd_format.specs.declared.map.Entry.{Entry}
use Rattle.vd_image.specs.Decoders.{mask_has}
use Rattle.vd_passes.specs.declared.shape.Shape.{Shape}

-- the entry of a chunk whose first block is this has the block
abbrev pub is_in : Option Entry → (first b : ℕ) → Bool
is_in None first b = false
is_in (Some e) first b = mask_has first e.mask b

-- the block was local by these entries of the map
abbrev pub was_local : Shape → (had : List Entry) → (b : ℕ) → Bool
was_local shape had b = is_in (slice_get had (b / shape.chunk)) (b / shape.chunk * shape.chunk) b

-- each block that was local by these entries has its mark
abbrev pub HaveMarks : Shape → (had : List Entry) → (marks : List Bool) → Type 0
HaveMarks shape had marks = (b : ℕ) → b < shape.blocks → was_local shape had b ≡ true → slice_get marks b ≡ Some true
