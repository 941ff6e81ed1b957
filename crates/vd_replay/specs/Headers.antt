-- Which of the fields that never change differs in a header that was read again.
use Rattle.std.specs.Prelude.{ℕ, ◌==◌, Option, Some, None, if◌then◌else◌}
use Rattle.vd_format.specs.declared.header.Header.{Header}

-- the version, as field 9, comes first; then the fields by their numbers
unfoldable pub first_changed : (kept now : Header) → Option ℕ
first_changed kept now =
    if now.version == kept.version then
    (if now.block == kept.block then
    (if now.chunk == kept.chunk then
    (if now.size == kept.size then
    (if now.storage == kept.storage then
    (if now.slots == kept.slots then None else Some 5)
    else Some 4) else Some 3) else Some 2) else Some 1) else Some 9
