use Rattle.std.proofs.Common.{◌≡◌, length, drop, sym, ap, ◌∙◌, arith}
use Rattle.std.specs.Prelude.{◌&&◌, Bool, true, slice_range}
use Rattle.std.proofs.lemmas.Slice.{between_to_end}
use Rattle.vd_format.specs.Numbers.{are_zeros}
use Rattle.vd_format.proofs.header.reading.has_zeros.Goals as goal

pub returns-then-are_zeros : goal.returns-then-are_zeros
returns-then-are_zeros c =
    let bytes = c.args.bytes.now in
    let first : are_zeros (slice_range bytes 28 32) ≡ true = sym c.are_zeros.ensures ∙ c.if-are_zeros.true in
    c.are_zeros-then-are_zeros.ensures ∙ ap are_zeros (between_to_end bytes 56 (length bytes) (omega arith)) ∙ ap (λ (b : Bool). b && are_zeros (drop 56 bytes)) (sym first)
