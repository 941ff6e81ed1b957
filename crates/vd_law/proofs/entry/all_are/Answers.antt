-- Bytes that are all the same are those of an array that was filled with the byte.
use Rattle.std.proofs.Common.{◌≡◌, ℕ, List, length, replicate, refl, subst, sym, ◌∙◌, arith}
use Rattle.std.specs.List.{All}
use Rattle.std.proofs.lemmas.Slice.Eq.{slice_eq-Decides}
use Rattle.std.proofs.lemmas.Bool.Decides.{Decides-eqb}
use Rattle.std.proofs.lemmas.List.{ext_get_or, get_or-replicate, length-replicate}
use Rattle.std.proofs.lemmas.List.Elements.{All-replicate}
use Rattle.vd_law.proofs.entry.all_are.Goals as goal

filled : (n byte : ℕ) (bytes : List ℕ) → length bytes ≡ n → All (λ b. b ≡ byte) bytes → bytes ≡ replicate n byte
filled n byte bytes long all = let same = length-replicate n byte in
    ext_get_or 0 bytes (replicate n byte) (long ∙ sym same) (λ i within. all i 0 within ∙ sym (get_or-replicate n i byte 0 (omega arith)))

pub returns : goal.returns
returns c = let decides = slice_eq-Decides Decides-eqb _ _ _ c.eq.ensures in (
  λ told. let same : c.args.bytes.now ≡ replicate 512 c.args.byte = decides.0 told in subst (λ (bytes : List ℕ). All (λ b. b ≡ c.args.byte) bytes) (sym same) (All-replicate (λ b. b ≡ c.args.byte) 512 c.args.byte refl),
  λ all. decides.1 (filled 512 c.args.byte c.args.bytes.now c.told-bytes all),
)
