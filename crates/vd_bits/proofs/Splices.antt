-- A list with one of its elements read, or written, as a mask.
use Rattle.std.proofs.Common.{◌≡◌, ℕ, suc, ◌+◌, ◌<◌, Bool, true, false, eqb, List, [], ◌∷◌, ◌++◌, length, get_or, set, take, drop, Some, sym, refl, ap, ◌∙◌, add-one}
use Rattle.std.specs.List.{slice_get}
use Rattle.std.proofs.Math.Seq.{drop-cons}
use Rattle.std.proofs.lemmas.List.{set_split, append_assoc}
use Rattle.std.proofs.lemmas.Option.{slice_get-get_or}
use mir.Val.{bool_byte}
use Rattle.vd_bits.specs.Masks.{mask_of, bits_of}

bit_of_one : (b : Bool) → eqb (mask_of (b ∷ [])) 1 ≡ b
bit_of_one true = refl
bit_of_one false = refl

pub bit_there : (s : List Bool) (at m : ℕ) → at < length s → m ≡ mask_of (take 1 (drop at s)) → slice_get s at ≡ Some (eqb m 1)
bit_there s at m h e =
    let d = drop-cons s at false h in
    slice_get-get_or s at false h ∙ ap (λ b. Some b) (sym (rw e (rw d (bit_of_one (get_or s at false)))))

one_bit : (up : Bool) → bits_of 1 (bool_byte up) ≡ up ∷ []
one_bit true = refl
one_bit false = refl

pub one_spliced : (s : List Bool) (at : ℕ) (up : Bool) → at < length s → take at s ++ bits_of 1 (bool_byte up) ++ drop (at + 1) s ≡ set s at up
one_spliced s at up h = rw (one_bit up, add-one) (append_assoc (take at s) (up ∷ []) (drop (suc at) s) ∙ sym (set_split s at up h))
