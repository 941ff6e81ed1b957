-- A text that is written piece by piece, one for each element of a list.
use Rattle.std.proofs.Common.{◌≡◌, ℕ, ◌+◌, ◌<◌, List, [], ◌∷◌, ◌++◌, length, take, drop, get_or, sym, ◌∙◌, ap, append-nil, Result, Err}
use Rattle.std.proofs.lemmas.List.{take_more, take-append-drop}
use Rattle.std.proofs.lemmas.List.Concat.{flat_map-append}
use Rattle.std.specs.Prelude.{IsErr}
use Rattle.std.specs.List.{flat_map}
use Rattle.vd_io.specs.Streams.{WritesText}
use Rattle.vd_io.proofs.Composing.{writes-failed, writes-after}

-- the pieces of one more element
pub flat_map-take_more : {X : Type 0} (f : X → List ℕ) (xs : List X) (i : ℕ) (d : X) → i < length xs → flat_map f (take (i + 1) xs) ≡ flat_map f (take i xs) ++ f (get_or xs i d)
flat_map-take_more f xs i d inside =
    ap (flat_map f) (take_more xs i d inside) ∙ flat_map-append f (take i xs) (get_or xs i d ∷ []) ∙ ap (λ (t : List ℕ). flat_map f (take i xs) ++ t) (append-nil (f (get_or xs i d)))

-- the pieces of the first elements, and then those of the others
pub flat_map-take-drop : {X : Type 0} (f : X → List ℕ) (xs : List X) (i : ℕ) → flat_map f xs ≡ flat_map f (take i xs) ++ flat_map f (drop i xs)
flat_map-take-drop f xs i = ap (flat_map f) (sym (take-append-drop i xs)) ∙ flat_map-append f (take i xs) (drop i xs)

-- where the piece of one element failed after those before it, the text of all fails
pub pieces-failed : {X E : Type 0} (f : X → List ℕ) (xs : List X) (i : ℕ) (d : X) {result : Result (Unit {0}) E} {e : E} {before between after : List ℕ} →
    i < length xs → IsErr result → between ≡ before ++ flat_map f (take i xs) → WritesText (f (get_or xs i d)) (Err e) between after → WritesText (flat_map f xs) result before after
pieces-failed f xs i d inside failed wrote part =
    rw (flat_map-take-drop f xs (i + 1), flat_map-take_more f xs i d inside) (writes-failed _ failed (writes-after _ wrote part))
