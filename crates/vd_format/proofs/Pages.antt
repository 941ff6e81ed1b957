-- A sector of the map has each of its entries in its place.
use Rattle.std.proofs.Common.{◌≡◌, ℕ, zero, suc, ◌+◌, ◌-◌, ◌*◌, List, [], ◌∷◌, ◌++◌, length, take, drop, replicate, Option, Some, refl, sym, ap, ◌∙◌, append_assoc, arith}
use Rattle.std.specs.Prelude.{slice_get}
use Rattle.std.specs.List.{flat_map}
use Rattle.std.proofs.lemmas.List.{drop-drop, drop_at, take_at, length-append}
use Rattle.std.proofs.lemmas.List.Concat.{flat_map-cons}
use Rattle.vd_format.specs.declared.map.Entry.{Entry}
use Rattle.vd_format.specs.Entries.{entry_bytes, page_bytes}
use Rattle.vd_format.proofs.Entries.{length-entry_bytes}

first_entry : (e : Entry) (es : List Entry) (rest : List ℕ) → flat_map entry_bytes (e ∷ es) ++ rest ≡ entry_bytes e ++ (flat_map entry_bytes es ++ rest)
first_entry e es rest = ap (λ (bytes : List ℕ). bytes ++ rest) (flat_map-cons entry_bytes e es) ∙ append_assoc (entry_bytes e) (flat_map entry_bytes es) rest

abbrev some_entry : Entry → Option Entry
some_entry e = Some e

some_is : (a b : Entry) → some_entry a ≡ some_entry b → a ≡ b
some_is a b told = cc

entries-at : (es : List Entry) (rest : List ℕ) (place : ℕ) (e : Entry) → slice_get es place ≡ Some e → take 16 (drop (16 * place) (flat_map entry_bytes es ++ rest)) ≡ entry_bytes e
entries-at [] rest place e at = absurd cc
entries-at (f ∷ es) rest zero e at =
    let same : f ≡ e = some_is f e at in
    ap (take 16) (first_entry f es rest) ∙ take_at (entry_bytes f) (flat_map entry_bytes es ++ rest) 16 (length-entry_bytes f) ∙ ap entry_bytes same
entries-at (f ∷ es) rest (suc place) e at =
    let more : 16 * suc place ≡ 16 + 16 * place = omega arith in
    let later : drop (16 * suc place) (flat_map entry_bytes (f ∷ es) ++ rest) ≡ drop (16 * place) (flat_map entry_bytes es ++ rest) =
    ap (λ (k : ℕ). drop k (flat_map entry_bytes (f ∷ es) ++ rest)) more ∙ sym (drop-drop (16 * place) 16 (flat_map entry_bytes (f ∷ es) ++ rest))
    ∙ ap (λ (bytes : List ℕ). drop (16 * place) (drop 16 bytes)) (first_entry f es rest) ∙ ap (drop (16 * place)) (drop_at (entry_bytes f) (flat_map entry_bytes es ++ rest) 16 (length-entry_bytes f)) in
    ap (take 16) later ∙ entries-at es rest place e at

pub page-at : (es : List Entry) (place : ℕ) (e : Entry) → slice_get es place ≡ Some e → take 16 (drop (16 * place) (page_bytes es)) ≡ entry_bytes e
unfolding page_bytes
page-at es place e at = entries-at es (replicate (512 - 16 * length es) 0) place e at

pub length-entries_bytes : (es : List Entry) → length (flat_map entry_bytes es) ≡ 16 * length es
length-entries_bytes [] = refl
length-entries_bytes (e ∷ es) =
    let bytes = length-append (entry_bytes e) (flat_map entry_bytes es) in
    ap length (flat_map-cons entry_bytes e es) ∙ omega (arith, bytes, length-entry_bytes e, length-entries_bytes es)
