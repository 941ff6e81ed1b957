-- The background of a run of sectors, in two parts: what is read of the base, and zeros.
use Rattle.std.proofs.Common.{ℕ, suc, ◌≡◌, ◌+◌, ◌-◌, ◌<◌, ◌≤◌, inl, inr, min, Bool, List, ◌++◌, length, Some, ap, sym, ◌∙◌, arith, length-append, replicate, get_or}
use Rattle.std.proofs.lemmas.List.{length-replicate, get_or_past}
use Rattle.std.specs.Prelude.{slice_get, if◌then◌else◌}
use Rattle.std.proofs.lemmas.Option.{slice_get_past, slice_get-get_or, get_or_from_slice_get}
use Rattle.std.proofs.lemmas.List.FromFn.{length-map-range_with_len}
use Rattle.std.proofs.lemmas.Bool.Decides.{leb_tells}
use Rattle.vd_law.specs.declared.entry.Sector.{Sector}
use Rattle.vd_law.specs.Contents.{sector_in}
use Rattle.vd_lists.proofs.Lists.{same_list}
use Rattle.vd_law.proofs.Sectors.{sector_in-at}
use Rattle.vd_format.specs.Background.{zero_sector, base_at, background_of, background_run}
use Rattle.vd_lists.proofs.Places.{slice_get_front, slice_get_back, slice_get_replicate, slice_get_run}

-- what the front has from sector `first` on, the base has there
abbrev IsIn : (first : ℕ) (front content : List Sector) → Type 0
IsIn first front content = (s : ℕ) (v : Sector) → sector_in first front s ≡ Some v → slice_get content s ≡ Some v

below : (content : List Sector) (tracked s : ℕ) (v : Sector) → s < tracked → slice_get content s ≡ Some v → background_of content tracked s ≡ v
below content tracked s v h at = elim (leb_tells (suc s) tracked) [
  | inl yes' ↦ ap (λ (b : Bool). if b then base_at zero_sector content s else zero_sector) yes'.0 ∙ get_or_from_slice_get content s v zero_sector at
  | inr no' ↦ absurd (omega arith)
]

above : (content : List Sector) (tracked s : ℕ) → min (length content) tracked ≤ s → background_of content tracked s ≡ zero_sector
above content tracked s h = elim (leb_tells (suc s) tracked) [
  | inl yes' ↦ ap (λ (b : Bool). if b then base_at zero_sector content s else zero_sector) yes'.0 ∙ get_or_past content s zero_sector (omega arith)
  | inr no' ↦ ap (λ (b : Bool). if b then base_at zero_sector content s else zero_sector) no'.0
]

-- sector `first + i` of the background, by the two parts
part : (content front : List Sector) (tracked first n i : ℕ) → length front ≡ min (min (length content) tracked - first) n → (0 < length front → IsIn first front content) → i < n
    → slice_get (front ++ replicate (n - length front) zero_sector) i ≡ Some (background_of content tracked (first + i))
part content front tracked first n i size held h = elim (leb_tells (suc i) (length front)) [
  | inl here ↦ (let near : i < length front = omega arith in
      let v = get_or front i zero_sector in
      let at : slice_get front i ≡ Some v = slice_get-get_or front i zero_sector near in
      slice_get_front front _ i near ∙ at ∙ ap Some (sym (below content tracked (first + i) v (omega arith) (held (omega arith) (first + i) v (sector_in-at first i front ∙ at)))))
  | inr past ↦ (let far : length front ≤ i = omega arith in
      slice_get_back front _ i far ∙ slice_get_replicate (n - length front) zero_sector (i - length front) (omega arith)
      ∙ ap Some (sym (above content tracked (first + i) (omega arith))))
]

-- what was read of the base, and zeros from there on
pub two_parts : (content front : List Sector) (tracked first n : ℕ) → length front ≡ min (min (length content) tracked - first) n → (0 < length front → IsIn first front content)
    → front ++ replicate (n - length front) zero_sector ≡ background_run content tracked first n
unfolding background_run
two_parts content front tracked first n size held =
    let zeros : length (replicate (n - length front) zero_sector) ≡ n - length front = length-replicate (n - length front) zero_sector in
    same_list _ _ (length-append front (replicate (n - length front) zero_sector) ∙ omega (arith, zeros, length-map-range_with_len (background_of content tracked) first n)) (λ i. elim (leb_tells (suc i) n) [
      | inl within ↦ part content front tracked first n i size held (omega arith) ∙ sym (slice_get_run (background_of content tracked) first n i (omega arith))
      | inr past ↦ slice_get_past _ i (omega (arith, zeros, length-append front (replicate (n - length front) zero_sector))) ∙ sym (slice_get_past _ i (omega (arith, length-map-range_with_len (background_of content tracked) first n)))
    ])

-- the same, where the zeros are known by their number
pub read_parts : (content front rest : List Sector) (tracked first n back : ℕ) → rest ≡ replicate back zero_sector → back + length front ≡ n
    → length front ≡ min (min (length content) tracked - first) n → (0 < length front → IsIn first front content) → front ++ rest ≡ background_run content tracked first n
read_parts content front rest tracked first n back zeros many size held =
    ap (λ (r : List Sector). front ++ r) (zeros ∙ ap (λ (k : ℕ). replicate k zero_sector) (omega arith)) ∙ two_parts content front tracked first n size held

-- a sector whose bytes are zeros is the sector of zeros
pub filled_zero : (x : Sector) → x.bytes ≡ replicate 512 0 → x ≡ zero_sector
unfolding zero_sector
filled_zero x e = let f : List ℕ → Sector = λ b. record { bytes = b } in ap f e
