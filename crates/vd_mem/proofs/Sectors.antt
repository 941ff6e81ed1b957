-- Sectors with a content written over them.
use Rattle.std.proofs.Common.{◌≡◌, ℕ, ◌+◌, ◌-◌, ◌<◌, ◌≤◌, ◌⊎◌, inl, inr, Bool, List, ◌++◌, Some, None, length, take, drop, ap, sym, ◌∙◌, arith, length-append, length-drop}
use Rattle.std.specs.Prelude.{slice_get, slice_range, if◌then◌else◌}
use Rattle.std.proofs.lemmas.Bool.Decides.{leb_tells}
use Rattle.std.proofs.lemmas.List.{length-take}
use Rattle.std.proofs.lemmas.Option.{slice_get_cases, slice_get_within}
use Rattle.vd_lists.proofs.Places.{slice_get_front, slice_get_back, slice_get_take, slice_get_drop}
use Rattle.vd_law.specs.declared.entry.Sector.{Sector}
use Rattle.vd_law.specs.Contents.{sector_in}
use Rattle.vd_law.proofs.Sectors.{sector_in-place}
use Rattle.vd_mem.specs.StoreState.{over_at}

-- a content has a sector exactly in its range
pub sector-range : (first : ℕ) (content : List Sector) (s : ℕ) (v : Sector) → sector_in first content s ≡ Some v → (first ≤ s) × (s < first + length content)
sector-range first content s v at =
    let place = sector_in-place first content s v at in let inside = slice_get_within content (s - first) v place.1 in
    (place.0, omega (arith, place.0, inside))

pub sector-none : (first : ℕ) (content : List Sector) (s : ℕ) → sector_in first content s ≡ None → (s < first) ⊎ (first + length content ≤ s)
sector-none first content s none =
    elim (leb_tells first s) [
      | inl inside ↦ let past : slice_get content (s - first) ≡ None = ap (λ (b : Bool). if b then slice_get content (s - first) else None) (sym inside.0) ∙ none in
          elim (slice_get_cases content (s - first)).1 [
            | inl some ↦ absurd (let e = sym past ∙ some.2 in cc)
            | inr beyond ↦ inr (omega (arith, beyond.0, inside.1))
          ]
      | inr before ↦ inl before.1
    ]

took : (held : List Sector) (first : ℕ) → first ≤ length held → length (take first held) ≡ first
took held first fits = omega (arith, length-take {A = Sector} first held)

pub over-at : (first : ℕ) (content held : List Sector) (s : ℕ) (v : Sector) → first ≤ length held → sector_in first content s ≡ Some v → slice_get (over_at first content held) s ≡ Some v
over-at first content held s v fits at =
    let range = sector-range first content s v at in let front = took held first fits in
    slice_get_back (take first held) _ s (omega (arith, range.0))
    ∙ slice_get_front content _ (s - length (take first held)) (omega (arith, range.0, range.1))
    ∙ (let e : s - length (take first held) ≡ s - first = omega arith in ap (slice_get content) e)
    ∙ (sector_in-place first content s v at).1

pub over-off : (first : ℕ) (content held : List Sector) (s : ℕ) → first + length content ≤ length held → sector_in first content s ≡ None → slice_get (over_at first content held) s ≡ slice_get held s
over-off first content held s fits none =
    let front = took held first (omega arith) in
    elim (sector-none first content s none) [
      | inl before ↦ slice_get_front (take first held) _ s (omega arith) ∙ slice_get_take first held s before
      | inr beyond ↦ slice_get_back (take first held) _ s (omega arith)
          ∙ slice_get_back content _ (s - length (take first held)) (omega arith)
          ∙ slice_get_drop (length content) (drop first held) (s - length (take first held) - length content)
          ∙ slice_get_drop first held (length content + (s - length (take first held) - length content))
          ∙ (let e : first + (length content + (s - length (take first held) - length content)) ≡ s = omega arith in ap (slice_get held) e)
    ]

pub over-length : (first : ℕ) (content held : List Sector) → first + length content ≤ length held → length (over_at first content held) ≡ length held
over-length first content held fits =
    let front = took held first (omega arith) in
    omega (arith, length-append (take first held) (content ++ drop (length content) (drop first held)), length-append content (drop (length content) (drop first held)), length-drop {A = Sector} (length content) (drop first held), length-drop {A = Sector} first held)

-- what was read of the sectors from `first` on stands there
pub range-held : (first count : ℕ) (held : List Sector) (s : ℕ) (v : Sector) → sector_in first (slice_range held first (first + count)) s ≡ Some v → slice_get held s ≡ Some v
range-held first count held s v at =
    let place = sector_in-place first (slice_range held first (first + count)) s v at in
    let size : (first + count) - first ≡ count = omega arith in
    let inside = slice_get_within (take ((first + count) - first) (drop first held)) (s - first) v place.1 in
    let below : s - first < count = omega (arith, inside, length-take {A = Sector} ((first + count) - first) (drop first held)) in
    let back : first + (s - first) ≡ s = omega (arith, place.0) in
    sym (ap (slice_get held) back) ∙ sym (slice_get_drop first held (s - first)) ∙ sym (slice_get_take ((first + count) - first) (drop first held) (s - first) (omega (arith, below))) ∙ place.1
