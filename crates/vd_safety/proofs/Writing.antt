-- What a store is given for a piece of a guest's write, as the laws of crash safety want it.
use Rattle.std.proofs.Common.{sym, Bool, false, ◌≡◌, ℕ, zero, suc, ◌+◌, ◌-◌, ◌*◌, ◌%◌, ◌<◌, ◌≤◌, ◌⊎◌, List, [], ◌∷◌, ◌++◌, length, take, drop, refl, ◌∙◌, ap, inl, inr, arith, Some, slice_get, length-drop, length-append}
use Rattle.std.proofs.lemmas.List.{length-take-le}
use Rattle.std.proofs.lemmas.Option.{slice_get_within, slice_get_cases}
use Rattle.vd_law.specs.declared.entry.Sector.{Sector}
use Rattle.vd_law.specs.declared.entry.CallId.{CallId}
use Rattle.vd_law.specs.Entries.{Issue}
use Rattle.vd_format.specs.declared.header.Header.{Header}
use Rattle.vd_format.specs.Layouts.{storage_start}
use Rattle.vd_image.specs.Layouts.{layout_of}
use Rattle.vd_crash.specs.facts.Safe.{Opening}
use Rattle.vd_crash.specs.facts.Words.{IsSameWrite, IsWholeWrite}
use Rattle.std.specs.Prelude.{if◌then◌else◌}
use Rattle.vd_passes.specs.Laying.{content_with_part}
use Rattle.vd_passes.specs.Places.{IsIn}
use Rattle.vd_safety.proofs.Places.{in-block, of-block, place-is}
use Rattle.vd_crash.specs.facts.Memory.{Discards}

get-append : {X : Type 0} (xs ys : List X) (k : ℕ) (c : X) → slice_get (xs ++ ys) k ≡ Some c → ((k < length xs) × (slice_get xs k ≡ Some c)) ⊎ ((length xs ≤ k) × (slice_get ys (k - length xs) ≡ Some c))
get-append [] ys k c h = inr (omega arith, (let e : k - 0 ≡ k = omega arith in rw e h))
get-append (x ∷ xs) ys zero c h = inl (omega arith, h)
get-append (x ∷ xs) ys (suc k) c h = elim (get-append xs ys k c h) [
  | inl a ↦ inl ((let b = a.0 in omega arith), a.1)
  | inr a ↦ inr ((let b = a.0 in omega arith), (let e : suc k - suc (length xs) ≡ k - length xs = omega arith in rw e a.1))
]

get-take : {X : Type 0} (xs : List X) (n k : ℕ) (c : X) → slice_get (take n xs) k ≡ Some c → slice_get xs k ≡ Some c
get-take [] zero k c h = h
get-take [] (suc n) k c h = h
get-take (x ∷ xs) zero k c h = cc
get-take (x ∷ xs) (suc n) zero c h = h
get-take (x ∷ xs) (suc n) (suc k) c h = get-take xs n k c h

get-drop : {X : Type 0} (xs : List X) (n k m : ℕ) (c : X) → m ≡ n + k → slice_get (drop n xs) k ≡ Some c → slice_get xs m ≡ Some c
get-drop [] zero k m c e h = cc
get-drop [] (suc n) k m c e h = cc
get-drop (x ∷ xs) zero k m c e h = let f : m ≡ k = omega arith in rw f h
get-drop (x ∷ xs) (suc n) k zero c e h = absurd (omega arith)
get-drop (x ∷ xs) (suc n) k (suc m) c e h = get-drop xs n k m c (omega arith) h

length-front : (k : ℕ) (part content : List Sector) → k ≤ length content → length (take k content ++ part) ≡ k + length part
length-front k part content fits =
    let a : length (take k content) ≡ k = length-take-le k content fits in
    let b : length (take k content ++ part) ≡ length (take k content) + length part = length-append (take k content) part in
    omega arith

-- a content of which a part is another is as long as it was
pub length-laid : (k : ℕ) (part content : List Sector) → k + length part ≤ length content → length (content_with_part k part content) ≡ length content
length-laid k part content fits =
    let a = length-front k part content (omega arith) in
    let b : length (drop (k + length part) content) ≡ length content - (k + length part) = length-drop (k + length part) content in
    let c : length (content_with_part k part content) ≡ length (take k content ++ part) + length (drop (k + length part) content) = length-append (take k content ++ part) (drop (k + length part) content) in
    omega arith

-- A sector of a block that is written whole: the guest's, where the piece, which begins at place k of the block, has it; or the other.
abbrev pub Comes : (k : ℕ) (part : List Sector) (other : ℕ → Sector → Type 0) (n : ℕ) (v : Sector) → Type 0
Comes k part other n v = ((k ≤ n) × (slice_get part (n - k) ≡ Some v)) ⊎ (((n < k) ⊎ (k + length part ≤ n)) × other n v)

pub comes-laid : (k : ℕ) (part content : List Sector) → k + length part ≤ length content → (n : ℕ) (v : Sector) → slice_get (content_with_part k part content) n ≡ Some v → Comes k part (λ m u. slice_get content m ≡ Some u) n v
comes-laid k part content fits n v h =
    let t : length (take k content) ≡ k = length-take-le k content (omega arith) in
    let u = length-front k part content (omega arith) in
    elim (get-append (take k content ++ part) (drop (k + length part) content) n v h) [
      | inl a ↦ elim (get-append (take k content) part n v a.1) [
        | inl d ↦ inr (inl (let x = d.0 in omega arith), get-take content k n v d.1)
        | inr d ↦ inl ((let x = d.0 in omega arith), (let e : n - k ≡ n - length (take k content) = omega arith in rw e d.1))
      ]
      | inr a ↦ inr (
        inr (let x = a.0 in omega arith),
        get-drop content (k + length part) (n - length (take k content ++ part)) n v (let x = a.0 in omega arith) a.1,
      )
    ]

-- a member of a list that is long enough
member : (xs : List Sector) (n : ℕ) → n < length xs → (v : Sector) × (slice_get xs n ≡ Some v)
member xs n within = elim (slice_get_cases xs n).1 [ inl has ↦ (has.0, has.2) | inr past ↦ absurd (omega (arith, past.0)) ]

-- The piece of a call in block b, whose place begins at sector `at` of the store, in storage chunk p.
module _ (h : Header) (o : Opening) (is : o.layout ≡ layout_of h) (some : 0 < h.block) (some_chunk : 0 < h.chunk) (b p first at : ℕ) (part : List Sector) (id ticket : CallId)
    (from : h.block * b ≤ first) (to : first + length part ≤ h.block * b + h.block) (place : at ≡ storage_start h + (p * h.chunk + b % h.chunk) * h.block) where
  in-piece : (offset : ℕ) (v : Sector) → slice_get part offset ≡ Some v → IsIn h.block b (first + offset)
  in-piece offset v has = let w = slice_get_within part offset v has in (omega arith, omega arith)

  -- it is written to its own place
  pub same-write : (start : ℕ) → start + h.block * b ≡ at + first → IsSameWrite o (Issue id first part) (Issue ticket start part) b p
  same-write start begins = record {
    forward = λ s v covers.
        let inside : IsIn h.block b s = rw covers.1 (in-piece covers.0 v covers.2) in
        let e = place-is h o.layout is p b s some_chunk inside in
        (of-block h o.layout is b s some inside, (covers.0, (let f = covers.1 in omega arith), covers.2));
    back = λ t v covers.
        let inside = in-piece covers.0 v covers.2 in
        let e = place-is h o.layout is p b (first + covers.0) some_chunk inside in
        (first + covers.0, of-block h o.layout is b (first + covers.0) some inside, (let f = covers.1 in omega arith), (covers.0, refl, covers.2));
  }

  -- or with what the rest of its block held
  pub whole-write : (d : Discards) (k : ℕ) (stored : List Sector) → ((c : ℕ) → d.zeros c ≡ false) → first ≡ h.block * b + k → length stored ≡ h.block
      → ((n : ℕ) (v : Sector) → slice_get stored n ≡ Some v → Comes k part (λ m u. u ≡ o.disk (h.block * b + m)) n v) → IsWholeWrite o d (Issue id first part) (Issue ticket at stored) b p
  whole-write d k stored base begins long comes = record {
    guest_block = λ s v covers. of-block h o.layout is b s some (rw covers.1 (in-piece covers.0 v covers.2));
    whole = λ s in_b.
        let inside = in-block h o.layout is b s some in_b in
        let low = inside.0 in let high = inside.1 in
        let e = place-is h o.layout is p b s some_chunk inside in
        let has = member stored (s - h.block * b) (omega arith) in (
          has.0,
          (s - h.block * b, omega arith, has.1),
          elim (comes (s - h.block * b) has.0 has.1) [
            | inl own ↦ inl (s - h.block * b - k, (let f = own.0 in omega arith), own.1)
            | inr other ↦ inr (
              (let f : h.block * b + (s - h.block * b) ≡ s = omega arith in other.1 ∙ ap o.disk f ∙ sym (ap (λ (z : Bool). if z then o.zeros else o.disk s) (base (o.layout.chunk_of (o.layout.block_of s))))),
              λ u covers. let w = slice_get_within part covers.0 u covers.2 in let f = covers.1 in elim other.0 [ inl before ↦ absurd (omega arith) | inr past ↦ absurd (omega arith) ],
            )
          ],
        );
    back = λ t v covers.
        let w = slice_get_within stored covers.0 v covers.2 in
        let inside : IsIn h.block b (h.block * b + covers.0) = (omega arith, omega arith) in
        let e = place-is h o.layout is p b (h.block * b + covers.0) some_chunk inside in
        (h.block * b + covers.0, of-block h o.layout is b (h.block * b + covers.0) some inside, (let f = covers.1 in omega arith));
  }
