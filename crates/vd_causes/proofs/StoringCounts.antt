-- Which chunks are counted as having storage, and why each Full was given, after further entries of the history.
use Rattle.std.proofs.Common.{◌≡◌, ℕ, zero, suc, ◌+◌, ◌<◌, ◌≤◌, Bool, false, not, ◌&&◌, ◌||◌, List, [], ◌∷◌, ◌++◌, length, take, refl, sym, subst, ◌∙◌, ap, inl, inr, arith, length-append, Some, slice_get}
use Rattle.std.specs.List.{AllByRecursion, list_any}
use Rattle.std.proofs.Math.Path.{fun_ext}
use Rattle.std.proofs.Math.Bool.{or-false}
use Rattle.std.proofs.lemmas.Bool.{cases_lt}
use Rattle.std.proofs.lemmas.List.{take-append-le}
use Rattle.std.proofs.lemmas.List.Folds.{list_any-append}
use Rattle.std.proofs.lemmas.Option.{slice_get_within}
use Rattle.vd_law.specs.declared.entry.Sector.{Sector}
use Rattle.vd_law.specs.declared.entry.CallId.{CallId}
use Rattle.vd_law.specs.declared.entry.Answer.TheVariants.{Full}
use Rattle.vd_format.specs.declared.map.Entry.{Entry as MapEntry}
use Rattle.vd_law.specs.Entries.{Asked, Write, Entry, Ask, Reply}
use Rattle.vd_passes.specs.declared.shape.Shape.{Shape}
use Rattle.vd_passes.proofs.Lists.{some-inj}
use Rattle.vd_passes.proofs.Answered.{IsOfAnother}
use Rattle.vd_causes.specs.Storing.{touches, is_full_to, is_answered_full, counts_for, gives_storage, is_counted, IsFullCaused, AreFullsCaused}

-- Members of two lists in a row.
pub get-left : {X : Type 0} (xs ys : List X) (k : ℕ) → k < length xs → slice_get (xs ++ ys) k ≡ slice_get xs k
get-left [] ys k within = absurd (omega arith)
get-left (x ∷ xs) ys zero within = refl
get-left (x ∷ xs) ys (suc k) within = get-left xs ys k (omega arith)

pub get-right : {X : Type 0} (xs ys : List X) (n k : ℕ) → n ≡ length xs + k → slice_get (xs ++ ys) n ≡ slice_get ys k
get-right [] ys n k same = let e : n ≡ k = omega arith in ap (slice_get ys) e
get-right (x ∷ xs) ys zero k same = absurd (omega arith)
get-right (x ∷ xs) ys (suc n) k same = get-right xs ys n k (omega arith)

all-take : {X : Type 0} (P : X → Type 0) (n : ℕ) (xs : List X) → AllByRecursion P xs → AllByRecursion P (take n xs)
all-take P zero xs all = tt
all-take P (suc n) [] all = tt
all-take P (suc n) (x ∷ xs) all = (all.0, all-take P n xs all.1)

-- Which calls are answered Full, after further entries.

pub full-more : (old more : List Entry) (id : CallId) → is_answered_full (old ++ more) id ≡ (is_answered_full old id || is_answered_full more id)
full-more old more id = list_any-append (is_full_to id) old more

full-of-another : (id : CallId) (e : Entry) → IsOfAnother id e → is_full_to id e ≡ false
full-of-another id (Reply other (Full needed free)) another = another
full-of-another id e another = refl

pub none-full : (id : CallId) (xs : List Entry) → AllByRecursion (IsOfAnother id) xs → is_answered_full xs id ≡ false
none-full id [] all = refl
none-full id (e ∷ xs) all = ap (λ (b : Bool). b || is_answered_full xs id) (full-of-another id e all.0) ∙ none-full id xs all.1

-- the call that the entry asks is answered Full by both histories, or by none
abbrev pub SameFull : (old new : List Entry) → Entry → Type 0
SameFull old new (Ask id request) = is_answered_full new id ≡ is_answered_full old id
SameFull old new e = Unit {0}

pub full-same : (old more : List Entry) (id : CallId) → is_answered_full more id ≡ false → is_answered_full (old ++ more) id ≡ is_answered_full old id
full-same old more id none = full-more old more id ∙ ap (λ (b : Bool). is_answered_full old id || b) none ∙ or-false (is_answered_full old id)

same-where-none : (old more : List Entry) → ((id : CallId) → is_answered_full more id ≡ false) → (e : Entry) → SameFull old (old ++ more) e
same-where-none old more none (Ask id request) = full-same old more id (none id)
same-where-none old more none e = tt

pub all-where-none : (old more : List Entry) → ((id : CallId) → is_answered_full more id ≡ false) → (xs : List Entry) → AllByRecursion (SameFull old (old ++ more)) xs
all-where-none old more none [] = tt
all-where-none old more none (e ∷ xs) = (same-where-none old more none e, all-where-none old more none xs)

-- Which chunks are counted.

-- a write among those asked that isn't answered Full touches the chunk
abbrev pub is_touched : Shape → (history asked : List Entry) → (chunk : ℕ) → Bool
is_touched shape history asked chunk = list_any (counts_for shape history chunk) asked

pub counted-is : (shape : Shape) (had : List MapEntry) (history xs : List Entry) (chunk : ℕ) → is_counted shape had history xs chunk ≡ (gives_storage (slice_get had chunk) || is_touched shape history xs chunk)
unfolding is_counted
counted-is shape had history xs chunk = refl

counts-same : (shape : Shape) (old new : List Entry) (chunk : ℕ) (e : Entry) → SameFull old new e → counts_for shape new chunk e ≡ counts_for shape old chunk e
counts-same shape old new chunk (Ask id request) same = ap (λ (b : Bool). touches shape request chunk && not b) same
counts-same shape old new chunk e same = refl

pub touched-same : (shape : Shape) (old new xs : List Entry) (chunk : ℕ) → AllByRecursion (SameFull old new) xs → is_touched shape new xs chunk ≡ is_touched shape old xs chunk
touched-same shape old new [] chunk all = refl
touched-same shape old new (e ∷ xs) chunk all =
    ap (λ (b : Bool). b || list_any (counts_for shape new chunk) xs) (counts-same shape old new chunk e all.0)
    ∙ ap (λ (b : Bool). counts_for shape old chunk e || b) (touched-same shape old new xs chunk all.1)

pub touched-more : (shape : Shape) (history xs ys : List Entry) (chunk : ℕ) → is_touched shape history (xs ++ ys) chunk ≡ (is_touched shape history xs chunk || is_touched shape history ys chunk)
touched-more shape history xs ys chunk = list_any-append (counts_for shape history chunk) xs ys

pub counted-same : (shape : Shape) (had : List MapEntry) (old new xs : List Entry) (chunk : ℕ) → AllByRecursion (SameFull old new) xs → is_counted shape had new xs chunk ≡ is_counted shape had old xs chunk
counted-same shape had old new xs chunk all =
    counted-is shape had new xs chunk ∙ ap (λ (b : Bool). gives_storage (slice_get had chunk) || b) (touched-same shape old new xs chunk all) ∙ sym (counted-is shape had old xs chunk)

-- Each Full that was caused is so after further entries, where the calls before it are answered Full as they were.

before-same : (shape : Shape) (had : List MapEntry) (old more : List Entry) → AllByRecursion (SameFull old (old ++ more)) old → (at : ℕ) → at ≤ length old → is_counted shape had (old ++ more) (take at (old ++ more)) ≡ is_counted shape had old (take at old)
before-same shape had old more same at within = fun_ext (λ chunk. ap (λ (xs : List Entry). is_counted shape had (old ++ more) xs chunk) (take-append-le at old more within)
    ∙ counted-same shape had old (old ++ more) (take at old) chunk (all-take (SameFull old (old ++ more)) at old same))

still-caused : {shape : Shape} (had : List MapEntry) {chunks storage at : ℕ} {request : Asked} {needed free : ℕ} (old more : List Entry) → AllByRecursion (SameFull old (old ++ more)) old → at ≤ length old
    → IsFullCaused shape (is_counted shape had old (take at old)) chunks storage request needed free → IsFullCaused shape (is_counted shape had (old ++ more) (take at (old ++ more))) chunks storage request needed free
still-caused {shape} had {chunks} {storage} {at} {request} {needed} {free} old more same within caused =
    subst (λ (f : ℕ → Bool). IsFullCaused shape f chunks storage request needed free) (sym (before-same shape had old more same at within)) caused

pub fulls-before : {shape : Shape} (had : List MapEntry) {chunks storage : ℕ} (old more : List Entry) → AllByRecursion (SameFull old (old ++ more)) old → AreFullsCaused shape had chunks storage old
    → (at : ℕ) (id : CallId) (needed free : ℕ) → at + 1 < length old → slice_get (old ++ more) (at + 1) ≡ Some (Reply id (Full needed free))
    → (first : ℕ) × (content : List Sector) × (slice_get (old ++ more) at ≡ Some (Ask id (Write first content))) × IsFullCaused shape (is_counted shape had (old ++ more) (take at (old ++ more))) chunks storage (Write first content) needed free
fulls-before had old more same fulls at id needed free within is =
    let h = fulls at id needed free (sym (get-left old more (at + 1) within) ∙ is) in
    (h.0, h.1, get-left old more at (omega arith) ∙ h.2, still-caused had old more same (omega arith) h.3)

pub fulls-one : {shape : Shape} (had : List MapEntry) {chunks storage : ℕ} (old : List Entry) (e : Entry) → AllByRecursion (SameFull old (old ++ e ∷ [])) old → ((id : CallId) (needed free : ℕ) → e ≡ Reply id (Full needed free) → ⊥)
    → AreFullsCaused shape had chunks storage old → AreFullsCaused shape had chunks storage (old ++ e ∷ [])
fulls-one had old e same none fulls at id needed free is = elim (cases_lt (at + 1) (length old)) [
  | inl within ↦ fulls-before had old (e ∷ []) same fulls at id needed free within is
  | inr past_it ↦ (let inside = slice_get_within (old ++ e ∷ []) (at + 1) (Reply id (Full needed free)) is in let long = length-append old (e ∷ []) in
      absurd (none id needed free (some-inj (sym (get-right old (e ∷ []) (at + 1) 0 (omega arith)) ∙ is))))
]
