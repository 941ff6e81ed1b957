-- The steps of a history that takes over the entries of another.
use Rattle.std.proofs.Common.{◌≡◌, ℕ, zero, suc, ◌+◌, ◌≤◌, List, [], ◌∷◌, ◌++◌, Some, length, take, refl, ap, sym, ◌∙◌, subst, arith}
use Rattle.std.specs.Prelude.{slice_get, map}
use Rattle.std.proofs.lemmas.List.{append-nil, append_assoc, take_at, map_push}
use Rattle.std.proofs.lemmas.List.Sums.{sum_by-append, sum_by-take-le}
use Rattle.vd_law.proofs.Going.{take_one_more}
use Rattle.vd_law.specs.Entries.{Read, Write, Flush, Entry, Ask, Issue, Done, Broke, Seen, Reply, past}
use Rattle.vd_law.specs.Calls.{last_call}
use Rattle.vd_law.specs.Logs.{content_of}
use Rattle.vd_law.specs.Histories.{IsRising, last_number}
use Rattle.vd_law.specs.Joining.{raised_entry, sectors_told}
use Rattle.vd_law.proofs.Numbers.{last_number-push}

pub count_before : (old more es : List Entry) (before pass' pass by : ℕ) → by ≡ last_call (past (take before es)) pass' → es ≡ old ++ more → before ≡ length old → pass' ≡ pass → by ≡ last_call (past old) pass
count_before old more es before pass' pass by by_is es_is before_is pass_is =
    by_is
    ∙ ap (λ (xs : List Entry). last_call (past (take before xs)) pass') es_is
    ∙ ap (λ (n : ℕ). last_call (past (take n (old ++ more))) pass') before_is
    ∙ ap (λ (xs : List Entry). last_call (past xs) pass') (take_at old more (length old) refl)
    ∙ ap (last_call (past old)) pass_is

pub content-raised : (calls : ℕ → ℕ) (e : Entry) → content_of (raised_entry calls e) ≡ content_of e
content-raised calls (Ask id (Read first count)) = refl
content-raised calls (Ask id (Write first content)) = refl
content-raised calls (Ask id Flush) = refl
content-raised calls (Issue id first content) = refl
content-raised calls (Done id) = refl
content-raised calls (Broke id) = refl
content-raised calls (Seen id first content) = refl
content-raised calls (Reply id answer) = refl

pub sectors_more : (es : List Entry) (i : ℕ) (e : Entry) → slice_get es i ≡ Some e → sectors_told (take (i + 1) es) ≡ sectors_told (take i es) + length (content_of e)
sectors_more es i e at = ap sectors_told (take_one_more es i e at) ∙ sum_by-append (λ (e : Entry). length (content_of e)) (take i es) (e ∷ []) ∙ omega arith

pub sectors-le : (es : List Entry) (i : ℕ) → sectors_told (take i es) ≤ sectors_told es
sectors-le es i = sum_by-take-le (λ (e : Entry). length (content_of e)) es i

pub later-more : (d from : ℕ) (xs ns : List ℕ) (i n : ℕ) → last_number d xs ≤ from → IsRising from ns → slice_get ns i ≡ Some n → last_number d (xs ++ take i ns) ≤ n
later-more d from xs [] i n below rising at = cc
later-more d from xs (m ∷ ns) zero n below rising at =
    let same : m ≡ n = cc in let shown : last_number d (xs ++ []) ≡ last_number d xs = ap (last_number d) (append-nil xs) in omega (arith, same, shown, below, rising.0)
later-more d from xs (m ∷ ns) (suc i) n below rising at =
    subst (λ (ys : List ℕ). last_number d ys ≤ n) (append_assoc xs (m ∷ []) (take i ns))
    (later-more d m (xs ++ m ∷ []) ns i n (let last = last_number-push d xs m in omega (arith, last)) rising.1 at)

pub entries_more : (calls : ℕ → ℕ) (old next es new : List Entry) (i : ℕ) (e entry : Entry) → slice_get next i ≡ Some e → entry ≡ raised_entry calls e → es ≡ old ++ map (raised_entry calls) (take i next) → new ≡ es ++ entry ∷ [] → new ≡ old ++ map (raised_entry calls) (take (i + 1) next)
entries_more calls old next es new i e entry at is before now =
    now
    ∙ ap (λ (x : Entry). es ++ x ∷ []) is
    ∙ ap (λ (xs : List Entry). xs ++ raised_entry calls e ∷ []) before
    ∙ append_assoc old (map (raised_entry calls) (take i next)) (raised_entry calls e ∷ [])
    ∙ ap (λ (xs : List Entry). old ++ xs) (sym (map_push (raised_entry calls) (take i next) e))
    ∙ ap (λ (xs : List Entry). old ++ map (raised_entry calls) xs) (sym (take_one_more next i e at))

pub numbers_more : (old next ns new : List ℕ) (i n : ℕ) → slice_get next i ≡ Some n → ns ≡ old ++ take i next → new ≡ ns ++ n ∷ [] → new ≡ old ++ take (i + 1) next
numbers_more old next ns new i n at before now =
    now
    ∙ ap (λ (xs : List ℕ). xs ++ n ∷ []) before
    ∙ append_assoc old (take i next) (n ∷ [])
    ∙ ap (λ (xs : List ℕ). old ++ xs) (sym (take_one_more next i n at))
