-- A history as the law keeps it, and as it is here.
use Rattle.std.proofs.Common.{ℕ, suc, ◌≡◌, ◌+◌, ◌<◌, inl, inr, cond, List, [], ◌∷◌, length, take, Bool, arith, refl, ap, sym, ◌∙◌}
use Rattle.std.specs.Prelude.{if◌then◌else◌, nat_le}
use Rattle.std.proofs.lemmas.Bool.Decides.{leb_tells}
use Rattle.std.proofs.lemmas.List.Sums.{sum_by-append}
use Rattle.vd_law.specs.Entries.{Entry}
use Rattle.vd_law.specs.Histories.{IsRising, count_up_to}
use Rattle.vd_crash.specs.facts.Safe.{events, events_up_to, numbered}

-- its entries
pub events_numbered : (entries : List Entry) (numbers : List ℕ) → length numbers ≡ length entries → events (numbered entries numbers) ≡ entries
events_numbered [] numbers same = refl
events_numbered (e ∷ entries) [] same = absurd (omega (arith, same))
events_numbered (e ∷ entries) (n ∷ numbers) same = ap (λ (l : List Entry). e ∷ l) (events_numbered entries numbers (omega (arith, same)))

count_cons : (n k : ℕ) (numbers : List ℕ) → count_up_to k (n ∷ numbers) ≡ (0 + cond (nat_le n k) 1 0) + count_up_to k numbers
count_cons n k numbers = let counted : ℕ → ℕ = λ m. cond (nat_le m k) 1 0 in sum_by-append counted (n ∷ []) numbers

-- none is numbered k at most where all are numbered higher
none_counted : (numbers : List ℕ) (from k : ℕ) → k < from → IsRising from numbers → count_up_to k numbers ≡ 0
none_counted [] from k less rising = refl
none_counted (n ∷ numbers) from k less rising = elim (leb_tells n k) [
  | inl inside ↦ absurd (omega (arith, inside.1, rising.0))
  | inr outside ↦ count_cons n k numbers ∙ ap (λ (b : Bool). (0 + cond b 1 0) + count_up_to k numbers) outside.0 ∙ (let rest = none_counted numbers n k outside.1 rising.1 in omega arith)
]

none_kept : (entries : List Entry) (numbers : List ℕ) (from k : ℕ) → k < from → IsRising from numbers → events_up_to (numbered entries numbers) k ≡ []
none_kept [] numbers from k less rising = refl
none_kept (e ∷ entries) [] from k less rising = refl
none_kept (e ∷ entries) (n ∷ numbers) from k less rising = elim (leb_tells n k) [
  | inl inside ↦ absurd (omega (arith, inside.1, rising.0))
  | inr outside ↦ ap (λ (b : Bool). if b then e ∷ events_up_to (numbered entries numbers) k else events_up_to (numbered entries numbers) k) outside.0 ∙ none_kept entries numbers n k outside.1 rising.1
]

-- The entries that are numbered k at most are the first so many, as the law says it.
pub up_to_first : (entries : List Entry) (numbers : List ℕ) (from k : ℕ) → IsRising from numbers → length numbers ≡ length entries → events_up_to (numbered entries numbers) k ≡ take (count_up_to k numbers) entries
up_to_first [] [] from k rising same = refl
up_to_first [] (n ∷ numbers) from k rising same = absurd (omega (arith, same))
up_to_first (e ∷ entries) [] from k rising same = absurd (omega (arith, same))
up_to_first (e ∷ entries) (n ∷ numbers) from k rising same = elim (leb_tells n k) [
  | inl inside ↦
      let rest = up_to_first entries numbers n k rising.1 (omega (arith, same)) in
      let count : suc (count_up_to k numbers) ≡ (0 + 1) + count_up_to k numbers = omega arith in
      ap (λ (b : Bool). if b then e ∷ events_up_to (numbered entries numbers) k else events_up_to (numbered entries numbers) k) inside.0
      ∙ ap (λ (l : List Entry). e ∷ l) rest
      ∙ ap (λ (c : ℕ). take c (e ∷ entries)) count
      ∙ ap (λ (b : Bool). take ((0 + cond b 1 0) + count_up_to k numbers) (e ∷ entries)) (sym inside.0)
      ∙ ap (λ (c : ℕ). take c (e ∷ entries)) (sym (count_cons n k numbers))
  | inr outside ↦
      let zero_is : 0 ≡ (0 + 0) + count_up_to k numbers = (let c = none_counted numbers n k outside.1 rising.1 in omega arith) in
      ap (λ (b : Bool). if b then e ∷ events_up_to (numbered entries numbers) k else events_up_to (numbered entries numbers) k) outside.0
      ∙ none_kept entries numbers n k outside.1 rising.1
      ∙ ap (λ (c : ℕ). take c (e ∷ entries)) zero_is
      ∙ ap (λ (b : Bool). take ((0 + cond b 1 0) + count_up_to k numbers) (e ∷ entries)) (sym outside.0)
      ∙ ap (λ (c : ℕ). take c (e ∷ entries)) (sym (count_cons n k numbers))
]
