-- What the seat that takes in the scans knows of them all.
use Rattle.std.proofs.Common.{◌≡◌, ◌≢◌, ◌⊎◌, ℕ, suc, ◌+◌, ◌<◌, ◌≤◌, Bool, true, cond, List, [], ◌∷◌, ◌++◌, refl, sym, ap, ◌∙◌, subst, ⊎_elim, arith, length, Some, nat_eq, nat_le, ◌&&◌}
use mathlib.Core.Logic.{dite}
use native.Mathlib.Decide.{ℕ_discrete}
use Rattle.std.specs.List.{All, Contains, sum_by}
use Rattle.std.proofs.lemmas.Bool.Decides.{nat_tests}
use Rattle.std.proofs.lemmas.List.{append-nil}
use Rattle.std.proofs.lemmas.List.Elements.{All-pop}
use Rattle.std.proofs.lemmas.List.Sums.{sum_by-cons, sum_by_push, sum_by-append}
use Rattle.std.proofs.lemmas.Bool.{cases_Bool, leb-true}
use Rattle.vd_words.specs.declared.view.View.{View}
use Rattle.vd_words.specs.Counts.{times, count_past, times_seen, once_below}
use Rattle.vd_words.specs.Rule.{view, both}
use Rattle.vd_words.specs.Values.{ScanValue, times_drawn, times_looked, count_ended}

-- the seat took in the last scan
module _ (v w : View) (items rest : List ScanValue) (x : ScanValue) (is : w ≡ view 1 [] x.draws x.looks x.found) (last : items ≡ rest ++ x ∷ []) where
  pub parts_taken : (both v w).parts + sum_by {X = ScanValue} (λ _. 1) rest ≡ v.parts + sum_by {X = ScanValue} (λ _. 1) items
  parts_taken =
      let n = ap (λ u. u.parts) is in
      let all = ap (sum_by {X = ScanValue} (λ _. 1)) last in
      let more = sum_by_push {X = ScanValue} (λ _. 1) rest x in
      omega arith

  pub marked_taken : (both v w).marked ≡ v.marked
  marked_taken = ap (λ (u : View). v.marked ++ u.marked) is ∙ append-nil v.marked

  pub drawn_taken : (y : ℕ) → times y (both v w).drawn + times_drawn y rest ≡ times y v.drawn + times_drawn y items
  drawn_taken y =
      let own = sum_by-append (λ z. cond (nat_eq z y) 1 0) v.drawn w.drawn in
      let same : times y w.drawn ≡ times y x.draws = ap (λ (u : View). times y u.drawn) is in
      let all = ap (times_drawn y) last in
      let more = sum_by_push (λ (s : ScanValue). times y s.draws) rest x in
      omega arith

  pub looked_taken : (b : ℕ) → times_seen b (both v w).looks + times_looked b rest ≡ times_seen b v.looks + times_looked b items
  looked_taken b =
      let own = sum_by-append (λ (l : ℕ × Bool). cond (nat_eq l.0 b && l.1) 1 0) v.looks w.looks in
      let same : times_seen b w.looks ≡ times_seen b x.looks = ap (λ (u : View). times_seen b u.looks) is in
      let all = ap (times_looked b) last in
      let more = sum_by_push (λ (s : ScanValue). times_seen b s.looks) rest x in
      omega arith

  pub ended_taken : (limit : ℕ) → (x.ended ≡ true → 0 < count_past x.limit x.draws) → All (λ (s : ScanValue). s.limit ≡ limit) items
      → All (λ (s : ScanValue). s.limit ≡ limit) rest × (count_ended items + count_past limit v.drawn ≤ count_ended rest + count_past limit (both v w).drawn)
  ended_taken limit ends all =
      let cut = All-pop (λ (s : ScanValue). s.limit ≡ limit) items rest (Some x) last all in
      let own = sum_by-append (λ z. cond (nat_le limit z) 1 0) v.drawn w.drawn in
      let same : count_past limit w.drawn ≡ count_past limit x.draws = ap (λ (u : View). count_past limit u.drawn) is in
      let whole = ap count_ended last in
      let more = sum_by_push (λ (s : ScanValue). cond s.ended 1 0) rest x in
      let least : cond x.ended 1 0 ≤ count_past limit x.draws = ⊎_elim
      (λ yes. let some_past = subst (λ k. 0 < count_past k x.draws) cut.1 (ends yes) in subst (λ q. cond q 1 0 ≤ count_past limit x.draws) (sym yes) (omega arith))
      (λ no. subst (λ q. cond q 1 0 ≤ count_past limit x.draws) (sym no) (omega arith))
      (cases_Bool x.ended) in
      (cut.0, omega arith)

one_of_two : (a b : ℕ) → a ≡ b → ◌≡◌ {A = ℕ} (cond (nat_eq a b) 1 0) 1
one_of_two a b e = grind (arith, nat_tests)

none_of_two : (a b : ℕ) → a ≢ b → ◌≡◌ {A = ℕ} (cond (nat_eq a b) 1 0) 0
none_of_two a b ne = grind (arith, nat_tests)

-- where a number that is not below the limit was drawn, there is such a number
past_some : (limit : ℕ) (xs : List ℕ) → 0 < count_past limit xs → (y : ℕ) × (limit ≤ y) × (0 < times y xs)
past_some limit [] h = absurd (omega arith)
past_some limit (x ∷ xs) h = ⊎_elim
    (λ yes.
    let own = sum_by-cons (λ z. cond (nat_eq z x) 1 0) x xs in
    let here = one_of_two x x refl in
    (x, leb-true limit x yes, omega arith))
    (λ no.
    let whole = sum_by-cons (λ z. cond (nat_le limit z) 1 0) x xs in
    let nothing : ◌≡◌ {A = ℕ} (cond (nat_le limit x) 1 0) 0 = ap (λ q. cond q 1 0) no in
    let further = past_some limit xs (omega arith) in
    let own = sum_by-cons (λ z. cond (nat_eq z further.0) 1 0) x xs in
    let there : 0 < times further.0 xs = further.2 in
    (further.0, further.1, omega arith))
    (cases_Bool (nat_le limit x))

-- a number that is counted stands in the list
pub stands : (b : ℕ) (xs : List ℕ) → 0 < times b xs → Contains xs b
stands b [] h = absurd (omega arith)
stands b (x ∷ xs) h = dite (ℕ_discrete x b)
    (λ e. (0, omega arith, e))
    (λ ne.
    let whole = sum_by-cons (λ z. cond (nat_eq z b) 1 0) x xs in
    let nothing = none_of_two x b ne in
    let further = stands b xs (omega arith) in
    let inside = further.1 in (suc further.0, omega arith, further.2))

below_one : (x n : ℕ) → x < n → once_below x n ≡ 1
below_one x n below = grind (arith, nat_tests)

is_below : (x n : ℕ) → 0 < once_below x n → x < n
is_below x n h = grind (arith, nat_tests)

pub at_most_one : (x n : ℕ) → once_below x n ≤ 1
at_most_one x n = grind (arith, nat_tests)

-- where all numbers below n were drawn and some number is not below the limit, each number below the limit was drawn
pub all_below : (limit n : ℕ) (xs : List ℕ) → ((x : ℕ) → times x xs ≡ once_below x n) → 0 < count_past limit xs → (x : ℕ) → x < limit → times x xs ≡ 1
all_below limit n xs each more x below =
    let far = past_some limit xs more in
    let reached : far.0 < n = is_below far.0 n (subst (λ k. 0 < k) (each far.0) far.2) in
    let beyond : limit ≤ far.0 = far.1 in
    each x ∙ below_one x n (omega arith)

-- each scan counts for one
pub ones : (scans : List ScanValue) → sum_by {X = ScanValue} (λ _. 1) scans ≡ length scans
ones [] = refl
ones (x ∷ xs) = let rest = ones xs in omega (arith, sum_by-cons {X = ScanValue} (λ _. 1) x xs)
