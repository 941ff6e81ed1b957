-- The search of a set by its levels: up to the first word that has a member, and down to the lowest one in it.
use Rattle.std.proofs.Common.{◌≡◌, ◌↔◌, ℕ, ◌+◌, ◌*◌, ◌/◌, ◌^◌, ◌<◌, ◌≤◌, ⊎_elim, Bool, true, false, List, length, Option, Some, None, IsNone, refl, sym, ap, ◌∙◌, arith}
use Rattle.std.specs.List.{slice_get}
use Rattle.std.specs.Option.{IfSome, IfNone}
use Rattle.std.proofs.Math.Nat.{div-eq_of_lt, div-mul-le_self, mul-le-mul_left}
use Rattle.std.proofs.lemmas.Bool.{cases_lt, true≢false}
use Rattle.std.proofs.lemmas.Nat.{le-div}
use Rattle.std.proofs.lemmas.Option.{slice_get_within}
use Rattle.vd_bits.specs.Marks.{IsLowest, NoneFrom}
use Rattle.vd_bits.specs.Summaries.{Summarizes}
use Rattle.vd_bits.specs.Searches.{HasOne, NoneOf, NoneInWord, IsLowestOf, IsFirstWord}
use Rattle.vd_bits.proofs.SummaryLaws.{unmarked, by_word, has_word, not_both}
use Rattle.vd_bits.proofs.WordLaws.{span_some, next_word}

-- none is marked from `from` on in the words of `span` numbers before `next`, which begins at `from` or later
pub record Climbs (marked : List Bool) (from span next : ℕ) : Type 0 where
  pub reached : (i : ℕ) → next ≤ i / span → from ≤ i
  pub passed : (i : ℕ) → from ≤ i → i / span < next → i < length marked → slice_get marked i ≡ Some false

-- the lowest member of the word of `whole` numbers is in the word `place` of `span` numbers, if there is one
pub record Descends (marked : List Bool) (whole word span place : ℕ) : Type 0 where
  pub inside : (i : ℕ) → i / span ≡ place → i / whole ≡ word
  pub below : (i : ℕ) → i / whole ≡ word → i / span < place → i < length marked → slice_get marked i ≡ Some false
  pub some : (i : ℕ) → i / whole ≡ word → slice_get marked i ≡ Some true → HasOne marked span place

pub climbs-first : (marked : List Bool) (from : ℕ) → NoneInWord marked from → Climbs marked from 64 (from / 64 + 1)
climbs-first marked from none = record {
  reached = λ i h. omega arith;
  passed = λ i h before inside. none i h (omega arith) inside;
}

-- on the level k, whose flags are of 64 ^ k numbers
module _ (marked level : List Bool) (k : ℕ) (s : Summarizes (64 ^ k) marked level) where
  pub climbed : (from next word : ℕ) → Climbs marked from (64 ^ k) next → IsLowest level next word → IsFirstWord marked from (64 ^ k) word
  climbed from next word climbs lowest = record {
    has = s.down word lowest.is_marked;
    reached = λ i e. climbs.reached i (omega (arith, e, lowest.reached));
    below = λ i h before inside. ⊎_elim
        (λ (l : i / 64 ^ k < next). climbs.passed i h l inside)
        (λ (g : next ≤ i / 64 ^ k). by_word (64 ^ k) (span_some k) marked level s i inside (lowest.below (i / 64 ^ k) g before))
        (cases_lt (i / 64 ^ k) next);
  }

  pub climbs-on : (from next : ℕ) → Climbs marked from (64 ^ k) next → NoneInWord level next → Climbs marked from (64 ^ (k + 1)) (next / 64 + 1)
  climbs-on from next climbs none = record {
    reached = λ i h. climbs.reached i (omega (arith, h, next_word i k));
    passed = λ i h before inside. ⊎_elim
        (λ (l : i / 64 ^ k < next). climbs.passed i h l inside)
        (λ (g : next ≤ i / 64 ^ k). by_word (64 ^ k) (span_some k) marked level s i inside
        (none (i / 64 ^ k) g (omega (arith, g, before, next_word i k)) (has_word (64 ^ k) (span_some k) marked level s i inside)))
        (cases_lt (i / 64 ^ k) next);
  }

  pub descended : (whole word place at : ℕ) → Descends marked whole word (64 ^ (k + 1)) place → IsLowest level (place * 64) at → at / 64 ≡ place * 64 / 64 → Descends marked whole word (64 ^ k) at
  descended whole word place at descends lowest same = record {
    inside = λ i e. descends.inside i (sym (next_word i k) ∙ ap (λ (w : ℕ). w / 64) e ∙ omega (arith, same));
    below = λ i e before inside. ⊎_elim
        (λ (l : i / 64 ^ (k + 1) < place). descends.below i e l inside)
        (λ (g : place ≤ i / 64 ^ (k + 1)). by_word (64 ^ k) (span_some k) marked level s i inside (lowest.below (i / 64 ^ k) (omega (arith, g, next_word i k)) before))
        (cases_lt (i / 64 ^ (k + 1)) place);
    some = λ i e up. s.down at lowest.is_marked;
  }

  pub descended-none : (whole word place : ℕ) → Descends marked whole word (64 ^ (k + 1)) place → NoneInWord level (place * 64) → NoneOf marked whole word
  descended-none whole word place descends none i e inside =
      unmarked marked i inside
      (λ up.
      let m = descends.some i e up in
      let is : m.0 / 64 ^ k / 64 ≡ place = next_word m.0 k ∙ m.1 in
      let shown = s.up m.0 m.2 in
      not_both level (m.0 / 64 ^ k) (none (m.0 / 64 ^ k) (omega (arith, is)) (omega (arith, is)) (slice_get_within level (m.0 / 64 ^ k) true shown)) shown)

pub descends-first : (marked : List Bool) (whole word : ℕ) → Descends marked whole word whole word
descends-first marked whole word = record {
  inside = λ i e. e;
  below = λ i e before inside. absurd (omega (arith, e, before));
  some = λ i e up. let one : HasOne marked whole word = (i, e, up) in one;
}

-- at the end, among the numbers themselves
module _ (marked : List Bool) (whole word place : ℕ) (descends : Descends marked whole word 64 place) where
  ends-at : (at : ℕ) → IsLowest marked (place * 64) at → at / 64 ≡ place * 64 / 64 → IsLowestOf marked whole word at
  ends-at at lowest same = record {
    is_marked = lowest.is_marked;
    inside = descends.inside at (omega (arith, same));
    below = λ i e before.
        let inside = slice_get_within marked at true lowest.is_marked in
        ⊎_elim
        (λ (l : i / 64 < place). descends.below i e l (omega (arith, before, inside)))
        (λ (g : place ≤ i / 64). lowest.below i (omega arith) before)
        (cases_lt (i / 64) place);
  }

  pub ends-found : (o : Option ℕ) → IfSome o (IsLowest marked (place * 64)) → IfSome o (λ at. at / 64 ≡ place * 64 / 64) → IfSome o (IsLowestOf marked whole word)
  ends-found None found same = found
  ends-found (Some at) found same = ends-at at found same

  ends-without : NoneInWord marked (place * 64) → NoneOf marked whole word
  ends-without none i e inside =
      unmarked marked i inside (λ up. let m = descends.some i e up in not_both marked m.0 (none m.0 (omega (arith, m.1)) (omega (arith, m.1)) (slice_get_within marked m.0 true m.2)) m.2)

  pub ends-none : (o : Option ℕ) → IfNone o (NoneInWord marked (place * 64)) → IfNone o (NoneOf marked whole word)
  ends-none None none = ends-without none
  ends-none (Some at) none = none

pub lowest_is_some : (marked : List Bool) (from at : ℕ) → IsLowest marked from at → NoneFrom marked from → ⊥
lowest_is_some marked from at lowest none = not_both marked at (none at lowest.reached (slice_get_within marked at true lowest.is_marked)) lowest.is_marked

-- the answer of a search: a number, or that there is none
pub answers : (marked : List Bool) (from : ℕ) (o : Option ℕ) → IfSome o (IsLowest marked from) → IfNone o (NoneFrom marked from) → IsNone o ↔ NoneFrom marked from
answers marked from None found none = (λ _. none, λ _. refl)
answers marked from (Some at) found none = (λ e. absurd (true≢false e), λ empty. absurd (lowest_is_some marked from at found empty))

-- all numbers are in word 0 of the last level
module _ (marked : List Bool) (whole : ℕ) (last : length marked ≤ whole) where
  first-at : (at : ℕ) → IsLowestOf marked whole 0 at → IsLowest marked 0 at
  first-at at lowest = record {
    is_marked = lowest.is_marked;
    reached = omega arith;
    below = λ i h before. lowest.below i (div-eq_of_lt (omega (arith, before, last, slice_get_within marked at true lowest.is_marked))) before;
  }

  pub first-found : (o : Option ℕ) → IfSome o (IsLowestOf marked whole 0) → IfSome o (IsLowest marked 0)
  first-found None found = found
  first-found (Some at) found = first-at at found

  pub first-none : (o : Option ℕ) → IfNone o (NoneOf marked whole 0) → IfNone o (NoneFrom marked 0)
  first-none None none = λ i h inside. none i (div-eq_of_lt (omega (arith, inside, last))) inside
  first-none (Some at) none = none

-- the lowest number of the first word is the lowest one
module _ (marked : List Bool) (from span word : ℕ) (some : 0 < span) (first : IsFirstWord marked from span word) where
  there-at : (at : ℕ) → IsLowestOf marked span word at → IsLowest marked from at
  there-at at lowest = record {
    is_marked = lowest.is_marked;
    reached = first.reached at lowest.inside;
    below = λ i h before.
        let within = slice_get_within marked at true lowest.is_marked in
        let most : i / span ≤ at / span = le-div (i / span) at span some (omega (arith, before, div-mul-le_self i span)) in
        ⊎_elim
        (λ (l : i / span < word). first.below i h l (omega (arith, before, within)))
        (λ (g : word ≤ i / span). lowest.below i (omega (arith, g, most, lowest.inside)) before)
        (cases_lt (i / span) word);
  }

  -- and the word is a number of 64 bits, as its numbers are
  pub there-fits : (most : ℕ) → 64 ≤ span → length marked ≤ most → word * 64 < most
  there-fits most wide fits =
      let one = first.has in
      let inside = slice_get_within marked one.0 true one.2 in
      let is : word * span ≤ one.0 = omega (arith, ap (λ (w : ℕ). w * span) one.1, div-mul-le_self one.0 span) in
      omega (arith, is, mul-le-mul_left word wide, inside, fits)

  pub there-found : (o : Option ℕ) → IfSome o (IsLowestOf marked span word) → IfSome o (IsLowest marked from)
  there-found None found = found
  there-found (Some at) found = there-at at found

  pub there-none : (o : Option ℕ) → IfNone o (NoneOf marked span word) → IfNone o (NoneFrom marked from)
  there-none None none = let one = first.has in absurd (not_both marked one.0 (none one.0 one.1 (slice_get_within marked one.0 true one.2)) one.2)
  there-none (Some at) none = none

-- none is marked past the last level
pub climbs-none : (marked : List Bool) (from whole next : ℕ) → length marked ≤ whole → 0 < next → Climbs marked from whole next → NoneFrom marked from
climbs-none marked from whole next last some climbs i h inside =
    let first : i / whole ≡ 0 = div-eq_of_lt (omega (arith, inside, last)) in climbs.passed i h (omega (arith, first, some)) inside
