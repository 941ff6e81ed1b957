-- Each step keeps the rule of the marks.
use Rattle.std.proofs.Common.{◌≡◌, ◌≢◌, ◌⊎◌, ◌↔◌, ℕ, zero, suc, ◌+◌, ◌-◌, ◌*◌, ◌%◌, ◌^◌, ◌<◌, ◌≤◌, Bool, true, false, cond, List, [], ◌∷◌, ◌++◌, set, refl, sym, ap, ◌∙◌, subst, ⊎_elim, arith, length, length-set, length-append, replicate, get_or, get_or-set_same, get_or-set_other, nat_eq, nat_le, ◌&&◌, w64, bit_or}
use Rattle.std.specs.Prelude.{slice_index}
use Rattle.std.proofs.lemmas.Bool.Decides.{nat_tests}
use mathlib.Core.Option.{some, none, some-injective, some-ne-none}
use mathlib.Core.Logic.{dite}
use native.Mathlib.Decide.{ℕ_discrete}
use lib.ListN.{get_elem?}
use Rattle.std.proofs.lemmas.List.{set-get_or, length-replicate}
use Rattle.std.proofs.lemmas.Nat.Bits.{bit_at-zero, bit_at_set_same, bit_at_set_other}
use Rattle.std.specs.Int.{bit_at}
use Rattle.std.proofs.lemmas.List.Sums.{sum_by_push, sum_by-append}
use Rattle.std.proofs.lemmas.Bool.{cases_Bool, eqb-true}
use Rattle.atomic_table.specs.Table.{State, step, opening, keeps, stepped, Allows, Splits, Joins}
use Rattle.atomic_table.proofs.Lists.{at_set, at_snoc, set_again}
use Rattle.vd_words.specs.declared.view.View.{View}
use Rattle.vd_words.specs.declared.view.Plan.{Plan}
use Rattle.vd_words.specs.Counts.{times, count_past, times_seen, once_below}
use Rattle.vd_words.specs.Rule.{cursor, word_of, word_count, IsMarked, total, maker, newcomer, nobody, EndsOnce, AreMarksCounted, Seated, view_after_draw, Drawn, view_after_look, Looked, view_after_mark, Marked, Settled, with_one_less, both}
use Rattle.vd_words.proofs.Sums.{sum_set, sum_same, sum_none, sum_le, one_of_sum}

abbrev St : Type 0
St = State (Unit {0}) View

-- each view of the changed list fits
each_set : (plan : Plan) (views : List View) (id : ℕ) (w : View) → ((i : ℕ) (v : View) → get_elem? views i ≡ some v → EndsOnce plan v) → EndsOnce plan w → (i : ℕ) (v : View) → get_elem? (set views id w) i ≡ some v → EndsOnce plan v
each_set plan views id w each mine i v e = ⊎_elim (λ (t : (i ≡ id) × (w ≡ v)). subst (EndsOnce plan) t.1 mine) (λ (t : (i ≢ id) × (get_elem? views i ≡ some v)). each i v t.1) (at_set views id i w v e)

-- a change of the cursor touches no mark
mark_stays : (words : List ℕ) (n b : ℕ) → slice_index (set words 0 n) (word_of b) ≡ slice_index words (word_of b)
mark_stays words n b = let other : word_of b ≢ 0 = omega arith in get_or-set_other words 0 (word_of b) n 0 other

-- the cursor is at most the limit and one more for each part
pub room : (plan : Plan) (s : St) → AreMarksCounted plan s → cursor s.words ≤ plan.drawn + (plan.scans + 1)
room plan s r = let le = sum_le (λ v. count_past plan.drawn v.drawn) (λ v. v.parts) s.views (λ i v e. (r.each i v e).ended_once) in let b = r.bounded in let p = r.seats in omega arith

once_more : (x n : ℕ) → once_below x (n + 1) ≡ once_below x n + cond (nat_eq n x) 1 0
once_more x n = grind (arith, nat_tests)

past_more : (limit n : ℕ) → cond (nat_le limit n) 1 0 ≤ 1
past_more limit n = grind (arith, nat_tests)

bounded_more : (limit n all : ℕ) → n ≤ limit + all → n + 1 ≤ limit + (all + cond (nat_le limit n) 1 0)
bounded_more limit n all h = grind (arith, nat_tests)

-- the bit of a block, as it stands in the words
abbrev bit_of : List ℕ → ℕ → ℕ
bit_of words b = bit_at (slice_index words (word_of b)) (b % 64)

abbrev pub mask_of : ℕ → ℕ
mask_of b = 1 * 2 ^ (b % 64) % 18446744073709551616

set_bit_here : (words : List ℕ) (b : ℕ) → word_of b < length words → bit_of (set words (word_of b) (bit_or (slice_index words (word_of b)) (mask_of b))) b ≡ 1
set_bit_here words b within =
    let old : ℕ = slice_index words (word_of b) in
    let low : b % 64 < 64 = omega arith in
    ap (λ n. bit_at n (b % 64)) (get_or-set_same words (word_of b) (bit_or old (mask_of b)) 0 within) ∙ bit_at_set_same w64 old (b % 64) low

set_bit_else : (words : List ℕ) (b c : ℕ) → word_of b < length words → c ≢ b → bit_of (set words (word_of b) (bit_or (slice_index words (word_of b)) (mask_of b))) c ≡ bit_of words c
set_bit_else words b c within apart =
    let old : ℕ = slice_index words (word_of b) in
    let new : ℕ = bit_or old (mask_of b) in
    dite (ℕ_discrete (word_of c) (word_of b))
    (λ e.
    let low : b % 64 < 64 = omega arith in
    let other : c % 64 ≢ b % 64 = omega arith in
    ap (λ i. bit_at (slice_index (set words (word_of b) new) i) (c % 64)) e
    ∙ ap (λ n. bit_at n (c % 64)) (get_or-set_same words (word_of b) new 0 within)
    ∙ bit_at_set_other w64 old (b % 64) low (c % 64) other
    ∙ ap (λ i. bit_at (slice_index words i) (c % 64)) (sym e))
    (λ ne. ap (λ n. bit_at n (c % 64)) (get_or-set_other words (word_of b) (word_of c) new 0 ne))

times_here : (b : ℕ) → ◌≡◌ {A = ℕ} (cond (nat_eq b b) 1 0) 1
times_here b = grind (arith, nat_tests)

times_else : (b c : ℕ) → c ≢ b → ◌≡◌ {A = ℕ} (cond (nat_eq b c) 1 0) 0
times_else b c apart = grind (arith, nat_tests)

-- a true look at another block, or a false one, counts for nothing
seen_false : (p q : Bool) → q ≡ false → ◌≡◌ {A = ℕ} (cond (p && q) 1 0) 0
seen_false true q e = ap (λ x. cond x 1 0) e
seen_false false q e = refl

seen_else : (b c : ℕ) (q : Bool) → c ≢ b → ◌≡◌ {A = ℕ} (cond (nat_eq b c && q) 1 0) 0
seen_else b c q apart = grind (arith, nat_tests)

module _ (plan : Plan) (slots id : ℕ) (m : Seated) where
  draws_kept : (s : St) → AreMarksCounted plan s → get_elem? s.views id ≡ some m.0 → 1 ≤ m.0.parts → count_past plan.drawn m.0.drawn ≡ 0
      → AreMarksCounted plan (stepped s 0 (cursor s.words + 1) id m.1 (view_after_draw m.0 (cursor s.words)) keeps)
  draws_kept s r at part unended =
      let n : ℕ = cursor s.words in
      let w : View = view_after_draw m.0 n in
      let wide : 0 < length s.words = omega (arith, r.sized) in
      let now : cursor (set s.words 0 (n + 1)) ≡ n + 1 = get_or-set_same s.words 0 (n + 1) 0 wide in
      let more = sum_by_push (λ y. cond (nat_le plan.drawn y) 1 0) m.0.drawn n in record {
        sized = length-set s.words 0 (n + 1) ∙ r.sized;
        seats = sum_same (λ v. v.parts) s.views id m.0 w at refl ∙ r.seats;
        marked = λ b. subst (λ (z : ℕ × ℕ). (bit_at z.0 (b % 64) ≡ 1) ↔ (0 < z.1))
            (λ i. (sym (mark_stays s.words (n + 1) b) i, sym (sum_same (λ v. times b v.marked) s.views id m.0 w at refl) i)) (r.marked b);
        seen = λ b. subst (λ (z : ℕ × ℕ). 0 < z.1 → bit_at z.0 (b % 64) ≡ 1)
            (λ i. (sym (mark_stays s.words (n + 1) b) i, sym (sum_same (λ v. times_seen b v.looks) s.views id m.0 w at refl) i)) (r.seen b);
        drawn = λ x.
            let all = sum_set (λ v. times x v.drawn) s.views id m.0 w at in
            let own = sum_by_push (λ y. cond (nat_eq y x) 1 0) m.0.drawn n in
            let below = once_more x n in
            let was = r.drawn x in
            subst (λ k. total (λ v. times x v.drawn) (set s.views id w) ≡ once_below x k) (sym now) (omega arith);
        counted =
            let all = sum_set (λ v. length v.drawn) s.views id m.0 w at in
            let own = length-append m.0.drawn (n ∷ []) in
            let was = r.counted in
            subst (λ k. total (λ v. length v.drawn) (set s.views id w) ≡ k) (sym now) (omega arith);
        bounded =
            let all = sum_set (λ v. count_past plan.drawn v.drawn) s.views id m.0 w at in
            let was = bounded_more plan.drawn n (total (λ v. count_past plan.drawn v.drawn) s.views) r.bounded in
            subst (λ k. k ≤ plan.drawn + total (λ v. count_past plan.drawn v.drawn) (set s.views id w)) (sym now) (omega arith);
        each = each_set plan s.views id w r.each record {
          ended_once = let one = past_more plan.drawn n in omega arith;
          idle = λ none_left. absurd (omega arith);
        };
      }

  pub draws : plan.drawn + plan.scans < 2 ^ 63 → 1 ≤ m.0.parts → count_past plan.drawn m.0.drawn ≡ 0
      → Allows (AreMarksCounted plan) slots id m 0 (λ n. (n + 1) % 2 ^ 64) (Drawn (step slots 0 1 0 none) m)
  draws small part unended s r sized at fits =
      let n : ℕ = cursor s.words in
      let most = room plan s r in
      let same : n + 1 ≡ (n + 1) % 18446744073709551616 = omega arith in
      (view_after_draw m.0 n, keeps, tt, subst (λ k. AreMarksCounted plan (stepped s 0 k id m.1 (view_after_draw m.0 n) keeps)) same (draws_kept s r at part unended), (refl, (let own = one_of_sum (λ v. length v.drawn) s.views id m.0 at in let all = r.counted in omega arith)))

  marks_kept : (s : St) (b : ℕ) → AreMarksCounted plan s → get_elem? s.views id ≡ some m.0 → 1 ≤ m.0.parts → b < plan.blocks
      → AreMarksCounted plan (stepped s (word_of b) (bit_or (slice_index s.words (word_of b)) (mask_of b)) id m.1 (view_after_mark b m.0) keeps)
  marks_kept s b r at part within =
      let i : ℕ = word_of b in
      let n : ℕ = bit_or (slice_index s.words i) (mask_of b) in
      let w : View = view_after_mark b m.0 in
      let wide : i < length s.words = omega (arith, r.sized) in
      let ahead : 0 ≢ i = omega arith in
      let same : cursor (set s.words i n) ≡ cursor s.words = get_or-set_other s.words i 0 n 0 ahead in
      let mine = λ (c : ℕ). sum_set (λ v. times c v.marked) s.views id m.0 w at in
      let own = λ (c : ℕ). sum_by_push (λ y. cond (nat_eq y c) 1 0) m.0.marked b in record {
        sized = length-set s.words i n ∙ r.sized;
        seats = sum_same (λ v. v.parts) s.views id m.0 w at refl ∙ r.seats;
        marked = λ c. dite (ℕ_discrete c b)
            (λ e. let here = set_bit_here s.words b wide in let one = times_here b in let all = mine b in let last = own b in
            subst (λ z. IsMarked (set s.words i n) z ↔ (0 < total (λ v. times z v.marked) (set s.views id w))) (sym e) ((λ _. omega arith), (λ _. here)))
            (λ ne. let else_same = set_bit_else s.words b c wide ne in let none_more = times_else b c ne in let all = mine c in let last = own c in
            let count : total (λ v. times c v.marked) (set s.views id w) ≡ total (λ v. times c v.marked) s.views = omega arith in
            subst (λ (z : ℕ × ℕ). (z.0 ≡ 1) ↔ (0 < z.1)) (λ j. (sym else_same j, sym count j)) (r.marked c));
        seen = λ c h. let was : IsMarked s.words c = r.seen c (subst (λ k. 0 < k) (sum_same (λ v. times_seen c v.looks) s.views id m.0 w at refl) h) in
            dite (ℕ_discrete c b)
            (λ e. subst (λ z. IsMarked (set s.words i n) z) (sym e) (set_bit_here s.words b wide))
            (λ ne. set_bit_else s.words b c wide ne ∙ was);
        drawn = λ x. subst (λ (z : ℕ × ℕ). z.0 ≡ once_below x z.1) (λ j. (sym (sum_same (λ v. times x v.drawn) s.views id m.0 w at refl) j, sym same j)) (r.drawn x);
        counted = sum_same (λ v. length v.drawn) s.views id m.0 w at refl ∙ r.counted ∙ sym same;
        bounded = subst (λ (z : ℕ × ℕ). z.1 ≤ plan.drawn + z.0) (λ j. (sym (sum_same (λ v. count_past plan.drawn v.drawn) s.views id m.0 w at refl) j, sym same j)) r.bounded;
        each = each_set plan s.views id w r.each record {
          ended_once = (r.each id m.0 at).ended_once;
          idle = λ none_left. absurd (omega arith);
        };
      }

  pub marks : (b i k : ℕ) → 1 ≤ m.0.parts → b < plan.blocks → i ≡ word_of b → k ≡ mask_of b
      → Allows (AreMarksCounted plan) slots id m i (λ n. bit_or n k) (Marked b (step slots i k 0 none) m)
  marks b i k part within at_word is_mask s r sized at fits =
      (view_after_mark b m.0, keeps, tt, subst (λ (z : ℕ × ℕ). AreMarksCounted plan (stepped s z.0 (bit_or (slice_index s.words z.0) z.1) id m.1 (view_after_mark b m.0) keeps)) (λ j. (sym at_word j, sym is_mask j)) (marks_kept s b r at part within), refl)

  looks_kept : (s : St) (b : ℕ) → AreMarksCounted plan s → get_elem? s.views id ≡ some m.0 → 1 ≤ m.0.parts
      → AreMarksCounted plan record { words = s.words; homes = s.homes; views = set s.views id (view_after_look b (slice_index s.words (word_of b)) m.0) }
  looks_kept s b r at part =
      let answer : Bool = nat_eq (bit_of s.words b) 1 in
      let w : View = view_after_look b (slice_index s.words (word_of b)) m.0 in
      let new : List View = set s.views id w in
      let old_look = λ (c : ℕ) (h : 0 < total (λ v. times_seen c v.looks) new) (none_more : ◌≡◌ {A = ℕ} (cond (nat_eq b c && answer) 1 0) 0).
      let all = sum_set (λ v. times_seen c v.looks) s.views id m.0 w at in
      let last = sum_by_push (λ (l : ℕ × Bool). cond (nat_eq l.0 c && l.1) 1 0) m.0.looks (b, answer) in
      let before : 0 < total (λ v. times_seen c v.looks) s.views = omega arith in
      r.seen c before in record {
        sized = r.sized;
        seats = sum_same (λ v. v.parts) s.views id m.0 w at refl ∙ r.seats;
        marked = λ c. subst (λ k. IsMarked s.words c ↔ (0 < k)) (sym (sum_same (λ v. times c v.marked) s.views id m.0 w at refl)) (r.marked c);
        seen = λ c h. dite (ℕ_discrete c b)
            (λ e. ⊎_elim
            (λ yes. subst (λ z. IsMarked s.words z) (sym e) (eqb-true (bit_of s.words b) 1 yes))
            (λ no. old_look c h (seen_false (nat_eq b c) answer no))
            (cases_Bool answer))
            (λ ne. old_look c h (seen_else b c answer ne));
        drawn = λ x. sum_same (λ v. times x v.drawn) s.views id m.0 w at refl ∙ r.drawn x;
        counted = sum_same (λ v. length v.drawn) s.views id m.0 w at refl ∙ r.counted;
        bounded = subst (λ k. cursor s.words ≤ plan.drawn + k) (sym (sum_same (λ v. count_past plan.drawn v.drawn) s.views id m.0 w at refl)) r.bounded;
        each = each_set plan s.views id w r.each record {
          ended_once = (r.each id m.0 at).ended_once;
          idle = λ none_left. absurd (omega arith);
        };
      }

  looks_there : (b i : ℕ) → 1 ≤ m.0.parts → i ≡ word_of b → (s : St) → AreMarksCounted plan s → get_elem? s.views id ≡ some m.0
      → AreMarksCounted plan (stepped s (word_of b) (slice_index s.words (word_of b)) id m.1 (view_after_look b (slice_index s.words (word_of b)) m.0) keeps)
  looks_there b i part at_word s r at =
      subst (λ ws. AreMarksCounted plan record { words = ws; homes = s.homes; views = set s.views id (view_after_look b (slice_index s.words (word_of b)) m.0) })
      (sym (set-get_or s.words (word_of b) 0)) (looks_kept s b r at part)

  pub looks : (b i : ℕ) → 1 ≤ m.0.parts → i ≡ word_of b → Allows (AreMarksCounted plan) slots id m i (λ n. n) (Looked b (step slots i 0 0 none) m)
  looks b i part at_word s r sized at fits =
      let n : ℕ = slice_index s.words i in (
        view_after_look b n m.0,
        keeps,
        tt,
        subst (λ z. AreMarksCounted plan (stepped s z (slice_index s.words z) id m.1 (view_after_look b (slice_index s.words z) m.0) keeps)) (sym at_word) (looks_there b i part at_word s r at),
        refl,
      )

-- the views after a seat's was cut in two
module _ (plan : Plan) (id : ℕ) (v : View) where
  split_sum : (f : View → ℕ) (views : List View) → get_elem? views id ≡ some v → f v ≡ f (with_one_less v) + f newcomer
      → total f (set views id (with_one_less v) ++ newcomer ∷ []) ≡ total f views
  split_sum f views at cut =
      let all = sum_set f views id v (with_one_less v) at in
      let last = sum_by_push f (set views id (with_one_less v)) newcomer in
      omega arith

  -- a seat that has drawn nothing gives a part away
  pub splits : 2 ≤ v.parts → v.drawn ≡ [] → Splits (AreMarksCounted plan) id v (with_one_less v) newcomer
  splits two none_drawn s r at =
      let same = λ (f : View → ℕ) (cut : f v ≡ f (with_one_less v) + f newcomer). split_sum f s.views at cut in
      let zero_more = λ (n : ℕ). let e : n ≡ n + 0 = omega arith in e in
      let cut_parts : v.parts ≡ (v.parts - 1) + 1 = omega arith in record {
        sized = r.sized;
        seats = same (λ u. u.parts) cut_parts ∙ r.seats;
        marked = λ b. subst (λ k. IsMarked s.words b ↔ (0 < k)) (sym (same (λ u. times b u.marked) (zero_more (times b v.marked)))) (r.marked b);
        seen = λ b. subst (λ k. 0 < k → IsMarked s.words b) (sym (same (λ u. times_seen b u.looks) (zero_more (times_seen b v.looks)))) (r.seen b);
        drawn = λ x. same (λ u. times x u.drawn) (zero_more (times x v.drawn)) ∙ r.drawn x;
        counted = same (λ u. length u.drawn) (zero_more (length v.drawn)) ∙ r.counted;
        bounded = subst (λ k. cursor s.words ≤ plan.drawn + k) (sym (same (λ u. count_past plan.drawn u.drawn) (zero_more (count_past plan.drawn v.drawn)))) r.bounded;
        each = λ i u e. ⊎_elim
            (λ there. each_set plan s.views id (with_one_less v) r.each
            record { ended_once = subst (λ l. count_past plan.drawn l ≤ v.parts - 1) (sym none_drawn) (omega arith); idle = λ none_left. absurd (omega arith) } i u there)
            (λ is_new. subst (EndsOnce plan) is_new record { ended_once = omega arith; idle = λ none_left. absurd (omega arith) })
            (at_snoc (set s.views id (with_one_less v)) newcomer u i e);
      }

-- the views after one seat took in another
module _ (plan : Plan) (id : ℕ) (v : View) (other : ℕ) (w : View) where
  join_sum : (f : View → ℕ) (views : List View) → get_elem? views id ≡ some v → get_elem? (set views id (both v w)) other ≡ some w → f (both v w) ≡ f v + f w → f nobody ≡ 0
      → total f (set (set views id (both v w)) other nobody) ≡ total f views
  join_sum f views at there added nothing =
      let first = sum_set f views id v (both v w) at in
      let second = sum_set f (set views id (both v w)) other w nobody there in
      omega arith

  pub joins : 1 ≤ v.parts → Joins (AreMarksCounted plan) id v other w (both v w) nobody
  joins part s r at apart there =
      let same = λ (f : View → ℕ) (added : f (both v w) ≡ f v + f w) (nothing : f nobody ≡ 0). join_sum f s.views at there added nothing in
      let was = ⊎_elim (λ (t : (other ≡ id) × (both v w ≡ w)). absurd (apart t.0)) (λ (t : (other ≢ id) × (get_elem? s.views other ≡ some w)). t.1) (at_set s.views id other (both v w) w there) in
      let mine = r.each id v at in
      let theirs = r.each other w was in
      let one = mine.ended_once in
      let two = theirs.ended_once in
      let past_both = sum_by-append (λ y. cond (nat_le plan.drawn y) 1 0) v.drawn w.drawn in record {
        sized = r.sized;
        seats = same (λ u. u.parts) refl refl ∙ r.seats;
        marked = λ b. subst (λ k. IsMarked s.words b ↔ (0 < k)) (sym (same (λ u. times b u.marked) (sum_by-append (λ y. cond (nat_eq y b) 1 0) v.marked w.marked) refl)) (r.marked b);
        seen = λ b. subst (λ k. 0 < k → IsMarked s.words b) (sym (same (λ u. times_seen b u.looks) (sum_by-append (λ (l : ℕ × Bool). cond (nat_eq l.0 b && l.1) 1 0) v.looks w.looks) refl)) (r.seen b);
        drawn = λ x. same (λ u. times x u.drawn) (sum_by-append (λ y. cond (nat_eq y x) 1 0) v.drawn w.drawn) refl ∙ r.drawn x;
        counted = same (λ u. length u.drawn) (length-append v.drawn w.drawn) refl ∙ r.counted;
        bounded = subst (λ k. cursor s.words ≤ plan.drawn + k) (sym (same (λ u. count_past plan.drawn u.drawn) past_both refl)) r.bounded;
        each = each_set plan (set s.views id (both v w)) other nobody
            (each_set plan s.views id (both v w) r.each record { ended_once = omega arith; idle = λ none_left. absurd (omega arith) })
            record { ended_once = omega arith; idle = λ _. refl };
      }

-- where a seat has all parts, what is counted over all views is counted in its own
whole : (plan : Plan) (s : St) → AreMarksCounted plan s → (id : ℕ) (v : View) → get_elem? s.views id ≡ some v → v.parts ≡ plan.scans + 1 → (f : View → ℕ) → f nobody ≡ 0 → total f s.views ≡ f v
whole plan s r id v at all f empty =
    let others : List View = set s.views id nobody in
    let p = sum_set (λ u. u.parts) s.views id v nobody at in
    let q = r.seats in
    let no_parts : total (λ u. u.parts) others ≡ 0 = omega arith in
    let each = each_set plan s.views id nobody r.each record { ended_once = omega arith; idle = λ _. refl } in
    let nothing = sum_none f others
    (λ i u e. let least = one_of_sum (λ u. u.parts) others i u e in let zero_parts : u.parts ≡ 0 = omega arith in ap f ((each i u e).idle zero_parts) ∙ empty) in
    let mine = sum_set f s.views id v nobody at in
    omega arith

pub settles : (plan : Plan) (slots id : ℕ) (m : Seated) → m.0.parts ≡ plan.scans + 1 → Allows (AreMarksCounted plan) slots id m 0 (λ n. n) (Settled (step slots 0 0 0 none) m)
settles plan slots id m all s r sized at fits =
    let over = whole plan s r id m.0 at all in (
      m.0,
      keeps,
      tt,
      subst (λ (z : List ℕ × List View). AreMarksCounted plan record { words = z.0; homes = s.homes; views = z.1 }) (λ j. (sym (set-get_or s.words 0 0) j, sym (set_again s.views id m.0 at) j)) r,
      (
        refl,
        (λ x. sym (over (λ v. times x v.drawn) refl) ∙ r.drawn x),
        (λ b h. subst (λ k. 0 < k) (over (λ v. times b v.marked) refl) ((r.marked b).0 (r.seen b (subst (λ k. 0 < k) (sym (over (λ v. times_seen b v.looks) refl)) h)))),
      ),
    )

zeros : (n i : ℕ) → ◌≡◌ {A = ℕ} (get_or (replicate n 0) i 0) 0
zeros zero i = refl
zeros (suc n) zero = refl
zeros (suc n) (suc i) = zeros n i

pub begins : (plan : Plan) (n : ℕ) → n ≡ word_count plan.blocks → AreMarksCounted plan (opening (replicate n 0) [] (maker plan))
begins plan n sized =
    let words : List ℕ = replicate n 0 in
    let clear = λ (b : ℕ) (h : IsMarked words b).
    let bit : bit_at (slice_index words (word_of b)) (b % 64) ≡ 0 = ap (λ k. bit_at k (b % 64)) (zeros n (word_of b)) ∙ bit_at-zero (b % 64) in
    let no : ⊥ = omega arith in no in
    let first = maker plan in
    let none : (i : ℕ) (v : View) → get_elem? (first ∷ []) i ≡ some v → EndsOnce plan v = only plan in record {
      sized = length-replicate n 0 ∙ sized;
      seats = omega arith;
      marked = λ b. ((λ h. absurd (clear b h)), (λ h. absurd (omega arith)));
      seen = λ b h. absurd (omega arith);
      drawn = λ x. subst (λ (k : ℕ). 0 ≡ once_below x k) (sym (zeros n 0)) (none_below x);
      counted = sym (zeros n 0);
      bounded = subst (λ (k : ℕ). k ≤ plan.drawn + 0) (sym (zeros n 0)) (omega arith);
      each = none;
    }
  where
    none_below : (x : ℕ) → 0 ≡ once_below x 0
    none_below x = grind (arith, nat_tests)

    only : (plan : Plan) (i : ℕ) (v : View) → get_elem? (maker plan ∷ []) i ≡ some v → EndsOnce plan v
    only plan zero v e = subst (EndsOnce plan) (some-injective (maker plan) v e) record { ended_once = omega arith; idle = λ none_left. absurd (omega arith) }
    only plan (suc i) v e = absurd (some-ne-none v (sym e))
