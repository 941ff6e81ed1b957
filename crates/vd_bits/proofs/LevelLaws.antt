-- The levels above a set, where one more of them is as the set's next state needs it.
use Rattle.std.proofs.Common.{◌≡◌, ◌≢◌, ◌⊎◌, ⊎_elim, ℕ, ◌+◌, ◌*◌, ◌/◌, ◌^◌, ◌<◌, ◌≤◌, Bool, true, false, List, [], ◌∷◌, ◌++◌, length, take, get_or, set, replicate, Some, sym, ap, ◌∙◌, arith, subst}
use Rattle.std.specs.List.{slice_get}
use Rattle.std.proofs.lemmas.Bool.{cases_eq, cases_lt}
use Rattle.std.proofs.Math.Nat.{mul-le-mul_left, mul-le-mul_right}
use Rattle.std.proofs.lemmas.Option.{same_Some, slice_get-get_or, slice_get_within}
use Rattle.vd_lists.proofs.Changes.{slice_set_inside, slice_set_other}
use Rattle.vd_lists.proofs.Places.{slice_get_taken, slice_get_pushed}
use Rattle.vd_bits.specs.Summaries.{Summarizes, AreLevels, IsCovered}
use Rattle.vd_bits.specs.Searches.{HasOne, NoneOf}
use Rattle.vd_bits.proofs.SummaryLaws.{by_word, has_word, not_both, marked-summarizes, shown-summarizes, kept-summarizes, emptied-summarizes, full-summarizes}
use Rattle.vd_bits.proofs.WordLaws.{span_some, next_span, next_word, same_above}

-- a level that was read
pub at_level : (xs : List (List Bool)) (i : ℕ) (x : List Bool) → i < length xs → x ≡ get_or xs i x → slice_get xs i ≡ Some x
at_level xs i x inside is = slice_get-get_or xs i x inside ∙ ap (λ (level : List Bool). Some level) (sym is)

-- the numbers of a word fit where the set's do
pub word_fits : (marked level : List Bool) (k at most : ℕ) → Summarizes (64 ^ (k + 1)) marked level → length marked < most → at < length level → at * 64 < most
word_fits marked level k at most s fits inside =
    let next : at + 1 ≤ length level = omega (arith, inside) in
    let wide : 64 ≤ 64 ^ (k + 1) = omega (arith, next_span k, span_some k) in
    omega (arith, mul-le-mul_left (64 ^ (k + 1)) next, mul-le-mul_right at wide, s.needed, fits)

-- what holds of the levels up to level i, as it is put, where it holds of those before
pub each_more : (Q : ℕ → List Bool → Type 0) (xs : List (List Bool)) (i : ℕ) (x : List Bool) → i < length xs → ((n : ℕ) (y : List Bool) → n < i → slice_get xs n ≡ Some y → Q n y) → Q i x
    → (n : ℕ) (y : List Bool) → n < i + 1 → slice_get (set xs i x) n ≡ Some y → Q n y
each_more Q xs i x inside before here n y h at = ⊎_elim
    (λ (e : n ≡ i).
    let is : x ≡ y = same_Some x y (sym (slice_set_inside xs i x inside) ∙ ap (λ k. slice_get (set xs i x) k) (sym e) ∙ at) in
    subst (λ (z : List Bool). Q n z) is (subst (λ (k : ℕ). Q k x) (sym e) here))
    (λ (ne : n ≢ i). before n y (omega (arith, h, ne)) (sym (slice_set_other xs i n x ne) ∙ at))
    (cases_eq n i)

-- and the levels from there on are those that they were
pub later_more : (ls xs : List (List Bool)) (i : ℕ) (x : List Bool) → ((n : ℕ) → i ≤ n → slice_get xs n ≡ slice_get ls n) → (n : ℕ) → i + 1 ≤ n → slice_get (set xs i x) n ≡ slice_get ls n
later_more ls xs i x later n h = slice_set_other xs i n x (omega (arith, h)) ∙ later n (omega (arith, h))

-- all levels, where those before level i are as they are to be, and those from there on are as they were and may stay
pub each_level : (Q : ℕ → List Bool → Type 0) (ls xs : List (List Bool)) (i : ℕ) → ((n : ℕ) → i ≤ n → slice_get xs n ≡ slice_get ls n) → ((n : ℕ) (y : List Bool) → n < i → slice_get xs n ≡ Some y → Q n y)
    → ((n : ℕ) (y : List Bool) → i ≤ n → slice_get ls n ≡ Some y → Q n y) → (n : ℕ) (y : List Bool) → slice_get xs n ≡ Some y → Q n y
each_level Q ls xs i later before after n y at = ⊎_elim
    (λ (l : n < i). before n y l at)
    (λ (g : i ≤ n). after n y g (sym (later n g) ∙ at))
    (cases_lt n i)

-- the next state of a set, as the levels show it
pub covered : (marked new : List Bool) (ls xs : List (List Bool)) → length new ≡ length marked → length xs ≡ length ls → IsCovered marked ls → AreLevels new xs → IsCovered new xs
covered marked new ls xs same long was levels = record {
  levels = levels;
  last = omega (arith, same, was.last, ap (λ (n : ℕ). 64 ^ (n + 1)) long);
}

pub full-level : (marked : List Bool) (n : ℕ) (level new : List Bool) → Summarizes (64 ^ (n + 1)) marked level → new ≡ replicate (length level) true → Summarizes (64 ^ (n + 1)) (replicate (length marked) true) new
full-level marked n level new s is =
    subst (Summarizes (64 ^ (n + 1)) (replicate (length marked) true)) (sym is)
    (full-summarizes (64 ^ (n + 1)) (length marked) (length level) (span_some (n + 1)) s.enough s.needed)

module _ (marked : List Bool) (ls : List (List Bool)) (page : ℕ) (inside : page < length marked) (levels : AreLevels marked ls) where
  -- level i has the flag of a marked number up
  pub marked-level : (i : ℕ) (level new : List Bool) → slice_get ls i ≡ Some level → new ≡ set level (page / 64 ^ (i + 1)) true → Summarizes (64 ^ (i + 1)) (set marked page true) new
  marked-level i level new at is =
      subst (Summarizes (64 ^ (i + 1)) (set marked page true)) (sym is) (marked-summarizes (64 ^ (i + 1)) (span_some (i + 1)) marked level (levels i level at) page inside)

  -- where it was up already, it was up on each level above
  pub shown-level : (i : ℕ) (level : List Bool) → slice_get ls i ≡ Some level → slice_get level (page / 64 ^ (i + 1)) ≡ Some true
      → (n : ℕ) (high : List Bool) → i ≤ n → slice_get ls n ≡ Some high → Summarizes (64 ^ (n + 1)) (set marked page true) high
  shown-level i level at up n high h there =
      let m = (levels i level at).down (page / 64 ^ (i + 1)) up in
      let same = same_above m.0 page (i + 1) (n + 1) (omega (arith, h)) m.1 in
      shown-summarizes (64 ^ (n + 1)) (span_some (n + 1)) marked high (levels n high there) page inside
      (subst (λ (word : ℕ). slice_get high word ≡ Some true) same ((levels n high there).up m.0 m.2))

  -- level i has the flag of a word down in which no number is marked any more
  pub emptied-level : (i : ℕ) (level new : List Bool) → slice_get ls i ≡ Some level → new ≡ set level (page / 64 ^ (i + 1)) false → NoneOf (set marked page false) (64 ^ (i + 1)) (page / 64 ^ (i + 1)) → Summarizes (64 ^ (i + 1)) (set marked page false) new
  emptied-level i level new at is none =
      subst (Summarizes (64 ^ (i + 1)) (set marked page false)) (sym is)
      (emptied-summarizes (64 ^ (i + 1)) (span_some (i + 1)) marked level (levels i level at) page inside
      (λ k e up. not_both (set marked page false) k (none k e (slice_get_within (set marked page false) k true up)) up))

  -- where the word of that flag has none up, the word's numbers have none marked
  pub emptied-word : (i : ℕ) (new : List Bool) → Summarizes (64 ^ (i + 1)) (set marked page false) new → NoneOf new 64 (page / 64 ^ (i + 1) / 64) → NoneOf (set marked page false) (64 ^ (i + 1 + 1)) (page / 64 ^ (i + 1 + 1))
  emptied-word i new s none k e within =
      by_word (64 ^ (i + 1)) (span_some (i + 1)) (set marked page false) new s k within
      (none (k / 64 ^ (i + 1)) (next_word k (i + 1) ∙ e ∙ sym (next_word page (i + 1))) (has_word (64 ^ (i + 1)) (span_some (i + 1)) (set marked page false) new s k within))

  -- where another number of a word is marked, the levels above stay
  pub kept-level : (j : ℕ) → HasOne (set marked page false) (64 ^ j) (page / 64 ^ j) → (n : ℕ) (high : List Bool) → j ≤ n + 1 → slice_get ls n ≡ Some high → Summarizes (64 ^ (n + 1)) (set marked page false) high
  kept-level j one n high h there =
      kept-summarizes (64 ^ (n + 1)) (span_some (n + 1)) marked high (levels n high there) page inside one.0 one.2 (same_above one.0 page j (n + 1) h one.1)

  pub kept-word : (i : ℕ) (new : List Bool) → Summarizes (64 ^ (i + 1)) (set marked page false) new → HasOne new 64 (page / 64 ^ (i + 1) / 64) → HasOne (set marked page false) (64 ^ (i + 1 + 1)) (page / 64 ^ (i + 1 + 1))
  kept-word i new s one =
      let m = s.down one.0 one.2 in
      let there : HasOne (set marked page false) (64 ^ (i + 1 + 1)) (page / 64 ^ (i + 1 + 1)) =
      (m.0, sym (next_word m.0 (i + 1)) ∙ ap (λ (w : ℕ). w / 64) m.1 ∙ one.1 ∙ next_word page (i + 1), m.2) in
      there

-- one more level of an empty set
pub levels-push : (marked : List Bool) (ls new : List (List Bool)) (level : List Bool) → AreLevels marked ls → new ≡ ls ++ level ∷ [] → Summarizes (64 ^ (length ls + 1)) marked level → AreLevels marked new
levels-push marked ls new level levels is s n y at = ⊎_elim
    (λ (before : (n < length ls) × (slice_get ls n ≡ Some y)). levels n y before.1)
    (λ (here : (n ≡ length ls) × (y ≡ level)).
    subst (λ (k : ℕ). Summarizes (64 ^ (k + 1)) marked y) (sym here.0) (subst (Summarizes (64 ^ (length ls + 1)) marked) (sym here.1) s))
    (slice_get_pushed ls level y n (subst (λ (all : List (List Bool)). slice_get all n ≡ Some y) is at))

-- the words of the next level are as many as it needs
pub grown-enough : (pages span words more : ℕ) → pages ≤ span * words → words ≤ more * 64 → pages ≤ span * 64 * more
grown-enough pages span words more enough h = omega (arith, enough, mul-le-mul_left span h)

pub grown-needed : (pages span words more : ℕ) → span * words < pages + span → more * 64 < words + 64 → span * 64 * more < pages + span * 64
grown-needed pages span words more needed h =
    let most : more * 64 ≤ words + 63 = omega (arith, h) in omega (arith, needed, mul-le-mul_left span most)

-- each level has the word of a number
pub word_above : (marked : List Bool) (ls : List (List Bool)) (page : ℕ) → page < length marked → AreLevels marked ls → (n : ℕ) (level : List Bool) → slice_get ls n ≡ Some level → page / 64 ^ (n + 1) < length level
word_above marked ls page inside levels n level at = has_word (64 ^ (n + 1)) (span_some (n + 1)) marked level (levels n level at) page inside

-- the first of them
pub levels-take : (marked : List Bool) (ls : List (List Bool)) (k : ℕ) → AreLevels marked ls → AreLevels marked (take k ls)
levels-take marked ls k levels n level at = levels n level (slice_get_taken ls k n level at)
