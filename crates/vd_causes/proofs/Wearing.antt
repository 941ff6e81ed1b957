-- What a history says of its flushes, and what the change of one pass makes of the generation and of them.
use Rattle.std.proofs.Common.{◌≡◌, ℕ, ◌+◌, ◌-◌, ◌≤◌, inl, inr, Bool, true, false, cond, not, List, [], ◌∷◌, ◌++◌, length, take, refl, sym, ap, subst, ◌∙◌, arith, Some, None, slice_get, count_by}
use Rattle.std.specs.Prelude.{if◌then◌else◌}
use Rattle.std.specs.List.{fold}
use Rattle.std.proofs.Math.Seq.{take-append-add}
use Rattle.std.proofs.lemmas.Bool.{cases_Bool}
use Rattle.std.proofs.lemmas.List.{take-append-le, append-nil}
use Rattle.std.proofs.lemmas.List.Sums.{sum_by-cons, sum_by-append}
use Rattle.vd_lists.proofs.Changes.{slice_set_either}
use Rattle.vd_lists.proofs.Counting.{sum_of_changed}
use Rattle.vd_lists.proofs.Places.{slice_get_either}
use Rattle.vd_law.specs.declared.entry.CallId.{CallId}
use Rattle.vd_law.specs.declared.entry.Answer.TheVariants.{Worn}
use Rattle.vd_law.specs.Entries.{Asked, Read, Write, Flush, Entry, Ask, Issue, Done, Broke, Seen, Reply, same_call, Past, nothing, ◌▸◌, past}
use Rattle.vd_law.specs.Calls.{Progress, progress, progress_after}
use Rattle.vd_law.specs.Rules.{Each, IsInTurn, IsRegular}
use Rattle.vd_law.proofs.CallLaws.{next-call}
use Rattle.vd_law.proofs.Opening.{same_call-is}
use Rattle.vd_keeper.specs.Keeping.{KeeperState}
use Rattle.vd_keeper.specs.Flushes.{last_generation}
use Rattle.vd_passes.specs.declared.pass.Pass.{Pass}
use Rattle.vd_passes.specs.declared.pass.Phase.TheVariants.{Ready}
use Rattle.vd_passes.specs.declared.pass.Fault.TheVariants as fault
use Rattle.vd_passes.specs.Causes.{one_if}
use Rattle.vd_passes.specs.Requests.{RequestState, with_pass, with_entries}
use Rattle.vd_causes.specs.Wearing.{asks_flush, asks_other_flush, AreWornsCaused, is_unsealed, RisesAddUp}

-- A call asks one flush at most.

abbrev count_in : (Entry → Bool) → Past → ℕ
count_in f nothing = 0
count_in f (p ▸ e) = count_in f p + one_if (f e)

count-past : (f : Entry → Bool) (log : List Entry) (p : Past) → count_in f (fold ◌▸◌ p log) ≡ count_in f p + count_by f log
count-past f [] p = omega arith
count-past f (e ∷ es) p = let a = count-past f es (p ▸ e) in let b = sum_by-cons (λ x. cond (f x) 1 0) e es in omega (arith, a, b)

asked-earlier : (same : Bool) (c : Progress) (e : Entry) → (if same then progress_after c e else c).asked ≡ None → c.asked ≡ None
asked-earlier false c e none = none
asked-earlier true c (Ask id request) none = absurd cc
asked-earlier true c (Issue id first content) none = none
asked-earlier true c (Done id) none = none
asked-earlier true c (Broke id) none = none
asked-earlier true c (Seen id first content) none = none
asked-earlier true c (Reply id answer) none = none

asked-other : (same : Bool) (c : Progress) (id : CallId) (request : Asked) → (if same then progress_after c (Ask id request) else c).asked ≡ None → same ≡ false
asked-other false c id request none = refl
asked-other true c id request none = absurd cc

-- the Ask of another call counts as one of another
counts-other : (id c : CallId) (request : Asked) → same_call c id ≡ false → one_if (asks_other_flush id (Ask c request)) ≡ one_if (asks_flush (Ask c request))
counts-other id c (Read first count) other = refl
counts-other id c (Write first content) other = refl
counts-other id c Flush other = ap (λ (b : Bool). one_if (not b)) other

most-one : (b : Bool) → one_if b ≤ 1
most-one true = omega arith
most-one false = omega arith

unasked : (p : Past) (id : CallId) → (progress p id).asked ≡ None → count_in asks_flush p ≤ count_in (asks_other_flush id) p
unasked nothing id none = omega arith
unasked (p ▸ Ask c request) id none =
    let a = unasked p id (asked-earlier (same_call c id) (progress p id) (Ask c request) none) in
    let b = counts-other id c request (asked-other (same_call c id) (progress p id) c request none) in omega (arith, a, b)
unasked (p ▸ Issue c first content) id none = let a = unasked p id (asked-earlier (same_call c id) (progress p id) (Issue c first content) none) in omega (arith, a)
unasked (p ▸ Done c) id none = let a = unasked p id (asked-earlier (same_call c id) (progress p id) (Done c) none) in omega (arith, a)
unasked (p ▸ Broke c) id none = let a = unasked p id (asked-earlier (same_call c id) (progress p id) (Broke c) none) in omega (arith, a)
unasked (p ▸ Seen c first content) id none = let a = unasked p id (asked-earlier (same_call c id) (progress p id) (Seen c first content) none) in omega (arith, a)
unasked (p ▸ Reply c answer) id none = let a = unasked p id (asked-earlier (same_call c id) (progress p id) (Reply c answer) none) in omega (arith, a)

one-in-past : (size : ℕ) (p : Past) → Each (IsInTurn size) p → (id : CallId) → count_in asks_flush p ≤ count_in (asks_other_flush id) p + 1
one-in-past size nothing turns id = omega arith
one-in-past size (p ▸ Ask c request) turns id = elim (cases_Bool (same_call c id)) [
  | inl same ↦
      let a = unasked p c (ap (λ (d : Progress). d.asked) (next-call size p c turns.0 turns.1.0)) in
      let b = ap (λ (d : CallId). count_in (asks_other_flush d) p) (same_call-is c id same) in
      let m = most-one (asks_flush (Ask c request)) in omega (arith, a, b, m)
  | inr other ↦ let a = one-in-past size p turns.0 id in let b = counts-other id c request other in omega (arith, a, b)
]
one-in-past size (p ▸ Issue c first content) turns id = let a = one-in-past size p turns.0 id in omega (arith, a)
one-in-past size (p ▸ Done c) turns id = let a = one-in-past size p turns.0 id in omega (arith, a)
one-in-past size (p ▸ Broke c) turns id = let a = one-in-past size p turns.0 id in omega (arith, a)
one-in-past size (p ▸ Seen c first content) turns id = let a = one-in-past size p turns.0 id in omega (arith, a)
one-in-past size (p ▸ Reply c answer) turns id = let a = one-in-past size p turns.0 id in omega (arith, a)

-- so all flushes but one at most are of other calls
pub one-flush : (size : ℕ) (log : List Entry) → IsRegular size log → (id : CallId) → count_by asks_flush log ≤ count_by (asks_other_flush id) log + 1
one-flush size log regular id =
    let a = count-past asks_flush log nothing in let b = count-past (asks_other_flush id) log nothing in
    let c = one-in-past size (past log) regular.in_turn id in omega (arith, a, b, c)

-- Further entries, of which each Worn is caused.

abbrev pub AreCausedNext : (at_opening : ℕ) (log more : List Entry) → Type 0
AreCausedNext at_opening log more = (to : ℕ) (id : CallId) (n : ℕ) → slice_get more to ≡ Some (Reply id (Worn n))
    → (n ≡ last_generation) × (last_generation ≤ at_opening + count_by (asks_other_flush id) log)

pub caused-more : (at_opening : ℕ) (log more : List Entry) → AreWornsCaused at_opening log → AreCausedNext at_opening log more → AreWornsCaused at_opening (log ++ more)
caused-more at_opening log more before next to id n there = elim (slice_get_either log more to (Reply id (Worn n)) there) [
  | inl front ↦ let w = before to id n front.1 in let less = front.0 in
      let same = ap (λ h. count_by (asks_other_flush id) h) (take-append-le to log more (omega (arith, less))) in
      let reached = w.1 in (w.0, omega (arith, same, reached))
  | inr back ↦ let w = next (to - length log) id n back.1 in let over = back.0 in let k = to - length log in
      let is : to ≡ length log + k = omega (arith, over) in
      let parts = ap (λ h. count_by (asks_other_flush id) h) (ap (λ m. take m (log ++ more)) is ∙ take-append-add log more k) in
      let sum = sum_by-append (λ e. cond (asks_other_flush id e) 1 0) log (take k more) in
      let reached = w.1 in (w.0, omega (arith, parts, sum, reached))
]

-- The pass i changes, and further entries are told.
module _ {at_opening : ℕ} {k k' : KeeperState} {r : RequestState} (rises : RisesAddUp at_opening k r) (i : ℕ) (p p' : Pass) (there : slice_get r.passes i ≡ Some p) (more : List Entry) where
  pub changed-rises : k.header.generation ≤ k'.header.generation
      → k'.header.generation + one_if (is_unsealed p') ≤ k.header.generation + one_if (is_unsealed p) + count_by asks_flush more
      → ((n : ℕ) → p'.phase ≡ Ready → p'.fault ≡ Some (fault.Worn n) → (n ≡ last_generation) × (last_generation ≤ k'.header.generation))
      → AreCausedNext at_opening r.entries more → RisesAddUp at_opening k' (with_entries more (with_pass i p' r))
  changed-rises later bound worn told = record {
    caused = caused-more at_opening r.entries more rises.caused told;
    now =
        let a = sum_of_changed (λ x. cond (is_unsealed x) 1 0) r.passes i p p' there in
        let b = sum_by-append (λ e. cond (asks_flush e) 1 0) r.entries more in
        let c = rises.now in omega (arith, a, b, c, bound);
    worn = λ j q n at ready is. elim (slice_set_either r.passes i j p' p q there at) [
      | inl here ↦ worn n (ap (λ (x : Pass). x.phase) (sym here.1) ∙ ready) (ap (λ (x : Pass). x.fault) (sym here.1) ∙ is)
      | inr other ↦ let w = rises.worn j q n other.1 ready is in let reached = w.1 in (w.0, omega (arith, reached, later))
    ];
  }

-- the same generation, passes and entries
pub same-rises : {at_opening : ℕ} {k k' : KeeperState} {r r' : RequestState} → RisesAddUp at_opening k r → k'.header.generation ≡ k.header.generation → r'.passes ≡ r.passes → r'.entries ≡ r.entries → RisesAddUp at_opening k' r'
same-rises {at_opening} {k} {k'} {r} {r'} rises same passes entries = record {
  caused = subst (AreWornsCaused at_opening) (sym entries) rises.caused;
  now = let a = rises.now in let b = ap (λ ps. count_by is_unsealed ps) passes in let c = ap (λ es. count_by asks_flush es) entries in omega (arith, a, b, c, same);
  worn = λ j q n at ready is. let w = rises.worn j q n (ap (λ ps. slice_get ps j) (sym passes) ∙ at) ready is in let reached = w.1 in (w.0, omega (arith, reached, same));
}

-- The flushes stand: the pass has no open flush and no Worn to tell that it hadn't.
pub record HasNoMore (p p' : Pass) : Type 0 where
  pub unsealed : is_unsealed p' ≡ true → is_unsealed p ≡ true
  pub worn : (n : ℕ) → p'.phase ≡ Ready → p'.fault ≡ Some (fault.Worn n) → (p.phase ≡ Ready) × (p.fault ≡ Some (fault.Worn n))

abbrev pub TellsNoWorn : List Entry → Type 0
TellsNoWorn more = (to : ℕ) (id : CallId) (n : ℕ) → slice_get more to ≡ Some (Reply id (Worn n)) → ⊥

pub no-more : (b b' : Bool) → (b' ≡ true → b ≡ true) → one_if b' ≤ one_if b
no-more b false keeps = omega arith
no-more true true keeps = omega arith
no-more false true keeps = absurd (let e = keeps refl in cc)

-- then nothing is amiss, with the header as it was
module _ {at_opening : ℕ} {k k' : KeeperState} {r : RequestState} (rises : RisesAddUp at_opening k r) (same : k'.header ≡ k.header) (i : ℕ) {p : Pass} (p' : Pass) (there : slice_get r.passes i ≡ Some p) (keeps : HasNoMore p p') where
  pub stands-rises : (more : List Entry) → TellsNoWorn more → RisesAddUp at_opening k' (with_entries more (with_pass i p' r))
  stands-rises more silent =
      let g = ap {B = ℕ} (λ h. h.generation) same in
      changed-rises rises i p p' there more (omega (arith, g)) (let m = no-more (is_unsealed p) (is_unsealed p') keeps.unsealed in omega (arith, g, m))
      (λ n ready is. let was = keeps.worn n ready is in let w = rises.worn i p n there was.0 was.1 in let reached = w.1 in (w.0, omega (arith, reached, g)))
      (λ to id n at. absurd (silent to id n at))

  pub pass-rises : RisesAddUp at_opening k' (with_pass i p' r)
  pass-rises = same-rises (stands-rises [] (λ to id n at. absurd cc)) refl refl (sym (append-nil r.entries))
