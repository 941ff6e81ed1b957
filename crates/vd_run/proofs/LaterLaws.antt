-- What was safe stays so while nothing more is written: a crash leaves no other images then.
use Rattle.std.proofs.Common.{ℕ, zero, suc, ◌≡◌, ◌+◌, ◌-◌, ◌≤◌, inl, inr, Bool, true, cond, List, [], ◌∷◌, ◌++◌, length, take, refl, ap, sym, ◌∙◌, subst, arith}
use Rattle.std.specs.Prelude.{nat_le, Some, slice_get}
use Rattle.std.specs.List.{AllByRecursion, Contains, fold}
use Rattle.std.proofs.Math.Seq.{take-append-add}
use Rattle.std.proofs.lemmas.Bool.{cases_lt, le-leb}
use Rattle.std.proofs.lemmas.List.{take-append-le, take_all}
use Rattle.std.proofs.lemmas.List.Sums.{sum_by-cons}
use Rattle.vd_law.specs.declared.entry.Sector.{Sector}
use Rattle.vd_law.specs.Entries.{Entry, Ask, Issue, Done, Broke, Seen, Reply, Past, nothing, ◌▸◌, past}
use Rattle.vd_law.specs.Contents.{firm_after, versions, may_after, may}
use Rattle.vd_law.specs.Histories.{HistoryState, count_up_to, entries_up_to}
use Rattle.vd_law.proofs.RuleLaws.{past-append}
use Rattle.vd_device.specs.Disks.{Disk}
use Rattle.vd_device.specs.Quiet.{IsNoWrite, AddsNoWrite}
use Rattle.vd_image.specs.Image.{Format, Layout}
use Rattle.vd_image.specs.CrashImages.{IsCrashImage}
use Rattle.vd_image.proofs.Exact.{firm_more, contains_at, at_contains, at_dropped, dropped_at}
use Rattle.vd_crash.specs.facts.CrashSafe.{IsCrashSafe}
use Rattle.vd_core.specs.Opening.{IsNumberedIn}

-- ---- an entry that begins no write leaves no more

same_versions : (start : List Sector) (p : Past) (e : Entry) (s : ℕ) → IsNoWrite e → versions start (p ▸ e) s ≡ versions start p s
same_versions start p (Ask id request) s none = refl
same_versions start p (Issue id first content) s none = absurd none
same_versions start p (Done id) s none = refl
same_versions start p (Broke id) s none = refl
same_versions start p (Seen id first content) s none = refl
same_versions start p (Reply id answer) s none = refl

fewer_left : (start : List Sector) (p : Past) (e : Entry) (s : ℕ) (v : Sector) → IsNoWrite e → Contains (may_after start (p ▸ e) s) v → Contains (may_after start p s) v
fewer_left start p e s v none left =
    let there = contains_at (may_after start (p ▸ e) s) v left in
    let place = at_dropped (firm_after (p ▸ e) s) (versions start (p ▸ e) s) there.0 (firm_after (p ▸ e) s + there.0) v refl there.1 in
    let more = firm_more p e s in
    at_contains (may_after start p s) (firm_after (p ▸ e) s + there.0 - firm_after p s) v
    (dropped_at (firm_after p s) (versions start p s) (firm_after (p ▸ e) s + there.0 - firm_after p s) (firm_after (p ▸ e) s + there.0) v (omega (arith, more))
    (subst (λ (vs : List Sector). slice_get vs (firm_after (p ▸ e) s + there.0) ≡ Some v) (same_versions start p e s none) place))

left_before : (start : List Sector) (more : List Entry) (p : Past) (s : ℕ) (v : Sector) → AllByRecursion IsNoWrite more → Contains (may_after start (fold ◌▸◌ p more) s) v → Contains (may_after start p s) v
left_before start [] p s v none left = left
left_before start (e ∷ more) p s v none left = fewer_left start p e s v none.0 (left_before start more (p ▸ e) s v none.1 left)

image_before : (start : List Sector) (log more : List Entry) (image : List Sector) → AllByRecursion IsNoWrite more → IsCrashImage start (log ++ more) image → IsCrashImage start log image
image_before start log more image none crash = record {
  size = crash.size;
  sectors = λ s v at. left_before start more (past log) s v none (subst (λ (p : Past). Contains (may_after start p s) v) (past-append log more nothing) (crash.sectors s v at));
}

front_quiet : (k : ℕ) (es : List Entry) → AllByRecursion IsNoWrite es → AllByRecursion IsNoWrite (take k es)
front_quiet zero es none = tt
front_quiet (suc k) [] none = tt
front_quiet (suc k) (e ∷ es) none = (none.0, front_quiet k es none.1)

-- ---- the whole history

all_counted : (numbers : List ℕ) (m k : ℕ) → AllByRecursion (λ (n : ℕ). n ≤ m) numbers → m ≤ k → count_up_to k numbers ≡ length numbers
all_counted [] m k below less = refl
all_counted (n ∷ numbers) m k below less =
    let yes : nat_le n k ≡ true = le-leb n k (let low = below.0 in omega (arith, low, less)) in
    let rest = all_counted numbers m k below.1 less in
    let whole : 1 + count_up_to k numbers ≡ suc (length numbers) = omega (arith, rest) in
    sum_by-cons (λ (x : ℕ). cond (nat_le x k) 1 0) n numbers ∙ ap (λ (b : Bool). cond b 1 0 + count_up_to k numbers) yes ∙ whole

same_entries : (history : HistoryState) (m k : ℕ) → AllByRecursion (λ (n : ℕ). n ≤ m) history.numbers → m ≤ k → entries_up_to k history ≡ entries_up_to m history
same_entries history m k below less = ap (λ (n : ℕ). take n history.log.entries) (all_counted history.numbers m k below less ∙ sym (all_counted history.numbers m m below (omega arith)))

-- ---- safe at later moments

module _ (f : Format) (l : Layout) (base : ℕ → Sector) (zeros : Sector) (start : List Sector) (log more : List Entry) (disk : List Sector) (history : HistoryState)
    (none : AllByRecursion IsNoWrite more) (within : IsNumberedIn log history) (safe : IsCrashSafe f l base zeros start log disk history) where
  earlier_image : (k : ℕ) (image : List Sector) → k ≤ length log → IsCrashImage start (take k (log ++ more)) image → IsCrashImage start (take k log) image
  earlier_image k image early crash = subst (λ (es : List Entry). IsCrashImage start es image) (take-append-le k log more early) crash

  last_image : (k : ℕ) (image : List Sector) → length log ≤ k → IsCrashImage start (take k (log ++ more)) image → IsCrashImage start (take (length log) log) image
  last_image k image late crash =
      let many : length log + (k - length log) ≡ k = omega (arith, late) in
      let split : take k (log ++ more) ≡ log ++ take (k - length log) more = ap (λ (n : ℕ). take n (log ++ more)) (sym many) ∙ take-append-add log more (k - length log) in
      subst (λ (es : List Entry). IsCrashImage start es image) (sym (take_all (length log) log (omega arith)))
      (image_before start log (take (k - length log) more) image (front_quiet (k - length log) more none) (subst (λ (es : List Entry). IsCrashImage start es image) split crash))

  safe_on : IsCrashSafe f l base zeros start (log ++ more) disk history
  safe_on = record {
    sound = λ k image since until crash. elim (cases_lt k (length log)) [
      | inl early ↦ safe.sound k image since (omega (arith, early)) (earlier_image k image (omega (arith, early)) crash)
      | inr late ↦ safe.sound (length log) image within.opened (omega arith) (last_image k image late crash)
    ];
    allowed = λ k image since until crash s v less has. elim (cases_lt k (length log)) [
      | inl early ↦ safe.allowed k image since (omega (arith, early)) (earlier_image k image (omega (arith, early)) crash) s v less has
      | inr late ↦
          subst (λ (es : List Entry). Contains (may disk es s) v) (sym (same_entries history (length log) k within.below late))
          (safe.allowed (length log) image within.opened (omega arith) (last_image k image late crash) s v less has)
    ];
  }

-- on a store that is only read
pub safe_later : (f : Format) (l : Layout) (base : ℕ → Sector) (zeros : Sector) (old new : Disk) (disk : List Sector) (history : HistoryState) → AddsNoWrite old new → IsNumberedIn old.log history → IsCrashSafe f l base zeros old.start old.log disk history
    → IsCrashSafe f l base zeros new.start new.log disk history
safe_later f l base zeros old new disk history adds within safe =
    subst (λ (xs : List Sector). IsCrashSafe f l base zeros xs new.log disk history) (sym adds.start)
    (subst (λ (es : List Entry). IsCrashSafe f l base zeros old.start es disk history) (sym adds.log) (safe_on f l base zeros old.start old.log adds.more disk history adds.none within safe))
