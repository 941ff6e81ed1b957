-- What a crash may leave of a store that was clean, once a flush has succeeded.
use Rattle.std.proofs.Common.{ℕ, zero, suc, ◌≡◌, ◌+◌, ◌<◌, ◌≤◌, ◌⊎◌, inl, inr, Bool, true, false, List, [], ◌∷◌, ◌++◌, length, Option, Some, None, refl, ap, sym, ◌∙◌, subst, arith}
use Rattle.std.specs.Prelude.{slice_get}
use Rattle.std.specs.List.{AllByRecursion, Contains, filter, find, fold, list_any}
use Rattle.std.specs.Option.{option_to_list}
use Rattle.std.proofs.lemmas.Bool.{cases_lt}
use Rattle.std.proofs.lemmas.Option.{slice_get_within, get_or_from_slice_get}
use Rattle.std.proofs.lemmas.List.{append_assoc, append-nil}
use Rattle.vd_lists.proofs.Places.{some_place}
use Rattle.vd_law.specs.declared.entry.Sector.{Sector}
use Rattle.vd_law.specs.Entries.{Entry, Ask, Issue, Done, Broke, Seen, Reply, Past, nothing, ◌▸◌, past}
use Rattle.vd_law.specs.Contents.{sector_in, issued_contents, Open, is_of, is_of_another, open_writes, contents_after_done, contents_after_seen, could, could_after, last_done, firm_after, versions, may}
use Rattle.vd_law.proofs.Appending.{last_done-le}
use Rattle.vd_law.proofs.RuleLaws.{past-append}
use Rattle.vd_device.specs.Disks.{Disk, IsHonest, IsClean}
use Rattle.vd_device.specs.Quiet.{IsNoWrite}
use Rattle.vd_image.specs.Log.{At, Writes, Ends, Flushes, May}
use Rattle.vd_image.specs.CrashImages.{sectors_or}
use Rattle.vd_image.proofs.Logs.{at_one, at_below, ends_push, flushes_push}
use Rattle.vd_image.proofs.NthWrites.{list_of, list_of-fold, IsNth}
use Rattle.vd_image.proofs.OpenWrites.{IsDoneNth, done_is}
use Rattle.vd_image.proofs.Exact.{sure_below, contains_at, at_contains, at_dropped, may_is_exact}
use Rattle.vd_image.proofs.CrashImages.{at_inside, past_end}
use Rattle.vd_replay.specs.Images.{image_of}
use Rattle.vd_safety.proofs.Orderly.{IsOrderly, OpenAt, IsAmong, could-may, could-last}
use Rattle.vd_format.specs.Background.{zero_sector}

-- The store was clean, and since then no write was begun and a flush was asked that succeeded.
pub record WasClean (old new : Disk) : Type 0 where
  pub clean : IsClean old
  pub start : new.start ≡ old.start
  pub more : List Entry
  pub none : AllByRecursion IsNoWrite more
  pub log : new.log ≡ old.log ++ more
  pub flush : ℕ
  pub flushes : Flushes new.log flush
  pub after : length old.log ≤ flush

-- what each sector holds may be left of it by a crash
abbrev pub AreLeft : Disk → Type 0
AreLeft d = (a : ℕ) (v : Sector) → slice_get d.held a ≡ Some v → Contains (may d.start d.log a) v

-- each write is to a sector of the store
abbrev pub AreInside : Disk → Type 0
AreInside d = (i a : ℕ) (v : Sector) → Writes d.log i a v → a < length d.start

-- ---- entries that begin no write

written_more : (more : List Entry) (p : Past) (s : ℕ) → AllByRecursion IsNoWrite more → issued_contents (fold ◌▸◌ p more) s ≡ issued_contents p s
written_more [] p s none = refl
written_more (Ask c request ∷ more) p s none = written_more more (p ▸ Ask c request) s none.1
written_more (Issue c first content ∷ more) p s none = absurd none.0
written_more (Done c ∷ more) p s none = written_more more (p ▸ Done c) s none.1
written_more (Broke c ∷ more) p s none = written_more more (p ▸ Broke c) s none.1
written_more (Seen c first content ∷ more) p s none = written_more more (p ▸ Seen c first content) s none.1
written_more (Reply c answer ∷ more) p s none = written_more more (p ▸ Reply c answer) s none.1

-- a write that is done stays so, with its number
done_more : (more : List Entry) (p : Past) (s n i d : ℕ) (v : Sector) → IsNth p s n i v → Ends (list_of p) i d → IsNth (fold ◌▸◌ p more) s n i v × Ends (list_of (fold ◌▸◌ p more)) i d
done_more [] p s n i d v nth ends = (nth, ends)
done_more (e ∷ more) p s n i d v nth ends = done_more more (p ▸ e) s n i d v (inl nth) (ends_push (list_of p) e i d ends)

pub flushes-more : (log more : List Entry) (a : ℕ) → Flushes log a → Flushes (log ++ more) a
flushes-more log [] a h = subst (λ (l : List Entry). Flushes l a) (sym (append-nil log)) h
flushes-more log (e ∷ more) a h = subst (λ (l : List Entry). Flushes l a) (append_assoc log (e ∷ []) more) (flushes-more (log ++ e ∷ []) more a (flushes_push log e a h))

-- ---- each sector has one content

-- the last write that was done before a flush that succeeded is firm
firm_all : (old more : List Entry) (s q : ℕ) → Flushes (old ++ more) q → length old ≤ q → last_done (past old) s ≤ firm_after (past (old ++ more)) s
firm_all old more s q flushes after = subst (λ (p : Past). last_done (past old) s ≤ firm_after p s) (sym (past-append old more nothing)) (by_done (done_is (past old) s))
  where
    all : Past
    all = fold ◌▸◌ (past old) more

    entries : list_of (fold ◌▸◌ (past old) more) ≡ old ++ more
    entries = list_of-fold more (past old) ∙ ap (λ (xs : List Entry). xs ++ more) (list_of-fold old nothing)

    by_done : (last_done (past old) s ≡ 0) ⊎ IsDoneNth (past old) s (last_done (past old) s) → last_done (past old) s ≤ firm_after (fold ◌▸◌ (past old) more) s
    by_done (inl none) = omega (arith, none)
    by_done (inr h) =
        let k = done_more more (past old) s (last_done (past old) s) h.0 h.1 h.2 h.3 h.4 in
        let below = at_below (list_of (past old)) h.1 (Done h.4.id) h.4.done in
        let size : length (list_of (past old)) ≡ length old = ap length (list_of-fold old nothing) in
        sure_below (fold ◌▸◌ (past old) more) s (last_done (past old) s) h.0 h.2 k.0
        (record { done = h.1; asked = q; ends = k.1; before = omega (arith, below, size, after); flushes = subst (λ (l : List Entry). Flushes l q) (sym entries) flushes })

-- Each content that a crash may leave is the last version.
left_last : (old new : Disk) → WasClean old new → (a : ℕ) (x v : Sector) → slice_get old.start a ≡ Some x → Contains (may old.start new.log a) v → At (x ∷ issued_contents (past old.log) a) (length (issued_contents (past old.log) a)) v
left_last old new was a x v told left = subst (λ (i : ℕ). At (x ∷ issued_contents (past old.log) a) i v) last here
  where
    writes_same : issued_contents (past new.log) a ≡ issued_contents (past old.log) a
    writes_same = ap (λ (l : List Entry). issued_contents (past l) a) was.log ∙ ap (λ (p : Past). issued_contents p a) (past-append old.log was.more nothing) ∙ written_more was.more (past old.log) a was.none

    listed : (k : ℕ) × At (may old.start new.log a) k v
    listed = contains_at (may old.start new.log a) v left

    here : At (x ∷ issued_contents (past old.log) a) (firm_after (past new.log) a + listed.0) v
    here = subst (λ (ws : List Sector). At (x ∷ ws) (firm_after (past new.log) a + listed.0) v) writes_same
        (subst (λ (o : Option Sector). At (option_to_list o ++ issued_contents (past new.log) a) (firm_after (past new.log) a + listed.0) v) told
        (at_dropped (firm_after (past new.log) a) (versions old.start (past new.log) a) listed.0 (firm_after (past new.log) a + listed.0) v refl listed.1))

    firm : last_done (past old.log) a ≤ firm_after (past new.log) a
    firm = subst (λ (l : List Entry). last_done (past old.log) a ≤ firm_after (past l) a) (sym was.log)
        (firm_all old.log was.more a was.flush (subst (λ (l : List Entry). Flushes l was.flush) was.log was.flushes) was.after)

    last : firm_after (past new.log) a + listed.0 ≡ length (issued_contents (past old.log) a)
    last = let below = at_below (x ∷ issued_contents (past old.log) a) (firm_after (past new.log) a + listed.0) v here in let done = (was.clean a).1 in omega (arith, below, firm, done)

clean_left : (zeros : Sector) (old new : Disk) → WasClean old new → AreLeft new → length new.held ≡ length new.start → AreInside new → (a : ℕ) (v : Sector) → May (sectors_or zeros new.start) new.log a v → v ≡ sectors_or zeros new.held a
clean_left zeros old new was held size inside a v left = elim (cases_lt a (length new.start)) [
  | inl within ↦ here (some_place new.start a within) (some_place new.held a (omega arith)) within
  | inr past_it ↦ there past_it left
]
  where
    there : length new.start ≤ a → May (sectors_or zeros new.start) new.log a v → v ≡ sectors_or zeros new.held a
    there past_it (inl h) = h.value ∙ past_end zeros new.start a past_it ∙ sym (past_end zeros new.held a (omega (arith, size, past_it)))
    there past_it (inr h) = absurd (let k = inside h.at a v h.writes in omega (arith, k, past_it))

    here : (x : Sector) × (slice_get new.start a ≡ Some x) → (u : Sector) × (slice_get new.held a ≡ Some u) → a < length new.start → v ≡ sectors_or zeros new.held a
    here (x, told) (u, holds) within =
        let begun : slice_get old.start a ≡ Some x = ap (λ (xs : List Sector). slice_get xs a) (sym was.start) ∙ told in
        let listed = (may_is_exact new.start (sectors_or zeros new.start) new.log a v (at_inside zeros new.start a within)).1 left in
        let one = left_last old new was a x v begun (subst (λ (xs : List Sector). Contains (may xs new.log a) v) was.start listed) in
        let two = left_last old new was a x u begun (subst (λ (xs : List Sector). Contains (may xs new.log a) u) was.start (held a u holds)) in
        at_one (x ∷ issued_contents (past old.log) a) (length (issued_contents (past old.log) a)) v u one two ∙ sym (get_or_from_slice_get new.held a u zeros holds)

-- Every content that a crash may leave is what is held.
pub clean-left : (old new : Disk) → WasClean old new → AreLeft new → length new.held ≡ length new.start → AreInside new → (a : ℕ) (v : Sector) → May (sectors_or zero_sector new.start) new.log a v → v ≡ image_of new.held a
clean-left old new was held size inside a v left = clean_left zero_sector old new was held size inside a v left

-- ---- by an orderly log

-- what an honest store with an orderly log holds may be left by a crash
pub honest-left : (d : Disk) → IsHonest d → IsOrderly d.start (past d.log) → length d.held ≡ length d.start → AreLeft d
honest-left d honest orderly size a v at =
    let x = some_place d.start a (let k = slice_get_within d.held a v at in omega (arith, k, size)) in
    could-may d.start d.log a x.0 v x.1 orderly (honest a v at)

open_more : (more : List Entry) (p : Past) (s : ℕ) → AllByRecursion IsNoWrite more → open_writes p s ≡ [] → open_writes (fold ◌▸◌ p more) s ≡ []
open_more [] p s none calm = calm
open_more (Ask c request ∷ more) p s none calm = open_more more (p ▸ Ask c request) s none.1 calm
open_more (Issue c first content ∷ more) p s none calm = absurd none.0
open_more (Done c ∷ more) p s none calm = open_more more (p ▸ Done c) s none.1 (ap (λ (ws : List Open). filter (is_of_another c) ws) calm)
open_more (Broke c ∷ more) p s none calm = open_more more (p ▸ Broke c) s none.1 (ap (λ (ws : List Open). filter (is_of_another c) ws) calm)
open_more (Seen c first content ∷ more) p s none calm = open_more more (p ▸ Seen c first content) s none.1 calm
open_more (Reply c answer ∷ more) p s none calm = open_more more (p ▸ Reply c answer) s none.1 calm

-- where no write is open, such entries leave what could be there, or what was seen last alone
abbrev SeenLast : List Sector → List Sector → Type 0
SeenLast before now = (now ≡ before) ⊎ ((g : Sector) × (now ≡ g ∷ []))

seen_last : (before : List Sector) (o : Option Sector) (others : Bool) → SeenLast before (contents_after_seen o others before)
seen_last before None others = inl refl
seen_last before (Some v) true = inl refl
seen_last before (Some v) false = inr (v, refl)

seen_then : (a b c : List Sector) → SeenLast a b → SeenLast b c → SeenLast a c
seen_then a b c x (inr y) = inr y
seen_then a b c (inl x) (inl y) = inl (y ∙ x)
seen_then a b c (inr x) (inl y) = inr (x.0, y ∙ x.1)

could_more : (start : List Sector) (more : List Entry) (p : Past) (s : ℕ) → AllByRecursion IsNoWrite more → open_writes p s ≡ [] → SeenLast (could_after start p s) (could_after start (fold ◌▸◌ p more) s)
could_more start [] p s none calm = inl refl
could_more start (Ask c request ∷ more) p s none calm = could_more start more (p ▸ Ask c request) s none.1 calm
could_more start (Issue c first content ∷ more) p s none calm = absurd none.0
could_more start (Done c ∷ more) p s none calm =
    seen_then (could_after start p s) (could_after start (p ▸ Done c) s) (could_after start (fold ◌▸◌ (p ▸ Done c) more) s) (inl (ap (λ (ws : List Open). contents_after_done (find (is_of c) ws) (could_after start p s)) calm))
    (could_more start more (p ▸ Done c) s none.1 (ap (λ (ws : List Open). filter (is_of_another c) ws) calm))
could_more start (Broke c ∷ more) p s none calm = could_more start more (p ▸ Broke c) s none.1 (ap (λ (ws : List Open). filter (is_of_another c) ws) calm)
could_more start (Seen c first content ∷ more) p s none calm =
    seen_then (could_after start p s) (could_after start (p ▸ Seen c first content) s) (could_after start (fold ◌▸◌ (p ▸ Seen c first content) more) s)
    (seen_last (could_after start p s) (sector_in first content s) (list_any (is_of_another c) (open_writes p s))) (could_more start more (p ▸ Seen c first content) s none.1 calm)
could_more start (Reply c answer ∷ more) p s none calm = could_more start more (p ▸ Reply c answer) s none.1 calm

single_at : (g u : Sector) (k : ℕ) → At (g ∷ []) k u → g ≡ u
single_at g u zero at = cc
single_at g u (suc k) at = absurd cc

-- The log of an honest store that was clean is orderly after such entries, whatever was seen, where what is held is what it was.
pub orderly-still : (old new : Disk) → WasClean old new → IsHonest old → IsOrderly old.start (past old.log) → length old.held ≡ length old.start → new.held ≡ old.held → IsHonest new → IsOrderly new.start (past new.log)
orderly-still old new was honest_old orderly size held honest_new =
    subst (λ (p : Past). IsOrderly new.start p) (sym log_is) (subst (λ (xs : List Sector). IsOrderly xs (fold ◌▸◌ (past old.log) was.more)) (sym was.start) (record { one = one; among = among }))
  where
    log_is : past new.log ≡ fold ◌▸◌ (past old.log) was.more
    log_is = ap past was.log ∙ past-append old.log was.more nothing

    one : (s : ℕ) (x : Sector) → slice_get old.start s ≡ Some x → OpenAt x (open_writes (fold ◌▸◌ (past old.log) was.more) s) (last_done (fold ◌▸◌ (past old.log) was.more) s) (issued_contents (fold ◌▸◌ (past old.log) was.more) s)
    one s x told = inl (open_more was.more (past old.log) s was.none (was.clean s).0)

    -- the last version is late enough
    at_last : (s : ℕ) (x u : Sector) → slice_get old.start s ≡ Some x → Contains (could old.start old.log s) u → IsAmong x (last_done (fold ◌▸◌ (past old.log) was.more) s) (issued_contents (fold ◌▸◌ (past old.log) was.more) s) u
    at_last s x u told could_be =
        let last = could-last old.start old.log s x u told orderly (was.clean s).1 could_be in
        let here : At (x ∷ issued_contents (past old.log) s) (length (issued_contents (past old.log) s)) u = subst (λ (o : Option Sector). At (option_to_list o ++ issued_contents (past old.log) s) (length (issued_contents (past old.log) s)) u) told last in
        let same = written_more was.more (past old.log) s was.none in (
          length (issued_contents (past old.log) s),
          (let k = last_done-le (fold ◌▸◌ (past old.log) was.more) s in let n = ap length same in omega (arith, k, n)),
          subst (λ (ws : List Sector). At (x ∷ ws) (length (issued_contents (past old.log) s)) u) (sym same) here,
        )

    by_could : (s : ℕ) (x : Sector) → slice_get old.start s ≡ Some x → SeenLast (could old.start old.log s) (could_after old.start (fold ◌▸◌ (past old.log) was.more) s)
        → (k : ℕ) (u : Sector) → At (could_after old.start (fold ◌▸◌ (past old.log) was.more) s) k u → IsAmong x (last_done (fold ◌▸◌ (past old.log) was.more) s) (issued_contents (fold ◌▸◌ (past old.log) was.more) s) u
    by_could s x told (inl same) k u at = at_last s x u told (at_contains (could old.start old.log s) k u (subst (λ (c : List Sector). At c k u) same at))
    by_could s x told (inr (g, alone)) k u at =
        let w = some_place old.held s (let n = slice_get_within old.start s x told in omega (arith, n, size)) in
        let now : Contains (could new.start new.log s) w.0 = honest_new s w.0 (ap (λ (xs : List Sector). slice_get xs s) held ∙ w.1) in
        let there : Contains (g ∷ []) w.0 = subst (λ (c : List Sector). Contains c w.0) (ap (λ (xs : List Sector). could_after xs (past new.log) s) was.start ∙ ap (λ (p : Past). could_after old.start p s) log_is ∙ alone) now in
        let place = contains_at (g ∷ []) w.0 there in
        let same : w.0 ≡ u = sym (single_at g w.0 place.0 place.1) ∙ single_at g u k (subst (λ (c : List Sector). At c k u) alone at) in
        at_last s x u told (subst (λ (v : Sector). Contains (could old.start old.log s) v) same (honest_old s w.0 w.1))

    among : (s : ℕ) (x : Sector) → slice_get old.start s ≡ Some x → (k : ℕ) (u : Sector) → At (could_after old.start (fold ◌▸◌ (past old.log) was.more) s) k u
        → IsAmong x (last_done (fold ◌▸◌ (past old.log) was.more) s) (issued_contents (fold ◌▸◌ (past old.log) was.more) s) u
    among s x told = by_could s x told (could_more old.start was.more (past old.log) s was.none (was.clean s).0)
