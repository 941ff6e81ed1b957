-- What writes of one content over a range leave, and a flush of them.
use Rattle.std.proofs.Common.{ℕ, ◌≡◌, ◌+◌, ◌-◌, ◌<◌, ◌≤◌, ◌⊎◌, inl, inr, Bool, List, [], ◌∷◌, ◌++◌, length, drop, take, Option, Some, None, Result, Ok, Err, refl, ap, sym, ◌∙◌, subst, arith, append-nil}
use Rattle.std.specs.Prelude.{slice_get, slice_index_or, ⊤, OnOk, not, if◌then◌else◌}
use Rattle.std.specs.List.{AllByRecursion, Contains, filter}
use Rattle.std.proofs.lemmas.List.{append_assoc, take-append-drop}
use Rattle.std.proofs.lemmas.Option.{slice_get-get_or, slice_get_within}
use Rattle.vd_law.specs.declared.entry.Sector.{Sector}
use Rattle.vd_law.specs.declared.entry.CallId.{CallId}
use Rattle.vd_law.specs.Entries.{Entry, Ask, Issue, Done, Broke, Seen, Reply, Past, nothing, ◌▸◌, past}
use Rattle.vd_law.specs.Contents.{sector_in, issued_contents, Open, is_of_another, open_after_issue, open_writes, contents_after_done, could_after, could}
use Rattle.vd_law.proofs.RuleLaws.{past-append}
use Rattle.vd_law.proofs.Opening.{same_call-refl}
use Rattle.vd_law.proofs.Sectors.{sector_in-place, sector_in-at}
use Rattle.vd_device.specs.Disks.{Disk, GrowsBy}
use Rattle.vd_device.specs.Now.{call_number, write_entries, flush_entries, WritesBy}
use Rattle.vd_device.proofs.Logs.{outside}
use Rattle.std.proofs.lemmas.Bool.Decides.{leb_tells}
use Rattle.vd_device.specs.Quiet.{IsAtRest}
use Rattle.vd_device.proofs.QuietLaws.{flush_idle, held_after, rest_after}
use Rattle.vd_make.specs.Putting.{AreAll, IsPut, IsNoSuccess, PutsRange, HasDone, IsRangeWritten, TriesWrites, Syncs}
use Rattle.vd_make.proofs.VersionLaws.{only_one, Fits, Since, since_more, own_open, since_written}
use Rattle.vd_lists.proofs.Elements.{each_append}
use Rattle.vd_lists.proofs.Places.{slice_get_front}

-- the log after two events
pub two_events : (log : List Entry) (a b : Entry) → past (log ++ a ∷ b ∷ []) ≡ past log ▸ a ▸ b
two_events log a b = past-append log (a ∷ b ∷ []) nothing

-- one write and its end leave no write open where none was
rest_written : (p : Past) (id : CallId) (first : ℕ) (content : List Sector) (s : ℕ) → open_writes p s ≡ [] → filter (is_of_another id) (open_writes (p ▸ Issue id first content) s) ≡ []
rest_written p id first content s rest =
    ap (λ (ws : List Open). filter (is_of_another id) (open_after_issue id (length (issued_contents p s) + 1) (sector_in first content s) ++ ws)) rest
    ∙ one (sector_in first content s)
  where
    one : (o : Option Sector) → filter (is_of_another id) (open_after_issue id (length (issued_contents p s) + 1) o ++ []) ≡ []
    one None = refl
    one (Some v) = ap (λ (b : Bool). if not b then record { call = id; number = length (issued_contents p s) + 1; content = v } ∷ [] else []) (same_call-refl id)

rest_after_write : (number first : ℕ) (content : List Sector) (result : Result ⊤ ℕ) (old new : Disk) → new.log ≡ old.log ++ write_entries number first content result → IsAtRest old → IsAtRest new
rest_after_write number first content (Ok done) old new log rest s =
    ap (λ (l : List Entry). open_writes (past l) s) log
    ∙ ap (λ (q : Past). open_writes q s) (two_events old.log (Issue (call_number number) first content) (Done (call_number number)))
    ∙ rest_written (past old.log) (call_number number) first content s (rest s)
rest_after_write number first content (Err failed) old new log rest s =
    ap (λ (l : List Entry). open_writes (past l) s) log
    ∙ ap (λ (q : Past). open_writes q s) (two_events old.log (Issue (call_number number) first content) (Broke (call_number number)))
    ∙ rest_written (past old.log) (call_number number) first content s (rest s)

only_write : (v : Sector) (number first : ℕ) (content : List Sector) (result : Result ⊤ ℕ) → AreAll v content → AllByRecursion (IsPut v first (first + length content)) (write_entries number first content result)
only_write v number first content (Ok done) all = ((omega arith, omega arith, all), (tt, tt))
only_write v number first content (Err failed) all = ((omega arith, omega arith, all), (tt, tt))

quiet_write : (number first : ℕ) (content : List Sector) (result : Result ⊤ ℕ) → AllByRecursion IsNoSuccess (write_entries number first content result)
quiet_write number first content (Ok done) = (tt, (tt, tt))
quiet_write number first content (Err failed) = (tt, (tt, tt))

-- one write was tried
pub lays_one : (v : Sector) (number first : ℕ) (content : List Sector) (result : Result ⊤ ℕ) (old new : Disk) → AreAll v content → IsAtRest old
    → WritesBy (write_entries number first content result) first (length content) old new → TriesWrites v first (first + length content) old new
lays_one v number first content result old new all rest w =
    let after = rest_after_write number first content result old new w.log rest in
    record {
      more = write_entries number first content result;
      puts = record {
        start = w.start;
        log = w.log;
        only = only_write v number first content result all;
        size = w.size;
        others = λ s apart. w.others s apart (rest s) (after s);
        rest = after;
      };
      quiet = quiet_write number first content result;
    }

-- a sector of the range has the content
covered : (v : Sector) (first : ℕ) (content : List Sector) (s : ℕ) → AreAll v content → first ≤ s → s < first + length content → sector_in first content s ≡ Some v
covered v first content s all from to =
    let k = s - first in
    let place : first + k ≡ s = omega (arith, from) in
    let there : slice_get content k ≡ Some (slice_index_or content k v) = slice_get-get_or content k v (omega (arith, from, to)) in
    ap (λ (n : ℕ). sector_in first content n) (sym place) ∙ sector_in-at first k content ∙ there ∙ ap Some (all k (slice_index_or content k v) there)

-- what was held, or stood since the last that was done, is this content alone
pub laid_one : (v : Sector) (number first : ℕ) (content : List Sector) (result : Result ⊤ ℕ) (old new : Disk) → AreAll v content → IsAtRest old
    → WritesBy (write_entries number first content result) first (length content) old new → OnOk result (IsRangeWritten v first (first + length content) new)
laid_one v number first content (Err failed) old new all rest w = tt
laid_one v number first content (Ok done) old new all rest w =
    let id = call_number number in
    let log : past new.log ≡ past old.log ▸ Issue id first content ▸ Done id = ap past w.log ∙ two_events old.log (Issue id first content) (Done id) in
    record {
      done = λ s from to. (
          subst (λ (q : Past). Since (λ x. x ≡ v) new.start q s) (sym log)
          (since_written (λ x. x ≡ v) new.start (past old.log) id first content s v (covered v first content s all from to) refl));
      held = λ s from to x is. (
          let own = own_open (past old.log) id first content s v (covered v first content s all from to) in
          let could_be : could new.start new.log s ≡ v ∷ [] =
          ap (λ (q : Past). could_after new.start q s) log ∙ ap (λ (o : Option Open). contents_after_done o (could_after new.start (past old.log ▸ Issue id first content) s)) own in
          only_one (λ x. x ≡ v) v refl x (subst (λ (xs : List Sector). Contains xs x) could_be (w.honest s x is)));
    }

-- what holds of an answer that is done, of each sector and of a store that tells
pub laid_ok : {told : Type 0} (first to : ℕ) (new : Disk) (content : List Sector) (result : Result ⊤ ℕ) → ((v : Sector) → AreAll v content → told → OnOk result (IsRangeWritten v first to new))
    → OnOk result ((v : Sector) → AreAll v content → told → IsRangeWritten v first to new)
laid_ok first to new content (Ok done) each = each
laid_ok first to new content (Err failed) each = tt

-- a flush was tried
pub syncs_one : (number : ℕ) (result : Result ⊤ ℕ) (old new : Disk) → IsAtRest old → GrowsBy (flush_entries number result) old new → Syncs (flush_entries number result) old new
syncs_one number result old new rest grows = record {
  start = grows.start;
  log = grows.log;
  held = held_after (flush_entries number result) old new (flush_idle number result) grows rest;
  rest = rest_after (flush_entries number result) old new (flush_idle number result) grows.log rest;
}

pub write_ready : (number first : ℕ) (content : List Sector) (result : Result ⊤ ℕ) (old new : Disk) → IsAtRest old → WritesBy (write_entries number first content result) first (length content) old new → IsAtRest new
write_ready number first content result old new rest w = rest_after_write number first content result old new w.log rest

-- the first sectors of a list, where all are the same
pub all_first : (v : Sector) (n : ℕ) (xs : List Sector) → AreAll v xs → AreAll v (take n xs)
all_first v n xs all k x is =
    let within = slice_get_within (take n xs) k x is in
    all k x (ap (λ (l : List Sector). slice_get l k) (sym (take-append-drop n xs)) ∙ slice_get_front (take n xs) (drop n xs) k within ∙ is)

-- Several events.

pub each_event : (P Q : Entry → Type 0) → ((e : Entry) → P e → Q e) → (es : List Entry) → AllByRecursion P es → AllByRecursion Q es
each_event P Q f [] all = tt
each_event P Q f (e ∷ es) all = (f e all.0, each_event P Q f es all.1)

wider : (v : Sector) (from to from' to' : ℕ) → from' ≤ from → to ≤ to' → (e : Entry) → IsPut v from to e → IsPut v from' to' e
wider v from to from' to' low high (Ask id request) put = tt
wider v from to from' to' low high (Issue id first content) put = (omega (arith, low, put.0), omega (arith, high, put.1), put.2)
wider v from to from' to' low high (Done id) put = tt
wider v from to from' to' low high (Broke id) put = tt
wider v from to from' to' low high (Seen id first content) put = put
wider v from to from' to' low high (Reply id answer) put = tt

pub puts_wider : (v : Sector) (from to from' to' : ℕ) (more : List Entry) (old new : Disk) → from' ≤ from → to ≤ to' → PutsRange v from to more old new → PutsRange v from' to' more old new
puts_wider v from to from' to' more old new low high p = record {
  start = p.start;
  log = p.log;
  only = each_event (IsPut v from to) (IsPut v from' to') (wider v from to from' to' low high) more p.only;
  size = p.size;
  others = λ s apart. p.others s (narrow s apart);
  rest = p.rest;
}
  where
    narrow : (s : ℕ) → (s < from') ⊎ (to' ≤ s) → (s < from) ⊎ (to ≤ s)
    narrow s (inl below) = inl (omega (arith, below, low))
    narrow s (inr above) = inr (omega (arith, above, high))

pub puts_twice : (v : Sector) (from to : ℕ) (xs ys : List Entry) (a b c : Disk) → PutsRange v from to xs a b → PutsRange v from to ys b c → PutsRange v from to (xs ++ ys) a c
puts_twice v from to xs ys a b c p q = record {
  start = q.start ∙ p.start;
  log = q.log ∙ ap (λ (l : List Entry). l ++ ys) p.log ∙ append_assoc a.log xs ys;
  only = each_append (IsPut v from to) xs ys p.only q.only;
  size = q.size ∙ p.size;
  others = λ s apart. q.others s apart ∙ p.others s apart;
  rest = q.rest;
}

pub puts_none : (v : Sector) (from to : ℕ) (d : Disk) → IsAtRest d → PutsRange v from to [] d d
puts_none v from to d rest = record { start = refl; log = sym (append-nil d.log); only = tt; size = refl; others = λ s apart. refl; rest = rest }

-- what is written has the content
pub fits_inside : (v : Sector) (from to s : ℕ) (e : Entry) → IsPut v from to e → Fits (λ x. x ≡ v) s e
fits_inside v from to s (Ask id request) put = tt
fits_inside v from to s (Issue id first content) put = λ x covers. put.2 (s - first) x (sector_in-place first content s x covers).1
fits_inside v from to s (Done id) put = tt
fits_inside v from to s (Broke id) put = tt
fits_inside v from to s (Seen id first content) put = absurd put
fits_inside v from to s (Reply id answer) put = tt

-- nothing is written outside of the range
pub fits_outside : (P : Sector → Type 0) (v : Sector) (from to s : ℕ) → (s < from) ⊎ (to ≤ s) → (e : Entry) → IsPut v from to e → Fits P s e
fits_outside P v from to s apart (Ask id request) put = tt
fits_outside P v from to s apart (Issue id first content) put = λ x covers. absurd (let none = outside first content s (past_it apart put.0 put.1) in cc)
  where
    past_it : (s < from) ⊎ (to ≤ s) → from ≤ first → first + length content ≤ to → (s < first) ⊎ (first + length content ≤ s)
    past_it (inl below) low high = inl (omega (arith, below, low))
    past_it (inr above) low high = inr (omega (arith, above, high))
fits_outside P v from to s apart (Done id) put = tt
fits_outside P v from to s apart (Broke id) put = tt
fits_outside P v from to s apart (Seen id first content) put = absurd put
fits_outside P v from to s apart (Reply id answer) put = tt

pub lays_none : (v : Sector) (from to : ℕ) (d : Disk) → IsAtRest d → TriesWrites v from to d d
lays_none v from to d rest = record { more = []; puts = puts_none v from to d rest; quiet = tt }

pub lays_more : (v : Sector) (from to first end : ℕ) (a b c : Disk) → from ≤ first → end ≤ to → TriesWrites v from to a b → TriesWrites v first end b c → TriesWrites v from to a c
lays_more v from to first end a b c low high x y = record {
  more = x.more ++ y.more;
  puts = puts_twice v from to x.more y.more a b c x.puts (puts_wider v first end from to y.more b c low high y.puts);
  quiet = each_append IsNoSuccess x.more y.more x.quiet y.quiet;
}

pub laid_none : (v : Sector) (from : ℕ) (d : Disk) → IsRangeWritten v from from d
laid_none v from d = record { done = λ s low high. absurd (omega (arith, low, high)); held = λ s low high. absurd (omega (arith, low, high)) }

-- what was written stays written behind it
done_after : (v : Sector) (from to s : ℕ) (more : List Entry) (old new : Disk) → PutsRange v from to more old new → HasDone v old s → HasDone v new s
done_after v from to s more old new p done =
    let fits = each_event (IsPut v from to) (Fits (λ x. x ≡ v) s) (fits_inside v from to s) more p.only in
    let there : Since (λ x. x ≡ v) new.start (past old.log) s = subst (λ (start : List Sector). Since (λ x. x ≡ v) start (past old.log) s) (sym p.start) done in
    subst (λ (l : List Entry). Since (λ x. x ≡ v) new.start (past l) s) (sym p.log) (since_more (λ x. x ≡ v) new.start old.log more s fits there)

pub laid_more : (v : Sector) (from at end : ℕ) (b c : Disk) → from ≤ at → IsRangeWritten v from at b → TriesWrites v at end b c → IsRangeWritten v at end c → IsRangeWritten v from end c
laid_more v from at end b c low before lays after = record {
  done = λ s first last. elim (leb_tells at s) [
    | inl here ↦ after.done s here.1 last
    | inr earlier ↦ done_after v at end s lays.more b c lays.puts (before.done s first earlier.1)
  ];
  held = λ s first last. elim (leb_tells at s) [
    | inl here ↦ after.held s here.1 last
    | inr earlier ↦ (λ x is. before.held s first earlier.1 x (sym (lays.puts.others s (inl earlier.1)) ∙ is))
  ];
}
