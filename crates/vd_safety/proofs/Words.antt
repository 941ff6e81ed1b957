-- A core that is secured is crash safe in the words of the law, also once its store has stopped.
use Rattle.std.proofs.Common.{ℕ, suc, ◌≡◌, ◌+◌, ◌<◌, ◌≤◌, ◌⊎◌, inl, inr, cond, Bool, false, List, [], ◌∷◌, ◌++◌, length, take, Option, Some, refl, ap, sym, ◌∙◌, subst, arith}
use Rattle.std.specs.Prelude.{nat_le}
use Rattle.std.specs.List.{Contains}
use Rattle.std.specs.Option.{option_to_list}
use Rattle.std.proofs.lemmas.Bool.{cases_lt, le-leb}
use Rattle.std.proofs.lemmas.List.{append_assoc, append-nil, take_all, length_push}
use Rattle.std.proofs.lemmas.List.Sums.{sum_by-append}
use Rattle.vd_law.specs.declared.entry.Sector.{Sector}
use Rattle.vd_law.specs.declared.entry.CallId.{CallId}
use Rattle.vd_law.specs.declared.entry.Answer.{Answer}
use Rattle.vd_law.specs.declared.entry.Answer.TheVariants as answers
use Rattle.vd_law.specs.Entries.{Asked, Flush, Entry, Ask, Issue, Done, Broke, Seen, Reply, past}
use Rattle.vd_law.specs.Calls.{progress}
use Rattle.vd_law.specs.Contents.{sector_in, is_flushed, may}
use Rattle.vd_law.specs.Histories.{HistoryState, IsRising, last_number, count_up_to, entries_up_to}
use Rattle.vd_law.proofs.Appending.{may-issue, may-ask, may-done, may-broke, may-seen, may-reply}
use Rattle.vd_law.proofs.Numbers.{rising-push, last_number-push, entries-later}
use Rattle.vd_format.specs.declared.header.Header.{Header}
use Rattle.vd_table.specs.Tables.{TableState}
use Rattle.vd_image.specs.Log.{Fine, At, Writes}
use Rattle.vd_image.specs.Image.{Format, Layout}
use Rattle.vd_image.specs.Layouts.{layout_of}
use Rattle.vd_image.specs.Decoders.{Entry as MapEntry, format_of}
use Rattle.vd_image.proofs.CrashImages.{at_inside}
use Rattle.vd_image.proofs.Logs.{at_prefix}
use Rattle.vd_image.proofs.Exact.{at_contains, contains_at}
use Rattle.vd_crash.specs.facts.Safe.{NumberedEntry, Opening, numbered, IsSafe}
use Rattle.vd_crash.specs.facts.Facts.{HasEntry as StandsAs, AreNumbers}
use Rattle.vd_crash.specs.facts.CrashSafe.{IsCrashSafe, IsRunOf}
use Rattle.vd_crash.proofs.facts.CrashSafe.{crash_safe}
use Rattle.vd_crash.proofs.facts.Moments.{safe_late, safe_other}
use Rattle.vd_crash.specs.primitives.Primitives.{State}
use Rattle.vd_crash.specs.primitives.Keeping.{KeepsCrashSafety}
use Rattle.vd_crash.proofs.primitives.Keeping.{kept_is_safe}
use Rattle.vd_keeper.specs.Keeping.{KeeperState}
use Rattle.vd_passes.specs.declared.pass.Pass.{Pass}
use Rattle.vd_safety.specs.Mirrors.{core_state, opening_for, HasSafeMirror}
use Rattle.vd_format.specs.Background.{base_at, zero_sector}

-- ---- the numbers rise

rising_from : (entries : List Entry) (numbers : List ℕ) (from : ℕ) → length numbers ≡ length entries → ((j n : ℕ) (e : Entry) → StandsAs (numbered entries numbers) j n e → from ≤ n)
    → ((i j m n : ℕ) (e f : Entry) → i < j → StandsAs (numbered entries numbers) i m e → StandsAs (numbered entries numbers) j n f → m ≤ n) → IsRising from numbers
rising_from entries [] from many since never = tt
rising_from [] (n ∷ numbers) from many since never = absurd (omega (arith, many))
rising_from (e ∷ entries) (n ∷ numbers) from many since never = (
  since 0 n e refl,
  rising_from entries numbers n (omega (arith, many)) (λ j m f at. never 0 (suc j) n m e f (omega arith) refl at) (λ i j l m f g less at also. never (suc i) (suc j) l m f g (omega (arith, less)) at also),
)

kept_numbers : (o : Opening) (s : State) → KeepsCrashSafety o s → AreNumbers o.opened s.log s.memory.discards.drops s.history
unfolding KeepsCrashSafety
kept_numbers o s kept = kept.core.holds.facts.numbers

pub secured-rising : (o : Opening) (table : TableState) (fresh : List Bool) (k : KeeperState) (flusher : Option ℕ) (passes : List Pass) (history : HistoryState) (log : List Entry) → HasSafeMirror o (core_state table fresh k flusher passes history) log → IsRising o.opened history.numbers
secured-rising o table fresh k flusher passes history log secured =
    let numbers : AreNumbers o.opened secured.state.log secured.state.memory.discards.drops (numbered history.log.entries history.numbers) = subst (λ (h : List NumberedEntry). AreNumbers o.opened secured.state.log secured.state.memory.discards.drops h) secured.mirrors.history_is (kept_numbers o secured.state secured.keeps) in
    rising_from history.log.entries history.numbers o.opened secured.mirrors.many numbers.since_opening numbers.never_fall

-- no number is above the log's length
pub secured-numbers : (o : Opening) (table : TableState) (fresh : List Bool) (k : KeeperState) (flusher : Option ℕ) (passes : List Pass) (history : HistoryState) (log : List Entry) → HasSafeMirror o (core_state table fresh k flusher passes history) log
    → (j n : ℕ) (e : Entry) → StandsAs (numbered history.log.entries history.numbers) j n e → n ≤ length log
secured-numbers o table fresh k flusher passes history log secured =
    let numbers : AreNumbers o.opened log secured.state.memory.discards.drops (numbered history.log.entries history.numbers) = subst (λ (l : List Entry). AreNumbers o.opened l secured.state.memory.discards.drops (numbered history.log.entries history.numbers)) secured.mirrors.log_is
    (subst (λ (h : List NumberedEntry). AreNumbers o.opened secured.state.log secured.state.memory.discards.drops h) secured.mirrors.history_is (kept_numbers o secured.state secured.keeps)) in
    numbers.none_above

-- ---- safety

-- in the laws' own words
pub secured-is-safe : (o : Opening) (table : TableState) (fresh : List Bool) (k : KeeperState) (flusher : Option ℕ) (passes : List Pass) (history : HistoryState) (log : List Entry) → HasSafeMirror o (core_state table fresh k flusher passes history) log
    → IsSafe o log (numbered history.log.entries history.numbers)
secured-is-safe o table fresh k flusher passes history log secured =
    subst (λ (l : List Entry). IsSafe o l (numbered history.log.entries history.numbers)) secured.mirrors.log_is
    (subst (λ (h : List NumberedEntry). IsSafe o secured.state.log h) secured.mirrors.history_is (kept_is_safe o secured.state secured.keeps))

-- A core that is secured is crash safe.
pub secured-safe : (h : Header) (entries : List MapEntry) (before : List Sector) (held : ℕ → Sector) (base disk : List Sector) (opened : ℕ) (table : TableState) (fresh : List Bool) (k : KeeperState) (flusher : Option ℕ) (passes : List Pass) (history : HistoryState) (log : List Entry)
    → HasSafeMirror (opening_for h entries before held base disk opened) (core_state table fresh k flusher passes history) log → opened ≡ history.opened → length disk ≡ h.size → ((i a : ℕ) (v : Sector) → Writes log i a v → a < length before)
    → IsCrashSafe (format_of h) (layout_of h) (base_at zero_sector base) zero_sector before log disk history
secured-safe h entries before held base disk opened table fresh k flusher passes history log secured same size inside =
    let o : Opening = opening_for h entries before held base disk opened in
    let run : IsRunOf (opening_for h entries before held base disk opened) before log disk history = record {
      opened = same;
      before = λ s. refl;
      guest_disk = λ s within. at_inside zero_sector disk s (omega (arith, size, within));
      inside = inside;
      each = secured.mirrors.many;
      rising = subst (λ (n : ℕ). IsRising n history.numbers) same (secured-rising (opening_for h entries before held base disk opened) table fresh k flusher passes history log secured);
    } in
    crash_safe (opening_for h entries before held base disk opened) before log disk history run (secured-is-safe (opening_for h entries before held base disk opened) table fresh k flusher passes history log secured)

-- ---- a store that has stopped

-- the entry is numbered above the log's length, or is no good answer of a flush
abbrev pub IsHarmless : List Entry → (event : Entry) (number : ℕ) → Type 0
IsHarmless log event number = (length log < number) ⊎ ((id : CallId) → event ≡ Reply id Fine → ⊥)

one_step_more : (o : Opening) (log : List Entry) (history : List NumberedEntry) (x : NumberedEntry) → IsHarmless log x.event x.number → IsSafe o log history → IsSafe o log (history ++ x ∷ [])
one_step_more o log history x (inl late) safe = safe_late o log history x safe late
one_step_more o log history x (inr other) safe = safe_other o log history x safe other

-- Such entries take nothing away.
pub stopped-safe : (o : Opening) (log : List Entry) (history more : List NumberedEntry) → ((i : ℕ) (x : NumberedEntry) → At more i x → IsHarmless log x.event x.number) → IsSafe o log history → IsSafe o log (history ++ more)
stopped-safe o log history [] harmless safe = subst (λ (h : List NumberedEntry). IsSafe o log h) (sym (append-nil history)) safe
stopped-safe o log history (x ∷ more) harmless safe =
    subst (λ (h : List NumberedEntry). IsSafe o log h) (append_assoc history (x ∷ []) more)
    (stopped-safe o log (history ++ x ∷ []) more (λ i y at. harmless (suc i) y at) (one_step_more o log history x (harmless 0 x refl) safe))

not_flushed : (asked : Option Asked) (answer : Answer) → (answer ≡ Fine → ⊥) → is_flushed asked answer ≡ false
not_flushed (Some Flush) answers.Ok other = absurd (other refl)
not_flushed _ _ other = refl

same_may : (xs ys : List Sector) (v : Sector) → ys ≡ xs → Contains xs v → Contains ys v
same_may xs ys v same has = subst (λ (zs : List Sector). Contains zs v) (sym same) has

-- what may be left is left after one more entry that is no good answer of a flush
may_more : (start : List Sector) (log : List Entry) (e : Entry) (s : ℕ) (v : Sector) → ((id : CallId) → e ≡ Reply id Fine → ⊥) → Contains (may start log s) v → Contains (may start (log ++ e ∷ []) s) v
may_more start log (Ask c request) s v other has = same_may (may start log s) (may start (log ++ Ask c request ∷ []) s) v (may-ask start log c request s) has
may_more start log (Issue c first content) s v other has =
    let there = contains_at (may start log s) v has in
    same_may (may start log s ++ option_to_list (sector_in first content s)) (may start (log ++ Issue c first content ∷ []) s) v (may-issue start log c first content s)
    (at_contains (may start log s ++ option_to_list (sector_in first content s)) there.0 v (at_prefix (may start log s) (option_to_list (sector_in first content s)) there.0 v there.1))
may_more start log (Done c) s v other has = same_may (may start log s) (may start (log ++ Done c ∷ []) s) v (may-done start log c s) has
may_more start log (Broke c) s v other has = same_may (may start log s) (may start (log ++ Broke c ∷ []) s) v (may-broke start log c s) has
may_more start log (Seen c first content) s v other has = same_may (may start log s) (may start (log ++ Seen c first content ∷ []) s) v (may-seen start log c first content s) has
may_more start log (Reply c answer) s v other has =
    same_may (may start log s) (may start (log ++ Reply c answer ∷ []) s) v (may-reply start log c answer s (not_flushed (progress (past log) c).asked answer (λ fine. other c (ap (λ (a : Answer). Reply c a) fine)))) has

above_from : (from : ℕ) (ns : List ℕ) → IsRising from ns → from ≤ last_number from ns
above_from from [] rising = omega arith
above_from from (n ∷ ns) rising = let k = above_from n ns rising.1 in omega (arith, k, rising.0)

-- all are counted where the last is
all_counted : (k from : ℕ) (ns : List ℕ) → IsRising from ns → last_number from ns ≤ k → count_up_to k ns ≡ length ns
all_counted k from [] rising most = refl
all_counted k from (n ∷ ns) rising most =
    let counted : ℕ → ℕ = λ m. cond (nat_le m k) 1 0 in
    let low = above_from n ns rising.1 in
    let rest = all_counted k n ns rising.1 most in
    sum_by-append counted (n ∷ []) ns ∙ ap (λ (b : Bool). (0 + cond b 1 0) + count_up_to k ns) (le-leb n k (omega (arith, low, most))) ∙ omega (arith, rest)

-- One more such entry of the history: what is crash safe stays so.
pub stopped-crash-safe : (f : Format) (l : Layout) (base : ℕ → Sector) (zeros : Sector) (start : List Sector) (log : List Entry) (disk : List Sector) (history history' : HistoryState) (e : Entry) (n : ℕ)
    → IsHarmless log e n → history'.log.entries ≡ history.log.entries ++ e ∷ [] → history'.numbers ≡ history.numbers ++ n ∷ [] → history'.opened ≡ history.opened
    → length history.numbers ≡ length history.log.entries → IsRising history.opened history.numbers → last_number history.opened history.numbers ≤ n
    → IsCrashSafe f l base zeros start log disk history → IsCrashSafe f l base zeros start log disk history'
stopped-crash-safe f l base zeros start log disk history history' e n harmless entries numbers opened each rising later safe = record {
  sound = λ k image low within left. safe.sound k image (omega (arith, low, opened)) within left;
  allowed = λ k image low within left s v inside has. grown k within s v (safe.allowed k image (omega (arith, low, opened)) within left s v inside has);
}
  where
    -- all entries up to a moment, where the last is among them
    all_up_to : (k from : ℕ) (ns : List ℕ) (es : List Entry) → length ns ≡ length es → IsRising from ns → last_number from ns ≤ k → take (count_up_to k ns) es ≡ es
    all_up_to k from ns es many rises most = take_all (count_up_to k ns) es (let c = all_counted k from ns rises most in omega (arith, c, many))

    up_to_new : (k : ℕ) → entries_up_to k history' ≡ take (count_up_to k (history.numbers ++ n ∷ [])) (history.log.entries ++ e ∷ [])
    up_to_new k = ap (λ (ns : List ℕ). take (count_up_to k ns) history'.log.entries) numbers ∙ ap (λ (es : List Entry). take (count_up_to k (history.numbers ++ n ∷ [])) es) entries

    by_kind : (k : ℕ) → k ≤ length log → n ≤ k → IsHarmless log e n → (s : ℕ) (v : Sector) → Contains (may disk (entries_up_to k history) s) v → Contains (may disk (take (count_up_to k (history.numbers ++ n ∷ [])) (history.log.entries ++ e ∷ [])) s) v
    by_kind k within less (inl late) s v has = absurd (omega (arith, within, less, late))
    by_kind k within less (inr other) s v has =
        let last = last_number-push history.opened history.numbers n in
        let size : length (history.numbers ++ n ∷ []) ≡ length (history.log.entries ++ e ∷ []) = (let a = length_push history.numbers n in let b = length_push history.log.entries e in omega (arith, a, b, each)) in
        let new = all_up_to k history.opened (history.numbers ++ n ∷ []) (history.log.entries ++ e ∷ []) size (rising-push history.opened history.numbers n rising later) (omega (arith, last, less)) in
        let old = all_up_to k history.opened history.numbers history.log.entries each rising (omega (arith, later, less)) in
        subst (λ (es : List Entry). Contains (may disk es s) v) (sym new) (may_more disk history.log.entries e s v other (subst (λ (es : List Entry). Contains (may disk es s) v) old has))

    grown : (k : ℕ) → k ≤ length log → (s : ℕ) (v : Sector) → Contains (may disk (entries_up_to k history) s) v → Contains (may disk (entries_up_to k history') s) v
    grown k within s v has = subst (λ (es : List Entry). Contains (may disk es s) v) (sym (up_to_new k)) (elim (cases_lt k n) [
      | inl before ↦ subst (λ (es : List Entry). Contains (may disk es s) v) (sym (entries-later k history.numbers n history.log.entries e each before)) has
      | inr after ↦ by_kind k within after harmless s v has
    ])
