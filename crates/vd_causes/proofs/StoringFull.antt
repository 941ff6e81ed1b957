-- A write is answered Full where it lacks more storage chunks than are free; and what a pass that asks keeps of the storage.
use Rattle.std.proofs.Common.{◌≡◌, ℕ, zero, suc, ◌+◌, ◌<◌, ◌≤◌, cond, Bool, true, false, not, ◌&&◌, ◌||◌, List, [], ◌∷◌, ◌++◌, length, take, drop, refl, sym, ◌∙◌, ap, subst, inl, inr, arith, add-one, length-append, Option, Some, None, slice_get}
use Rattle.std.specs.Prelude.{is_none, is_some}
use Rattle.std.specs.List.{AllByRecursion, count_by, range_with_len}
use Rattle.std.proofs.Math.Path.{fun_ext}
use Rattle.std.proofs.Math.Bool.{or-true, and-false}
use Rattle.std.proofs.Math.Seq.{drop-cons, take-append_seam}
use Rattle.std.proofs.lemmas.Bool.{cases_lt, cases_eq, cases_Bool}
use Rattle.std.proofs.lemmas.List.{take_all}
use Rattle.std.proofs.lemmas.List.Sums.{sum_by-cons}
use Rattle.std.proofs.lemmas.Option.{slice_get_within, slice_get_cases}
use Rattle.vd_law.specs.declared.entry.Sector.{Sector}
use Rattle.vd_law.specs.declared.entry.CallId.{CallId}
use Rattle.vd_law.specs.declared.entry.Answer.TheVariants.{Full}
use Rattle.vd_format.specs.declared.map.Entry.{Entry as MapEntry}
use Rattle.vd_law.specs.Entries.{Asked, Read, Write, Flush, Entry, Ask, Reply, same_call}
use Rattle.vd_law.specs.Rules.{IsRegular}
use Rattle.vd_law.proofs.Opening.{same_call-is}
use Rattle.vd_table.specs.Tables.{TableState, used_chunks}
use Rattle.vd_table.specs.Runs.{lacking}
use Rattle.vd_device.specs.declared.store.Store as store
use Rattle.vd_device.specs.declared.base.Base as base
use Rattle.vd_passes.specs.declared.shape.Shape.{Shape}
use Rattle.vd_passes.specs.declared.pass.Pass.{Pass}
use Rattle.vd_passes.specs.Standings.{standing}
use Rattle.vd_passes.specs.Passes.{call_id, after_ask}
use Rattle.vd_passes.specs.Requests.{RequestState}
use Rattle.vd_passes.specs.Coherent.{IsCoherent}
use Rattle.vd_passes.specs.Steps.{Asks, AsksFull}
use Rattle.vd_passes.proofs.Lists.{some-inj}
use Rattle.vd_passes.proofs.Tracks.{same-itself}
use Rattle.vd_passes.proofs.Answered.{IsOfAnother, fresh-entries}
use Rattle.vd_machine.specs.Asking.{run_from, run_count, Claims}
use Rattle.vd_causes.specs.Storing.{touches, is_answered_full, is_counted, IsFullCaused, AreFullsCaused, IsStoredBy}
use Rattle.vd_causes.proofs.StoringCounts.{get-right, full-more, full-same, SameFull, is_touched, counted-same, fulls-before}
use Rattle.vd_causes.proofs.Storing.{same-where, kept-count, ask-stored}

-- How many chunks of a run a test counts.
count-run : {X : Type 0} (f : ℕ → Bool) (g : X → Bool) (xs : List X) (from count : ℕ) → from + count ≤ length xs → ((k : ℕ) (x : X) → from ≤ k → k < from + count → slice_get xs k ≡ Some x → f k ≡ g x)
    → count_by f (range_with_len from count) ≡ count_by g (take count (drop from xs))
count-run f g xs from zero inside same = refl
count-run {X} f g xs from (suc count) inside same = elim (slice_get_cases xs from).1 [
  | inl there ↦
      (let x = there.0 in
      let split : drop from xs ≡ x ∷ drop (from + 1) xs = drop-cons xs from x there.1 ∙ ap (λ (y : X). y ∷ drop (suc from) xs) there.3 ∙ ap (λ (n : ℕ). x ∷ drop n xs) (sym (add-one from)) in
      sum_by-cons (λ (k : ℕ). cond {A = ℕ} (f k) 1 0) from (range_with_len (from + 1) count)
      ∙ ap (λ (b : Bool). cond {A = ℕ} b 1 0 + count_by f (range_with_len (from + 1) count)) (same from x (omega arith) (omega arith) there.2)
      ∙ ap (λ (n : ℕ). cond {A = ℕ} (g x) 1 0 + n) (count-run f g xs (from + 1) count (omega arith) (λ k y low high at. same k y (omega arith) (omega arith) at))
      ∙ sym (ap (λ (ys : List X). count_by g (take (suc count) ys)) split ∙ sum_by-cons (λ (y : X). cond {A = ℕ} (g y) 1 0) x (take count (drop (from + 1) xs))))
  | inr past_it ↦ absurd (let more = past_it.0 in omega arith)
]

-- A write is answered Full: it lacks more storage chunks than are free.

counted-some : {shape : Shape} {had : List MapEntry} {table : TableState} {history : List Entry} → IsStoredBy shape had table history → (k : ℕ) (x : Option ℕ) → slice_get table.chunks k ≡ Some x → is_counted shape had history history k ≡ is_some x
counted-some {shape} {had} {table} {history} stored k None at = (stored.counted k (slice_get_within table.chunks k None at)).0 at
counted-some {shape} {had} {table} {history} stored k (Some p) at = elim (cases_Bool (is_counted shape had history history k)) [
  | inl is ↦ is
  | inr not_it ↦ absurd (let none = (stored.counted k (slice_get_within table.chunks k (Some p) at)).1 not_it in let e = sym at ∙ none in cc)
]

none-some : (x : Option ℕ) → not (is_some x) ≡ is_none x
none-some None = refl
none-some (Some p) = refl

lacking-counts : {shape : Shape} {had : List MapEntry} {table : TableState} {history : List Entry} (from count : ℕ) → IsStoredBy shape had table history → from + count ≤ length table.chunks
    → count_by (λ c. not (is_counted shape had history history c)) (range_with_len from count) ≡ lacking table from count
lacking-counts {shape} {had} {table} {history} from count stored inside =
    count-run (λ c. not (is_counted shape had history history c)) (λ (x : Option ℕ). is_none x) table.chunks from count inside (λ k x low high at. ap not (counted-some stored k x at) ∙ none-some x)

used-counts : {shape : Shape} {had : List MapEntry} {table : TableState} {history : List Entry} → IsStoredBy shape had table history → count_by (is_counted shape had history history) (range_with_len 0 (length table.chunks)) ≡ used_chunks table
used-counts {shape} {had} {table} {history} stored =
    count-run (is_counted shape had history history) (λ (x : Option ℕ). is_some x) table.chunks 0 (length table.chunks) (omega arith) (λ k x low high at. counted-some stored k x at)
    ∙ ap (λ (xs : List (Option ℕ)). count_by (λ (x : Option ℕ). is_some x) xs) (take_all (length table.chunks) table.chunks (omega arith))

turned : (a b : CallId) → same_call a b ≡ false → same_call b a ≡ false
turned a b apart = elim (cases_Bool (same_call b a)) [
  | inl same ↦ absurd (let e = ap (same_call a) (same_call-is b a same) ∙ same-itself a in let f = sym apart ∙ e in cc)
  | inr differ ↦ differ
]

abbrev refusal : CallId → Asked → (needed free : ℕ) → List Entry
refusal id request needed free = Ask id request ∷ Reply id (Full needed free) ∷ []

refused-same : (old : List Entry) (id : CallId) (request : Asked) (needed free : ℕ) (e : Entry) → IsOfAnother id e → SameFull old (old ++ refusal id request needed free) e
refused-same old id request needed free (Ask c r) another = full-same old (refusal id request needed free) c (ap (λ (b : Bool). b || false) (turned c id another))
refused-same old id request needed free e another = tt

all-refused-same : (old : List Entry) (id : CallId) (request : Asked) (needed free : ℕ) (xs : List Entry) → AllByRecursion (IsOfAnother id) xs → AllByRecursion (SameFull old (old ++ refusal id request needed free)) xs
all-refused-same old id request needed free [] all = tt
all-refused-same old id request needed free (e ∷ xs) all = (refused-same old id request needed free e all.0, all-refused-same old id request needed free xs all.1)

-- what is to be shown of an entry that stands behind another
abbrev IsCausedAt : Shape → List MapEntry → (chunks storage : ℕ) → List Entry → (at : ℕ) → Entry → Type 0
IsCausedAt shape had chunks storage history at (Reply id (Full needed free)) =
    (first : ℕ) × (content : List Sector) × (slice_get history at ≡ Some (Ask id (Write first content))) × IsFullCaused shape (is_counted shape had history (take at history)) chunks storage (Write first content) needed free
IsCausedAt shape had chunks storage history at e = Unit {0}

module _ {size : ℕ} {shape : Shape} {had : List MapEntry} {table : TableState} {history : List Entry} (id : CallId) (first : ℕ) (content : List Sector) (needed free : ℕ) (regular : IsRegular size history) (later : (standing history id.pass).call < id.call)
    (inside : run_from shape (Write first content) + run_count shape (Write first content) ≤ length table.chunks)
    (needed_is : needed ≡ lacking table (run_from shape (Write first content)) (run_count shape (Write first content))) (free_is : free + used_chunks table ≡ table.storage) (fewer : free < needed)
    (stored : IsStoredBy shape had table history) where
  abbrev write : Asked
  write = Write first content

  abbrev refused : List Entry
  refused = history ++ refusal id write needed free

  old-same : AllByRecursion (SameFull history refused) history
  old-same = all-refused-same history id write needed free history (fresh-entries regular id later)

  is-refused : is_answered_full refused id ≡ true
  is-refused = full-more history (refusal id write needed free) id ∙ ap (λ (b : Bool). is_answered_full history id || (b || false)) (same-itself id) ∙ or-true (is_answered_full history id)

  refusal-count : (chunk : ℕ) → is_touched shape refused (refusal id write needed free) chunk ≡ false
  refusal-count chunk = ap (λ (b : Bool). (touches shape write chunk && not b) || (false || false)) is-refused ∙ ap (λ (b : Bool). b || (false || false)) (and-false (touches shape write chunk))

  at-refusal : (at : ℕ) → at ≡ length history → is_counted shape had refused (take at refused) ≡ is_counted shape had history history
  at-refusal at last = fun_ext (λ chunk. ap (λ (xs : List Entry). is_counted shape had refused xs chunk) (ap (λ (n : ℕ). take n refused) last ∙ take-append_seam history (refusal id write needed free))
      ∙ counted-same shape had history refused history chunk old-same)

  refused-caused : (at : ℕ) → at ≡ length history → IsCausedAt shape had (length table.chunks) table.storage refused at (Reply id (Full needed free))
  refused-caused at last = let counts = sym (at-refusal at last) in (
    first,
    content,
    get-right history (refusal id write needed free) at 0 (omega arith),
    record {
      lacking = needed_is ∙ sym (lacking-counts (run_from shape write) (run_count shape write) stored inside)
          ∙ ap (λ (f : ℕ → Bool). count_by (λ c. not (f c)) (range_with_len (run_from shape write) (run_count shape write))) counts;
      free_is = ap (λ (f : ℕ → Bool). free + count_by f (range_with_len 0 (length table.chunks))) (sym counts) ∙ ap (λ (n : ℕ). free + n) (used-counts stored) ∙ free_is;
      fewer = fewer;
    },
  )

  refused-fulls : AreFullsCaused shape had (length table.chunks) table.storage refused
  refused-fulls at c n f is = elim (cases_lt (at + 1) (length history)) [
    | inl within ↦ fulls-before had history (refusal id write needed free) old-same stored.fulls at c n f within is
    | inr past_it ↦ elim (cases_eq (at + 1) (length history)) [
      | inl seam ↦ absurd (let e = sym (get-right history (refusal id write needed free) (at + 1) 0 (omega arith)) ∙ is in cc)
      | inr beyond ↦
          (let within = slice_get_within refused (at + 1) (Reply c (Full n f)) is in let long = length-append history (refusal id write needed free) in
          let last : at ≡ length history = omega arith in
          let e : Reply id (Full needed free) ≡ Reply c (Full n f) = some-inj (sym (get-right history (refusal id write needed free) (at + 1) 1 (omega arith)) ∙ is) in
          subst (IsCausedAt shape had (length table.chunks) table.storage refused at) e (refused-caused at last))
    ]
  ]

  refused-stored : IsStoredBy shape had table refused
  refused-stored = record {
    counted = λ chunk within. same-where (kept-count shape had history (refusal id write needed free) chunk old-same (refusal-count chunk)) (stored.counted chunk within);
    fulls = refused-fulls;
  }

-- a request that isn't a write lacks nothing
pub ask_full-stored : {size : ℕ} {shape : Shape} {had : List MapEntry} {table : TableState} {history history' : List Entry} (id : CallId) (request : Asked) (needed free : ℕ) → IsRegular size history → (standing history id.pass).call < id.call
    → run_from shape request + run_count shape request ≤ length table.chunks → needed ≡ lacking table (run_from shape request) (run_count shape request) → free + used_chunks table ≡ table.storage → free < needed
    → history' ≡ history ++ Ask id request ∷ Reply id (Full needed free) ∷ [] → IsStoredBy shape had table history → IsStoredBy shape had table history'
ask_full-stored {size} {shape} {had} {table} id (Write first content) needed free regular later inside needed_is free_is fewer more stored =
    subst (IsStoredBy shape had table) (sym more) (refused-stored id first content needed free regular later inside needed_is free_is fewer stored)
ask_full-stored id (Read first count) needed free regular later inside needed_is free_is fewer more stored = let none : needed ≡ 0 = needed_is in absurd (omega arith)
ask_full-stored id Flush needed free regular later inside needed_is free_is fewer more stored = let none : needed ≡ 0 = needed_is in absurd (omega arith)

-- The same of a pass of a coherent core.
asked-call : (p : Pass) (request : Asked) (events sectors : ℕ) → (after_ask p request events sectors).call ≡ p.call + 1
asked-call p (Read first count) events sectors = refl
asked-call p (Write first content) events sectors = refl
asked-call p Flush events sectors = refl

module _ {had : List MapEntry} {places : ℕ → Option ℕ} {r r' : RequestState} {S B : Type 0} {g : store.Ghosts S} {h : base.Ghosts B} {s : S} {b : B} where
  pub asks-stored : {table table' : TableState} {events_left sectors_left i : ℕ} (request : Asked)
      → IsCoherent g h r places s b → Claims table table' (run_from r.shape request) (run_count r.shape request)
      → Asks request events_left sectors_left i r r' → IsStoredBy r.shape had table r.entries → IsStoredBy r'.shape had table' r'.entries
  asks-stored {events_left = events_left} {sectors_left = sectors_left} {i = i} request co claims step stored =
      rw step.after (ask-stored (call_id i (after_ask step.pass request events_left sectors_left)) request co.regular
      (let call = (co.each i step.pass step.there).call in let more = asked-call step.pass request events_left sectors_left in omega (arith, call, more)) claims refl stored)

  pub asks_full-stored : {table : TableState} {needed free i : ℕ} (request : Asked)
      → IsCoherent g h r places s b → run_from r.shape request + run_count r.shape request ≤ length table.chunks
      → needed ≡ lacking table (run_from r.shape request) (run_count r.shape request) → free + used_chunks table ≡ table.storage → free < needed
      → AsksFull request needed free i r r' → IsStoredBy r.shape had table r.entries → IsStoredBy r'.shape had table r'.entries
  asks_full-stored {needed = needed} {free = free} {i = i} request co inside needed_is free_is fewer step stored =
      rw step.after (ask_full-stored (record { pass = i; call = step.pass.call + 1 }) request needed free co.regular (let call = (co.each i step.pass step.there).call in omega (arith, call)) inside needed_is free_is fewer refl stored)
