-- What is kept of the lines so far, with one more line.
use Rattle.std.proofs.Common.{◌≡◌, ℕ, ◌+◌, ◌<◌, ◌≤◌, ◌⊎◌, inl, inr, Bool, true, false, List, [], ◌∷◌, ◌++◌, length, Option, eqb, ap, refl, sym, ◌∙◌, subst, arith, append-nil, append_assoc, length-append, Vec}
use Rattle.std.specs.declared.alloc.Global.{Global}
use Rattle.std.proofs.lemmas.List.{map-append, length-map}
use Rattle.std.proofs.lemmas.List.Elements.{filter_map-append}
use Rattle.std.proofs.lemmas.List.Sums.{sum_by_push}
use Rattle.std.proofs.lemmas.Bool.{false_from_ne_true, eqb-true, eq-eqb}
use Rattle.std.specs.Prelude.{map, sum_by, not, vec_len}
use Rattle.std.specs.List.{enumerate_from, filter_map, list_any}
use Rattle.vd_trace.specs.declared.kept.Draft.{Draft}
use Rattle.vd_trace.specs.declared.kept.Item.{Item}
use Rattle.vd_trace.specs.declared.kept.Shown.{Shown}
use Rattle.vd_trace.specs.declared.line.Line.{Line}
use Rattle.vd_trace.specs.declared.line.Line.TheVariants.{Nothing, Asks, Shows}
use Rattle.vd_trace.specs.declared.line.Work.{Work}
use Rattle.vd_trace.specs.declared.line.Work.TheVariants.{Read, Fill, Put, Flush}
use Rattle.vd_trace.specs.Lines.{is_show, IsGood, KeepsLimits, SpellsWork, SpellsFields, fields, sectors_of_line, sectors_of_work}
use Rattle.vd_trace.specs.Traces.{Asking, Showing, asking, showing, asks_in, shows_in, SpellsLines}
use Rattle.vd_trace.specs.Keeping.{lists, work_of, sectors_in, asking_of, showing_of, HasItems, KeepsLines, SameItems, AddsLine, CountsLine, HasGuest, CanTake, HasReadLines, Stops}
use Rattle.vd_trace.specs.declared.error.TraceError.TheVariants.{Bad, TooMuch}
use Rattle.vd_trace.proofs.Places.{items-push}

-- the numbers of the lines go on
enumerate_from-push : (n : ℕ) (says : List Line) (next : Line) → enumerate_from n (says ++ next ∷ []) ≡ enumerate_from n says ++ (n + length says, next) ∷ []
enumerate_from-push n [] next = ap (λ (k : ℕ). (k, next) ∷ []) (omega arith)
enumerate_from-push n (x ∷ says) next =
    let place : n + 1 + length says ≡ n + length (x ∷ says) = omega arith in
    ap (λ (rest : List (ℕ × Line)). (n, x) ∷ rest) (enumerate_from-push (n + 1) says next ∙ ap (λ (k : ℕ). enumerate_from (n + 1) says ++ (k, next) ∷ []) place)

numbered : {A : Type 0} (f : ℕ × Line → Option A) (says : List Line) (next : Line) →
    filter_map f (enumerate_from 1 (says ++ next ∷ [])) ≡ filter_map f (enumerate_from 1 says) ++ filter_map f ((1 + length says, next) ∷ [])
numbered f says next = ap (filter_map f) (enumerate_from-push 1 says next) ∙ filter_map-append f (enumerate_from 1 says) ((1 + length says, next) ∷ [])

-- some line shows exactly where one is kept
pub shows-cases : (n : ℕ) (says : List Line) →
    ((list_any is_show says ≡ true) × (0 < length (filter_map showing (enumerate_from n says)))) ⊎ ((list_any is_show says ≡ false) × (length (filter_map showing (enumerate_from n says)) ≡ 0))
shows-cases n [] = inr (refl, refl)
shows-cases n (Nothing ∷ says) = shows-cases (n + 1) says
shows-cases n (Asks g w ∷ says) = shows-cases (n + 1) says
shows-cases n (Shows f c ∷ says) = inl (refl, omega arith)

pub spells-push : (guests : ℕ) (before : List Line) (lines : List (List ℕ)) (says : List Line) (line : List ℕ) (next : Line) → SpellsLines guests before lines says →
    IsGood guests (before ++ says) line next → KeepsLimits (before ++ says) next → SpellsLines guests before (lines ++ line ∷ []) (says ++ next ∷ [])
spells-push guests before [] [] line next spelled good within =
    let same : before ++ [] ≡ before = append-nil before in
    (subst (λ (b : List Line). IsGood guests b line next) same good, subst (λ (b : List Line). KeepsLimits b next) same within, tt)
spells-push guests before [] (s ∷ says) line next spelled good within = absurd spelled
spells-push guests before (l ∷ lines) [] line next spelled good within = absurd spelled
spells-push guests before (l ∷ lines) (s ∷ says) line next spelled good within =
    let same : before ++ (s ∷ says) ≡ (before ++ s ∷ []) ++ says = sym (append_assoc before (s ∷ []) says) in (
      spelled.0,
      spelled.1,
      spells-push guests (before ++ s ∷ []) lines says line next spelled.2
          (subst (λ (b : List Line). IsGood guests b line next) same good) (subst (λ (b : List Line). KeepsLimits b next) same within),
    )

pub spells-length : (guests : ℕ) (before : List Line) (lines : List (List ℕ)) (says : List Line) → SpellsLines guests before lines says → length lines ≡ length says
spells-length guests before [] [] spelled = refl
spells-length guests before [] (s ∷ says) spelled = absurd spelled
spells-length guests before (l ∷ lines) [] spelled = absurd spelled
spells-length guests before (l ∷ lines) (s ∷ says) spelled = let rest = spells-length guests (before ++ s ∷ []) lines says spelled.2 in omega (arith, rest)

-- the guest of a good line is one
work-sized : (more : List (List ℕ)) (w : Work) → SpellsWork more w → sectors_of_work w ≤ 2048
work-sized (kind ∷ first ∷ count ∷ []) (Read f c) s = s.2.2
work-sized (kind ∷ first ∷ count ∷ byte ∷ []) (Fill f c b) s = s.2.2
work-sized (kind ∷ first ∷ digits ∷ []) (Put f d) s = omega arith
work-sized (kind ∷ []) Flush s = omega arith
work-sized _ _ s = absurd s

guest-in : (guests : ℕ) (fs : List (List ℕ)) (g : ℕ) (w : Work) → SpellsFields guests fs (Asks g w) → (1 ≤ g) × (g ≤ guests) × (sectors_of_work w ≤ 2048)
guest-in guests [] g w s = absurd s
guest-in guests (guest ∷ more) g w s = (s.0.1, s.0.2, work-sized more w s.1)

pub has-guest : (guests : ℕ) (before : List Line) (line : List ℕ) (says : Line) → IsGood guests before line says → HasGuest guests says
has-guest guests before line Nothing good = tt
has-guest guests before line (Asks g w) good = guest-in guests (fields line) g w good.spells
has-guest guests before line (Shows f c) good = tt

pub can-take : (ms : List Line) (draft : Draft) (says : Line) → KeepsLines ms draft → HasGuest draft.guests says → KeepsLimits ms says → CanTake says draft
can-take ms draft says keeps guest within = record {
  items = omega (arith, keeps.items_few, within.lines);
  sectors = omega (arith, keeps.sectors_few, keeps.small);
  guest = guest;
  places = sym (length-map draft.places.items (λ (v : Vec ℕ Global). v.items)) ∙ keeps.items.many;
  lines = omega (arith, keeps.lines, within.lines);
  total = omega (arith, keeps.total, within.sectors);
}

-- Each kind of line, with what it adds.

-- what is kept of items stays where they stay
same-items : (guests : ℕ) (old new : Draft) (asks : List Asking) → SameItems old new → HasItems guests old.sectors.items old.items.items (lists old.places.items) asks →
    HasItems guests new.sectors.items new.items.items (lists new.places.items) asks
same-items guests old new asks same has = rw (same.sectors, same.items, same.places) has

keeps-items : (ms : List Line) (next : Line) (old new : Draft) → KeepsLines ms old → HasGuest old.guests next → AddsLine next old new →
    HasItems old.guests new.sectors.items new.items.items (lists new.places.items) (asks_in (ms ++ next ∷ []))
keeps-items ms Nothing old new keeps guest adds =
    rw (numbered asking ms Nothing, append-nil (asks_in ms)) (same-items old.guests old new (asks_in ms) adds.0 keeps.items)
keeps-items ms (Asks g w) old new keeps guest adds =
    let item : Item = record { number = old.lines + 1; guest = g; work = adds.0.stored } in
    let count : old.lines + 1 ≡ 1 + length ms = omega (arith, keeps.lines) in
    let shown : asking_of new.sectors.items item ≡ record { number = 1 + length ms; guest = g; work = w } =
    ap (λ (n : ℕ). let a : Asking = record { number = n; guest = g; work = work_of new.sectors.items adds.0.stored } in a) count
    ∙ ap (λ (x : Work). let a : Asking = record { number = 1 + length ms; guest = g; work = x } in a) adds.0.work in
    rw (numbered asking ms (Asks g w), adds.0.items, ← shown)
    (items-push old.guests old.sectors.items new.sectors.items old.items.items item (lists old.places.items) (lists new.places.items) (asks_in ms) keeps.items
    adds.0.sectors.0 adds.0.sectors.1 adds.0.inside guest.0 guest.1 (let size = adds.0.size in let small = guest.2 in omega (arith, size, small)) adds.0.places)
keeps-items ms (Shows f c) old new keeps guest adds =
    rw (numbered asking ms (Shows f c), append-nil (asks_in ms)) (same-items old.guests old new (asks_in ms) adds.0 keeps.items)

keeps-shows : (ms : List Line) (next : Line) (old new : Draft) → KeepsLines ms old → AddsLine next old new → map showing_of new.shows.items ≡ shows_in (ms ++ next ∷ [])
keeps-shows ms Nothing old new keeps adds = rw (numbered showing ms Nothing, append-nil (shows_in ms), adds.1) keeps.shows
keeps-shows ms (Asks g w) old new keeps adds = rw (numbered showing ms (Asks g w), append-nil (shows_in ms), adds.1) keeps.shows
keeps-shows ms (Shows f c) old new keeps adds =
    let count : old.lines + 1 ≡ 1 + length ms = omega (arith, keeps.lines) in
    let last : Shown = record { number = old.lines + 1; first = f; count = c } in
    let shown : showing_of last ≡ record { number = 1 + length ms; first = f; count = c } = ap (λ (n : ℕ). let s : Showing = record { number = n; first = f; count = c } in s) count in
    rw (numbered showing ms (Shows f c), adds.1, ← shown)
    (map-append showing_of old.shows.items (last ∷ []) ∙ ap (λ (front : List Showing). front ++ showing_of last ∷ []) keeps.shows)

keeps-few : (ms : List Line) (next : Line) (old new : Draft) → KeepsLines ms old → AddsLine next old new →
    (length new.items.items ≤ length ms + 1) × (length new.sectors.items ≤ sum_by sectors_of_line ms + sectors_of_line next) × (sum_by (λ i. sectors_in i.work) new.items.items ≤ sum_by sectors_of_line ms + sectors_of_line next)
keeps-few ms Nothing old new keeps adds = (omega (arith, ap length adds.0.items, keeps.items_few), omega (arith, ap length adds.0.sectors, keeps.sectors_few), rw adds.0.items (omega (arith, keeps.asked_few)))
keeps-few ms (Asks g w) old new keeps adds = (
  omega (arith, ap length adds.0.items, length-append old.items.items (record { number = old.lines + 1; guest = g; work = adds.0.stored } ∷ []), keeps.items_few),
  omega (arith, ap length adds.0.sectors.1, length-append old.sectors.items adds.0.sectors.0, adds.0.sectors.2, keeps.sectors_few),
  rw (adds.0.items, sum_by_push (λ i. sectors_in i.work) old.items.items (record { number = old.lines + 1; guest = g; work = adds.0.stored })) (omega (arith, adds.0.size, keeps.asked_few)),
)
keeps-few ms (Shows f c) old new keeps adds = (omega (arith, ap length adds.0.items, keeps.items_few), omega (arith, ap length adds.0.sectors, keeps.sectors_few), rw adds.0.items (omega (arith, keeps.asked_few)))

pub keeps-more : (ms : List Line) (next : Line) (old new : Draft) → KeepsLines ms old → KeepsLimits ms next → HasGuest old.guests next → CountsLine next old new → KeepsLines (ms ++ next ∷ []) new
keeps-more ms next old new keeps within guest counts =
    let lines : length (ms ++ next ∷ []) ≡ length ms + 1 = length-append ms (next ∷ []) in
    let total : sum_by sectors_of_line (ms ++ next ∷ []) ≡ sum_by sectors_of_line ms + sectors_of_line next = sum_by_push sectors_of_line ms next in
    let few = keeps-few ms next old new keeps counts.adds in
    record {
      items = rw counts.guests (keeps-items ms next old new keeps guest counts.adds);
      shows = keeps-shows ms next old new keeps counts.adds;
      lines = counts.lines ∙ ap (λ (n : ℕ). n + 1) keeps.lines ∙ sym lines;
      total = counts.total ∙ ap (λ (n : ℕ). n + sectors_of_line next) keeps.total ∙ sym total;
      few = omega (arith, lines, within.lines);
      small = omega (arith, total, within.sectors);
      items_few = omega (arith, lines, few.0);
      sectors_few = omega (arith, total, few.1);
      asked_few = omega (arith, total, few.2);
    }

-- whether some line showed is seen from what is kept
pub shown-now : (ms : List Line) (draft : Draft) (none : Bool) → KeepsLines ms draft → none ≡ eqb (vec_len draft.shows) 0 → list_any is_show ms ≡ not none
shown-now ms draft none keeps is = by (shows-cases 1 ms) where
  count : vec_len draft.shows ≡ length (shows_in ms)
  count = omega (arith, draft.shows.ok.0, sym (length-map draft.shows.items showing_of) ∙ ap length keeps.shows)

  by : ((list_any is_show ms ≡ true) × (0 < length (shows_in ms))) ⊎ ((list_any is_show ms ≡ false) × (length (shows_in ms) ≡ 0)) → list_any is_show ms ≡ not none
  by (inl some) = some.0 ∙ sym (ap not (is ∙ false_from_ne_true _ (λ e. let zero : vec_len draft.shows ≡ 0 = eqb-true _ _ e in absurd (omega (arith, some.1, count, zero)))))
  by (inr without) = without.0 ∙ sym (ap not (is ∙ eq-eqb _ _ (count ∙ without.1)))

-- The three ways in which a line is taken.

pub stops-bad : (done : List (List ℕ)) (draft : Draft) (line : List ℕ) (number : ℕ) → HasReadLines done draft → number ≡ draft.lines →
    ((ms : List Line) → KeepsLines ms draft → (says : Line) → ¬ (IsGood draft.guests ms line says)) → Stops draft.guests done line (Bad (number + 1))
stops-bad done draft line number read is bad = (read.says, read.spelled, ap (λ (n : ℕ). n + 1) (is ∙ read.kept.lines), bad read.says read.kept)

pub stops-much : (done : List (List ℕ)) (draft : Draft) (line : List ℕ) (number : ℕ) (says : Line) → HasReadLines done draft → number ≡ draft.lines →
    ((ms : List Line) → KeepsLines ms draft → IsGood draft.guests ms line says) → ¬ ((draft.lines < 500000) × (draft.total + sectors_of_line says ≤ 262144)) → Stops draft.guests done line (TooMuch (number + 1))
stops-much done draft line number says read is good much = (
  read.says,
  read.spelled,
  ap (λ (n : ℕ). n + 1) (is ∙ read.kept.lines),
  says,
  good read.says read.kept,
  λ within. much (omega (arith, within.lines, read.kept.lines), omega (arith, within.sectors, read.kept.total)),
)

pub read-more : (done : List (List ℕ)) (old new : Draft) (line : List ℕ) (says : Line) → HasReadLines done old → ((ms : List Line) → KeepsLines ms old → IsGood old.guests ms line says) →
    old.lines < 500000 → old.total + sectors_of_line says ≤ 262144 → CountsLine says old new → HasReadLines (done ++ line ∷ []) new
read-more done old new line says read good lines sectors counts =
    let within : KeepsLimits read.says says = record { lines = omega (arith, lines, read.kept.lines); sectors = omega (arith, sectors, read.kept.total) } in
    let fine = good read.says read.kept in
    record {
      says = read.says ++ says ∷ [];
      spelled = rw counts.guests (spells-push old.guests [] done read.says line says read.spelled fine within);
      kept = keeps-more read.says says old new read.kept within (has-guest old.guests read.says line says fine) counts;
    }

pub taken-next : (done : List (List ℕ)) (draft : Draft) (line : List ℕ) (says : Line) → HasReadLines done draft → ((ms : List Line) → KeepsLines ms draft → IsGood draft.guests ms line says) →
    draft.lines < 500000 → draft.total + sectors_of_line says ≤ 262144 → CanTake says draft
taken-next done draft line says read good lines sectors =
    can-take read.says draft says read.kept (has-guest draft.guests read.says line says (good read.says read.kept)) (record { lines = omega (arith, lines, read.kept.lines); sectors = omega (arith, sectors, read.kept.total) })
