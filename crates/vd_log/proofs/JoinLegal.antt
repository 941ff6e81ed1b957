-- A legal history that goes on after a quiet one is legal as a whole.
use Rattle.std.proofs.Common.{◌≡◌, ℕ, ◌+◌, ◌-◌, ◌<◌, ◌≤◌, inl, inr, Bool, true, false, List, [], ◌++◌, length, take, get_or, refl, ap, sym, ◌∙◌, subst, arith}
use Rattle.std.specs.Prelude.{if◌then◌else◌, ◌==◌, slice_get, map, IsSome}
use Rattle.std.specs.Option.{option_to_list}
use Rattle.std.specs.List.{All, Contains}
use Rattle.std.proofs.Math.Seq.{take-append-add}
use Rattle.std.proofs.lemmas.List.{take-map}
use Rattle.std.proofs.lemmas.List.Elements.{All-map, All-weaker}
use Rattle.std.proofs.lemmas.Option.{slice_get-get_or, slice_get_within}
use Rattle.std.proofs.lemmas.Bool.{eqb-true, cases_lt, cases_Bool}
use Rattle.vd_law.specs.declared.entry.Sector.{Sector}
use Rattle.vd_law.specs.declared.entry.CallId.{CallId}
use Rattle.vd_law.specs.Entries.{Entry, Ask, Issue, Done, Broke, Seen, Reply, call_of, same_call, Past, nothing, ◌▸◌, past}
use Rattle.vd_law.specs.Calls.{Progress, progress, progress_after, no_progress, last_call}
use Rattle.vd_law.specs.Contents.{could, may, issued_contents, Open, open_writes, could_after}
use Rattle.vd_law.specs.Rules.{Each, IsInTurn, IsNextCall, IsUnderWay, IsInPlace, IssueFits, SeenFits, IsUntouched, IsAlone, IsShown, ReplyFits, IsAnswered, IsLegal}
use Rattle.vd_law.specs.Joining.{after_history, IsQuiet, raised_id, raised_entry, joined_entries}
use Rattle.vd_law.proofs.CallLaws.{still_fresh}
use Rattle.vd_law.proofs.Inside.{lies-inside}
use Rattle.vd_log.proofs.JoinContents.{could-joined, may-joined, AreNew, IsCounted, kept, progress-onto, last_call-onto, quiet-closed, length-after, past-joined, are_new, held-after}
use Rattle.vd_log.proofs.JoinLaws.{onto, open_writes-onto, shifted, could-onto}
use Rattle.vd_law.proofs.OpenLaws.{progress-own, progress-other}
use Rattle.vd_law.proofs.Opening.{same_call-is}
use Rattle.vd_law.proofs.RuleLaws.{legal-take}
use Rattle.vd_law.proofs.Sectors.{sector_in-place}

-- Calls are counted from 1.

differ_by_call : (c id : CallId) → (c.call ≡ id.call → ⊥) → same_call c id ≡ false
differ_by_call c id apart =
    elim (cases_Bool (same_call c id)) [ inl same ↦ absurd (apart (ap (λ (d : CallId). d.call) (same_call-is c id same))) | inr differ ↦ differ ]

zero-call : (size : ℕ) (q : Past) → Each (IsInTurn size) q → (id : CallId) → id.call ≡ 0 → progress q id ≡ no_progress
zero-call size nothing each id is_zero = refl
zero-call size (q ▸ Ask c request) each id is_zero =
    progress-other q (Ask c request) id (differ_by_call c id (λ same. omega (arith, same, is_zero, each.1.0.number))) ∙ zero-call size q each.0 id is_zero
zero-call size (q ▸ Issue c first content) each id is_zero = still_fresh q (Issue c first content) id each.1 (zero-call size q each.0 id is_zero)
zero-call size (q ▸ Done c) each id is_zero = still_fresh q (Done c) id each.1 (zero-call size q each.0 id is_zero)
zero-call size (q ▸ Broke c) each id is_zero = still_fresh q (Broke c) id each.1 (zero-call size q each.0 id is_zero)
zero-call size (q ▸ Seen c first content) each id is_zero = still_fresh q (Seen c first content) id each.1 (zero-call size q each.0 id is_zero)
zero-call size (q ▸ Reply c answer) each id is_zero = still_fresh q (Reply c answer) id each.1 (zero-call size q each.0 id is_zero)

under_way_counted : (size : ℕ) (q : Past) (id : CallId) → Each (IsInTurn size) q → IsUnderWay (progress q id) → 0 < id.call
under_way_counted size q id each under_way =
    elim (cases_lt 0 id.call) [
      | inl counted ↦ counted
      | inr none ↦ (let fresh = zero-call size q each id (omega (arith, none)) in
          let impossible : IsSome no_progress.asked = subst (λ (c : Progress). IsSome c.asked) fresh under_way.asked in let told : false ≡ true = impossible in cc)
    ]

pub counted-turn : (size : ℕ) (q : Past) → Each (IsInTurn size) q → Each IsCounted q
counted-turn size nothing each = tt
counted-turn size (q ▸ Ask c request) each = (counted-turn size q each.0, omega (arith, each.1.0.number))
counted-turn size (q ▸ Issue c first content) each = (counted-turn size q each.0, under_way_counted size q c each.0 each.1)
counted-turn size (q ▸ Done c) each = (counted-turn size q each.0, under_way_counted size q c each.0 each.1)
counted-turn size (q ▸ Broke c) each = (counted-turn size q each.0, under_way_counted size q c each.0 each.1)
counted-turn size (q ▸ Seen c first content) each = (counted-turn size q each.0, under_way_counted size q c each.0 each.1)
counted-turn size (q ▸ Reply c answer) each = (counted-turn size q each.0, under_way_counted size q c each.0 each.1)

-- The last call of a pass was asked.

some_stays : (p : Past) (e : Entry) (id : CallId) → IsSome (progress p id).asked → IsSome (progress_after (progress p id) e).asked → IsSome (progress (p ▸ e) id).asked
some_stays p e id before after_history = kept (λ (c : Progress). IsSome c.asked) p e id (λ same. after_history) before

last-asked : (p : Past) (pass : ℕ) → 0 < last_call p pass → IsSome (progress p (record { pass = pass; call = last_call p pass })).asked
last-asked nothing pass some = absurd (omega (arith, some))
last-asked (p ▸ Ask c request) pass some =
    elim (cases_Bool (c.pass == pass)) [
      | inl same ↦ (let id_is : record { pass = c.pass; call = c.call } ≡ record { pass = pass; call = c.call } = ap (λ (n : ℕ). record { pass = n; call = c.call }) (eqb-true c.pass pass same) in
          let now : IsSome (progress (p ▸ Ask c request) c).asked = subst (λ (g : Progress). IsSome g.asked) (sym (progress-own p (Ask c request))) refl in
          subst (λ (b : Bool). IsSome (progress (p ▸ Ask c request) (record { pass = pass; call = (if b then c.call else last_call p pass) })).asked) (sym same)
          (subst (λ (d : CallId). IsSome (progress (p ▸ Ask c request) d).asked) id_is now))
      | inr differ ↦ (let some_before : 0 < last_call p pass = subst (λ (b : Bool). 0 < (if b then c.call else last_call p pass)) differ some in
          subst (λ (b : Bool). IsSome (progress (p ▸ Ask c request) (record { pass = pass; call = (if b then c.call else last_call p pass) })).asked) (sym differ)
          (some_stays p (Ask c request) (record { pass = pass; call = last_call p pass }) (last-asked p pass some_before) refl))
    ]
last-asked (p ▸ Issue c first content) pass some = let before = last-asked p pass some in some_stays p (Issue c first content) (record { pass = pass; call = last_call p pass }) before before
last-asked (p ▸ Done c) pass some = let before = last-asked p pass some in some_stays p (Done c) (record { pass = pass; call = last_call p pass }) before before
last-asked (p ▸ Broke c) pass some = let before = last-asked p pass some in some_stays p (Broke c) (record { pass = pass; call = last_call p pass }) before before
last-asked (p ▸ Seen c first content) pass some = let before = last-asked p pass some in some_stays p (Seen c first content) (record { pass = pass; call = last_call p pass }) before before
last-asked (p ▸ Reply c answer) pass some = let before = last-asked p pass some in some_stays p (Reply c answer) (record { pass = pass; call = last_call p pass }) before before

-- The calls of the first history stay as they are.

old_apart : (by : ℕ → ℕ) (c id : CallId) → 0 < c.call → id.call ≤ by id.pass → same_call (raised_id by c) id ≡ false
old_apart by c id counted old =
    elim (cases_Bool (same_call (raised_id by c) id)) [
      | inl same ↦ (let one = same_call-is (raised_id by c) id same in
          let pass : by c.pass ≡ by id.pass = ap (λ (d : CallId). by d.pass) one in
          let call : by c.pass + c.call ≡ id.call = ap (λ (d : CallId). d.call) one in absurd (omega (arith, counted, old, pass, call)))
      | inr differ ↦ differ
    ]

call_raised : (by : ℕ → ℕ) (e : Entry) → call_of (raised_entry by e) ≡ raised_id by (call_of e)
call_raised by (Ask id request) = refl
call_raised by (Issue id first content) = refl
call_raised by (Done id) = refl
call_raised by (Broke id) = refl
call_raised by (Seen id first content) = refl
call_raised by (Reply id answer) = refl

old-onto : (by : ℕ → ℕ) (h q : Past) (id : CallId) → Each IsCounted q → id.call ≤ by id.pass → progress (onto by h q) id ≡ progress h id
old-onto by h nothing id counted old = refl
old-onto by h (q ▸ e) id counted old =
    progress-other (onto by h q) (raised_entry by e) id (ap (λ (c : CallId). same_call c id) (call_raised by e) ∙ old_apart by (call_of e) id counted.1 old)
    ∙ old-onto by h q id counted.0 old

-- Rule by rule.

under_way-onto : (by : ℕ → ℕ) (h q : Past) (id : CallId) → AreNew by h → 0 < id.call → IsUnderWay (progress q id) → IsUnderWay (progress (onto by h q) (raised_id by id))
under_way-onto by h q id new counted under_way = subst IsUnderWay (sym (progress-onto by h q new id counted)) under_way

next-onto : (by : ℕ → ℕ) (h q : Past) (id : CallId) → AreNew by h → Each IsCounted q → ((pass : ℕ) → last_call h pass ≡ by pass) → ((pass : ℕ) → 0 < by pass → (progress h (record { pass = pass; call = by pass })).answered ≡ true) → IsNextCall q id → IsNextCall (onto by h q) (raised_id by id)
next-onto by h q id new counted lasts answered next =
    let pass = id.pass in let last : last_call (onto by h q) pass ≡ by pass + last_call q pass = last_call-onto by h q pass (lasts pass) in
    record {
      number = omega (arith, last, next.number);
      last_answered = λ some. elim (cases_lt 0 (last_call q pass)) [
        | inl later ↦ (let old : CallId = record { pass = pass; call = last_call q pass } in
            ap (λ (n : ℕ). (progress (onto by h q) (record { pass = pass; call = n })).answered) last
            ∙ ap (λ (c : Progress). c.answered) (progress-onto by h q new old later)
            ∙ next.last_answered later)
        | inr none ↦ (let here : last_call (onto by h q) pass ≡ by pass = omega (arith, last, none) in
            let old : CallId = record { pass = pass; call = by pass } in
            ap (λ (n : ℕ). (progress (onto by h q) (record { pass = pass; call = n })).answered) here
            ∙ ap (λ (c : Progress). c.answered) (old-onto by h q old counted (omega arith))
            ∙ answered pass (omega (arith, some, here)))
      ];
    }

turn-onto : (size : ℕ) (by : ℕ → ℕ) (h q : Past) → AreNew by h → ((pass : ℕ) → last_call h pass ≡ by pass) → ((pass : ℕ) → 0 < by pass → (progress h (record { pass = pass; call = by pass })).answered ≡ true) → Each (IsInTurn size) h → Each IsCounted q → Each (IsInTurn size) q → Each (IsInTurn size) (onto by h q)
turn-onto size by h nothing new lasts answered first counted each = first
turn-onto size by h (q ▸ Ask id request) new lasts answered first counted each =
    (turn-onto size by h q new lasts answered first counted.0 each.0, (next-onto by h q id new counted.0 lasts answered each.1.0, each.1.1))
turn-onto size by h (q ▸ Issue id start content) new lasts answered first counted each =
    (turn-onto size by h q new lasts answered first counted.0 each.0, under_way-onto by h q id new counted.1 each.1)
turn-onto size by h (q ▸ Done id) new lasts answered first counted each =
    (turn-onto size by h q new lasts answered first counted.0 each.0, under_way-onto by h q id new counted.1 each.1)
turn-onto size by h (q ▸ Broke id) new lasts answered first counted each =
    (turn-onto size by h q new lasts answered first counted.0 each.0, under_way-onto by h q id new counted.1 each.1)
turn-onto size by h (q ▸ Seen id start content) new lasts answered first counted each =
    (turn-onto size by h q new lasts answered first counted.0 each.0, under_way-onto by h q id new counted.1 each.1)
turn-onto size by h (q ▸ Reply id answer) new lasts answered first counted each =
    (turn-onto size by h q new lasts answered first counted.0 each.0, under_way-onto by h q id new counted.1 each.1)

place-onto : (by : ℕ → ℕ) (h q : Past) → AreNew by h → Each IsInPlace h → Each IsCounted q → Each IsInPlace q → Each IsInPlace (onto by h q)
place-onto by h nothing new first counted each = first
place-onto by h (q ▸ Ask id request) new first counted each = (place-onto by h q new first counted.0 each.0, tt)
place-onto by h (q ▸ Issue id start content) new first counted each =
    (place-onto by h q new first counted.0 each.0, subst (λ (c : Progress). IssueFits c.asked c start content) (sym (progress-onto by h q new id counted.1)) each.1)
place-onto by h (q ▸ Done id) new first counted each =
    (place-onto by h q new first counted.0 each.0, subst (λ (c : Progress). 0 < c.pending) (sym (progress-onto by h q new id counted.1)) each.1)
place-onto by h (q ▸ Broke id) new first counted each =
    (place-onto by h q new first counted.0 each.0, subst (λ (c : Progress). 0 < c.pending) (sym (progress-onto by h q new id counted.1)) each.1)
place-onto by h (q ▸ Seen id start content) new first counted each =
    (place-onto by h q new first counted.0 each.0, subst (λ (c : Progress). SeenFits c.asked c start content) (sym (progress-onto by h q new id counted.1)) each.1)
place-onto by h (q ▸ Reply id answer) new first counted each = (place-onto by h q new first counted.0 each.0, tt)

untouched-onto : (by : ℕ → ℕ) (h q : Past) (id : CallId) (start size : ℕ) → ((s : ℕ) → open_writes h s ≡ []) → IsUntouched q id start size → IsUntouched (onto by h q) (raised_id by id) start size
unfolding shifted
untouched-onto by h q id start size none untouched = λ s from below.
    let m = length (issued_contents h s) in
    let each : All (λ (w : Open). raised_id by w.call ≡ raised_id by id) (open_writes q s) = All-weaker (λ (w : Open). w.call ≡ id) (λ (w : Open). raised_id by w.call ≡ raised_id by id) (λ w same. ap (raised_id by) same) (open_writes q s) (untouched s from below) in
    subst (All (λ (w : Open). w.call ≡ raised_id by id)) (sym (open_writes-onto by h q s (none s)))
    (All-map (λ (w : Open). w.call ≡ raised_id by id) (shifted by m) (open_writes q s) each)

alone-onto : (by : ℕ → ℕ) (h q : Past) → ((s : ℕ) → open_writes h s ≡ []) → Each IsAlone h → Each IsAlone q → Each IsAlone (onto by h q)
alone-onto by h nothing none first each = first
alone-onto by h (q ▸ Ask id request) none first each = (alone-onto by h q none first each.0, tt)
alone-onto by h (q ▸ Issue id start content) none first each = (alone-onto by h q none first each.0, untouched-onto by h q id start (length content) none each.1)
alone-onto by h (q ▸ Done id) none first each = (alone-onto by h q none first each.0, tt)
alone-onto by h (q ▸ Broke id) none first each = (alone-onto by h q none first each.0, tt)
alone-onto by h (q ▸ Seen id start content) none first each = (alone-onto by h q none first each.0, untouched-onto by h q id start (length content) none each.1)
alone-onto by h (q ▸ Reply id answer) none first each = (alone-onto by h q none first each.0, tt)

answered-onto : (by : ℕ → ℕ) (h q : Past) → AreNew by h → Each IsAnswered h → Each IsCounted q → Each IsAnswered q → Each IsAnswered (onto by h q)
answered-onto by h nothing new first counted each = first
answered-onto by h (q ▸ Ask id request) new first counted each = (answered-onto by h q new first counted.0 each.0, tt)
answered-onto by h (q ▸ Issue id start content) new first counted each = (answered-onto by h q new first counted.0 each.0, tt)
answered-onto by h (q ▸ Done id) new first counted each = (answered-onto by h q new first counted.0 each.0, tt)
answered-onto by h (q ▸ Broke id) new first counted each = (answered-onto by h q new first counted.0 each.0, tt)
answered-onto by h (q ▸ Seen id start content) new first counted each = (answered-onto by h q new first counted.0 each.0, tt)
answered-onto by h (q ▸ Reply id answer) new first counted each =
    (answered-onto by h q new first counted.0 each.0, subst (λ (c : Progress). ReplyFits c.asked c answer) (sym (progress-onto by h q new id counted.1)) each.1)

shown-onto : (start next : List Sector) (by : ℕ → ℕ) (h q : Past) → ((s : ℕ) → s < length next → could_after start h s ≡ option_to_list (slice_get next s)) → ((s : ℕ) → open_writes h s ≡ []) → Each (IsShown start) h → Each (IsInTurn (length next)) q → Each IsInPlace q → Each (IsShown next) q → Each (IsShown start) (onto by h q)
shown-onto start next by h nothing held none first turn place each = first
shown-onto start next by h (q ▸ Ask id request) held none first turn place each = (shown-onto start next by h q held none first turn.0 place.0 each.0, tt)
shown-onto start next by h (q ▸ Issue id begin content) held none first turn place each = (shown-onto start next by h q held none first turn.0 place.0 each.0, tt)
shown-onto start next by h (q ▸ Done id) held none first turn place each = (shown-onto start next by h q held none first turn.0 place.0 each.0, tt)
shown-onto start next by h (q ▸ Broke id) held none first turn place each = (shown-onto start next by h q held none first turn.0 place.0 each.0, tt)
shown-onto start next by h (q ▸ Seen id begin content) held none first turn place each = (
  shown-onto start next by h q held none first turn.0 place.0 each.0,
  λ s v covers.
      let at = sector_in-place begin content s v covers in
      let within = slice_get_within content (s - begin) v at.1 in
      let inside = lies-inside (length next) q (Seen id begin content) turn.0 place.1 in
      subst (λ (contents : List Sector). Contains contents v) (sym (could-onto start next by h q s (none s) (held s (omega (arith, at.0, within, inside))))) (each.1 s v covers),
)
shown-onto start next by h (q ▸ Reply id answer) held none first turn place each = (shown-onto start next by h q held none first turn.0 place.0 each.0, tt)

-- A history that is legal from where a quiet one ends is legal as its continuation.
pub legal-joined : (start : List Sector) (first next : List Entry) → IsLegal start first → IsQuiet first → IsLegal (after_history start first) next → IsLegal start (joined_entries first next)
legal-joined start first next legal quiet goes_on =
    let h = past first in let q = past next in let by : ℕ → ℕ = λ pass. last_call h pass in
    let new = are_new start first legal in
    let same_size : length (after_history start first) ≡ length start = length-after h 0 start in
    let turn : Each (IsInTurn (length start)) q = subst (λ (n : ℕ). Each (IsInTurn n) q) same_size goes_on.regular.in_turn in
    let counted = counted-turn (length start) q turn in
    let closed : (s : ℕ) → open_writes h s ≡ [] = λ s. quiet-closed start first s legal quiet in
    let whole = past-joined first next in
    record {
      regular = record {
        in_turn = subst (Each (IsInTurn (length start))) (sym whole) (turn-onto (length start) by h q new (λ pass. refl) (λ pass some. quiet.answered (record { pass = pass; call = by pass }) (last-asked h pass some)) legal.regular.in_turn counted turn);
        in_place = subst (Each IsInPlace) (sym whole) (place-onto by h q new legal.regular.in_place counted goes_on.regular.in_place);
        alone = subst (Each IsAlone) (sym whole) (alone-onto by h q closed legal.regular.alone goes_on.regular.alone);
        answered = subst (Each IsAnswered) (sym whole) (answered-onto by h q new legal.regular.answered counted goes_on.regular.answered);
      };
      shown = subst (Each (IsShown start)) (sym whole)
          (shown-onto start (after_history start first) by h q (λ s below. held-after start first s (omega (arith, below, same_size)) legal quiet) closed legal.shown goes_on.regular.in_turn goes_on.regular.in_place goes_on.shown);
    }

-- The laws of the whole, after any number of entries of the second.

taken : (first next : List Entry) (n : ℕ) → take (length first + n) (joined_entries first next) ≡ joined_entries first (take n next)
taken first next n =
    let f = raised_entry (λ pass. last_call (past first) pass) in
    take-append-add first (map f next) n ∙ ap (λ (es : List Entry). first ++ es) (take-map f n next)

pub could-at : (start : List Sector) (first next : List Entry) (n s : ℕ) → s < length start → IsLegal start first → IsQuiet first → could start (take (length first + n) (joined_entries first next)) s ≡ could (after_history start first) (take n next) s
could-at start first next n s inside legal quiet =
    let none : Sector = record { bytes = [] } in
    ap (λ (es : List Entry). could start es s) (taken first next n)
    ∙ could-joined start first (take n next) s (get_or start s none) (slice_get-get_or start s none inside) legal quiet

pub may-at : (start : List Sector) (first next : List Entry) (n s : ℕ) → s < length start → IsLegal start first → IsQuiet first → IsLegal (after_history start first) next → may start (take (length first + n) (joined_entries first next)) s ≡ may (after_history start first) (take n next) s
may-at start first next n s inside legal quiet goes_on =
    let none : Sector = record { bytes = [] } in
    let front = legal-take (after_history start first) n next goes_on in
    ap (λ (es : List Entry). may start es s) (taken first next n)
    ∙ may-joined start first (take n next) s (get_or start s none) (slice_get-get_or start s none inside) legal quiet
    (counted-turn (length (after_history start first)) (past (take n next)) front.regular.in_turn)
