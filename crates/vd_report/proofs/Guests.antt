-- The lines of a guest's calls, reply by reply, and those of the guests, guest by guest.
use Rattle.std.proofs.Common.{◌≡◌, ℕ, zero, suc, ◌+◌, ◌<◌, ◌≤◌, inl, inr, Bool, true, false, List, [], ◌∷◌, ◌++◌, length, take, drop, Some, Result, Ok, Err, eqb, sym, ◌∙◌, ap, refl, append-nil, append_assoc, arith}
use Rattle.std.proofs.lemmas.Bool.{eq-eqb, cases_lt}
use Rattle.std.proofs.lemmas.Option.{get_or_from_slice_get}
use Rattle.std.proofs.lemmas.List.{take-append-drop}
use Rattle.std.proofs.lemmas.List.Sums.{fold-append}
use Rattle.std.proofs.lemmas.List.Concat.{flat_map-append}
use Rattle.std.specs.Prelude.{IsErr, slice_get, if◌then◌else◌}
use Rattle.std.specs.List.{flat_map, slice_range, fold}
use Rattle.vd_law.specs.declared.entry.Sector.{Sector}
use Rattle.vd_law.specs.declared.entry.CallId.{CallId}
use Rattle.vd_law.specs.declared.entry.Answer.{Answer}
use Rattle.vd_law.specs.Entries.{Asked, Entry, Ask, Issue, Done, Broke, Seen, Reply, Past, ◌▸◌, past}
use Rattle.vd_law.proofs.Going.{past-more}
use Rattle.vd_io.specs.Streams.{WritesText}
use Rattle.vd_io.proofs.Composing.{writes-failed, writes-after}
use Rattle.vd_report.specs.Replies.{seen_in, seen_since_ask, call_text, reply_text, guest_text, history_text}
use Rattle.vd_report.specs.LastAsks.{asked_next}
use Rattle.vd_report.proofs.Ranges.{slice_range-more, slice_range-none}
use Rattle.vd_report.proofs.Telling.{entry_at, at-entry_at}

-- the line of a reply to the guest
pub reply_text-own : (p : Past) (e : Entry) (id : CallId) (answer : Answer) (guest : ℕ) (seen : List Sector) →
    e ≡ Reply id answer → id.pass ≡ guest → seen ≡ seen_since_ask p guest → reply_text p e guest ≡ call_text id answer seen
reply_text-own p e id answer guest seen is own told = rw (is, eq-eqb id.pass guest own, told) refl

-- the entries that are of the guest's last call, with one more
of-more : (guest : ℕ) (es : List Entry) (from at : ℕ) (e : Entry) → from ≤ at → at < length es → slice_get es at ≡ Some e →
    flat_map (seen_in guest) (slice_range es from (at + 1)) ≡ flat_map (seen_in guest) (slice_range es from at) ++ seen_in guest e
of-more guest es from at e before inside there =
    ap (flat_map (seen_in guest)) (slice_range-more es from at e before inside ∙ ap (λ (x : Entry). slice_range es from at ++ x ∷ []) (get_or_from_slice_get es at e e there))
    ∙ flat_map-append (seen_in guest) (slice_range es from at) (e ∷ []) ∙ ap (λ (last : List Sector). flat_map (seen_in guest) (slice_range es from at) ++ last) (append-nil (seen_in guest e))

-- what the guest has seen since its last Ask, after one more entry
pub seen-next : (guest : ℕ) (es : List Entry) (asked at : ℕ) (e : Entry) → asked ≤ at → at < length es → slice_get es at ≡ Some e →
    flat_map (seen_in guest) (slice_range es asked at) ≡ seen_since_ask (past (take at es)) guest →
    flat_map (seen_in guest) (slice_range es (asked_next e guest asked at) (at + 1)) ≡ seen_since_ask (past (take (at + 1) es)) guest
seen-next guest es asked at e before inside there told = rw (past-more es at e there) (step e there) where
  others : (x : Entry) → slice_get es at ≡ Some x → flat_map (seen_in guest) (slice_range es asked (at + 1)) ≡ seen_since_ask (past (take at es)) guest ++ seen_in guest x
  others x there = of-more guest es asked at x before inside there ∙ ap (λ (seen : List Sector). seen ++ seen_in guest x) told

  asks : (id : CallId) (request : Asked) (own : Bool) → slice_get es at ≡ Some (Ask id request) →
      flat_map (seen_in guest) (slice_range es (if own then at else asked) (at + 1)) ≡ (if own then [] else seen_since_ask (past (take at es)) guest)
  asks id request true there = of-more guest es at at (Ask id request) (omega arith) inside there ∙ ap (λ (part : List Entry). flat_map (seen_in guest) part ++ []) (slice_range-none es at)
  asks id request false there = others (Ask id request) there ∙ append-nil (seen_since_ask (past (take at es)) guest)

  step : (x : Entry) → slice_get es at ≡ Some x → flat_map (seen_in guest) (slice_range es (asked_next x guest asked at) (at + 1)) ≡ seen_since_ask (past (take at es) ▸ x) guest
  step (Ask id request) there = asks id request (eqb id.pass guest) there
  step (Issue id first content) there = others (Issue id first content) there
  step (Done id) there = others (Done id) there
  step (Broke id) there = others (Broke id) there
  step (Seen id first content) there = others (Seen id first content) there
  step (Reply id answer) there = others (Reply id answer) there

-- the lines of a guest are those after the first entries, and more
guest_text-fold : (guest : ℕ) (p : Past) (es : List Entry) → (rest : List ℕ) × (guest_text (fold ◌▸◌ p es) guest ≡ guest_text p guest ++ rest)
guest_text-fold guest p [] = ([], sym (append-nil (guest_text p guest)))
guest_text-fold guest p (e ∷ es) =
    let more = guest_text-fold guest (p ▸ e) es in
    (reply_text p e guest ++ more.0, more.1 ∙ append_assoc (guest_text p guest) (reply_text p e guest) more.0)

guest_text-front : (guest : ℕ) (es : List Entry) (n : ℕ) → (rest : List ℕ) × (guest_text (past es) guest ≡ guest_text (past (take n es)) guest ++ rest)
guest_text-front guest es n =
    let more = guest_text-fold guest (past (take n es)) (drop n es) in
    let whole : past es ≡ fold ◌▸◌ (past (take n es)) (drop n es) = ap past (sym (take-append-drop n es)) ∙ fold-append ◌▸◌ _ (take n es) (drop n es) in
    (more.0, ap (λ (p : Past). guest_text p guest) whole ∙ more.1)

pub guest-going : {E : Type 0} {u : Unit {0}} (guest : ℕ) (es : List Entry) (at : ℕ) (before : List ℕ) {between after : List ℕ} →
    at < length es → between ≡ before ++ guest_text (past (take at es)) guest →
    ((x : Entry) → slice_get es at ≡ Some x → WritesText {E = E} (reply_text (past (take at es)) x guest) (Ok u) between after) →
    after ≡ before ++ guest_text (past (take (at + 1) es)) guest
guest-going guest es at before inside wrote part =
    let there = at-entry_at es at inside in
    let more = writes-after (guest_text (past (take at es)) guest) wrote (part (entry_at es at) there) in
    more.ok ∙ ap (λ (p : Past). before ++ guest_text p guest) (sym (past-more es at (entry_at es at) there))

pub guest-failed : {E : Type 0} (guest : ℕ) (es : List Entry) (at : ℕ) {result : Result (Unit {0}) E} {e : E} {before between after : List ℕ} →
    at < length es → IsErr result → between ≡ before ++ guest_text (past (take at es)) guest →
    ((x : Entry) → slice_get es at ≡ Some x → WritesText (reply_text (past (take at es)) x guest) (Err e) between after) → WritesText (guest_text (past es) guest) result before after
guest-failed guest es at inside failed wrote part =
    let there = at-entry_at es at inside in
    let front = guest_text-front guest es (at + 1) in
    rw (front.1, past-more es at (entry_at es at) there) (writes-failed _ failed (writes-after _ wrote (part (entry_at es at) there)))

-- the lines of the first guests, and more
history_text-front : (es : List Entry) (n m : ℕ) → n ≤ m → (rest : List ℕ) × (history_text m es ≡ history_text n es ++ rest)
history_text-front es n zero le = let none : n ≡ zero = omega arith in ([], rw none refl)
history_text-front es n (suc m) le = elim (cases_lt m n) [
  | inl past ↦ (let same : n ≡ suc m = omega arith in ([], rw same (sym (append-nil (history_text (suc m) es)))))
  | inr within ↦ (let more = history_text-front es n m within in
      (more.0 ++ guest_text (past es) (m + 1), ap (λ (t : List ℕ). t ++ guest_text (past es) (m + 1)) more.1 ∙ append_assoc (history_text n es) more.0 (guest_text (past es) (m + 1))))
]

pub guests-failed : {E : Type 0} (guests : ℕ) (es : List Entry) (n : ℕ) {result : Result (Unit {0}) E} {e : E} {before between after : List ℕ} →
    n < guests → IsErr result → between ≡ before ++ history_text n es → WritesText (guest_text (past es) (n + 1)) (Err e) between after → WritesText (history_text guests es) result before after
guests-failed guests es n inside failed wrote part =
    let front = history_text-front es (suc n) guests (omega arith) in
    rw front.1 (writes-failed front.0 failed (writes-after (history_text n es) wrote part))
