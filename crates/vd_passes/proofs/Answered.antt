-- Where all passes are idle, each call that was asked has its Reply; and no entry is of a call that is yet to come.
use Rattle.std.proofs.Common.{◌≡◌, ℕ, ◌+◌, ◌<◌, ◌≤◌, ◌==◌, Bool, true, false, List, [], ◌∷◌, ◌++◌, length, refl, sym, ◌∙◌, ap, subst, inl, inr, arith, Option, Some, slice_get, slice_set}
use Rattle.std.specs.Prelude.{◌-◌, IsSome, if◌then◌else◌, replicate, slice_range}
use Rattle.std.specs.List.{All, AllByRecursion, fold}
use Rattle.std.proofs.lemmas.Bool.{eqb-true, eq-eqb, cases_lt, cases_Bool}
use Rattle.std.proofs.lemmas.Option.{slice_get_within, slice_get_cases}
use Rattle.std.proofs.lemmas.List.{append_assoc}
use Rattle.std.proofs.lemmas.List.Elements.{All-nil, All-head, All-tail, All-push}
use Rattle.vd_law.specs.declared.entry.CallId.{CallId}
use Rattle.vd_law.specs.declared.entry.Sector.{Sector}
use Rattle.vd_law.specs.declared.entry.Answer.{Answer}
use Rattle.vd_law.specs.declared.entry.Answer.TheVariants.{Full}
use Rattle.vd_law.specs.Entries.{Asked, Entry, Ask, Issue, Done, Broke, Seen, Reply, call_of, same_call, Past, nothing, ◌▸◌, past}
use Rattle.vd_law.specs.Calls.{Progress, no_progress, progress, last_call}
use Rattle.vd_law.specs.Rules.{Each, IsInTurn, IsUnderWay, IsRegular}
use Rattle.vd_law.proofs.Opening.{same_call-is}
use Rattle.vd_law.proofs.OpenLaws.{progress-other}
use Rattle.vd_law.proofs.CallLaws.{fresh-call}
use Rattle.vd_device.specs.declared.store.Store as store
use Rattle.vd_device.specs.declared.base.Base as base
use Rattle.vd_device.specs.declared.ticket.Ticket.{Ticket}
use Rattle.vd_passes.specs.Requests.{RequestState}
use Rattle.vd_passes.specs.declared.pass.Pass.{Pass}
use Rattle.vd_passes.specs.declared.pass.Phase.TheVariants.{Idle}
use Rattle.vd_device.specs.declared.settled.Settled.{Settled}
use Rattle.vd_device.specs.declared.settled.Settled.TheVariants as settled
use Rattle.vd_passes.specs.declared.pass.Fault.{Fault}
use Rattle.vd_passes.specs.declared.pass.Fault.TheVariants as fault
use Rattle.vd_passes.specs.Passes.{call_id as own, after_spending, after_ask, after_reply, after_issue, after_piece, after_fault}
use Rattle.vd_passes.specs.Steps.{Asks, AsksFull, Replies, Issues, after_write, WriteSettled, Sees, EndsRead, LookSettled, BaseLookSettled}
use Rattle.vd_passes.specs.Standings.{standing}
use Rattle.vd_passes.specs.Coherent.{IsCoherent}
use Rattle.vd_passes.specs.Causes.{AreOfPasses}
use Rattle.vd_passes.proofs.Lists.{length-set'}
use Rattle.vd_passes.proofs.Tracks.{same-false}
use Rattle.vd_format.specs.Background.{zero_sector}

abbrev IsAsked : Past → CallId → Type 0
IsAsked p id = IsSome (progress p id).asked

abbrev HasReply : Past → CallId → Type 0
HasReply p id = (progress p id).answered ≡ true

not-asked : (p : Past) (id : CallId) → progress p id ≡ no_progress → IsAsked p id → ⊥
not-asked p id none asked = let impossible : IsSome no_progress.asked = subst (λ (c : Progress). IsSome c.asked) none asked in let told : false ≡ true = impossible in cc

-- a call that is under way is none of those that have no entry
other-asked : (p : Past) (c id : CallId) → IsUnderWay (progress p c) → progress p id ≡ no_progress → same_call c id ≡ false
other-asked p c id under_way none = elim (cases_Bool (same_call c id)) [
  | inl same ↦ absurd (not-asked p id none (subst (λ (d : CallId). IsAsked p d) (same_call-is c id same) under_way.asked))
  | inr other ↦ other
]

apart-call : (c id : CallId) → (c.call ≡ id.call → ⊥) → same_call c id ≡ false
apart-call c id ne = same-false c id (λ same_pass. ne)

apart-pass : (c id : CallId) → (c.pass ≡ id.pass → ⊥) → same_call c id ≡ false
apart-pass c id ne = same-false c id (λ same_pass same_number. ne same_pass)

-- No call has the number 0.
zero-call : (size : ℕ) (p : Past) → Each (IsInTurn size) p → (id : CallId) → id.call ≡ 0 → progress p id ≡ no_progress
zero-call size nothing each id zero = refl
zero-call size (p ▸ Ask c request) each id zero =
    progress-other p (Ask c request) id (apart-call c id (λ same. let number = each.1.0.number in absurd (omega (arith, same, number, zero)))) ∙ zero-call size p each.0 id zero
zero-call size (p ▸ Issue c first content) each id zero = let before = zero-call size p each.0 id zero in progress-other p (Issue c first content) id (other-asked p c id each.1 before) ∙ before
zero-call size (p ▸ Done c) each id zero = let before = zero-call size p each.0 id zero in progress-other p (Done c) id (other-asked p c id each.1 before) ∙ before
zero-call size (p ▸ Broke c) each id zero = let before = zero-call size p each.0 id zero in progress-other p (Broke c) id (other-asked p c id each.1 before) ∙ before
zero-call size (p ▸ Seen c first content) each id zero = let before = zero-call size p each.0 id zero in progress-other p (Seen c first content) id (other-asked p c id each.1 before) ∙ before
zero-call size (p ▸ Reply c answer) each id zero = let before = zero-call size p each.0 id zero in progress-other p (Reply c answer) id (other-asked p c id each.1 before) ∙ before

-- an entry of a call that is under way leaves the calls that have their Reply
still-answered : (p : Past) (e : Entry) (id : CallId) → IsUnderWay (progress p (call_of e)) → (IsAsked p id → HasReply p id) → IsAsked (p ▸ e) id → HasReply (p ▸ e) id
still-answered p e id under_way before asked = elim (cases_Bool (same_call (call_of e) id)) [
  | inl same ↦ (let is = same_call-is (call_of e) id same in
      let yes : HasReply p id = before (subst (λ (d : CallId). IsAsked p d) is under_way.asked) in
      let no : (progress p id).answered ≡ false = ap (λ (d : CallId). (progress p d).answered) (sym is) ∙ under_way.unanswered in absurd (cc))
  | inr other ↦ (let same = progress-other p e id other in
      ap (λ (c : Progress). c.answered) same ∙ before (subst (λ (c : Progress). IsSome c.asked) same asked))
]

-- Where the pass's last call has its Reply, so has each of its calls up to that one.
up-to-last : (size : ℕ) (p : Past) → Each (IsInTurn size) p → (id : CallId) → (0 < last_call p id.pass → HasReply p (record { pass = id.pass; call = last_call p id.pass }))
    → (id.call < last_call p id.pass → IsAsked p id → HasReply p id) → id.call ≤ last_call p id.pass → IsAsked p id → HasReply p id
up-to-last size p each id last earlier within asked = elim (cases_lt id.call (last_call p id.pass)) [
  | inl less ↦ earlier less asked
  | inr more ↦ (let same : last_call p id.pass ≡ id.call = omega arith in elim (cases_lt 0 id.call) [
    | inl some ↦ subst (λ (n : ℕ). HasReply p (record { pass = id.pass; call = n })) same (last (omega arith))
    | inr none ↦ absurd (not-asked p id (zero-call size p each id (omega arith)) asked)
  ])
]

earlier-answered : (size : ℕ) (p : Past) → Each (IsInTurn size) p → (id : CallId) → id.call < last_call p id.pass → IsAsked p id → HasReply p id
earlier-answered size nothing each id less asked = absurd (omega arith)
earlier-answered size (p ▸ Ask c request) each id less asked =
    elim (cases_Bool (c.pass == id.pass)) [
      | inl same ↦ (let below : id.call < c.call = subst (λ (b : Bool). id.call < (if b then c.call else last_call p id.pass)) same less in
          let is : c.pass ≡ id.pass = eqb-true c.pass id.pass same in
          let number : c.call ≡ last_call p id.pass + 1 = each.1.0.number ∙ ap (λ (i : ℕ). last_call p i + 1) is in
          let kept = progress-other p (Ask c request) id (apart-call c id (λ e. absurd (omega (arith, e, below)))) in
          ap (λ (x : Progress). x.answered) kept
          ∙ up-to-last size p each.0 id
          (subst (λ (i : ℕ). 0 < last_call p i → HasReply p (record { pass = i; call = last_call p i })) is each.1.0.last_answered)
          (earlier-answered size p each.0 id) (omega (arith, below, number)) (subst (λ (x : Progress). IsSome x.asked) kept asked))
      | inr differ ↦ (let below : id.call < last_call p id.pass = subst (λ (b : Bool). id.call < (if b then c.call else last_call p id.pass)) differ less in
          let kept = progress-other p (Ask c request) id (apart-pass c id (λ e. absurd (let is = eq-eqb c.pass id.pass e in cc))) in
          ap (λ (x : Progress). x.answered) kept ∙ earlier-answered size p each.0 id below (subst (λ (x : Progress). IsSome x.asked) kept asked))
    ]
earlier-answered size (p ▸ Issue c first content) each id less asked = still-answered p (Issue c first content) id each.1 (earlier-answered size p each.0 id less) asked
earlier-answered size (p ▸ Done c) each id less asked = still-answered p (Done c) id each.1 (earlier-answered size p each.0 id less) asked
earlier-answered size (p ▸ Broke c) each id less asked = still-answered p (Broke c) id each.1 (earlier-answered size p each.0 id less) asked
earlier-answered size (p ▸ Seen c first content) each id less asked = still-answered p (Seen c first content) id each.1 (earlier-answered size p each.0 id less) asked
earlier-answered size (p ▸ Reply c answer) each id less asked = still-answered p (Reply c answer) id each.1 (earlier-answered size p each.0 id less) asked

past-replied : (size : ℕ) (p : Past) → Each (IsInTurn size) p → (id : CallId) → (0 < last_call p id.pass → HasReply p (record { pass = id.pass; call = last_call p id.pass })) → IsAsked p id → HasReply p id
past-replied size p each id last asked = elim (cases_lt (last_call p id.pass) id.call) [
  | inl above ↦ absurd (not-asked p id (fresh-call size p each id above) asked)
  | inr within ↦ up-to-last size p each id last (earlier-answered size p each id) (omega arith) asked
]

-- A call of a pass whose last call has its Reply, or that has none.
pub call-replied : {size : ℕ} {history : List Entry} → IsRegular size history → (id : CallId) → (0 < (standing history id.pass).call → (standing history id.pass).progress.answered ≡ true)
    → IsSome (progress (past history) id).asked → (progress (past history) id).answered ≡ true
unfolding standing
call-replied {size} {history} regular id last asked = past-replied size (past history) regular.in_turn id last asked

-- Where the last call of each pass has its Reply, so has each call.
pub idle-replied : {size : ℕ} {history : List Entry} → IsRegular size history → ((i : ℕ) → 0 < (standing history i).call → (standing history i).progress.answered ≡ true)
    → (id : CallId) → IsSome (progress (past history) id).asked → (progress (past history) id).answered ≡ true
idle-replied {size} {history} regular idle id asked = call-replied regular id (idle id.pass) asked

-- Where each entry is of one of the passes, a pass that isn't there has asked nothing.

-- what holds of each entry of a history, whatever stood before it
each-entry : (P : Entry → Type 0) (log : List Entry) (p : Past) → Each (λ q. P) p → All P log → Each (λ q. P) (fold ◌▸◌ p log)
each-entry P [] p before all = before
each-entry P (e ∷ log) p before all = each-entry P log (p ▸ e) (before, All-head P e log all) (All-tail P e log all)

all-entries : (P : Entry → Type 0) (log : List Entry) (p : Past) → Each (λ q. P) (fold ◌▸◌ p log) → Each (λ q. P) p × AllByRecursion P log
all-entries P [] p each = (each, tt)
all-entries P (e ∷ log) p each = let rest = all-entries P log (p ▸ e) each in (rest.0.0, (rest.0.1, rest.1))

abbrev OfFirst : ℕ → Entry → Type 0
OfFirst n e = (call_of e).pass < n

none-of : (n : ℕ) (p : Past) → Each (λ q. OfFirst n) p → (i : ℕ) → n ≤ i → last_call p i ≡ 0
none-of n nothing each i past_it = refl
none-of n (p ▸ Ask c request) each i past_it = elim (cases_Bool (c.pass == i)) [
  | inl same ↦ (let is = eqb-true c.pass i same in let less = each.1 in absurd (omega arith))
  | inr differ ↦ ap (λ (b : Bool). if b then c.call else last_call p i) differ ∙ none-of n p each.0 i past_it
]
none-of n (p ▸ Issue c first content) each i past_it = none-of n p each.0 i past_it
none-of n (p ▸ Done c) each i past_it = none-of n p each.0 i past_it
none-of n (p ▸ Broke c) each i past_it = none-of n p each.0 i past_it
none-of n (p ▸ Seen c first content) each i past_it = none-of n p each.0 i past_it
none-of n (p ▸ Reply c answer) each i past_it = none-of n p each.0 i past_it

pub standing-past : {passes : List Pass} {history : List Entry} → AreOfPasses passes history → (i : ℕ) → length passes ≤ i → (standing history i).call ≡ 0
unfolding standing
standing-past {passes} {history} are i past_it = none-of (length passes) (past history) (each-entry (OfFirst (length passes)) history nothing tt are.each) i past_it

module _ {S B : Type 0} {g : store.Ghosts S} {h : base.Ghosts B} {r : RequestState} {places : ℕ → Option ℕ} {s : S} {b : B}
    (co : IsCoherent g h r places s b) (idle : (i : ℕ) (p : Pass) → slice_get r.passes i ≡ Some p → p.phase ≡ Idle) where
  -- the last call of each pass has its Reply
  pub idle-answered : (i : ℕ) → i < length r.passes → 0 < (standing r.entries i).call → (standing r.entries i).progress.answered ≡ true
  idle-answered i within some = elim (slice_get_cases r.passes i).1 [
    | inl there ↦ (let stands = co.each i there.0 there.2 in let call = stands.call in stands.idle (idle i there.0 there.2) (omega (arith, call, some)))
    | inr past_it ↦ absurd (let more = past_it.0 in omega (arith, more, within))
  ]

  -- so has each call of these r.passes
  pub own-replied : (id : CallId) → id.pass < length r.passes → IsSome (progress (past r.entries) id).asked → (progress (past r.entries) id).answered ≡ true
  own-replied id within = call-replied co.regular id (idle-answered id.pass within)

  pub coherent-replied : AreOfPasses r.passes r.entries → (id : CallId) → IsSome (progress (past r.entries) id).asked → (progress (past r.entries) id).answered ≡ true
  coherent-replied are = idle-replied co.regular (λ i some. elim (cases_lt i (length r.passes)) [
    | inl within ↦ idle-answered i within some
    | inr past_it ↦ absurd (let none = standing-past are i past_it in omega (arith, none, some))
  ])

-- What a step of a pass that is there leaves of it: with no entry, with one, and with two.
pub none-of-passes : (passes : List Pass) → AreOfPasses passes []
none-of-passes passes = record { each = All-nil (OfFirst (length passes)) }

pub kept-of-passes : {passes passes' : List Pass} {history : List Entry} → length passes' ≡ length passes → AreOfPasses passes history → AreOfPasses passes' history
kept-of-passes {passes} {passes'} {history} many are = record { each = subst (λ (n : ℕ). All (OfFirst n) history) (sym many) are.each }

pub more-of-passes : {passes passes' : List Pass} {history history' : List Entry} (e : Entry) → (call_of e).pass < length passes → length passes' ≡ length passes → history' ≡ history ++ e ∷ []
    → AreOfPasses passes history → AreOfPasses passes' history'
more-of-passes {passes} {passes'} {history} {history'} e within many more are = kept-of-passes many (record {
  each = subst (All (OfFirst (length passes))) (sym more) (All-push (OfFirst (length passes)) history e are.each within);
})

pub two-of-passes : {passes passes' : List Pass} {history history' : List Entry} (d e : Entry) → (call_of d).pass < length passes → (call_of e).pass < length passes → length passes' ≡ length passes
    → history' ≡ history ++ d ∷ e ∷ [] → AreOfPasses passes history → AreOfPasses passes' history'
two-of-passes {passes} {passes'} {history} {history'} d e within_d within_e many more are =
    more-of-passes e within_e many (more ∙ sym (append_assoc history (d ∷ []) (e ∷ []))) (more-of-passes d within_d refl refl are)

many-set : (passes passes' : List Pass) (i : ℕ) (p' : Pass) → passes' ≡ slice_set passes i p' → length passes' ≡ length passes
many-set passes passes' i p' after = ap length after ∙ length-set' passes i p'

pub set-of-passes : {passes passes' : List Pass} {history : List Entry} (i : ℕ) (p' : Pass) → passes' ≡ slice_set passes i p' → AreOfPasses passes history → AreOfPasses passes' history
set-of-passes {passes} {passes'} i p' after are = kept-of-passes (many-set passes passes' i p' after) are

-- a step that changes one pass and adds an entry of it
one-more : (r : RequestState) {i : ℕ} {p : Pass} (p' : Pass) (e : Entry) → slice_get r.passes i ≡ Some p → (call_of e).pass ≡ i → AreOfPasses r.passes r.entries → AreOfPasses (slice_set r.passes i p') (r.entries ++ e ∷ [])
one-more r {i} {p} p' e there of are = more-of-passes e (subst (λ (n : ℕ). n < length r.passes) (sym of) (slice_get_within r.passes i p there)) (many-set r.passes (slice_set r.passes i p') i p' refl) refl are

-- the steps, one by one
pub asks-of-passes : {request : Asked} {events sectors i : ℕ} {r r' : RequestState} → Asks request events sectors i r r' → AreOfPasses r.passes r.entries → AreOfPasses r'.passes r'.entries
asks-of-passes {request} {events} {sectors} {i} {r} {r'} step are = rw step.after (one-more r (after_ask step.pass request events sectors) (Ask (own i (after_ask step.pass request events sectors)) request) step.there refl are)

pub asks_full-of-passes : {request : Asked} {needed free i : ℕ} {r r' : RequestState} → AsksFull request needed free i r r' → AreOfPasses r.passes r.entries → AreOfPasses r'.passes r'.entries
asks_full-of-passes {request} {needed} {free} {i} {r} {r'} step are =
    let within = slice_get_within r.passes i step.pass step.there in let id : CallId = record { pass = i; call = step.pass.call + 1 } in let p' : Pass = record step.pass { call = step.pass.call + 1 } in
    rw step.after (two-of-passes (Ask id request) (Reply id (Full needed free)) within within (many-set r.passes (slice_set r.passes i p') i p' refl) refl are)

pub replies-of-passes : {answer : Answer} {i : ℕ} {r r' : RequestState} → Replies answer i r r' → AreOfPasses r.passes r.entries → AreOfPasses r'.passes r'.entries
replies-of-passes {answer} {i} {r} {r'} step are = rw step.after (one-more r (after_reply step.pass) (Reply (own i step.pass) answer) step.there refl are)

pub sees-of-passes : {content : List Sector} {i : ℕ} {r r' : RequestState} {out out' : List Sector} → Sees content i r r' out out' → AreOfPasses r.passes r.entries → AreOfPasses r'.passes r'.entries
sees-of-passes {content} {i} {r} {r'} {out} {out'} step are =
    let p = step.pass in rw step.after (one-more r (after_spending 1 p.piece (after_piece p)) (Seen (own i p) (p.first + p.done) content) step.there refl are)

ends-write : (answer : Settled) (p : Pass) (ticket : Ticket) (i : ℕ) (r r' : RequestState) → slice_get r.passes i ≡ Some p → r' ≡ after_write answer p ticket i r → AreOfPasses r.passes r.entries → AreOfPasses r'.passes r'.entries
ends-write settled.Done p ticket i r r' there after are = rw after (one-more r (after_spending 1 0 (after_piece p)) (Done (own i p)) there refl are)
ends-write (settled.NotYet same) p ticket i r r' there after are = rw after are
ends-write (settled.Failed number) p ticket i r r' there after are = rw after (one-more r (after_spending 1 0 (after_fault (fault.Store ticket.number) p)) (Broke (own i p)) there refl are)

ends-read : (answer : Settled) (why : Fault) (content : List Sector) (i : ℕ) (r r' : RequestState) (out out' : List Sector) → EndsRead answer content why i r r' out out' → AreOfPasses r.passes r.entries → AreOfPasses r'.passes r'.entries
ends-read settled.Done why content i r r' out out' ends are = sees-of-passes ends are
ends-read (settled.NotYet same) why content i r r' out out' ends are = rw ends.0 are
ends-read (settled.Failed number) why content i r r' out out' ends are = rw ends.0.after (set-of-passes i (after_fault why ends.0.pass) refl are)

module _ {i : ℕ} {r r' : RequestState} where
  module _ {S : Type 0} {g : store.Ghosts S} {s s' : S} where
    pub issues-of-passes : {content : List Sector} → Issues g content i r r' s s' → AreOfPasses r.passes r.entries → AreOfPasses r'.passes r'.entries
    issues-of-passes {content} step are =
        let p = step.pass in rw step.after (one-more r (after_issue p step.ticket step.buffer) (Issue (own i p) (p.first + p.done) (slice_range content p.done (p.done + p.piece))) step.there refl are)

    pub write_settled-of-passes : {answer : Settled} → WriteSettled g answer i r r' s s' → AreOfPasses r.passes r.entries → AreOfPasses r'.passes r'.entries
    write_settled-of-passes {answer} step = ends-write answer step.pass step.ticket i r r' step.there step.after

    pub look_settled-of-passes : {answer : Settled} {out out' : List Sector} → LookSettled g answer i r r' s s' out out' → AreOfPasses r.passes r.entries → AreOfPasses r'.passes r'.entries
    look_settled-of-passes {answer} {out} {out'} step = ends-read answer (fault.Store step.ticket.number) step.content i r r' out out' step.effect

  pub base_look_settled-of-passes : {B : Type 0} {h : base.Ghosts B} {b b' : B} {answer : Settled} {out out' : List Sector} → BaseLookSettled h answer i r r' b b' out out' → AreOfPasses r.passes r.entries → AreOfPasses r'.passes r'.entries
  base_look_settled-of-passes {B} {h} {b} {b'} {answer} {out} {out'} step =
      ends-read answer (fault.Base step.ticket.number) (step.content ++ replicate (step.pass.piece - step.ticket.count) zero_sector) i r r' out out' step.effect

-- No entry is of a call that is yet to come.
abbrev pub IsOfAnother : CallId → Entry → Type 0
IsOfAnother id e = same_call (call_of e) id ≡ false

fresh-past : (size : ℕ) (p : Past) → Each (IsInTurn size) p → (id : CallId) → last_call p id.pass < id.call → Each (λ q. IsOfAnother id) p
fresh-past size nothing each id above = tt
fresh-past size (p ▸ Ask c request) each id above = elim (cases_Bool (c.pass == id.pass)) [
  | inl same ↦ (let asked_last : c.call < id.call = subst (λ (b : Bool). (if b then c.call else last_call p id.pass) < id.call) same above in
      let one_pass : last_call p c.pass ≡ last_call p id.pass = ap (last_call p) (eqb-true c.pass id.pass same) in
      (fresh-past size p each.0 id (omega (arith, asked_last, one_pass, each.1.0.number)), apart-call c id (λ e. absurd (omega (arith, e, asked_last)))))
  | inr differ ↦ (let above_before : last_call p id.pass < id.call = subst (λ (b : Bool). (if b then c.call else last_call p id.pass) < id.call) differ above in
      (fresh-past size p each.0 id above_before, apart-pass c id (λ e. absurd (let is = eq-eqb c.pass id.pass e in cc))))
]
fresh-past size (p ▸ Issue c first content) each id above = (fresh-past size p each.0 id above, other-asked p c id each.1 (fresh-call size p each.0 id above))
fresh-past size (p ▸ Done c) each id above = (fresh-past size p each.0 id above, other-asked p c id each.1 (fresh-call size p each.0 id above))
fresh-past size (p ▸ Broke c) each id above = (fresh-past size p each.0 id above, other-asked p c id each.1 (fresh-call size p each.0 id above))
fresh-past size (p ▸ Seen c first content) each id above = (fresh-past size p each.0 id above, other-asked p c id each.1 (fresh-call size p each.0 id above))
fresh-past size (p ▸ Reply c answer) each id above = (fresh-past size p each.0 id above, other-asked p c id each.1 (fresh-call size p each.0 id above))

pub fresh-entries : {size : ℕ} {history : List Entry} → IsRegular size history → (id : CallId) → (standing history id.pass).call < id.call → AllByRecursion (IsOfAnother id) history
unfolding standing
fresh-entries {size} {history} regular id above = (all-entries (IsOfAnother id) history nothing (fresh-past size (past history) regular.in_turn id above)).1
