-- Each step of a pass keeps what traces the store faults.
use Rattle.std.proofs.Common.{◌≡◌, ◌≢◌, ℕ, ◌+◌, ◌≤◌, ◌⊎◌, true, false, List, [], ◌∷◌, ◌++◌, length, refl, sym, ◌∙◌, ap, subst, inl, inr, arith, append-nil, append_assoc, replicate, slice_range, Option, Some, None, slice_get}
use Rattle.vd_law.specs.declared.entry.CallId.{CallId}
use Rattle.vd_law.specs.declared.entry.Sector.{Sector}
use Rattle.vd_law.specs.declared.entry.Answer.{Answer}
use Rattle.vd_law.specs.declared.entry.Answer.TheVariants.{Full, StoreFault}
use Rattle.vd_law.specs.Entries.{Asked, Read, Write, Flush, Entry, Ask, Issue, Done, Broke, Seen, Reply}
use Rattle.vd_device.specs.declared.store.Store as store
use Rattle.vd_device.specs.declared.base.Base as base
use Rattle.vd_device.specs.declared.ticket.Ticket.{Ticket}
use Rattle.vd_device.specs.declared.settled.Settled.{Settled}
use Rattle.vd_device.specs.declared.settled.Settled.TheVariants as settled
use Rattle.vd_device.specs.Disks.{Adds, IsRunning}
use Rattle.vd_device.specs.Calls.{Tells, settle_entries, ask_read_entry, issue_entry, failed_entry}
use Rattle.vd_passes.specs.Requests.{RequestState, with_pass}
use Rattle.vd_passes.specs.declared.pass.Pass.{Pass}
use Rattle.vd_passes.specs.declared.pass.Phase.{Phase}
use Rattle.vd_passes.specs.declared.pass.Phase.TheVariants.{Idle, Asked as HasAsked, Held, Fetching, Filled, Issuing, Looking, Ready}
use Rattle.vd_passes.specs.declared.pass.Fault.{Fault}
use Rattle.vd_passes.specs.declared.pass.Fault.TheVariants as fault
use Rattle.vd_passes.specs.Passes.{call_id, IsRequestOf, after_ask, after_enter, after_fetch, after_filled, after_issue, after_look, after_base_look, after_fault, answer_by, answer_of, after_spending}
use Rattle.vd_passes.specs.Coherent.{IsCoherent}
use Rattle.vd_passes.specs.Steps.{IsAt, Asks, AsksFull, Enters, Fetches, FillsZeros, after_base_read, FetchSettled, Issues, after_write, WriteSettled, Looks, LooksAtBase, Sees, SeesZeros, EndsRead, LookSettled, BaseLookSettled, Replies}
use Rattle.vd_passes.specs.Tracing.{IsReadIn, IsTicketOf, IsTraced}
use Rattle.vd_passes.specs.Following.{IsFollowedPass, IsFollowed}
use Rattle.vd_passes.proofs.Lists.{some-inj}
use Rattle.vd_passes.proofs.Regions.{held-ticket}
use Rattle.vd_passes.proofs.Tracing.{length-pushed, last-pushed, asked-on, goes-on, fails-on, piece-ended, idle-pass, failure, traced-now, less-followed, pushed-followed, set-followed}
use Rattle.vd_format.specs.Background.{zero_sector}

-- the pass that a step names is the one that was found
found : (passes : List Pass) (i : ℕ) (P : Pass → Type 0) {p : Pass} → IsAt passes i P → slice_get passes i ≡ Some p → P p
found passes i P {p} at there = subst P (some-inj (sym at.1 ∙ there)) at.2

phase-found : (passes : List Pass) (i : ℕ) (phase : Phase) {p : Pass} → IsAt passes i (λ q. q.phase ≡ phase) → slice_get passes i ≡ Some p → p.phase ≡ phase
phase-found passes i phase {p} at there = found passes i (λ q. q.phase ≡ phase) at there

-- A pass whose request was asked last.
asked-last : (history : List Entry) (numbers : List ℕ) {log : List Entry} {i : ℕ} (p : Pass) (request : Asked) (events : ℕ) → length numbers ≡ length history → events ≤ length log → p.phase ≡ HasAsked → IsRequestOf p request
    → IsFollowedPass i p (history ++ Ask (call_id i p) request ∷ []) (numbers ++ events ∷ []) log
asked-last history numbers {log} {i} p request events many passed is of_pass = record {
  asked = λ busy. record {
    at = length history;
    request = request;
    asked = last-pushed history (Ask (call_id i p) request);
    of_pass = of_pass;
    number = events;
    numbered = ap (slice_get (numbers ++ events ∷ [])) (sym many) ∙ last-pushed numbers events;
    passed = passed;
  };
  issuing = λ e. absurd (cc);
  looking = λ e. absurd (cc);
  failed = λ e. absurd (cc);
}

-- A pass that is asking.
asks-pass : (history : List Entry) (numbers : List ℕ) {log : List Entry} {i : ℕ} (p : Pass) (request : Asked) (events events_left sectors_left : ℕ) → length numbers ≡ length history → events ≤ length log
    → IsFollowedPass i (after_ask p request events_left sectors_left) (history ++ Ask (call_id i (after_ask p request events_left sectors_left)) request ∷ []) (numbers ++ events ∷ []) log
asks-pass history numbers {log} {i} p (Read first count) events events_left sectors_left many passed = asked-last history numbers (after_ask p (Read first count) events_left sectors_left) (Read first count) events many passed refl (refl, refl, refl, refl)
asks-pass history numbers {log} {i} p (Write first content) events events_left sectors_left many passed = asked-last history numbers (after_ask p (Write first content) events_left sectors_left) (Write first content) events many passed refl (refl, refl, refl, refl)
asks-pass history numbers {log} {i} p Flush events events_left sectors_left many passed = asked-last history numbers (after_ask p Flush events_left sectors_left) Flush events many passed refl (refl, refl, refl, refl)

-- A pass goes on, while the store's log, the history and its numbers stand.
module _ {r r' : RequestState} {numbers : List ℕ} {log : List Entry} (followed : IsFollowed r.passes r.entries numbers log) (i : ℕ) {p : Pass} (there : slice_get r.passes i ≡ Some p) where
  set-on : (p' : Pass) → p.phase ≢ Idle → r' ≡ with_pass i p' r → p'.call ≡ p.call → p'.write ≡ p.write → p'.first ≡ p.first → p'.count ≡ p.count → p'.flush ≡ p.flush
      → p'.phase ≢ Issuing → p'.phase ≢ Looking → (p'.phase ≡ Ready → (ticket : ℕ) → p'.fault ≢ Some (fault.Store ticket)) → IsFollowed r'.passes r'.entries numbers log
  set-on p' busy after call write first count flush issues_not looks_not fails_not =
      rw after (set-followed followed there (goes-on (followed.each i p there) busy p' call write first count flush issues_not looks_not fails_not))

  fetched-followed : (answer : Settled) → p.phase ≡ Fetching → (ticket : Ticket) (block : ℕ) (content : List Sector) → r' ≡ with_pass i (after_base_read answer p ticket block content) r → IsFollowed r'.passes r'.entries numbers log
  fetched-followed settled.Done is ticket block content after =
      set-on (after_base_read settled.Done p ticket block content) (λ e. cc) after refl refl refl refl refl (λ e. cc) (λ e. cc) (λ e. absurd (cc))
  fetched-followed (settled.NotYet same) is ticket block content after = set-on p (λ e. cc) after refl refl refl refl refl (λ e. cc) (λ e. cc) (λ e. absurd (cc))
  fetched-followed (settled.Failed number) is ticket block content after =
      set-on (after_base_read (settled.Failed number) p ticket block content) (λ e. cc) after refl refl refl refl refl (λ e. cc) (λ e. cc) (λ e other why. cc)

-- The steps, as their records say them. First those that add no entry and leave the store as it is.
module _ {r r' : RequestState} {numbers : List ℕ} {log : List Entry} {i : ℕ} (followed : IsFollowed r.passes r.entries numbers log) where
  pub enters-followed : {places : ℕ → Option ℕ} → IsAt r.passes i (λ p. p.phase ≡ HasAsked) → Enters places i r r' → IsFollowed r'.passes r'.entries numbers log
  enters-followed {places} at step =
      let is = phase-found r.passes i HasAsked at step.there in
      set-on {r = r} followed i step.there (after_enter step.pass step.block step.piece step.at) (λ e. cc) step.after refl refl refl refl refl (λ e. cc) (λ e. cc) (λ e. absurd (cc))

  pub fills-followed : IsAt r.passes i (λ p. p.phase ≡ Held) → FillsZeros i r r' → IsFollowed r'.passes r'.entries numbers log
  fills-followed at step =
      let is = phase-found r.passes i Held at step.there in
      set-on {r = r} followed i step.there (after_filled step.pass (replicate r.shape.block zero_sector)) (λ e. cc) step.after refl refl refl refl refl (λ e. cc) (λ e. cc) (λ e. absurd (cc))

  module _ {B : Type 0} {h : base.Ghosts B} {b b' : B} where
    pub fetches-followed : IsAt r.passes i (λ p. p.phase ≡ Held) → Fetches h i r r' b b' → IsFollowed r'.passes r'.entries numbers log
    fetches-followed at step =
        let is = phase-found r.passes i Held at step.there in
        set-on {r = r} followed i step.there (after_fetch step.pass step.ticket) (λ e. cc) step.after refl refl refl refl refl (λ e. cc) (λ e. cc) (λ e. absurd (cc))

    pub fetch_settled-followed : {answer : Settled} → IsAt r.passes i (λ p. p.phase ≡ Fetching) → FetchSettled h answer i r r' b b' → IsFollowed r'.passes r'.entries numbers log
    fetch_settled-followed {answer} at step =
        fetched-followed {r = r} followed i step.there answer (phase-found r.passes i Fetching at step.there) step.ticket r.shape.block step.content step.after

-- Then the ask and the reply, at which the store runs: it has as many events as its log.

fault-told : (f : Option Fault) (done ticket said : ℕ) → answer_by f done ≡ StoreFault ticket said → f ≡ Some (fault.Store ticket)
fault-told None done ticket said is = cc
fault-told (Some (fault.Store t)) done ticket said is = cc
fault-told (Some (fault.Base t)) done ticket said is = cc
fault-told (Some (fault.Worn generation)) done ticket said is = cc

-- a store fault that a pass replies is traced, as its failure was
reply-traced : {history : List Entry} {numbers : List ℕ} {log : List Entry} {i : ℕ} {p : Pass} → IsFollowedPass i p history numbers log → p.phase ≡ Ready → (answer : Answer) → answer ≡ answer_of p → (events : ℕ) → events ≡ length log
    → (id : CallId) (ticket done : ℕ) → Reply (call_id i p) answer ≡ Reply id (StoreFault ticket done) → IsTraced log history numbers id ticket (length history) events
reply-traced {history} {numbers} {log} {i} {p} was ready answer tells events running id ticket done is =
    let own : call_id i p ≡ id = cc in let told : answer ≡ StoreFault ticket done = cc in
    subst (λ (c : CallId). IsTraced log history numbers c ticket (length history) events) own
    (subst (IsTraced log history numbers (call_id i p) ticket (length history)) (sym running) (was.failed ready ticket (fault-told p.fault p.done ticket done (sym tells ∙ told))))

module _ {r r' : RequestState} {numbers numbers' : List ℕ} {log : List Entry} {i : ℕ} (followed : IsFollowed r.passes r.entries numbers log) where
  pub asks-followed : {request : Asked} {events_left sectors_left events : ℕ} → Asks request events_left sectors_left i r r' → numbers' ≡ numbers ++ events ∷ [] → events ≡ length log
      → IsFollowed r'.passes r'.entries numbers' log
  asks-followed {request} {events_left} {sectors_left} {events} step numbered running =
      let p = step.pass in let e : Entry = Ask (call_id i (after_ask p request events_left sectors_left)) request in
      let pushed = pushed-followed followed e events (λ j q at busy. tt) (λ id ticket done is. absurd (cc)) in
      rw (step.after, numbered) (set-followed pushed step.there (asks-pass r.entries numbers p request events events_left sectors_left followed.many (omega (arith, running))))

  pub asks_full-followed : {request : Asked} {needed free : ℕ} (events : ℕ) → IsAt r.passes i (λ p. p.phase ≡ Idle) → AsksFull request needed free i r r' → numbers' ≡ numbers ++ events ∷ events ∷ []
      → IsFollowed r'.passes r'.entries numbers' log
  asks_full-followed {request} {needed} {free} events at step numbered =
      let p = step.pass in let id : CallId = record { pass = i; call = p.call + 1 } in let ask : Entry = Ask id request in let reply : Entry = Reply id (Full needed free) in
      let asked = pushed-followed followed ask events (λ j q there busy. tt) (λ other ticket done is. absurd (cc)) in
      let pushed = pushed-followed asked reply events (λ j q there busy. tt) (λ other ticket done is. absurd (cc)) in
      rw (step.after, sym (append_assoc r.entries (ask ∷ []) (reply ∷ [])), numbered ∙ sym (append_assoc numbers (events ∷ []) (events ∷ [])))
      (set-followed pushed step.there (idle-pass (phase-found r.passes i Idle at step.there)))

  pub replies-followed : {answer : Answer} {events : ℕ} → IsAt r.passes i (λ p. p.phase ≡ Ready) → Replies answer i r r' → numbers' ≡ numbers ++ events ∷ [] → events ≡ length log
      → IsFollowed r'.passes r'.entries numbers' log
  replies-followed {answer} {events} at step numbered running =
      let p = step.pass in let ready = phase-found r.passes i Ready at step.there in
      let traced = reply-traced (followed.each i p step.there) ready answer step.is events running in
      rw (step.after, numbered) (set-followed (pushed-followed followed (Reply (call_id i p) answer) events (λ j q there busy. tt) traced) step.there (idle-pass refl))

-- The Issue of a piece, at which the store runs too: the store's Issue stands in its log at the number of the history's.

issue-ticket : (log' history : List Entry) (numbers : List ℕ) (events : ℕ) (id : CallId) (first : ℕ) (part stored : List Sector) (ticket : Ticket) (p : Pass) → length numbers ≡ length history → p.write ≡ true
    → slice_get log' events ≡ Some (issue_entry ticket stored) → (request : Asked) → IsRequestOf p request
    → IsTicketOf request log' (history ++ Issue id first part ∷ []) (numbers ++ events ∷ []) id ticket.number (length (history ++ Issue id first part ∷ []))
issue-ticket log' history numbers events id first part stored ticket p many write there (Read from count) is = absurd (let reads = is.0 in cc)
issue-ticket log' history numbers events id first part stored ticket p many write there (Write from whole) is = (
  length history,
  events,
  record {
    first = first;
    content = part;
    there = last-pushed history (Issue id first part);
    before = omega (arith, length-pushed history (Issue id first part));
    last = λ k other more after before same. absurd (omega (arith, length-pushed history (Issue id first part)));
  },
  ap (slice_get (numbers ++ events ∷ [])) (sym many) ∙ last-pushed numbers events,
  (ticket.first, stored, there),
)
issue-ticket log' history numbers events id first part stored ticket p many write there Flush is = absurd (let reads = is.0 in cc)

-- the entry that a log got stands at its old end
at-end : (old : List Entry) {new : List Entry} (e : Entry) → new ≡ old ++ e ∷ [] → (events : ℕ) → events ≡ length old → slice_get new events ≡ Some e
at-end old {new} e is events running = ap (λ (l : List Entry). slice_get l events) is ∙ ap (slice_get (old ++ e ∷ [])) running ∙ last-pushed old e

module _ {S : Type 0} {g : store.Ghosts S} {r r' : RequestState} {numbers : List ℕ} {i : ℕ} {content : List Sector} {s s' : S} (followed : IsFollowed r.passes r.entries numbers (g.disk s).log)
    (at : IsAt r.passes i (λ p. ((p.phase ≡ Held) ⊎ (p.phase ≡ Filled)) × (p.write ≡ true))) (step : Issues g content i r r' s s') where
  abbrev issuer : Pass
  issuer = step.pass

  abbrev issue : Entry
  issue = Issue (call_id i issuer) (issuer.first + issuer.done) (slice_range content issuer.done (issuer.done + issuer.piece))

  holds : ((issuer.phase ≡ Held) ⊎ (issuer.phase ≡ Filled)) × (issuer.write ≡ true)
  holds = found r.passes i (λ p. ((p.phase ≡ Held) ⊎ (p.phase ≡ Filled)) × (p.write ≡ true)) at step.there

  holds-not : (ph : Phase) → Held ≢ ph → Filled ≢ ph → issuer.phase ≢ ph
  holds-not ph held filled is = elim holds.0 [ inl h ↦ held (sym h ∙ is) | inr f ↦ filled (sym f ∙ is) ]

  -- a pass that issues or has failed is another one
  none-own : (j : ℕ) (q : Pass) → slice_get r.passes j ≡ Some q → (q.phase ≡ Issuing) ⊎ (q.phase ≡ Ready) → call_id i issuer ≢ call_id j q
  none-own j q there busy same =
      let own : issuer ≡ q = some-inj (sym step.there ∙ ap (slice_get r.passes) (ap (λ (id : CallId). id.pass) same) ∙ there) in
      elim busy [
        | inl issues ↦ holds-not Issuing (λ e. cc) (λ e. cc) (ap (λ (x : Pass). x.phase) own ∙ issues)
        | inr ready ↦ holds-not Ready (λ e. cc) (λ e. cc) (ap (λ (x : Pass). x.phase) own ∙ ready)
      ]

  pub issues-followed : {numbers' : List ℕ} {events : ℕ} → numbers' ≡ numbers ++ events ∷ [] → IsRunning events (g.disk s) → Adds (issue_entry step.ticket step.stored) (g.disk s) (g.disk s') → IsFollowed r'.passes r'.entries numbers' (g.disk s').log
  issues-followed {numbers'} {events} numbered running told =
      let grown = less-followed (pushed-followed followed issue events none-own (λ id ticket done is. absurd (cc))) (issue_entry step.ticket step.stored ∷ []) told.log in
      let p' = after_issue issuer step.ticket step.buffer in
      let now : IsFollowedPass i p' (r.entries ++ issue ∷ []) (numbers ++ events ∷ []) (g.disk s').log = record {
        asked = λ busy. asked-on (grown.each i issuer step.there) (holds-not Idle (λ e. cc) (λ e. cc)) p' refl refl refl refl refl;
        issuing = λ is t has request of_pass.
            subst (λ (u : Ticket). IsTicketOf request (g.disk s').log (r.entries ++ issue ∷ []) (numbers ++ events ∷ []) (call_id i p') u.number (length (r.entries ++ issue ∷ []))) (some-inj has)
            (issue-ticket (g.disk s').log r.entries numbers events (call_id i issuer) _ _ step.stored step.ticket p' followed.many holds.1 (at-end (g.disk s).log (issue_entry step.ticket step.stored) told.log events running) request of_pass);
        looking = λ is. absurd (cc);
        failed = λ is. absurd (cc);
      } in
      rw (step.after, numbered) (set-followed grown step.there now)

-- The reads of the store and of the base.

-- a look in the store has its read's Ask in the log
module _ {S : Type 0} {g : store.Ghosts S} {r r' : RequestState} {numbers : List ℕ} {i : ℕ} {s s' : S}
    (followed : IsFollowed r.passes r.entries numbers (g.disk s).log) (at : IsAt r.passes i (λ p. p.phase ≡ Held)) (step : Looks g i r r' s s') where
  pub looks-followed : Adds (ask_read_entry step.ticket) (g.disk s) (g.disk s') → IsFollowed r'.passes r'.entries numbers (g.disk s').log
  looks-followed told =
      let p = step.pass in let t = step.ticket in let is = phase-found r.passes i Held at step.there in
      let grown = less-followed followed (ask_read_entry t ∷ []) told.log in
      let read : IsReadIn (g.disk s').log t.number = (length (g.disk s).log, t.first, t.count, at-end (g.disk s).log (ask_read_entry t) told.log (length (g.disk s).log) refl) in
      rw step.after (set-followed grown step.there (record {
        asked = λ busy. asked-on (grown.each i p step.there) (λ e. cc) (after_look p t) refl refl refl refl refl;
        issuing = λ e. absurd (cc);
        looking = λ e u has. subst (λ (x : Ticket). IsReadIn (g.disk s').log x.number) (some-inj has) read;
        failed = λ e. absurd (cc);
      }))

-- the numbers of the entries that the settle of a write adds, and that of a read
abbrev pub numbers_of : Settled → (events : ℕ) → List ℕ
numbers_of settled.Done events = events ∷ []
numbers_of (settled.NotYet same) events = []
numbers_of (settled.Failed number) events = events ∷ []

abbrev pub read_numbers_of : Settled → (events : ℕ) → List ℕ
read_numbers_of settled.Done events = events ∷ []
read_numbers_of (settled.NotYet same) events = []
read_numbers_of (settled.Failed number) events = []

-- what is seen of a piece
sees-followed : {r r' : RequestState} {numbers numbers' : List ℕ} {log : List Entry} {i : ℕ} {content out out' : List Sector} → IsFollowed r.passes r.entries numbers log → (events : ℕ)
    → (step : Sees content i r r' out out') → step.pass.phase ≢ Idle → step.pass.fault ≡ None → numbers' ≡ numbers ++ events ∷ [] → IsFollowed r'.passes r'.entries numbers' log
sees-followed {r} {r'} {numbers} {numbers'} {log} {i} {content} {out} {out'} followed events step busy whole numbered =
    let p = step.pass in
    rw (step.after, numbered)
    (pushed-followed (set-followed followed step.there (piece-ended (followed.each i p step.there) busy whole 1 p.piece)) (Seen (call_id i p) (p.first + p.done) content) events (λ j q there b. tt) (λ id ticket done is. absurd (cc)))

-- a call that is late leaves all as it was
late-followed : {r r' : RequestState} {numbers numbers' : List ℕ} {log log' : List Entry} → IsFollowed r.passes r.entries numbers log → r' ≡ r → numbers' ≡ numbers ++ []
    → (more : List Entry) → log' ≡ log ++ more → IsFollowed r'.passes r'.entries numbers' log'
late-followed {r} {r'} {numbers} {numbers'} {log} {log'} followed same numbered more told =
    rw (same, numbered ∙ append-nil numbers) (less-followed followed more told)

-- a pass that looks serves a read
look-ticket : (log history : List Entry) (numbers : List ℕ) (id : CallId) (p : Pass) (ticket : ℕ) → IsReadIn log ticket → p.write ≡ false → (request : Asked) → IsRequestOf p request → IsTicketOf request log history numbers id ticket (length history)
look-ticket log history numbers id p ticket read reads (Read first count) is = read
look-ticket log history numbers id p ticket read reads (Write first content) is = absurd (let writes = is.0 in cc)
look-ticket log history numbers id p ticket read reads Flush is = tt

-- Where the pass has served its request so far, as the history says.
module _ {S B : Type 0} {g : store.Ghosts S} {h : base.Ghosts B} {r : RequestState} {places : ℕ → Option ℕ} {s : S} {b : B} (co : IsCoherent g h r places s b) (i : ℕ) where
  unfailed : {p : Pass} → slice_get r.passes i ≡ Some p → p.phase ≢ Idle → p.phase ≢ Ready → p.fault ≡ None
  unfailed {p} there busy ready_not = ((co.each i p there).whole busy ready_not).1

  module _ {numbers numbers' : List ℕ} (events : ℕ) {p : Pass} (there : slice_get r.passes i ≡ Some p) (ticket : Ticket) (has : p.ticket ≡ Some ticket) (r' : RequestState) {log log' : List Entry} (followed : IsFollowed r.passes r.entries numbers log) where
    write-ended : (answer : Settled) → p.phase ≡ Issuing → r' ≡ after_write answer p ticket i r → numbers' ≡ numbers ++ numbers_of answer events → log' ≡ log ++ settle_entries answer ticket [] → IsFollowed r'.passes r'.entries numbers' log'
    write-ended settled.Done issuing after numbered told =
        let grown = less-followed followed _ told in
        rw (after, numbered)
        (pushed-followed (set-followed grown there (piece-ended (grown.each i p there) (λ e. cc) (unfailed there (λ e. cc) (λ e. cc)) 1 0)) (Done (call_id i p)) events (λ j q at c. tt) (λ id other done is. absurd (cc)))
    write-ended (settled.NotYet same) issuing after numbered told = late-followed {r = r} followed after numbered [] told
    write-ended (settled.Failed number) issuing after numbered told =
        let e = failed_entry ticket.kind ticket in let grown = less-followed followed (e ∷ []) told in let p' = after_spending 1 0 (after_fault (fault.Store ticket.number) p) in
        let traced = traced-now (followed.each i p there) (λ e. cc) ticket.number e told (failure ticket.kind ticket) ((followed.each i p there).issuing issuing ticket has) in
        rw (after, numbered)
        (pushed-followed (set-followed grown there (fails-on (grown.each i p there) (λ e. cc) p' refl refl refl refl refl ticket.number refl refl traced)) (Broke (call_id i p)) events (λ j q at c. tt) (λ id other done is. absurd (cc)))

    look-ended : (content out out' : List Sector) (answer : Settled) → p.phase ≡ Looking → EndsRead answer content (fault.Store ticket.number) i r r' out out' → numbers' ≡ numbers ++ read_numbers_of answer events
        → log' ≡ log ++ settle_entries answer ticket content → IsFollowed r'.passes r'.entries numbers' log'
    look-ended content out out' settled.Done looking sees numbered told =
        let same : p ≡ sees.pass = some-inj (sym there ∙ sees.there) in
        sees-followed {r = r} (less-followed followed _ told) events sees (λ e. cc) (ap (λ (x : Pass). x.fault) (sym same) ∙ unfailed there (λ e. cc) (λ e. cc)) numbered
    look-ended content out out' (settled.NotYet same) looking ends numbered told = late-followed {r = r} followed ends.0 numbered [] told
    look-ended content out out' (settled.Failed number) looking ends numbered told =
        let e = failed_entry ticket.kind ticket in let grown = less-followed followed (e ∷ []) told in let p' = after_fault (fault.Store ticket.number) p in
        let mine : p' ≡ after_fault (fault.Store ticket.number) ends.0.pass = ap (after_fault (fault.Store ticket.number)) (some-inj (sym there ∙ ends.0.there)) in
        let ticket_is = look-ticket log r.entries numbers (call_id i p) p ticket.number ((followed.each i p there).looking looking ticket has) ((co.each i p there).read looking) in
        let traced = traced-now (followed.each i p there) (λ e. cc) ticket.number e told (failure ticket.kind ticket) ticket_is in
        rw (ends.0.after, sym mine, numbered ∙ append-nil numbers) (set-followed grown there (fails-on (grown.each i p there) (λ e. cc) p' refl refl refl refl refl ticket.number refl refl traced))

  base_look-ended : {numbers numbers' : List ℕ} (events : ℕ) {p : Pass} → slice_get r.passes i ≡ Some p → (number : ℕ) (r' : RequestState) {log : List Entry} → IsFollowed r.passes r.entries numbers log → p.phase ≡ Looking
      → (content out out' : List Sector) (answer : Settled) → EndsRead answer content (fault.Base number) i r r' out out' → numbers' ≡ numbers ++ read_numbers_of answer events → IsFollowed r'.passes r'.entries numbers' log
  base_look-ended {numbers} {numbers'} events {p} there number r' {log} followed looking content out out' settled.Done sees numbered =
      let same : p ≡ sees.pass = some-inj (sym there ∙ sees.there) in
      sees-followed {r = r} followed events sees (λ e. cc) (ap (λ (x : Pass). x.fault) (sym same) ∙ unfailed there (λ e. cc) (λ e. cc)) numbered
  base_look-ended {numbers} {numbers'} events {p} there number r' {log} followed looking content out out' (settled.NotYet same) ends numbered = late-followed {r = r} followed ends.0 numbered [] (sym (append-nil log))
  base_look-ended {numbers} {numbers'} events {p} there number r' {log} followed looking content out out' (settled.Failed other) ends numbered =
      let mine : after_fault (fault.Base number) p ≡ after_fault (fault.Base number) ends.0.pass = ap (after_fault (fault.Base number)) (some-inj (sym there ∙ ends.0.there)) in
      rw (ends.0.after, sym mine, numbered ∙ append-nil numbers)
      (set-followed followed there (goes-on (followed.each i p there) (λ e. cc) (after_fault (fault.Base number) p) refl refl refl refl refl (λ e. cc) (λ e. cc) (λ e ticket why. cc)))

-- The ends of what is in flight, as their records say them. `events` is the number that their entry has, if they add one.
module _ {S B : Type 0} {g : store.Ghosts S} {h : base.Ghosts B} {r r' : RequestState} {places : ℕ → Option ℕ} {numbers numbers' : List ℕ} {s : S} {b : B} {i : ℕ} (co : IsCoherent g h r places s b) (events : ℕ) where
  pub write_settled-followed : {answer : Settled} {s' : S} → IsFollowed r.passes r.entries numbers (g.disk s).log → IsAt r.passes i (λ p. p.phase ≡ Issuing) → (step : WriteSettled g answer i r r' s s') → numbers' ≡ numbers ++ numbers_of answer events
      → Tells answer step.ticket [] (g.disk s) (g.disk s') → IsFollowed r'.passes r'.entries numbers' (g.disk s').log
  write_settled-followed {answer} {s'} followed at step numbered told =
      write-ended co i events step.there step.ticket step.has r' followed answer (phase-found r.passes i Issuing at step.there) step.after numbered told.grows.log

  pub look_settled-followed : {answer : Settled} {s' : S} {out out' : List Sector} → IsFollowed r.passes r.entries numbers (g.disk s).log → IsAt r.passes i (λ p. p.phase ≡ Looking) → (step : LookSettled g answer i r r' s s' out out')
      → numbers' ≡ numbers ++ read_numbers_of answer events → Tells answer step.ticket step.content (g.disk s) (g.disk s') → IsFollowed r'.passes r'.entries numbers' (g.disk s').log
  look_settled-followed {answer} {s'} {out} {out'} followed at step numbered told =
      look-ended co i events step.there step.ticket step.has r' followed step.content out out' answer (phase-found r.passes i Looking at step.there) step.effect numbered told.grows.log

  pub base_look_settled-followed : {answer : Settled} {b' : B} {out out' : List Sector} {log : List Entry} → IsFollowed r.passes r.entries numbers log
      → IsAt r.passes i (λ p. p.phase ≡ Looking) → BaseLookSettled h answer i r r' b b' out out' → numbers' ≡ numbers ++ read_numbers_of answer events → IsFollowed r'.passes r'.entries numbers' log
  base_look_settled-followed {answer} {b'} {out} {out'} {log} followed at step numbered =
      base_look-ended co i events step.there step.ticket.number r' followed (phase-found r.passes i Looking at step.there) _ out out' answer step.effect numbered

  pub sees_zeros-followed : {out out' : List Sector} {log : List Entry} → IsFollowed r.passes r.entries numbers log → IsAt r.passes i (λ p. p.phase ≡ Held) → SeesZeros i r r' out out' → numbers' ≡ numbers ++ events ∷ []
      → IsFollowed r'.passes r'.entries numbers' log
  sees_zeros-followed {out} {out'} {log} followed at step numbered =
      let is = phase-found r.passes i Held at step.sees.there in
      sees-followed {r = r} followed events step.sees (λ e. cc) (unfailed co i step.sees.there (λ e. cc) (λ e. cc)) numbered

-- a look in the base has nothing in flight on the store
module _ {S B : Type 0} {g : store.Ghosts S} {h : base.Ghosts B} {r r' : RequestState} {places : ℕ → Option ℕ} {numbers : List ℕ} {i : ℕ} {s : S} {b b' : B} (co : IsCoherent g h r places s b) {log : List Entry}
    (followed : IsFollowed r.passes r.entries numbers log) where
  pub base_looks-followed : IsAt r.passes i (λ p. p.phase ≡ Held) → LooksAtBase h i r r' b b' → IsFollowed r'.passes r'.entries numbers log
  base_looks-followed at step =
      let p = step.pass in let is = phase-found r.passes i Held at step.there in
      let none = (held-ticket (co.each i p step.there) is).ticket in
      rw step.after (set-followed followed step.there (record {
        asked = λ busy. asked-on (followed.each i p step.there) (λ e. cc) (after_base_look p step.ticket) refl refl refl refl refl;
        issuing = λ e. absurd (cc);
        looking = λ e t has. absurd (cc);
        failed = λ e. absurd (cc);
      }))
