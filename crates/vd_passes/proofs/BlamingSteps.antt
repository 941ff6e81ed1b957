-- Each step of a pass keeps the tickets and the failures of both devices: what is told of them has its cause.
use Rattle.std.proofs.Common.{◌≡◌, ℕ, ◌+◌, ◌-◌, ◌≤◌, Bool, true, List, [], ◌∷◌, ◌++◌, replicate, refl, sym, ◌∙◌, ap, subst, inl, inr, arith, Option, Some, None, slice_get, slice_set}
use Rattle.std.specs.Prelude.{nat_lt, if◌then◌else◌, slice_range}
use Rattle.vd_law.specs.declared.entry.CallId.{CallId}
use Rattle.vd_law.specs.declared.entry.Sector.{Sector}
use Rattle.vd_law.specs.declared.entry.Answer.{Answer}
use Rattle.vd_law.specs.declared.entry.Answer.TheVariants.{Full}
use Rattle.vd_law.specs.Entries.{Asked, Read, Write, Flush, Ask, Issue, Done, Broke, Seen, Reply}
use Rattle.vd_device.specs.declared.store.Store as store
use Rattle.vd_device.specs.declared.base.Base as base
use Rattle.vd_device.specs.declared.ticket.Ticket.{Ticket}
use Rattle.vd_device.specs.declared.settled.Settled.{Settled}
use Rattle.vd_device.specs.declared.settled.Settled.TheVariants as settled
use Rattle.vd_device.specs.Calls.{IsCaused, next_number}
use Rattle.vd_passes.specs.declared.shape.Shape.{Shape}
use Rattle.vd_passes.specs.Requests.{RequestState, with_pass}
use Rattle.vd_passes.specs.declared.pass.Pass.{Pass}
use Rattle.vd_passes.specs.declared.pass.Phase.{Phase}
use Rattle.vd_passes.specs.declared.pass.Phase.TheVariants.{Idle, Asked as HasAsked, Held, Ready}
use Rattle.vd_passes.specs.declared.pass.Fault.{Fault}
use Rattle.vd_passes.specs.declared.pass.Fault.TheVariants as fault
use Rattle.vd_passes.specs.Standings.{Standing}
use Rattle.vd_passes.specs.Passes.{has_region, call_id, HasNone, HasInFlight, IsAsHistorySays, after_spending, after_ask, after_enter, after_fetch, after_filled, after_issue, after_look, after_base_look, after_piece, after_fault, after_reply, answer_by}
use Rattle.vd_passes.specs.Coherent.{IsCoherent}
use Rattle.vd_passes.specs.Steps.{IsAt, Asks, AsksFull, Enters, Fetches, FillsZeros, after_base_read, FetchSettled, Issues, after_write, WriteSettled, Looks, LooksAtBase, Sees, SeesZeros, EndsRead, LookSettled, BaseLookSettled, Replies}
use Rattle.vd_passes.specs.Causes.{Device, OfStore, OfBase, named_by, ticket_number, ticket_of_fault, to_name, flying_of, FaultsAddUp, HasNextTicket}
use Rattle.vd_passes.proofs.Lists.{some-inj, get-set-same}
use Rattle.vd_passes.proofs.Regions.{held-ticket}
use Rattle.vd_passes.proofs.Onward.{not-idle, not-ready}
use Rattle.vd_passes.proofs.Blaming.{IsLeft, to_name_of, flying-same, flying-none, kept-blamed, kept-untold, numbered-blamed, numbered-untold, failed-blamed, failed-untold, told-blamed, later-blamed}
use Rattle.vd_format.specs.Background.{zero_sector}

-- A pass that no device has failed has nothing to name.
pub faultless : (device : Device) (why : Option Fault) → why ≡ None → ticket_of_fault device why ≡ None
faultless OfStore why none = ap (ticket_of_fault OfStore) none
faultless OfBase why none = ap (ticket_of_fault OfBase) none

nothing-to-name : (device : Device) (phase : Phase) (why : Option Fault) → why ≡ None → to_name device phase why ≡ None
nothing-to-name device Ready why none = faultless device why none
nothing-to-name device phase why none = refl

module _ {shape : Shape} {fresh : List Bool} {places : ℕ → Option ℕ} {t : Standing} {p : Pass} (stands : IsAsHistorySays shape fresh places t p) where
  calls-none : (phase : Phase) → p.phase ≡ phase → HasInFlight p.phase shape fresh p → HasInFlight phase shape fresh p
  calls-none phase is has = subst (λ ph. HasInFlight ph shape fresh p) is has

  -- none has failed a pass that has a call in flight
  store-faultless : (ticket : Ticket) → p.ticket ≡ Some ticket → p.fault ≡ None
  store-faultless ticket has = (stands.whole (λ idle. let n : HasNone p = calls-none Idle idle stands.ticket in let e = n.ticket in cc) (λ ready. let n : HasNone p = calls-none Ready ready stands.ticket in let e = n.ticket in cc)).1

  base-faultless : (ticket : Ticket) → p.fetch ≡ Some ticket → p.fault ≡ None
  base-faultless ticket has = (stands.whole (λ idle. let n : HasNone p = calls-none Idle idle stands.ticket in let e = n.fetch in cc) (λ ready. let n : HasNone p = calls-none Ready ready stands.ticket in let e = n.fetch in cc)).1

  -- nor one that holds a region
  region-faultless : has_region p.phase ≡ true → p.fault ≡ None
  region-faultless holds = (stands.whole (not-idle p.phase holds) (not-ready p.phase holds)).1

-- the pass after a step that may submit a call
pub numbered-at : (device : Device) (passes passes' : List Pass) (last last' i : ℕ) (p p' : Pass) → slice_get passes i ≡ Some p → passes' ≡ slice_set passes i p' → IsAt passes' i (HasNextTicket device last last') → HasNextTicket device last last' p'
numbered-at device passes passes' last last' i p p' there after at = subst (HasNextTicket device last last') (some-inj (sym at.1 ∙ ap (λ ps. slice_get ps i) after ∙ get-set-same passes i p' p there)) at.2

-- The pass has the next ticket of the device, or none and the device gave none.
module _ (device : Device) (passes passes' : List Pass) (last last' i : ℕ) (p p' : Pass) (there : slice_get passes i ≡ Some p) (after : passes' ≡ slice_set passes i p') where
  pub next-numbered : flying_of device p' ≡ Some (next_number last) → last' ≡ next_number last → IsAt passes' i (HasNextTicket device last last')
  next-numbered flying next = rw after (p', get-set-same passes i p' p there, inr (flying, next))

  pub none-numbered : flying_of device p' ≡ None → last' ≡ last → IsAt passes' i (HasNextTicket device last last')
  none-numbered flying same = rw after (p', get-set-same passes i p' p there, inl (flying, same))

-- an Ask changes nothing in flight
asked-flying : (device : Device) (p : Pass) (request : Asked) (events sectors : ℕ) → flying_of device (after_ask p request events sectors) ≡ flying_of device p
asked-flying device p (Read first count) events sectors = flying-same device p (after_ask p (Read first count) events sectors) refl refl
asked-flying device p (Write first content) events sectors = flying-same device p (after_ask p (Write first content) events sectors) refl refl
asked-flying device p Flush events sectors = flying-same device p (after_ask p Flush events sectors) refl refl

asked-naming : (device : Device) (p : Pass) (request : Asked) (events sectors : ℕ) → IsLeft (to_name_of device p) (to_name_of device (after_ask p request events sectors))
asked-naming device p (Read first count) events sectors = inr refl
asked-naming device p (Write first content) events sectors = inr refl
asked-naming device p Flush events sectors = inr refl

full-names : (device : Device) (needed free : ℕ) → named_by device (Full needed free) ≡ None
full-names OfStore needed free = refl
full-names OfBase needed free = refl

fault-names : (device : Device) (why : Option Fault) (done : ℕ) → named_by device (answer_by why done) ≡ ticket_of_fault device why
fault-names OfStore None done = refl
fault-names OfStore (Some (fault.Store ticket)) done = refl
fault-names OfStore (Some (fault.Base ticket)) done = refl
fault-names OfStore (Some (fault.Worn generation)) done = refl
fault-names OfBase None done = refl
fault-names OfBase (Some (fault.Store ticket)) done = refl
fault-names OfBase (Some (fault.Base ticket)) done = refl
fault-names OfBase (Some (fault.Worn generation)) done = refl

-- Steps that call no device.
module _ {device : Device} {r r' : RequestState} {last faults_at_opening faults i : ℕ} (blamed : FaultsAddUp device r.passes r.entries last faults_at_opening faults) where
  pub asks-blamed : {request : Asked} {events sectors : ℕ} → Asks request events sectors i r r' → FaultsAddUp device r'.passes r'.entries last faults_at_opening faults
  asks-blamed {request} {events} {sectors} step = let asked = after_ask step.pass request events sectors in
      rw step.after (kept-blamed blamed i step.there asked (Ask (call_id i asked) request ∷ []) (inl (asked-flying device step.pass request events sectors)) (asked-naming device step.pass request events sectors) (refl, tt) (omega arith) (omega arith))

  pub asks_full-blamed : {request : Asked} {needed free : ℕ} → AsksFull request needed free i r r' → FaultsAddUp device r'.passes r'.entries last faults_at_opening faults
  asks_full-blamed {request} {needed} {free} step = let asked : Pass = record step.pass { call = step.pass.call + 1 } in let id : CallId = record { pass = i; call = step.pass.call + 1 } in
      rw step.after (kept-blamed blamed i step.there asked (Ask id request ∷ Reply id (Full needed free) ∷ []) (inl (flying-same device step.pass asked refl refl)) (inl refl) (refl, (full-names device needed free, tt)) (omega arith) (omega arith))

  pub replies-blamed : {answer : Answer} → IsAt r.passes i (λ p. p.phase ≡ Ready) → Replies answer i r r' → FaultsAddUp device r'.passes r'.entries last faults_at_opening faults
  replies-blamed {answer} at step =
      let p = step.pass in let ready : p.phase ≡ Ready = ap (λ (x : Pass). x.phase) (some-inj (sym step.there ∙ at.1)) ∙ at.2 in
      let names : named_by device answer ≡ to_name_of device p = ap (named_by device) step.is ∙ fault-names device p.fault p.done ∙ ap (λ ph. to_name device ph p.fault) (sym ready) in
      rw step.after (told-blamed blamed i step.there (after_reply p) (call_id i p) answer names (flying-same device p (after_reply p) refl refl) refl)

  -- the pass has its region
  pub enters-blamed : {places : ℕ → Option ℕ} → Enters places i r r' → FaultsAddUp device r'.passes r'.entries last faults_at_opening faults
  enters-blamed {places} step = let p' = after_enter step.pass step.block step.piece step.at in
      rw step.after (kept-untold blamed i step.there p' (inl (flying-same device step.pass p' refl refl)) (inr refl) (omega arith) (omega arith))

-- The pass has what a step made of it.
passes-after : {r' x : RequestState} → r' ≡ x → r'.passes ≡ x.passes
passes-after is = ap (λ (y : RequestState). y.passes) is

-- Steps that may submit a call, at either device.
module _ {device : Device} {r r' : RequestState} {last last' faults_at_opening faults faults' i : ℕ} (blamed : FaultsAddUp device r.passes r.entries last faults_at_opening faults) where
  pub fills-blamed : FillsZeros i r r' → IsAt r'.passes i (HasNextTicket device last last') → faults ≤ faults' → FaultsAddUp device r'.passes r'.entries last' faults_at_opening faults'
  fills-blamed step at rise = let p' = after_filled step.pass (replicate r.shape.block zero_sector) in
      let next = numbered-at device r.passes r'.passes last last' i step.pass p' step.there (passes-after step.after) at in rw step.after (numbered-untold blamed i step.there p' next refl rise)

  module _ {B : Type 0} {h : base.Ghosts B} {b b' : B} where
    pub fetches-blamed : Fetches h i r r' b b' → IsAt r'.passes i (HasNextTicket device last last') → faults ≤ faults' → FaultsAddUp device r'.passes r'.entries last' faults_at_opening faults'
    fetches-blamed step at rise = let p' = after_fetch step.pass step.ticket in
        let next = numbered-at device r.passes r'.passes last last' i step.pass p' step.there (passes-after step.after) at in rw step.after (numbered-untold blamed i step.there p' next refl rise)

    pub base_looks-blamed : LooksAtBase h i r r' b b' → IsAt r'.passes i (HasNextTicket device last last') → faults ≤ faults' → FaultsAddUp device r'.passes r'.entries last' faults_at_opening faults'
    base_looks-blamed step at rise = let p' = after_base_look step.pass step.ticket in
        let next = numbered-at device r.passes r'.passes last last' i step.pass p' step.there (passes-after step.after) at in rw step.after (numbered-untold blamed i step.there p' next refl rise)

  module _ {S : Type 0} {g : store.Ghosts S} {s s' : S} where
    pub looks-blamed : Looks g i r r' s s' → IsAt r'.passes i (HasNextTicket device last last') → faults ≤ faults' → FaultsAddUp device r'.passes r'.entries last' faults_at_opening faults'
    looks-blamed step at rise = let p' = after_look step.pass step.ticket in
        let next = numbered-at device r.passes r'.passes last last' i step.pass p' step.there (passes-after step.after) at in rw step.after (numbered-untold blamed i step.there p' next refl rise)

    pub issues-blamed : {content : List Sector} → Issues g content i r r' s s' → IsAt r'.passes i (HasNextTicket device last last') → faults ≤ faults' → FaultsAddUp device r'.passes r'.entries last' faults_at_opening faults'
    issues-blamed {content} step at rise = let p = step.pass in let p' = after_issue p step.ticket step.buffer in
        let next = numbered-at device r.passes r'.passes last last' i p p' step.there (passes-after step.after) at in
        rw step.after (numbered-blamed blamed i step.there p' (Issue (call_id i p) (p.first + p.done) (slice_range content p.done (p.done + p.piece)) ∷ []) next refl (refl, tt) rise)

-- Of the other device such a step's record says enough: the base, where the store has the call,
module _ {r r' : RequestState} {last faults_at_opening faults i : ℕ} (blamed : FaultsAddUp OfBase r.passes r.entries last faults_at_opening faults) {S : Type 0} {g : store.Ghosts S} {s s' : S} where
  pub looks-base_blamed : Looks g i r r' s s' → FaultsAddUp OfBase r'.passes r'.entries last faults_at_opening faults
  looks-base_blamed step = rw step.after (kept-untold blamed i step.there (after_look step.pass step.ticket) (inl refl) (inr refl) (omega arith) (omega arith))

  pub issues-base_blamed : {content : List Sector} → Issues g content i r r' s s' → FaultsAddUp OfBase r'.passes r'.entries last faults_at_opening faults
  issues-base_blamed {content} step = let p = step.pass in
      rw step.after (kept-blamed blamed i step.there (after_issue p step.ticket step.buffer) (Issue (call_id i p) (p.first + p.done) (slice_range content p.done (p.done + p.piece)) ∷ []) (inl refl) (inr refl) (refl, tt) (omega arith) (omega arith))

-- and the store, where the base has it.
module _ {r r' : RequestState} {last faults_at_opening faults i : ℕ} (blamed : FaultsAddUp OfStore r.passes r.entries last faults_at_opening faults) where
  pub fills-store_blamed : FillsZeros i r r' → FaultsAddUp OfStore r'.passes r'.entries last faults_at_opening faults
  fills-store_blamed step = rw step.after (kept-untold blamed i step.there (after_filled step.pass (replicate r.shape.block zero_sector)) (inl refl) (inr refl) (omega arith) (omega arith))

  module _ {B : Type 0} {h : base.Ghosts B} {b b' : B} where
    pub fetches-store_blamed : Fetches h i r r' b b' → FaultsAddUp OfStore r'.passes r'.entries last faults_at_opening faults
    fetches-store_blamed step = rw step.after (kept-untold blamed i step.there (after_fetch step.pass step.ticket) (inl refl) (inr refl) (omega arith) (omega arith))

    pub base_looks-store_blamed : LooksAtBase h i r r' b b' → FaultsAddUp OfStore r'.passes r'.entries last faults_at_opening faults
    base_looks-store_blamed step = rw step.after (kept-untold blamed i step.there (after_base_look step.pass step.ticket) (inl refl) (inr refl) (omega arith) (omega arith))

-- A pass whose piece has ended, in the phase that follows.
ended-flying : (device : Device) (events sectors : ℕ) (p : Pass) → flying_of device (after_spending events sectors (after_piece p)) ≡ None
ended-flying device events sectors p = flying-none device (after_spending events sectors (after_piece p)) refl refl

ended-naming : (device : Device) (events sectors : ℕ) (p : Pass) → p.fault ≡ None → to_name_of device (after_spending events sectors (after_piece p)) ≡ None
ended-naming device events sectors p none = nothing-to-name device (if nat_lt (p.done + p.piece) p.count then HasAsked else Ready) p.fault none

-- the piece of a pass is seen
seen-blamed : {device : Device} {r r' : RequestState} {last faults_at_opening faults faults' : ℕ} (i : ℕ) (p : Pass) → slice_get r.passes i ≡ Some p → FaultsAddUp device r.passes r.entries last faults_at_opening faults → p.fault ≡ None
    → {content : List Sector} {out out' : List Sector} → Sees content i r r' out out' → faults ≤ faults' → FaultsAddUp device r'.passes r'.entries last faults_at_opening faults'
seen-blamed {device} {r} {r'} {last} {faults_at_opening} {faults} {faults'} i p there blamed none {content} {out} {out'} step rise =
    let q = step.pass in let whole : q.fault ≡ None = ap (λ (x : Pass). x.fault) (some-inj (sym step.there ∙ there)) ∙ none in
    rw step.after (kept-blamed blamed i step.there (after_spending 1 q.piece (after_piece q)) (Seen (call_id i q) (q.first + q.done) content ∷ []) (inr (ended-flying device 1 q.piece q)) (inr (ended-naming device 1 q.piece q whole)) (refl, tt) (omega arith) rise)

-- What the end of a fetch, of a write or of a read makes of the device that had it, and of the other.
module _ (r r' : RequestState) {last faults_at_opening faults : ℕ} (i : ℕ) (p : Pass) (there : slice_get r.passes i ≡ Some p) (ticket : Ticket) where
  fetched-base : FaultsAddUp OfBase r.passes r.entries last faults_at_opening faults → (answer : Settled) (block : ℕ) (content : List Sector) → r' ≡ with_pass i (after_base_read answer p ticket block content) r → p.fetch ≡ Some ticket
      → (faults' late late' : ℕ) → IsCaused answer faults faults' late late' → FaultsAddUp OfBase r'.passes r'.entries last faults_at_opening faults'
  fetched-base blamed settled.Done block content after has faults' late late' cause = rw after (kept-untold blamed i there (after_base_read settled.Done p ticket block content) (inr refl) (inr refl) (omega arith) cause.0)
  fetched-base blamed (settled.NotYet same) block content after has faults' late late' cause = rw after (kept-untold blamed i there p (inl refl) (inl refl) (omega arith) cause.0.0)
  fetched-base blamed (settled.Failed number) block content after has faults' late late' cause = rw after (failed-untold blamed i there (after_fault (fault.Base ticket.number) p) (sym (ap ticket_number has)) refl cause.1)

  fetched-store : FaultsAddUp OfStore r.passes r.entries last faults_at_opening faults → (answer : Settled) (block : ℕ) (content : List Sector) → r' ≡ with_pass i (after_base_read answer p ticket block content) r → FaultsAddUp OfStore r'.passes r'.entries last faults_at_opening faults
  fetched-store blamed settled.Done block content after = rw after (kept-untold blamed i there (after_base_read settled.Done p ticket block content) (inl refl) (inr refl) (omega arith) (omega arith))
  fetched-store blamed (settled.NotYet same) block content after = rw after (kept-untold blamed i there p (inl refl) (inl refl) (omega arith) (omega arith))
  fetched-store blamed (settled.Failed number) block content after = rw after (kept-untold blamed i there (after_fault (fault.Base ticket.number) p) (inr refl) (inr refl) (omega arith) (omega arith))

  written-store : FaultsAddUp OfStore r.passes r.entries last faults_at_opening faults → p.fault ≡ None → (answer : Settled) → r' ≡ after_write answer p ticket i r → p.ticket ≡ Some ticket
      → (faults' late late' : ℕ) → IsCaused answer faults faults' late late' → FaultsAddUp OfStore r'.passes r'.entries last faults_at_opening faults'
  written-store blamed none settled.Done after has faults' late late' cause = rw after (kept-blamed blamed i there (after_spending 1 0 (after_piece p)) (Done (call_id i p) ∷ []) (inr refl) (inr (ended-naming OfStore 1 0 p none)) (refl, tt) (omega arith) cause.0)
  written-store blamed none (settled.NotYet same) after has faults' late late' cause = rw after (later-blamed blamed (omega arith) cause.0.0)
  written-store blamed none (settled.Failed number) after has faults' late late' cause = rw after (failed-blamed blamed i there (after_spending 1 0 (after_fault (fault.Store ticket.number) p)) (Broke (call_id i p) ∷ []) (sym (ap ticket_number has)) refl (refl, tt) cause.1)

  written-base : FaultsAddUp OfBase r.passes r.entries last faults_at_opening faults → p.fault ≡ None → (answer : Settled) → r' ≡ after_write answer p ticket i r → FaultsAddUp OfBase r'.passes r'.entries last faults_at_opening faults
  written-base blamed none settled.Done after = rw after (kept-blamed blamed i there (after_spending 1 0 (after_piece p)) (Done (call_id i p) ∷ []) (inr refl) (inr (ended-naming OfBase 1 0 p none)) (refl, tt) (omega arith) (omega arith))
  written-base blamed none (settled.NotYet same) after = rw after blamed
  written-base blamed none (settled.Failed number) after = rw after (kept-blamed blamed i there (after_spending 1 0 (after_fault (fault.Store ticket.number) p)) (Broke (call_id i p) ∷ []) (inr refl) (inr refl) (refl, tt) (omega arith) (omega arith))

  module _ (content : List Sector) (out out' : List Sector) where
    read-store : FaultsAddUp OfStore r.passes r.entries last faults_at_opening faults → p.fault ≡ None → (answer : Settled) → EndsRead answer content (fault.Store ticket.number) i r r' out out' → p.ticket ≡ Some ticket
        → (faults' late late' : ℕ) → IsCaused answer faults faults' late late' → FaultsAddUp OfStore r'.passes r'.entries last faults_at_opening faults'
    read-store blamed none settled.Done ends has faults' late late' cause = seen-blamed i p there blamed none ends cause.0
    read-store blamed none (settled.NotYet same) ends has faults' late late' cause = rw ends.0 (later-blamed blamed (omega arith) cause.0.0)
    read-store blamed none (settled.Failed number) ends has faults' late late' cause =
        let f = ends.0 in let mine : f.pass ≡ p = some-inj (sym f.there ∙ there) in
        rw f.after (failed-untold blamed i f.there (after_fault (fault.Store ticket.number) f.pass) (sym (ap ticket_number (ap (λ (x : Pass). x.ticket) mine ∙ has))) refl cause.1)

    read-base : FaultsAddUp OfBase r.passes r.entries last faults_at_opening faults → p.fault ≡ None → (answer : Settled) → EndsRead answer content (fault.Base ticket.number) i r r' out out' → p.fetch ≡ Some ticket
        → (faults' late late' : ℕ) → IsCaused answer faults faults' late late' → FaultsAddUp OfBase r'.passes r'.entries last faults_at_opening faults'
    read-base blamed none settled.Done ends has faults' late late' cause = seen-blamed i p there blamed none ends cause.0
    read-base blamed none (settled.NotYet same) ends has faults' late late' cause = rw ends.0 (later-blamed blamed (omega arith) cause.0.0)
    read-base blamed none (settled.Failed number) ends has faults' late late' cause =
        let f = ends.0 in let mine : f.pass ≡ p = some-inj (sym f.there ∙ there) in
        rw f.after (failed-untold blamed i f.there (after_fault (fault.Base ticket.number) f.pass) (sym (ap ticket_number (ap (λ (x : Pass). x.fetch) mine ∙ has))) refl cause.1)

    -- a fault of the other device
    read-other : {device : Device} → FaultsAddUp device r.passes r.entries last faults_at_opening faults → p.fault ≡ None → (answer : Settled) (why : Fault) → ticket_of_fault device (Some why) ≡ None → EndsRead answer content why i r r' out out' → FaultsAddUp device r'.passes r'.entries last faults_at_opening faults
    read-other {device} blamed none settled.Done why other ends = seen-blamed i p there blamed none ends (omega arith)
    read-other {device} blamed none (settled.NotYet same) why other ends = rw ends.0 blamed
    read-other {device} blamed none (settled.Failed number) why other ends = let f = ends.0 in
        rw f.after (kept-untold blamed i f.there (after_fault why f.pass) (inr (flying-none device (after_fault why f.pass) refl refl)) (inr other) (omega arith) (omega arith))

-- The settle of a fetch.
module _ {answer : Settled} {r r' : RequestState} {last faults_at_opening faults i : ℕ} {B : Type 0} {h : base.Ghosts B} {b b' : B} where
  pub fetch_settled-blamed : FaultsAddUp OfBase r.passes r.entries last faults_at_opening faults → FetchSettled h answer i r r' b b' → {last' faults' : ℕ} → last' ≡ last → (late late' : ℕ) → IsCaused answer faults faults' late late'
      → FaultsAddUp OfBase r'.passes r'.entries last' faults_at_opening faults'
  fetch_settled-blamed blamed step {last'} {faults'} same late late' cause = rw same (fetched-base r r' i step.pass step.there step.ticket blamed answer r.shape.block step.content step.after step.has faults' late late' cause)

  pub fetch_settled-store_blamed : FaultsAddUp OfStore r.passes r.entries last faults_at_opening faults → FetchSettled h answer i r r' b b' → FaultsAddUp OfStore r'.passes r'.entries last faults_at_opening faults
  fetch_settled-store_blamed blamed step = fetched-store r r' i step.pass step.there step.ticket blamed answer r.shape.block step.content step.after

module _ {S B : Type 0} {g : store.Ghosts S} {h : base.Ghosts B} {r : RequestState} {places : ℕ → Option ℕ} {s : S} {b : B} (co : IsCoherent g h r places s b) where
  module _ {r' : RequestState} {faults_at_opening faults i : ℕ} where
    -- A piece is seen, with no call.
    module _ {device : Device} {last : ℕ} {out out' : List Sector} (blamed : FaultsAddUp device r.passes r.entries last faults_at_opening faults) where
      pub sees-blamed : {content : List Sector} (step : Sees content i r r' out out') → has_region step.pass.phase ≡ true → FaultsAddUp device r'.passes r'.entries last faults_at_opening faults
      sees-blamed {content} step holds = seen-blamed i step.pass step.there blamed (region-faultless (co.each i step.pass step.there) holds) step (omega arith)

      pub sees_zeros-blamed : IsAt r.passes i (λ p. p.phase ≡ Held) → SeesZeros i r r' out out' → FaultsAddUp device r'.passes r'.entries last faults_at_opening faults
      sees_zeros-blamed at step = sees-blamed step.sees (ap (λ (x : Pass). has_region x.phase) (some-inj (sym step.sees.there ∙ at.1)) ∙ ap has_region at.2)

    -- The settle of a write, of a read in the store, and of one in the base.
    module _ {answer : Settled} {s' : S} where
      pub write_settled-blamed : FaultsAddUp OfStore r.passes r.entries (g.last s) faults_at_opening faults → WriteSettled g answer i r r' s s'
          → {faults' : ℕ} (late late' : ℕ) → IsCaused answer faults faults' late late' → FaultsAddUp OfStore r'.passes r'.entries (g.last s') faults_at_opening faults'
      write_settled-blamed blamed step {faults'} late late' cause = rw step.call.last (written-store r r' i step.pass step.there step.ticket blamed (store-faultless (co.each i step.pass step.there) step.ticket step.has) answer step.after step.has faults' late late' cause)

      pub write_settled-base_blamed : {last : ℕ} → FaultsAddUp OfBase r.passes r.entries last faults_at_opening faults → WriteSettled g answer i r r' s s' → FaultsAddUp OfBase r'.passes r'.entries last faults_at_opening faults
      write_settled-base_blamed {last} blamed step = written-base r r' i step.pass step.there step.ticket blamed (store-faultless (co.each i step.pass step.there) step.ticket step.has) answer step.after

      module _ {out out' : List Sector} where
        pub look_settled-blamed : FaultsAddUp OfStore r.passes r.entries (g.last s) faults_at_opening faults → LookSettled g answer i r r' s s' out out'
            → {faults' : ℕ} (late late' : ℕ) → IsCaused answer faults faults' late late' → FaultsAddUp OfStore r'.passes r'.entries (g.last s') faults_at_opening faults'
        look_settled-blamed blamed step {faults'} late late' cause =
            rw step.call.last (read-store r r' i step.pass step.there step.ticket step.content out out' blamed (store-faultless (co.each i step.pass step.there) step.ticket step.has) answer step.effect step.has faults' late late' cause)

        pub look_settled-base_blamed : {last : ℕ} → FaultsAddUp OfBase r.passes r.entries last faults_at_opening faults → LookSettled g answer i r r' s s' out out' → FaultsAddUp OfBase r'.passes r'.entries last faults_at_opening faults
        look_settled-base_blamed {last} blamed step =
            read-other r r' i step.pass step.there step.ticket step.content out out' blamed (store-faultless (co.each i step.pass step.there) step.ticket step.has) answer (fault.Store step.ticket.number) refl step.effect

    module _ {answer : Settled} {last : ℕ} {b' : B} {out out' : List Sector} where
      pub base_look_settled-blamed : FaultsAddUp OfBase r.passes r.entries last faults_at_opening faults → BaseLookSettled h answer i r r' b b' out out'
          → {last' faults' : ℕ} → last' ≡ last → (late late' : ℕ) → IsCaused answer faults faults' late late' → FaultsAddUp OfBase r'.passes r'.entries last' faults_at_opening faults'
      base_look_settled-blamed blamed step {last'} {faults'} same late late' cause =
          rw same (read-base r r' i step.pass step.there step.ticket (step.content ++ replicate (step.pass.piece - step.ticket.count) zero_sector) out out' blamed (base-faultless (co.each i step.pass step.there) step.ticket step.has) answer step.effect step.has faults' late late' cause)

      pub base_look_settled-store_blamed : FaultsAddUp OfStore r.passes r.entries last faults_at_opening faults → BaseLookSettled h answer i r r' b b' out out' → FaultsAddUp OfStore r'.passes r'.entries last faults_at_opening faults
      base_look_settled-store_blamed blamed step =
          read-other r r' i step.pass step.there step.ticket (step.content ++ replicate (step.pass.piece - step.ticket.count) zero_sector) out out' blamed (base-faultless (co.each i step.pass step.there) step.ticket step.has) answer (fault.Base step.ticket.number) refl step.effect

-- The numbers of the device that such a step has not called.
pub fills-numbered : {r r' : RequestState} {i : ℕ} (last : ℕ) → FillsZeros i r r' → IsAt r'.passes i (HasNextTicket OfBase last last)
fills-numbered {r} {r'} {i} last step = none-numbered OfBase r.passes r'.passes last last i step.pass (after_filled step.pass (replicate r.shape.block zero_sector)) step.there (passes-after step.after) refl refl

pub sees-numbered : {content : List Sector} {r r' : RequestState} {out out' : List Sector} {i : ℕ} (device : Device) (last : ℕ) → Sees content i r r' out out' → IsAt r'.passes i (HasNextTicket device last last)
sees-numbered {content} {r} {r'} {out} {out'} {i} device last step =
    let p = step.pass in none-numbered device r.passes r'.passes last last i p (after_spending 1 p.piece (after_piece p)) step.there (passes-after step.after) (ended-flying device 1 p.piece p) refl

module _ {S B : Type 0} {g : store.Ghosts S} {h : base.Ghosts B} {r : RequestState} {places : ℕ → Option ℕ} {s : S} {b : B} (co : IsCoherent g h r places s b) (i : ℕ) (at : IsAt r.passes i (λ p. p.phase ≡ Held)) where
  held-none : (p : Pass) → slice_get r.passes i ≡ Some p → HasNone p
  held-none p there = held-ticket (co.each i p there) (ap (λ (x : Pass). x.phase) (some-inj (sym there ∙ at.1)) ∙ at.2)

  pub looks-base_numbered : (last : ℕ) {r' : RequestState} {s' : S} → Looks g i r r' s s' → IsAt r'.passes i (HasNextTicket OfBase last last)
  looks-base_numbered last {r'} {s'} step = let p = step.pass in none-numbered OfBase r.passes r'.passes last last i p (after_look p step.ticket) step.there (passes-after step.after) (ap ticket_number (held-none p step.there).fetch) refl

  pub base_looks-store_numbered : (last : ℕ) {r' : RequestState} {b' : B} → LooksAtBase h i r r' b b' → IsAt r'.passes i (HasNextTicket OfStore last last)
  base_looks-store_numbered last {r'} {b'} step = let p = step.pass in none-numbered OfStore r.passes r'.passes last last i p (after_base_look p step.ticket) step.there (passes-after step.after) (ap ticket_number (held-none p step.there).ticket) refl
