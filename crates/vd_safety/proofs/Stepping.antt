-- What is known beside a flush that is under way, and what a core is after a step of it.
use Rattle.std.proofs.Common.{◌≡◌, ℕ, ◌/◌, ◌<◌, ◌≤◌, Bool, true, List, Option, Some, slice_get, slice_set, sym, refl, ap, ◌∙◌, arith, subst}
use Rattle.std.specs.Prelude.{◌||◌}
use Rattle.vd_law.specs.declared.entry.CallId.{CallId}
use Rattle.vd_law.specs.Entries.{Entry}
use Rattle.vd_law.specs.Histories.{HistoryState}
use Rattle.vd_device.specs.declared.ticket.Ticket.{Ticket}
use Rattle.vd_device.specs.Tickets.{ticket_id}
use Rattle.vd_format.specs.declared.header.Header.{Header}
use Rattle.vd_table.specs.Tables.{TableState}
use Rattle.vd_crash.specs.facts.Safe.{Opening}
use Rattle.vd_crash.specs.facts.Words.{with_index}
use Rattle.vd_crash.specs.flushes.Stage.{Flight, Idle as NoFlight, HasTicket}
use Rattle.vd_crash.specs.primitives.Core.{Stage}
use Rattle.vd_crash.specs.primitives.Primitives.{State, state}
use Rattle.vd_crash.specs.primitives.Keeping.{KeepsCrashSafety}
use Rattle.vd_keeper.specs.declared.stage.Stage as stages
use Rattle.vd_keeper.specs.declared.stage.Way.TheVariants as ways
use Rattle.vd_keeper.specs.Keeping.{KeeperState}
use Rattle.vd_keeper.specs.Entries.{HasStorage}
use Rattle.vd_passes.specs.declared.pass.Pass.{Pass}
use Rattle.vd_passes.specs.declared.pass.Phase.TheVariants.{Flushing, Issuing}
use Rattle.vd_passes.specs.declared.shape.Shape.{Shape}
use Rattle.vd_passes.specs.Passes.{call_id}
use Rattle.vd_passes.specs.Requests.{RequestState}
use Rattle.vd_machine.specs.Attending.{KeeperAgrees}
use Rattle.vd_safety.specs.Mirrors.{CoreState, core_state, bit_of, AreFlightsOf, IsPendingOf, IsBegunOf, IsStageBy, IsStageOf, Mirrors, HasSafeMirror, IsOfHeader}
use Rattle.vd_safety.proofs.Updates.{some-inj, get-set-same, updated-same}
use Rattle.vd_safety.proofs.Flying.{is_bare, flying, idle-flight, flight-bare, flights-set, pending-other}

-- What is known of a core beside what it keeps of crashes: the keeper is one of this disk and is attended, each chunk that a flush
-- writes has storage, and each ticket was given before.
pub record IsFlushing (h : Header) (o : Opening) (shape : Shape) (c : CoreState) (last : ℕ) : Type 0 where
  pub header : IsOfHeader h o c.keeping
  pub attended : KeeperAgrees shape c.table c.fresh c.passes c.flusher c.keeping
  pub storage : HasStorage c.table c.keeping
  pub numbers : (i : ℕ) (p : Pass) (t : Ticket) → slice_get c.passes i ≡ Some p → p.ticket ≡ Some t → t.number ≤ last

-- the pass that flushes is the one that is remembered
pub flusher-is : {h : Header} {o : Opening} {shape : Shape} {c : CoreState} {last : ℕ} → IsFlushing h o shape c last → (i : ℕ) (p : Pass) → slice_get c.passes i ≡ Some p → p.phase ≡ Flushing → c.flusher ≡ Some i
flusher-is around i p there is = (around.attended.flushing i p there).0 is

-- the stage of the flush of this pass
pub stage-at : (st : stages.Stage) (head : Bool) (ticket : Option Ticket) (i : ℕ) (p : Pass) (o : Opening) (k : KeeperState) (flusher : Option ℕ) (passes : List Pass) (s : Stage)
    → flusher ≡ Some i → slice_get passes i ≡ Some p → k.stage ≡ st → k.head ≡ head → p.ticket ≡ ticket → IsStageOf flusher o k passes s → IsBegunOf k × IsStageBy st head ticket o k (call_id i p) s
stage-at st head ticket i p o k flusher passes s flush there stage_is head_is ticket_is is =
    let w = subst (λ (f : Option ℕ). IsStageOf f o k passes s) flush is in
    let same : w.1.0 ≡ p = some-inj (sym w.1.1 ∙ there) in
    let own : IsStageBy k.stage k.head p.ticket o k (call_id i p) s = subst (λ (q : Pass). IsStageBy k.stage k.head q.ticket o k (call_id i q) s) same w.1.2 in
    let here : IsStageBy st k.head p.ticket o k (call_id i p) s = subst (λ (x : stages.Stage). IsStageBy x k.head p.ticket o k (call_id i p) s) stage_is own in
    let headed : IsStageBy st head p.ticket o k (call_id i p) s = subst (λ (x : Bool). IsStageBy st x p.ticket o k (call_id i p) s) head_is here in
    (w.0, subst (λ (x : Option Ticket). IsStageBy st head x o k (call_id i p) s) ticket_is headed)

-- and so it is of a pass that has this stage
pub stage-by : (st : stages.Stage) (head : Bool) (ticket : Option Ticket) (i : ℕ) (p p' : Pass) (o : Opening) (k : KeeperState) (passes : List Pass) (s : Stage)
    → slice_get passes i ≡ Some p → k.stage ≡ st → k.head ≡ head → p'.ticket ≡ ticket → IsBegunOf k → IsStageBy st head ticket o k (call_id i p') s → IsStageOf (Some i) o k (slice_set passes i p') s
stage-by st head ticket i p p' o k passes s there stage_is head_is ticket_is begun is =
    let headed : IsStageBy st head p'.ticket o k (call_id i p') s = subst (λ (x : Option Ticket). IsStageBy st head x o k (call_id i p') s) (sym ticket_is) is in
    let here : IsStageBy st k.head p'.ticket o k (call_id i p') s = subst (λ (x : Bool). IsStageBy st x p'.ticket o k (call_id i p') s) (sym head_is) headed in
    (begun, (p', get-set-same passes i p' p there, subst (λ (x : stages.Stage). IsStageBy x k.head p'.ticket o k (call_id i p') s) (sym stage_is) here))

-- what is kept, at this stage
pub keeps-at : (o : Opening) (s : State) (x : Stage) → s.stage ≡ x → KeepsCrashSafety o s → KeepsCrashSafety o (state s.log s.history s.memory s.marked s.flights x)
keeps-at o s x is keeps = subst (λ (y : Stage). KeepsCrashSafety o (state s.log s.history s.memory s.marked s.flights y)) is keeps

-- a new ticket is no pass's
pub ticket-new : (passes : List Pass) (flights : ℕ → Flight) (last : ℕ) (t : Ticket) → AreFlightsOf passes flights → ((i : ℕ) (p : Pass) (t : Ticket) → slice_get passes i ≡ Some p → p.ticket ≡ Some t → t.number ≤ last) → last < t.number
    → (l : ℕ) → HasTicket (flights l) (ticket_id t) → ⊥
ticket-new passes flights last t are numbers above l has =
    let w = flying (λ f. HasTicket f (ticket_id t)) (λ e. e) (λ c a n e. e) passes flights l are has in
    let u : Ticket = w.3.0 in
    let same : ticket_id u ≡ ticket_id t = subst (λ (f : Flight). HasTicket f (ticket_id t)) w.3.4 has in
    let number : u.number ≡ t.number = ap (λ (c : CallId). c.call) same in
    let below : u.number ≤ last = numbers l w.0 u w.1 w.3.3 in
    absurd (omega arith)

-- the same header and the same blocks
pub record IsSameDisk (k k' : KeeperState) : Type 0 where
  pub header : k'.header ≡ k.header
  pub stale : k'.stale ≡ k.stale
  pub owed : k'.owed ≡ k.owed

-- A step of a flush before its end: the pass has nothing else in flight before and after.
module _ (o : Opening) (table : TableState) (fresh : List Bool) (k : KeeperState) (flusher : Option ℕ) (passes : List Pass) (history : HistoryState) (log : List Entry) (s : State)
    (was : Mirrors o (core_state table fresh k flusher passes history) log s) (i : ℕ) (p p' : Pass) (there : slice_get passes i ≡ Some p) where
  not-issuing : is_bare p.phase ≡ true → p.phase ≡ Issuing → ⊥
  not-issuing bare is = (let e : is_bare Issuing ≡ true = ap is_bare (sym is) ∙ bare in cc)

  pub pending-after : is_bare p.phase ≡ true → (b : ℕ) → IsPendingOf fresh (slice_set passes i p') b (s.memory.pending b)
  pending-after bare b = pending-other fresh fresh passes i p p' there b (s.memory.pending b) (λ is at. not-issuing bare is) refl (was.pending b)

  pub flights-after : is_bare p.phase ≡ true → is_bare p'.phase ≡ true → AreFlightsOf (slice_set passes i p') s.flights
  flights-after bare bare' = flights-set passes i p p' s.flights s.flights NoFlight there was.flights (updated-same s.flights i NoFlight (idle-flight passes s.flights i p was.flights there bare)) (flight-bare p'.phase p'.fault i p' NoFlight bare' refl)

  pub moved : (k' : KeeperState) (flusher' : Option ℕ) (log' store : List Entry) (sure : Bool) (cursor : ℕ) (marked : ℕ → Bool) (stage : Stage) → is_bare p.phase ≡ true
      → store ≡ log' → IsSameDisk k k' → sure ≡ k'.sure → cursor ≡ k'.next → ((t : ℕ) → k'.way ≡ ways.Recycle t → t ≡ k.header.tracked)
      → ((c : ℕ) → c < o.layout.chunks → marked (o.layout.map_at c) ≡ (bit_of k'.marked (c / 32) || bit_of k'.put (c / 32))) → AreFlightsOf (slice_set passes i p') s.flights → IsStageOf flusher' o k' (slice_set passes i p') stage
      → Mirrors o (core_state table fresh k' flusher' (slice_set passes i p') history) log' (state store s.history (with_index s.memory sure s.memory.index.tried cursor) marked s.flights stage)
  moved k' flusher' log' store sure cursor marked stage bare told same sure_is cursor_is tracked marks flights stage_is = record {
    log_is = told;
    history_is = was.history_is;
    many = was.many;
    generation = was.generation ∙ ap (λ (h : Header). h.generation) (sym same.header);
    tracked = was.tracked ∙ ap (λ (h : Header). h.tracked) (sym same.header);
    sure = sure_is;
    storage = was.storage;
    stale = λ b. was.stale b ∙ ap (λ (xs : List Bool). bit_of xs b) (sym same.stale);
    off_base = λ b. was.off_base b ∙ ap (λ (xs : List Bool). bit_of xs b) (sym same.stale);
    undiscarded = was.undiscarded;
    tried = was.tried;
    same_tracked = λ t is. tracked t is ∙ ap (λ (h : Header). h.tracked) (sym same.header);
    cursor = cursor_is;
    fresh_is = was.fresh_is;
    owed = λ b. was.owed b ∙ ap (λ (xs : List Bool). bit_of xs b) (sym same.owed);
    pending = pending-after bare;
    marked = marks;
    flights = flights;
    stage = stage_is;
  }

-- the same by equal parts
pub secured-as : (o : Opening) (table : TableState) (fresh : List Bool) (k a : KeeperState) (flusher : Option ℕ) (passes b : List Pass) (history : HistoryState) (log c : List Entry) → k ≡ a → passes ≡ b → log ≡ c
    → HasSafeMirror o (core_state table fresh a flusher b history) c → HasSafeMirror o (core_state table fresh k flusher passes history) log
secured-as o table fresh k a flusher passes b history log c keeper passes_are log_is is =
    subst (λ (l : List Entry). HasSafeMirror o (core_state table fresh k flusher passes history) l) (sym log_is)
    (subst (λ (ps : List Pass). HasSafeMirror o (core_state table fresh k flusher ps history) c) (sym passes_are) (subst (λ (x : KeeperState). HasSafeMirror o (core_state table fresh x flusher b history) c) (sym keeper) is))

-- and by an equal value of what its passes work on
pub secured-on : {o : Opening} {table : TableState} {flusher : Option ℕ} {history : HistoryState} (k a : KeeperState) (r b : RequestState) (log c : List Entry) → k ≡ a → r ≡ b → log ≡ c
    → HasSafeMirror o (core_state table b.fresh a flusher b.passes history) c → HasSafeMirror o (core_state table r.fresh k flusher r.passes history) log
secured-on {o} {table} {flusher} {history} k a r b log c keeper requests_are log_is is =
    subst (λ (q : RequestState). HasSafeMirror o (core_state table q.fresh k flusher q.passes history) log) (sym requests_are) (secured-as o table b.fresh k a flusher b.passes b.passes history log c keeper refl log_is is)

pub flusher-as : {o : Opening} {table : TableState} {fresh : List Bool} {k : KeeperState} {passes : List Pass} {history : HistoryState} {log : List Entry} (flusher new : Option ℕ) → flusher ≡ new → HasSafeMirror o (core_state table fresh k new passes history) log → HasSafeMirror o (core_state table fresh k flusher passes history) log
flusher-as {o} {table} {fresh} {k} {passes} {history} {log} flusher new is secured = subst (λ (f : Option ℕ). HasSafeMirror o (core_state table fresh k f passes history) log) (sym is) secured
