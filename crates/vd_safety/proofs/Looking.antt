-- A pass looks at a piece of its read.
use Rattle.std.proofs.Common.{◌≡◌, ℕ, ◌+◌, ◌<◌, ◌⊎◌, Bool, true, List, [], ◌∷◌, ◌++◌, length, refl, sym, ◌∙◌, ap, subst, inl, inr, Option, Some}
use Rattle.std.specs.Prelude.{nat_lt}
use Rattle.vd_law.specs.declared.entry.Sector.{Sector}
use Rattle.vd_law.specs.declared.entry.CallId.{CallId}
use Rattle.vd_law.specs.declared.entry.Answer.TheVariants.{StoreFault}
use Rattle.vd_law.specs.Entries.{Asked as Request, Entry, Ask, Seen, Reply}
use Rattle.vd_law.specs.Histories.{HistoryState}
use Rattle.vd_device.specs.declared.store.Store as store
use Rattle.vd_device.specs.declared.base.Base as base
use Rattle.vd_device.specs.declared.ticket.Ticket.{Ticket}
use Rattle.vd_device.specs.declared.ticket.Kind.{Kind}
use Rattle.vd_device.specs.declared.ticket.Kind.TheVariants.{Read as ReadKind}
use Rattle.vd_device.specs.declared.settled.Settled.{Settled}
use Rattle.vd_device.specs.declared.settled.Settled.TheVariants as settled
use Rattle.vd_device.specs.Calls.{ask_read_entry, done_entry, failed_entry}
use Rattle.vd_device.specs.Tickets.{ticket_id}
use Rattle.vd_format.specs.declared.header.Header.{Header}
use Rattle.vd_table.specs.Tables.{TableState}
use Rattle.vd_crash.specs.facts.Safe.{Opening}
use Rattle.vd_crash.specs.flushes.Moves.{entry_now}
use Rattle.vd_crash.specs.primitives.Core.{StageFlush}
use Rattle.vd_crash.specs.primitives.Primitives.{State, state}
use Rattle.vd_crash.specs.primitives.Keeping.{KeepsCrashSafety}
use Rattle.vd_keeper.specs.Keeping.{KeeperState}
use Rattle.vd_passes.specs.declared.shape.Shape.{Shape}
use Rattle.vd_passes.specs.declared.pass.Pass.{Pass}
use Rattle.vd_passes.specs.declared.pass.Phase.{Phase}
use Rattle.vd_passes.specs.declared.pass.Phase.TheVariants.{Held, Issuing, Looking, Flushing}
use Rattle.vd_passes.specs.Passes.{has_region, call_id, HasInFlight, IsStoreLook, IsBaseLook, after_piece, after_spending}
use Rattle.vd_passes.specs.Requests.{RequestState, requests}
use Rattle.vd_passes.specs.Steps.{IsAt, Looks, Sees, SeesZeros, LookSettled, BaseLookSettled}
use Rattle.vd_safety.specs.Mirrors.{core_state, Mirrors, HasSafeMirror}
use Rattle.vd_safety.proofs.Updates.{some-inj, append-nil}
use Rattle.vd_safety.proofs.Surroundings.{Surroundings}
use Rattle.vd_safety.proofs.Flying.{is_bare}
use Rattle.vd_safety.proofs.Mirroring.{was-history, history-more, history-same}
use Rattle.vd_safety.proofs.Onward.{notes, tells, moved-bare, bare-before}
use Rattle.vd_safety.proofs.Knowing.{at-this, ticket-stage}
use Rattle.vd_safety.proofs.Ending.{piece-flight, same-secured}
use Rattle.vd_safety.proofs.Others.{others-secured}

-- what a settled read makes of the numbers of the history
abbrev pub IsReadNumberedAfter : Settled → (now : ℕ) → (numbers numbers' : List ℕ) → Type 0
IsReadNumberedAfter settled.Done now numbers numbers' = numbers' ≡ numbers ++ now ∷ []
IsReadNumberedAfter (settled.NotYet same) now numbers numbers' = numbers' ≡ numbers ++ []
IsReadNumberedAfter (settled.Failed number) now numbers numbers' = numbers' ≡ numbers ++ []

-- the entries with which a read ends
done-read : (kind : Kind) (t : Ticket) (out : List Sector) → kind ≡ ReadKind → done_entry kind t out ≡ Seen (ticket_id t) t.first out
done-read kind t out is = ap (λ (x : Kind). done_entry x t out) is

failed-read : (kind : Kind) (t : Ticket) → kind ≡ ReadKind → failed_entry kind t ≡ Reply (ticket_id t) (StoreFault t.number 0)
failed-read kind t is = ap (λ (x : Kind). failed_entry x t) is

-- a pass that has a read of the store in flight
read-kind : (shape : Shape) (fresh : List Bool) (p : Pass) (t : Ticket) → HasInFlight Looking shape fresh p → p.ticket ≡ Some t → t.kind ≡ ReadKind
read-kind shape fresh p t looks has = of looks.0 looks.1
  where
    of : (u : Ticket) → IsStoreLook shape fresh p u ⊎ IsBaseLook shape fresh p u → t.kind ≡ ReadKind
    of u (inl local) = ap (λ (x : Ticket). x.kind) (some-inj (sym has ∙ local.has)) ∙ local.kind
    of u (inr other) = absurd (let n = other.none in cc)

-- The pass's phase is one of a look, and nothing of it is in flight.
record IsLook (p : Pass) : Type 0 where
  bare : is_bare p.phase ≡ true
  region : has_region p.phase ≡ true
  not_issuing : p.phase ≡ Issuing → ⊥
  not_flushing : p.phase ≡ Flushing → ⊥

holding : (p : Pass) → p.phase ≡ Held → IsLook p
holding p is = record { bare = ap is_bare is; region = ap has_region is; not_issuing = λ e. absurd (cc); not_flushing = λ e. absurd (cc) }

looking : (p : Pass) → p.phase ≡ Looking → IsLook p
looking p is = record { bare = ap is_bare is; region = ap has_region is; not_issuing = λ e. absurd (cc); not_flushing = λ e. absurd (cc) }

module _ {h : Header} {o : Opening} {shape : Shape} {table : TableState} {fresh : List Bool} {k : KeeperState} {flusher : Option ℕ} {passes : List Pass} {history : HistoryState} {backing : List Sector} {last : ℕ} {log : List Entry}
    (around : Surroundings h o shape (core_state table fresh k flusher passes history) backing last) (secured : HasSafeMirror o (core_state table fresh k flusher passes history) log) where
  abbrev s : State
  s = secured.state

  mirrors : Mirrors o (core_state table fresh k flusher passes history) log s
  mirrors = secured.mirrors

  -- It sees its piece, when the store has this log.
  sees : (log' stored : List Entry) → stored ≡ log' → KeepsCrashSafety o (state stored s.history s.memory s.marked s.flights s.stage) → {i : ℕ} {content out out' : List Sector} {shape' : Shape} {fresh' : List Bool} {passes' : List Pass} (history' : HistoryState)
      → (step : Sees content i (requests shape fresh passes history.log.entries) (requests shape' fresh' passes' history'.log.entries) out out') → IsLook step.pass → history'.numbers ≡ history.numbers ++ length log' ∷ []
      → HasSafeMirror o (core_state table fresh' k flusher passes' history') log'
  sees log' stored told keeps {i} {content} history' step look numbers =
      let p = step.pass in
      let p' = after_spending 1 p.piece (after_piece p) in
      let e = Seen (call_id i p) (p.first + p.done) content in
      subst (λ (r : RequestState). HasSafeMirror o (core_state table r.fresh k flusher r.passes history') log') (sym step.after)
      (moved-bare around secured i p p' step.there look.not_issuing look.not_flushing (bare-before around secured i p p' step.there look.not_issuing look.not_flushing look.bare)
      (piece-flight (nat_lt (p.done + p.piece) p.count) p.fault i p' ((around.each i p step.there).no_flush look.region)) history' log' stored (s.history ++ entry_now stored e ∷ []) told
      (history-more history history' s.history stored log' e (was-history o table fresh k flusher passes history log s mirrors) told (ap (λ (r : RequestState). r.entries) step.after) numbers)
      (notes o (state stored s.history s.memory s.marked s.flights s.stage) e tt (λ c a n stands is. absurd (cc)) keeps))

  -- A piece of which the base has nothing is zeros.
  pub see_zeros-secured : {i : ℕ} {out out' : List Sector} {shape' : Shape} {fresh' : List Bool} {passes' : List Pass} (history' : HistoryState) → IsAt passes i (λ p. p.phase ≡ Held)
      → SeesZeros i (requests shape fresh passes history.log.entries) (requests shape' fresh' passes' history'.log.entries) out out' → history'.numbers ≡ history.numbers ++ length log ∷ []
      → HasSafeMirror o (core_state table fresh' k flusher passes' history') log
  see_zeros-secured {i} history' at step numbers = sees log s.log mirrors.log_is secured.keeps history' step.sees (holding step.sees.pass (at-this passes i (λ p. p.phase ≡ Held) step.sees.pass step.sees.there at)) numbers

-- The calls of a look.
module _ {h : Header} {o : Opening} {shape : Shape} {table : TableState} {fresh : List Bool} {k : KeeperState} {flusher : Option ℕ} {passes : List Pass} {history : HistoryState} {i : ℕ} where
  -- It is submitted to the store.
  pub look-secured : {S : Type 0} {g : store.Ghosts S} {from to : S} {backing : List Sector} {r' : RequestState} → Surroundings h o shape (core_state table fresh k flusher passes history) backing (g.last from) → IsAt passes i (λ p. p.phase ≡ Held) → Looks g i (requests shape fresh passes history.log.entries) r' from to → g.tells to
      → HasSafeMirror o (core_state table fresh k flusher passes history) (g.disk from).log → HasSafeMirror o (core_state table r'.fresh k flusher r'.passes history) (g.disk to).log
  look-secured {g = g} {from} {to} around at step telling secured =
      let s = secured.state in
      let is = secured.mirrors in
      let p = step.pass in
      let e = ask_read_entry step.ticket in
      let look = holding p (at-this passes i (λ p. p.phase ≡ Held) p step.there at) in
      subst (λ (r : RequestState). HasSafeMirror o (core_state table r.fresh k flusher r.passes history) (g.disk to).log) (sym step.after)
      (moved-bare around secured i p _ step.there look.not_issuing look.not_flushing (bare-before around secured i p p step.there look.not_issuing look.not_flushing look.bare) refl
      history (g.disk to).log (s.log ++ e ∷ []) s.history (ap (λ (es : List Entry). es ++ e ∷ []) is.log_is ∙ sym (step.call.takes.told telling).log) (was-history o table fresh k flusher passes history (g.disk from).log s is)
      (tells o s e tt (λ t request waits same. asks around secured step.ticket (step.call.rises telling) t request waits same) secured.keeps))
    where
      asks : {backing : List Sector} {last : ℕ} {log : List Entry} (around : Surroundings h o shape (core_state table fresh k flusher passes history) backing last) (secured : HasSafeMirror o (core_state table fresh k flusher passes history) log)
          (ticket : Ticket) → last < ticket.number → (t : CallId) (request : Request) → StageFlush secured.state.stage t → ask_read_entry ticket ≡ Ask t request → ⊥
      asks around secured ticket later t request waits same = ticket-stage around secured.mirrors ticket later (inr (let e : ticket_id ticket ≡ t = cc in subst (StageFlush secured.state.stage) (sym e) waits))

  -- It is settled,
  module _ {S : Type 0} {g : store.Ghosts S} {from to : S} {backing out out' : List Sector} {last : ℕ} {shape' : Shape} {fresh' : List Bool} {passes' : List Pass} where
    pub settle_look-secured : (answer : Settled) (history' : HistoryState) → Surroundings h o shape (core_state table fresh k flusher passes history) backing last → IsAt passes i (λ p. p.phase ≡ Looking)
        → LookSettled g answer i (requests shape fresh passes history.log.entries) (requests shape' fresh' passes' history'.log.entries) from to out out' → IsReadNumberedAfter answer (length (g.disk to).log) history.numbers history'.numbers → g.tells to
        → HasSafeMirror o (core_state table fresh k flusher passes history) (g.disk from).log → HasSafeMirror o (core_state table fresh' k flusher passes' history') (g.disk to).log
    settle_look-secured settled.Done history' around at step numbers telling secured =
        let s = secured.state in
        let phase : step.pass.phase ≡ Looking = at-this passes i (λ p. p.phase ≡ Looking) step.pass step.there at in
        let kind = read-kind shape fresh step.pass step.ticket (subst (λ (ph : Phase). HasInFlight ph shape fresh step.pass) phase (around.each i step.pass step.there).ticket) step.has in
        let e = Seen (ticket_id step.ticket) step.ticket.first step.content in
        sees around secured (g.disk to).log (s.log ++ e ∷ [])
        (ap (λ (es : List Entry). es ++ e ∷ []) secured.mirrors.log_is ∙ ap (λ (d : Entry). (g.disk from).log ++ d ∷ []) (sym (done-read step.ticket.kind step.ticket step.content kind)) ∙ sym (step.call.takes.told telling).log)
        (tells o s e tt (λ t request waits same. absurd (cc)) secured.keeps) history' step.effect (looking step.effect.pass (at-this passes i (λ p. p.phase ≡ Looking) step.effect.pass step.effect.there at)) numbers
    settle_look-secured (settled.NotYet late) history' around at step numbers telling secured =
        same-secured (ap (λ (r : RequestState). r.fresh) step.effect.0) refl (ap (λ (r : RequestState). r.passes) step.effect.0) (ap (λ (r : RequestState). r.entries) step.effect.0) (numbers ∙ append-nil history.numbers)
        ((step.call.takes.told telling).log ∙ append-nil (g.disk from).log) secured
    settle_look-secured (settled.Failed number) history' around at step numbers telling secured =
        let s = secured.state in
        let fails = step.effect.0 in
        let p = fails.pass in
        let look = looking p (at-this passes i (λ p. p.phase ≡ Looking) p fails.there at) in
        let phase : step.pass.phase ≡ Looking = at-this passes i (λ p. p.phase ≡ Looking) step.pass step.there at in
        let kind = read-kind shape fresh step.pass step.ticket (subst (λ (ph : Phase). HasInFlight ph shape fresh step.pass) phase (around.each i step.pass step.there).ticket) step.has in
        let e = Reply (ticket_id step.ticket) (StoreFault step.ticket.number 0) in
        subst (λ (r : RequestState). HasSafeMirror o (core_state table r.fresh k flusher r.passes history') (g.disk to).log) (sym fails.after)
        (moved-bare around secured i p _ fails.there look.not_issuing look.not_flushing (bare-before around secured i p p fails.there look.not_issuing look.not_flushing look.bare) refl
        history' (g.disk to).log (s.log ++ e ∷ []) s.history
        (ap (λ (es : List Entry). es ++ e ∷ []) secured.mirrors.log_is ∙ ap (λ (d : Entry). (g.disk from).log ++ d ∷ []) (sym (failed-read step.ticket.kind step.ticket kind)) ∙ sym (step.call.takes.told telling).log)
        (history-same history history' s.history (was-history o table fresh k flusher passes history (g.disk from).log s secured.mirrors) (ap (λ (r : RequestState). r.entries) fails.after) (numbers ∙ append-nil history.numbers))
        (tells o s e tt (λ t request waits same. absurd (cc)) secured.keeps))

  -- and so is one of the base.
  module _ {B : Type 0} {d : base.Ghosts B} {from to : B} {backing out out' : List Sector} {last : ℕ} {log : List Entry} {shape' : Shape} {fresh' : List Bool} {passes' : List Pass} where
    pub settle_base_look-secured : (answer : Settled) (history' : HistoryState) → Surroundings h o shape (core_state table fresh k flusher passes history) backing last → IsAt passes i (λ p. p.phase ≡ Looking)
        → BaseLookSettled d answer i (requests shape fresh passes history.log.entries) (requests shape' fresh' passes' history'.log.entries) from to out out' → IsReadNumberedAfter answer (length log) history.numbers history'.numbers
        → HasSafeMirror o (core_state table fresh k flusher passes history) log → HasSafeMirror o (core_state table fresh' k flusher passes' history') log
    settle_base_look-secured settled.Done history' around at step numbers secured =
        sees around secured log secured.state.log secured.mirrors.log_is secured.keeps history' step.effect (looking step.effect.pass (at-this passes i (λ p. p.phase ≡ Looking) step.effect.pass step.effect.there at)) numbers
    settle_base_look-secured (settled.NotYet late) history' around at step numbers secured =
        same-secured (ap (λ (r : RequestState). r.fresh) step.effect.0) refl (ap (λ (r : RequestState). r.passes) step.effect.0) (ap (λ (r : RequestState). r.entries) step.effect.0) (numbers ∙ append-nil history.numbers) refl secured
    settle_base_look-secured (settled.Failed number) history' around at step numbers secured =
        let fails = step.effect.0 in
        let look = looking fails.pass (at-this passes i (λ p. p.phase ≡ Looking) fails.pass fails.there at) in
        same-secured refl refl refl (ap (λ (r : RequestState). r.entries) fails.after) (numbers ∙ append-nil history.numbers) refl
        (others-secured around secured i fails.pass _ fails.there look.bare look.not_flushing refl fails.after)
