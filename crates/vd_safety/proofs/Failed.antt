-- A call of a flush has failed.
use Rattle.std.proofs.Common.{◌≡◌, inl, inr, ℕ, ◌/◌, Bool, true, false, List, [], ◌∷◌, ◌++◌, Some, None, slice_get, slice_set, sym, refl, ap, ◌∙◌, subst}
use Rattle.std.specs.Prelude.{◌||◌}
use Rattle.std.proofs.lemmas.Bool.{cases_Bool}
use Rattle.vd_law.specs.declared.entry.CallId.{CallId}
use Rattle.vd_law.specs.declared.entry.Answer.TheVariants.{StoreFault}
use Rattle.vd_law.specs.Entries.{Entry, Reply, Broke}
use Rattle.vd_law.specs.Histories.{HistoryState}
use Rattle.vd_device.specs.declared.ticket.Ticket.{Ticket}
use Rattle.vd_device.specs.declared.ticket.Kind.{Kind}
use Rattle.vd_device.specs.declared.ticket.Kind.TheVariants as kinds
use Rattle.vd_device.specs.Tickets.{ticket_id}
use Rattle.vd_device.specs.Calls.{failed_entry}
use Rattle.vd_table.specs.Tables.{TableState}
use Rattle.vd_crash.specs.facts.Safe.{Opening}
use Rattle.vd_crash.specs.facts.Words.{WritesNothing}
use Rattle.vd_crash.specs.flushes.Stage.{Flight, Idle as NoFlight, HasTicket}
use Rattle.vd_crash.specs.primitives.Core as core
use Rattle.vd_crash.specs.primitives.Core.{Resting, StageTicket}
use Rattle.vd_crash.specs.primitives.Primitives.{State, state, EndsNone}
use Rattle.vd_crash.proofs.primitives.Parts.{Flush_fails}
use Rattle.vd_crash.specs.primitives.Keeping.{KeepsCrashSafety}
use Rattle.vd_crash.proofs.primitives.Keeping.{primitive_keeps}
use Rattle.vd_keeper.specs.declared.stage.Stage.TheVariants.{Puts}
use Rattle.vd_keeper.specs.Keeping.{KeeperState, pages_of}
use Rattle.vd_keeper.specs.Moves.{after_break}
use Rattle.vd_keeper.proofs.Rows.{get_or-nothing, get_or-either}
use Rattle.vd_passes.specs.declared.pass.Pass.{Pass}
use Rattle.vd_passes.specs.declared.pass.Phase.TheVariants.{Flushing}
use Rattle.vd_passes.specs.declared.pass.Fault.TheVariants.{Store}
use Rattle.vd_passes.specs.Passes.{after_fault}
use Rattle.vd_safety.specs.Mirrors.{core_state, bit_of, Mirrors, HasSafeMirror}
use Rattle.vd_safety.proofs.Updates.{updated-same}
use Rattle.vd_safety.proofs.Flying.{is_bare, flights-set, idle-flight}
use Rattle.vd_safety.proofs.Stepping.{stage-at, moved}
use Rattle.vd_safety.proofs.Settling.{IsOutAt}

kept-tickets : (o : Opening) (s : State) → KeepsCrashSafety o s → (l : ℕ) (t : CallId) → HasTicket (s.flights l) t → StageTicket s.stage t → ⊥
unfolding KeepsCrashSafety
kept-tickets o s keeps = keeps.core.tickets

reply-quiet : (id : CallId) (number : ℕ) → WritesNothing (Reply id (StoreFault number 0))
reply-quiet id number s v covers = covers

broke-quiet : (id : CallId) → WritesNothing (Broke id)
broke-quiet id s v covers = covers

reply-ends : (flights : ℕ → Flight) (id : CallId) (number : ℕ) → EndsNone flights (Reply id (StoreFault number 0))
reply-ends flights id number k t has (inl e) = absurd cc
reply-ends flights id number k t has (inr e) = absurd cc

broke-ends : (flights : ℕ → Flight) (id : CallId) → ((l : ℕ) → HasTicket (flights l) id → ⊥) → EndsNone flights (Broke id)
broke-ends flights id none k t has (inl e) = absurd cc
broke-ends flights id none k t has (inr e) = (let same : t ≡ id = cc in none k (subst (HasTicket (flights k)) same has))

module _ (o : Opening) (table : TableState) (fresh : List Bool) (k : KeeperState) (passes : List Pass) (history : HistoryState) (log : List Entry) (s : State) (i : ℕ) (p : Pass) (t : Ticket)
    (was : KeepsCrashSafety o s) (mirrors : Mirrors o (core_state table fresh k (Some i) passes history) log s)
    (there : slice_get passes i ≡ Some p) (flushes : p.phase ≡ Flushing) (has : p.ticket ≡ Some t) where
  abbrev p' : Pass
  p' = after_fault (Store t.number) p

  -- with this entry
  failed-with : (e : Entry) → WritesNothing e → EndsNone s.flights e → HasSafeMirror o (core_state table fresh (after_break k) None (slice_set passes i p') history) (log ++ e ∷ [])
  failed-with e quiet ends =
      let bare : is_bare p.phase ≡ true = ap is_bare flushes in
      let after = primitive_keeps o s (state (s.log ++ e ∷ []) s.history s.memory s.marked s.flights Resting) (Flush_fails s.log s.history s.memory s.marked s.flights s.stage e quiet ends) was in
      let mine = moved o table fresh k (Some i) passes history log s mirrors i p p' there (after_break k) None (log ++ e ∷ []) (s.log ++ e ∷ []) s.memory.index.sure s.memory.index.cursor s.marked Resting bare
      (ap (λ (l : List Entry). l ++ e ∷ []) mirrors.log_is) (record { header = refl; stale = refl; owed = refl }) mirrors.sure mirrors.cursor mirrors.same_tracked
      (λ c within. mirrors.marked c within ∙ sym (get_or-either k.marked k.put (c / 32)) ∙ or-none (bit_of (after_break k).marked (c / 32)) (bit_of (after_break k).put (c / 32)) (get_or-nothing (pages_of k.header) (c / 32)))
      (flights-set passes i p p' s.flights s.flights NoFlight there mirrors.flights (updated-same s.flights i NoFlight (idle-flight passes s.flights i p mirrors.flights there bare)) refl) refl in
      record { state = _; keeps = after; mirrors = mine }
    where
      or-none : (x y : Bool) → y ≡ false → x ≡ (x || y)
      or-none true y e = refl
      or-none false y e = sym e

  -- the put's ticket is no other pass's
  put-ticket : k.stage ≡ Puts → StageTicket s.stage (ticket_id t)
  put-ticket puts = elim (cases_Bool k.head) [
    | inl head ↦ (let now = stage-at Puts true (Some t) i p o k (Some i) passes s.stage refl there puts head has mirrors.stage in subst (λ (x : core.Stage). StageTicket x (ticket_id t)) (sym now.1.7) refl)
    | inr plain ↦ (let now = stage-at Puts false (Some t) i p o k (Some i) passes s.stage refl there puts plain has mirrors.stage in subst (λ (x : core.Stage). StageTicket x (ticket_id t)) (sym now.1.8) refl)
  ]

  replied : t.kind ≡ kinds.Flush → HasSafeMirror o (core_state table fresh (after_break k) None (slice_set passes i p') history) (log ++ failed_entry t.kind t ∷ [])
  replied kind = subst (λ (x : Kind). HasSafeMirror o (core_state table fresh (after_break k) None (slice_set passes i p') history) (log ++ failed_entry x t ∷ [])) (sym kind)
      (failed-with (Reply (ticket_id t) (StoreFault t.number 0)) (reply-quiet (ticket_id t) t.number) (reply-ends s.flights (ticket_id t) t.number))

  pub any-failed : IsOutAt k.stage t → HasSafeMirror o (core_state table fresh (after_break k) None (slice_set passes i (after_fault (Store t.number) p)) history) (log ++ failed_entry t.kind t ∷ [])
  any-failed (inl first) = replied first.1
  any-failed (inr (inl put)) = subst (λ (x : Kind). HasSafeMirror o (core_state table fresh (after_break k) None (slice_set passes i p') history) (log ++ failed_entry x t ∷ [])) (sym put.1)
      (failed-with (Broke (ticket_id t)) (broke-quiet (ticket_id t)) (broke-ends s.flights (ticket_id t) (λ l out. kept-tickets o s was l (ticket_id t) out (put-ticket put.0))))
  any-failed (inr (inr sync)) = replied sync.1
