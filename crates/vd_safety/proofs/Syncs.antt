-- A flush of what was put is asked.
use Rattle.std.proofs.Common.{◌≡◌, ℕ, Bool, true, false, List, [], ◌∷◌, ◌++◌, length, Option, Some, None, slice_get, slice_set, inl, inr, refl, ap, ◌∙◌, subst}
use Rattle.std.proofs.lemmas.Bool.{cases_Bool}
use Rattle.vd_law.specs.Entries.{Entry, Ask, Flush}
use Rattle.vd_law.specs.Histories.{HistoryState}
use Rattle.vd_device.specs.declared.store.Store as store
use Rattle.vd_device.specs.declared.ticket.Ticket.{Ticket}
use Rattle.vd_device.specs.declared.ticket.Kind.{Kind}
use Rattle.vd_device.specs.Tickets.{ticket_id}
use Rattle.vd_format.specs.declared.header.Header.{Header}
use Rattle.vd_table.specs.Tables.{TableState}
use Rattle.vd_crash.specs.facts.Safe.{Opening}
use Rattle.vd_crash.specs.primitives.Core.{Stage, Working, Syncing, Has_next, Syncs_next}
use Rattle.vd_crash.specs.primitives.Primitives.{State, state}
use Rattle.vd_crash.proofs.primitives.Parts.{Syncs as Asks_sync, Syncs_header}
use Rattle.vd_crash.specs.primitives.Keeping.{KeepsCrashSafety}
use Rattle.vd_crash.proofs.primitives.Keeping.{primitive_keeps}
use Rattle.vd_keeper.specs.declared.stage.Stage.TheVariants.{Syncs}
use Rattle.vd_keeper.specs.Keeping.{KeeperState}
use Rattle.vd_keeper.specs.Moves.{next_header}
use Rattle.vd_passes.specs.declared.shape.Shape.{Shape}
use Rattle.vd_passes.specs.declared.pass.Pass.{Pass}
use Rattle.vd_passes.specs.declared.pass.Phase.TheVariants.{Flushing}
use Rattle.vd_passes.specs.Passes.{call_id, after_meta}
use Rattle.vd_passes.specs.Requests.{RequestState, requests, with_pass}
use Rattle.vd_passes.specs.Steps.{meta_entry}
use Rattle.vd_safety.specs.Mirrors.{core_state, Mirrors, IsStageOf, HasSafeMirror}
use Rattle.vd_safety.proofs.Flying.{is_bare}
use Rattle.vd_safety.proofs.Stepping.{IsFlushing, flusher-is, flusher-as, keeps-at, stage-at, stage-by, moved, flights-after, secured-on}
use Rattle.vd_machine.specs.Flushing.{SyncsPuts}

-- A core where a pass that flushes is about to ask it.
module _ (o : Opening) (table : TableState) (fresh : List Bool) (k : KeeperState) (passes : List Pass) (history : HistoryState) (log : List Entry) (s : State) (i : ℕ) (p : Pass) (t : Ticket)
    (was : KeepsCrashSafety o s) (mirrors : Mirrors o (core_state table fresh k (Some i) passes history) log s)
    (there : slice_get passes i ≡ Some p) (flushes : p.phase ≡ Flushing) (none : p.ticket ≡ None) (syncs : k.stage ≡ Syncs) where
  abbrev p' : Pass
  p' = after_meta p t

  abbrev entry : Entry
  entry = Ask (ticket_id t) Flush

  -- the core with this stage
  asked : (stage : Stage) → KeepsCrashSafety o (state (s.log ++ entry ∷ []) s.history s.memory s.marked s.flights stage) → IsStageOf (Some i) o k (slice_set passes i p') stage
      → HasSafeMirror o (core_state table fresh k (Some i) (slice_set passes i p') history) (log ++ entry ∷ [])
  asked stage after stage_is =
      let bare : is_bare p.phase ≡ true = ap is_bare flushes in
      let mine = moved o table fresh k (Some i) passes history log s mirrors i p p' there k (Some i) (log ++ entry ∷ []) (s.log ++ entry ∷ []) s.memory.index.sure s.memory.index.cursor s.marked stage bare
      (ap (λ (l : List Entry). l ++ entry ∷ []) mirrors.log_is) (record { header = refl; stale = refl; owed = refl }) mirrors.sure mirrors.cursor mirrors.same_tracked mirrors.marked
      (flights-after o table fresh k (Some i) passes history log s mirrors i p p' there bare refl) stage_is in
      record { state = _; keeps = after; mirrors = mine }

  sync-plain : k.head ≡ false → HasSafeMirror o (core_state table fresh k (Some i) (slice_set passes i p') history) (log ++ entry ∷ [])
  sync-plain plain =
      let now = stage-at Syncs false None i p o k (Some i) passes s.stage refl there syncs plain none mirrors.stage in
      let w = now.1 in
      let keeps = keeps-at o s (Working (call_id i p) w.0 w.1 w.2 w.3) w.5 was in
      let stage : Stage = Syncing (call_id i p) w.0 w.1 w.2 w.3 (length s.log) (ticket_id t) in
      asked stage
      (primitive_keeps o (state s.log s.history s.memory s.marked s.flights (Working (call_id i p) w.0 w.1 w.2 w.3)) (state (s.log ++ entry ∷ []) s.history s.memory s.marked s.flights stage)
      (Asks_sync s.log s.history s.memory s.marked s.flights (call_id i p) (ticket_id t) w.0 w.1 w.2 w.3) keeps)
      (stage-by Syncs false (Some t) i p p' o k passes stage there syncs plain refl now.0 (w.0, w.1, w.2, length s.log, w.3, w.4, refl))

  sync-head : k.head ≡ true → HasSafeMirror o (core_state table fresh k (Some i) (slice_set passes i p') history) (log ++ entry ∷ [])
  sync-head head =
      let now = stage-at Syncs true None i p o k (Some i) passes s.stage refl there syncs head none mirrors.stage in
      let w = now.1 in
      let next : Header = next_header k.way k.header in
      let keeps = keeps-at o s (Has_next (call_id i p) w.0 w.1 w.2 w.4 w.3 w.5 next) w.7 was in
      let stage : Stage = Syncs_next (call_id i p) w.0 w.1 w.2 w.4 w.3 w.5 next (length s.log) (ticket_id t) in
      asked stage
      (primitive_keeps o (state s.log s.history s.memory s.marked s.flights (Has_next (call_id i p) w.0 w.1 w.2 w.4 w.3 w.5 next)) (state (s.log ++ entry ∷ []) s.history s.memory s.marked s.flights stage)
      (Syncs_header s.log s.history s.memory s.marked s.flights (call_id i p) (ticket_id t) w.0 w.1 w.2 w.3 w.4 w.5 next) keeps)
      (stage-by Syncs true (Some t) i p p' o k passes stage there syncs head refl now.0 (w.0, w.1, w.2, w.3, length s.log, w.4, w.5, w.6, refl))

  sync-any : HasSafeMirror o (core_state table fresh k (Some i) (slice_set passes i p') history) (log ++ entry ∷ [])
  sync-any = elim (cases_Bool k.head) [ inl head ↦ sync-head head | inr plain ↦ sync-plain plain ]

module _ {h : Header} {o : Opening} {shape : Shape} {table : TableState} {fresh : List Bool} {k : KeeperState} {flusher : Option ℕ} {passes : List Pass} {history : HistoryState} {r' : RequestState} {i : ℕ} {S : Type 0} {g : store.Ghosts S} {from to : S} where
  pub sync-secured : IsFlushing h o shape (core_state table fresh k flusher passes history) (g.last from) → SyncsPuts g i (requests shape fresh passes history.log.entries) r' from to → k.stage ≡ Syncs → g.tells to
      → HasSafeMirror o (core_state table fresh k flusher passes history) (g.disk from).log → HasSafeMirror o (core_state table r'.fresh k flusher r'.passes history) (g.disk to).log
  sync-secured around step syncs told was =
      let p : Pass = step.sends.pass in
      let t : Ticket = step.sends.ticket in
      let flush : flusher ≡ Some i = flusher-is around i p step.sends.there step.under_way in
      let secured : HasSafeMirror o (core_state table fresh k (Some i) passes history) (g.disk from).log = subst (λ (f : Option ℕ). HasSafeMirror o (core_state table fresh k f passes history) (g.disk from).log) flush was in
      let done = sync-any o table fresh k passes history (g.disk from).log secured.state i p t secured.keeps secured.mirrors step.sends.there step.under_way step.sends.none syncs in
      flusher-as flusher (Some i) flush
      (secured-on k k r' (with_pass i (after_meta p t) (requests shape fresh passes history.log.entries)) (g.disk to).log ((g.disk from).log ++ Ask (ticket_id t) Flush ∷ []) refl step.sends.after
      ((step.sends.call.takes.told told).log ∙ ap (λ (kind : Kind). (g.disk from).log ++ meta_entry kind t [] ∷ []) step.kind) done)
