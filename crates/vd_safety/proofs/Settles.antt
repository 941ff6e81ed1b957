-- A call of a flush is settled.
use Rattle.std.proofs.Common.{◌≡◌, inl, inr, ℕ, Bool, List, [], ◌∷◌, ◌++◌, Option, Some, None, slice_get, slice_set, sym, refl, ap, subst}
use Rattle.std.proofs.lemmas.List.{append-nil}
use Rattle.vd_law.specs.Entries.{Entry}
use Rattle.vd_law.specs.Histories.{HistoryState}
use Rattle.vd_device.specs.declared.store.Store as store
use Rattle.vd_device.specs.declared.ticket.Ticket.{Ticket}
use Rattle.vd_device.specs.declared.ticket.Kind.{Kind}
use Rattle.vd_device.specs.declared.settled.Settled.{Settled}
use Rattle.vd_device.specs.declared.settled.Settled.TheVariants as settled
use Rattle.vd_device.specs.Calls.{settle_entries, done_entry}
use Rattle.vd_format.specs.declared.header.Header.{Header}
use Rattle.vd_table.specs.Tables.{TableState}
use Rattle.vd_crash.specs.facts.Safe.{Opening}
use Rattle.vd_crash.specs.primitives.Primitives.{State}
use Rattle.vd_crash.specs.primitives.Keeping.{KeepsCrashSafety}
use Rattle.vd_keeper.specs.Keeping.{KeeperState}
use Rattle.vd_keeper.specs.Moves.{after_call}
use Rattle.vd_keeper.proofs.Begun.{gone-on-data, gone-on-puts, gone-on-syncs}
use Rattle.vd_passes.specs.declared.shape.Shape.{Shape}
use Rattle.vd_passes.specs.declared.pass.Pass.{Pass}
use Rattle.vd_passes.specs.declared.pass.Phase.TheVariants.{Flushing}
use Rattle.vd_passes.specs.Requests.{RequestState, requests, with_pass}
use Rattle.vd_passes.specs.Steps.{meta_settled}
use Rattle.vd_machine.specs.Flushing.{meta_state, SettlesMeta, keeper_after}
use Rattle.vd_machine.specs.FlushSteps.{flusher_after}
use Rattle.vd_safety.specs.Mirrors.{core_state, Mirrors, HasSafeMirror}
use Rattle.vd_safety.proofs.Updates.{set-same}
use Rattle.vd_safety.proofs.Stepping.{IsFlushing, flusher-is, flusher-as, secured-as, secured-on}
use Rattle.vd_safety.proofs.Settling.{IsOutAt, what-is-out}
use Rattle.vd_safety.proofs.Flushed.{data-flushed}
use Rattle.vd_safety.proofs.Done.{any-done}
use Rattle.vd_safety.proofs.Synced.{any-synced}
use Rattle.vd_safety.proofs.Failed.{any-failed}

module _ (h : Header) (o : Opening) (shape : Shape) (table : TableState) (fresh : List Bool) (k : KeeperState) (passes : List Pass) (history : HistoryState) (log : List Entry) (s : State) (last i : ℕ) (p : Pass) (t : Ticket)
    (around : IsFlushing h o shape (core_state table fresh k (Some i) passes history) last) (was : KeepsCrashSafety o s) (mirrors : Mirrors o (core_state table fresh k (Some i) passes history) log s)
    (there : slice_get passes i ≡ Some p) (flushes : p.phase ≡ Flushing) (has : p.ticket ≡ Some t) where
  done : IsOutAt k.stage t → HasSafeMirror o (core_state table fresh (after_call k.stage k) (Some i) (slice_set passes i (record p { ticket = None })) history) (log ++ done_entry t.kind t [] ∷ [])
  done (inl first) =
      secured-as o table fresh (after_call k.stage k) _ (Some i) (slice_set passes i (record p { ticket = None })) _ history (log ++ done_entry t.kind t [] ∷ []) _ (sym (gone-on-data k k.stage first.0)) refl
      (ap (λ (x : Kind). log ++ done_entry x t [] ∷ []) first.1) (data-flushed h o table fresh k passes history log s i p t around.header was mirrors there flushes has first.0)
  done (inr (inl put)) =
      secured-as o table fresh (after_call k.stage k) _ (Some i) (slice_set passes i (record p { ticket = None })) _ history (log ++ done_entry t.kind t [] ∷ []) _ (sym (gone-on-puts k k.stage _ put.0 refl)) refl
      (ap (λ (x : Kind). log ++ done_entry x t [] ∷ []) put.1) (any-done h o table fresh k passes history log s i p t around.header was mirrors there flushes has put.0)
  done (inr (inr sync)) =
      secured-as o table fresh (after_call k.stage k) _ (Some i) (slice_set passes i (record p { ticket = None })) _ history (log ++ done_entry t.kind t [] ∷ []) _ (sym (gone-on-syncs k k.stage _ _ sync.0 refl refl)) refl
      (ap (λ (x : Kind). log ++ done_entry x t [] ∷ []) sync.1) (any-synced h o table fresh k passes history log s i p t around.header around.attended.keeping was mirrors there flushes has sync.0)

  settled-any : (answer : Settled) → HasSafeMirror o (core_state table fresh (keeper_after answer k) (flusher_after answer (Some i)) (slice_set passes i (meta_settled answer p t)) history) (log ++ settle_entries answer t [])
  settled-any settled.Done = done (what-is-out i p t around refl there has)
  settled-any (settled.NotYet same) =
      secured-as o table fresh k k (Some i) (slice_set passes i p) passes history (log ++ []) log refl (set-same passes i p there) (append-nil log) (record { state = s; keeps = was; mirrors = mirrors })
  settled-any (settled.Failed number) = any-failed o table fresh k passes history log s i p t was mirrors there flushes has (what-is-out i p t around refl there has)

module _ {h : Header} {o : Opening} {shape : Shape} {table : TableState} {fresh : List Bool} {k k' : KeeperState} {flusher : Option ℕ} {passes : List Pass} {history : HistoryState} {r' : RequestState} {i : ℕ} {S : Type 0} {g : store.Ghosts S} {from to : S} {answer : Settled} where
  pub settle_meta-secured : IsFlushing h o shape (core_state table fresh k flusher passes history) (g.last from) → SettlesMeta g answer i (meta_state k (requests shape fresh passes history.log.entries)) (meta_state k' r') from to → g.tells to
      → HasSafeMirror o (core_state table fresh k flusher passes history) (g.disk from).log → HasSafeMirror o (core_state table r'.fresh k' (flusher_after answer flusher) r'.passes history) (g.disk to).log
  settle_meta-secured around step told was =
      let p : Pass = step.settles.pass in
      let t : Ticket = step.settles.ticket in
      let flush : flusher ≡ Some i = flusher-is around i p step.settles.there step.settles.phase in
      let mine : IsFlushing h o shape (core_state table fresh k (Some i) passes history) (g.last from) = subst (λ (f : Option ℕ). IsFlushing h o shape (core_state table fresh k f passes history) (g.last from)) flush around in
      let secured : HasSafeMirror o (core_state table fresh k (Some i) passes history) (g.disk from).log = subst (λ (f : Option ℕ). HasSafeMirror o (core_state table fresh k f passes history) (g.disk from).log) flush was in
      let ends = settled-any h o shape table fresh k passes history (g.disk from).log secured.state (g.last from) i p t mine secured.keeps secured.mirrors step.settles.there step.settles.phase step.settles.has answer in
      flusher-as (flusher_after answer flusher) (flusher_after answer (Some i)) (ap (flusher_after answer) flush)
      (secured-on k' (keeper_after answer k) r' (with_pass i (meta_settled answer p t) (requests shape fresh passes history.log.entries)) (g.disk to).log ((g.disk from).log ++ settle_entries answer t []) step.after step.settles.after (step.settles.call.takes.told told).log ends)
