-- Steps after which no pass writes that did not: of what the state has, the logs, the storage and what one pass owes.
use Rattle.std.proofs.Common.{◌≡◌, ℕ, ◌⊎◌, Bool, true, List, [], ◌∷◌, ◌++◌, length, refl, sym, subst, inl, inr, Option, Some, slice_get, slice_set}
use Rattle.vd_law.specs.declared.entry.Sector.{Sector}
use Rattle.vd_law.specs.declared.entry.CallId.{CallId}
use Rattle.vd_law.specs.Entries.{Flush, Entry, Ask, Issue, Done, Broke, Seen, Reply}
use Rattle.vd_law.specs.Histories.{HistoryState}
use Rattle.vd_format.specs.declared.header.Header.{Header}
use Rattle.vd_table.specs.Tables.{TableState}
use Rattle.vd_image.specs.Log.{Fine, IsIssueOf}
use Rattle.vd_crash.specs.facts.Safe.{Opening, NumberedEntry}
use Rattle.vd_crash.specs.facts.Facts.{HasEntry as Stands}
use Rattle.vd_crash.specs.facts.Words.{IsUpdated, WritesNothing}
use Rattle.vd_crash.specs.flushes.Stage.{Flight, Idle as NoFlight, IsOtherCall}
use Rattle.vd_crash.specs.flushes.Moves.{entry_now}
use Rattle.vd_crash.specs.primitives.Core.{AsksNone}
use Rattle.vd_crash.specs.primitives.Primitives.{State, state, with_table}
use Rattle.vd_crash.proofs.primitives.Parts.{Tells, Notes}
use Rattle.vd_crash.specs.primitives.Keeping.{KeepsCrashSafety}
use Rattle.vd_crash.proofs.primitives.Keeping.{primitive_keeps}
use Rattle.vd_keeper.specs.Keeping.{KeeperState}
use Rattle.vd_passes.specs.declared.shape.Shape.{Shape}
use Rattle.vd_passes.specs.declared.pass.Pass.{Pass}
use Rattle.vd_passes.specs.declared.pass.Phase.TheVariants.{Issuing, Flushing}
use Rattle.vd_safety.specs.Mirrors.{core_state, storage_of, IsFlightOf, Mirrors, HasSafeMirror}
use Rattle.vd_safety.proofs.Updates.{updated-same}
use Rattle.vd_safety.proofs.Surroundings.{Surroundings, not-flusher}
use Rattle.vd_safety.proofs.Flying.{is_bare, flights-set, idle-flight, pending-other}
use Rattle.vd_safety.proofs.Stages.{stage-set}
use Rattle.vd_safety.proofs.Mirroring.{IsHistory, mirrored, was-history}

-- an entry that begins and ends no write
abbrev pub IsNoWriteEvent : Entry → Type 0
IsNoWriteEvent (Ask id request) = Unit {0}
IsNoWriteEvent (Issue id first content) = ⊥
IsNoWriteEvent (Done id) = ⊥
IsNoWriteEvent (Broke id) = ⊥
IsNoWriteEvent (Seen id first content) = Unit {0}
IsNoWriteEvent (Reply id answer) = Unit {0}

calm-quiet : (e : Entry) → IsNoWriteEvent e → WritesNothing e
calm-quiet (Ask id request) calm a v covers = covers
calm-quiet (Issue id first content) calm a v covers = calm
calm-quiet (Done id) calm a v covers = covers
calm-quiet (Broke id) calm a v covers = covers
calm-quiet (Seen id first content) calm a v covers = covers
calm-quiet (Reply id answer) calm a v covers = covers

calm-ends : (e : Entry) → IsNoWriteEvent e → (id : CallId) → (Done id ≡ e) ⊎ (Broke id ≡ e) → ⊥
calm-ends e calm id (inl is) = subst IsNoWriteEvent (sym is) calm
calm-ends e calm id (inr is) = subst IsNoWriteEvent (sym is) calm

calm-issue : (e : Entry) → IsNoWriteEvent e → (id : CallId) → IsIssueOf e id → ⊥
calm-issue (Ask id request) calm call is = is
calm-issue (Issue id first content) calm call is = calm
calm-issue (Done id) calm call is = is
calm-issue (Broke id) calm call is = is
calm-issue (Seen id first content) calm call is = is
calm-issue (Reply id answer) calm call is = is

calm-other : (e : Entry) → IsNoWriteEvent e → (n : ℕ) (id : CallId) → IsOtherCall (record { event = e; number = n }) id
calm-other e calm n id (inl is) = calm-ends e calm id (inl is)
calm-other e calm n id (inr (inl is)) = calm-ends e calm id (inr is)
calm-other e calm n id (inr (inr is)) = calm-issue e calm id is

-- the guest's history has one entry more
pub notes : (o : Opening) (s : State) (e : Entry) → IsNoWriteEvent e → ((id : CallId) (a n : ℕ) → Stands s.history a n (Ask id Flush) → e ≡ Reply id Fine → ⊥) → KeepsCrashSafety o s
    → KeepsCrashSafety o (state s.log (s.history ++ entry_now s.log e ∷ []) s.memory s.marked s.flights s.stage)
notes o s e calm no_answer keeps = primitive_keeps o s (state s.log (s.history ++ entry_now s.log e ∷ []) s.memory s.marked s.flights s.stage)
    (Notes s.log s.history s.memory s.marked s.flights s.stage e (calm-quiet e calm) (λ id is. calm-ends e calm id (inl (sym is))) (calm-issue e calm) (λ l id has. calm-other e calm (length s.log) id) no_answer) keeps

-- and so has the store's log
pub tells : (o : Opening) (s : State) (e : Entry) → IsNoWriteEvent e → AsksNone s.stage e → KeepsCrashSafety o s → KeepsCrashSafety o (state (s.log ++ e ∷ []) s.history s.memory s.marked s.flights s.stage)
tells o s e calm asks keeps = primitive_keeps o s (state (s.log ++ e ∷ []) s.history s.memory s.marked s.flights s.stage)
    (Tells s.log s.history s.memory s.marked s.flights s.stage e (calm-quiet e calm) (λ l id has. calm-ends e calm id) (λ id waits. calm-ends e calm id) asks) keeps

module _ {h : Header} {o : Opening} {shape : Shape} {table : TableState} {fresh : List Bool} {k : KeeperState} {flusher : Option ℕ} {passes : List Pass} {history : HistoryState} {base : List Sector} {last : ℕ} {log : List Entry}
    (around : Surroundings h o shape (core_state table fresh k flusher passes history) base last) (secured : HasSafeMirror o (core_state table fresh k flusher passes history) log)
    (i : ℕ) (p p' : Pass) (there : slice_get passes i ≡ Some p) (not_issuing : p.phase ≡ Issuing → ⊥) (not_flushing : p.phase ≡ Flushing → ⊥) where
  abbrev s : State
  s = secured.state

  mirrors : Mirrors o (core_state table fresh k flusher passes history) log s
  mirrors = secured.mirrors

  -- The state after a step of pass i, with this storage, these logs and these flights.
  pub moved : (table' : TableState) (history' : HistoryState) (log' store : List Entry) (events : List NumberedEntry) (t : ℕ → Option ℕ) (flights : ℕ → Flight) (f : Flight)
      → store ≡ log' → IsHistory history' events → ((c : ℕ) → t c ≡ storage_of table' c) → IsUpdated s.flights flights i f → IsFlightOf p'.phase p'.fault i p' f
      → KeepsCrashSafety o (state store events (with_table s.memory t) s.marked flights s.stage) → HasSafeMirror o (core_state table' fresh k flusher (slice_set passes i p') history') log'
  moved table' history' log' store events t flights f told events_are storage put idle keeps = record {
    state = state store events (with_table s.memory t) s.marked flights s.stage;
    keeps = keeps;
    mirrors = mirrored o table fresh k flusher passes history log s mirrors table' fresh k.owed (slice_set passes i p') history' log' store events t s.memory.fresh s.memory.born s.memory.owed s.memory.pending flights
        told events_are storage mirrors.fresh_is mirrors.owed (λ c. pending-other fresh fresh passes i p p' there c (s.memory.pending c) (λ is same. not_issuing is) refl (mirrors.pending c))
        (flights-set passes i p p' s.flights flights f there mirrors.flights put idle) (stage-set flusher o k passes i p' s.stage (not-flusher around i p there not_flushing) mirrors.stage);
  }

  -- the same where the pass has nothing in flight and owes nothing, before and after
  pub moved-bare : s.flights i ≡ NoFlight → IsFlightOf p'.phase p'.fault i p' NoFlight → (history' : HistoryState) (log' store : List Entry) (events : List NumberedEntry) → store ≡ log' → IsHistory history' events
      → KeepsCrashSafety o (state store events s.memory s.marked s.flights s.stage) → HasSafeMirror o (core_state table fresh k flusher (slice_set passes i p') history') log'
  moved-bare was idle history' log' store events told events_are keeps =
      moved table history' log' store events s.memory.index.table s.flights NoFlight told events_are mirrors.storage (updated-same s.flights i NoFlight was) idle keeps

  pub bare-before : is_bare p.phase ≡ true → s.flights i ≡ NoFlight
  bare-before bare = idle-flight passes s.flights i p mirrors.flights there bare

  -- A step that changes the pass alone.
  pub only-passes : is_bare p.phase ≡ true → IsFlightOf p'.phase p'.fault i p' NoFlight → HasSafeMirror o (core_state table fresh k flusher (slice_set passes i p') history) log
  only-passes bare idle = moved-bare (bare-before bare) idle history log s.log s.history mirrors.log_is (was-history o table fresh k flusher passes history log s mirrors) secured.keeps
