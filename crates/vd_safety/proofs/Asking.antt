-- A pass asks a request, and its chunks take storage.
use Rattle.std.proofs.Common.{◌≡◌, ℕ, ◌+◌, Bool, List, [], ◌∷◌, ◌++◌, length, refl, sym, ◌∙◌, ap, subst, arith, append_assoc, Option, Some, None, slice_get}
use Rattle.vd_law.specs.declared.entry.Sector.{Sector}
use Rattle.vd_law.specs.declared.entry.CallId.{CallId}
use Rattle.vd_law.specs.declared.entry.Answer.TheVariants.{Full}
use Rattle.vd_law.specs.Entries.{Asked as Request, Read, Write, Flush, Entry, Ask, Reply}
use Rattle.vd_law.specs.Histories.{HistoryState}
use Rattle.vd_format.specs.declared.header.Header.{Header}
use Rattle.vd_table.specs.Tables.{TableState, Has, IsOneToOne}
use Rattle.vd_image.specs.Image.{Geometry, Layout}
use Rattle.vd_crash.specs.facts.Safe.{Opening}
use Rattle.vd_crash.specs.facts.Words.{Grows}
use Rattle.vd_crash.specs.flushes.Stage.{Idle as NoFlight}
use Rattle.vd_crash.specs.flushes.Moves.{entry_now}
use Rattle.vd_crash.specs.primitives.Primitives.{State, state, with_table}
use Rattle.vd_crash.proofs.primitives.Parts.{Takes}
use Rattle.vd_crash.proofs.primitives.Keeping.{primitive_keeps}
use Rattle.vd_keeper.specs.Keeping.{KeeperState}
use Rattle.vd_passes.specs.declared.shape.Shape.{Shape}
use Rattle.vd_passes.specs.declared.pass.Pass.{Pass}
use Rattle.vd_passes.specs.declared.pass.Phase.TheVariants.{Idle, Issuing, Flushing}
use Rattle.vd_passes.specs.Passes.{call_id, after_ask}
use Rattle.vd_passes.specs.Requests.{RequestState, requests}
use Rattle.vd_passes.specs.Steps.{IsAt, Asks, AsksFull}
use Rattle.vd_safety.specs.Mirrors.{core_state, storage_given, storage_of, IsFlightOf, Mirrors, HasSafeMirror}
use Rattle.vd_safety.proofs.Updates.{updated-same}
use Rattle.vd_safety.proofs.Surroundings.{Surroundings}
use Rattle.vd_safety.proofs.Flying.{is_bare, flight-bare}
use Rattle.vd_safety.proofs.Mirroring.{was-history, history-more}
use Rattle.vd_safety.proofs.Onward.{notes, moved, moved-bare, bare-before}
use Rattle.vd_safety.proofs.Knowing.{at-this}
use Rattle.vd_crash.specs.facts.Memory.{IsTable}

-- chunks have taken storage that no chunk had
pub record TakesStorage (table table' : TableState) : Type 0 where
  pub kept : (chunk p : ℕ) → Has table chunk p → Has table' chunk p
  pub storage : table'.storage ≡ table.storage
  pub one_to_one : IsOneToOne table'

has-of : (x : Option (Option ℕ)) (p : ℕ) → storage_given x ≡ Some p → x ≡ Some (Some p)
has-of None p is = absurd (cc)
has-of (Some None) p is = absurd (cc)
has-of (Some (Some q)) p is = ap Some is

of-has : (x : Option (Option ℕ)) (p : ℕ) → x ≡ Some (Some p) → storage_given x ≡ Some p
of-has x p is = ap storage_given is

asked-flight : (request : Request) (p : Pass) (events sectors i : ℕ) → IsFlightOf (after_ask p request events sectors).phase (after_ask p request events sectors).fault i (after_ask p request events sectors) NoFlight
asked-flight (Read first count) p events sectors i = refl
asked-flight (Write first content) p events sectors i = refl
asked-flight Flush p events sectors i = refl

module _ {h : Header} {o : Opening} {shape : Shape} {table : TableState} {fresh : List Bool} {k : KeeperState} {flusher : Option ℕ} {passes : List Pass} {history : HistoryState} {base : List Sector} {last : ℕ} {log : List Entry}
    (around : Surroundings h o shape (core_state table fresh k flusher passes history) base last) (secured : HasSafeMirror o (core_state table fresh k flusher passes history) log) where
  abbrev s : State
  s = secured.state

  mirrors : Mirrors o (core_state table fresh k flusher passes history) log s
  mirrors = secured.mirrors

  grows : (table' : TableState) → TakesStorage table table' → Grows s.memory.index.table (storage_of table')
  grows table' takes c p is = of-has (slice_get table'.chunks c) p (takes.kept c p (has-of (slice_get table.chunks c) p (sym (mirrors.storage c) ∙ is)))

  is-table : (table' : TableState) → TakesStorage table table' → IsTable o.layout.storage (storage_of table')
  is-table table' takes = record {
    within = λ c p is.
        let inside = takes.one_to_one.inside c p (has-of (slice_get table'.chunks c) p is) in
        let a = takes.storage in
        let b = around.attended.storage in
        let d : k.header.storage ≡ h.storage = ap (λ (g : Geometry). g.storage) around.header.same in
        let e : o.layout.storage ≡ h.storage = ap (λ (l : Layout). l.storage) around.header.layout in
        omega arith;
    one_to_one = λ c d p has also. takes.one_to_one.apart c d p (has-of (slice_get table'.chunks c) p has) (has-of (slice_get table'.chunks d) p also);
  }

  not-issuing : (p : Pass) → p.phase ≡ Idle → p.phase ≡ Issuing → ⊥
  not-issuing p idle is = absurd (cc)

  not-flushing : (p : Pass) → p.phase ≡ Idle → p.phase ≡ Flushing → ⊥
  not-flushing p idle is = absurd (cc)

  -- A request is asked.
  pub ask-secured : {request : Request} {events sectors i : ℕ} {shape' : Shape} {fresh' : List Bool} {passes' : List Pass} {table' : TableState} (history' : HistoryState) → IsAt passes i (λ p. p.phase ≡ Idle) → TakesStorage table table'
      → Asks request events sectors i (requests shape fresh passes history.log.entries) (requests shape' fresh' passes' history'.log.entries) → history'.numbers ≡ history.numbers ++ length log ∷ []
      → HasSafeMirror o (core_state table' fresh' k flusher passes' history') log
  ask-secured {request} {events} {sectors} {i} {table' = table'} history' at takes step numbers =
      let p = step.pass in
      let p' = after_ask p request events sectors in
      let idle : p.phase ≡ Idle = at-this passes i (λ p. p.phase ≡ Idle) p step.there at in
      let e = Ask (call_id i p') request in
      let was = bare-before around secured i p p' step.there (not-issuing p idle) (not-flushing p idle) (ap is_bare idle) in
      subst (λ (r : RequestState). HasSafeMirror o (core_state table' r.fresh k flusher r.passes history') log) (sym step.after)
      (moved around secured i p p' step.there (not-issuing p idle) (not-flushing p idle) table' history' log s.log (s.history ++ entry_now s.log e ∷ []) (storage_of table') s.flights NoFlight mirrors.log_is
      (history-more history history' s.history s.log log e (was-history o table fresh k flusher passes history log s mirrors) mirrors.log_is (ap (λ (r : RequestState). r.entries) step.after) numbers) (λ c. refl) (updated-same s.flights i NoFlight was) (asked-flight request p events sectors i)
      (notes o (state s.log s.history (with_table s.memory (storage_of table')) s.marked s.flights s.stage) e tt (λ id a n asked is. absurd (cc))
      (primitive_keeps o s (state s.log s.history (with_table s.memory (storage_of table')) s.marked s.flights s.stage)
      (Takes s.log s.history s.memory s.marked s.flights s.stage (storage_of table') (grows table' takes) (is-table table' takes)) secured.keeps)))

  -- A request is asked, and answered Full.
  pub ask_full-secured : {request : Request} {needed free i : ℕ} {shape' : Shape} {fresh' : List Bool} {passes' : List Pass} (history' : HistoryState) → IsAt passes i (λ p. p.phase ≡ Idle)
      → AsksFull request needed free i (requests shape fresh passes history.log.entries) (requests shape' fresh' passes' history'.log.entries) → history'.numbers ≡ history.numbers ++ length log ∷ length log ∷ []
      → HasSafeMirror o (core_state table fresh' k flusher passes' history') log
  ask_full-secured {request} {needed} {free} {i} history' at step numbers =
      let p = step.pass in
      let p' : Pass = record p { call = p.call + 1 } in
      let idle : p.phase ≡ Idle = at-this passes i (λ p. p.phase ≡ Idle) p step.there at in
      let id : CallId = record { pass = i; call = p.call + 1 } in
      let d = Ask id request in
      let e = Reply id (Full needed free) in
      let middle : HistoryState = record { log = record { entries = history.log.entries ++ d ∷ []; left = history.log.left; room = history.log.room }; numbers = history.numbers ++ length log ∷ []; opened = history.opened } in
      let asked = history-more history middle s.history s.log log d (was-history o table fresh k flusher passes history log s mirrors) mirrors.log_is refl refl in
      let replied = history-more middle history' (s.history ++ entry_now s.log d ∷ []) s.log log e asked mirrors.log_is
      (ap (λ (r : RequestState). r.entries) step.after ∙ sym (append_assoc history.log.entries (d ∷ []) (e ∷ []))) (numbers ∙ sym (append_assoc history.numbers (length log ∷ []) (length log ∷ []))) in
      subst (λ (r : RequestState). HasSafeMirror o (core_state table r.fresh k flusher r.passes history') log) (sym step.after)
      (moved-bare around secured i p p' step.there (not-issuing p idle) (not-flushing p idle) (bare-before around secured i p p' step.there (not-issuing p idle) (not-flushing p idle) (ap is_bare idle))
      (flight-bare p'.phase p'.fault i p' NoFlight (ap is_bare idle) refl) history' log s.log ((s.history ++ entry_now s.log d ∷ []) ++ entry_now s.log e ∷ []) mirrors.log_is replied
      (notes o (state s.log (s.history ++ entry_now s.log d ∷ []) s.memory s.marked s.flights s.stage) e tt (λ c a n stands is. absurd (cc)) (notes o s d tt (λ c a n stands is. absurd (cc)) secured.keeps)))
