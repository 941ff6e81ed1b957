-- A pass has its reply.
use Rattle.std.proofs.Common.{◌≡◌, ◌≢◌, ℕ, ◌*◌, Bool, List, [], ◌∷◌, ◌++◌, length, refl, sym, ◌∙◌, ap, subst, inl, inr, Option, Some, None, slice_get, slice_set}
use Rattle.vd_law.specs.declared.entry.Sector.{Sector}
use Rattle.vd_law.specs.declared.entry.CallId.{CallId}
use Rattle.vd_law.specs.declared.entry.Answer.{Answer}
use Rattle.vd_law.specs.Entries.{Asked as Request, Flush, Entry, Ask, Reply, past}
use Rattle.vd_law.specs.Calls.{progress}
use Rattle.vd_law.specs.Rules.{Each, IsInTurn}
use Rattle.vd_law.specs.Histories.{HistoryState}
use Rattle.vd_format.specs.declared.header.Header.{Header}
use Rattle.vd_table.specs.Tables.{TableState}
use Rattle.vd_image.specs.Log.{Fine}
use Rattle.vd_crash.specs.facts.Safe.{Opening, NumberedEntry}
use Rattle.vd_crash.specs.facts.Facts.{HasEntry as Stands}
use Rattle.vd_crash.specs.flushes.Stage.{Flight, Idle as NoFlight, Answering, FlightHolds}
use Rattle.vd_crash.specs.flushes.Moves.{entry_now}
use Rattle.vd_crash.specs.primitives.Primitives.{State, state}
use Rattle.vd_crash.proofs.primitives.Parts.{Answers}
use Rattle.vd_crash.specs.primitives.Keeping.{KeepsCrashSafety}
use Rattle.vd_crash.proofs.primitives.Keeping.{primitive_keeps}
use Rattle.vd_keeper.specs.Keeping.{KeeperState}
use Rattle.vd_passes.specs.declared.shape.Shape.{Shape}
use Rattle.vd_passes.specs.declared.pass.Pass.{Pass}
use Rattle.vd_passes.specs.declared.pass.Phase.TheVariants.{Idle, Issuing, Flushing, Ready}
use Rattle.vd_passes.specs.declared.pass.Fault.{Fault}
use Rattle.vd_passes.specs.declared.pass.Fault.TheVariants as fault
use Rattle.vd_passes.specs.Standings.{standing}
use Rattle.vd_passes.specs.Places.{place_of}
use Rattle.vd_passes.specs.Passes.{call_id, IsAsHistorySays, IsRequestOf, after_reply, answer_by}
use Rattle.vd_passes.specs.Requests.{RequestState, requests}
use Rattle.vd_passes.specs.Steps.{IsAt, Replies}
use Rattle.vd_safety.specs.Mirrors.{core_state, IsFlightOf, Mirrors, HasSafeMirror}
use Rattle.vd_safety.proofs.Updates.{some-inj, numbered-at, updated, is-updated}
use Rattle.vd_safety.proofs.Surroundings.{Surroundings}
use Rattle.vd_safety.proofs.Flying.{flight-of}
use Rattle.vd_safety.proofs.Mirroring.{IsHistory, was-history, history-more}
use Rattle.vd_safety.proofs.Onward.{notes, moved, moved-bare}
use Rattle.vd_safety.proofs.Knowing.{at-this}
use Rattle.vd_safety.proofs.Calls.{one-ask, asked-at}

-- a good answer of a flush that is owed stands for its Ask
answers-ask : (o : Opening) (s : State) (i a n : ℕ) (call : CallId) → KeepsCrashSafety o s → s.flights i ≡ Answering call a n → Stands s.history a n (Ask call Flush)
unfolding KeepsCrashSafety
answers-ask o s i a n call keeps is = (subst (λ (g : Flight). FlightHolds o s.log s.history s.memory g) is (keeps.core.in_flight.each i)).asked

-- an Ask of a pass's call is of the request that it serves
serves : (size : ℕ) (shape : Shape) (fresh : List Bool) (places : ℕ → Option ℕ) (history : List Entry) (i a : ℕ) (p : Pass) (r : Request) → Each (IsInTurn size) (past history)
    → IsAsHistorySays shape fresh places (standing history i) p → p.phase ≢ Idle → slice_get history a ≡ Some (Ask (call_id i p) r) → IsRequestOf p r
unfolding standing
serves size shape fresh places history i a p r each stands busy at =
    let b = stands.busy busy in
    let e : (progress (past history) (call_id i p)).asked ≡ Some r = asked-at size history (call_id i p) a r each at in
    let f : (progress (past history) (call_id i p)).asked ≡ Some b.0 = ap (λ (n : ℕ). (progress (past history) (record { pass = i; call = n })).asked) (sym stands.call) ∙ b.1 in
    subst (IsRequestOf p) (some-inj (sym f ∙ e)) b.2

not-fine : (why : Fault) (done : ℕ) → answer_by (Some why) done ≡ Fine → ⊥
not-fine (fault.Store ticket) done is = cc
not-fine (fault.Base ticket) done is = cc
not-fine (fault.Worn generation) done is = cc

module _ {h : Header} {o : Opening} {shape shape' : Shape} {table : TableState} {fresh fresh' : List Bool} {k : KeeperState} {flusher : Option ℕ} {passes passes' : List Pass} {history : HistoryState} {base : List Sector} {last i : ℕ} {log : List Entry} {answer : Answer}
    (history' : HistoryState) (around : Surroundings h o shape (core_state table fresh k flusher passes history) base last) (at : IsAt passes i (λ p. p.phase ≡ Ready))
    (step : Replies answer i (requests shape fresh passes history.log.entries) (requests shape' fresh' passes' history'.log.entries)) (numbers : history'.numbers ≡ history.numbers ++ length log ∷ []) (secured : HasSafeMirror o (core_state table fresh k flusher passes history) log) where
  abbrev s : State
  s = secured.state

  abbrev p : Pass
  p = step.pass

  mirrors : Mirrors o (core_state table fresh k flusher passes history) log s
  mirrors = secured.mirrors

  ready : p.phase ≡ Ready
  ready = at-this passes i (λ p. p.phase ≡ Ready) p step.there at

  not-issuing : p.phase ≡ Issuing → ⊥
  not-issuing is = absurd (let r = ready in cc)

  not-flushing : p.phase ≡ Flushing → ⊥
  not-flushing is = absurd (let r = ready in cc)

  busy : p.phase ≢ Idle
  busy is = absurd (let r = ready in cc)

  -- the numbered entry is one of the history
  in-history : (a n : ℕ) (e : Entry) → Stands s.history a n e → slice_get history.log.entries a ≡ Some e
  in-history a n e stands = numbered-at history.log.entries history.numbers a n e (subst (λ (es : List NumberedEntry). Stands es a n e) mirrors.history_is stands)

  history-after : (x : Answer) → answer ≡ x → IsHistory history' (s.history ++ entry_now s.log (Reply (call_id i p) x) ∷ [])
  history-after x is = history-more history history' s.history s.log log (Reply (call_id i p) x) (was-history o table fresh k flusher passes history log s mirrors) mirrors.log_is
      (ap (λ (r : RequestState). r.entries) step.after ∙ ap (λ (y : Answer). history.log.entries ++ Reply (call_id i p) y ∷ []) is) numbers

  abbrev passes-after : List Pass
  passes-after = slice_set passes i (after_reply p)

  -- the reply is no good answer of a flush
  noted : (x : Answer) → answer ≡ x → s.flights i ≡ NoFlight → ((id : CallId) (a n : ℕ) → Stands s.history a n (Ask id Flush) → Reply (call_id i p) x ≡ Reply id Fine → ⊥) → HasSafeMirror o (core_state table fresh k flusher passes-after history') log
  noted x is was none = moved-bare around secured i p (after_reply p) step.there not-issuing not-flushing was refl history' log s.log (s.history ++ entry_now s.log (Reply (call_id i p) x) ∷ []) mirrors.log_is (history-after x is)
      (notes o s (Reply (call_id i p) x) tt none secured.keeps)

  replies : (why : Option Fault) → answer ≡ answer_by why p.done → IsFlightOf Ready why i p (s.flights i) → HasSafeMirror o (core_state table fresh k flusher passes-after history') log
  replies None is (inl owes) =
      moved around secured i p (after_reply p) step.there not-issuing not-flushing table history' log s.log (s.history ++ entry_now s.log (Reply (call_id i p) Fine) ∷ []) s.memory.index.table (updated s.flights i NoFlight) NoFlight
      mirrors.log_is (history-after Fine is) mirrors.storage (is-updated s.flights i NoFlight) refl
      (primitive_keeps o s (state s.log (s.history ++ entry_now s.log (Reply (call_id i p) Fine) ∷ []) s.memory s.marked (updated s.flights i NoFlight) s.stage)
      (Answers s.log s.history s.memory s.marked s.flights (updated s.flights i NoFlight) s.stage i (call_id i p) owes.1.0 owes.1.1 owes.1.2 (is-updated s.flights i NoFlight)
      (λ b n stands. one-ask (shape.block * shape.blocks) history.log.entries (call_id i p) b owes.1.0 Flush Flush around.regular.in_turn (in-history b n (Ask (call_id i p) Flush) stands)
      (in-history owes.1.0 owes.1.1 (Ask (call_id i p) Flush) (answers-ask o s i owes.1.0 owes.1.1 (call_id i p) secured.keeps owes.1.2)))) secured.keeps)
  replies None is (inr none) = noted Fine is none.1 (λ id a n stands same. no-flush id a n stands same)
    where
      no-flush : (id : CallId) (a n : ℕ) → Stands s.history a n (Ask id Flush) → Reply (call_id i p) Fine ≡ Reply id Fine → ⊥
      no-flush id a n stands same =
          let e : id ≡ call_id i p = cc in
          let asked : slice_get history.log.entries a ≡ Some (Ask (call_id i p) Flush) = in-history a n (Ask id Flush) stands ∙ ap (λ (c : CallId). Some (Ask c Flush)) e in
          let r = serves (shape.block * shape.blocks) shape fresh (place_of shape table.chunks) history.log.entries i a p Flush around.regular.in_turn (around.each i p step.there) busy asked in
          let f = r.3 in
          let g = none.0 in
          cc
  replies (Some why) is none = noted (answer_by (Some why) p.done) is none (λ id a n stands same. not-fine why p.done (let e : answer_by (Some why) p.done ≡ Fine = cc in e))

  pub reply-secured : HasSafeMirror o (core_state table fresh' k flusher passes' history') log
  reply-secured = subst (λ (r : RequestState). HasSafeMirror o (core_state table r.fresh k flusher r.passes history') log) (sym step.after) (replies p.fault step.is (flight-of passes s.flights i p Ready mirrors.flights step.there ready))
