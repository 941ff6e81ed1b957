-- A pass issues a piece of its write.
use Rattle.std.proofs.Common.{◌≡◌, ◌≢◌, ℕ, ◌+◌, ◌-◌, ◌*◌, ◌/◌, ◌%◌, ◌<◌, ◌≤◌, ◌⊎◌, Bool, true, false, List, [], ◌∷◌, ◌++◌, length, take, drop, refl, sym, ◌∙◌, ap, subst, inl, inr, arith, Option, Some, slice_get, slice_set, length-drop}
use Rattle.std.specs.Prelude.{slice_range}
use Rattle.std.proofs.lemmas.List.{length-take-le}
use Rattle.std.proofs.lemmas.Option.{slice_get_within}
use Rattle.vd_law.specs.declared.entry.Sector.{Sector}
use Rattle.vd_law.specs.Entries.{Entry, Issue}
use Rattle.vd_law.specs.Histories.{HistoryState}
use Rattle.vd_device.specs.declared.store.Store as store
use Rattle.vd_device.specs.declared.ticket.Ticket.{Ticket}
use Rattle.vd_device.specs.Tickets.{ticket_id}
use Rattle.vd_format.specs.declared.header.Header.{Header}
use Rattle.vd_format.specs.Layouts.{blocks_of, storage_start}
use Rattle.vd_table.specs.Tables.{TableState}
use Rattle.vd_image.specs.Image.{Layout}
use Rattle.vd_crash.specs.facts.Safe.{Opening}
use Rattle.vd_crash.specs.facts.Words.{IsUpdated, IsSameWrite, IsWholeWrite, with_blocks}
use Rattle.vd_crash.specs.flushes.Stage.{Flight, Writing}
use Rattle.vd_crash.specs.flushes.Moves.{entry_now}
use Rattle.vd_crash.specs.primitives.Primitives.{State, state}
use Rattle.vd_crash.proofs.primitives.Parts.{Issues as Issues_local, Issues_whole}
use Rattle.vd_crash.specs.primitives.Keeping.{KeepsCrashSafety}
use Rattle.vd_crash.proofs.primitives.Keeping.{primitive_keeps}
use Rattle.vd_keeper.specs.Keeping.{KeeperState}
use Rattle.vd_passes.specs.declared.shape.Shape.{Shape}
use Rattle.vd_passes.specs.declared.pass.Pass.{Pass}
use Rattle.vd_passes.specs.declared.pass.Phase.{Phase}
use Rattle.vd_passes.specs.declared.pass.Phase.TheVariants.{Idle, Held, Filled, Issuing, Flushing}
use Rattle.vd_passes.specs.Laying.{content_with_part, IsRest}
use Rattle.vd_passes.specs.Standings.{standing}
use Rattle.vd_passes.specs.Places.{place_of}
use Rattle.vd_passes.specs.Passes.{has_region, call_id, IsAsHistorySays, IsPiece, IsRequestOf, HasInFlight, after_issue}
use Rattle.vd_passes.specs.Requests.{RequestState, requests}
use Rattle.vd_passes.specs.Steps.{IsAt, HasAskedWrite, Issues}
use Rattle.vd_safety.specs.Mirrors.{core_state, bit_of, storage_of, storage_given, AreFlightsOf, IsPendingOf, IsStageOf, Mirrors, HasSafeMirror}
use Rattle.vd_safety.proofs.Updates.{some-inj, bit-is, updated, is-updated}
use Rattle.vd_safety.proofs.Places.{chunk-is, place-from}
use Rattle.vd_safety.proofs.Writing.{Comes, comes-laid, length-laid, same-write, whole-write}
use Rattle.vd_safety.proofs.Surroundings.{Surroundings, block-same, chunk-same, blocks-same, storage-same, not-flusher}
use Rattle.vd_safety.proofs.Flying.{is_bare, flights-set, pending-other, pending-own, pending-put}
use Rattle.vd_safety.proofs.Stages.{stage-set}
use Rattle.vd_safety.proofs.Mirroring.{mirrored, was-history, history-more}
use Rattle.vd_safety.proofs.Backing.{buffer-is}
use Rattle.vd_safety.proofs.Knowing.{at-this, may-issue, none-pending}
use Rattle.vd_format.specs.Background.{background_of}

-- a part has the length that was asked of it, where there is so much
pub part-long : (content : List Sector) (done piece : ℕ) → done + piece ≤ length content → length (slice_range content done (done + piece)) ≡ piece
part-long content done piece fits =
    let dropped : length (drop done content) ≡ length content - done = length-drop done content in
    let taken : length (take (done + piece - done) (drop done content)) ≡ done + piece - done = length-take-le (done + piece - done) (drop done content) (omega arith) in
    omega arith

-- the pass holds its region, and has nothing in flight
holding-phase : (P : Phase → Type 0) → P Held → P Filled → (p : Pass) → (p.phase ≡ Held) ⊎ (p.phase ≡ Filled) → P p.phase
holding-phase P held filled p (inl is) = subst P (sym is) held
holding-phase P held filled p (inr is) = subst P (sym is) filled

module _ {h : Header} {o : Opening} {shape shape' : Shape} {table : TableState} {fresh fresh' : List Bool} {k : KeeperState} {flusher : Option ℕ} {passes passes' : List Pass} {history : HistoryState} {base content : List Sector}
    {i : ℕ} {S : Type 0} {g : store.Ghosts S} {before now : S} (history' : HistoryState)
    (around : Surroundings h o shape (core_state table fresh k flusher passes history) base (g.last before))
    (at : IsAt passes i (λ p. ((p.phase ≡ Held) ⊎ (p.phase ≡ Filled)) × (p.write ≡ true))) (asked : HasAskedWrite history.log.entries i content)
    (step : Issues g content i (requests shape fresh passes history.log.entries) (requests shape' fresh' passes' history'.log.entries) before now)
    (numbers : history'.numbers ≡ history.numbers ++ length (g.disk before).log ∷ []) (telling : g.tells now)
    (secured : HasSafeMirror o (core_state table fresh k flusher passes history) (g.disk before).log) where
  abbrev s : State
  s = secured.state

  abbrev p : Pass
  p = step.pass

  abbrev t : Ticket
  t = step.ticket

  abbrev part : List Sector
  part = slice_range content p.done (p.done + p.piece)

  abbrev event : Entry
  event = Issue (call_id i p) (p.first + p.done) part

  abbrev stored-event : Entry
  stored-event = Issue (ticket_id t) t.first step.stored

  mirrors : Mirrors o (core_state table fresh k flusher passes history) (g.disk before).log s
  mirrors = secured.mirrors

  this : ((p.phase ≡ Held) ⊎ (p.phase ≡ Filled)) × (p.write ≡ true)
  this = at-this passes i (λ p. ((p.phase ≡ Held) ⊎ (p.phase ≡ Filled)) × (p.write ≡ true)) p step.there at

  stands : IsAsHistorySays shape fresh (place_of shape table.chunks) (standing history.log.entries i) p
  stands = around.each i p step.there

  region : has_region p.phase ≡ true
  region = holding-phase (λ ph. has_region ph ≡ true) refl refl p this.0

  bare : is_bare p.phase ≡ true
  bare = holding-phase (λ ph. is_bare ph ≡ true) refl refl p this.0

  not-idle : p.phase ≢ Idle
  not-idle = holding-phase (λ ph. ph ≢ Idle) (λ e. absurd (cc)) (λ e. absurd (cc)) p this.0

  not-issuing : p.phase ≡ Issuing → ⊥
  not-issuing = holding-phase (λ ph. ph ≡ Issuing → ⊥) (λ e. absurd (cc)) (λ e. absurd (cc)) p this.0

  not-flushing : p.phase ≡ Flushing → ⊥
  not-flushing = holding-phase (λ ph. ph ≡ Flushing → ⊥) (λ e. absurd (cc)) (λ e. absurd (cc)) p this.0

  piece : IsPiece shape p
  piece = stands.piece region

  content-long : length content ≡ p.count
  content-long = let b = stands.busy not-idle in (subst (IsRequestOf p) (some-inj (sym b.1 ∙ asked.1)) b.2).2

  long : length part ≡ p.piece
  long = let c = content-long in let n = piece.no_more in part-long content p.done p.piece (omega arith)

  -- the storage chunk of its block
  placed : (x : ℕ) × (slice_get table.chunks (p.block / shape.chunk) ≡ Some (Some x)) × (p.at ≡ shape.storage_at + (x * shape.chunk + p.block % shape.chunk) * shape.block)
  placed = place-from shape table.chunks p.block p.at (stands.at region (inl this.1))

  has-storage : s.memory.index.table (o.layout.chunk_of p.block) ≡ Some placed.0
  has-storage = mirrors.storage (o.layout.chunk_of p.block)
      ∙ ap (storage_of table) (chunk-is h o.layout around.header.layout p.block ∙ ap (λ (n : ℕ). p.block / n) (sym (chunk-same around)))
      ∙ ap storage_given placed.1

  place : p.at ≡ storage_start h + (placed.0 * h.chunk + p.block % h.chunk) * h.block
  place = let a = placed.2 in let b = block-same around in let c = chunk-same around in let d = storage-same around in cc

  some : 0 < h.block
  some = let e = block-same around in let g = around.some_block in omega arith

  some-chunk : 0 < h.chunk
  some-chunk = let e = chunk-same around in let g = around.some_chunk in omega arith

  scaled : shape.block * p.block ≡ h.block * p.block
  scaled = ap (λ (n : ℕ). n * p.block) (block-same around)

  from : h.block * p.block ≤ p.first + p.done
  from = let e = scaled in let g = piece.from in omega arith

  to : p.first + p.done + length part ≤ h.block * p.block + h.block
  to = let e = scaled in let g = piece.to in let b = block-same around in let l = long in omega arith

  in-disk : p.block < blocks_of h
  in-disk = let b = blocks-same around in let g = piece.in_disk in omega arith

  told : g.last before < t.number
  told = step.call.rises telling

  log-after : s.log ++ stored-event ∷ [] ≡ (g.disk now).log
  log-after = ap (λ (es : List Entry). es ++ stored-event ∷ []) mirrors.log_is ∙ sym (step.call.takes.told telling).log

  abbrev flights' : ℕ → Flight
  flights' = updated s.flights i (Writing p.block (length s.history) (length s.log) (call_id i p) (ticket_id t))

  put-flight : IsUpdated s.flights flights' i (Writing p.block (length s.history) (length s.log) (call_id i p) (ticket_id t))
  put-flight = is-updated s.flights i (Writing p.block (length s.history) (length s.log) (call_id i p) (ticket_id t))

  abbrev p' : Pass
  p' = after_issue p t step.buffer

  flights-after : AreFlightsOf (slice_set passes i p') flights'
  flights-after = flights-set passes i p p' s.flights flights' (Writing p.block (length s.history) (length s.log) (call_id i p) (ticket_id t)) step.there mirrors.flights put-flight
      (t, length s.history, length s.log, refl, refl)

  stage-after : IsStageOf flusher o k (slice_set passes i p') s.stage
  stage-after = stage-set flusher o k passes i p' s.stage (not-flusher around i p step.there not-flushing) mirrors.stage

  others-pending : (c : ℕ) → IsPendingOf fresh (slice_set passes i p') c (s.memory.pending c)
  others-pending c = pending-other fresh fresh passes i p p' step.there c (s.memory.pending c) (λ issuing same. not-issuing issuing) refl (mirrors.pending c)

  -- the whole state, with these blocks written whole
  after : (pending : ℕ → Option ℕ) → ((c : ℕ) → IsPendingOf fresh (slice_set passes i p') c (pending c))
      → KeepsCrashSafety o (state (s.log ++ stored-event ∷ []) (s.history ++ entry_now s.log event ∷ []) (with_blocks s.memory s.memory.fresh s.memory.born s.memory.owed pending) s.marked flights' s.stage)
      → HasSafeMirror o (core_state table fresh k flusher (slice_set passes i p') history') (g.disk now).log
  after pending pending_is keeps = record {
    state = state (s.log ++ stored-event ∷ []) (s.history ++ entry_now s.log event ∷ []) (with_blocks s.memory s.memory.fresh s.memory.born s.memory.owed pending) s.marked flights' s.stage;
    keeps = keeps;
    mirrors = mirrored o table fresh k flusher passes history (g.disk before).log s mirrors table fresh k.owed (slice_set passes i p') history' (g.disk now).log (s.log ++ stored-event ∷ []) (s.history ++ entry_now s.log event ∷ [])
        s.memory.index.table s.memory.fresh s.memory.born s.memory.owed pending flights' log-after
        (history-more history history' s.history s.log (g.disk before).log event (was-history o table fresh k flusher passes history (g.disk before).log s mirrors) mirrors.log_is (ap (λ (r : RequestState). r.entries) step.after) numbers)
        mirrors.storage mirrors.fresh_is mirrors.owed pending_is flights-after stage-after;
  }

  fresh-is : (v : Bool) → slice_get fresh p.block ≡ Some v → bit_of fresh p.block ≡ v
  fresh-is v there = bit-is fresh p.block v there

  filled-not : p.phase ≡ Filled → bit_of fresh p.block ≡ false
  filled-not is = fresh-is false (subst (λ ph. HasInFlight ph shape fresh p) is stands.ticket).1

  -- the block is local, and the piece is written to its place
  local : bit_of fresh p.block ≡ true → HasSafeMirror o (core_state table fresh k flusher (slice_set passes i p') history') (g.disk now).log
  local is_fresh = after s.memory.pending others-pending
      (primitive_keeps o s (state (s.log ++ stored-event ∷ []) (s.history ++ entry_now s.log event ∷ []) s.memory s.marked flights' s.stage)
      (Issues_local s.log s.history s.memory s.marked s.flights flights' s.stage i p.block placed.0 (call_id i p) (ticket_id t) (p.first + p.done) part stored-event
      (may-issue around mirrors i p t step.there region bare told) put-flight refl (mirrors.fresh_is p.block ∙ is_fresh) has-storage same) secured.keeps)
    where
      same : IsSameWrite o event stored-event p.block placed.0
      same = elim step.given.way [
        | inl held ↦ subst (λ (xs : List Sector). IsSameWrite o event (Issue (ticket_id t) t.first xs) p.block placed.0) (sym held.0) (same-write h o around.header.layout some some-chunk p.block placed.0 (p.first + p.done) p.at part (call_id i p) (ticket_id t) from to place t.first (let e = scaled in let g = held.4 in omega arith))
        | inr filled ↦ absurd (let not_fresh = filled-not filled.2 in cc)
      ]

  abbrev pending' : ℕ → Option ℕ
  pending' = updated s.memory.pending p.block (Some (length s.log))

  -- the place of the piece in its block
  abbrev offset : ℕ
  offset = p.first + p.done - shape.block * p.block

  -- it isn't, and the block is written whole
  whole : bit_of fresh p.block ≡ false → HasSafeMirror o (core_state table fresh k flusher (slice_set passes i p') history') (g.disk now).log
  whole not_fresh = after pending' pending-after
      (primitive_keeps o s (state (s.log ++ stored-event ∷ []) (s.history ++ entry_now s.log event ∷ []) (with_blocks s.memory s.memory.fresh s.memory.born s.memory.owed pending') s.marked flights' s.stage)
      (Issues_whole s.log s.history s.memory s.marked pending' s.flights flights' s.stage i p.block placed.0 (call_id i p) (ticket_id t) (p.first + p.done) part stored-event
      (may-issue around mirrors i p t step.there region bare told) put-flight refl (mirrors.fresh_is p.block ∙ not_fresh) (none-pending around mirrors i p step.there region bare)
      (let e : o.layout.blocks ≡ blocks_of h = ap (λ (l : Layout). l.blocks) around.header.layout in let g = in-disk in omega arith)
      has-storage put-pending write) secured.keeps)
    where
      put-pending : IsUpdated s.memory.pending pending' p.block (Some (length s.log))
      put-pending = is-updated s.memory.pending p.block (Some (length s.log))

      pending-after : (c : ℕ) → IsPendingOf fresh (slice_set passes i p') c (pending' c)
      pending-after = pending-put fresh (slice_set passes i p') s.memory.pending pending' p.block (Some (length s.log)) put-pending
          (pending-own fresh fresh passes i p p' step.there p.block (length s.log) refl refl not_fresh) (λ c ne. others-pending c)

      begins : p.first + p.done ≡ h.block * p.block + offset
      begins = let e = scaled in let g = piece.from in omega arith

      block-whole : t.first ≡ p.at → (stored : List Sector) → length stored ≡ h.block → ((n : ℕ) (v : Sector) → slice_get stored n ≡ Some v → Comes offset part (λ m u. u ≡ o.disk (h.block * p.block + m)) n v)
          → IsWholeWrite o s.memory.discards event (Issue (ticket_id t) t.first stored) p.block placed.0
      block-whole first stored stored_long comes = subst (λ (a : ℕ). IsWholeWrite o s.memory.discards event (Issue (ticket_id t) a stored) p.block placed.0) (sym first) (whole-write h o around.header.layout some some-chunk p.block placed.0 (p.first + p.done) p.at part (call_id i p) (ticket_id t) from to place s.memory.discards offset stored mirrors.undiscarded.zeros begins stored_long comes)

      buffer-rest : p.phase ≡ Filled → IsRest (background_of base shape.tracked) (h.block * p.block) p.buffer
      buffer-rest filled = subst (λ (n : ℕ). IsRest (background_of base shape.tracked) n p.buffer) scaled (around.buffers i p step.there filled)

      fits : offset + length part ≤ length p.buffer
      fits = let e = scaled in let g = piece.from in let m = to in let b = block-same around in let l = stands.buffer in omega arith

      within : (n : ℕ) (v : Sector) → slice_get p.buffer n ≡ Some v → n < h.block
      within n v there = let w = slice_get_within p.buffer n v there in let b = block-same around in let l = stands.buffer in omega arith

      given-as : (stored : List Sector) → step.stored ≡ stored → IsWholeWrite o s.memory.discards event (Issue (ticket_id t) t.first stored) p.block placed.0 → IsWholeWrite o s.memory.discards event stored-event p.block placed.0
      given-as stored e w = subst (λ (xs : List Sector). IsWholeWrite o s.memory.discards event (Issue (ticket_id t) t.first xs) p.block placed.0) (sym e) w

      write : IsWholeWrite o s.memory.discards event stored-event p.block placed.0
      write = elim step.given.way [
        | inl held ↦ given-as part held.0 (elim held.3 [
          | inl is_fresh ↦ absurd (let e = fresh-is true is_fresh in cc)
          | inr all ↦
              let none : offset ≡ 0 = (let e = piece.from in let g = piece.to in omega (arith, all)) in
              block-whole (let g = held.4 in let e = piece.from in omega arith) part (let l = long in let b = block-same around in omega (arith, all))
              (λ n v there. inl (omega arith, (let e : n - offset ≡ n = omega arith in rw e there)))
        ])
        | inr filled ↦ given-as (content_with_part offset part p.buffer) (filled.0 ∙ filled.1) (block-whole filled.3 (content_with_part offset part p.buffer) (length-laid offset part p.buffer fits ∙ stands.buffer ∙ block-same around)
            (λ n v there. elim (comes-laid offset part p.buffer fits n v there) [
              | inl own ↦ inl own
              | inr other ↦ inr (other.0, buffer-is around mirrors p.block n p.buffer v secured.keeps (within n v other.1) in-disk not_fresh (buffer-rest filled.2) other.1)
            ]))
      ]

  issued : (v : Bool) → bit_of fresh p.block ≡ v → HasSafeMirror o (core_state table fresh k flusher (slice_set passes i p') history') (g.disk now).log
  issued true is = local is
  issued false is = whole is

  -- it stays secured
  pub issue-secured : HasSafeMirror o (core_state table fresh' k flusher passes' history') (g.disk now).log
  issue-secured = subst (λ (r : RequestState). HasSafeMirror o (core_state table r.fresh k flusher r.passes history') (g.disk now).log) (sym step.after) (issued (bit_of fresh p.block) refl)
