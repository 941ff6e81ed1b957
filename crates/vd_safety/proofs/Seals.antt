-- A flush is over: its blocks are logged, and its pass has its answer.
use Rattle.vd_crash.specs.facts.Facts.{IsDrop}
use Rattle.std.proofs.Common.{◌≡◌, ◌⊎◌, inl, inr, ℕ, ◌+◌, ◌/◌, ◌<◌, Bool, true, false, not, cond, List, Option, Some, None, slice_get, slice_set, sym, refl, ap, ◌∙◌, arith, subst}
use Rattle.std.specs.Prelude.{◌||◌}
use Rattle.std.proofs.lemmas.Bool.{or_cases, or_right, cases_Bool, and_parts, and_from, or_left}
use Rattle.vd_law.specs.Entries.{Entry}
use Rattle.vd_law.specs.Histories.{HistoryState}
use Rattle.vd_format.specs.declared.header.Header.{Header}
use Rattle.vd_table.specs.Tables.{TableState}
use Rattle.vd_crash.specs.facts.Safe.{Opening}
use Rattle.vd_crash.specs.facts.Words.{Sealing, sealed_memory}
use Rattle.vd_crash.specs.flushes.Flushing.{IsLogged}
use Rattle.vd_crash.specs.flushes.Stage.{Flight, Idle as NoFlight, Answering, FlushProgress}
use Rattle.vd_crash.specs.primitives.Core.{Resting, Working, Is_next}
use Rattle.vd_crash.specs.primitives.Primitives.{State, state}
use Rattle.vd_crash.proofs.primitives.Parts.{Seals as Seals_records, Seals_recycle}
use Rattle.vd_crash.specs.primitives.Keeping.{KeepsCrashSafety}
use Rattle.vd_crash.proofs.primitives.Keeping.{primitive_keeps}
use Rattle.vd_keeper.specs.declared.stage.Stage.TheVariants.{Seals}
use Rattle.vd_keeper.specs.declared.stage.Way as way
use Rattle.vd_keeper.specs.declared.stage.Way.TheVariants as ways
use Rattle.vd_keeper.specs.Keeping.{KeeperState}
use Rattle.vd_keeper.specs.Entries.{union_of}
use Rattle.vd_keeper.specs.Flushes.{is_recycle}
use Rattle.vd_keeper.specs.Moves.{difference_of, after_seal, next_header}
use Rattle.vd_keeper.proofs.Rows.{get_or-either, get_or-without}
use Rattle.vd_passes.specs.declared.shape.Shape.{Shape}
use Rattle.vd_passes.specs.declared.pass.Pass.{Pass}
use Rattle.vd_passes.specs.declared.pass.Phase.TheVariants.{Flushing}
use Rattle.vd_passes.specs.Passes.{call_id, after_flush}
use Rattle.vd_passes.specs.Requests.{RequestState, requests, with_pass}
use Rattle.vd_safety.specs.Mirrors.{core_state, IsSnapshotOf, bit_of, Mirrors, HasSafeMirror}
use Rattle.vd_safety.proofs.Updates.{updated, is-updated}
use Rattle.vd_safety.proofs.Flying.{is_bare, flights-set, idle-flight}
use Rattle.vd_safety.proofs.Records.{by-header}
use Rattle.vd_safety.proofs.Marked.{chunk-inside}
use Rattle.vd_safety.proofs.Heads.{next-generation}
use Rattle.vd_safety.proofs.Putting.{same-chunks}
use Rattle.vd_safety.proofs.Stepping.{IsFlushing, flusher-is, keeps-at, stage-at, pending-after, secured-on}
use Rattle.vd_machine.specs.Flushing.{meta_state, SealsFlush}

-- the header after it
plain-header : (w : way.Way) (h : Header) → is_recycle w ≡ false → next_header w h ≡ h
plain-header ways.Nothing h e = refl
plain-header ways.Records h e = refl
plain-header (ways.Recycle t) h e = absurd cc

tracked-after : (w : way.Way) (h : Header) (t : ℕ) → w ≡ ways.Recycle t → t ≡ (next_header w h).tracked
tracked-after w h t e = ap (λ (x : way.Way). (next_header x h).tracked) (sym e)

-- A core whose pass has its flush behind it.
module _ (h : Header) (o : Opening) (shape : Shape) (table : TableState) (fresh : List Bool) (k : KeeperState) (passes : List Pass) (history : HistoryState) (log : List Entry) (s : State) (last i : ℕ) (p : Pass)
    (around : IsFlushing h o shape (core_state table fresh k (Some i) passes history) last) (was : KeepsCrashSafety o s) (mirrors : Mirrors o (core_state table fresh k (Some i) passes history) log s)
    (there : slice_get passes i ≡ Some p) (flushes : p.phase ≡ Flushing) (serves : p.flush ≡ true) (none : p.ticket ≡ None) (seals : k.stage ≡ Seals) where
  abbrev p' : Pass
  p' = after_flush p None

  bare : is_bare p.phase ≡ true
  bare = ap is_bare flushes

  -- what the flush leaves: no chunk was discarded
  abbrev left : ℕ → Sealing
  left reach = record {
    table = s.memory.index.table;
    stale = λ b. bit_of (union_of k.stale k.snapshot) b;
    off_base = λ b. bit_of (union_of k.stale k.snapshot) b;
    owed = λ b. bit_of (difference_of k.owed k.snapshot) b;
    lost = λ c. false;
    reach = reach;
  }

  idle : s.flights i ≡ NoFlight
  idle = idle-flight passes s.flights i p mirrors.flights there bare

  no-drop : (j n c : ℕ) → IsDrop s.memory.discards.drops s.history j n c → ⊥
  no-drop j n c drop = let none = mirrors.undiscarded.drops j in let is = drop.is in cc

  -- what is logged
  logged : (pr : FlushProgress) → IsSnapshotOf k.snapshot k.stale pr.snapshot → IsLogged o s.history s.memory pr.snapshot (left pr.snapshot.begun)
  logged pr snapshot_is =
      record {
        stale_was = λ b on. elim (or_cases (bit_of k.stale b) (bit_of k.snapshot b) (sym (get_or-either k.stale k.snapshot b) ∙ on)) [
          | inl old ↦ inl (mirrors.stale b ∙ old)
          | inr new ↦ inr (snapshot_is.blocks b ∙ new, λ j n since drop. no-drop j n (o.layout.chunk_of b) drop)
        ];
        stale_still = λ b old. get_or-either k.stale k.snapshot b ∙ or_left (bit_of k.stale b) (bit_of k.snapshot b) (sym (mirrors.stale b) ∙ old);
        snapped = λ b new. inl (get_or-either k.stale k.snapshot b ∙ or_right (bit_of k.stale b) (bit_of k.snapshot b) (sym (snapshot_is.blocks b) ∙ new));
        off_is = λ b. (
          λ on. elim (or_cases (bit_of k.stale b) (bit_of k.snapshot b) (sym (get_or-either k.stale k.snapshot b) ∙ on)) [ inl old ↦ inl (mirrors.off_base b ∙ old) | inr new ↦ inr (inl (snapshot_is.blocks b ∙ new)) ],
          λ after. elim after [
            | inl old ↦ get_or-either k.stale k.snapshot b ∙ or_left (bit_of k.stale b) (bit_of k.snapshot b) (sym (mirrors.off_base b) ∙ old)
            | inr (inl new) ↦ get_or-either k.stale k.snapshot b ∙ or_right (bit_of k.stale b) (bit_of k.snapshot b) (sym (snapshot_is.blocks b) ∙ new)
            | inr (inr lost) ↦ absurd (let none = snapshot_is.lost (o.layout.chunk_of b) in cc)
          ],
        );
        lost_was = λ c lost. absurd cc;
        lost_still = λ j n c since drop. absurd (no-drop j n c drop);
        reach = refl;
        table = λ c. inl refl;
        owed_was = λ b on. mirrors.owed b ∙ (and_parts (bit_of k.owed b) (not (bit_of k.snapshot b)) (sym (get_or-without k.owed k.snapshot b) ∙ on)).0;
        owed_still = λ b on. elim (cases_Bool (bit_of k.snapshot b)) [
          | inl snap ↦ inr (get_or-either k.stale k.snapshot b ∙ or_right (bit_of k.stale b) (bit_of k.snapshot b) snap)
          | inr off ↦ inl (get_or-without k.owed k.snapshot b ∙ and_from (bit_of k.owed b) (not (bit_of k.snapshot b)) (sym (mirrors.owed b) ∙ on) (ap not off))
        ];
      }

  -- the core after it
  over : (generation tracked : ℕ) (sure : Bool) (tried : ℕ → Bool) (cursor a n reach : ℕ)
      → KeepsCrashSafety o (state s.log s.history (sealed_memory s.memory generation tracked sure tried cursor (left reach)) s.marked (updated s.flights i (Answering (call_id i p) a n)) Resting)
      → generation ≡ (after_seal k).header.generation → tracked ≡ (after_seal k).header.tracked → sure ≡ (after_seal k).sure → ((b : ℕ) → tried b ≡ false) → cursor ≡ (after_seal k).next
      → HasSafeMirror o (core_state table fresh (after_seal k) None (slice_set passes i p') history) log
  over generation tracked sure tried cursor a n reach after generation_is tracked_is sure_is tried_is cursor_is =
      let new : ℕ → Flight = updated s.flights i (Answering (call_id i p) a n) in
      let mine : Mirrors o (core_state table fresh (after_seal k) None (slice_set passes i p') history) log (state s.log s.history (sealed_memory s.memory generation tracked sure tried cursor (left reach)) s.marked new Resting) = record {
        log_is = mirrors.log_is;
        history_is = mirrors.history_is;
        many = mirrors.many;
        generation = generation_is;
        tracked = tracked_is;
        sure = sure_is;
        storage = mirrors.storage;
        stale = λ b. refl;
        off_base = λ b. refl;
        undiscarded = record { drops = mirrors.undiscarded.drops; zeros = mirrors.undiscarded.zeros; lost = λ c. refl };
        tried = tried_is;
        same_tracked = λ t is. tracked-after k.way k.header t is;
        cursor = cursor_is;
        fresh_is = mirrors.fresh_is;
        owed = λ b. refl;
        pending = pending-after o table fresh k (Some i) passes history log s mirrors i p p' there bare;
        marked = mirrors.marked;
        flights = flights-set passes i p p' s.flights new (Answering (call_id i p) a n) there mirrors.flights (is-updated s.flights i (Answering (call_id i p) a n)) (inl (serves, (a, n, refl)));
        stage = refl;
      } in
      record { state = _; keeps = after; mirrors = mine }

  -- by records, or with nothing
  sealed-plain : k.head ≡ false → HasSafeMirror o (core_state table fresh (after_seal k) None (slice_set passes i p') history) log
  sealed-plain head =
      let now = stage-at Seals false None i p o k (Some i) passes s.stage refl there seals head none mirrors.stage in
      let w = now.1 in
      let pr : FlushProgress = w.3 in
      let m = s.memory in
      let plain : is_recycle k.way ≡ false = now.0.recycled seals head in
      let header : (after_seal k).header ≡ k.header = plain-header k.way k.header plain in
      let sure : m.index.sure ≡ true = mirrors.sure ∙ now.0.surely plain in
      let behind : (b : ℕ) → pr.snapshot.blocks b ≡ true → (s.marked (o.layout.map_at (o.layout.chunk_of b)) ≡ true) ⊎ (pr.paged (o.layout.chunk_of b) ≡ true) =
      λ b snap.
      let on : bit_of k.snapshot b ≡ true = sym (w.4.snapshot.blocks b) ∙ snap in
      let chunk : b / k.header.chunk ≡ o.layout.chunk_of b = by-header h o k around.header (λ x. b / k.header.chunk ≡ x.layout.chunk_of b) refl in
      let inside = chunk-inside k.header around.attended.keeping.valid k.snapshot around.attended.keeping.snapshot_size b on in
      let within : o.layout.chunk_of b < o.layout.chunks = (let e = same-chunks h o k around.header in omega (arith, e, inside, chunk)) in
      let marked : bit_of k.marked (o.layout.chunk_of b / 32) ≡ true = ap (λ (x : ℕ). bit_of k.marked (x / 32)) (sym chunk) ∙ now.0.behind (inl plain) b on in
      inl (mirrors.marked (o.layout.chunk_of b) within ∙ or_left (bit_of k.marked (o.layout.chunk_of b / 32)) (bit_of k.put (o.layout.chunk_of b / 32)) marked) in
      let after = primitive_keeps o (state s.log s.history m s.marked s.flights (Working (call_id i p) w.0 w.1 w.2 pr))
      (state s.log s.history (sealed_memory m m.index.generation m.index.tracked m.index.sure m.index.tried m.index.cursor (left pr.snapshot.begun)) s.marked (updated s.flights i (Answering (call_id i p) w.0 w.1)) Resting)
      (Seals_records s.log s.history m s.marked s.flights (updated s.flights i (Answering (call_id i p) w.0 w.1)) i (call_id i p) w.0 w.1 w.2 pr (left pr.snapshot.begun) idle (is-updated s.flights i (Answering (call_id i p) w.0 w.1))
      (logged pr w.4.snapshot) sure (λ b snap. w.5 b (sym (w.4.snapshot.blocks b) ∙ snap)) (λ b lost. absurd (let none_lost = w.4.snapshot.lost (o.layout.chunk_of b) in cc)) behind (λ c lost. absurd (let none_lost = w.4.snapshot.lost c in cc))) (keeps-at o s (Working (call_id i p) w.0 w.1 w.2 pr) w.6 was) in
      over m.index.generation m.index.tracked m.index.sure m.index.tried m.index.cursor w.0 w.1 pr.snapshot.begun after (mirrors.generation ∙ ap (λ (x : Header). x.generation) (sym header)) (mirrors.tracked ∙ ap (λ (x : Header). x.tracked) (sym header))
      (mirrors.sure ∙ sym (kept-sure k.sure (is_recycle k.way) plain)) mirrors.tried (mirrors.cursor ∙ sym (kept-next k.next (is_recycle k.way) plain))
    where
      kept-sure : (x y : Bool) → y ≡ false → (x || y) ≡ x
      kept-sure true y e = refl
      kept-sure false y e = e

      kept-next : (n : ℕ) (x : Bool) → x ≡ false → cond {A = ℕ} x 0 n ≡ n
      kept-next n x e = ap (λ (b : Bool). cond {A = ℕ} b 0 n) e

  -- of a recycle
  sealed-recycle : k.head ≡ true → HasSafeMirror o (core_state table fresh (after_seal k) None (slice_set passes i p') history) log
  sealed-recycle head =
      let now = stage-at Seals true None i p o k (Some i) passes s.stage refl there seals head none mirrors.stage in
      let w = now.1 in
      let pr : FlushProgress = w.5 in
      let m = s.memory in
      let next : Header = next_header k.way k.header in
      let recycle : is_recycle k.way ≡ true = elim (cases_Bool (is_recycle k.way)) [ inl is ↦ is | inr not ↦ absurd (let e = now.0.headless not in cc) ] in
      let after = primitive_keeps o (state s.log s.history m s.marked s.flights (Is_next (call_id i p) w.0 w.1 w.2 pr w.3 w.6 next w.4))
      (state s.log s.history (sealed_memory m (m.index.generation + 1) next.tracked true (λ b. false) 0 (left pr.snapshot.begun)) s.marked (updated s.flights i (Answering (call_id i p) w.0 w.1)) Resting)
      (Seals_recycle s.log s.history m s.marked s.marked s.flights (updated s.flights i (Answering (call_id i p) w.0 w.1)) i (call_id i p) w.0 w.1 w.2 w.3 w.4 pr w.6 next (left pr.snapshot.begun) (λ b. false) idle
      (is-updated s.flights i (Answering (call_id i p) w.0 w.1)) (logged pr w.7.snapshot) (λ b. refl)) (keeps-at o s (Is_next (call_id i p) w.0 w.1 w.2 pr w.3 w.6 next w.4) w.8 was) in
      over (m.index.generation + 1) next.tracked true (λ b. false) 0 w.0 w.1 pr.snapshot.begun after (ap (λ (x : ℕ). x + 1) mirrors.generation ∙ sym (next-generation k.way k.header recycle)) refl
      (sym (now-sure k.sure (is_recycle k.way) recycle)) (λ b. refl) (sym (first-next k.next (is_recycle k.way) recycle))
    where
      now-sure : (x y : Bool) → y ≡ true → (x || y) ≡ true
      now-sure true y e = refl
      now-sure false y e = e

      first-next : (n : ℕ) (x : Bool) → x ≡ true → cond {A = ℕ} x 0 n ≡ 0
      first-next n x e = ap (λ (b : Bool). cond {A = ℕ} b 0 n) e

  sealed-any : HasSafeMirror o (core_state table fresh (after_seal k) None (slice_set passes i p') history) log
  sealed-any = elim (cases_Bool k.head) [ inl head ↦ sealed-recycle head | inr plain ↦ sealed-plain plain ]

module _ {h : Header} {o : Opening} {shape : Shape} {table : TableState} {fresh : List Bool} {k k' : KeeperState} {flusher : Option ℕ} {passes : List Pass} {history : HistoryState} {r' : RequestState} {log : List Entry} {last i : ℕ} where
  pub seal-secured : IsFlushing h o shape (core_state table fresh k flusher passes history) last → SealsFlush i (meta_state k (requests shape fresh passes history.log.entries)) (meta_state k' r') → k.stage ≡ Seals
      → HasSafeMirror o (core_state table fresh k flusher passes history) log → HasSafeMirror o (core_state table r'.fresh k' None r'.passes history) log
  seal-secured around step seals was =
      let p : Pass = step.ends.pass in
      let flushes : p.phase ≡ Flushing = elim step.ends.cause [ inl is ↦ is.1 | inr worn ↦ absurd (let e = worn.1 in cc) ] in
      let flush : flusher ≡ Some i = flusher-is around i p step.ends.there flushes in
      let mine : IsFlushing h o shape (core_state table fresh k (Some i) passes history) last = subst (λ (f : Option ℕ). IsFlushing h o shape (core_state table fresh k f passes history) last) flush around in
      let secured : HasSafeMirror o (core_state table fresh k (Some i) passes history) log = subst (λ (f : Option ℕ). HasSafeMirror o (core_state table fresh k f passes history) log) flush was in
      secured-on k' (after_seal k) r' (with_pass i (after_flush p None) (requests shape fresh passes history.log.entries)) log log step.after step.ends.after refl
      (sealed-any h o shape table fresh k passes history log secured.state last i p mine secured.keeps secured.mirrors step.ends.there flushes step.ends.serves step.ends.none seals)
