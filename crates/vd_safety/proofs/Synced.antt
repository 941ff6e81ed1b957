-- A flush of what was put has succeeded.
use Rattle.std.proofs.Common.{◌≡◌, ◌⊎◌, inl, inr, ℕ, ◌-◌, ◌/◌, ◌<◌, Bool, true, false, List, [], ◌∷◌, ◌++◌, take, Some, None, slice_get, slice_set, sym, refl, ap, ◌∙◌, arith, subst}
use Rattle.std.specs.Prelude.{◌||◌}
use Rattle.std.specs.List.{Contains}
use Rattle.std.proofs.lemmas.Bool.{cases_Bool, or_cases, or_left, or_right}
use Rattle.std.proofs.lemmas.List.{take_all}
use Rattle.vd_law.specs.Entries.{Entry, Reply}
use Rattle.vd_law.specs.Histories.{HistoryState}
use Rattle.vd_device.specs.declared.ticket.Ticket.{Ticket}
use Rattle.vd_device.specs.Tickets.{ticket_id}
use Rattle.vd_format.specs.declared.header.Header.{Header}
use Rattle.vd_format.specs.Layouts.{chunks_of, map_start}
use Rattle.vd_table.specs.Tables.{TableState}
use Rattle.vd_image.specs.Log.{Fine}
use Rattle.vd_crash.specs.facts.Safe.{Opening}
use Rattle.vd_crash.specs.flushes.Stage.{FlushProgress}
use Rattle.vd_crash.specs.primitives.Core as core
use Rattle.vd_crash.specs.primitives.Core.{Working, Syncing, Syncs_next, Is_next}
use Rattle.vd_crash.specs.primitives.Primitives.{State, state}
use Rattle.vd_crash.proofs.primitives.Parts.{Synced, Header_synced}
use Rattle.vd_crash.specs.primitives.Keeping.{KeepsCrashSafety}
use Rattle.vd_crash.proofs.primitives.Keeping.{primitive_keeps}
use Rattle.vd_keeper.specs.declared.stage.Stage.TheVariants.{DataFlush, Puts, Syncs, Seals}
use Rattle.vd_keeper.specs.declared.stage.Way as way
use Rattle.vd_keeper.specs.declared.stage.Way.TheVariants as ways
use Rattle.vd_keeper.specs.Keeping.{KeeperState, no_marks, pages_of}
use Rattle.vd_keeper.specs.Entries.{chunks_with}
use Rattle.vd_keeper.specs.Flushes.{IsKeeping, is_recycle}
use Rattle.vd_keeper.specs.Moves.{after_sync, next_header}
use Rattle.vd_keeper.proofs.Rows.{get_or-nothing}
use Rattle.vd_passes.specs.declared.pass.Pass.{Pass}
use Rattle.vd_passes.specs.declared.pass.Phase.TheVariants.{Flushing}
use Rattle.vd_passes.specs.Passes.{call_id}
use Rattle.vd_safety.specs.Mirrors.{core_state, bit_of, IsOfHeader, IsBegunOf, IsProgressOf, Nowhere, IsStageBy, IsStageOf, Mirrors, HasSafeMirror}
use Rattle.vd_safety.proofs.Marked.{chunk-among}
use Rattle.vd_safety.proofs.Begins.{page-of}
use Rattle.vd_safety.proofs.Putting.{same-chunks, puts-data, puts-syncs}
use Rattle.vd_safety.proofs.Stepping.{keeps-at, stage-at, stage-by}
use Rattle.vd_safety.proofs.Settling.{neither-stage, sync-recycled, sync-either, sync-seals, seals-data, seals-syncs, begun-after, ended}

-- A core where a flush of what was put has succeeded.
module _ (h : Header) (o : Opening) (table : TableState) (fresh : List Bool) (k : KeeperState) (passes : List Pass) (history : HistoryState) (log : List Entry) (s : State) (i : ℕ) (p : Pass) (t : Ticket)
    (of : IsOfHeader h o k) (kept : IsKeeping k) (was : KeepsCrashSafety o s) (mirrors : Mirrors o (core_state table fresh k (Some i) passes history) log s)
    (there : slice_get passes i ≡ Some p) (flushes : p.phase ≡ Flushing) (has : p.ticket ≡ Some t) (syncs : k.stage ≡ Syncs) where
  abbrev p' : Pass
  p' = record p { ticket = None }

  abbrev k' : KeeperState
  k' = record k { stage = after_sync k.head k.way; put = no_marks (pages_of k.header) }

  unput : (page : ℕ) → bit_of k'.put page ≡ false
  unput page = get_or-nothing (pages_of k.header) page

  begun : IsBegunOf k → IsBegunOf k'
  begun b =
      begun-after k (after_sync k.head k.way) (no_marks (pages_of k.header)) b (λ e. neither-stage (after_sync k.head k.way) Seals Puts DataFlush (sync-either k.head k.way) seals-data puts-data e) (λ e. unput)
      (λ e. absurd (neither-stage (after_sync k.head k.way) Seals Puts Syncs (sync-either k.head k.way) seals-syncs puts-syncs e)) (λ e head. sync-recycled k.head k.way head e)

  abbrev entry : Entry
  entry = Reply (ticket_id t) Fine

  or-none : (x y : Bool) → y ≡ false → x ≡ (x || y)
  or-none true y e = refl
  or-none false y e = sym e

  -- ---- of records or of sectors of the map

  module _ (plain : k.head ≡ false) where
    now : IsBegunOf k × IsStageBy Syncs false (Some t) o k (call_id i p) s.stage
    now = stage-at Syncs false (Some t) i p o k (Some i) passes s.stage refl there syncs plain has mirrors.stage

    abbrev pr : FlushProgress
    pr = now.1.4

    progress : IsProgressOf k pr Nowhere Nowhere
    progress = now.1.5

    abbrev slotted : ℕ → Bool
    slotted b = pr.slotted b || pr.recorded b

    abbrev paged : ℕ → Bool
    paged c = pr.paged c || pr.written c

    abbrev marked : ℕ → Bool
    marked a = bit_of k.marked (a - map_start k.header)

    slots : (b : ℕ) → slotted b ≡ true → (pr.slotted b ≡ true) ⊎ (pr.recorded b ≡ true)
    slots b is = or_cases (pr.slotted b) (pr.recorded b) is

    pages : (c : ℕ) → paged c ≡ true → (pr.paged c ≡ true) ⊎ (pr.written c ≡ true)
    pages c is = or_cases (pr.paged c) (pr.written c) is

    -- a sector of the map that was put and isn't marked again is caught up
    put-paged : (c : ℕ) → c < chunks_of k.header → bit_of k.marked (c / 32) ≡ false → bit_of k.put (c / 32) ≡ true → paged c ≡ true
    put-paged c within off on =
        let recycle : is_recycle k.way ≡ true = elim (cases_Bool (is_recycle k.way)) [ inl is ↦ is | inr not ↦ absurd (let e = now.0.unput (inr (inl not)) (c / 32) in cc) ] in
        elim (progress.paged recycle c within) [
          | inl is ↦ or_left (pr.paged c) (pr.written c) is
          | inr (inl is) ↦ or_right (pr.paged c) (pr.written c) is.0
          | inr (inr (inl nowhere)) ↦ absurd nowhere
          | inr (inr (inr is)) ↦ absurd cc
        ]

    cleared : (c : ℕ) → c < o.layout.chunks → marked (o.layout.map_at c) ≡ false → (s.marked (o.layout.map_at c) ≡ false) ⊎ (paged c ≡ true)
    cleared c within off =
        let here : bit_of k.marked (c / 32) ≡ false = ap (bit_of k.marked) (sym (page-of h o k of c)) ∙ off in
        elim (cases_Bool (bit_of k.put (c / 32))) [
          | inl on ↦ inr (put-paged c (let e = same-chunks h o k of in omega (arith, e, within)) here on)
          | inr none ↦ inl (mirrors.marked c within ∙ sym (or-none (bit_of k.marked (c / 32)) (bit_of k.put (c / 32)) none) ∙ here)
        ]

    abbrev after : FlushProgress
    after = record { snapshot = pr.snapshot; first = pr.first; by = pr.by; recorded = pr.recorded; written = pr.written; slotted = slotted; paged = paged }

    so_far : IsProgressOf k' after Nowhere Nowhere
    so_far = record {
      snapshot = progress.snapshot;
      recorded = progress.recorded;
      paged = λ recycle c within. elim (progress.paged recycle c within) [
        | inl is ↦ inl (or_left (pr.paged c) (pr.written c) is)
        | inr (inl is) ↦ inl (or_right (pr.paged c) (pr.written c) is.0)
        | inr (inr (inl nowhere)) ↦ absurd nowhere
        | inr (inr (inr is)) ↦ inr (inr (inr is))
      ];
      written_unmarked = progress.written_unmarked;
      in_page = λ c within nowhere. absurd nowhere;
      caught_up = λ stage recycle empty. inl unput;
    }

    -- where all is in records, each block of the snapshot is
    all-slotted : k.way ≡ ways.Records → (b : ℕ) → bit_of k.snapshot b ≡ true → slotted b ≡ true
    all-slotted records b snap =
        let all : take k.logged (chunks_with k.header k.snapshot) ≡ chunks_with k.header k.snapshot = take_all k.logged (chunks_with k.header k.snapshot) (now.0.all_logged syncs records) in
        let found : Contains (take k.logged (chunks_with k.header k.snapshot)) (b / k.header.chunk) = subst (λ (xs : List ℕ). Contains xs (b / k.header.chunk)) (sym all) (chunk-among k.header kept.valid k.snapshot kept.snapshot_size b snap) in
        let recorded : pr.recorded b ≡ true = elim (progress.recorded records b snap found) [ inl is ↦ is | inr nowhere ↦ absurd nowhere ] in
        or_right (pr.slotted b) (pr.recorded b) recorded

    abbrev stage : core.Stage
    stage = Working (call_id i p) now.1.0 now.1.1 now.1.2 after

    stage-after : (w : way.Way) → k.way ≡ w → IsStageOf (Some i) o k' (slice_set passes i p') stage
    stage-after ways.Nothing e = stage-by Seals false None i p p' o k' passes stage there (ap (after_sync k.head) e) plain refl (begun now.0) (now.1.0, now.1.1, now.1.2, after, so_far, (λ b snap. absurd (let f = now.0.nothing e b in cc)), refl)
    stage-after ways.Records e = stage-by Seals false None i p p' o k' passes stage there (ap (after_sync k.head) e) plain refl (begun now.0) (now.1.0, now.1.1, now.1.2, after, so_far, all-slotted e, refl)
    stage-after (ways.Recycle u) e =
        stage-by Puts false None i p p' o k' passes stage there (ap (after_sync k.head) e ∙ ap (λ (b : Bool). after_sync b (ways.Recycle u)) plain) plain refl (begun now.0) (now.1.0, now.1.1, now.1.2, after, so_far, refl)

    put-synced : HasSafeMirror o (core_state table fresh k' (Some i) (slice_set passes i p') history) (log ++ entry ∷ [])
    put-synced =
        let syncing : core.Stage = Syncing (call_id i p) now.1.0 now.1.1 now.1.2 pr now.1.3 (ticket_id t) in
        let done = primitive_keeps o (state s.log s.history s.memory s.marked s.flights syncing) (state (s.log ++ entry ∷ []) s.history s.memory marked s.flights stage)
        (Synced s.log s.history s.memory s.marked s.flights (call_id i p) (ticket_id t) now.1.0 now.1.1 now.1.2 now.1.3 pr slotted paged marked slots pages cleared) (keeps-at o s syncing now.1.6 was) in
        ended o table fresh k passes history log s i p mirrors there flushes k' entry marked stage done (record { header = refl; stale = refl; owed = refl }) refl refl refl
        (λ c within. ap (bit_of k.marked) (page-of h o k of c) ∙ or-none (bit_of k.marked (c / 32)) (bit_of k'.put (c / 32)) (unput (c / 32))) (stage-after k.way refl)

  -- ---- of the header

  head-synced : k.head ≡ true → HasSafeMirror o (core_state table fresh k' (Some i) (slice_set passes i p') history) (log ++ entry ∷ [])
  head-synced head =
      let now = stage-at Syncs true (Some t) i p o k (Some i) passes s.stage refl there syncs head has mirrors.stage in
      let w = now.1 in
      let next : Header = next_header k.way k.header in
      let seals : after_sync k.head k.way ≡ Seals = ap (λ (b : Bool). after_sync b k.way) head ∙ sync-seals k.way in
      let stage : core.Stage = Is_next (call_id i p) w.0 w.1 w.2 w.5 w.3 w.6 next w.4 in
      let syncing : core.Stage = Syncs_next (call_id i p) w.0 w.1 w.2 w.5 w.3 w.6 next w.4 (ticket_id t) in
      let done = primitive_keeps o (state s.log s.history s.memory s.marked s.flights syncing) (state (s.log ++ entry ∷ []) s.history s.memory s.marked s.flights stage)
      (Header_synced s.log s.history s.memory s.marked s.flights (call_id i p) (ticket_id t) w.0 w.1 w.2 w.3 w.4 w.5 w.6 next) (keeps-at o s syncing w.8 was) in
      let so_far : IsProgressOf k' w.5 Nowhere Nowhere = record {
        snapshot = w.7.snapshot;
        recorded = w.7.recorded;
        paged = λ recycle c within. elim (w.7.paged recycle c within) [
          | inl is ↦ inl is
          | inr (inl is) ↦ absurd (let e = now.0.unput (inr (inr head)) (c / 32) in let f = is.1 in cc)
          | inr (inr (inl nowhere)) ↦ absurd nowhere
          | inr (inr (inr is)) ↦ inr (inr (inr is))
        ];
        written_unmarked = w.7.written_unmarked;
        in_page = λ c within nowhere. absurd nowhere;
        caught_up = λ e recycle empty. inl unput;
      } in
      ended o table fresh k passes history log s i p mirrors there flushes k' entry s.marked stage done (record { header = refl; stale = refl; owed = refl }) refl refl refl
      (λ c within. mirrors.marked c within ∙ ap (λ (x : Bool). bit_of k.marked (c / 32) || x) (now.0.unput (inr (inr head)) (c / 32) ∙ sym (unput (c / 32))))
      (stage-by Seals true None i p p' o k' passes stage there seals head refl (begun now.0) (w.0, w.1, w.2, w.3, w.4, w.5, w.6, so_far, refl))

  pub any-synced : HasSafeMirror o (core_state table fresh k' (Some i) (slice_set passes i (record p { ticket = None })) history) (log ++ Reply (ticket_id t) Fine ∷ [])
  any-synced = elim (cases_Bool k.head) [ inl head ↦ head-synced head | inr plain ↦ put-synced plain ]
