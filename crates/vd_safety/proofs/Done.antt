-- A put has succeeded.
use Rattle.std.proofs.Common.{◌≡◌, inl, inr, ℕ, ◌+◌, ◌/◌, ◌==◌, Bool, true, false, not, List, [], ◌∷◌, ◌++◌, length, take, get_or, Some, None, slice_get, slice_set, sym, refl, ap, ◌∙◌, arith, subst}
use Rattle.std.specs.Prelude.{◌||◌, ◌&&◌, nat_lt}
use Rattle.std.specs.List.{Contains, list_any}
use Rattle.std.proofs.lemmas.Bool.{cases_Bool, and_parts, and_from, or_cases, or_left, or_right, ltb-true, lt-ltb, eqb-true, eq-eqb}
use Rattle.std.proofs.lemmas.List.Folds.{list_any_at, Any-from_list_any}
use Rattle.vd_law.specs.declared.entry.Sector.{Sector}
use Rattle.vd_law.specs.Entries.{Entry}
use Rattle.vd_law.specs.Entries as entries
use Rattle.vd_law.specs.Histories.{HistoryState}
use Rattle.vd_device.specs.declared.ticket.Ticket.{Ticket}
use Rattle.vd_device.specs.Tickets.{ticket_id}
use Rattle.vd_format.specs.declared.header.Header.{Header}
use Rattle.vd_format.specs.Layouts.{chunks_of}
use Rattle.vd_table.specs.Tables.{TableState}
use Rattle.vd_crash.specs.facts.Safe.{Opening}
use Rattle.vd_crash.specs.flushes.Stage.{FlushProgress, IsLoggedBy}
use Rattle.vd_crash.specs.primitives.Core as core
use Rattle.vd_crash.specs.primitives.Core.{Working, Putting, Puts_next, Has_next}
use Rattle.vd_crash.specs.primitives.Primitives.{State, state}
use Rattle.vd_crash.proofs.primitives.Parts.{Put_done, Header_done}
use Rattle.vd_crash.specs.primitives.Keeping.{KeepsCrashSafety}
use Rattle.vd_crash.proofs.primitives.Keeping.{primitive_keeps}
use Rattle.vd_keeper.specs.declared.stage.Stage.TheVariants.{DataFlush, Puts, Syncs, Seals}
use Rattle.vd_keeper.specs.declared.stage.Way as way
use Rattle.vd_keeper.specs.declared.stage.Way.TheVariants as ways
use Rattle.vd_keeper.specs.Keeping.{KeeperState}
use Rattle.vd_keeper.specs.Entries.{chunks_with}
use Rattle.vd_keeper.specs.Flushes.{is_recycle}
use Rattle.vd_keeper.specs.Moves.{after_put, next_header}
use Rattle.vd_keeper.proofs.Begun.{after-put-in-stage}
use Rattle.vd_passes.specs.declared.pass.Pass.{Pass}
use Rattle.vd_passes.specs.declared.pass.Phase.TheVariants.{Flushing}
use Rattle.vd_passes.specs.Passes.{call_id}
use Rattle.vd_safety.specs.Mirrors.{core_state, bit_of, IsOfHeader, IsBegunOf, IsProgressOf, Nowhere, InRecordOf, InPageOf, IsStageBy, IsStageOf, Mirrors, HasSafeMirror}
use Rattle.vd_safety.proofs.Putting.{same-chunks, puts-data, puts-seals}
use Rattle.vd_safety.proofs.Stepping.{keeps-at, stage-at, stage-by}
use Rattle.vd_safety.proofs.Settling.{neither-stage, put-all, puts-again, head-syncs, syncs-data, syncs-seals, syncs-puts, begun-after, ended}
use Rattle.vd_crash.specs.facts.Metadata.{RecordNames}

-- ---- a chunk among those that are logged, as a test

abbrev among : List ℕ → ℕ → Bool
among xs c = list_any (λ x. x == c) xs

among-there : (xs : List ℕ) (c : ℕ) → Contains xs c → among xs c ≡ true
among-there xs c found = list_any_at (λ x. x == c) xs found.0 c found.1 (eq-eqb _ _ found.2)

there-among : (xs : List ℕ) (c : ℕ) → among xs c ≡ true → Contains xs c
there-among xs c is =
    let a = Any-from_list_any (λ x. x == c) xs is in
    let same : a.1 ≡ c = eqb-true a.1 c a.4 in
    (a.0, a.2, subst (λ (y : ℕ). get_or xs a.0 y ≡ y) same a.3)

abbrev is_records : way.Way → Bool
is_records ways.Nothing = false
is_records ways.Records = true
is_records (ways.Recycle t) = false

records-is : (w : way.Way) → is_records w ≡ true → w ≡ ways.Records
records-is ways.Nothing e = absurd cc
records-is ways.Records e = refl
records-is (ways.Recycle t) e = absurd cc

-- A core where a put of its flush has succeeded.
module _ (h : Header) (o : Opening) (table : TableState) (fresh : List Bool) (k : KeeperState) (passes : List Pass) (history : HistoryState) (log : List Entry) (s : State) (i : ℕ) (p : Pass) (t : Ticket)
    (of : IsOfHeader h o k) (was : KeepsCrashSafety o s) (mirrors : Mirrors o (core_state table fresh k (Some i) passes history) log s)
    (there : slice_get passes i ≡ Some p) (flushes : p.phase ≡ Flushing) (has : p.ticket ≡ Some t) (puts : k.stage ≡ Puts) where
  abbrev p' : Pass
  p' = record p { ticket = None }

  abbrev k' : KeeperState
  k' = record k { stage = after_put k k.way }

  not-data : after_put k k.way ≡ DataFlush → ⊥
  not-data e = neither-stage (after_put k k.way) Puts Syncs DataFlush (after-put-in-stage k k.way) puts-data syncs-data e

  not-seals : after_put k k.way ≡ Seals → ⊥
  not-seals e = neither-stage (after_put k k.way) Puts Syncs Seals (after-put-in-stage k k.way) puts-seals syncs-seals e

  begun : IsBegunOf k → IsBegunOf k'
  begun b = begun-after k (after_put k k.way) k.put b not-data (λ e. b.unput (inr e)) (λ e records. put-all k k.way records e) (λ e. absurd (not-seals e))

  abbrev entry : Entry
  entry = entries.Done (ticket_id t)

  -- ---- a record or a sector of the map

  module _ (plain : k.head ≡ false) where
    now : IsBegunOf k × IsStageBy Puts false (Some t) o k (call_id i p) s.stage
    now = stage-at Puts false (Some t) i p o k (Some i) passes s.stage refl there puts plain has mirrors.stage

    abbrev pr : FlushProgress
    pr = now.1.3

    abbrev sector : ℕ
    sector = now.1.4

    abbrev v : Sector
    v = now.1.6

    progress : IsProgressOf k pr (InRecordOf o k pr.first sector v) (InPageOf o sector)
    progress = now.1.7

    -- what the put adds
    abbrev recorded : ℕ → Bool
    recorded b = pr.recorded b || (is_records k.way && (bit_of k.snapshot b && among (take k.logged (chunks_with k.header k.snapshot)) (b / k.header.chunk)))

    abbrev written : ℕ → Bool
    written c = pr.written c || (nat_lt c (chunks_of k.header) && (sector == o.layout.map_at c))

    logged : IsLoggedBy o s.memory sector v recorded written pr
    logged = record {
      records = λ b is. elim (or_cases (pr.recorded b) (is_records k.way && (bit_of k.snapshot b && among (take k.logged (chunks_with k.header k.snapshot)) (b / k.header.chunk))) is) [
        | inl old ↦ inl old
        | inr more ↦
            let two = and_parts (is_records k.way) (bit_of k.snapshot b && among (take k.logged (chunks_with k.header k.snapshot)) (b / k.header.chunk)) more in
            let rest = and_parts (bit_of k.snapshot b) (among (take k.logged (chunks_with k.header k.snapshot)) (b / k.header.chunk)) two.1 in
            elim (progress.recorded (records-is k.way two.0) b rest.0 (there-among (take k.logged (chunks_with k.header k.snapshot)) (b / k.header.chunk) rest.1)) [
              | inl old ↦ inl old
              | inr new ↦ inr (new.0, new.1, new.2, omega (arith, new.3, mirrors.cursor), new.4, subst (λ (g : ℕ). RecordNames o g (o.layout.chunk_of b) v) (sym mirrors.generation) new.5)
            ]
      ];
      pages = λ c is. elim (or_cases (pr.written c) (nat_lt c (chunks_of k.header) && (sector == o.layout.map_at c)) is) [
        | inl old ↦ inl old
        | inr more ↦
            let two = and_parts (nat_lt c (chunks_of k.header)) (sector == o.layout.map_at c) more in
            inr (eqb-true sector (o.layout.map_at c) two.1, (let less = ltb-true c (chunks_of k.header) two.0 in let e = same-chunks h o k of in omega (arith, e, less)))
      ];
    }

    abbrev after : FlushProgress
    after = record { snapshot = pr.snapshot; first = pr.first; by = length s.log + 1; recorded = recorded; written = written; slotted = pr.slotted; paged = pr.paged }

    so_far : IsProgressOf k' after Nowhere Nowhere
    so_far = record {
      snapshot = progress.snapshot;
      recorded = λ records b snap found. inl (or_right (pr.recorded b) (is_records k.way && (bit_of k.snapshot b && among (take k.logged (chunks_with k.header k.snapshot)) (b / k.header.chunk)))
          (and_from (is_records k.way) (bit_of k.snapshot b && among (take k.logged (chunks_with k.header k.snapshot)) (b / k.header.chunk)) (ap is_records records)
          (and_from (bit_of k.snapshot b) (among (take k.logged (chunks_with k.header k.snapshot)) (b / k.header.chunk)) snap (among-there (take k.logged (chunks_with k.header k.snapshot)) (b / k.header.chunk) found))));
      paged = λ recycle c within. elim (progress.paged recycle c within) [
        | inl is ↦ inl is
        | inr (inl is) ↦ inr (inl (or_left (pr.written c) (nat_lt c (chunks_of k.header) && (sector == o.layout.map_at c)) is.0, is.1))
        | inr (inr (inl at)) ↦
            inr (inl (
              or_right (pr.written c) (nat_lt c (chunks_of k.header) && (sector == o.layout.map_at c)) (and_from (nat_lt c (chunks_of k.header)) (sector == o.layout.map_at c) (lt-ltb c (chunks_of k.header) within) (eq-eqb sector (o.layout.map_at c) at)),
              (progress.in_page c within at).0,
            ))
        | inr (inr (inr is)) ↦ inr (inr (inr is))
      ];
      written_unmarked = λ c is. elim (or_cases (pr.written c) (nat_lt c (chunks_of k.header) && (sector == o.layout.map_at c)) is) [
        | inl old ↦ progress.written_unmarked c old
        | inr more ↦
            let two = and_parts (nat_lt c (chunks_of k.header)) (sector == o.layout.map_at c) more in
            (progress.in_page c (ltb-true c (chunks_of k.header) two.0) (eqb-true sector (o.layout.map_at c) two.1)).1
      ];
      in_page = λ c within nowhere. absurd nowhere;
      caught_up = λ stage recycle empty. absurd (puts-again k k.way recycle stage empty);
    }

    abbrev stage : core.Stage
    stage = Working (call_id i p) now.1.0 now.1.1 now.1.2 after

    stage-after : IsStageOf (Some i) o k' (slice_set passes i p') stage
    stage-after = elim (after-put-in-stage k k.way) [
      | inl e ↦ stage-by Puts false None i p p' o k' passes stage there e plain refl (begun now.0) (now.1.0, now.1.1, now.1.2, after, so_far, refl)
      | inr e ↦ stage-by Syncs false None i p p' o k' passes stage there e plain refl (begun now.0) (now.1.0, now.1.1, now.1.2, after, so_far, refl)
    ]

    put-done : HasSafeMirror o (core_state table fresh k' (Some i) (slice_set passes i p') history) (log ++ entry ∷ [])
    put-done =
        let putting : core.Stage = Putting (call_id i p) now.1.0 now.1.1 now.1.2 pr sector now.1.5 v (ticket_id t) in
        let done = primitive_keeps o (state s.log s.history s.memory s.marked s.flights putting) (state (s.log ++ entry ∷ []) s.history s.memory s.marked s.flights stage)
        (Put_done s.log s.history s.memory s.marked s.flights (call_id i p) (ticket_id t) now.1.0 now.1.1 now.1.2 now.1.5 sector v pr recorded written logged) (keeps-at o s putting now.1.8 was) in
        ended o table fresh k passes history log s i p mirrors there flushes k' entry s.marked stage done (record { header = refl; stale = refl; owed = refl }) refl refl refl mirrors.marked stage-after

  -- ---- the header

  head-done : k.head ≡ true → HasSafeMirror o (core_state table fresh k' (Some i) (slice_set passes i p') history) (log ++ entry ∷ [])
  head-done head =
      let now = stage-at Puts true (Some t) i p o k (Some i) passes s.stage refl there puts head has mirrors.stage in
      let w = now.1 in
      let next : Header = next_header k.way k.header in
      let recycle : is_recycle k.way ≡ true = elim (cases_Bool (is_recycle k.way)) [ inl is ↦ is | inr not ↦ absurd (let e = now.0.headless not in cc) ] in
      let syncs : after_put k k.way ≡ Syncs = head-syncs k k.way head recycle in
      let stage : core.Stage = Has_next (call_id i p) w.0 w.1 w.2 w.3 (length s.log + 1) w.5 next in
      let putting : core.Stage = Puts_next (call_id i p) w.0 w.1 w.2 w.3 w.4 w.5 next (ticket_id t) in
      let done = primitive_keeps o (state s.log s.history s.memory s.marked s.flights putting) (state (s.log ++ entry ∷ []) s.history s.memory s.marked s.flights stage)
      (Header_done s.log s.history s.memory s.marked s.flights (call_id i p) (ticket_id t) w.0 w.1 w.2 w.4 w.3 w.5 next) (keeps-at o s putting w.7 was) in
      let so_far : IsProgressOf k' w.3 Nowhere Nowhere = record {
        snapshot = w.6.snapshot;
        recorded = w.6.recorded;
        paged = w.6.paged;
        written_unmarked = w.6.written_unmarked;
        in_page = w.6.in_page;
        caught_up = λ e recycle empty. absurd (syncs-puts (sym syncs ∙ e));
      } in
      ended o table fresh k passes history log s i p mirrors there flushes k' entry s.marked stage done (record { header = refl; stale = refl; owed = refl }) refl refl refl mirrors.marked
      (stage-by Syncs true None i p p' o k' passes stage there syncs head refl (begun now.0) (w.0, w.1, w.2, length s.log + 1, w.3, w.5, so_far, refl))

  pub any-done : HasSafeMirror o (core_state table fresh k' (Some i) (slice_set passes i (record p { ticket = None })) history) (log ++ entries.Done (ticket_id t) ∷ [])
  any-done = elim (cases_Bool k.head) [ inl head ↦ head-done head | inr plain ↦ put-done plain ]
