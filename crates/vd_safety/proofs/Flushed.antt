-- The data flush has succeeded.
use Rattle.vd_crash.specs.flushes.Flushing.{Snapshot}
use Rattle.std.proofs.Common.{◌≡◌, inl, inr, ℕ, ◌/◌, ◌<◌, Bool, true, false, not, List, [], ◌∷◌, ◌++◌, take, Some, None, slice_get, slice_set, sym, refl, ap, ◌∙◌, arith, subst}
use Rattle.std.specs.Prelude.{◌||◌, ◌&&◌, nat_lt}
use Rattle.std.specs.List.{Contains}
use Rattle.std.proofs.lemmas.Bool.{cases_Bool, and_parts, not-true, ltb-true, lt-ltb, and_from}
use Rattle.vd_law.specs.Entries.{Entry, Reply}
use Rattle.vd_law.specs.Histories.{HistoryState}
use Rattle.vd_device.specs.declared.ticket.Ticket.{Ticket}
use Rattle.vd_device.specs.Tickets.{ticket_id}
use Rattle.vd_format.specs.declared.header.Header.{Header}
use Rattle.vd_format.specs.Layouts.{chunks_of}
use Rattle.vd_table.specs.Tables.{TableState}
use Rattle.vd_image.specs.Log.{Fine}
use Rattle.vd_crash.specs.facts.Safe.{Opening}
use Rattle.vd_crash.specs.flushes.Stage.{FlushProgress}
use Rattle.vd_crash.specs.primitives.Core as core
use Rattle.vd_crash.specs.primitives.Core.{Sending, Working}
use Rattle.vd_crash.specs.primitives.Primitives.{State, state, nothing_put, HasCleanPage}
use Rattle.vd_crash.proofs.primitives.Parts.{Data_flushed}
use Rattle.vd_crash.specs.primitives.Keeping.{KeepsCrashSafety}
use Rattle.vd_crash.proofs.primitives.Keeping.{primitive_keeps}
use Rattle.vd_keeper.specs.declared.stage.Stage.TheVariants.{DataFlush, Puts, Seals}
use Rattle.vd_keeper.specs.declared.stage.Way as way
use Rattle.vd_keeper.specs.declared.stage.Way.TheVariants as ways
use Rattle.vd_keeper.specs.Keeping.{KeeperState}
use Rattle.vd_keeper.specs.Entries.{chunks_with}
use Rattle.vd_keeper.specs.Flushes.{is_recycle}
use Rattle.vd_keeper.specs.Moves.{after_data}
use Rattle.vd_passes.specs.declared.pass.Pass.{Pass}
use Rattle.vd_passes.specs.declared.pass.Phase.TheVariants.{Flushing}
use Rattle.vd_passes.specs.Passes.{call_id}
use Rattle.vd_safety.specs.Mirrors.{core_state, bit_of, IsOfHeader, IsBegunOf, IsProgressOf, Nowhere, IsStageBy, IsStageOf, Mirrors, HasSafeMirror}
use Rattle.vd_safety.proofs.Records.{by-header}
use Rattle.vd_safety.proofs.Putting.{same-chunks}
use Rattle.vd_safety.proofs.Stepping.{keeps-at, stage-at, stage-by}
use Rattle.vd_safety.proofs.Settling.{data-not-data, data-not-syncs, data-seals, begun-after, p', ended}

module _ (h : Header) (o : Opening) (table : TableState) (fresh : List Bool) (k : KeeperState) (passes : List Pass) (history : HistoryState) (log : List Entry) (s : State) (i : ℕ) (p : Pass) (t : Ticket)
    (of : IsOfHeader h o k) (was : KeepsCrashSafety o s) (mirrors : Mirrors o (core_state table fresh k (Some i) passes history) log s)
    (there : slice_get passes i ≡ Some p) (flushes : p.phase ≡ Flushing) (has : p.ticket ≡ Some t) (sends : k.stage ≡ DataFlush) where
  now : IsBegunOf k × IsStageBy DataFlush k.head (Some t) o k (call_id i p) s.stage
  now = stage-at DataFlush k.head (Some t) i p o k (Some i) passes s.stage refl there sends refl has mirrors.stage

  abbrev snapshot : Snapshot
  snapshot = now.1.3

  unput : (page : ℕ) → bit_of k.put page ≡ false
  unput = now.0.unput (inl sends)

  -- the chunks whose sector of the map isn't marked
  abbrev paged : ℕ → Bool
  paged c = nat_lt c (chunks_of k.header) && not (bit_of k.marked (c / 32))

  or-neither : (x y : Bool) → x ≡ false → y ≡ false → (x || y) ≡ false
  or-neither true y e f = absurd cc
  or-neither false y e f = f

  clean : (c : ℕ) → paged c ≡ true → HasCleanPage o s.history s.memory.discards.drops s.marked snapshot c
  clean c is =
      let two = and_parts (nat_lt c (chunks_of k.header)) (not (bit_of k.marked (c / 32))) is in
      let less : c < chunks_of k.header = ltb-true c (chunks_of k.header) two.0 in
      let within : c < o.layout.chunks = (let e = same-chunks h o k of in omega (arith, e, less)) in
      let off : bit_of k.marked (c / 32) ≡ false = not-true (bit_of k.marked (c / 32)) two.1 in
      record {
        within = within;
        unmarked = mirrors.marked c within ∙ or-neither (bit_of k.marked (c / 32)) (bit_of k.put (c / 32)) off (unput (c / 32));
        none = λ b snap at.
            let chunk : b / k.header.chunk ≡ c = by-header h o k of (λ x. x.layout.chunk_of b ≡ c → b / k.header.chunk ≡ c) (λ e. e) at in
            let on : bit_of k.marked (b / k.header.chunk / 32) ≡ true = now.0.behind (inr sends) b (sym (now.1.4.blocks b) ∙ snap) in
            let e : bit_of k.marked (c / 32) ≡ true = ap (λ (x : ℕ). bit_of k.marked (x / 32)) (sym chunk) ∙ on in
            absurd cc;
        not_lost = now.1.4.lost c;
        no_drop = λ j n after drop. let none = mirrors.undiscarded.drops j in let is = drop.is in cc;
      }

  abbrev pr : FlushProgress
  pr = nothing_put snapshot s.memory.index.cursor paged

  abbrev k' : KeeperState
  k' = record k { stage = after_data k.way }

  so_far : IsProgressOf k' pr Nowhere Nowhere
  so_far = record {
    snapshot = now.1.4;
    recorded = λ records b snap found. absurd (none-taken k.logged (now.0.unlogged sends) (chunks_with k.header k.snapshot) (b / k.header.chunk) found);
    paged = λ recycle c within. elim (cases_Bool (bit_of k.marked (c / 32))) [
      | inl on ↦ inr (inr (inr on))
      | inr off ↦ inl (and_from (nat_lt c (chunks_of k.header)) (not (bit_of k.marked (c / 32))) (lt-ltb c (chunks_of k.header) within) (ap not off))
    ];
    written_unmarked = λ c written. absurd cc;
    in_page = λ c within nowhere. absurd nowhere;
    caught_up = λ stage recycle empty. inl unput;
  }
    where
      none-taken : (n : ℕ) → n ≡ 0 → (xs : List ℕ) (c : ℕ) → Contains (take n xs) c → ⊥
      none-taken n e xs c found = (let f = subst (λ (x : ℕ). Contains (take x xs) c) e found in absurd (omega (arith, f.1)))

  begun : IsBegunOf k'
  begun = begun-after k (after_data k.way) k.put now.0 (data-not-data k.way) (λ e page. unput page) (λ e. absurd (data-not-syncs k.way e)) (λ e head. data-seals k.way e)

  abbrev stage : core.Stage
  stage = Working (call_id i p) now.1.0 now.1.1 now.1.2 pr

  -- the stage after it, by the way
  stage-after : (w : way.Way) → k.way ≡ w → IsStageOf (Some i) o k' (slice_set passes i (p' o table fresh k passes history log s i p mirrors there flushes)) stage
  stage-after ways.Nothing e =
      stage-by Seals false None i p (p' o table fresh k passes history log s i p mirrors there flushes) o k' passes stage there (ap after_data e) (now.0.headless (ap is_recycle e)) refl begun
      (now.1.0, now.1.1, now.1.2, pr, so_far, (λ b snap. absurd (let f = now.0.nothing e b in cc)), refl)
  stage-after ways.Records e =
      stage-by Puts k.head None i p (p' o table fresh k passes history log s i p mirrors there flushes) o k' passes stage there (ap after_data e) refl refl begun (now.1.0, now.1.1, now.1.2, pr, so_far, refl)
  stage-after (ways.Recycle u) e =
      stage-by Puts k.head None i p (p' o table fresh k passes history log s i p mirrors there flushes) o k' passes stage there (ap after_data e) refl refl begun (now.1.0, now.1.1, now.1.2, pr, so_far, refl)

  pub data-flushed : HasSafeMirror o (core_state table fresh k' (Some i) (slice_set passes i (record p { ticket = None })) history) (log ++ Reply (ticket_id t) Fine ∷ [])
  data-flushed =
      let sending : core.Stage = Sending (call_id i p) now.1.0 now.1.1 now.1.2 snapshot (ticket_id t) in
      let after = primitive_keeps o (state s.log s.history s.memory s.marked s.flights sending) (state (s.log ++ Reply (ticket_id t) Fine ∷ []) s.history s.memory s.marked s.flights stage)
      (Data_flushed s.log s.history s.memory s.marked s.flights (call_id i p) (ticket_id t) now.1.0 now.1.1 now.1.2 snapshot paged clean) (keeps-at o s sending now.1.5 was) in
      ended o table fresh k passes history log s i p mirrors there flushes k' (Reply (ticket_id t) Fine) s.marked stage after (record { header = refl; stale = refl; owed = refl }) refl refl refl mirrors.marked (stage-after k.way refl)
