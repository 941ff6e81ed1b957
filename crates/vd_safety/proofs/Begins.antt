-- A flush begins, or is not begun at the last generation.
use Rattle.vd_crash.specs.flushes.Flushing.{snapshot_of}
use Rattle.std.proofs.Common.{◌≡◌, inl, inr, ℕ, zero, suc, ◌+◌, ◌-◌, ◌/◌, Bool, true, false, not, cond, List, [], ◌∷◌, ◌++◌, length, Option, Some, None, slice_get, slice_set, sym, refl, ap, ◌∙◌, arith, subst}
use Rattle.std.specs.Prelude.{◌||◌, nat_lt}
use Rattle.std.specs.List.{list_any}
use Rattle.std.proofs.lemmas.Bool.{or_parts, not-false, or_left}
use Rattle.vd_law.specs.Entries.{Entry, Ask, Flush}
use Rattle.vd_law.specs.Histories.{HistoryState}
use Rattle.vd_device.specs.declared.store.Store as store
use Rattle.vd_device.specs.declared.ticket.Ticket.{Ticket}
use Rattle.vd_device.specs.declared.ticket.Kind.{Kind}
use Rattle.vd_device.specs.Tickets.{ticket_id}
use Rattle.vd_format.specs.declared.header.Header.{Header}
use Rattle.vd_format.specs.Layouts.{map_start}
use Rattle.vd_table.specs.Tables.{TableState}
use Rattle.vd_image.specs.Log.{At}
use Rattle.vd_crash.specs.facts.Safe.{Opening, NumberedEntry, numbered}
use Rattle.vd_crash.specs.facts.Facts as crash
use Rattle.vd_crash.specs.flushes.Stage.{Idle as NoFlight}
use Rattle.vd_crash.specs.primitives.Core.{Resting, Sending}
use Rattle.vd_crash.specs.primitives.Primitives.{State, state}
use Rattle.vd_crash.proofs.primitives.Parts.{Begins, Marks}
use Rattle.vd_crash.proofs.primitives.Keeping.{primitive_keeps}
use Rattle.vd_keeper.specs.declared.stage.Stage.TheVariants.{DataFlush, Syncs, Seals}
use Rattle.vd_keeper.specs.declared.stage.Way as way
use Rattle.vd_keeper.specs.declared.stage.Way.TheVariants as ways
use Rattle.vd_keeper.specs.declared.stage.Route as route
use Rattle.vd_keeper.specs.declared.stage.Route.TheVariants as routes
use Rattle.vd_keeper.specs.Keeping.{KeeperState, pages_of, no_marks}
use Rattle.vd_keeper.specs.Entries.{chunks_with}
use Rattle.vd_keeper.specs.Flushes.{IsKeeping, is_recycle, records_for, last_generation}
use Rattle.vd_keeper.specs.Moves.{way_of, none_of, after_begin}
use Rattle.vd_keeper.proofs.Rows.{get_or-nothing}
use Rattle.vd_keeper.proofs.NextChunks.{any-none}
use Rattle.vd_passes.specs.declared.shape.Shape.{Shape}
use Rattle.vd_passes.specs.declared.pass.Pass.{Pass}
use Rattle.vd_passes.specs.declared.pass.Phase.TheVariants.{Asked}
use Rattle.vd_passes.specs.declared.pass.Fault.TheVariants.{Worn}
use Rattle.vd_passes.specs.Passes.{call_id, after_meta, after_flush}
use Rattle.vd_passes.specs.Requests.{RequestState, requests, with_pass}
use Rattle.vd_passes.specs.Steps.{meta_entry}
use Rattle.vd_safety.specs.Mirrors.{core_state, bit_of, IsStageOf, IsBegunOf, IsOfHeader, HasSafeMirror}
use Rattle.vd_safety.proofs.Records.{by-header}
use Rattle.vd_safety.proofs.Marked.{chunk-among, chunk-inside, page-among, still-marked}
use Rattle.vd_safety.proofs.Updates.{updated-same}
use Rattle.vd_safety.proofs.Flying.{is_bare, flights-set, idle-flight}
use Rattle.vd_safety.proofs.Stepping.{IsFlushing, keeps-at, stage-by, moved, flights-after, secured-on}
use Rattle.vd_machine.specs.Flushing.{meta_state, BeginsFlush, IsWornOut}

-- ---- the way of a flush

-- as it is chosen
module _ (big none : Bool) (t : ℕ) where
  abbrev chosen : way.Way
  chosen = cond {A = way.Way} big (ways.Recycle t) (cond {A = way.Way} none ways.Nothing ways.Records)

chosen-sure : (big none : Bool) (t : ℕ) → is_recycle (chosen big none t) ≡ false → big ≡ false
chosen-sure true none t e = absurd cc
chosen-sure false none t e = refl

chosen-none : (big none : Bool) (t : ℕ) → chosen big none t ≡ ways.Nothing → none ≡ true
chosen-none true none t e = absurd cc
chosen-none false true t e = refl
chosen-none false false t e = absurd cc

chosen-tracked : (big none : Bool) (t u : ℕ) → chosen big none t ≡ ways.Recycle u → u ≡ t
chosen-tracked true none t u e = cc
chosen-tracked false true t u e = absurd cc
chosen-tracked false false t u e = absurd cc

-- one that is no recycle has a sure header
way-sure : (route : route.Route) (k : KeeperState) → is_recycle (way_of route k) ≡ false → k.sure ≡ true
unfolding way_of
way-sure (routes.Recycle t) k e = absurd cc
way-sure routes.Owed k e =
    let big = nat_lt (k.header.slots - k.next) (records_for (length (chunks_with k.header k.owed))) in
    not-false k.sure (or_parts (not k.sure) big (chosen-sure (not k.sure || big) (none_of k.owed) k.header.tracked e)).0

way-none : (route : route.Route) (k : KeeperState) → way_of route k ≡ ways.Nothing → none_of k.owed ≡ true
unfolding way_of
way-none (routes.Recycle t) k e = absurd cc
way-none routes.Owed k e = chosen-none (not k.sure || nat_lt (k.header.slots - k.next) (records_for (length (chunks_with k.header k.owed)))) (none_of k.owed) k.header.tracked e

way-same : (route : route.Route) (k : KeeperState) (t : ℕ) → ((u : ℕ) → route ≡ routes.Recycle u → u ≡ k.header.tracked) → way_of route k ≡ ways.Recycle t → t ≡ k.header.tracked
unfolding way_of
way-same (routes.Recycle u) k t same e = same t (ap routes.Recycle cc)
way-same routes.Owed k t same e = chosen-tracked (not k.sure || nat_lt (k.header.slots - k.next) (records_for (length (chunks_with k.header k.owed)))) (none_of k.owed) k.header.tracked t e

none-not : (bits : List Bool) → none_of bits ≡ true → (b : ℕ) → bit_of bits b ≡ false
none-not bits e = any-none bits (flip (list_any (λ b. b) bits) e)
  where
    flip : (x : Bool) → not x ≡ true → x ≡ false
    flip true e = absurd cc
    flip false e = refl

-- what it was begun with
begun-of : (route : route.Route) (k : KeeperState) → IsKeeping k → k.put ≡ no_marks (pages_of k.header) → IsBegunOf (after_begin route k)
begun-of route k kept none = record {
  surely = way-sure route k;
  behind = λ either b is. page-among k.header k.marked (chunks_with k.header k.owed) (b / k.header.chunk) (chunk-among k.header kept.valid k.owed kept.owed_size b is) (chunk-inside k.header kept.valid k.owed kept.owed_size b is);
  nothing = λ e. none-not k.owed (way-none route k e);
  headless = λ e. refl;
  unput = λ e page. ap (λ (xs : List Bool). bit_of xs page) none ∙ get_or-nothing (pages_of k.header) page;
  unlogged = λ e. refl;
  all_logged = λ e. absurd (other-syncs e);
  recycled = λ e. absurd (other-seals e);
}
  where
    other-syncs : DataFlush ≡ Syncs → ⊥
    other-syncs e = absurd cc

    other-seals : DataFlush ≡ Seals → ⊥
    other-seals e = absurd cc

-- ---- the ask of a flush, in the history

pub numbered-there : (es : List Entry) (ns : List ℕ) (a : ℕ) (e : Entry) → length ns ≡ length es → slice_get es a ≡ Some e → (n : ℕ) × (slice_get (numbered es ns) a ≡ Some (record { event = e; number = n }))
numbered-there [] ns a e same at = absurd cc
numbered-there (d ∷ es) [] a e same at = absurd (omega (arith, same))
numbered-there (d ∷ es) (n ∷ ns) zero e same at = (n, (let is : d ≡ e = cc in ap (λ (x : Entry). Some (record { event = x; number = n })) is))
numbered-there (d ∷ es) (n ∷ ns) (suc a) e same at = numbered-there es ns a e (omega (arith, same)) at

-- ---- which sectors of the map are marked

-- a sector of the map by its place
pub page-of : (h : Header) (o : Opening) (k : KeeperState) → IsOfHeader h o k → (c : ℕ) → o.layout.map_at c - map_start k.header ≡ c / 32
page-of h o k of c = by-header h o k of (λ p. p.layout.map_at c - map_start k.header ≡ c / 32) (past (map_start k.header) (c / 32))
  where
    past : (a b : ℕ) → a + b - a ≡ b
    past a b = omega arith

or-is : (x y z : Bool) → z ≡ false → (x ≡ true → y ≡ true) → ((x || z) || y) ≡ (y || z)
or-is true true false e more = refl
or-is true false z e more = absurd (let k = more refl in cc)
or-is false y false e more = or-same y
  where
    or-same : (y : Bool) → y ≡ (y || false)
    or-same true = refl
    or-same false = refl
or-is x y true e more = absurd cc

-- ---- it begins

module _ {h : Header} {o : Opening} {shape : Shape} {table : TableState} {fresh : List Bool} {k k' : KeeperState} {flusher : Option ℕ} {passes : List Pass} {history : HistoryState} {r' : RequestState} {i : ℕ} {S : Type 0} {g : store.Ghosts S} {from to : S} {asked : route.Route} where
  pub begin-secured : IsFlushing h o shape (core_state table fresh k flusher passes history) (g.last from) → BeginsFlush g asked i (meta_state k (requests shape fresh passes history.log.entries)) (meta_state k' r') from to → flusher ≡ None
      → ((t : ℕ) → asked ≡ routes.Recycle t → t ≡ k.header.tracked) → ((p : Pass) → slice_get passes i ≡ Some p → p.phase ≡ Asked → p.flush ≡ true → (a : ℕ) × At history.log.entries a (Ask (call_id i p) Flush)) → g.tells to
      → HasSafeMirror o (core_state table fresh k flusher passes history) (g.disk from).log → HasSafeMirror o (core_state table r'.fresh k' (Some i) r'.passes history) (g.disk to).log
  begin-secured around step idle same ask told was =
      let s : State = was.state in
      let mirrors = was.mirrors in
      let p : Pass = step.sends.pass in
      let t : Ticket = step.sends.ticket in
      let p' : Pass = after_meta p t in
      let there = step.sends.there in
      let kept : IsKeeping k = around.attended.keeping in
      let rests = kept.at_rest (around.attended.resting idle) in
      let new : KeeperState = after_begin asked k in
      let marks : ℕ → Bool = λ a. s.marked a || bit_of new.marked (a - map_start k.header) in
      let found = ask p there step.asked step.sends.serves in
      let entry = numbered-there history.log.entries history.numbers found.0 (Ask (call_id i p) Flush) mirrors.many found.1 in
      let numbered_at : crash.HasEntry s.history found.0 entry.0 (Ask (call_id i p) Flush) = ap (λ (es : List NumberedEntry). slice_get es found.0) mirrors.history_is ∙ entry.1 in
      let resting : s.stage ≡ Resting = subst (λ (f : Option ℕ). IsStageOf f o k passes s.stage) idle mirrors.stage in
      let keeps = keeps-at o s Resting resting was.keeps in
      let marked = primitive_keeps o (state s.log s.history s.memory s.marked s.flights Resting) (state s.log s.history s.memory marks s.flights Resting)
      (Marks s.log s.history s.memory s.marked marks s.flights Resting (λ a is. or_left (s.marked a) (bit_of new.marked (a - map_start k.header)) is)) keeps in
      let after = primitive_keeps o (state s.log s.history s.memory marks s.flights Resting) (state (s.log ++ Ask (ticket_id t) Flush ∷ []) s.history s.memory marks s.flights (Sending (call_id i p) found.0 entry.0 (length s.log) (snapshot_of s.memory s.history) (ticket_id t)))
      (Begins s.log s.history s.memory marks s.flights (call_id i p) (ticket_id t) found.0 entry.0 numbered_at) marked in
      let bare : is_bare p.phase ≡ true = ap is_bare step.asked in
      let mine = moved o table fresh k flusher passes history (g.disk from).log s mirrors i p p' there new (Some i) ((g.disk from).log ++ Ask (ticket_id t) Flush ∷ []) (s.log ++ Ask (ticket_id t) Flush ∷ []) s.memory.index.sure s.memory.index.cursor marks
      (Sending (call_id i p) found.0 entry.0 (length s.log) (snapshot_of s.memory s.history) (ticket_id t)) bare
      (ap (λ (l : List Entry). l ++ Ask (ticket_id t) Flush ∷ []) mirrors.log_is) (record { header = refl; stale = refl; owed = refl }) mirrors.sure mirrors.cursor (λ u is. way-same asked k u same is)
      (λ c inside. let here = page-of h o k around.header c in let empty : bit_of k.put (c / 32) ≡ false = ap (λ (xs : List Bool). bit_of xs (c / 32)) rests.1 ∙ get_or-nothing (pages_of k.header) (c / 32) in
      ap (λ (x : Bool). x || bit_of new.marked (o.layout.map_at c - map_start k.header)) (mirrors.marked c inside) ∙ ap (λ (page : ℕ). (bit_of k.marked (c / 32) || bit_of k.put (c / 32)) || bit_of new.marked page) here
      ∙ or-is (bit_of k.marked (c / 32)) (bit_of new.marked (c / 32)) (bit_of k.put (c / 32)) empty (still-marked k.header k.marked (chunks_with k.header k.owed) (c / 32)))
      (flights-after o table fresh k flusher passes history (g.disk from).log s mirrors i p p' there bare refl)
      (stage-by DataFlush false (Some t) i p p' o new passes (Sending (call_id i p) found.0 entry.0 (length s.log) (snapshot_of s.memory s.history) (ticket_id t)) there refl refl refl (begun-of asked k kept rests.1) (
        found.0,
        entry.0,
        length s.log,
        snapshot_of s.memory s.history,
        record {
          blocks = mirrors.owed;
          wanted = λ b. ap (λ (x : Bool). x || s.memory.owed b) (mirrors.stale b) ∙ ap (λ (x : Bool). bit_of k.stale b || x) (mirrors.owed b);
          zeros = mirrors.undiscarded.zeros;
          lost = mirrors.undiscarded.lost;
        },
        refl,
      )) in
      secured-on k' new r' (with_pass i p' (requests shape fresh passes history.log.entries)) (g.disk to).log ((g.disk from).log ++ Ask (ticket_id t) Flush ∷ []) step.after step.sends.after
      ((step.sends.call.takes.told told).log ∙ ap (λ (kind : Kind). (g.disk from).log ++ meta_entry kind t [] ∷ []) step.kind) (record { state = _; keeps = after; mirrors = mine })

-- or not, at the last generation
module _ {o : Opening} {shape : Shape} {table : TableState} {fresh : List Bool} {k : KeeperState} {flusher : Option ℕ} {passes : List Pass} {history : HistoryState} {r' : RequestState} {log : List Entry} {i : ℕ} {asked : route.Route} where
  pub worn-secured : IsWornOut asked i k (requests shape fresh passes history.log.entries) r' → flusher ≡ None → HasSafeMirror o (core_state table fresh k flusher passes history) log
      → HasSafeMirror o (core_state table r'.fresh k flusher r'.passes history) log
  worn-secured step idle was =
      let s : State = was.state in
      let mirrors = was.mirrors in
      let p : Pass = step.ends.pass in
      let p' : Pass = after_flush p (Some (Worn last_generation)) in
      let there = step.ends.there in
      let asks : p.phase ≡ Asked = elim step.ends.cause [ inl none ↦ absurd (let e = none.0 in cc) | inr worn ↦ worn.2 ] in
      let bare : is_bare p.phase ≡ true = ap is_bare asks in
      let flights = flights-set passes i p p' s.flights s.flights NoFlight there mirrors.flights (updated-same s.flights i NoFlight (idle-flight passes s.flights i p mirrors.flights there bare)) refl in
      let resting : s.stage ≡ Resting = subst (λ (f : Option ℕ). IsStageOf f o k passes s.stage) idle mirrors.stage in
      let stage : IsStageOf flusher o k (slice_set passes i p') s.stage = subst (λ (f : Option ℕ). IsStageOf f o k (slice_set passes i p') s.stage) (sym idle) resting in
      let mine = moved o table fresh k flusher passes history log s mirrors i p p' there k flusher log s.log s.memory.index.sure s.memory.index.cursor s.marked s.stage bare
      mirrors.log_is (record { header = refl; stale = refl; owed = refl }) mirrors.sure mirrors.cursor mirrors.same_tracked mirrors.marked flights stage in
      secured-on k k r' (with_pass i p' (requests shape fresh passes history.log.entries)) log log refl step.ends.after refl (record { state = s; keeps = was.keeps; mirrors = mine })
