-- What is known where a call of a flush is settled.
use Rattle.std.proofs.Common.{◌≡◌, ◌⊎◌, inl, inr, ℕ, ◌/◌, ◌<◌, ◌≤◌, Bool, true, false, not, cond, List, [], ◌∷◌, ◌++◌, length, Some, None, slice_get, slice_set, sym, refl, ap, ◌∙◌, subst}
use Rattle.std.specs.Prelude.{◌||◌, ◌&&◌, nat_lt}
use Rattle.std.proofs.lemmas.Bool.{cases_Bool, ltb-false}
use Rattle.vd_law.specs.Entries.{Entry}
use Rattle.vd_law.specs.Histories.{HistoryState}
use Rattle.vd_device.specs.declared.ticket.Ticket.{Ticket}
use Rattle.vd_device.specs.declared.ticket.Kind.TheVariants.{Write, Flush}
use Rattle.vd_bits.specs.Marks.{NoneFrom}
use Rattle.vd_format.specs.declared.header.Header.{Header}
use Rattle.vd_table.specs.Tables.{TableState}
use Rattle.vd_crash.specs.facts.Safe.{Opening}
use Rattle.vd_crash.specs.primitives.Core as core
use Rattle.vd_crash.specs.primitives.Primitives.{State, state}
use Rattle.vd_crash.specs.primitives.Keeping.{KeepsCrashSafety}
use Rattle.vd_keeper.specs.declared.stage.Stage.{Stage}
use Rattle.vd_keeper.specs.declared.stage.Stage.TheVariants.{Rest, DataFlush, Puts, Syncs, Seals, Broken}
use Rattle.vd_keeper.specs.declared.stage.Way as way
use Rattle.vd_keeper.specs.declared.stage.Way.TheVariants as ways
use Rattle.vd_keeper.specs.Keeping.{KeeperState}
use Rattle.vd_keeper.specs.Entries.{chunks_with}
use Rattle.vd_keeper.specs.Flushes.{is_recycle}
use Rattle.vd_keeper.specs.Moves.{after_data, after_put, after_sync, none_of}
use Rattle.vd_keeper.proofs.NextChunks.{all-none}
use Rattle.vd_passes.specs.declared.shape.Shape.{Shape}
use Rattle.vd_passes.specs.declared.pass.Pass.{Pass}
use Rattle.vd_passes.specs.declared.pass.Phase.TheVariants.{Flushing}
use Rattle.vd_machine.specs.Attending.{IsAtStage}
use Rattle.vd_safety.specs.Mirrors.{CoreState, core_state, bit_of, IsBegunOf, IsStageOf, Mirrors, HasSafeMirror}
use Rattle.vd_safety.proofs.Updates.{some-inj}
use Rattle.vd_safety.proofs.Flying.{is_bare}
use Rattle.vd_safety.proofs.Puts.{none-marked}
use Rattle.vd_safety.proofs.Stepping.{IsFlushing, IsSameDisk, moved, flights-after}

-- ---- what is in flight

-- by the stage of the flush
abbrev pub IsOutAt : Stage → Ticket → Type 0
IsOutAt st t = ((st ≡ DataFlush) × (t.kind ≡ Flush)) ⊎ ((st ≡ Puts) × (t.kind ≡ Write)) ⊎ ((st ≡ Syncs) × (t.kind ≡ Flush))

out-at : (st : Stage) (k : KeeperState) (p : Pass) (t : Ticket) → p.ticket ≡ Some t → IsAtStage st k p → IsOutAt st t
out-at Rest k p t has is = absurd is
out-at DataFlush k p t has is = inl (refl, (let same : is.0.0 ≡ t = some-inj (sym is.0.1 ∙ has) in ap (λ (u : Ticket). u.kind) (sym same) ∙ is.0.2))
out-at Puts k p t has (inl rests) = absurd (let e = rests.0 in cc)
out-at Puts k p t has (inr (out, put)) = inr (inl (refl, (let same : out.0 ≡ t = some-inj (sym out.1 ∙ has) in ap (λ (u : Ticket). u.kind) (sym same) ∙ out.2)))
out-at Syncs k p t has (put, marked, inl rests) = absurd cc
out-at Syncs k p t has (put, marked, inr out) = inr (inr (refl, (let same : out.0 ≡ t = some-inj (sym out.1 ∙ has) in ap (λ (u : Ticket). u.kind) (sym same) ∙ out.2)))
out-at Seals k p t has is = absurd cc
out-at Broken k p t has is = absurd is

pub what-is-out : {h : Header} {o : Opening} {shape : Shape} {c : CoreState} {last : ℕ} (i : ℕ) (p : Pass) (t : Ticket) → IsFlushing h o shape c last → c.flusher ≡ Some i
    → slice_get c.passes i ≡ Some p → p.ticket ≡ Some t → IsOutAt c.keeping.stage t
what-is-out {c = c} i p t around flush there has =
    let k = c.keeping in
    let w = around.attended.working i flush in
    let same : w.0 ≡ p = some-inj (sym w.1 ∙ there) in
    out-at k.stage k p t has (subst (λ (q : Pass). IsAtStage k.stage k q) same w.2)

-- ---- the stages after

pub data-not-data : (w : way.Way) → after_data w ≡ DataFlush → ⊥
data-not-data ways.Nothing e = absurd cc
data-not-data ways.Records e = absurd cc
data-not-data (ways.Recycle t) e = absurd cc

pub data-not-syncs : (w : way.Way) → after_data w ≡ Syncs → ⊥
data-not-syncs ways.Nothing e = absurd cc
data-not-syncs ways.Records e = absurd cc
data-not-syncs (ways.Recycle t) e = absurd cc

pub data-seals : (w : way.Way) → after_data w ≡ Seals → is_recycle w ≡ false
data-seals ways.Nothing e = refl
data-seals ways.Records e = refl
data-seals (ways.Recycle t) e = absurd cc

-- one of two stages is neither of the others
pub neither-stage : (st a b c : Stage) → (st ≡ a) ⊎ (st ≡ b) → (a ≡ c → ⊥) → (b ≡ c → ⊥) → st ≡ c → ⊥
neither-stage st a b c (inl e) not_a not_b is = not_a (sym e ∙ is)
neither-stage st a b c (inr e) not_a not_b is = not_b (sym e ∙ is)

-- all is logged after the last record
pub put-all : (k : KeeperState) (w : way.Way) → w ≡ ways.Records → after_put k w ≡ Syncs → length (chunks_with k.header k.snapshot) ≤ k.logged
put-all k ways.Nothing is e = absurd cc
put-all k ways.Records is e = elim (cases_Bool (nat_lt k.logged (length (chunks_with k.header k.snapshot)))) [
  | inl less ↦ absurd (let f : cond {A = Stage} true Puts Syncs ≡ Syncs = ap (λ (b : Bool). cond {A = Stage} b Puts Syncs) (sym less) ∙ e in cc)
  | inr more ↦ ltb-false k.logged (length (chunks_with k.header k.snapshot)) more
]
put-all k (ways.Recycle t) is e = absurd cc

-- a recycle puts again where a sector of the map is marked
pub puts-again : (k : KeeperState) (w : way.Way) → is_recycle w ≡ true → after_put k w ≡ Puts → NoneFrom k.marked 0 → ⊥
puts-again k ways.Nothing is e empty = absurd cc
puts-again k ways.Records is e empty = absurd cc
puts-again k (ways.Recycle t) is e empty =
    let none : none_of k.marked ≡ true = ap not (all-none k.marked (none-marked k.marked empty)) in
    after k.head (none_of k.marked) none e
  where
    after : (head none : Bool) → none ≡ true → cond {A = Stage} (not head && not none) Puts Syncs ≡ Puts → ⊥
    after true none is e = absurd cc
    after false true is e = absurd cc
    after false false is e = absurd cc

pub head-syncs : (k : KeeperState) (w : way.Way) → k.head ≡ true → is_recycle w ≡ true → after_put k w ≡ Syncs
head-syncs k ways.Nothing head is = absurd cc
head-syncs k ways.Records head is = absurd cc
head-syncs k (ways.Recycle t) head is = ap (λ (b : Bool). cond {A = Stage} (not b && not (none_of k.marked)) Puts Syncs) head

pub sync-recycled : (head : Bool) (w : way.Way) → head ≡ false → after_sync head w ≡ Seals → is_recycle w ≡ false
sync-recycled head ways.Nothing e is = refl
sync-recycled head ways.Records e is = refl
sync-recycled true (ways.Recycle t) e is = absurd cc
sync-recycled false (ways.Recycle t) e is = absurd cc

pub sync-either : (head : Bool) (w : way.Way) → (after_sync head w ≡ Seals) ⊎ (after_sync head w ≡ Puts)
sync-either head ways.Nothing = inl refl
sync-either head ways.Records = inl refl
sync-either true (ways.Recycle t) = inl refl
sync-either false (ways.Recycle t) = inr refl

pub sync-seals : (w : way.Way) → after_sync true w ≡ Seals
sync-seals ways.Nothing = refl
sync-seals ways.Records = refl
sync-seals (ways.Recycle t) = refl

pub seals-data : Seals ≡ DataFlush → ⊥
seals-data e = absurd cc

pub seals-syncs : Seals ≡ Syncs → ⊥
seals-syncs e = absurd cc

pub syncs-data : Syncs ≡ DataFlush → ⊥
syncs-data e = absurd cc

pub syncs-seals : Syncs ≡ Seals → ⊥
syncs-seals e = absurd cc

pub syncs-puts : Syncs ≡ Puts → ⊥
syncs-puts e = absurd cc

-- what a flush was begun with, in its next stage
pub begun-after : (k : KeeperState) (st : Stage) (puts : List Bool) → IsBegunOf k → (st ≡ DataFlush → ⊥) → ((is_recycle k.way ≡ false) ⊎ (k.head ≡ true) → (page : ℕ) → bit_of puts page ≡ false)
    → (st ≡ Syncs → k.way ≡ ways.Records → length (chunks_with k.header k.snapshot) ≤ k.logged) → (st ≡ Seals → k.head ≡ false → is_recycle k.way ≡ false) → IsBegunOf (record k { stage = st; put = puts })
begun-after k st puts was not_data unput all_logged recycled = record {
  surely = was.surely;
  behind = λ either. elim either [ inl e ↦ was.behind (inl e) | inr e ↦ absurd (not_data e) ];
  nothing = was.nothing;
  headless = was.headless;
  unput = λ either. elim either [ inl e ↦ absurd (not_data e) | inr rest ↦ unput rest ];
  unlogged = λ e. absurd (not_data e);
  all_logged = all_logged;
  recycled = recycled;
}

-- ---- the core after the end of a call

module _ (o : Opening) (table : TableState) (fresh : List Bool) (k : KeeperState) (passes : List Pass) (history : HistoryState) (log : List Entry) (s : State) (i : ℕ) (p : Pass)
    (mirrors : Mirrors o (core_state table fresh k (Some i) passes history) log s) (there : slice_get passes i ≡ Some p) (flushes : p.phase ≡ Flushing) where
  abbrev pub p' : Pass
  p' = record p { ticket = None }

  pub ended : (k' : KeeperState) (e : Entry) (marked : ℕ → Bool) (stage : core.Stage) → KeepsCrashSafety o (state (s.log ++ e ∷ []) s.history s.memory marked s.flights stage) → IsSameDisk k k' → k'.sure ≡ k.sure → k'.next ≡ k.next → k'.way ≡ k.way
      → ((c : ℕ) → c < o.layout.chunks → marked (o.layout.map_at c) ≡ (bit_of k'.marked (c / 32) || bit_of k'.put (c / 32))) → IsStageOf (Some i) o k' (slice_set passes i p') stage
      → HasSafeMirror o (core_state table fresh k' (Some i) (slice_set passes i p') history) (log ++ e ∷ [])
  ended k' e marked stage after same sure next way marks stage_is =
      let bare : is_bare p.phase ≡ true = ap is_bare flushes in
      let mine = moved o table fresh k (Some i) passes history log s mirrors i p p' there k' (Some i) (log ++ e ∷ []) (s.log ++ e ∷ []) s.memory.index.sure s.memory.index.cursor marked stage bare
      (ap (λ (l : List Entry). l ++ e ∷ []) mirrors.log_is) same (mirrors.sure ∙ sym sure) (mirrors.cursor ∙ sym next) (λ t is. mirrors.same_tracked t (sym way ∙ is)) marks
      (flights-after o table fresh k (Some i) passes history log s mirrors i p p' there bare bare) stage_is in
      record { state = _; keeps = after; mirrors = mine }
