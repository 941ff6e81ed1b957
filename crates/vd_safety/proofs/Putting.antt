-- What is known where something is put.
use Rattle.std.proofs.Common.{◌≡◌, inl, inr, ℕ, zero, suc, ◌+◌, ◌-◌, ◌/◌, ◌<◌, ◌≤◌, Bool, true, false, List, [], ◌∷◌, length, Some, None, slice_get, sym, refl, ap, ◌∙◌, arith, subst}
use Rattle.vd_law.specs.declared.entry.Sector.{Sector}
use Rattle.vd_law.specs.declared.entry.CallId.{CallId}
use Rattle.vd_law.specs.Entries.{Issue, Entry}
use Rattle.vd_format.specs.declared.header.Header.{Header}
use Rattle.vd_format.specs.Layouts.{chunks_of, slots_start, map_start}
use Rattle.vd_image.specs.Log.{Covers}
use Rattle.vd_image.specs.Image.{IsApart}
use Rattle.vd_crash.specs.facts.Safe.{Opening, NumberedEntry}
use Rattle.vd_crash.specs.facts.Words.{WritesOnly}
use Rattle.vd_crash.specs.flushes.Stage.{Flight, FlushProgress}
use Rattle.vd_crash.specs.primitives.Core.{Working}
use Rattle.vd_crash.specs.primitives.Primitives.{State, state}
use Rattle.vd_crash.specs.primitives.Keeping.{KeepsCrashSafety}
use Rattle.vd_keeper.specs.declared.stage.Stage.{Stage}
use Rattle.vd_keeper.specs.declared.stage.Stage.TheVariants.{Rest, DataFlush, Puts, Syncs, Seals, Broken}
use Rattle.vd_keeper.specs.declared.stage.Way.TheVariants as ways
use Rattle.vd_keeper.specs.Keeping.{KeeperState}
use Rattle.vd_keeper.specs.Entries.{chunks_with}
use Rattle.vd_keeper.specs.Flushes.{IsKeeping, IsPossible, is_recycle, records_for}
use Rattle.vd_keeper.specs.Moves.{HasPutDue}
use Rattle.vd_keeper.proofs.Flushed.{is-possible}
use Rattle.vd_passes.specs.declared.shape.Shape.{Shape}
use Rattle.vd_passes.specs.declared.pass.Pass.{Pass}
use Rattle.vd_safety.specs.Mirrors.{CoreState, IsOfHeader}
use Rattle.vd_safety.proofs.Records.{by-header}
use Rattle.vd_safety.proofs.Updates.{some-inj}
use Rattle.vd_safety.proofs.Stepping.{IsFlushing}
use Rattle.vd_crash.specs.facts.Memory.{Memory}
use Rattle.vd_machine.specs.Attending.{IsAtStage}

-- ---- an event that writes one sector

pub one-writes : (id : CallId) (first a : ℕ) (v : Sector) → first ≡ a → WritesOnly (Issue id first (v ∷ [])) a v
one-writes id first a v is s u (zero, at, has) = (omega (arith, at, is), sym (some-inj has))
one-writes id first a v is s u (suc n, at, has) = absurd cc

pub one-covers : (id : CallId) (first a : ℕ) (v : Sector) → first ≡ a → Covers (Issue id first (v ∷ [])) a v
one-covers id first a v is = (0, omega (arith, is), refl)

-- ---- the stage in which something is put

pub not-stage : (k : KeeperState) (a b : Stage) → k.stage ≡ a → k.stage ≡ b → (a ≡ b → ⊥) → ⊥
not-stage k a b is other apart = apart (sym is ∙ other)

pub puts-data : Puts ≡ DataFlush → ⊥
puts-data e = absurd cc

pub puts-syncs : Puts ≡ Syncs → ⊥
puts-syncs e = absurd cc

pub puts-seals : Puts ≡ Seals → ⊥
puts-seals e = absurd cc

puts-rest : Puts ≡ Rest → ⊥
puts-rest e = absurd cc

puts-broken : Puts ≡ Broken → ⊥
puts-broken e = absurd cc

pub puts-possible : (k : KeeperState) → IsKeeping k → k.stage ≡ Puts → IsPossible k
puts-possible k kept is = is-possible k kept (λ e. puts-rest (sym is ∙ e)) (λ e. puts-broken (sym is ∙ e))

-- something is due where nothing is in flight
pub puts-due : {h : Header} {o : Opening} {shape : Shape} {c : CoreState} {last : ℕ} (i : ℕ) (p : Pass) → IsFlushing h o shape c last → c.flusher ≡ Some i
    → slice_get c.passes i ≡ Some p → p.ticket ≡ None → c.keeping.stage ≡ Puts → HasPutDue c.keeping
puts-due {c = c} i p around flush there none is =
    let k = c.keeping in
    let w = around.attended.working i flush in
    let same : w.0 ≡ p = some-inj (sym w.1 ∙ there) in
    let own : IsAtStage k.stage k p = subst (λ (q : Pass). IsAtStage k.stage k q) same w.2 in
    let here : IsAtStage Puts k p = subst (λ (x : Stage). IsAtStage x k p) is own in
    elim here [ inl rests ↦ rests.1 | inr out ↦ absurd (let e = out.1 in cc) ]

-- a way that is one is no other
pub records-recycle : (k : KeeperState) → k.way ≡ ways.Records → is_recycle k.way ≡ true → ⊥
records-recycle k records recycle = (let e : is_recycle ways.Records ≡ true = ap is_recycle (sym records) ∙ recycle in cc)

pub records-plain : (k : KeeperState) → k.way ≡ ways.Records → is_recycle k.way ≡ false
records-plain k records = ap is_recycle records

pub plain-recycle : (k : KeeperState) → is_recycle k.way ≡ false → is_recycle k.way ≡ true → ⊥
plain-recycle k plain recycle = (let e : false ≡ true = sym plain ∙ recycle in cc)

-- a slot is left
pub slot-left : (k : KeeperState) → IsPossible k → k.way ≡ ways.Records → k.logged < length (chunks_with k.header k.snapshot) → k.next < k.header.slots
slot-left k possible records due = fits k.next (length (chunks_with k.header k.snapshot)) k.logged k.header.slots (possible.slots records) due
  where
    fits : (next all logged slots : ℕ) → next + records_for (all - logged) ≤ slots → logged < all → next < slots
    fits next all logged slots less due = omega arith

-- ---- what the laws keep of a flush that is under way

pub kept-apart : (o : Opening) (s : State) → KeepsCrashSafety o s → IsApart o.layout
unfolding KeepsCrashSafety
kept-apart o s keeps = keeps.core.holds.apart

pub kept-first : (o : Opening) (log : List Entry) (history : List NumberedEntry) (m : Memory) (marked : ℕ → Bool) (flights : ℕ → Flight) (call : CallId) (a n q : ℕ) (pr : FlushProgress)
    → KeepsCrashSafety o (state log history m marked flights (Working call a n q pr)) → pr.first ≤ m.index.cursor
unfolding KeepsCrashSafety
kept-first o log history m marked flights call a n q pr keeps = keeps.core.so_far.first

-- ---- where the parts of the store stand

module _ (h : Header) (o : Opening) (k : KeeperState) (of : IsOfHeader h o k) where
  pub slot-at : (slot : ℕ) → slots_start k.header + slot ≡ o.layout.slot_at slot
  slot-at slot = by-header h o k of (λ p. slots_start k.header + slot ≡ p.layout.slot_at slot) refl

  pub map-at : (c : ℕ) → map_start k.header + c / 32 ≡ o.layout.map_at c
  map-at c = by-header h o k of (λ p. map_start k.header + c / 32 ≡ p.layout.map_at c) refl

  pub header-at : 0 ≡ o.layout.header_at
  header-at = by-header h o k of (λ p. 0 ≡ p.layout.header_at) refl

  pub same-chunks : o.layout.chunks ≡ chunks_of k.header
  same-chunks = by-header h o k of (λ p. p.layout.chunks ≡ chunks_of k.header) refl

  pub same-slots : o.layout.slots ≡ k.header.slots
  same-slots = by-header h o k of (λ p. p.layout.slots ≡ k.header.slots) refl

  -- two chunks of one sector of the map
  pub same-map : (c d : ℕ) → o.layout.map_at c ≡ o.layout.map_at d → c / 32 ≡ d / 32
  same-map c d e = (let a = map-at c in let b = map-at d in omega arith)

  pub map-same : (c d : ℕ) → c / 32 ≡ d / 32 → o.layout.map_at c ≡ o.layout.map_at d
  map-same c d e = sym (map-at c) ∙ ap (λ (n : ℕ). map_start k.header + n) e ∙ map-at d
