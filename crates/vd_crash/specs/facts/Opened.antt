-- What opening leaves: every sector as it is held, and a memory that says what the held image says.
use Rattle.std.specs.Prelude.{ℕ, ◌≡◌, ◌<◌, ◌⊎◌, ◌↔◌, true, false, List, Some, None, length}
use Rattle.vd_image.specs.Log.{Sector, Entry, Flushes, May}
use Rattle.vd_image.specs.Image.{Mapping, Record, IsCurrent, Maps, GivesStorage, IsLocal, IsSound, DiskHas, IsApart}
use Rattle.vd_crash.specs.facts.Safe.{Opening}
use Rattle.vd_crash.specs.facts.Memory.{Memory}

pub record IsAtOpening (o : Opening) (log : List Entry) (m : Memory) : Type 0 where
  pub apart : IsApart o.layout
  pub opened : o.opened ≡ length log
  -- the store was clean, and the first flush was answered well
  pub left : (s : ℕ) (v : Sector) → May o.before log s v → v ≡ o.held s
  pub flush : ℕ
  pub flushes : Flushes log flush
  pub sound : IsSound o.format o.layout o.held
  pub disk : (s : ℕ) (v : Sector) → DiskHas o.format o.layout o.base o.zeros o.held s v → v ≡ o.disk s
  pub sure : m.index.sure ≡ true
  pub generation : m.index.generation ≡ sound.header.generation
  pub tracked : m.index.tracked ≡ sound.header.tracked
  pub table : (c p : ℕ) → (m.index.table c ≡ Some p) ↔ GivesStorage o.format o.layout o.held m.index.generation c p
  pub fresh : (b : ℕ) → (m.fresh b ≡ true) ↔ ((p : ℕ) × IsLocal o.format o.layout o.held m.index.generation b p)
  pub in_range : (b : ℕ) → m.fresh b ≡ true → b < o.layout.blocks
  pub was_local : (b : ℕ) → m.fresh b ≡ true → o.was_local b ≡ true
  pub stale : (b : ℕ) → m.index.stale b ≡ m.fresh b
  pub zeros : (c : ℕ) → (m.discards.zeros c ≡ true) ↔ ((w : Mapping) × Maps o.format o.layout o.held m.index.generation c w × (w.zeros ≡ true))
  pub off_base : (b : ℕ) → (m.index.off_base b ≡ true) ↔ ((m.fresh b ≡ true) ⊎ (m.discards.zeros (o.layout.chunk_of b) ≡ true))
  pub drops : (j : ℕ) → m.discards.drops j ≡ None
  pub lost : (c : ℕ) → m.discards.lost c ≡ false
  pub reach : m.discards.reach ≡ 0
  pub cursor : (k : ℕ) (r : Record) → k < o.layout.slots → o.format.record_of (o.held (o.layout.slot_at k)) ≡ Some r → IsCurrent r m.index.generation → k < m.index.cursor
  pub owed : (b : ℕ) → m.owed b ≡ false
  pub tried : (b : ℕ) → m.index.tried b ≡ false
  pub pending : (b : ℕ) → m.pending b ≡ None
  pub born : (b : ℕ) → m.born b ≡ 0
