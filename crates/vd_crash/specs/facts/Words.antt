-- Words in which the steps of a core are stated.
use Rattle.std.specs.Prelude.{ℕ, ◌≡◌, ◌<◌, ◌≤◌, ◌⊎◌, ◌↔◌, Bool, true, List, Option, Some, if◌then◌else◌}
use Rattle.vd_image.specs.Log.{Sector, CallId, Entry, Flush, Fine, Ask, Reply, Covers, Flushes}
use Rattle.vd_crash.specs.facts.Safe.{NumberedEntry, Opening}
use Rattle.vd_crash.specs.facts.Facts.{HasEntry, IsWrittenBefore, IsBehind}
use Rattle.vd_crash.specs.facts.Memory.{Discards, Memory}

-- the flush that the new entry answers well has a store flush of its own, its blocks are stale, and its discards show everywhere
abbrev pub AnswersWell : Opening → List Entry → List NumberedEntry → Memory → NumberedEntry → Type 0
AnswersWell o log history m x = (id : CallId) (a n : ℕ) → HasEntry history a n (Ask id Flush) → x.event ≡ Reply id Fine
    → ((q : ℕ) × Flushes log q × (n ≤ q))
    × ((b j : ℕ) → IsWrittenBefore o m.discards.drops history a b j → IsBehind o m.discards.drops history m.index.stale m.index.off_base b j)
    × (a ≤ m.discards.reach)

-- storage is only given
abbrev pub Grows : (ℕ → Option ℕ) → (ℕ → Option ℕ) → Type 0
Grows old new = (c p : ℕ) → old c ≡ Some p → new c ≡ Some p

-- the event writes nothing
abbrev pub WritesNothing : Entry → Type 0
WritesNothing e = (s : ℕ) (v : Sector) → Covers e s v → ⊥

-- an event of the guest that covers no sector, as a copy has it
abbrev pub no_write : Entry
no_write = Ask (record { pass = 0; call = 0 }) Flush

abbrev pub with_blocks : Memory → (ℕ → Bool) → (ℕ → ℕ) → (ℕ → Bool) → (ℕ → Option ℕ) → Memory
with_blocks m fresh born owed pending = record { index = m.index; fresh = fresh; born = born; owed = owed; pending = pending; discards = m.discards }

-- after chunks took storage
abbrev pub with_table : Memory → (ℕ → Option ℕ) → Memory
with_table m table = record {
  index = record { generation = m.index.generation; tracked = m.index.tracked; sure = m.index.sure; table = table; stale = m.index.stale; off_base = m.index.off_base; tried = m.index.tried; cursor = m.index.cursor };
  fresh = m.fresh;
  born = m.born;
  owed = m.owed;
  pending = m.pending;
  discards = m.discards;
}

-- the store event writes to the block's storage what the guest's event writes to its sectors
pub record IsSameWrite (o : Opening) (guest store : Entry) (b p : ℕ) : Type 0 where
  pub forward : (s : ℕ) (v : Sector) → Covers guest s v → (o.layout.block_of s ≡ b) × Covers store (o.layout.place p s) v
  pub back : (t : ℕ) (v : Sector) → Covers store t v → (s : ℕ) × (o.layout.block_of s ≡ b) × (o.layout.place p s ≡ t) × Covers guest s v

-- new is old but for y at b
pub record IsUpdated {X : Type 0} (old new : ℕ → X) (b : ℕ) (y : X) : Type 0 where
  pub same : new b ≡ y
  pub other : (c : ℕ) → (c ≡ b → ⊥) → new c ≡ old c

-- what a sector has whose block isn't local: zeros where its chunk is of kind zeros, else the content at the start
abbrev pub fill_of : Opening → Discards → ℕ → Sector
fill_of o d s = if d.zeros (o.layout.chunk_of (o.layout.block_of s)) then o.zeros else o.disk s

-- the store event writes the whole block: the guest's content where the guest's event writes, else what stands there
pub record IsWholeWrite (o : Opening) (d : Discards) (guest store : Entry) (b p : ℕ) : Type 0 where
  pub guest_block : (s : ℕ) (v : Sector) → Covers guest s v → o.layout.block_of s ≡ b
  pub whole : (s : ℕ) → o.layout.block_of s ≡ b → (v : Sector) × Covers store (o.layout.place p s) v × (Covers guest s v ⊎ ((v ≡ fill_of o d s) × ((u : Sector) → Covers guest s u → ⊥)))
  pub back : (t : ℕ) (v : Sector) → Covers store t v → (s : ℕ) × (o.layout.block_of s ≡ b) × (o.layout.place p s ≡ t)

-- the event writes this content to this sector and nothing else
abbrev pub WritesOnly : Entry → ℕ → Sector → Type 0
WritesOnly e a v = (s : ℕ) (u : Sector) → Covers e s u → (s ≡ a) × (u ≡ v)

abbrev pub with_index : Memory → Bool → (ℕ → Bool) → ℕ → Memory
with_index m sure tried cursor = record {
  index = record { generation = m.index.generation; tracked = m.index.tracked; sure = sure; table = m.index.table; stale = m.index.stale; off_base = m.index.off_base; tried = tried; cursor = cursor };
  fresh = m.fresh;
  born = m.born;
  owed = m.owed;
  pending = m.pending;
  discards = m.discards;
}

-- what the end of a flush leaves of the blocks and of the discarded chunks
pub record Sealing : Type 0 where
  pub table : ℕ → Option ℕ
  pub stale : ℕ → Bool
  pub off_base : ℕ → Bool
  pub owed : ℕ → Bool
  pub lost : ℕ → Bool
  pub reach : ℕ

abbrev pub sealed_memory : Memory → ℕ → ℕ → Bool → (ℕ → Bool) → ℕ → Sealing → Memory
sealed_memory m generation tracked sure tried cursor z = record {
  index = record { generation = generation; tracked = tracked; sure = sure; table = z.table; stale = z.stale; off_base = z.off_base; tried = tried; cursor = cursor };
  fresh = m.fresh;
  born = m.born;
  owed = z.owed;
  pending = m.pending;
  discards = record { drops = m.discards.drops; zeros = m.discards.zeros; lost = z.lost; reach = z.reach };
}

-- the entry writes zeros to the chunk's sectors, and to nothing else
pub record IsDropWrite (o : Opening) (c : ℕ) (event : Entry) : Type 0 where
  pub covers : (s : ℕ) (v : Sector) → Covers event s v → (o.layout.chunk_of (o.layout.block_of s) ≡ c) × (v ≡ o.zeros)
  pub whole : (s : ℕ) → s < o.layout.size → o.layout.chunk_of (o.layout.block_of s) ≡ c → Covers event s o.zeros

-- these blocks, but for those of the chunk
abbrev pub AreOthers : Opening → (old new : ℕ → Bool) → ℕ → Type 0
AreOthers o old new c = (b : ℕ) → (new b ≡ true) ↔ ((old b ≡ true) × (o.layout.chunk_of b ≡ c → ⊥))

-- What memory is once the chunk is discarded by the entry at `top`: none of its blocks is local, stale or owed, its kind is zeros, and the
-- next flush logs it. It keeps its storage.
pub record IsDiscarded (o : Opening) (m : Memory) (top c : ℕ) (fresh stale owed : ℕ → Bool) (d : Discards) : Type 0 where
  pub fresh_others : AreOthers o m.fresh fresh c
  pub stale_others : AreOthers o m.index.stale stale c
  pub owed_others : AreOthers o m.owed owed c
  pub drops : IsUpdated m.discards.drops d.drops top (Some c)
  pub zeros : IsUpdated m.discards.zeros d.zeros c true
  pub lost : IsUpdated m.discards.lost d.lost c true
  pub reach : d.reach ≡ m.discards.reach

abbrev pub discarded_memory : Memory → (fresh stale owed : ℕ → Bool) → Discards → Memory
discarded_memory m fresh stale owed d = record {
  index = record { generation = m.index.generation; tracked = m.index.tracked; sure = m.index.sure; table = m.index.table; stale = stale; off_base = m.index.off_base; tried = m.index.tried; cursor = m.index.cursor };
  fresh = fresh;
  born = m.born;
  owed = owed;
  pending = m.pending;
  discards = d;
}
