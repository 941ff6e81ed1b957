-- What holds between the passes of a core, its history and its devices.
use Rattle.std.specs.Prelude.{ℕ, ◌≡◌, ◌≢◌, ◌+◌, ◌-◌, ◌*◌, ◌<◌, ◌≤◌, ◌⊎◌, true, false, List, [], ◌∷◌, length, Option, Some, slice_get}
use Rattle.std.specs.List.{Contains}
use Rattle.vd_law.specs.declared.entry.CallId.{CallId}
use Rattle.vd_law.specs.declared.entry.Sector.{Sector}
use Rattle.vd_law.specs.Entries.{past}
use Rattle.vd_law.specs.Rules.{Each, IsRegular, IsShown}
use Rattle.vd_device.specs.declared.store.Store as store
use Rattle.vd_device.specs.declared.base.Base as base
use Rattle.vd_device.specs.declared.ticket.Ticket.{Ticket}
use Rattle.vd_device.specs.Tickets.{ticket_id}
use Rattle.vd_passes.specs.declared.pass.Pass.{Pass}
use Rattle.vd_passes.specs.declared.pass.Phase.TheVariants.{Filled}
use Rattle.vd_passes.specs.Laying.{IsRest}
use Rattle.vd_passes.specs.Requests.{RequestState}
use Rattle.vd_passes.specs.Tracks.{Track, track, writes}
use Rattle.vd_passes.specs.Standings.{standing}
use Rattle.vd_passes.specs.Places.{IsIn, ArePlaces, IsShape}
use Rattle.vd_passes.specs.Passes.{has_region, call_id, IsWriting, IsFilling, tickets_of, fetches_of, IsAsHistorySays}

-- two passes may hold regions of one block only where both read
abbrev pub ArePassesApart : Pass → Pass → Type 0
ArePassesApart p q = has_region p.phase ≡ true → has_region q.phase ≡ true → p.block ≡ q.block → (p.write ≡ false) × (q.write ≡ false)

-- no pass writes the guest's sector s, and no write on it is open
pub record IsUnwritten (passes : List Pass) (s : ℕ) (open_writes : List (CallId × Sector)) : Type 0 where
  pub nobody : (i : ℕ) (p : Pass) → slice_get passes i ≡ Some p → IsWriting p s → ⊥
  pub none : open_writes ≡ []

-- one pass writes it, and that write is the one that is open
pub record IsWritten (passes : List Pass) (s : ℕ) (open_writes : List (CallId × Sector)) : Type 0 where
  pub by : ℕ
  pub pass : Pass
  pub there : slice_get passes by ≡ Some pass
  pub writing : IsWriting pass s
  pub content : Sector
  pub one : open_writes ≡ (call_id by pass, content) ∷ []

module _ {S B : Type 0} (g : store.Ghosts S) (h : base.Ghosts B) where
  -- What the passes and their history have to do with one another and with the tickets in flight, whatever the devices tell.
  pub record IsCoherent (r : RequestState) (places : ℕ → Option ℕ) (s : S) (b : B) : Type 0 where
    pub shaped : IsShape r.shape (g.sectors s) (h.sectors b)
    pub size : length r.fresh ≡ r.shape.blocks
    pub placed : ArePlaces r.shape.block r.shape.storage_at (g.sectors s) places
    pub fresh_placed : (c : ℕ) → slice_get r.fresh c ≡ Some true → (x : ℕ) × (places c ≡ Some x)
    pub regular : IsRegular (r.shape.block * r.shape.blocks) r.entries
    pub few : length r.passes ≤ 64
    pub deep : 128 ≤ g.depth s
    pub base_deep : 128 ≤ h.depth b
    pub each : (i : ℕ) (p : Pass) → slice_get r.passes i ≡ Some p → IsAsHistorySays r.shape r.fresh places (standing r.entries i) p
    pub apart : (i j : ℕ) (p q : Pass) → slice_get r.passes i ≡ Some p → slice_get r.passes j ≡ Some q → i ≢ j → ArePassesApart p q
    pub flight : g.flight s (tickets_of r.passes)
    pub base_flight : h.flight b (fetches_of r.passes)
    pub guest : (a : ℕ) → IsUnwritten r.passes a (writes r.entries a) ⊎ IsWritten r.passes a (writes r.entries a)

-- no pass fills sector `a` of the store, and no write on it is open
pub record IsUnfilled (passes : List Pass) (a : ℕ) (store : Track) : Type 0 where
  pub nobody : (i : ℕ) (p : Pass) → slice_get passes i ≡ Some p → IsFilling p a → ⊥
  pub none : store.writes ≡ []

-- One pass fills it, in the place of a guest's sector: with what its call writes there, or with what may stand there already.
pub record IsFilled (block : ℕ) (passes : List Pass) (a : ℕ) (guest : ℕ → Track) (store : Track) : Type 0 where
  pub by : ℕ
  pub pass : Pass
  pub there : slice_get passes by ≡ Some pass
  pub ticket : Ticket
  pub has : pass.ticket ≡ Some ticket
  pub filling : IsFilling pass a
  pub content : Sector
  pub one : store.writes ≡ (ticket_id ticket, content) ∷ []
  pub sector : ℕ
  pub place : a + block * pass.block ≡ pass.at + sector
  pub in_block : IsIn block pass.block sector
  pub source : ((guest sector).writes ≡ (call_id by pass, content) ∷ []) ⊎ (((guest sector).writes ≡ []) × Contains (guest sector).contents content)

-- What the store may hold in the place of the guest's sector s may stand there; where the block isn't fresh, the rest may.
pub record AgreesInSector (r : RequestState) (places : ℕ → Option ℕ) (rest : ℕ → Sector) (s : ℕ) (guest : Track) (store : ℕ → Track) : Type 0 where
  pub local : (b x : ℕ) → IsIn r.shape.block b s → slice_get r.fresh b ≡ Some true → places b ≡ Some x → (v : Sector) → Contains (store (x + (s - r.shape.block * b))).contents v → Contains guest.contents v
  pub other : (b : ℕ) → IsIn r.shape.block b s → slice_get r.fresh b ≡ Some false → Contains guest.contents (rest s)

module _ {S : Type 0} (g : store.Ghosts S) where
  -- what may stand in a sector of the store by its log
  abbrev pub stored_track : S → ℕ → Track
  stored_track s = track (g.disk s).start (g.disk s).log

  -- Where the devices tell: each read saw what could stand there, and the store's sectors agree with the history.
  pub record IsFaithful (start : List Sector) (rest : ℕ → Sector) (r : RequestState) (places : ℕ → Option ℕ) (s : S) : Type 0 where
    pub size : length start ≡ r.shape.block * r.shape.blocks
    pub shown : Each (IsShown start) (past r.entries)
    pub numbers : (i : ℕ) (p : Pass) (t : Ticket) → slice_get r.passes i ≡ Some p → p.ticket ≡ Some t → t.number ≤ g.last s
    pub distinct : (i j : ℕ) (p q : Pass) (t u : Ticket) → slice_get r.passes i ≡ Some p → slice_get r.passes j ≡ Some q → i ≢ j → p.ticket ≡ Some t → q.ticket ≡ Some u → t.number ≢ u.number
    pub stands : (a : ℕ) → a < length start → AgreesInSector r places rest a (track start r.entries a) (stored_track s)
    pub filling : (a : ℕ) → r.shape.storage_at ≤ a → IsUnfilled r.passes a (stored_track s a) ⊎ IsFilled r.shape.block r.passes a (track start r.entries) (stored_track s a)
    pub buffers : (i : ℕ) (p : Pass) → slice_get r.passes i ≡ Some p → p.phase ≡ Filled → IsRest rest (r.shape.block * p.block) p.buffer
