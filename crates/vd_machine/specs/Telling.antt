-- What a core keeps where its devices tell.
use Rattle.std.specs.Prelude.{ℕ, ◌≡◌, ◌≤◌, List, length}
use Rattle.vd_law.specs.declared.entry.Sector.{Sector}
use Rattle.vd_device.specs.declared.store.Store as store
use Rattle.vd_device.specs.declared.base.Base as base
use Rattle.vd_format.specs.Background.{background_of}
use Rattle.vd_passes.specs.Coherent.{IsFaithful}
use Rattle.vd_passes.specs.Following.{IsFollowed}
use Rattle.vd_machine.specs.Start.{ToldAtOpening, opening_at, IsStart}
use Rattle.vd_machine.specs.Views.{Fixed, View, view_requests, view_places}

-- what the store had told when the core was made
abbrev pub opening_of : {S B : Type 0} → store.Ghosts S → Fixed S B → ToldAtOpening
opening_of g f = opening_at (g.events f.store) (g.disk f.store)

-- what the base had told then
abbrev pub base_then : {S B : Type 0} → base.Ghosts B → Fixed S B → List Sector
base_then h f = h.content f.base

module _ {S B : Type 0} (g : store.Ghosts S) (h : base.Ghosts B) where
  -- these are the sectors of the guest's disk when the core was made
  abbrev pub IsStartOf : Fixed S B → (start : List Sector) → Type 0
  IsStartOf f start = IsStart (opening_of g f) (base_then h f) f.header start

  -- Where both devices tell: from whatever the guest's disk was when the core was made each read saw what could stand there, and the
  -- store agrees with the history.
  pub record IsFaithfullyKept (c : View S B) : Type 0 where
    pub base_size : length (base_then h c.fixed) ≡ h.sectors c.base
    pub faithful : (start : List Sector) → IsStartOf c.fixed start
        → IsFaithful g start (background_of (base_then h c.fixed) c.shape.tracked) (view_requests c) (view_places c) c.store

module _ {S B : Type 0} (g : store.Ghosts S) where
  -- Where the store tells: what it had told when the core was made is the first part of its log, and the store faults are traced.
  pub record LogAgrees (c : View S B) : Type 0 where
    pub since : c.history.opened ≤ length (g.disk c.store).log
    pub followed : IsFollowed c.passes c.history.log.entries c.history.numbers (g.disk c.store).log
