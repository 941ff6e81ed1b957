-- What the history of a core is known to be.
use Rattle.std.specs.Prelude.{◌⊎◌, ◌*◌, ◌≤◌, List, length}
use Rattle.vd_law.specs.declared.entry.Sector.{Sector}
use Rattle.vd_law.specs.Rules.{IsRegular, IsLegal}
use Rattle.vd_device.specs.declared.store.Store as store
use Rattle.vd_device.specs.declared.base.Base as base
use Rattle.vd_device.specs.Disks.{HasStopped}
use Rattle.vd_image.specs.Layouts.{layout_of}
use Rattle.vd_image.specs.Decoders.{format_of}
use Rattle.vd_image.specs.CrashImages.{IsCrashImage}
use Rattle.vd_crash.specs.facts.CrashSafe.{IsCrashSafe}
use Rattle.vd_safety.specs.Held.{IsOpenAgain}
use Rattle.vd_passes.specs.Causes.{OfStore, OfBase, AreCaused}
use Rattle.vd_passes.specs.Places.{ArePlaces, place_of}
use Rattle.vd_passes.specs.Tracing.{AreTraced}
use Rattle.vd_machine.specs.Views.{View}
use Rattle.vd_machine.specs.Start.{WasSafe}
use Rattle.vd_machine.specs.Sound.{IsSince}
use Rattle.vd_machine.specs.Telling.{opening_of, base_then, IsStartOf}
use Rattle.vd_causes.specs.Storing.{AreFullsCaused, IsStoredBy}
use Rattle.vd_causes.specs.Local.{AreLocalBy}
use Rattle.vd_causes.specs.Wearing.{AreWornsCaused}
use Rattle.vd_core.specs.Agreeing.{AgreesWith}
use Rattle.vd_core.specs.Opening.{AreReplied, IsNumberedIn}
use Rattle.vd_core.specs.Showing.{EndsFlushed, MayHold, ShowsCould}
use Rattle.vd_format.specs.Background.{zero_sector, base_at}

module _ {S B : Type 0} (g : store.Ghosts S) (h : base.Ghosts B) where
  -- The devices have gone on since the core was made. And what its driver must know of the store: one that tells logs, and one that
  -- logs has still told all that it had told then, or has stopped.
  pub record HasOpening (c : View S B) : Type 0 where
    pub since : IsSince g h c
    pub recorded : g.tells c.store → g.records c.store
    pub within : g.records c.store → (c.history.opened ≤ length (g.disk c.store).log) ⊎ HasStopped (g.events c.store) (g.disk c.store)

  -- from whatever the guest's disk was when the core was made, if the base tells
  abbrev pub FromStart : View S B → (List Sector → Type 0) → Type 0
  FromStart c P = h.tells c.base → (start : List Sector) → IsStartOf g h c.fixed start → P start

  -- and if a crash at that moment had left what the store held
  abbrev pub FromSafeStart : View S B → (List Sector → Type 0) → Type 0
  FromSafeStart c P = FromStart c (λ start. WasSafe (opening_of g c.fixed) c.fixed.header → P start)

  -- what is known at any time
  pub record IsHistoryOf (c : View S B) : Type 0 where
    pub opening : HasOpening c
    pub regular : IsRegular (c.shape.block * c.shape.blocks) c.history.log.entries
    pub legal : g.tells c.store → FromStart c (λ start. IsLegal start c.history.log.entries)
    pub store_faults : AreCaused OfStore c.history.log.entries (g.faults c.fixed.store) (g.faults c.store)
    pub base_faults : AreCaused OfBase c.history.log.entries (h.faults c.fixed.base) (h.faults c.base)
    pub traced : g.tells c.store → AreTraced (g.disk c.store).log c.history.log.entries c.history.numbers
    pub full : AreFullsCaused c.shape c.fixed.entries (length c.table.chunks) c.table.storage c.history.log.entries
    pub worn : AreWornsCaused c.fixed.header.generation c.history.log.entries
    -- the chunks that have storage are those that had some and those for which writes have taken it
    pub stored : IsStoredBy c.shape c.fixed.entries c.table c.history.log.entries
    pub local : AreLocalBy c.shape c.fixed.entries c.fresh c.history.log.entries
    -- by the store's log as it stands, also where the store has stopped
    pub safe : g.records c.store → FromSafeStart c (λ start. IsCrashSafe (format_of c.fixed.header) (layout_of c.fixed.header) (base_at zero_sector (base_then h c.fixed)) zero_sector
        (g.disk c.store).start (g.disk c.store).log start c.history)
    pub agrees : g.tells c.store → FromStart c (λ start. AgreesWith c.shape c.table c.fresh start (base_then h c.fixed) c.history.log.entries (g.disk c.store))
    -- no two blocks have a sector of the store in common
    pub apart : ArePlaces c.shape.block c.shape.storage_at (g.sectors c.store) (place_of c.shape c.table.chunks)

  -- and beside that, once all passes are idle
  pub record HasEnded (c : View S B) : Type 0 where
    pub replied : AreReplied c.history.log.entries
    pub numbers : g.tells c.store → IsNumberedIn (g.disk c.store).log c.history
    pub reopens : g.tells c.store → FromSafeStart c (λ start. (image : List Sector) → IsCrashImage (g.disk c.store).start (g.disk c.store).log image
        → IsOpenAgain c.fixed.header (base_then h c.fixed) start c.history.log.entries image)
    pub settled : g.tells c.store → FromSafeStart c (λ start. EndsFlushed c.history.log.entries → (held : List Sector) → MayHold (g.disk c.store) held
        → ShowsCould c.fixed.header (base_then h c.fixed) start c.history.log.entries held)
