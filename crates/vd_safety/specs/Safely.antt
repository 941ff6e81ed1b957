-- What a core keeps so that each image that a crash may leave is safe.
use Rattle.std.specs.Prelude.{ℕ, ◌≡◌, ◌≤◌, ◌<◌, List, length}
use Rattle.vd_law.specs.declared.entry.Sector.{Sector}
use Rattle.vd_law.specs.Histories.{HistoryState, IsRising}
use Rattle.vd_device.specs.declared.store.Store as store
use Rattle.vd_device.specs.declared.base.Base as base
use Rattle.vd_device.specs.Disks.{Disk, HasStopped}
use Rattle.vd_format.specs.declared.header.Header.{Header}
use Rattle.vd_format.specs.Background.{zero_sector, base_at}
use Rattle.vd_image.specs.Log.{Writes}
use Rattle.vd_image.specs.Layouts.{layout_of}
use Rattle.vd_image.specs.Decoders.{format_of}
use Rattle.vd_crash.specs.facts.CrashSafe.{IsCrashSafe}
use Rattle.vd_crash.specs.facts.Safe.{Opening}
use Rattle.vd_machine.specs.Start.{WasSafe}
use Rattle.vd_machine.specs.Views.{Fixed, View}
use Rattle.vd_machine.specs.Telling.{opening_of, base_then, IsStartOf}
use Rattle.vd_safety.specs.Mirrors.{CoreState, core_state, opening_for, HasSafeMirror}

-- the core as the laws of crash safety see it
abbrev pub core_state_of : {S B : Type 0} → View S B → CoreState
core_state_of c = core_state c.table c.fresh c.keeping c.flusher c.passes c.history

-- The history is crash safe from this disk of the guest, by the store's log as it stands. Its numbers rise, so that no later entry
-- speaks of an earlier moment.
pub record IsStillSafe (h : Header) (base start : List Sector) (disk : Disk) (history : HistoryState) : Type 0 where
  pub each : length history.numbers ≡ length history.log.entries
  pub rising : IsRising history.opened history.numbers
  pub crash_safe : IsCrashSafe (format_of h) (layout_of h) (base_at zero_sector base) zero_sector disk.start disk.log start history

module _ {S B : Type 0} (g : store.Ghosts S) (h : base.Ghosts B) where
  -- what the laws are told of a core that was made so, over a store that held this and a disk of the guest that was this
  abbrev pub opening_from : Fixed S B → (held : ℕ → Sector) → (start : List Sector) → Opening
  opening_from f held start = opening_for f.header f.entries (g.disk f.store).start held (base_then h f) start (g.events f.store)

  -- a crash when the core was made would have left what the store held, with this disk of the guest
  abbrev pub FromSafeStartOf : Fixed S B → (List Sector → Type 0) → Type 0
  FromSafeStartOf f P = (start : List Sector) → IsStartOf g h f start → WasSafe (opening_of g f) f.header → P start

  -- Where both devices tell: each write since the core was made lies in the store; and from whatever the guest's disk was then, if all
  -- was safe, the laws of crash safety know the core.
  pub record IsSafelyKept (c : View S B) : Type 0 where
    pub size : length (g.disk c.fixed.store).start ≡ g.sectors c.store
    pub inside : (i a : ℕ) (v : Sector) → g.events c.fixed.store ≤ i → Writes (g.disk c.store).log i a v → a < g.sectors c.store
    pub secured : FromSafeStartOf c.fixed (λ start. (held : ℕ → Sector) × HasSafeMirror (opening_from c.fixed held start) (core_state_of c) (g.disk c.store).log)

  -- Where the store has stopped and the base tells: by the log as it stood at the stop the history is crash safe.
  pub record IsSafelyStopped (c : View S B) : Type 0 where
    pub stopped : HasStopped (g.events c.store) (g.disk c.store)
    pub safe : FromSafeStartOf c.fixed (λ start. IsStillSafe c.fixed.header (base_then h c.fixed) start (g.disk c.store) c.history)
