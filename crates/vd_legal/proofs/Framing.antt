-- What no step changes of a core, save that an ask may change its table, and what follows from it.
use Rattle.std.proofs.Common.{◌≡◌, ℕ, Bool, List, Option, ap, subst, length, ◌∙◌, sym}
use Rattle.vd_device.specs.declared.store.Store as store
use Rattle.vd_device.specs.declared.base.Base as base
use Rattle.vd_law.specs.declared.entry.Sector.{Sector}
use Rattle.vd_law.specs.declared.entry.Room.{Room}
use Rattle.vd_law.specs.Histories.{HistoryState}
use Rattle.vd_format.specs.Background.{background_of}
use Rattle.vd_keeper.specs.Keeping.{KeeperState}
use Rattle.vd_passes.specs.declared.pass.Pass.{Pass}
use Rattle.vd_passes.specs.Requests.{RequestState}
use Rattle.vd_passes.specs.Coherent.{IsCoherent, IsFaithful}
use Rattle.vd_machine.specs.Views.{Fixed, View, view_requests, view_places}
use Rattle.vd_machine.specs.Sound.{RoomIsReserved, IsStorage, IsSound}
use Rattle.vd_machine.specs.Telling.{base_then, IsStartOf, IsFaithfullyKept}

-- what never changes, the shape and the table stand
pub record IsFramed {S B : Type 0} (c c' : View S B) : Type 0 where
  pub fixed : c'.fixed ≡ c.fixed
  pub shape : c'.shape ≡ c.shape
  pub table : c'.table ≡ c.table

pub framed : {S B : Type 0} (c : View S B) {c' : View S B} {s : S} {b : B} {fresh : List Bool} {keeping : KeeperState} {flusher : Option ℕ} {passes : List Pass}
    {history : HistoryState} {spare : Room} {steps : ℕ}
    → c' ≡ record c {
      store = s;
      base = b;
      fresh = fresh;
      keeping = keeping;
      flusher = flusher;
      passes = passes;
      history = history;
      spare = spare;
      steps =
          steps;
    } → IsFramed c c'
framed c others = record { fixed = ap (λ v. v.fixed) others; shape = ap (λ v. v.shape) others; table = ap (λ v. v.table) others }

module _ {S B : Type 0} {g : store.Ghosts S} {c c' : View S B} where
  pub storage-same : IsFramed c c' → g.sectors c'.store ≡ g.sectors c.store → IsStorage g c → IsStorage g c'
  storage-same f size was = record {
    chunks = rw (f.shape, f.table) was.chunks;
    few = rw f.table was.few;
    one_to_one = rw f.table was.one_to_one;
    inside = rw (f.shape, f.table, size) was.inside;
  }

  pub in-place : {h : base.Ghosts B} {r : RequestState} {s : S} {b : B} → IsFramed c c' → c'.store ≡ s → c'.base ≡ b → IsCoherent g h r (view_places c) s b
      → IsCoherent g h r (view_places c') c'.store c'.base
  in-place f stored based was = rw (f.shape, f.table, stored, based) was

  -- what is asked of a start is the same
  faithful-in-place : (h : base.Ghosts B) {start : List Sector} {r : RequestState} {s : S} → IsFramed c c' → c'.store ≡ s
      → IsFaithful g start (background_of (base_then h c.fixed) c.shape.tracked) r (view_places c) s
      → IsFaithful g start (background_of (base_then h c'.fixed) c'.shape.tracked) r (view_places c') c'.store
  faithful-in-place h f stored was = rw (f.fixed, f.shape, f.table, stored) was

  pub told-by : {h : base.Ghosts B} {s : S} → IsFramed c c' → h.sectors c'.base ≡ h.sectors c.base → c'.store ≡ s → IsFaithfullyKept g h c
      → ((start : List Sector) → IsFaithful g start (background_of (base_then h c.fixed) c.shape.tracked) (view_requests c) (view_places c) c.store
      → IsFaithful g start (background_of (base_then h c.fixed) c.shape.tracked) (view_requests c') (view_places c) s) → IsFaithfullyKept g h c'
  told-by {h} f size stored was next = record {
    base_size = ap (λ (x : Fixed S B). length (base_then h x)) f.fixed ∙ was.base_size ∙ sym size;
    faithful = λ start is. faithful-in-place h f stored (next start (was.faithful start (subst (λ (x : Fixed S B). IsStartOf g h x start) f.fixed is)));
  }

-- A step that changes the metadata alone, or nothing but the number of steps.
module _ {S B : Type 0} {g : store.Ghosts S} {h : base.Ghosts B} {c c' : View S B} {k : KeeperState} {n : ℕ}
    (same : c' ≡ record c { keeping = k; steps = n }) where
  pub stands-coherent : IsSound g h c → IsCoherent g h (view_requests c') (view_places c') c'.store c'.base
  stands-coherent kept = rw same kept.coherent

  pub stands-told : IsFaithfullyKept g h c → IsFaithfullyKept g h c'
  stands-told was = rw same (record { base_size = was.base_size; faithful = was.faithful })

module _ {S B : Type 0} {g : store.Ghosts S} {c c' : View S B} {k : KeeperState} {n : ℕ} (same : c' ≡ record c { keeping = k; steps = n }) where
  pub stands-room : RoomIsReserved g c → RoomIsReserved g c'
  stands-room r = rw same (record
      { later = r.later; spare_events = r.spare_events; spare_sectors = r.spare_sectors; reserved = r.reserved; calls = r.calls; bounded = r.bounded })
