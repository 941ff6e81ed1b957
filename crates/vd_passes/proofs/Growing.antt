-- Blocks that had no place get one, and nothing else changes.
use Rattle.std.proofs.Common.{◌≡◌, ℕ, Bool, List, refl, sym, ◌∙◌, ap, Option, Some}
use Rattle.vd_law.specs.declared.entry.Sector.{Sector}
use Rattle.vd_law.specs.Entries.{Entry}
use Rattle.vd_passes.specs.declared.shape.Shape.{Shape}
use Rattle.vd_passes.specs.declared.pass.Pass.{Pass}
use Rattle.vd_device.specs.Stores.{StoreCountsStand}
use Rattle.vd_device.specs.Bases.{KeepsBase}
use Rattle.vd_passes.specs.Tracks.{Track}
use Rattle.vd_passes.specs.Standings.{Standing}
use Rattle.vd_passes.specs.Places.{ArePlaces, KeepsPlaces}
use Rattle.vd_passes.specs.Passes.{IsAsHistorySays}
use Rattle.vd_passes.specs.Coherent.{IsCoherent, IsFaithful, AgreesInSector}
use Rattle.vd_passes.proofs.Lists.{some-inj}
use Rattle.vd_device.specs.declared.store.Store.{Ghosts as StoreGhosts}
use Rattle.vd_device.specs.declared.base.Base.{Ghosts as BaseGhosts}
use Rattle.vd_passes.specs.Requests.{requests}

-- Devices as large and as deep as these.
module _ {S B : Type 0} (g : StoreGhosts S) (h : BaseGhosts B) where
  pub record AreAlike (store store' : S) (base base' : B) : Type 0 where
    pub sectors : g.sectors store' ≡ g.sectors store
    pub depth : g.depth store' ≡ g.depth store
    pub base_sectors : h.sectors base' ≡ h.sectors base
    pub base_depth : h.depth base' ≡ h.depth base

module _ {S B : Type 0} {g : StoreGhosts S} {h : BaseGhosts B} {store : S} {base : B} where
  pub alike-same : AreAlike g h store store base base
  alike-same = record { sectors = refl; depth = refl; base_sectors = refl; base_depth = refl }

  pub alike-store : {store' : S} → StoreCountsStand g store store' → AreAlike g h store store' base base
  alike-store {store'} counts = record { sectors = counts.sectors; depth = counts.depth; base_sectors = refl; base_depth = refl }

  pub alike-base : {base' : B} → KeepsBase h base base' → AreAlike g h store store base base'
  alike-base {base'} keeps = record { sectors = refl; depth = refl; base_sectors = keeps.counts.sectors; base_depth = keeps.counts.depth }

-- What may stand in a sector is said of the shape and the fresh blocks alone.
pub agrees-so : {shape : Shape} {fresh : List Bool} {places : ℕ → Option ℕ} {passes passes' : List Pass} {history history' : List Entry} {rest : ℕ → Sector} {s : ℕ} {guest : Track} {store : ℕ → Track}
    → AgreesInSector (requests shape fresh passes history) places rest s guest store → AgreesInSector (requests shape fresh passes' history') places rest s guest store
agrees-so agrees = record { local = agrees.local; other = agrees.other }

stands-grown : {shape : Shape} {fresh : List Bool} {places places' : ℕ → Option ℕ} {t : Standing} {p : Pass} → KeepsPlaces places places' → IsAsHistorySays shape fresh places t p → IsAsHistorySays shape fresh places' t p
stands-grown {shape} {fresh} {places} {places'} {t} {p} extends stands = record {
  call = stands.call;
  idle = stands.idle;
  busy = stands.busy;
  unanswered = stands.unanswered;
  done = stands.done;
  range = stands.range;
  pending = stands.pending;
  whole = stands.whole;
  ready = stands.ready;
  write = stands.write;
  read = stands.read;
  left = stands.left;
  flush = stands.flush;
  no_flush = stands.no_flush;
  unstarted = stands.unstarted;
  placed = λ busy writes b from to. let had = stands.placed busy writes b from to in (had.0, extends b had.0 had.1);
  piece = stands.piece;
  at = λ has known. extends p.block p.at (stands.at has known);
  ticket = stands.ticket;
  buffer = stands.buffer;
}

module _ {shape : Shape} {fresh : List Bool} {places : ℕ → Option ℕ} {passes : List Pass} {history : List Entry} {S B : Type 0} {g : StoreGhosts S} {h : BaseGhosts B} {store : S} {base : B}
    (co : IsCoherent g h (requests shape fresh passes history) places store base)
    (places' : ℕ → Option ℕ) (extends : KeepsPlaces places places') where
  pub grown-coherent : ArePlaces shape.block shape.storage_at (g.sectors store) places' → IsCoherent g h (requests shape fresh passes history) places' store base
  grown-coherent placed = record {
    shaped = co.shaped;
    size = co.size;
    placed = placed;
    fresh_placed = λ b is. let had = co.fresh_placed b is in (had.0, extends b had.0 had.1);
    regular = co.regular;
    few = co.few;
    deep = co.deep;
    base_deep = co.base_deep;
    each = λ i p there. stands-grown extends (co.each i p there);
    apart = co.apart;
    flight = co.flight;
    base_flight = co.base_flight;
    guest = co.guest;
  }

  pub grown-faithful : {start : List Sector} {rest : ℕ → Sector} → IsFaithful g start rest (requests shape fresh passes history) places store → IsFaithful g start rest (requests shape fresh passes history) places' store
  grown-faithful {start} {rest} fa = record {
    size = fa.size;
    shown = fa.shown;
    numbers = fa.numbers;
    distinct = fa.distinct;
    stands = λ s inside. record {
      local = λ b x lies is at.
          let had = co.fresh_placed b is in
          let same : had.0 ≡ x = some-inj (sym (extends b had.0 had.1) ∙ at) in
          (fa.stands s inside).local b x lies is (had.1 ∙ ap Some same);
      other = (fa.stands s inside).other;
    };
    filling = fa.filling;
    buffers = fa.buffers;
  }
