-- A step of a pass that writes nothing before it or after it.
use Rattle.std.proofs.Common.{◌≡◌, ◌≢◌, ℕ, ◌+◌, ◌-◌, ◌*◌, ◌<◌, ◌≤◌, ◌⊎◌, Bool, true, false, List, length, refl, sym, ◌∙◌, ap, subst, inl, inr, arith, Option, Some, slice_get, slice_set}
use Rattle.std.specs.List.{Contains}
use Rattle.vd_law.specs.declared.entry.Sector.{Sector}
use Rattle.vd_law.specs.Entries.{Entry, past}
use Rattle.vd_law.specs.Rules.{Each, IsRegular, IsShown}
use Rattle.vd_device.specs.declared.ticket.Ticket.{Ticket}
use Rattle.vd_passes.specs.declared.shape.Shape.{Shape}
use Rattle.vd_passes.specs.declared.pass.Pass.{Pass}
use Rattle.vd_passes.specs.declared.pass.Phase.TheVariants.{Filled, Issuing}
use Rattle.vd_passes.specs.Laying.{IsRest}
use Rattle.vd_passes.specs.Tracks.{Track, track, writes}
use Rattle.vd_passes.specs.Standings.{standing}
use Rattle.vd_passes.specs.Passes.{has_region, tickets_of, fetches_of, IsAsHistorySays}
use Rattle.vd_passes.specs.Coherent.{IsCoherent, IsFaithful, AgreesInSector, ArePassesApart, IsUnwritten, IsWritten, IsFilled}
use Rattle.vd_passes.proofs.Growing.{AreAlike, agrees-so}
use Rattle.vd_passes.proofs.Lists.{some-inj, at-set, length-set'}
use Rattle.vd_passes.proofs.Tracks.{track-writes}
use Rattle.vd_passes.proofs.Regions.{unwritten-set, written-set, unfilled-set, filled-set, apart-set, each-step}
use Rattle.vd_device.specs.declared.store.Store.{Ghosts as StoreGhosts}
use Rattle.vd_device.specs.declared.base.Base.{Ghosts as BaseGhosts}
use Rattle.vd_passes.specs.Requests.{requests}

module _ {shape : Shape} {fresh : List Bool} {places : ℕ → Option ℕ} {passes : List Pass} {history : List Entry} {S B : Type 0} {g : StoreGhosts S} {h : BaseGhosts B} {store : S} {base : B}
    (co : IsCoherent g h (requests shape fresh passes history) places store base) (i : ℕ) (p : Pass) (there : slice_get passes i ≡ Some p)
    (before : p.phase ≢ Issuing) (p' : Pass) (after : p'.phase ≢ Issuing) (history' : List Entry)
    (quiet : (s : ℕ) → writes history' s ≡ writes history s) where
  not-this : (q : Pass) (j : ℕ) → slice_get passes j ≡ Some q → q.phase ≡ Issuing → j ≡ i → ⊥
  not-this q j at is e = before (ap (λ (x : Pass). x.phase) (some-inj (sym there ∙ ap (slice_get passes) (sym e) ∙ at)) ∙ is)

  guest : (s : ℕ) → IsUnwritten (slice_set passes i p') s (writes history' s) ⊎ IsWritten (slice_set passes i p') s (writes history' s)
  guest s = elim (co.guest s) [
    | inl none ↦ inl (unwritten-set passes i p p' there s (writes history s) (writes history' s) none (λ w. after w.phase) (quiet s ∙ none.none))
    | inr w ↦ inr (written-set passes i p p' there s (writes history s) (writes history' s) w (not-this w.pass w.by w.there w.writing.phase) (quiet s))
  ]

  pub not-issuing-coherent : (store' : S) (base' : B) → AreAlike g h store store' base base' → IsRegular (shape.block * shape.blocks) history' → ((j : ℕ) → j ≢ i → standing history' j ≡ standing history j)
      → IsAsHistorySays shape fresh places (standing history' i) p' → ((k : ℕ) (r : Pass) → slice_get passes k ≡ Some r → i ≢ k → ArePassesApart p' r)
      → g.flight store' (tickets_of (slice_set passes i p')) → h.flight base' (fetches_of (slice_set passes i p'))
      → IsCoherent g h (requests shape fresh (slice_set passes i p') history') places store' base'
  not-issuing-coherent store' base' alike regular others next apart flight base_flight = record {
    shaped = rw (alike.sectors, alike.base_sectors) co.shaped;
    size = co.size;
    placed = rw alike.sectors co.placed;
    fresh_placed = co.fresh_placed;
    regular = regular;
    few = rw (length-set' passes i p') co.few;
    deep = rw alike.depth co.deep;
    base_deep = rw alike.base_depth co.base_deep;
    each = each-step shape fresh places passes history history' i p p' there others (λ j q at ne. co.each j q at) next;
    apart = apart-set passes i p p' there co.apart apart;
    flight = flight;
    base_flight = base_flight;
    guest = guest;
  }

  module _ {start : List Sector} {rest : ℕ → Sector} (fa : IsFaithful g start rest (requests shape fresh passes history) places store) where
    -- a ticket that it has is a new one, or the one that it had
    abbrev pub HasNumber : ℕ → Ticket → Type 0
    HasNumber last' t = (t.number ≤ last') × ((j : ℕ) (q : Pass) (u : Ticket) → slice_get passes j ≡ Some q → j ≢ i → q.ticket ≡ Some u → u.number ≢ t.number)

    pub not-issuing-faithful : (store' : S) → g.last store ≤ g.last store' → Each (IsShown start) (past history')
        → ((t : Ticket) → p'.ticket ≡ Some t → HasNumber (g.last store') t)
        → ((a : ℕ) → shape.storage_at ≤ a → (track (g.disk store').start (g.disk store').log a).writes ≡ (track (g.disk store).start (g.disk store).log a).writes)
        → ((s : ℕ) → s < length start → AgreesInSector (requests shape fresh passes history) places rest s (track start history' s) (track (g.disk store').start (g.disk store').log))
        → ((a : ℕ) (w : IsFilled shape.block passes a (track start history) (track (g.disk store).start (g.disk store).log a)) → (v : Sector) → Contains (track start history w.sector).contents v → Contains (track start history' w.sector).contents v)
        → (p'.phase ≡ Filled → IsRest rest (shape.block * p'.block) p'.buffer)
        → IsFaithful g start rest (requests shape fresh (slice_set passes i p') history') places store'
    not-issuing-faithful store' later shown ticket same stands more buffer = record {
      size = fa.size;
      shown = shown;
      numbers = λ j q u at is. elim (at-set passes i j p' p q there at) [
        | inl a ↦ (ticket u (ap (λ (x : Pass). x.ticket) (sym a.1) ∙ is)).0
        | inr a ↦ let n = fa.numbers j q u a.1 is in omega arith
      ];
      distinct = λ j k q r u v at_j at_k ne has_u has_v. elim (at-set passes i j p' p q there at_j) [
        | inl a ↦ elim (at-set passes i k p' p r there at_k) [
          | inl b ↦ absurd (ne (a.0 ∙ sym b.0))
          | inr b ↦ λ e. (ticket u (ap (λ (x : Pass). x.ticket) (sym a.1) ∙ has_u)).1 k r v b.1 b.0 has_v (sym e)
        ]
        | inr a ↦ elim (at-set passes i k p' p r there at_k) [
          | inl b ↦ (ticket v (ap (λ (x : Pass). x.ticket) (sym b.1) ∙ has_v)).1 j q u a.1 a.0 has_u
          | inr b ↦ fa.distinct j k q r u v a.1 b.1 ne has_u has_v
        ]
      ];
      stands = λ s inside. agrees-so (stands s inside);
      filling = λ a low. elim (fa.filling a low) [
        | inl none ↦ inl (unfilled-set passes i p p' there a (track (g.disk store).start (g.disk store).log a) (track (g.disk store').start (g.disk store').log a) none (λ w. after w.phase) (same a low ∙ none.none))
        | inr w ↦ inr (filled-set passes i p p' there shape.block a (track start history) (track start history') (track (g.disk store).start (g.disk store).log a) (track (g.disk store').start (g.disk store').log a) w
            (not-this w.pass w.by w.there w.filling.phase) (same a low) (track-writes start history' w.sector ∙ quiet w.sector ∙ sym (track-writes start history w.sector)) (more a w))
      ];
      buffers = λ j q at is. elim (at-set passes i j p' p q there at) [
        | inl a ↦ subst (λ (x : Pass). IsRest rest (shape.block * x.block) x.buffer) (sym a.1) (buffer (ap (λ (x : Pass). x.phase) (sym a.1) ∙ is))
        | inr a ↦ fa.buffers j q a.1 is
      ];
    }

-- Such a step with no entry: the history stays.
module _ {shape : Shape} {fresh : List Bool} {places : ℕ → Option ℕ} {passes : List Pass} {history : List Entry} {S B : Type 0} {g : StoreGhosts S} {h : BaseGhosts B} {store : S} {base : B}
    (co : IsCoherent g h (requests shape fresh passes history) places store base) (i : ℕ) (p : Pass) (there : slice_get passes i ≡ Some p)
    (before : p.phase ≢ Issuing) (p' : Pass) (after : p'.phase ≢ Issuing) where
  pub quiet-coherent : (store' : S) (base' : B) → AreAlike g h store store' base base' → IsAsHistorySays shape fresh places (standing history i) p' → ((k : ℕ) (r : Pass) → slice_get passes k ≡ Some r → i ≢ k → ArePassesApart p' r)
      → g.flight store' (tickets_of (slice_set passes i p')) → h.flight base' (fetches_of (slice_set passes i p'))
      → IsCoherent g h (requests shape fresh (slice_set passes i p') history) places store' base'
  quiet-coherent store' base' alike next apart flight base_flight =
      not-issuing-coherent co i p there before p' after history (λ s. refl) store' base' alike co.regular (λ j ne. refl) next apart flight base_flight

  module _ {start : List Sector} {rest : ℕ → Sector} (fa : IsFaithful g start rest (requests shape fresh passes history) places store) where
    -- each sector of the store from the storage on may hold what it might
    pub quiet-faithful : (store' : S) → g.last store ≤ g.last store'
        → ((t : Ticket) → p'.ticket ≡ Some t → (t.number ≤ g.last store') × ((j : ℕ) (q : Pass) (u : Ticket) → slice_get passes j ≡ Some q → j ≢ i → q.ticket ≡ Some u → u.number ≢ t.number))
        → ((a : ℕ) → shape.storage_at ≤ a → track (g.disk store').start (g.disk store').log a ≡ track (g.disk store).start (g.disk store).log a)
        → (p'.phase ≡ Filled → IsRest rest (shape.block * p'.block) p'.buffer)
        → IsFaithful g start rest (requests shape fresh (slice_set passes i p') history) places store'
    quiet-faithful store' later ticket same buffer =
        not-issuing-faithful co i p there before p' after history (λ s. refl) fa store' later fa.shown ticket (λ a low. ap (λ (x : Track). x.writes) (same a low))
        (λ s inside. let old = fa.stands s inside in record {
          local = λ b x in_b is at v among. old.local b x in_b is at v (subst (λ (d : Track). Contains d.contents v) (same (x + (s - shape.block * b)) (let low = (co.placed.inside b x at).0 in omega arith)) among);
          other = old.other;
        })
        (λ a w v among. among) buffer

    -- and nothing happened at the store
    pub still-faithful : ((t : Ticket) → p'.ticket ≡ Some t → p.ticket ≡ Some t) → (p'.phase ≡ Filled → IsRest rest (shape.block * p'.block) p'.buffer) → IsFaithful g start rest (requests shape fresh (slice_set passes i p') history) places store
    still-faithful kept buffer = quiet-faithful store (omega arith)
        (λ t is. (fa.numbers i p t there (kept t is), λ j q u at ne has. fa.distinct j i q p u t at there ne has (kept t is))) (λ a low. refl) buffer

-- A pass that holds the region that it held keeps apart from the others as it did.
pub apart-kept : (passes : List Pass) → ((i j : ℕ) (p q : Pass) → slice_get passes i ≡ Some p → slice_get passes j ≡ Some q → i ≢ j → ArePassesApart p q)
    → (i : ℕ) (p p' : Pass) → slice_get passes i ≡ Some p → has_region p.phase ≡ true → p'.block ≡ p.block → p'.write ≡ p.write → (k : ℕ) (r : Pass) → slice_get passes k ≡ Some r → i ≢ k → ArePassesApart p' r
apart-kept passes apart i p p' there holds block write k r at ne has has_r same = let a = apart i k p r there at ne holds has_r (sym block ∙ same) in (write ∙ a.0, a.1)

-- and one that holds none does so
pub apart-free : (p' r : Pass) → has_region p'.phase ≡ false → ArePassesApart p' r
apart-free p' r none has has_r same = absurd (cc)
