-- The room in the history after a step of one pass that takes spare room, or gives some back.
use Rattle.std.proofs.Common.{◌≡◌, ℕ, ◌+◌, ◌≤◌, List, length, ap, subst, sym, inl, inr, arith, Some, slice_get, slice_set}
use Rattle.std.specs.List.{sum_by}
use Rattle.vd_device.specs.declared.store.Store as store
use Rattle.vd_law.specs.declared.entry.Room.{Room}
use Rattle.vd_law.specs.Histories.{last_number}
use Rattle.vd_passes.specs.declared.shape.Shape.{Shape}
use Rattle.vd_passes.specs.declared.pass.Pass.{Pass}
use Rattle.vd_passes.specs.Needs.{HasRoom}
use Rattle.vd_passes.proofs.Lists.{at-set}
use Rattle.vd_passes.proofs.Needing.{sum-set, rooms-set}
use Rattle.vd_machine.specs.Adding.{AddsEntries}
use Rattle.vd_machine.specs.Views.{View}
use Rattle.vd_machine.specs.Sound.{RoomIsReserved}
use Rattle.vd_machine.proofs.Entries.{last-extended}

pub room-shared : {S B : Type 0} {g : store.Ghosts S} {c c' : View S B} {p p' : Pass} {more : List ℕ} {sectors : ℕ} → RoomIsReserved g c → (i : ℕ)
    → c'.shape ≡ c.shape
    → slice_get c.passes i ≡ Some p → c'.passes ≡ slice_set c.passes i p' → AddsEntries more sectors c.history c'.history → HasRoom c.shape.block p'
    → c'.spare.events + p'.events + length more ≡ c.spare.events + p.events → c'.spare.sectors + p'.sectors + sectors ≡ c.spare.sectors + p.sectors
    → p'.call ≤ p.call + length more → last_number (last_number c.history.opened c.history.numbers) more ≤ g.events c'.store → RoomIsReserved g c'
room-shared {c = c} {c'} {p} {p'} {more} {sectors} roomy i shape there after extends room whole_events whole_sectors call later =
    let s = sum-set (λ (q : Pass). q.events) c.passes i p p' there in let t = sum-set (λ (q : Pass). q.sectors) c.passes i p p' there in
    let a = roomy.spare_events in let b = roomy.spare_sectors in let c1 = extends.events_left in let d = extends.sectors_left in
    let e = ap (λ (ps : List Pass). sum_by (λ (q : Pass). q.events) ps) after in let f = ap (λ (ps : List Pass). sum_by (λ (q : Pass). q.sectors) ps) after in
    let same = ap (λ (r : Room). r.events) extends.room in
    record {
      later = let l = last-extended extends in omega (arith, l, later);
      spare_events = omega (arith, s, a, c1, e, whole_events);
      spare_sectors = omega (arith, t, b, d, f, whole_sectors);
      reserved = λ j q at. subst (λ (x : Shape). HasRoom x.block q) (sym shape)
          (rooms-set c.shape.block c.passes i p p' there roomy.reserved room j q (subst (λ (ps : List Pass). slice_get ps j ≡ Some q) after at));
      calls = λ j q at. elim (at-set c.passes i j p' p q there (subst (λ (ps : List Pass). slice_get ps j ≡ Some q) after at)) [
        | inl own ↦ let g1 = ap (λ (x : Pass). x.call) own.1 in let h = roomy.calls i p there in omega (arith, c1, g1, h, call, same)
        | inr other ↦ let h = roomy.calls j q other.1 in omega (arith, c1, h, same)
      ];
      bounded = let n = roomy.bounded in omega (arith, n, same);
    }
