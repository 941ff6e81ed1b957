-- The room in the history after a step of one pass.
use Rattle.std.proofs.Common.{◌≡◌, ℕ, ◌<◌, ◌≤◌, List, [], ◌∷◌, length, refl, sym, ap, subst, arith, append-nil, Some, slice_get, slice_set}
use Rattle.std.specs.List.{sum_by, AllByRecursion}
use Rattle.vd_law.specs.declared.entry.Room.{Room}
use Rattle.vd_law.specs.Histories.{HistoryState, IsRising, last_number}
use Rattle.vd_passes.specs.declared.pass.Pass.{Pass}
use Rattle.vd_passes.specs.Needs.{HasRoom}
use Rattle.vd_passes.proofs.Needing.{Uses, sum-part}
use Rattle.vd_machine.specs.Adding.{CanAdd, AddsEntries}
use Rattle.vd_machine.specs.Views.{View}
use Rattle.vd_machine.specs.Sound.{RoomIsReserved}
use Rattle.vd_passes.specs.declared.shape.Shape.{Shape}
use Rattle.vd_device.specs.declared.store.Store as store
use Rattle.vd_legal.proofs.Reserving.{room-shared}
use Rattle.vd_machine.proofs.Entries.{last-extended}

last-least : (from : ℕ) (ns : List ℕ) → IsRising from ns → from ≤ last_number from ns
last-least from [] rising = omega arith
last-least from (n ∷ ns) rising = let rest = last-least n ns rising.1 in let first = rising.0 in omega (arith, rest, first)

-- no number is above the last one
pub rising-below : (from : ℕ) (ns : List ℕ) (m : ℕ) → IsRising from ns → last_number from ns ≤ m → AllByRecursion (λ (n : ℕ). n ≤ m) ns
rising-below from [] m rising below = tt
rising-below from (n ∷ ns) m rising below = ((let least = last-least n ns rising.1 in omega (arith, least, below)), rising-below n ns m rising.1 below)

-- One more entry of a pass can be added, in the room that it has reserved.
pub can-add : {S B : Type 0} {g : store.Ghosts S} {c : View S B} → RoomIsReserved g c → (i : ℕ) (p : Pass) → slice_get c.passes i ≡ Some p → (sectors : ℕ)
    → 0 < p.events → sectors ≤ p.sectors → sectors ≤ 2048
    → CanAdd sectors c.history (g.events c.store)
can-add {c = c} roomy i p there sectors some fits short =
    let a = sum-part (λ (q : Pass). q.events) c.passes i p there in let b = sum-part (λ (q : Pass). q.sectors) c.passes i p there in
    let e = roomy.spare_events in let d = roomy.spare_sectors in
    record { event = omega (arith, a, e, some); sectors_fit = omega (arith, b, d, fits); short = short; later = roomy.later }

module _ {S B : Type 0} {g : store.Ghosts S} {c c' : View S B} (roomy : RoomIsReserved g c) (shape : c'.shape ≡ c.shape) (left : c'.spare ≡ c.spare) where
  -- A step of one pass, whose entries are in the room that it had reserved.
  pub room-used : (i : ℕ) {p p' : Pass} {more : List ℕ} {sectors : ℕ} → slice_get c.passes i ≡ Some p → c'.passes ≡ slice_set c.passes i p'
      → AddsEntries more sectors c.history c'.history → HasRoom c.shape.block p' → Uses (length more) sectors p p' → p'.call ≡ p.call
      → last_number (last_number c.history.opened c.history.numbers) more ≤ g.events c'.store → RoomIsReserved g c'
  room-used i {p} {p'} there after extends room uses call later =
      let a = uses.events_used in let b = uses.sectors_used in let d = ap (λ (r : Room). r.events) left in let e = ap (λ (r : Room). r.sectors) left in
      room-shared roomy i shape there after extends room (omega (arith, a, d)) (omega (arith, b, e)) (omega (arith, call)) later

  -- The same where it adds no entry.
  pub room-same : (i : ℕ) {p p' : Pass} → slice_get c.passes i ≡ Some p → c'.passes ≡ slice_set c.passes i p' → c'.history ≡ c.history
      → HasRoom c.shape.block p' → p'.events ≡ p.events → p'.sectors ≡ p.sectors → p'.call ≡ p.call → g.events c.store ≤ g.events c'.store → RoomIsReserved g c'
  room-same i {p} {p'} there after same room same_events same_sectors call rise =
      let none : AddsEntries [] 0 c.history c.history = record
      { numbers = sym (append-nil c.history.numbers); opened = refl; room = refl; events_left = omega arith; sectors_left = omega arith } in
      room-used i there after (subst (λ (x : HistoryState). AddsEntries [] 0 c.history x) (sym same) none) room
      (record { events_used = omega (arith, same_events); sectors_used = omega (arith, same_sectors) }) call (let l = roomy.later in omega (arith, l, rise))

  -- A step that was too early.
  pub room-late : c'.passes ≡ c.passes → AddsEntries [] 0 c.history c'.history → g.events c.store ≤ g.events c'.store → RoomIsReserved g c'
  room-late same extends rise =
      let a = roomy.spare_events in let b = roomy.spare_sectors in let n = extends.events_left in let d = extends.sectors_left in
      let e = ap (λ (ps : List Pass). sum_by (λ (q : Pass). q.events) ps) same in let f = ap (λ (ps : List Pass). sum_by (λ (q : Pass). q.sectors) ps) same in
      let whole = ap (λ (r : Room). r.events) extends.room in let u = ap (λ (r : Room). r.events) left in let v = ap (λ (r : Room). r.sectors) left in
      record {
        later = let l = last-extended extends in let h = roomy.later in omega (arith, l, h, rise);
        spare_events = omega (arith, a, n, e, u);
        spare_sectors = omega (arith, b, d, f, v);
        reserved = λ j q at. subst (λ (x : Shape). HasRoom x.block q) (sym shape)
            (roomy.reserved j q (subst (λ (ps : List Pass). slice_get ps j ≡ Some q) same at));
        calls = λ j q at. let h = roomy.calls j q (subst (λ (ps : List Pass). slice_get ps j ≡ Some q) same at) in omega (arith, n, h, whole);
        bounded = let n = roomy.bounded in omega (arith, n, whole);
      }
