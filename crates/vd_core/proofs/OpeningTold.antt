-- What a core as it is made keeps of its devices and of the metadata.
use Rattle.std.proofs.Common.{◌≡◌, ℕ, ◌*◌, ◌/◌, ◌<◌, List, length, refl, sym, ◌∙◌, ap, inl, arith, Some, Option, slice_get}
use Rattle.vd_lists.proofs.Places.{some_place}
use Rattle.vd_law.specs.declared.entry.Room.{Room}
use Rattle.vd_device.specs.declared.store.Store as store
use Rattle.vd_device.specs.declared.base.Base as base
use Rattle.vd_device.specs.Disks.{IsHonest}
use Rattle.vd_format.specs.declared.map.Entry.{Entry as MapEntry}
use Rattle.vd_replay.specs.declared.state.State.{State}
use Rattle.vd_replay.specs.States.{IsWholeState, StateSays}
use Rattle.vd_replay.proofs.StateLaws.{in_mask}
use Rattle.vd_passes.specs.declared.pass.Pass.{Pass}
use Rattle.vd_passes.specs.Tracks.{track}
use Rattle.vd_passes.proofs.Tracing.{new-followed}
use Rattle.vd_machine.specs.Opened.{is_in, was_local, HaveMarks}
use Rattle.vd_machine.specs.Sound.{MetadataAgrees}
use Rattle.vd_machine.specs.Telling.{IsFaithfullyKept, LogAgrees}
use Rattle.vd_machine.proofs.Others.{new-attended}
use Rattle.vd_machine.proofs.Starting.{all-told}
use Rattle.vd_core.specs.Opening.{disk_shape, AreNew}
use Rattle.vd_core.proofs.StartingTold.{stands-at}
use Rattle.vd_core.proofs.OpeningParts.{whole-blocks, new_view}

-- the blocks that are local are those of the map
pub new-bits : (s : State) (base_sectors : ℕ) → IsWholeState s → (b : ℕ) → b < (disk_shape s.header base_sectors).blocks
    → slice_get s.fresh.bits b ≡ Some (was_local (disk_shape s.header base_sectors) s.map b)
new-bits s base_sectors whole b within =
    let bit = some_place s.fresh.bits b (let size = whole.sized.fresh in omega (arith, within, size)) in
    let m = in_mask s.header s.map s.fresh b bit.0 whole.sized.valid whole.sized.map whole.sized.chunk whole.sized.fresh whole.spread bit.1 in
    let same : was_local (disk_shape s.header base_sectors) s.map b ≡ bit.0 = ap
    (λ (o : Option MapEntry). is_in o (b / s.header.chunk * s.header.chunk) b) m.1 ∙ sym m.2 in
    bit.1 ∙ ap Some (sym same)

new-marks : (s : State) (base_sectors : ℕ) → IsWholeState s → HaveMarks (disk_shape s.header base_sectors) s.map s.fresh.bits
new-marks s base_sectors whole b within was = new-bits s base_sectors whole b within ∙ ap Some was

-- the keeper is a new one, and no flush is under way
pub opened-recorded : {S B : Type 0} (h : base.Ghosts B) (events : ℕ) (x : S) (y : B) (s : State) → IsWholeState s → s.header.version ≡ 2
    → {passes : List Pass} {count block : ℕ} (room : Room) → AreNew count block passes
    → MetadataAgrees (new_view h events s passes room x y)
opened-recorded h events x y s whole version room new = record {
  attended = new-attended s.header s.fresh s.more s.cursor.next refl whole.sized.valid version
      (let next = whole.next in let slots = whole.sized.slots in omega (arith, next, slots))
      whole.sized.chunk whole.sized.fresh (let more = whole.sized.more in omega (arith, more)) refl refl refl refl refl whole.sized.table whole.sized.storage
      (λ i p there flushing. absurd (let other = sym (new.each i p there).phase ∙ flushing in cc));
  same = refl;
  stale = new-marks s (h.sectors y) whole;
}

module _ {S B : Type 0} (g : store.Ghosts S) (h : base.Ghosts B) (x : S) (y : B) (s : State) {passes : List Pass} {count : ℕ} (room : Room)
    (new : AreNew count s.header.block passes)
    (all : g.events x ≡ length (g.disk x).log) where
  pub opened-logged : LogAgrees g (new_view h (g.events x) s passes room x y)
  opened-logged = record { since = omega (arith, all); followed = new-followed new.each (g.disk x).log }

  -- whatever the guest's disk was, the store agrees with it where blocks are local, and the base elsewhere
  pub opened-told : IsWholeState s → s.header.version ≡ 2 → length (h.content y) ≡ h.sectors y → IsHonest (g.disk x) → StateSays (g.disk x).held s
      → IsFaithfullyKept g h (new_view h (g.events x) s passes room x y)
  opened-told whole version base_size honest says = let disk = g.disk x in record {
    base_size = base_size;
    faithful = λ start is. record {
      size = is.size ∙ sym (whole-blocks s.header whole.sized.valid);
      shown = tt;
      numbers = λ i p t there has. absurd (let none = sym (new.each i p there).ticket ∙ has in cc);
      distinct = λ i j p q t u there_p there_q other has_t. absurd (let none = sym (new.each i p there_p).ticket ∙ has_t in cc);
      stands = λ at inside. stands-at s whole version disk (g.events x) all honest says (h.content y) start is (h.sectors y) at inside;
      filling = λ a above. inl (record {
        nobody = λ i p there w. let phase = w.phase in let other = sym (new.each i p there).phase ∙ phase in cc;
        none = ap (λ log. (track disk.start log a).writes) (sym (all-told disk (g.events x) all)) ∙ (is.clean a).none;
      });
      buffers = λ i p there is_filled. absurd (let other = sym (new.each i p there).phase ∙ is_filled in cc);
    };
  }
