-- How a pass of a core stands.
use Rattle.std.proofs.Common.{◌≡◌, ℕ, Some, slice_get}
use Rattle.vd_device.specs.declared.store.Store as store
use Rattle.vd_device.specs.declared.base.Base as base
use Rattle.vd_passes.specs.declared.pass.Pass.{Pass}
use Rattle.vd_machine.specs.Phases.{IsInPhase}
use Rattle.vd_machine.specs.Views.{View}
use Rattle.vd_machine.specs.Sound.{IsSound}

pub standing : {S B : Type 0} {g : store.Ghosts S} {h : base.Ghosts B} {c : View S B} → IsSound g h c → (i : ℕ) (p : Pass) → slice_get c.passes i ≡ Some p
    → IsInPhase c.shape p
standing kept i p there = let stands = kept.coherent.each i p there in record {
  some = kept.coherent.shaped.some;
  write = stands.write;
  read = stands.read;
  left = stands.left;
  flush = stands.flush;
  no_flush = stands.no_flush;
  piece = stands.piece;
}
