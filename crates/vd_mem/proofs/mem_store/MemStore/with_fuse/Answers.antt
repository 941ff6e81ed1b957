use Rattle.std.proofs.Common.{length, sym, subst}
use Rattle.vd_mem.specs.StoreFields.{memory_of}
use Rattle.vd_faults.specs.Tapes.{TapeState}
use Rattle.vd_faults.specs.Traced.{IsTracedTape}
use Rattle.vd_mem.specs.Sound.{IsSoundMemStore}
use Rattle.vd_mem.proofs.Views.{memory}
use Rattle.vd_mem.proofs.Fuses.{fused-sound, fused-traced}
use Rattle.vd_mem.proofs.mem_store.MemStore.with_fuse.Goals as goal

pub invariant_of-self : goal.invariant_of-self
invariant_of-self c = record {
  sound = subst (λ (t : TapeState). IsSoundMemStore (memory c.self.inside.start.items c.self.inside.held.items t c.self.inside.tickets)) (sym c.set_fuse.ensures) (fused-sound (memory_of c.self.inside) c.args.fuse c.self.invariant.sound);
  traced = subst (IsTracedTape (length c.self.inside.start.items)) (sym c.set_fuse.ensures) (fused-traced _ c.self.inside.tape c.args.fuse c.self.invariant.traced);
  scratch = c.self.invariant.scratch;
}
