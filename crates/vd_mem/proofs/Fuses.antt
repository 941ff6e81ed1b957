-- A fuse changes nothing of what holds.
use Rattle.std.proofs.Common.{ℕ, Option}
use Rattle.vd_faults.specs.Tapes.{TapeState}
use Rattle.vd_faults.specs.Traced.{IsTracedTape}
use Rattle.vd_mem.specs.StoreState.{MemStoreState}
use Rattle.vd_mem.specs.Sound.{IsSoundMemStore}

pub fused-sound : (m : MemStoreState) (fuse : Option ℕ) → IsSoundMemStore m → IsSoundMemStore (record m { fuse = fuse })
fused-sound m fuse sound = record {
  size = sound.size;
  short = sound.short;
  told = λ runs. record { numbers = (sound.told runs).numbers; honest = (sound.told runs).honest; order = (sound.told runs).order };
  flight = (sound.flight.0, record { many = sound.flight.1.many; within = sound.flight.1.within; calls = sound.flight.1.calls });
}

pub fused-traced : (n : ℕ) (tape : TapeState) (fuse : Option ℕ) → IsTracedTape n tape → IsTracedTape n (record tape { fuse = fuse })
fused-traced n tape fuse traced = record { all = traced.all; each = traced.each; sealed = traced.sealed; firm = traced.firm }
