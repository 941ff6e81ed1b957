-- A device that a step doesn't touch is kept.
use Rattle.std.proofs.Common.{◌≡◌, sym, subst}
use Rattle.vd_device.specs.declared.store.Store as store
use Rattle.vd_device.specs.declared.base.Base as base
use Rattle.vd_device.specs.Stores.{IsTold, KeepsStore}
use Rattle.vd_device.specs.Bases.{KeepsBase}
use Rattle.vd_device.proofs.Keeping.{keeps-same, base-keeps-same}

pub store-untouched : {S : Type 0} (g : store.Ghosts S) (s s' : S) → s' ≡ s → IsTold g s → KeepsStore g s s'
store-untouched g s s' same told = subst (KeepsStore g s) (sym same) (keeps-same g s told)

pub base-untouched : {B : Type 0} (h : base.Ghosts B) (b b' : B) → b' ≡ b → KeepsBase h b b'
base-untouched h b b' same = subst (KeepsBase h b) (sym same) (base-keeps-same h b)
