-- What steps leave of the devices and of the disk, one after the other.
use Rattle.std.proofs.Common.{◌≡◌, ℕ, refl, ◌∙◌, ap, subst, length, Option}
use Rattle.vd_law.specs.declared.entry.Answer.{Answer}
use Rattle.vd_law.specs.Entries.{Asked}
use Rattle.vd_device.specs.declared.store.Store as store
use Rattle.vd_device.specs.declared.base.Base as base
use Rattle.vd_device.specs.Stores.{IsTold, KeepsStore}
use Rattle.vd_device.specs.Bases.{KeepsBase}
use Rattle.vd_device.proofs.Keeping.{keeps-same, base-keeps-same}
use Rattle.vd_table.specs.Tables.{TableState}
use Rattle.vd_machine.specs.Views.{View}
use Rattle.vd_machine.specs.AskSteps.{AskStep}
use Rattle.vd_drive.specs.Drivers.{LeavesDisk}
use Rattle.vd_run.proofs.Guest.Asks.{ask-keeps}
use Rattle.vd_run.specs.Driving.{IsSameDisk}

pub same-disk : {S B : Type 0} {core : View S B} → IsSameDisk core core
same-disk = record { fixed = refl; shape = refl; chunks = refl; storage = refl }

module _ {S B : Type 0} {core core' core'' : View S B} where
  pub disk-then : IsSameDisk core core' → IsSameDisk core' core'' → IsSameDisk core core''
  disk-then first next = record {
    fixed = next.fixed ∙ first.fixed;
    shape = next.shape ∙ first.shape;
    chunks = next.chunks ∙ first.chunks;
    storage = next.storage ∙ first.storage;
  }

-- An ask leaves the devices, the flush under way and the disk as they were.
module _ {S B : Type 0} {g : store.Ghosts S} {core core' : View S B} {result : Option Answer} {request : Asked} {pass : ℕ} (asks : AskStep g result request pass core core') where
  pub ask-flusher : core'.flusher ≡ core.flusher
  ask-flusher = ap (λ (c : View S B). c.flusher) asks.others

  pub ask-store : IsTold g core'.store → KeepsStore g core.store core'.store
  ask-store told = subst (λ (s : S). KeepsStore g s core'.store) (ap (λ (c : View S B). c.store) asks.others) (keeps-same g core'.store told)

  pub ask-base : (h : base.Ghosts B) → KeepsBase h core.base core'.base
  ask-base h = subst (λ (b : B). KeepsBase h b core'.base) (ap (λ (c : View S B). c.base) asks.others) (base-keeps-same h core'.base)

  pub ask-disk : IsSameDisk core core'
  ask-disk = let kept = ask-keeps result asks.ends in record {
    fixed = ap (λ (c : View S B). c.fixed) asks.others;
    shape = ap (λ (c : View S B). c.shape) asks.others;
    chunks = kept.0;
    storage = kept.1;
  }

-- So does a step of a driver leave the disk.
pub step-disk : {S B : Type 0} {core core' : View S B} → LeavesDisk core core' → IsSameDisk core core'
step-disk leaves = record {
  fixed = leaves.fixed;
  shape = leaves.shape;
  chunks = ap (λ (t : TableState). length t.chunks) leaves.table;
  storage = ap (λ (t : TableState). t.storage) leaves.table;
}
