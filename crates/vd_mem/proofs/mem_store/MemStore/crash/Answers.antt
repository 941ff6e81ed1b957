use Rattle.std.proofs.Common.{length, sym, ap, ◌∙◌}
use Rattle.vd_mem.specs.StoreState.{disk_of}
use Rattle.vd_mem.specs.StoreFields.{memory_of}
use Rattle.vd_faults.proofs.Choice.{chosen-allowed}
use Rattle.vd_faults.proofs.Origins.{traced-nothing}
use Rattle.vd_mem.proofs.Beginning.{sound-first}
use Rattle.vd_mem.proofs.mem_store.MemStore.crash.Goals as goal

pub copy-requires : goal.copy-requires
copy-requires g c = c.self.invariant.sound.size ∙ sym (c.leave_image.ensures.image c.self.inside.held.items).size

pub returns-clause-image : goal.returns-clause-image
returns-clause-image g c = rw (sym c.self.view_is) (c.leave_image.ensures.image c.self.inside.held.items)

pub returns-clause-asked : goal.returns-clause-asked
returns-clause-asked g c = rw (sym c.self.view_is) (c.leave_image.ensures.asked c.self.inside.held.items)

pub returns-clause-allowed : goal.returns-clause-allowed
returns-clause-allowed g c = chosen-allowed g.C.Chooser.choice c.args.chooser.now (disk_of c.args.self) c.leave_image.new.image.items (returns-clause-image g c)

pub invariant_of-result : goal.invariant_of-result
invariant_of-result g c = record {
  sound = sound-first (memory_of (record { start = c.leave_image.new.image; held = c.copy.new.to; tape = c.clear.new.self; tickets = c.clear-2.new.self; versions = c.leave_image.new.all }))
      c.copy.ensures (ap (λ t. t.log.entries) c.clear.ensures) (ap (λ t. t.last) c.clear-2.ensures) (ap (λ t. t.flying) c.clear-2.ensures);
  traced = traced-nothing (length c.leave_image.new.image.items) c.clear.new.self (ap (λ t. t.log.entries) c.clear.ensures) (ap (λ t. t.origins) c.clear.ensures) (ap (λ t. t.sealed) c.clear.ensures);
  scratch = c.leave_image.ensures.size ∙ c.self.invariant.scratch ∙ sym (c.leave_image.ensures.image c.self.inside.held.items).size;
}
