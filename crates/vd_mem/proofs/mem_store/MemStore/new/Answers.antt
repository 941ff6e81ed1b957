use Rattle.std.proofs.Common.{length, ◌∙◌, ap}
use Rattle.vd_mem.specs.StoreFields.{memory_of}
use Rattle.vd_mem.proofs.Beginning.{sound-first}
use Rattle.vd_mem.proofs.mem_store.MemStore.new.Goals as goal
use Rattle.vd_faults.proofs.Origins.{traced-nothing}

pub invariant_of-result : goal.invariant_of-result
invariant_of-result c =
    let made = c.in_ok-tape.ensures {u = tt} in
    record {
      sound = sound-first (memory_of (record { start = c.args.content; held = c.in_ok-held.held; tape = c.in_ok-tape.tape; tickets = c.new-2.result; versions = c.in_ok-versions.versions }))
          (c.in_ok-held.ensures {u = tt}) (ap (λ t. t.log.entries) made) (ap (λ t. t.last) c.new-2.ensures) (ap (λ t. t.flying) c.new-2.ensures);
      traced = traced-nothing (length c.args.content.items) c.in_ok-tape.tape (ap (λ t. t.log.entries) made) (ap (λ t. t.origins) made) (ap (λ t. t.sealed) made);
      scratch = c.in_ok-versions.ensures {u = tt} ∙ c.len.ensures ∙ c.args.content.ok.0;
    }
