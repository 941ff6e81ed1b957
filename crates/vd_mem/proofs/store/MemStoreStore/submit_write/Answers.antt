use Rattle.std.proofs.Common.{◌≡◌, ℕ, ◌^◌, ◌<◌, [], ◌∷◌, length, refl, sym, ◌∙◌, ap, subst}
use Rattle.vd_law.specs.declared.entry.CallId.{CallId}
use Rattle.vd_law.specs.Entries.{Entry, Issue}
use Rattle.vd_device.specs.Tickets.{Puts, ticket_id}
use Rattle.vd_device.specs.Calls.{issue_entry}
use Rattle.vd_device.specs.Stores.{StoreTakes}
use Rattle.vd_faults.specs.Tapes.{taped}
use Rattle.vd_mem.specs.StoreState.{MemStoreState, submitted}
use Rattle.vd_mem.specs.Flying.{Flies}
use Rattle.vd_mem.specs.Sound.{IsSoundMemStore}
use Rattle.vd_mem.specs.Devices.{mem_store}
use Rattle.vd_faults.specs.Traced.{IsTracedTape}
use Rattle.vd_mem.specs.StoreFields.{memory_of}
use Rattle.vd_mem.proofs.Submits.{IsSubmit, submit-puts, submit-takes, submit-sound}
use Rattle.vd_mem.proofs.Tracing.{submit-traced}
use Rattle.vd_mem.proofs.Views.{memory, memory-submitted, write-submit}
use Rattle.vd_mem.proofs.store.MemStoreStore.submit_write.Goals as goal

abbrev before : goal.After-new → MemStoreState
before c = memory_of c.self.inside

abbrev after : goal.After-new → MemStoreState
after c = memory c.self.inside.start.items c.self.inside.held.items c.add.new.self c.submit-number.new.self

abbrev entry : goal.After-new → Entry
entry c = issue_entry c.new.result c.args.content.now

entry-is : (c : goal.After-new) → Issue c.call_of-id.result c.args.first c.args.content.now ≡ entry c
entry-is c = ap (λ (id : CallId). Issue id c.args.first c.args.content.now) (c.call_of-id.ensures ∙ ap (λ (n : ℕ). record { pass = 0; call = n }) (sym c.new.ensures.number))
    ∙ ap (λ (n : ℕ). Issue (ticket_id c.new.result) n c.args.content.now) (sym c.new.ensures.first)

on_tape : (c : goal.After-new) → c.add.new.self ≡ taped (entry c) c.len-place.result c.self.inside.tape
on_tape c = c.add.ensures.after ∙ ap (λ (e : Entry). taped e c.len-place.result c.self.inside.tape) (entry-is c)

is : (c : goal.After-new) → after c ≡ submitted (entry c) (before c)
is c = memory-submitted c.self.inside.start.items c.self.inside.held.items c.self.inside.tape c.add.new.self c.self.inside.tickets c.submit-number.new.self (entry c) c.len-place.result (on_tape c) c.submit-number.ensures.after

submit : (c : goal.After-new) → IsSubmit (before c) c.new.result (entry c)
submit c = write-submit (before c) c.new.result c.args.first c.args.content.now (c.new.ensures.number ∙ c.submit-number.ensures.number) c.new.ensures.kind c.new.ensures.first c.new.ensures.count (c.new.ensures.mark ∙ c.len-place.ensures)
    (rw (sym c.self.view_is) at c.requires.range) (rw (sym c.self.view_is) at c.requires.free)

pub invariant_of-self : goal.invariant_of-self
invariant_of-self c = record {
  sound = subst IsSoundMemStore (sym (is c)) (submit-sound (before c) c.new.result (entry c) (submit c) c.self.invariant.sound (subst (λ (m : MemStoreState). length m.log.entries < 2 ^ 63) (is c) c.add.ensures.short));
  traced = subst (IsTracedTape (length c.self.inside.start.items)) (sym (on_tape c ∙ ap (λ (k : ℕ). taped (entry c) k c.self.inside.tape) (sym c.new.ensures.mark)))
      (submit-traced (before c) c.new.result (entry c) c.self.inside.tape (submit c) refl c.self.invariant.traced);
  scratch = c.self.invariant.scratch;
}

pub returns-clause-flight : goal.returns-clause-flight
returns-clause-flight c =
    rw (sym c.self.view_is) (subst (λ (m : MemStoreState). Puts c.new.result (Flies (before c)) (Flies m)) (sym (is c)) (submit-puts (before c) c.new.result (entry c) (submit c) c.self.invariant.sound))

pub returns-clause-takes : goal.returns-clause-takes
returns-clause-takes c =
    rw (sym c.self.view_is) (subst (λ (m : MemStoreState). StoreTakes mem_store (entry c ∷ []) (before c) m) (sym (is c)) (submit-takes (before c) c.new.result (entry c) (submit c) c.self.invariant.sound))
