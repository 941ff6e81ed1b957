use Rattle.std.proofs.Common.{◌≡◌, ◌^◌, ◌<◌, Bool, true, length, refl, sym, ◌∙◌, ap, subst, arith}
use Rattle.vd_device.specs.Tickets.{Takes}
use Rattle.vd_device.specs.declared.ticket.Kind.TheVariants.{Read}
use Rattle.vd_device.specs.Calls.{settled_of, settle_entries, Gives}
use Rattle.vd_device.specs.Disks.{HasStopped}
use Rattle.vd_device.specs.Stores.{StoreTakes}
use Rattle.vd_mem.specs.StoreState.{MemStoreState, StillRuns, disk_of, ended_by, can_add, is_done, last_entry}
use Rattle.vd_mem.specs.Flying.{Flies}
use Rattle.vd_mem.specs.Sound.{IsSoundMemStore}
use Rattle.vd_mem.specs.Devices.{mem_store}
use Rattle.vd_faults.specs.Traced.{IsTracedTape}
use Rattle.vd_mem.specs.StoreFields.{memory_of}
use Rattle.vd_mem.proofs.Taking.{takes}
use Rattle.vd_mem.proofs.Ending.{end-placed, end-within, end-few, end-takes, end-took, end-full, end-grows, end-sound, answered, read_by, answer-settles, answer-caused, answer-gives, answer-entries, few-entries, answer-undone}
use Rattle.vd_mem.proofs.Tracing.{end-traced}
use Rattle.vd_mem.proofs.Views.{memory, memory-ended}
use Rattle.vd_mem.proofs.store.MemStoreStore.wait.Goals as goal
use Rattle.vd_faults.specs.Tapes.{events_told}

pub end-done-requires-clause-within : goal.end-done-requires-clause-within
end-done-requires-clause-within c =
    let mine = rw (sym c.self.view_is) at c.requires.mine in
    end-within (memory_of c.self.inside) c.args.ticket c.fault-fault.result c.self.invariant.sound mine.0 mine.1 mine.2 mine.3

pub end-done-requires-clause-few : goal.end-done-requires-clause-few
end-done-requires-clause-few c =
    let mine = rw (sym c.self.view_is) at c.requires.mine in
    end-few (memory_of c.self.inside) c.args.ticket c.fault-fault.result c.self.invariant.sound mine.0 mine.1 mine.2 mine.3

pub end-done-requires-clause-placed : goal.end-done-requires-clause-placed
end-done-requires-clause-placed c =
    let mine = rw (sym c.self.view_is) at c.requires.mine in
    end-placed (memory_of c.self.inside) c.args.ticket c.fault-fault.result c.self.invariant.sound mine.0 mine.1 mine.2 mine.3

abbrev before : goal.After-answer → MemStoreState
before c = memory_of c.self.inside

abbrev after : goal.After-answer → MemStoreState
after c = memory c.self.inside.start.items c.end-done.new.held.items c.end-done.new.tape c.end.new.self

abbrev can : goal.After-answer → Bool
can c = can_add (before c) (last_entry c.fault-fault.result c.args.ticket c.self.inside.held.items)

abbrev ended : goal.After-answer → MemStoreState
ended c = ended_by c.fault-fault.result c.args.ticket (before c)

is : (c : goal.After-answer) → after c ≡ ended_by c.fault-fault.result c.args.ticket (before c)
is c = memory-ended c.self.inside.start.items c.self.inside.held.items c.end-done.new.held.items c.self.inside.tape c.end-done.new.tape c.self.inside.tickets c.end.new.self c.fault-fault.result c.args.ticket c.end-done.result
    c.end-done.ensures.tape c.end-done.ensures.held c.end-done.ensures.done c.end.ensures.after

pub invariant_of-self : goal.invariant_of-self
invariant_of-self c =
    let mine = rw (sym c.self.view_is) at c.requires.mine in
    record {
      sound = subst IsSoundMemStore (sym (is c)) (end-sound (before c) c.args.ticket c.fault-fault.result c.self.invariant.sound mine.0 mine.1 mine.2 mine.3 (subst (λ (m : MemStoreState). length m.log.entries < 2 ^ 63) (is c) c.end-done.ensures.short));
      traced = subst (IsTracedTape (length c.self.inside.start.items)) (sym c.end-done.ensures.tape)
          (end-traced (before c) c.args.ticket c.fault-fault.result c.self.inside.held.items c.self.inside.tape mine.0 mine.1 mine.2 mine.3 refl refl c.self.invariant.traced);
      scratch = c.self.invariant.scratch;
    }

is-answer : (c : goal.After-answer) → settled_of c.answer.result ≡ answered (is_done c.fault-fault.result (can c)) c.spend.result
is-answer c = c.answer.ensures ∙ ap (λ (b : Bool). answered b c.spend.result) c.end-done.ensures.done

was-read : (c : goal.After-answer) → is_done c.fault-fault.result (can c) ≡ true → c.args.ticket.kind ≡ Read → c.end-done.new.out ≡ read_by c.args.ticket c.self.inside.held.items
was-read c done = c.end-done.ensures.read (c.end-done.ensures.done ∙ done)

pub returns-clause-settles : goal.returns-clause-settles
returns-clause-settles c =
    let mine = rw (sym c.self.view_is) at c.requires.mine in let answer = settled_of c.answer.result in
    let late = ap (λ t. t.late) c.end.ensures.after in let last = ap (λ t. t.last) c.end.ensures.after in
    let es = settle_entries answer c.args.ticket c.end-done.new.out in
    rw (sym c.self.view_is) (record {
      settles = answer-settles c.end-done.result answer c.spend.result c.args.ticket c.args.out.now c.end-done.new.out (Flies (before c)) (Flies (after c)) c.answer.ensures c.spend.ensures c.end-done.ensures.unread
          (subst (λ (m : MemStoreState). Takes c.args.ticket (Flies (before c)) (Flies m)) (sym (is c)) (end-takes (before c) c.args.ticket c.fault-fault.result c.self.invariant.sound));
      cause = answer-caused c.end-done.result answer c.spend.result c.self.inside.tickets.faults c.end.new.self.faults c.self.inside.tickets.late c.end.new.self.late c.answer.ensures
          (ap (λ t. t.faults) c.end.ensures.after) c.end.ensures.calm late;
      last = last;
      counts = record { sectors = refl; depth = refl; faults = c.end.ensures.calm; late = omega (arith, late); last = omega (arith, last) };
      takes = subst (λ (m : MemStoreState). StoreTakes mem_store es (before c) m) (sym (is c))
          (takes es (before c) (ended c) (few-entries answer c.args.ticket c.end-done.new.out) c.self.invariant.sound.short
          (end-took (before c) c.args.ticket c.fault-fault.result c.self.invariant.sound mine.0 mine.1 mine.2 mine.3 es
          (answer-entries c.fault-fault.result (can c) answer c.spend.result c.args.ticket c.self.inside.held.items c.end-done.new.out (is-answer c) (was-read c))));
      gives = λ runs. (let grows = end-grows (before c) c.args.ticket c.fault-fault.result c.self.invariant.sound mine.0 mine.1 mine.2 mine.3 (subst StillRuns (is c) runs) in
          subst (λ (m : MemStoreState). Gives answer c.args.ticket c.end-done.new.out m.held) (sym (is c))
          (answer-gives c.fault-fault.result (can c) answer c.spend.result c.args.ticket (disk_of (before c)) (disk_of (ended c)) c.end-done.new.out (is-answer c) grows.0 grows.2 (was-read c)));
      undone = λ recorded stopped. answer-undone c.fault-fault.result (can c) answer c.spend.result (is-answer c)
          (end-full (before c) c.args.ticket c.fault-fault.result c.self.invariant.sound (subst (λ (m : MemStoreState). HasStopped (events_told m.log m.over) (disk_of m)) (is c) stopped));
    })
