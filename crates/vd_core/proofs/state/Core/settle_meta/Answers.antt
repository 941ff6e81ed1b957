use Rattle.std.proofs.Common.{◌≡◌, ◌<◌, ◌⊎◌, ◌∙◌, sym, refl, ap, subst, inl, inr, length, arith, List, slice_set, Some, None}
use Rattle.std.proofs.lemmas.List.{nil_from_length}
use Rattle.std.proofs.lemmas.Option.{slice_get_within}
use Rattle.vd_device.specs.declared.ticket.Ticket.{Ticket}
use Rattle.vd_device.specs.declared.ticket.Kind.TheVariants.{Write, Flush}
use Rattle.vd_device.specs.declared.settled.Settled.TheVariants.{Done, NotYet, Failed}
use Rattle.vd_device.specs.Tickets.{IsInFlight, reads_of, sectors_read}
use Rattle.vd_passes.specs.declared.pass.Pass.{Pass}
use Rattle.vd_passes.specs.declared.pass.Fault.TheVariants as fault
use Rattle.vd_passes.specs.Passes.{after_fault}
use Rattle.vd_passes.specs.Requests.{with_pass}
use Rattle.vd_passes.proofs.Flushing.{meta_settled-regions}
use Rattle.vd_passes.proofs.Lists.{some-inj, length-set'}
use Rattle.vd_machine.proofs.Members.{read-there, read-back, picked, set-twice}
use Rattle.vd_machine.proofs.Submitting.{put-back, call-failed}
use Rattle.vd_machine.proofs.Sending.{settles-meta}
use Rattle.vd_machine.specs.Views.{View, view_requests}
use Rattle.vd_machine.specs.Steps.{By_settle_meta}
use Rattle.vd_machine.specs.FlushSteps.{SettleMetaStep}
use Rattle.vd_metadata.proofs.FlushingReady.{away-call, away-settling}
use Rattle.vd_core.proofs.Releasing.{counted}
use Rattle.vd_core.specs.declared.state.Core.TheView.{view}
use Rattle.vd_core.proofs.Kept.{kept-on}
use Rattle.vd_core.proofs.state.Core.settle_meta.Given.{Over}
use Rattle.vd_core.proofs.state.Core.settle_meta.Goals as goal
use Rattle.vd_core.proofs.state.Core.settle_meta.Goals.{After-settled, After-put_ticket, After-fail}

-- neither a write nor a flush reads
nothing-read : (t u : Ticket) → t ≡ u → (t.kind ≡ Write) ⊎ (t.kind ≡ Flush) → 0 ≡ sectors_read u
nothing-read t u same (inl write) = sym (ap (λ k. reads_of k u.count) (ap (λ (x : Ticket). x.kind) (sym same) ∙ write))
nothing-read t u same (inr flush) = sym (ap (λ k. reads_of k u.count) (ap (λ (x : Ticket). x.kind) (sym same) ∙ flush))

pub settle-requires-clause-mine : goal.settle-requires-clause-mine
settle-requires-clause-mine g c =
    let at = rw (sym c.self.view_is) at c.requires.phase in let away = away-call c.self.invariant.0.sound c.self.invariant.0.sound.metadata c.args.pass at in
    let passes = c.self.inside.passes.items in let i = c.args.pass in let q = c.index_mut.result.now in let taken = c.take_ticket-ticket.ensures in
    let has = ap (λ (x : Pass). x.ticket) (picked passes i away q c.index_mut.ensures.value) ∙ taken.ticket in
    subst (λ (t : Ticket). IsInFlight (g.S.Store.flight c.self.inside.store) t) (some-inj (sym away.2.1.has ∙ has)) away.2.1.mine

pub settle-requires-clause-room : goal.settle-requires-clause-room
settle-requires-clause-room g c =
    let at = rw (sym c.self.view_is) at c.requires.phase in let away = away-call c.self.invariant.0.sound c.self.invariant.0.sound.metadata c.args.pass at in
    let passes = c.self.inside.passes.items in let i = c.args.pass in let q = c.index_mut.result.now in let taken = c.take_ticket-ticket.ensures in
    let has = ap (λ (x : Pass). x.ticket) (picked passes i away q c.index_mut.ensures.value) ∙ taken.ticket in
    nothing-read away.2.1.ticket c.take_ticket-ticket.result (some-inj (sym away.2.1.has ∙ has)) away.2.1.kind

pub settled-requires : goal.settled-requires
settled-requires g c = let at = rw (sym c.self.view_is) at c.requires.phase in record {
  stage = away-settling c.self.invariant.0.sound
      c.self.invariant.0.sound.metadata c.args.pass at;
}

pub settled-requires-in-Failed : goal.settled-requires-in-Failed
settled-requires-in-Failed g c = let at = rw (sym c.self.view_is) at c.requires.phase in record {
  stage = away-settling c.self.invariant.0.sound
      c.self.invariant.0.sound.metadata c.args.pass at;
}

pub index_mut-requires-in-NotYet : goal.index_mut-requires-in-NotYet
index_mut-requires-in-NotYet g c =
    let at = rw (sym c.self.view_is) at c.requires.phase in
    let h : c.args.pass < length c.self.inside.passes.items = slice_get_within c.self.inside.passes.items c.args.pass at.0 at.1 in
    let long = length-set' c.self.inside.passes.items c.args.pass c.take_ticket-ticket.new.self in omega (arith, h, long)

pub index_mut-requires-in-Failed : goal.index_mut-requires-in-Failed
index_mut-requires-in-Failed g c =
    let at = rw (sym c.self.view_is) at c.requires.phase in
    let h : c.args.pass < length c.self.inside.passes.items = slice_get_within c.self.inside.passes.items c.args.pass at.0 at.1 in
    let long = length-set' c.self.inside.passes.items c.args.pass c.take_ticket-ticket.new.self in omega (arith, h, long)

pub put_ticket-requires : goal.put_ticket-requires
put_ticket-requires g c =
    let at = rw (sym c.self.view_is) at c.requires.phase in let away = away-call c.self.invariant.0.sound c.self.invariant.0.sound.metadata c.args.pass at in
    let passes = c.self.inside.passes.items in let i = c.args.pass in let q = c.index_mut.result.now in let taken = c.take_ticket-ticket.ensures in
    let back = read-back passes i c.take_ticket-ticket.new.self q c.index_mut-in-NotYet.result.now
    (read-there passes i away.0 q away.1 c.index_mut.ensures.value) c.index_mut-in-NotYet.ensures.value in
    ap (λ (x : Pass). x.ticket) (back ∙ taken.rest)

pub fail-requires-clause-ticket : goal.fail-requires-clause-ticket
fail-requires-clause-ticket g c =
    let at = rw (sym c.self.view_is) at c.requires.phase in let away = away-call c.self.invariant.0.sound c.self.invariant.0.sound.metadata c.args.pass at in
    let passes = c.self.inside.passes.items in let i = c.args.pass in let q = c.index_mut.result.now in let taken = c.take_ticket-ticket.ensures in
    let back = read-back passes i c.take_ticket-ticket.new.self q c.index_mut-in-Failed.result.now
    (read-there passes i away.0 q away.1 c.index_mut.ensures.value) c.index_mut-in-Failed.ensures.value in
    ap (λ (x : Pass). x.ticket) (back ∙ taken.rest)

pub fail-requires-clause-fetch : goal.fail-requires-clause-fetch
fail-requires-clause-fetch g c =
    let at = rw (sym c.self.view_is) at c.requires.phase in let away = away-call c.self.invariant.0.sound c.self.invariant.0.sound.metadata c.args.pass at in
    let passes = c.self.inside.passes.items in let i = c.args.pass in let q = c.index_mut.result.now in let taken = c.take_ticket-ticket.ensures in
    let back = read-back passes i c.take_ticket-ticket.new.self q c.index_mut-in-Failed.result.now
    (read-there passes i away.0 q away.1 c.index_mut.ensures.value) c.index_mut-in-Failed.ensures.value in
    ap (λ (x : Pass). x.fetch) (back ∙ taken.rest) ∙ ap (λ (x : Pass). x.fetch) (sym (picked passes i away q c.index_mut.ensures.value)) ∙ away.2.1.none

abbrev was_done : (g : Over) (c : After-settled g) → View g.row.S.Denot g.row.B.Denot
was_done g c = view g.row.S.Denot g.row.B.Denot g.S.Store g.B.Base c.self.inside

abbrev done_now : (g : Over) (c : After-settled g) → View g.row.S.Denot g.row.B.Denot
done_now g c = record (was_done g c) {
  store = c.settle.new.self;
  keeping = c.settled.new.self;
  passes = slice_set c.self.inside.passes.items c.args.pass c.take_ticket-ticket.new.self;
}

done : (g : Over) (c : After-settled g) → SettleMetaStep g.S.Store Done c.args.pass (was_done g c)
    (record (done_now g c) { steps = c.one_more-self-inside.result })
done g c =
    let at = rw (sym c.self.view_is) at c.requires.phase in let away = away-call c.self.invariant.0.sound c.self.invariant.0.sound.metadata c.args.pass at in
    let passes = c.self.inside.passes.items in let i = c.args.pass in let q = c.index_mut.result.now in let taken = c.take_ticket-ticket.ensures in
    let done = c.in-Done.ensures in let there = read-there passes i away.0 q away.1 c.index_mut.ensures.value in
    record {
      away = at;
      settles = settles-meta g.S.Store Done {r = view_requests (was_done g c)} {k = c.self.inside.keeper} q c.take_ticket-ticket.result c.settle.new.out
          c.self.inside.store c.settle.new.self there
          (ap (λ (x : Pass). x.phase) (sym (picked passes i away q c.index_mut.ensures.value))
          ∙ away.2.0) taken.ticket (nil_from_length c.settle.new.out c.settle.auto.out)
          (record {
            settles = done.settles;
            cause = done.cause;
            last = done.last;
            counts = done.counts;
            takes = done.takes;
            gives = done.gives;
            undone = done.undone;
          })
          (ap (λ (x : Pass). with_pass i x (view_requests (was_done g c))) taken.rest) (c.settled.ensures.done refl);
      keeps = record { counts = done.counts; telling = done.takes.keeps };
      others = counted (done_now g c) c.one_more-self-inside.ensures;
    }

pub invariant_of-self : goal.invariant_of-self
invariant_of-self g c = (
  kept-on (By_settle_meta Done (done g c)) c.self.invariant.0,
  c.self.invariant.1
      ∙ sym (meta_settled-regions (done g c).settles.settles),
  c.self.invariant.2,
)

pub returns-in-Done : goal.returns-in-Done
returns-in-Done g c = rw (sym c.self.view_is) (record { settles = (Done, refl, done g c) })

abbrev was_late : (g : Over) (c : After-put_ticket g) → View g.row.S.Denot g.row.B.Denot
was_late g c = view g.row.S.Denot g.row.B.Denot g.S.Store g.B.Base c.self.inside

abbrev late_now : (g : Over) (c : After-put_ticket g) → View g.row.S.Denot g.row.B.Denot
late_now g c = record (was_late g c) {
  store = c.settle.new.self;
  passes = slice_set (slice_set c.self.inside.passes.items c.args.pass c.take_ticket-ticket.new.self) c.args.pass c.put_ticket.new.self;
}

late : (g : Over) (c : After-put_ticket g) → SettleMetaStep g.S.Store (NotYet c.in-NotYet.ticket) c.args.pass (was_late g c)
    (record (late_now g c) { steps = c.one_more-self-inside.result })
late g c =
    let at = rw (sym c.self.view_is) at c.requires.phase in let away = away-call c.self.invariant.0.sound c.self.invariant.0.sound.metadata c.args.pass at in
    let passes = c.self.inside.passes.items in let i = c.args.pass in let q = c.index_mut.result.now in let taken = c.take_ticket-ticket.ensures in
    let late = c.in-NotYet.ensures in let there = read-there passes i away.0 q away.1 c.index_mut.ensures.value in
    let back = read-back passes i c.take_ticket-ticket.new.self q c.index_mut-in-NotYet.result.now there c.index_mut-in-NotYet.ensures.value in
    let put = c.put_ticket.ensures ∙ ap (λ (x : Pass). record x { ticket = Some c.in-NotYet.ticket }) back in
    record {
      away = at;
      settles = settles-meta g.S.Store (NotYet c.in-NotYet.ticket) {r = view_requests (was_late g c)}
          {k = c.self.inside.keeper} q c.take_ticket-ticket.result c.settle.new.out c.self.inside.store c.settle.new.self there
          (ap (λ (x : Pass). x.phase) (sym (picked passes i away q c.index_mut.ensures.value)) ∙ away.2.0) taken.ticket late.settles.1
          (record {
            settles = late.settles;
            cause = late.cause;
            last = late.last;
            counts = late.counts;
            takes = late.takes;
            gives = late.gives;
            undone = late.undone;
          })
          (ap (λ (ps : List Pass). record (view_requests (was_late g c)) { passes = ps })
          (set-twice passes i c.take_ticket-ticket.new.self c.put_ticket.new.self
          ∙ ap (λ (x : Pass). slice_set passes i x) (put-back q c.take_ticket-ticket.new.self c.put_ticket.new.self c.take_ticket-ticket.result
          c.in-NotYet.ticket taken.rest taken.ticket late.settles.0 put))) refl;
      keeps = record { counts = late.counts; telling = late.takes.keeps };
      others = counted (late_now g c) c.one_more-self-inside.ensures;
    }

pub invariant_of-self-in-NotYet : goal.invariant_of-self-in-NotYet
invariant_of-self-in-NotYet g c =
    let settles = late g (goal.at.invariant_of-self-in-NotYet g c).After-put_ticket in (
      kept-on (By_settle_meta (NotYet c.in-NotYet.ticket) settles) c.self.invariant.0,
      c.self.invariant.1
          ∙ sym (meta_settled-regions settles.settles.settles),
      c.self.invariant.2,
    )

pub returns-in-NotYet : goal.returns-in-NotYet
returns-in-NotYet g c = rw (sym c.self.view_is) (record {
  settles = (
    (NotYet c.in-NotYet.ticket),
    refl,
    late g (goal.at.returns-in-NotYet g c).After-put_ticket,
  );
})

abbrev was_failed : (g : Over) (c : After-fail g) → View g.row.S.Denot g.row.B.Denot
was_failed g c = view g.row.S.Denot g.row.B.Denot g.S.Store g.B.Base c.self.inside

abbrev failed_now : (g : Over) (c : After-fail g) → View g.row.S.Denot g.row.B.Denot
failed_now g c = record (was_failed g c) {
  store = c.settle.new.self;
  keeping = c.settled-in-Failed.new.self;
  flusher = None;
  passes = slice_set (slice_set c.self.inside.passes.items c.args.pass c.take_ticket-ticket.new.self) c.args.pass c.fail.new.self;
}

failed : (g : Over) (c : After-fail g) → SettleMetaStep g.S.Store (Failed c.in-Failed.number) c.args.pass (was_failed g c)
    (record (failed_now g c) { steps = c.one_more-self-inside.result })
failed g c =
    let at = rw (sym c.self.view_is) at c.requires.phase in let away = away-call c.self.invariant.0.sound c.self.invariant.0.sound.metadata c.args.pass at in
    let passes = c.self.inside.passes.items in let i = c.args.pass in let q = c.index_mut.result.now in let taken = c.take_ticket-ticket.ensures in
    let failed = c.in-Failed.ensures in let there = read-there passes i away.0 q away.1 c.index_mut.ensures.value in
    let back = read-back passes i c.take_ticket-ticket.new.self q c.index_mut-in-Failed.result.now there c.index_mut-in-Failed.ensures.value in
    let gone = c.fail.ensures ∙ ap (λ (x : Pass). after_fault (fault.Store c.in-Failed.number) x) back in
    record {
      away = at;
      settles = settles-meta g.S.Store (Failed c.in-Failed.number) {r = view_requests (was_failed g c)}
          {k = c.self.inside.keeper} q c.take_ticket-ticket.result c.settle.new.out c.self.inside.store c.settle.new.self there
          (ap (λ (x : Pass). x.phase) (sym (picked passes i away q c.index_mut.ensures.value)) ∙ away.2.0) taken.ticket failed.settles.1
          (record {
            settles = failed.settles;
            cause = failed.cause;
            last = failed.last;
            counts = failed.counts;
            takes = failed.takes;
            gives = failed.gives;
            undone = failed.undone;
          })
          (ap (λ (ps : List Pass). record (view_requests (was_failed g c)) { passes = ps }) (set-twice passes i c.take_ticket-ticket.new.self c.fail.new.self
          ∙ ap (λ (x : Pass). slice_set passes i x) (call-failed q c.take_ticket-ticket.new.self c.fail.new.self c.take_ticket-ticket.result.number
          c.in-Failed.number taken.rest failed.settles.0 gone))) (c.settled-in-Failed.ensures.failed refl);
      keeps = record { counts = failed.counts; telling = failed.takes.keeps };
      others = counted (failed_now g c) c.one_more-self-inside.ensures;
    }

pub invariant_of-self-in-Failed : goal.invariant_of-self-in-Failed
invariant_of-self-in-Failed g c =
    let settles = failed g (goal.at.invariant_of-self-in-Failed g c).After-fail in (
      kept-on (By_settle_meta (Failed c.in-Failed.number) settles) c.self.invariant.0,
      c.self.invariant.1
          ∙ sym (meta_settled-regions settles.settles.settles),
      c.self.invariant.2,
    )

pub returns-in-Failed : goal.returns-in-Failed
returns-in-Failed g c = rw (sym c.self.view_is) (record {
  settles = (
    (Failed c.in-Failed.number),
    refl,
    failed g (goal.at.returns-in-Failed g c).After-fail,
  );
})
