use Rattle.std.proofs.Common.{sym, ap, ◌∙◌, slice_set}
use Rattle.vd_passes.specs.declared.pass.Pass.{Pass}
use Rattle.vd_passes.proofs.Flushing.{submits_meta-regions}
use Rattle.vd_machine.proofs.Members.{read-there, picked}
use Rattle.vd_machine.proofs.Submitting.{numbered}
use Rattle.vd_machine.proofs.Sending.{syncs-puts}
use Rattle.vd_machine.specs.Views.{View, view_requests}
use Rattle.vd_machine.specs.Steps.{By_sync}
use Rattle.vd_machine.specs.FlushSteps.{SyncStep}
use Rattle.vd_metadata.proofs.FlushingReady.{between-calls, flush-place}
use Rattle.vd_core.proofs.Releasing.{counted}
use Rattle.vd_core.specs.declared.state.Core.TheView.{view}
use Rattle.vd_core.proofs.Kept.{kept-on}
use Rattle.vd_core.proofs.state.Core.sync.Given.{Over}
use Rattle.vd_core.proofs.state.Core.sync.Goals as goal
use Rattle.vd_core.proofs.state.Core.sync.Goals.{After-begin_meta}

abbrev was : (g : Over) (c : After-begin_meta g) → View g.row.S.Denot g.row.B.Denot
was g c = view g.row.S.Denot g.row.B.Denot g.S.Store g.B.Base c.self.inside

-- what it makes of the core, but for the number of steps
abbrev now : (g : Over) (c : After-begin_meta g) → View g.row.S.Denot g.row.B.Denot
now g c = record (was g c) { store = c.submit_flush-ticket.new.self; passes = slice_set c.self.inside.passes.items c.args.pass c.begin_meta.new.self }

pub submit_flush-ticket-requires : goal.submit_flush-ticket-requires
submit_flush-ticket-requires g c = record { place = flush-place c.self.invariant.0.sound c.self.invariant.0.sound.metadata }

pub begin_meta-requires : goal.begin_meta-requires
begin_meta-requires g c =
    let at = rw (sym c.self.view_is) at c.requires.phase in
    let free = between-calls c.self.invariant.0.sound c.self.invariant.0.sound.metadata c.args.pass at in
    ap (λ (x : Pass). x.ticket) (sym (picked c.self.inside.passes.items c.args.pass free c.index_mut.result.now c.index_mut.ensures.value)) ∙ free.2.2

step : (g : Over) (c : After-begin_meta g) → SyncStep g.S.Store c.args.pass (was g c) (record (now g c) { steps = c.one_more-self-inside.result })
step g c =
    let at = rw (sym c.self.view_is) at c.requires.phase in let got = c.submit_flush-ticket.ensures in let q = c.index_mut.result.now in
    let value = c.index_mut.ensures.value in
    let free = between-calls c.self.invariant.0.sound c.self.invariant.0.sound.metadata c.args.pass at in record {
      between = at;
      stage = rw (sym c.self.view_is) at c.requires.stage;
      syncs = syncs-puts g.S.Store {r = view_requests (was g c)} q c.begin_meta.new.self c.submit_flush-ticket.result c.self.inside.store
          c.submit_flush-ticket.new.self value c.begin_meta.ensures free got.kind
          (record { next = got.next; rises = got.rises; flight = got.flight; counts = got.counts; takes = got.takes });
      number = numbered c.self.inside.passes.items c.args.pass q c.begin_meta.new.self c.submit_flush-ticket.result (g.S.Store.last c.self.inside.store)
          (g.S.Store.last c.submit_flush-ticket.new.self)
          (read-there c.self.inside.passes.items c.args.pass free.0 q free.1 value) c.begin_meta.ensures got.next.number got.next.last;
      keeps = record { counts = got.counts; telling = got.takes.keeps };
      others = counted (now g c) c.one_more-self-inside.ensures;
    }

pub invariant_of-self : goal.invariant_of-self
invariant_of-self g c = let k = (goal.at.invariant_of-self g c).After-begin_meta in (
  kept-on (By_sync (step g k)) c.self.invariant.0,
  c.self.invariant.1
      ∙ sym (submits_meta-regions (step g k).syncs.sends),
  c.self.invariant.2,
)

pub returns : goal.returns
returns g c = rw (sym c.self.view_is) (record { syncs = step g (goal.at.returns g c).After-begin_meta })
