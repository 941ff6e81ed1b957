use Rattle.std.proofs.Common.{◌≡◌, ◌<◌, ◌∙◌, sym, ap, subst, arith, slice_set}
use Rattle.vd_format.specs.declared.header.Header.{Header}
use Rattle.vd_format.specs.Layouts.{storage_start}
use Rattle.vd_passes.specs.declared.pass.Pass.{Pass}
use Rattle.vd_passes.proofs.Flushing.{submits_meta-regions}
use Rattle.vd_machine.specs.Flushing.{place_of_put}
use Rattle.vd_machine.proofs.Members.{read-there, picked}
use Rattle.vd_machine.proofs.Places.{put-inside}
use Rattle.vd_machine.proofs.Submitting.{numbered}
use Rattle.vd_machine.proofs.Sending.{puts-next}
use Rattle.vd_machine.specs.Views.{View, view_requests}
use Rattle.vd_machine.specs.Steps.{By_put}
use Rattle.vd_machine.specs.FlushSteps.{PutStep}
use Rattle.vd_metadata.proofs.FlushingReady.{between-calls, between-due, between-free, kept-storage, meta-inside}
use Rattle.vd_core.proofs.Releasing.{counted}
use Rattle.vd_core.specs.declared.state.Core.TheView.{view}
use Rattle.vd_core.proofs.Kept.{kept-on}
use Rattle.vd_core.proofs.state.Core.put.Given.{Over}
use Rattle.vd_core.proofs.state.Core.put.Goals as goal
use Rattle.vd_core.proofs.state.Core.put.Goals.{After-put-put, After-placed-at, After-begin_meta}

abbrev was : (g : Over) (c : After-begin_meta g) → View g.row.S.Denot g.row.B.Denot
was g c = view g.row.S.Denot g.row.B.Denot g.S.Store g.B.Base c.self.inside

-- what it makes of the core, but for the number of steps
abbrev now : (g : Over) (c : After-begin_meta g) → View g.row.S.Denot g.row.B.Denot
now g c = record (was g c) {
  store = c.submit_write-ticket.new.self;
  keeping = c.put-put.new.self;
  passes = slice_set c.self.inside.passes.items c.args.pass c.begin_meta.new.self;
}

below : (g : Over) (c : After-put-put g) → place_of_put c.self.inside.keeper.header c.put-put.result < storage_start c.self.inside.keeper.header
below g c =
    let at = rw (sym c.self.view_is) at c.requires.phase in let stage = rw (sym c.self.view_is) at c.requires.stage in
    put-inside c.self.inside.state.table c.self.inside.keeper c.put-put.new.self c.put-put.result c.header-header.ensures.kept stage
    (between-due c.self.invariant.0.sound c.self.invariant.0.sound.metadata c.args.pass at stage) c.put-put.ensures.next

place : (g : Over) (c : After-placed-at g) → c.placed-at.result.0 ≡ place_of_put c.self.inside.keeper.header c.put-put.result
place g c = c.placed-at.ensures.at ∙ ap (λ (h : Header). place_of_put h c.put-put.result) c.header-header.ensures.header

pub put-put-requires : goal.put-put-requires
put-put-requires g c =
    let at = rw (sym c.self.view_is) at c.requires.phase in let stage = rw (sym c.self.view_is) at c.requires.stage in
    record {
      stage = stage;
      storage = kept-storage c.self.invariant.0.sound c.self.invariant.0.sound.metadata;
      due = between-due c.self.invariant.0.sound c.self.invariant.0.sound.metadata c.args.pass at stage;
    }

pub placed-at-requires-clause-inside : goal.placed-at-requires-clause-inside
placed-at-requires-clause-inside g c =
    subst (λ (h : Header). place_of_put h c.put-put.result < storage_start h) (sym c.header-header.ensures.header) (below g
    (goal.at.placed-at-requires-clause-inside g c).After-put-put)

pub submit_write-ticket-requires-clause-range : goal.submit_write-ticket-requires-clause-range
submit_write-ticket-requires-clause-range g c =
    let k = goal.at.submit_write-ticket-requires-clause-range g c in
    let less = below g k.After-put-put in let is = place g k.After-placed-at in
    let inside = meta-inside c.self.invariant.0.sound c.self.invariant.0.sound.metadata in
    (omega arith, omega arith, omega (arith, less, is, inside))

pub submit_write-ticket-requires-clause-free : goal.submit_write-ticket-requires-clause-free
submit_write-ticket-requires-clause-free g c =
    let k = goal.at.submit_write-ticket-requires-clause-free g c in
    let at = rw (sym c.self.view_is) at c.requires.phase in
    let less = below g k.After-put-put in let is = place g k.After-placed-at in
    between-free c.self.invariant.0.sound c.self.invariant.0.sound.metadata c.args.pass at c.placed-at.result.0 (omega (arith, less, is))

pub begin_meta-requires : goal.begin_meta-requires
begin_meta-requires g c =
    let at = rw (sym c.self.view_is) at c.requires.phase in
    let free = between-calls c.self.invariant.0.sound c.self.invariant.0.sound.metadata c.args.pass at in
    ap (λ (x : Pass). x.ticket) (sym (picked c.self.inside.passes.items c.args.pass free c.index_mut.result.now c.index_mut.ensures.value)) ∙ free.2.2

step : (g : Over) (c : After-begin_meta g) → c.placed-at.result.0 ≡ place_of_put c.self.inside.keeper.header c.put-put.result
    → place_of_put c.self.inside.keeper.header c.put-put.result < storage_start c.self.inside.keeper.header
    → PutStep g.S.Store c.args.pass (was g c) (record (now g c) { steps = c.one_more-self-inside.result })
step g c is less =
    let got = c.submit_write-ticket.ensures in let q = c.index_mut.result.now in let value = c.index_mut.ensures.value in
    let at = rw (sym c.self.view_is) at c.requires.phase in
    let free = between-calls c.self.invariant.0.sound c.self.invariant.0.sound.metadata c.args.pass at in record {
      between = at;
      stage = rw (sym c.self.view_is) at c.requires.stage;
      puts = puts-next g.S.Store {r = view_requests (was g c)} q c.begin_meta.new.self c.submit_write-ticket.result c.self.inside.store
          c.submit_write-ticket.new.self value c.begin_meta.ensures free c.put-put.ensures.next got.ticket
          (record { next = got.next; rises = got.rises; flight = got.flight; counts = got.counts; takes = got.takes })
          is c.placed-at.ensures.sector less c.self.invariant.0.sound.metadata.attended.storage_at;
      number = numbered c.self.inside.passes.items c.args.pass q c.begin_meta.new.self c.submit_write-ticket.result (g.S.Store.last c.self.inside.store)
          (g.S.Store.last c.submit_write-ticket.new.self)
          (read-there c.self.inside.passes.items c.args.pass free.0 q free.1 value) c.begin_meta.ensures got.next.number got.next.last;
      keeps = record { counts = got.counts; telling = got.takes.keeps };
      others = counted (now g c) c.one_more-self-inside.ensures;
    }

pub invariant_of-self : goal.invariant_of-self
invariant_of-self g c =
    let k = goal.at.invariant_of-self g c in let puts = step g k.After-begin_meta (place g k.After-placed-at) (below g k.After-put-put) in
    (kept-on (By_put puts) c.self.invariant.0, c.self.invariant.1 ∙ sym (submits_meta-regions puts.puts.sends), c.self.invariant.2)

pub returns : goal.returns
returns g c =
    let k = goal.at.returns g c in
    rw (sym c.self.view_is) (record { puts = step g k.After-begin_meta (place g k.After-placed-at) (below g k.After-put-put) })
