use Rattle.std.proofs.Common.{◌≡◌, ◌<◌, ◌∙◌, sym, refl, ap, length, arith, Some, slice_set}
use Rattle.std.proofs.lemmas.Bool.{not-true, not-false}
use Rattle.std.proofs.lemmas.Option.{slice_get_within}
use Rattle.vd_format.specs.declared.header.Header.{Header}
use Rattle.vd_keeper.specs.Keeping.{KeeperState}
use Rattle.vd_keeper.specs.Moves.{is_worn_out}
use Rattle.vd_passes.specs.declared.pass.Pass.{Pass}
use Rattle.vd_passes.proofs.Flushing.{submits_meta-regions, ends_flush-regions}
use Rattle.vd_machine.proofs.Members.{read-there, picked}
use Rattle.vd_machine.proofs.Submitting.{numbered}
use Rattle.vd_machine.proofs.Sending.{begins-flush, is-worn-out}
use Rattle.vd_machine.specs.Views.{View, view_requests}
use Rattle.vd_machine.specs.Steps.{By_refusal, By_begin_flush, By_wear}
use Rattle.vd_machine.specs.FlushSteps.{BeginFlushStep, WearStep}
use Rattle.vd_metadata.proofs.FlushingReady.{asked-flush, flush-place}
use Rattle.vd_core.proofs.Releasing.{counted, other-flusher}
use Rattle.vd_core.specs.declared.state.Core.TheView.{view}
use Rattle.vd_core.proofs.Kept.{kept-on}
use Rattle.vd_core.proofs.state.Core.begin_flush.Given.{Over}
use Rattle.vd_core.proofs.state.Core.begin_flush.Goals as goal
use Rattle.vd_core.proofs.state.Core.begin_flush.Goals.{After-end_flush, After-begin_meta}

pub begin-requires : goal.begin-requires
begin-requires g c =
    let tracked = rw (sym c.self.view_is) at c.requires.tracked in record {
      rest = c.self.invariant.0.sound.metadata.attended.resting c.in_default.is;
      tracked = λ t is. let same = tracked t is in omega (arith, same);
    }

-- another pass's flush is under way

pub invariant_of-self : goal.invariant_of-self
invariant_of-self g c =
    let stands = counted (view g.row.S.Denot g.row.B.Denot g.S.Store g.B.Base c.self.inside) c.one_more-self-inside.ensures in
    (kept-on {i = 0} (By_refusal stands) c.self.invariant.0, c.self.invariant.1, c.self.invariant.2)

pub returns-in-Some-clause-busy : goal.returns-in-Some-clause-busy
returns-in-Some-clause-busy g c =
    let at = rw (sym c.self.view_is) at c.requires.phase in
    rw (sym c.self.view_is) (λ by is. let same : c.in-Some.by ≡ by = cc in let mine = c.in-Some.is ∙ ap Some same in record {
      asked = at;
      flusher = mine;
      other = other-flusher c.self.invariant.0.sound.metadata c.args.pass by at mine;
      others = counted (view g.row.S.Denot g.row.B.Denot g.S.Store g.B.Base c.self.inside) c.one_more-self-inside.ensures;
    })

-- at the last generation nothing is begun

abbrev was : (g : Over) (c : After-end_flush g) → View g.row.S.Denot g.row.B.Denot
was g c = view g.row.S.Denot g.row.B.Denot g.S.Store g.B.Base c.self.inside

abbrev worn_now : (g : Over) (c : After-end_flush g) → View g.row.S.Denot g.row.B.Denot
worn_now g c = record (was g c) { passes = slice_set c.self.inside.passes.items c.args.pass c.end_flush.new.self }

worn : (g : Over) (c : After-end_flush g) → WearStep c.args.route c.args.pass (was g c) (record (worn_now g c) {
  keeping = c.begin.new.self;
  steps = c.one_more-self-inside.result;
})
worn g c =
    let at = rw (sym c.self.view_is) at c.requires.phase in let known = c.if-not-begin.ensures in let same = known.unchanged refl in record {
      asked = at;
      free = c.in_default.is;
      wears = is-worn-out {r = view_requests (was g c)} c.index_mut.result.now c.end_flush.new.self c.index_mut.ensures.value {route = c.args.route}
          {k = c.self.inside.keeper} c.header.result.generation
          (asked-flush c.self.invariant.0.sound c.self.invariant.0.sound.metadata c.args.pass at) (not-false (is_worn_out c.args.route c.self.inside.keeper)
          (sym known.worn))
          (ap (λ (h : Header). h.generation) (c.header.ensures.header ∙ ap (λ (k : KeeperState). k.header) same)) c.end_flush.ensures;
      others = ap (λ (k : KeeperState). record (worn_now g c) { keeping = k; steps = c.one_more-self-inside.result }) same
          ∙ counted (worn_now g c) c.one_more-self-inside.ensures;
    }

pub invariant_of-self-then-not-begin : goal.invariant_of-self-then-not-begin
invariant_of-self-then-not-begin g c =
    let wears = worn g (goal.at.invariant_of-self-then-not-begin g c).After-end_flush in
    (kept-on (By_wear c.args.route wears) c.self.invariant.0, c.self.invariant.1 ∙ sym (ends_flush-regions wears.wears.ends), c.self.invariant.2)

pub returns-then-not-begin-clause-worn : goal.returns-then-not-begin-clause-worn
returns-then-not-begin-clause-worn g c = rw (sym c.self.view_is) (λ is. worn g (goal.at.returns-then-not-begin-clause-worn g c).After-end_flush)

-- the data flush is submitted

pub submit_flush-ticket-requires : goal.submit_flush-ticket-requires
submit_flush-ticket-requires g c = record { place = flush-place c.self.invariant.0.sound c.self.invariant.0.sound.metadata }

pub index_mut-requires-2 : goal.index_mut-requires-2
index_mut-requires-2 g c =
    let at = rw (sym c.self.view_is) at c.requires.phase in
    let h : c.args.pass < length c.self.inside.passes.items = slice_get_within c.self.inside.passes.items c.args.pass at.0 at.1 in omega (arith, h)

pub begin_meta-requires : goal.begin_meta-requires
begin_meta-requires g c =
    let at = rw (sym c.self.view_is) at c.requires.phase in
    let free = asked-flush c.self.invariant.0.sound c.self.invariant.0.sound.metadata c.args.pass at in
    ap (λ (x : Pass). x.ticket) (sym (picked c.self.inside.passes.items c.args.pass free c.index_mut-2.result.now c.index_mut-2.ensures.value)) ∙ free.2.2

abbrev before : (g : Over) (c : After-begin_meta g) → View g.row.S.Denot g.row.B.Denot
before g c = view g.row.S.Denot g.row.B.Denot g.S.Store g.B.Base c.self.inside

abbrev begun_now : (g : Over) (c : After-begin_meta g) → View g.row.S.Denot g.row.B.Denot
begun_now g c = record (before g c) {
  store = c.submit_flush-ticket.new.self;
  keeping = c.begin.new.self;
  flusher = Some c.args.pass;
  passes = slice_set c.self.inside.passes.items c.args.pass c.begin_meta.new.self;
}

begun : (g : Over) (c : After-begin_meta g) → BeginFlushStep g.S.Store c.args.route c.args.pass (before g c)
    (record (begun_now g c) { steps = c.one_more-self-inside.result })
begun g c =
    let at = rw (sym c.self.view_is) at c.requires.phase in let known = c.if-not-begin.ensures in let got = c.submit_flush-ticket.ensures in
    let q = c.index_mut-2.result.now in let value = c.index_mut-2.ensures.value in
    let free = asked-flush c.self.invariant.0.sound c.self.invariant.0.sound.metadata c.args.pass at in record {
      asked = at;
      tracked = rw (sym c.self.view_is) at c.requires.tracked;
      free = c.in_default.is;
      begins = begins-flush g.S.Store {r = view_requests (before g c)} q c.begin_meta.new.self c.submit_flush-ticket.result c.self.inside.store
          c.submit_flush-ticket.new.self value c.begin_meta.ensures {route = c.args.route} {k = c.self.inside.keeper}
          free got.kind (record {
            next = got.next;
            rises = got.rises;
            flight = got.flight;
            counts = got.counts;
            takes = got.takes;
          }) (not-true (is_worn_out c.args.route c.self.inside.keeper) (sym known.worn)) (known.begun refl);
      number = numbered c.self.inside.passes.items c.args.pass q c.begin_meta.new.self c.submit_flush-ticket.result (g.S.Store.last c.self.inside.store)
          (g.S.Store.last c.submit_flush-ticket.new.self)
          (read-there c.self.inside.passes.items c.args.pass free.0 q free.1 value) c.begin_meta.ensures got.next.number got.next.last;
      keeps = record { counts = got.counts; telling = got.takes.keeps };
      others = counted (begun_now g c) c.one_more-self-inside.ensures;
    }

pub invariant_of-self-2 : goal.invariant_of-self-2
invariant_of-self-2 g c =
    let begins = begun g (goal.at.invariant_of-self-2 g c).After-begin_meta in
    (kept-on (By_begin_flush c.args.route begins) c.self.invariant.0, c.self.invariant.1 ∙ sym (submits_meta-regions begins.begins.sends), c.self.invariant.2)

pub returns-clause-going : goal.returns-clause-going
returns-clause-going g c = rw (sym c.self.view_is) (λ is. begun g (goal.at.returns-clause-going g c).After-begin_meta)
