-- Each arm makes the step that the pass's phase calls for; all that it answers for follows from that.
use Rattle.std.proofs.Common.{◌∙◌, sym, ap, refl, inl, inr}
use Rattle.vd_passes.specs.declared.pass.Phase.TheVariants.{Asked, Held, Looking, Ready}
use Rattle.vd_passes.specs.Passes.{writes_in}
use Rattle.vd_core.specs.declared.outcome.Step.TheVariants.{Again, Busy, Ended}
use Rattle.vd_drive.proofs.Answering.{reader-answers}
use Rattle.vd_drive.proofs.read.Reader.next.Goals as goal

pub unreachable-requires : goal.unreachable-requires
unreachable-requires g c =
    let at = c.requires.busy in let is = c.phase.ensures.phase at.0 at.1 in let stands = c.phase.ensures.stands at.0 at.1 in let reads = at.2.1 in
    elim c.in-Idle.is [
      | inl idle ↦ at.2.0 (sym is ∙ idle)
      | inr (inl fetching) ↦ (let writes = stands.write (ap writes_in (sym is ∙ fetching)) in cc)
      | inr (inr (inl filled)) ↦ (let writes = stands.write (ap writes_in (sym is ∙ filled)) in cc)
      | inr (inr (inr (inl issuing))) ↦ (let writes = stands.write (ap writes_in (sym is ∙ issuing)) in cc)
      | inr (inr (inr (inr flushing))) ↦ (let flushes = stands.flush (sym is ∙ flushing) in let not = at.2.2 in cc)
    ]

pub returns-in-Ok : goal.returns-in-Ok
returns-in-Ok g c =
    let given = c.phase.ensures in
    assumption (reader-answers g.S.Store g.B.Base c.args.pass c.args.core.now c.enter.new.self given.told c.args.out.now c.args.out.now given.phase given.stands
    c.requires.busy Asked c.in-Asked.is Again (inl (refl, c.in-Ok.ensures.enters), refl))

pub returns-in-Err : goal.returns-in-Err
returns-in-Err g c =
    let given = c.phase.ensures in
    assumption (reader-answers g.S.Store g.B.Base c.args.pass c.args.core.now c.enter.new.self given.told c.args.out.now c.args.out.now given.phase given.stands
    c.requires.busy Asked c.in-Asked.is (Busy c.in-Err.busy.by) (inr (c.in-Err.busy.by, refl, c.in-Err.ensures.busy), refl))

pub returns-in-Held : goal.returns-in-Held
returns-in-Held g c =
    let given = c.phase.ensures in
    assumption (reader-answers g.S.Store g.B.Base c.args.pass c.args.core.now c.look.new.self given.told c.args.out.now c.look.new.out given.phase given.stands
    c.requires.busy Held c.in-Held.is Again (refl, c.look.ensures.looks))

pub returns-in-Looking : goal.returns-in-Looking
returns-in-Looking g c =
    let given = c.phase.ensures in
    assumption (reader-answers g.S.Store g.B.Base c.args.pass c.args.core.now c.settle_look.new.self given.told c.args.out.now c.settle_look.new.out
    given.phase given.stands c.requires.busy Looking c.in-Looking.is c.settle_look.result c.settle_look.ensures.settles)

pub returns-in-Ready : goal.returns-in-Ready
returns-in-Ready g c =
    let given = c.phase.ensures in
    assumption (reader-answers g.S.Store g.B.Base c.args.pass c.args.core.now c.reply.new.self given.told c.args.out.now c.args.out.now given.phase given.stands
    c.requires.busy Ready c.in-Ready.is (Ended c.reply.result) ((c.reply.result, refl, c.reply.ensures.replies), refl))
