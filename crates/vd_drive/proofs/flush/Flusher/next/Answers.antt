-- Each arm makes the step that the pass's phase calls for; all that it answers for follows from that.
use Rattle.std.proofs.Common.{◌∙◌, sym, ap, refl, inl, inr}
use Rattle.vd_passes.specs.declared.pass.Phase.TheVariants.{Asked, Flushing, Ready}
use Rattle.vd_passes.specs.Passes.{has_region}
use Rattle.vd_core.specs.declared.outcome.Step.TheVariants.{Again, Busy, Ended}
use Rattle.vd_drive.proofs.Answering.{flusher-answers}
use Rattle.vd_drive.proofs.flush.Flusher.next.Goals as goal

pub unreachable-requires : goal.unreachable-requires
unreachable-requires g c =
    let at = c.requires.busy in let is = c.phase.ensures.phase at.0 at.1 in let stands = c.phase.ensures.stands at.0 at.1 in let flushes = at.2.1 in
    elim c.in-Idle.is [
      | inl idle ↦ at.2.0 (sym is ∙ idle)
      | inr (inl held) ↦ (let not = stands.no_flush (ap has_region (sym is ∙ held)) in cc)
      | inr (inr (inl fetching)) ↦ (let not = stands.no_flush (ap has_region (sym is ∙ fetching)) in cc)
      | inr (inr (inr (inl filled))) ↦ (let not = stands.no_flush (ap has_region (sym is ∙ filled)) in cc)
      | inr (inr (inr (inr (inl issuing)))) ↦ (let not = stands.no_flush (ap has_region (sym is ∙ issuing)) in cc)
      | inr (inr (inr (inr (inr looking)))) ↦ (let not = stands.no_flush (ap has_region (sym is ∙ looking)) in cc)
    ]

pub returns-in-Going : goal.returns-in-Going
returns-in-Going g c =
    let given = c.phase.ensures in
    assumption (flusher-answers g.S.Store g.B.Base c.args.pass c.args.core.now c.begin_flush.new.self given.told given.phase given.attended
    c.requires.busy Asked c.in-Asked.is
    Again (inl (refl, elim c.in-Going.is [ inl going ↦ inl (c.begin_flush.ensures.going going) | inr worn ↦ inr (c.begin_flush.ensures.worn worn) ])))

pub returns-in-Busy : goal.returns-in-Busy
returns-in-Busy g c =
    let given = c.phase.ensures in
    assumption (flusher-answers g.S.Store g.B.Base c.args.pass c.args.core.now c.begin_flush.new.self given.told given.phase given.attended
    c.requires.busy Asked c.in-Asked.is (Busy c.in-Busy.by) (inr (c.in-Busy.by, refl, c.in-Busy.ensures.busy c.in-Busy.by refl)))

pub returns-in-Flushing : goal.returns-in-Flushing
returns-in-Flushing g c =
    let given = c.phase.ensures in
    assumption (flusher-answers g.S.Store g.B.Base c.args.pass c.args.core.now c.go_on.new.core given.told given.phase given.attended
    c.requires.busy Flushing c.in-Flushing.is c.go_on.result c.go_on.ensures.makes)

pub returns-in-Ready : goal.returns-in-Ready
returns-in-Ready g c =
    let given = c.phase.ensures in
    assumption (flusher-answers g.S.Store g.B.Base c.args.pass c.args.core.now c.reply.new.self given.told given.phase given.attended
    c.requires.busy Ready c.in-Ready.is (Ended c.reply.result) (c.reply.result, refl, c.reply.ensures.replies))
