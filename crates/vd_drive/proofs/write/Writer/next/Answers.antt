-- Each arm makes the step that the pass's phase calls for; all that it answers for follows from that.
use Rattle.std.proofs.Common.{◌∙◌, sym, refl, inl, inr}
use Rattle.vd_passes.specs.declared.pass.Phase.TheVariants.{Asked, Held, Fetching, Filled, Issuing, Ready}
use Rattle.vd_core.specs.declared.outcome.Step.TheVariants.{Again, Busy, Ended}
use Rattle.vd_drive.proofs.Answering.{writer-answers}
use Rattle.vd_drive.proofs.write.Writer.next.Goals as goal

pub unreachable-requires : goal.unreachable-requires
unreachable-requires g c =
    let at = c.requires.busy in let is = c.phase.ensures.phase at.0 at.1 in let stands = c.phase.ensures.stands at.0 at.1 in
    elim c.in-Idle.is [
      | inl idle ↦ at.2.0 (sym is ∙ idle)
      | inr (inl looking) ↦ (let reads = stands.read (sym is ∙ looking) in let writes = at.2.1 in cc)
      | inr (inr flushing) ↦ (let flushes = stands.flush (sym is ∙ flushing) in let not = at.2.2 in cc)
    ]

pub returns-in-Ok : goal.returns-in-Ok
returns-in-Ok g c =
    let given = c.phase.ensures in
    assumption (writer-answers g.S.Store g.B.Base c.args.pass c.args.core.now c.enter.new.self given.told given.phase given.stands
    c.requires.busy Asked c.in-Asked.is c.args.content.now Again (inl (refl, c.in-Ok.ensures.enters)))

pub returns-in-Err : goal.returns-in-Err
returns-in-Err g c =
    let given = c.phase.ensures in
    assumption (writer-answers g.S.Store g.B.Base c.args.pass c.args.core.now c.enter.new.self given.told given.phase given.stands
    c.requires.busy Asked c.in-Asked.is c.args.content.now (Busy c.in-Err.busy.by) (inr (c.in-Err.busy.by, refl, c.in-Err.ensures.busy)))

pub returns-then-is_whole : goal.returns-then-is_whole
returns-then-is_whole g c =
    let given = c.phase.ensures in
    assumption (writer-answers g.S.Store g.B.Base c.args.pass c.args.core.now c.issue.new.self given.told given.phase given.stands
    c.requires.busy Held c.in-Held.is c.args.content.now Again (refl, inl c.issue.ensures.issues))

pub returns-else-is_whole : goal.returns-else-is_whole
returns-else-is_whole g c =
    let given = c.phase.ensures in
    assumption (writer-answers g.S.Store g.B.Base c.args.pass c.args.core.now c.fetch.new.self given.told given.phase given.stands
    c.requires.busy Held c.in-Held.is c.args.content.now Again (refl, inr c.fetch.ensures.fetches))

pub returns-in-Fetching : goal.returns-in-Fetching
returns-in-Fetching g c =
    let given = c.phase.ensures in
    assumption (writer-answers g.S.Store g.B.Base c.args.pass c.args.core.now c.settle_fetch.new.self given.told given.phase given.stands
    c.requires.busy Fetching c.in-Fetching.is c.args.content.now c.settle_fetch.result c.settle_fetch.ensures.settles)

pub returns-in-Filled : goal.returns-in-Filled
returns-in-Filled g c =
    let given = c.phase.ensures in
    assumption (writer-answers g.S.Store g.B.Base c.args.pass c.args.core.now c.issue-in-Filled.new.self given.told given.phase given.stands
    c.requires.busy Filled c.in-Filled.is c.args.content.now Again (refl, c.issue-in-Filled.ensures.issues))

pub returns-in-Issuing : goal.returns-in-Issuing
returns-in-Issuing g c =
    let given = c.phase.ensures in
    assumption (writer-answers g.S.Store g.B.Base c.args.pass c.args.core.now c.settle_issue.new.self given.told given.phase given.stands
    c.requires.busy Issuing c.in-Issuing.is c.args.content.now c.settle_issue.result c.settle_issue.ensures.settles)

pub returns-in-Ready : goal.returns-in-Ready
returns-in-Ready g c =
    let given = c.phase.ensures in
    assumption (writer-answers g.S.Store g.B.Base c.args.pass c.args.core.now c.reply.new.self given.told given.phase given.stands
    c.requires.busy Ready c.in-Ready.is c.args.content.now (Ended c.reply.result) (c.reply.result, refl, c.reply.ensures.replies))
