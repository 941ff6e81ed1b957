use Rattle.std.proofs.Common.{[]}
use Rattle.vd_make.proofs.PutLaws.{lays_one, laid_one, laid_ok, write_ready}
use Rattle.vd_make.proofs.filling.put.Goals as goal
use Rattle.vd_make.proofs.CallLaws.{ready_after, call_failed}

pub returns-clause-fault : goal.returns-clause-fault
returns-clause-fault g c = call_failed c.write_now.result c.write_now.ensures.calls

pub returns-clause-ready : goal.returns-clause-ready
returns-clause-ready g c =
    let calls = c.write_now.ensures.calls in
    ready_after c.requires.ready (calls.flight [] c.requires.ready.idle_is) calls.keeps
    (λ told. write_ready _ _ c.args.content.now c.write_now.result _ _ (c.requires.ready.rest (calls.keeps.telling.told_before told)) (c.write_now.ensures.told told))

pub returns-clause-lays : goal.returns-clause-lays
returns-clause-lays g c v all told = lays_one v _ _ c.args.content.now c.write_now.result _ _ all (c.requires.ready.rest (c.write_now.ensures.calls.keeps.telling.told_before told)) (c.write_now.ensures.told told)

pub returns-clause-laid : goal.returns-clause-laid
returns-clause-laid g c =
    laid_ok _ _ _ _ c.write_now.result (λ v all told. laid_one v _ _ c.args.content.now c.write_now.result _ _ all (c.requires.ready.rest (c.write_now.ensures.calls.keeps.telling.told_before told)) (c.write_now.ensures.told told))
