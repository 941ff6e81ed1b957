use Rattle.std.proofs.Common.{[]}
use Rattle.vd_make.proofs.PutLaws.{syncs_one}
use Rattle.vd_make.proofs.filling.sync.Goals as goal
use Rattle.vd_make.proofs.CallLaws.{ready_after, call_failed}

pub returns-clause-fault : goal.returns-clause-fault
returns-clause-fault g c = call_failed c.flush_now.result c.flush_now.ensures.calls

pub returns-clause-ready : goal.returns-clause-ready
returns-clause-ready g c =
    let calls = c.flush_now.ensures.calls in
    ready_after c.requires.ready (calls.flight [] c.requires.ready.idle_is) calls.keeps
    (λ told. (let s = syncs_one _ c.flush_now.result _ _ (c.requires.ready.rest (calls.keeps.telling.told_before told)) (c.flush_now.ensures.told told) in s.rest))

pub returns-clause-syncs : goal.returns-clause-syncs
returns-clause-syncs g c told = syncs_one _ c.flush_now.result _ _ (c.requires.ready.rest (c.flush_now.ensures.calls.keeps.telling.told_before told)) (c.flush_now.ensures.told told)
