use Rattle.vd_run.proofs.RunningLaws.{not_opened_for, line_past, opens_for, is_open}
use Rattle.vd_run.proofs.running.open_for.Goals as goal

pub returns-in-Err-clause-refused : goal.returns-in-Err-clause-refused
returns-in-Err-clause-refused g c = not_opened_for c.args.trace.now c.in-Err.error c.show_line.result c.show_line.ensures c.recover.ensures.quiet c.in-Err.ensures.fault c.in-Err.ensures.refused

pub returns-in-Some-clause-refused : goal.returns-in-Some-clause-refused
returns-in-Some-clause-refused g c =
    let state = c.in-Ok.ensures in line_past c.args.trace.now c.in-Ok.state state.opened state.version c.recover.ensures.quiet state.says c.in-Some.number c.in-Some.ensures

pub returns-in-None-clause-opened : goal.returns-in-None-clause-opened
returns-in-None-clause-opened g c =
    let state = c.in-Ok.ensures in opens_for c.args.trace.now c.in-Ok.state state.opened state.version c.recover.ensures.quiet state.says c.in-None.ensures

pub returns-in-None-clause-ready : goal.returns-in-None-clause-ready
returns-in-None-clause-ready g c =
    let state = c.in-Ok.ensures in is_open c.args.trace.now c.in-Ok.state state.opened state.version c.recover.ensures.quiet state.says c.in-None.ensures state.flushed
