use Rattle.vd_run.proofs.RunningLaws.{unread}
use Rattle.vd_run.proofs.running.read_trace.Goals as goal

pub returns-in-Err-clause-refused : goal.returns-in-Err-clause-refused
returns-in-Err-clause-refused g c = unread c.in-Err.error c.line_of_trace.result c.line_of_trace.ensures c.in-Err.ensures.reads c.in-Err.ensures.cause

pub returns-in-Err-clause-keeps : goal.returns-in-Err-clause-keeps
returns-in-Err-clause-keeps g c = record { told_before = c.read.ensures.told_before; no_fewer_faults = c.read.ensures.no_fewer_faults }

pub returns-in-Ok-clause-read : goal.returns-in-Ok-clause-read
returns-in-Ok-clause-read g c = record { guests = c.in-Ok.ensures.guests; read = c.in-Ok.ensures.reads }

pub returns-in-Ok-clause-keeps : goal.returns-in-Ok-clause-keeps
returns-in-Ok-clause-keeps g c = record { told_before = c.read.ensures.told_before; no_fewer_faults = c.read.ensures.no_fewer_faults }
