use Rattle.std.proofs.Common.{arith}
use Rattle.vd_trace.specs.Printing.{trace_shown_text}
use Rattle.vd_trace.proofs.Pieces.{pieces-failed}
use Rattle.vd_trace.proofs.printing.put_shows.Goals as goal

pub returns-in_err-put_shown-clause-writes : goal.returns-in_err-put_shown-clause-writes
returns-in_err-put_shown-clause-writes g c = λ told.
    pieces-failed trace_shown_text c.args.shows.now c.loop-shown.shown-index (record { number = 0; first = 0; count = 0 }) (omega arith) c.from_residual.ensures.0
    (c.loop-shown.invariant.wrote (c.put_shown.ensures.told_before told)) (c.in_err-put_shown.ensures.writes told)
