use Rattle.std.proofs.Common.{sym}
use Rattle.vd_trace.proofs.LineLaws.{good-none, good-some}
use Rattle.vd_trace.proofs.reading.good_line.Goals as goal

pub returns-in_err-says : goal.returns-in_err-says
returns-in_err-says c = λ before shows. good-none c.args.guests before c.args.line.now c.from_residual.result c.from_residual.ensures c.in_err-says.ensures

pub returns-then-may_follow : goal.returns-then-may_follow
returns-then-may_follow c = λ before shows. good-some c.args.guests before c.args.line.now c.args.shown c.in_ok-says.says c.if-line-gt-MOST_BYTES.false c.in_ok-says.ensures shows (sym c.if-may_follow.ensures)
