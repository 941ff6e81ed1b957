use Rattle.std.proofs.Common.{arith}
use Rattle.vd_law.proofs.Numbers.{last_number-push}
use Rattle.vd_report.proofs.tests.note.Goals as goal

pub returns-clause-start : goal.returns-clause-start
returns-clause-start c =
    let last = last_number-push c.add.new.self.opened c.args.history.now.numbers 0 in
    rw c.add.ensures.numbers (omega (arith, last))
