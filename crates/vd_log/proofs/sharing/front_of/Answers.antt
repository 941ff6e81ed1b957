use Rattle.vd_log.proofs.Copies.{run-front}
use Rattle.vd_log.proofs.sharing.front_of.Goals as goal

pub returns-then-is_same_sector-clause-content : goal.returns-then-is_same_sector-clause-content
returns-then-is_same_sector-clause-content c = run-front _ c.args.run c.args.first.now _ c.args.count c.requires.run c.requires.some c.if-count-run.true (c.is_same_sector.ensures.0 c.if-is_same_sector.true)
