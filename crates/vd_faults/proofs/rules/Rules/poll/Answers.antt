use Rattle.std.proofs.Common.{rules}
use Rattle.std.proofs.lemmas.List.Edits.{map_over_more}
use Rattle.vd_faults.specs.Rules.{polled}
use Rattle.vd_faults.proofs.rules.Rules.poll.Goals as goal

pub loop-i-preserved : goal.loop-i-preserved
loop-i-preserved c = search (rules, map_over_more (polled c.args.ticket.now))
