use Rattle.vd_lists.proofs.Lists.{all_copies}
use Rattle.vd_log.proofs.sharing.copied.Goals as goal

pub returns-in-Some-clause-copies : goal.returns-in-Some-clause-copies
returns-in-Some-clause-copies c = all_copies c.in-Some.first.now c.args.content.now (c.are_copies.ensures.0 c.if-are_copies.true)
