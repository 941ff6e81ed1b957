use Rattle.vd_trace.proofs.Places.{puts-at}
use Rattle.vd_trace.proofs.kept.push_place.Goals as goal

pub returns : goal.returns
returns c = puts-at c.args.index c.args.at c.args.places.now.items c.index_mut-own.result.now c.push.new.self c.requires c.index_mut-own.ensures.value c.in_ok-push.ensures.items
