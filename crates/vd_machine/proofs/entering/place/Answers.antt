use Rattle.std.proofs.Common.{◌∙◌}
use Rattle.vd_machine.proofs.Placed.{place-fits, place-is, no-place}
use Rattle.vd_machine.proofs.entering.place.Goals as goal

pub place_of_block-requires-clause-fits : goal.place_of_block-requires-clause-fits
place_of_block-requires-clause-fits c = place-fits c.args.shape.now c.args.table.now.chunks c.args.block _ c.in-Some.ensures.storage c.requires.places

pub returns-in-Some : goal.returns-in-Some
returns-in-Some c = λ x at. c.place_of_block.ensures ∙ place-is c.args.shape.now c.args.table.now.chunks c.args.block _ x c.in-Some.ensures.storage at

pub returns-in-None : goal.returns-in-None
returns-in-None c = λ x at. no-place c.args.shape.now c.args.table.now.chunks c.args.block x c.in-None.ensures.storage at
