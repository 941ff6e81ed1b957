use Rattle.std.proofs.Common.{ap, sym, ◌∙◌}
use Rattle.vd_format.specs.Layouts.{store_need}
use Rattle.vd_top.proofs.commands.store_sectors.Goals as goal

pub returns-in-Make-clause-some : goal.returns-in-Make-clause-some
returns-in-Make-clause-some c h asks = let making = c.in-Make.ensures in c.layout_of.ensures.need ∙ ap store_need (sym (making.one h asks))

pub returns-in-Make-clause-make : goal.returns-in-Make-clause-make
returns-in-Make-clause-make c none = let making = c.in-Make.ensures in let asks = making.asks in none asks.size asks.block asks.chunk asks.storage asks.slots asks.spells

pub returns-in-Show : goal.returns-in-Show
returns-in-Show c = record { some = tt; none = c.in-Show.ensures.2; make = tt }

pub returns-in-Run : goal.returns-in-Run
returns-in-Run c = record { some = tt; none = c.in-Run.ensures.1; make = tt }

pub returns-in-Nothing : goal.returns-in-Nothing
returns-in-Nothing c = record { some = tt; none = c.in-Nothing.ensures.1; make = tt }
