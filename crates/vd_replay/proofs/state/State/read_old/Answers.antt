use Rattle.std.proofs.Common.{◌∙◌}
use Rattle.vd_replay.proofs.FillingLaws.{old_says, old_fine}
use Rattle.vd_replay.proofs.state.State.read_old.Goals as goal

pub returns-clause-says : goal.returns-clause-says
returns-clause-says g c =
    old_says (g.S.Store.tells c.is_fresh.new.store) c.settle.result (g.S.Store.disk c.is_fresh.new.store).held c.settle.new.self c.args.self.now.header c.layout_of-chunks.result.chunks c.in-Ok-true.field-0
    c.settle.ensures.kept.header c.layout_of-chunks.ensures.chunks (c.settle.ensures.pages ∙ c.clear.ensures) (c.settle.ensures.map ∙ c.clear-2.ensures) c.settle.ensures.settled c.settle.ensures.kept.sized c.requires.version
    c.in-Ok-true.field-0-test c.in-Ok-true.ensures.read

pub returns-clause-wrong : goal.returns-clause-wrong
returns-clause-wrong g c =
    old_fine (g.S.Store.tells c.is_fresh.new.store) c.settle.result (g.S.Store.disk c.is_fresh.new.store).held c.settle.new.self c.layout_of-chunks.result.chunks (c.settle.ensures.map ∙ c.clear-2.ensures) c.settle.ensures.twins
