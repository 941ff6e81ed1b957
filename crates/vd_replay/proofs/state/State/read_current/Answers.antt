use Rattle.std.proofs.Common.{◌∙◌}
use Rattle.vd_replay.proofs.FillingLaws.{current_says, current_wrong}
use Rattle.vd_replay.proofs.state.State.read_current.Goals as goal

pub returns-clause-says : goal.returns-clause-says
returns-clause-says g c =
    current_says (g.S.Store.tells c.read_entries.new.store) c.settle.result (g.S.Store.disk c.read_entries.new.store).held c.settle.new.self c.args.self.now.header c.read_entries.new.self.pages c.read_entries.new.self.map c.in_ok-next.next
    (c.settle.ensures.kept.header ∙ c.read_entries.ensures.kept.header) c.settle.ensures.pages c.settle.ensures.map c.settle.ensures.settled c.settle.ensures.kept.sized c.requires.version c.in_ok-next.ensures.read c.in_ok-next.ensures.taken.grammar

pub returns-clause-wrong : goal.returns-clause-wrong
returns-clause-wrong g c =
    current_wrong (g.S.Store.tells c.read_entries.new.store) c.settle.result (g.S.Store.disk c.read_entries.new.store).held c.settle.new.self c.args.self.now.header c.read_entries.new.self.pages c.read_entries.new.self.map c.in_ok-next.next
    (c.settle.ensures.kept.header ∙ c.read_entries.ensures.kept.header) c.settle.ensures.map c.settle.ensures.twins c.settle.ensures.kept.sized c.requires.version c.in_ok-next.ensures.read
