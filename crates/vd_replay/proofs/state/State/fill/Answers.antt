use Rattle.vd_replay.proofs.FillingLaws.{says_void}
use Rattle.vd_replay.proofs.state.State.fill.Goals as goal

pub returns-clause-says : goal.returns-clause-says
returns-clause-says g c = says_void (g.S.Store.tells c.read-read.new.store) c.read-read.result (g.S.Store.disk c.read-read.new.store).held c.read-read.new.self c.is_err-self.result c.read-read.ensures.says
