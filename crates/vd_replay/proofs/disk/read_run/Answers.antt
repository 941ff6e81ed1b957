use Rattle.std.proofs.Common.{length}
use Rattle.vd_replay.proofs.DiskLaws.{read_background_run, read_zeros}
use Rattle.vd_replay.proofs.disk.read_run.Goals as goal

pub returns-in-Ok-read_background-clause-read : goal.returns-in-Ok-read_background-clause-read
returns-in-Ok-read_background-clause-read g c told also =
    read_background_run (g.S.Store.disk c.args.store.now).held (g.B.Base.content c.read_background.new.base) c.args.tracked c.args.first (length c.args.out.now) c.args.source c.read_background.new.out c.in-Background.is
    (c.in-Ok-read_background.ensures.read also)

pub returns-in-Zeros-clause-read : goal.returns-in-Zeros-clause-read
returns-in-Zeros-clause-read g c told also =
    read_zeros (g.S.Store.disk c.args.store.now).held (g.B.Base.content c.args.base.now) c.args.tracked c.args.first (length c.args.out.now) c.args.source c.clear.new.sectors c.in-Zeros.is c.clear.ensures
