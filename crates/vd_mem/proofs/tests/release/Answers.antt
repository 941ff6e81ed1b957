use Rattle.std.proofs.Common.{[], ◌∷◌}
use Rattle.vd_mem.proofs.tests.release.Goals as goal

pub returns : goal.returns
returns c = c.write_now.ensures.calls.flight (c.args.read.now ∷ []) c.requires.alone
