use Rattle.std.proofs.Common.{arith}
use Rattle.vd_io.proofs.Windows.{filled}
use Rattle.vd_io.proofs.window.Window.fill.Goals as goal

pub returns-clause-bytes : goal.returns-clause-bytes
returns-clause-bytes g c = λ told.
    filled c.self.inside.bytes c.copy_within.new.self c.read.new.room c.self.inside.from c.self.inside.to c.in_ok-count.count c.args.self.now
    (g.I.Source.rest c.args.source.now) (g.I.Source.rest c.read.new.self) c.self.invariant.0 (omega (arith, c.self.told, c.self.invariant.1)) c.in_ok-count.ensures.within
    c.self.view_is c.copy_within.ensures.after (c.in_ok-count.ensures.bytes told).bytes
