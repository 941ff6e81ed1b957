use Rattle.std.proofs.Common.{length, ◌≤◌}
use Rattle.std.specs.List.{slice_range}
use Rattle.vd_io.proofs.Windows.{skip-front}
use Rattle.vd_io.proofs.window.Window.skip.Goals as goal

pub returns : goal.returns
returns c =
    let enough : c.args.count ≤ length (slice_range c.self.inside.bytes c.self.inside.from c.self.inside.to) = rw c.self.view_is c.requires in
    rw (← c.self.view_is) (skip-front c.self.inside.bytes c.self.inside.from c.self.inside.to c.args.count enough)
