use Rattle.std.proofs.Common.{inr}
use Rattle.vd_edge.proofs.session.on_devices.Goals as goal

pub returns : goal.returns
returns g c =
    let named = c.in-Ok.ensures in
    inr (_, (_, _, _, _, record { files = named.files; made_so = named.made; none = named.none }, c.command-status.ensures), c.flushed_status-status.ensures.either)
