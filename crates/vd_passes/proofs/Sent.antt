-- A pass may go to another thread, and threads may share it.
use denote.Param.Send.{IsSend, IsSync, sendable}
use Rattle.std.proofs.Crossing as std
use Rattle.vd_passes.specs.contracts.buffer.Buffer as Buffer
use Rattle.vd_passes.specs.contracts.pass.Pass as Pass
use Rattle.vd_passes.specs.contracts.shape.Shape as Shape

pub buffer_send : IsSend Buffer.the_row
buffer_send = search (sendable, std.crosses) depth 60 fits 20000

pub buffer_sync : IsSync Buffer.the_row
buffer_sync = search (sendable, std.crosses) depth 60 fits 20000

pub pass_send : IsSend Pass.the_row
pass_send = search (sendable, std.crosses, buffer_send) depth 60 fits 20000

pub pass_sync : IsSync Pass.the_row
pass_sync = search (sendable, std.crosses, buffer_sync) depth 60 fits 20000

pub shape_send : IsSend Shape.the_row
shape_send = search sendable depth 20

pub shape_sync : IsSync Shape.the_row
shape_sync = search sendable depth 20

-- for `search`, beside `sendable` and std's
pub ruleset crosses = (buffer_send, buffer_sync, pass_send, pass_sync, shape_send, shape_sync)
