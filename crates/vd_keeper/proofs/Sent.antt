-- A keeper may go to another thread, and threads may share it.
use denote.Param.Send.{IsSend, IsSync, sendable}
use Rattle.std.proofs.Crossing as std
use Rattle.vd_bits.proofs.Sent as bits
use Rattle.vd_format.specs.contracts.header.Header as Header
use Rattle.vd_keeper.specs.contracts.sets.BlockSet as BlockSet
use Rattle.vd_keeper.specs.contracts.stage.Stage as Stage
use Rattle.vd_keeper.specs.contracts.stage.Way as Way
use Rattle.vd_keeper.specs.contracts.keeper.Keeper as Keeper

header_send : IsSend Header.the_row
header_send = search sendable depth 20

header_sync : IsSync Header.the_row
header_sync = search sendable depth 20

stage_send : IsSend Stage.the_row
stage_send = search sendable depth 20

stage_sync : IsSync Stage.the_row
stage_sync = search sendable depth 20

way_send : IsSend Way.the_row
way_send = search sendable depth 20

way_sync : IsSync Way.the_row
way_sync = search sendable depth 20

set_send : IsSend BlockSet.the_row
set_send = search (sendable, std.crosses, bits.crosses) depth 60 fits 20000

set_sync : IsSync BlockSet.the_row
set_sync = search (sendable, std.crosses, bits.crosses) depth 60 fits 20000

pub keeper_send : IsSend Keeper.the_row
keeper_send = search (sendable, std.crosses, bits.crosses, header_send, stage_send, way_send, set_send) depth 60 fits 20000

pub keeper_sync : IsSync Keeper.the_row
keeper_sync = search (sendable, std.crosses, bits.crosses, header_sync, stage_sync, way_sync, set_sync) depth 60 fits 20000

-- for `search`, beside `sendable` and std's
pub ruleset crosses = (keeper_send, keeper_sync)
