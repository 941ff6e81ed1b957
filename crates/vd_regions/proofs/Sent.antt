-- The blocks that passes hold may go to another thread, and threads may share them.
use denote.Param.Send.{IsSend, IsSync, sendable}
use Rattle.std.proofs.Crossing as std
use Rattle.vd_regions.specs.contracts.regions.Region as Region
use Rattle.vd_regions.specs.contracts.regions.Regions as Regions

region_send : IsSend Region.the_row
region_send = search sendable depth 20

region_sync : IsSync Region.the_row
region_sync = search sendable depth 20

pub regions_send : IsSend Regions.the_row
regions_send = search (sendable, std.crosses, region_send) depth 60 fits 20000

pub regions_sync : IsSync Regions.the_row
regions_sync = search (sendable, std.crosses, region_sync) depth 60 fits 20000

-- for `search`, beside `sendable` and std's
pub ruleset crosses = (regions_send, regions_sync)
