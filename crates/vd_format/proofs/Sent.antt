-- A map may go to another thread, and threads may share it.
use denote.Param.Send.{IsSend, IsSync, sendable}
use Rattle.std.proofs.Crossing as std
use Rattle.vd_format.specs.contracts.map.Entry as Entry
use Rattle.vd_format.specs.contracts.map.pages.Map as Map

entry_send : IsSend Entry.the_row
entry_send = search sendable depth 20

entry_sync : IsSync Entry.the_row
entry_sync = search sendable depth 20

pub map_send : IsSend Map.the_row
map_send = search (sendable, std.crosses, entry_send) depth 60 fits 20000

pub map_sync : IsSync Map.the_row
map_sync = search (sendable, std.crosses, entry_sync) depth 60 fits 20000

-- for `search`, beside `sendable` and std's
pub ruleset crosses = (map_send, map_sync)
