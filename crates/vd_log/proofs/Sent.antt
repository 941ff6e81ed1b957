-- A log and a history may go to another thread, and threads may share them.
use denote.Param.Send.{IsSend, IsSync, sendable}
use Rattle.std.proofs.Crossing as std
use Rattle.vd_log.specs.contracts.log.Log as Log
use Rattle.vd_log.specs.contracts.history.History as History

pub log_send : IsSend Log.the_row
log_send = search (sendable, std.crosses) depth 60 fits 20000

pub log_sync : IsSync Log.the_row
log_sync = search (sendable, std.crosses) depth 60 fits 20000

pub history_send : IsSend History.the_row
history_send = search (sendable, std.crosses, log_send) depth 60 fits 20000

pub history_sync : IsSync History.the_row
history_sync = search (sendable, std.crosses, log_sync) depth 60 fits 20000

-- for `search`, beside `sendable`, std's and vd_law's
pub ruleset crosses = (log_send, log_sync, history_send, history_sync)
