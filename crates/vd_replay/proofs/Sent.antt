-- The state of an opened image may go to another thread, and threads may share it.
use denote.Param.Send.{IsSend, IsSync, sendable}
use Rattle.std.proofs.Crossing as std
use Rattle.vd_law.proofs.Sent as law
use Rattle.vd_bits.proofs.Sent as bits
use Rattle.vd_table.proofs.Sent.{table_send, table_sync}
use Rattle.vd_format.proofs.Sent as map
use Rattle.vd_format.specs.contracts.header.Header as Header
use Rattle.vd_replay.specs.contracts.buffer.ReadBuffer as ReadBuffer
use Rattle.vd_replay.specs.contracts.state.Cursor as Cursor
use Rattle.vd_replay.specs.contracts.state.State as State

header_send : IsSend Header.the_row
header_send = search sendable depth 20

header_sync : IsSync Header.the_row
header_sync = search sendable depth 20

cursor_send : IsSend Cursor.the_row
cursor_send = search sendable depth 20

cursor_sync : IsSync Cursor.the_row
cursor_sync = search sendable depth 20

buffer_send : IsSend ReadBuffer.the_row
buffer_send = search (sendable, std.crosses, law.crosses) depth 60 fits 20000

buffer_sync : IsSync ReadBuffer.the_row
buffer_sync = search (sendable, std.crosses, law.crosses) depth 60 fits 20000

pub state_send : IsSend State.the_row
state_send = search (sendable, std.crosses, bits.crosses, map.crosses, table_send, header_send, cursor_send, buffer_send) depth 60 fits 20000

pub state_sync : IsSync State.the_row
state_sync = search (sendable, std.crosses, bits.crosses, map.crosses, table_sync, header_sync, cursor_sync, buffer_sync) depth 60 fits 20000

-- for `search`, beside `sendable` and std's
pub ruleset crosses = (state_send, state_sync)
