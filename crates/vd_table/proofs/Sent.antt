-- A table may go to another thread, and threads may share it.
use denote.Param.Send.{IsSend, IsSync, sendable}
use Rattle.std.proofs.Crossing as std
use Rattle.vd_bits.proofs.Sent as bits
use Rattle.vd_table.specs.contracts.table.Table as Table

pub table_send : IsSend Table.the_row
table_send = search (sendable, std.crosses, bits.crosses) depth 60 fits 20000

pub table_sync : IsSync Table.the_row
table_sync = search (sendable, std.crosses, bits.crosses) depth 60 fits 20000
