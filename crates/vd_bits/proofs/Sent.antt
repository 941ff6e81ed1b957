-- Bitmaps and sets may go to another thread, and threads may share them.
use denote.Param.Send.{IsSend, IsSync, sendable}
use Rattle.std.proofs.Crossing as std
use Rattle.vd_bits.specs.contracts.flags.Flags as Flags
use Rattle.vd_bits.specs.contracts.bits.Bits as Bits
use Rattle.vd_bits.specs.contracts.marked.Marked as Marked

flags_send : IsSend Flags.the_row
flags_send = search (sendable, std.crosses) depth 60 fits 20000

flags_sync : IsSync Flags.the_row
flags_sync = search (sendable, std.crosses) depth 60 fits 20000

pub bits_send : IsSend Bits.the_row
bits_send = search (sendable, std.crosses, flags_send) depth 60 fits 20000

pub bits_sync : IsSync Bits.the_row
bits_sync = search (sendable, std.crosses, flags_sync) depth 60 fits 20000

pub marked_send : IsSend Marked.the_row
marked_send = search (sendable, std.crosses, flags_send) depth 60 fits 20000

pub marked_sync : IsSync Marked.the_row
marked_sync = search (sendable, std.crosses, flags_sync) depth 60 fits 20000

-- for `search`, beside `sendable` and std's
pub ruleset crosses = (bits_send, bits_sync, marked_send, marked_sync)
