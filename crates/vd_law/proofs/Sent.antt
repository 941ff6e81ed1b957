-- What stands in a history may go to another thread, and threads may share it.
use denote.Ref.{NamedLft}
use denote.Param.Send.{IsSend, IsSync, sendable}
use Rattle.vd_law.specs.contracts.entry.Sector as Sector
use Rattle.vd_law.specs.contracts.entry.CallId as CallId
use Rattle.vd_law.specs.contracts.entry.Answer as Answer
use Rattle.vd_law.specs.contracts.entry.CopyAnswer as CopyAnswer
use Rattle.vd_law.specs.contracts.entry.Event as Event
use Rattle.vd_law.specs.contracts.entry.Room as Room

pub sector_send : IsSend Sector.the_row
sector_send = search sendable depth 20

pub sector_sync : IsSync Sector.the_row
sector_sync = search sendable depth 20

pub call_send : IsSend CallId.the_row
call_send = search sendable depth 20

pub call_sync : IsSync CallId.the_row
call_sync = search sendable depth 20

pub answer_send : IsSend Answer.the_row
answer_send = search sendable depth 20

pub answer_sync : IsSync Answer.the_row
answer_sync = search sendable depth 20

pub copy_answer_send : IsSend CopyAnswer.the_row
copy_answer_send = search sendable depth 20

pub copy_answer_sync : IsSync CopyAnswer.the_row
copy_answer_sync = search sendable depth 20

pub event_send : (κ : NamedLft) → IsSend (Event.the_row κ)
event_send κ = search sendable depth 20

pub event_sync : (κ : NamedLft) → IsSync (Event.the_row κ)
event_sync κ = search sendable depth 20

pub room_send : IsSend Room.the_row
room_send = search sendable depth 20

pub room_sync : IsSync Room.the_row
room_sync = search sendable depth 20

-- for `search`, beside `sendable`
pub ruleset crosses = (sector_send, sector_sync, call_send, call_sync, answer_send, answer_sync, copy_answer_send, copy_answer_sync, event_send, event_sync, room_send, room_sync)
