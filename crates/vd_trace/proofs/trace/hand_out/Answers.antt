use Rattle.std.proofs.Common.{ap, ◌≤◌, length}
use Rattle.vd_law.specs.Entries as law
use Rattle.vd_trace.proofs.Requests.{filled-front, put-front}
use Rattle.vd_trace.proofs.trace.hand_out.Goals as goal

pub returns-in-Fill-clause-request : goal.returns-in-Fill-clause-request
returns-in-Fill-clause-request c =
    let room : c.in-Fill.count ≤ length c.args.content.now = rw c.in-Fill.is at c.requires.room in
    rw c.in-Fill.is (ap (law.Write c.in-Fill.first) (filled-front c.args.content.now c.fill.new.content _ c.in-Fill.count c.from-in-Fill.result c.in-Fill.byte c.filled.result room
    c.from-in-Fill.ensures c.fill.ensures c.filled.ensures))

pub returns-in-Put-clause-request : goal.returns-in-Put-clause-request
returns-in-Put-clause-request c =
    let room : 1 ≤ length c.args.content.now = rw c.in-Put.is at c.requires.room in
    rw c.in-Put.is (ap (law.Write c.in-Put.first) (put-front c.args.content.now _ room))
