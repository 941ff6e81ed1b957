use Rattle.std.proofs.Common.{arith}
use Rattle.vd_format.proofs.Slots.{slot_of-spelling}
use Rattle.vd_format.proofs.journal.records.write_record2.Goals as goal

pub returns-clause-read : goal.returns-clause-read
returns-clause-read c = slot_of-spelling c.args.shape.now (record { bytes = c.put_record.new.bytes }) c.args.facts.now (record { chunks = omega arith; storage = omega arith; generation = omega arith }) (record { grammar = c.requires; bytes = c.put_record.ensures })
