use Rattle.vd_format.proofs.Headers.{header_of-spelling}
use Rattle.vd_format.proofs.header.writing.write_header.Goals as goal

pub returns-clause-read : goal.returns-clause-read
returns-clause-read c = header_of-spelling (record { bytes = c.put_fields.new.bytes }) c.args.header.now (record { valid = c.requires; bytes = c.put_fields.ensures })
