use Rattle.vd_format.proofs.Headers as headers
use Rattle.vd_format.proofs.header.writing.put_fields.Goals as goal

pub returns : goal.returns
returns c =
    headers.put_fields c.args.header.now c.args.bytes.now c.put.new.bytes c.put_u32.new.bytes c.put_u32-2.new.bytes c.put_u32-3.new.bytes c.put_u32-4.new.bytes c.put_u32-5.new.bytes c.put_u64.new.bytes c.put_u64-2.new.bytes c.put_u64-3.new.bytes
    c.requires c.put.ensures c.put_u32.ensures c.put_u32-2.ensures c.put_u32-3.ensures c.put_u32-4.ensures c.put_u32-5.ensures c.put_u64.ensures c.put_u64-2.ensures c.put_u64-3.ensures
