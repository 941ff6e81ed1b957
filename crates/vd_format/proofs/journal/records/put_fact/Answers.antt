use Rattle.vd_format.proofs.Writing.{fact_put}
use Rattle.vd_format.proofs.journal.records.put_fact.Goals as goal

pub returns : goal.returns
returns c = fact_put c.args.bytes.now c.put_u32.new.bytes c.put_entry.new.bytes c.args.at c.args.fact.now c.requires c.put_u32.ensures c.put_entry.ensures
