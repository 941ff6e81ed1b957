use Rattle.vd_keeper.proofs.Grammar.{facts-grammar}
use Rattle.vd_keeper.proofs.putting.record_of.Goals as goal

pub write_record2-sector-requires : goal.write_record2-sector-requires
write_record2-sector-requires c =
    rw (c.next_facts-facts.ensures.facts, c.layout_of-layout.ensures.chunks, c.layout_of-layout.ensures.blocks)
    (facts-grammar c.args.header.now c.args.stale.now c.args.snapshot.now c.args.table.now c.args.from c.requires.source c.requires.valid c.requires.storage c.requires.some)
