use Rattle.std.proofs.Common.{ap, arith}
use Rattle.vd_keeper.specs.Entries.{union_of, fact_of}
use Rattle.vd_keeper.proofs.EntryLaws.{collected-one}
use Rattle.vd_keeper.proofs.putting.next_facts.Goals as goal

pub overflow_cast-chunk : goal.overflow_cast-chunk
overflow_cast-chunk c = omega (arith, c.in-Some.ensures.few)

pub overflow_add-at : goal.overflow_add-at
overflow_add-at c = omega (arith, c.in-Some.ensures.few)

pub loop-at-preserved : goal.loop-at-preserved
loop-at-preserved c =
    rw (c.push.ensures, c.entry_for-entry.ensures)
    (collected-one (fact_of c.args.header.now c.args.table.now (union_of c.args.stale.now.bits c.args.snapshot.now.bits)) c.args.snapshot.now c.args.from c.loop-at.facts c.loop-at.at c.loop-at.invariant c.in-Some.next c.in-Some.ensures.next
    (let len = c.len.ensures.len in omega (arith, len)))
