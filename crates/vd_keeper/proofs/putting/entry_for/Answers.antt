use Rattle.std.proofs.Common.{◌+◌, Some, None, refl, ap, bit_or}
use Rattle.vd_keeper.proofs.EntryLaws.{entry-none, entry-some}
use Rattle.vd_keeper.proofs.putting.entry_for.Goals as goal

pub returns-then-mask-eq0 : goal.returns-then-mask-eq0
returns-then-mask-eq0 c =
    entry-none c.args.header.now c.args.stale.now c.args.snapshot.now c.args.table.now c.requires.source c.args.chunk (bit_or c.mask.result c.mask-2.result) (rw (c.mask.ensures, c.mask-2.ensures) refl) c.if-mask-eq0.true

pub returns-in-Some : goal.returns-in-Some
returns-in-Some c =
    entry-some c.args.header.now c.args.stale.now c.args.snapshot.now c.args.table.now c.requires.source c.args.chunk (bit_or c.mask.result c.mask-2.result) (c.in-Some.storage + 1) (Some (Some c.in-Some.storage))
    (rw (c.mask.ensures, c.mask-2.ensures) refl) c.if-mask-eq0.false c.in-Some.ensures.storage refl

pub returns-in-None : goal.returns-in-None
returns-in-None c =
    entry-some c.args.header.now c.args.stale.now c.args.snapshot.now c.args.table.now c.requires.source c.args.chunk (bit_or c.mask.result c.mask-2.result) 0 (Some None)
    (rw (c.mask.ensures, c.mask-2.ensures) refl) c.if-mask-eq0.false c.in-None.ensures.storage refl
