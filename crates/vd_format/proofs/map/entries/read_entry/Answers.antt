use Rattle.std.proofs.Common.{sym, ◌∙◌, arith}
use Rattle.vd_format.proofs.Entries.{entry_of-ok, entry_of-err}
use Rattle.vd_format.proofs.map.entries.read_entry.Goals as goal

pub returns-clause-ok : goal.returns-clause-ok
returns-clause-ok c entry =
    let law = entry_of-ok c.args.shape.now c.args.chunk c.args.sector.now c.args.at entry c.read.ensures.small c.read.ensures.fits (omega arith) c.requires in
    (λ told. law.0 (sym c.read.ensures.read ∙ told), λ spells. c.read.ensures.read ∙ law.1 spells)

pub returns-clause-err : goal.returns-clause-err
returns-clause-err c storage =
    let law = entry_of-err c.args.shape.now c.args.chunk c.args.sector.now c.args.at storage c.read.ensures.small c.read.ensures.fits (omega arith) c.requires in
    (λ told. law.0 (sym c.read.ensures.read ∙ told), λ bad. c.read.ensures.read ∙ law.1 bad)
