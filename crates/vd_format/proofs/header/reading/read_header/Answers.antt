use Rattle.std.proofs.Common.{sym, ◌∙◌, arith}
use Rattle.vd_format.proofs.Headers.{header_of-ok, header_of-not_image, header_of-version, header_of-field}
use Rattle.vd_format.proofs.header.reading.read_header.Goals as goal

pub returns-clause-ok : goal.returns-clause-ok
returns-clause-ok c h =
    let law = header_of-ok c.args.sector.now h c.read.ensures.fits (omega arith) in
    (λ told. law.0 (sym c.read.ensures.read ∙ told), λ spells. c.read.ensures.read ∙ law.1 spells)

pub returns-clause-not_image : goal.returns-clause-not_image
returns-clause-not_image c =
    let law = header_of-not_image c.args.sector.now in
    (λ told. law.0 (sym c.read.ensures.read ∙ told), λ has. c.read.ensures.read ∙ law.1 has)

pub returns-clause-version : goal.returns-clause-version
returns-clause-version c version =
    let law = header_of-version c.args.sector.now version in
    (λ told. law.0 (sym c.read.ensures.read ∙ told), λ has. c.read.ensures.read ∙ law.1 has)

pub returns-clause-field : goal.returns-clause-field
returns-clause-field c field =
    let law = header_of-field c.args.sector.now field in
    (λ told. law.0 (sym c.read.ensures.read ∙ told), λ has. c.read.ensures.read ∙ law.1 has)
