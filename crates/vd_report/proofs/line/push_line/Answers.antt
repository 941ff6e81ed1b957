use Rattle.vd_report.proofs.line.push_line.Goals as goal

pub returns-in-DoubleChunk-clause-items : goal.returns-in-DoubleChunk-clause-items
returns-in-DoubleChunk-clause-items c =
    rw (c.in-DoubleChunk.is, ← c.into-in-DoubleChunk.ensures, ← c.into-in-DoubleChunk-2.ensures) c.push_phrase-in-DoubleChunk.ensures.items
