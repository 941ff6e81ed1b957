use Rattle.std.proofs.Common.{◌+◌}
use Rattle.std.proofs.lemmas.List.{take_rest}
use Rattle.vd_trace.proofs.Splitting.{cut-some, cut-none}
use Rattle.vd_trace.proofs.fields.cut.Goals as goal

pub returns-in-Some-clause-blank : goal.returns-in-Some-clause-blank
returns-in-Some-clause-blank c = rw (take_rest c.args.text.now (c.in-Some.end + 1)) (cut-some 32 c.args.text.now c.in-Some.end c.in-Some.ensures)

pub returns-in-None-clause-whole : goal.returns-in-None-clause-whole
returns-in-None-clause-whole c = cut-none 32 c.args.text.now c.in-None.ensures
