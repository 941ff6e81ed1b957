use Rattle.bits_bench.proofs.Single.{single_found, again}
use Rattle.bits_bench.proofs.found.Goals as goal

pub returns-clause-found : goal.returns-clause-found
returns-clause-found c = single_found c.args.pages c.args.page _ c.requires.inside (rw (c.mark.ensures, c.requires.empty) at c.first-found.ensures.lowest) (rw (c.mark.ensures, c.requires.empty) at c.first-found.ensures.none)

pub returns-clause-empty : goal.returns-clause-empty
returns-clause-empty c = rw (c.unmark.ensures, c.mark.ensures, c.requires.empty) (again c.args.pages c.args.page)
