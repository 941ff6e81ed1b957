use Rattle.std.proofs.Common.{◌+◌, sym, subst}
use Rattle.vd_law.specs.declared.entry.Event.{Event}
use Rattle.vd_law.specs.Entries.{entry_of, ◌▸◌}
use Rattle.vd_judge.specs.ContentStates.{IsSearch}
use Rattle.vd_judge.proofs.Searching.{search-issue}
use Rattle.vd_judge.proofs.contents.search_with.Goals as goal

pub returns-then-firm-number-clause-search : goal.returns-then-firm-number-clause-search
returns-then-firm-number-clause-search c start p told before =
    subst (λ (event : Event). IsSearch start (p ▸ entry_of event) c.args.s c.args.firm c.args.v.now (record { number = c.args.search.number + 1; found = c.is_same_sector.result })) (sym c.in-Issue.is)
    (search-issue start p c.args.s c.args.firm c.args.v.now c.in-Some.w.now c.in-Issue.id c.in-Issue.first c.in-Issue.content.now c.args.search c.is_same_sector.result told c.in-Some.ensures before c.if-search.false c.if-firm-number.true c.is_same_sector.ensures)
