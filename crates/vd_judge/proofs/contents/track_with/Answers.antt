use Rattle.std.proofs.Common.{ap, sym, ◌∙◌}
use Rattle.vd_law.specs.declared.entry.Event.{Event}
use Rattle.vd_law.specs.Entries.{entry_of, same_call, ◌▸◌}
use Rattle.vd_judge.specs.ContentStates.{count_and_open, open_after_end}
use Rattle.vd_judge.proofs.Finding.{tracked-done, tracked-broke}
use Rattle.vd_judge.proofs.contents.track_with.Goals as goal

pub returns-in-Done-clause-track : goal.returns-in-Done-clause-track
returns-in-Done-clause-track c p found =
    c.with_end.ensures
    ∙ ap (open_after_end (same_call c.in-Done.call c.args.id)) found
    ∙ sym (tracked-done p c.in-Done.call c.args.id c.args.s)
    ∙ ap (λ (event : Event). count_and_open (p ▸ entry_of event) c.args.id c.args.s) (sym c.in-Done.is)

pub returns-in-Broke-clause-track : goal.returns-in-Broke-clause-track
returns-in-Broke-clause-track c p found =
    c.with_end-in-Broke.ensures
    ∙ ap (open_after_end (same_call c.in-Broke.call c.args.id)) found
    ∙ sym (tracked-broke p c.in-Broke.call c.args.id c.args.s)
    ∙ ap (λ (event : Event). count_and_open (p ▸ entry_of event) c.args.id c.args.s) (sym c.in-Broke.is)
