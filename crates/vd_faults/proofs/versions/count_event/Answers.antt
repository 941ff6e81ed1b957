use Rattle.std.proofs.Common.{◌≡◌, Some, length, take, sym, ap, ◌∙◌}
use Rattle.std.specs.Prelude.{slice_get}
use Rattle.vd_law.specs.Entries.{Entry, Issue, entry_of, past}
use Rattle.vd_faults.proofs.Counting.{issue-inside, counted-issue, counted-same}
use Rattle.vd_faults.proofs.versions.count_event.Goals as goal

pub change_range-requires : goal.change_range-requires
change_range-requires c =
    let begins = c.in-Begins.ensures {u = tt} in
    let at : slice_get c.args.tape.now.log.entries c.args.i ≡ Some (Issue begins.0 c.in-Begins.first c.in-Begins.content.now) = (rw c.log.ensures at c.event.ensures) ∙ ap (λ (e : Entry). Some e) begins.1 in
    issue-inside (length c.args.all.now.items) c.args.tape.now c.args.i begins.0 c.in-Begins.first c.in-Begins.content.now c.requires.traced c.requires.place at

pub returns-in-Begins-clause-counted : goal.returns-in-Begins-clause-counted
returns-in-Begins-clause-counted c = λ before s v now.
    let begins = c.in-Begins.ensures {u = tt} in
    let at : slice_get c.args.tape.now.log.entries c.args.i ≡ Some (Issue begins.0 c.in-Begins.first c.in-Begins.content.now) = (rw c.log.ensures at c.event.ensures) ∙ ap (λ (e : Entry). Some e) begins.1 in
    counted-issue c.args.tape.now.log.entries c.args.tape.now.sealed c.args.i begins.0 c.in-Begins.first c.in-Begins.content.now at c.requires.short c.requires.place s (slice_get c.args.all.now.items s) v (before s)
    (sym (c.change_range.ensures.each s) ∙ now)

pub returns-in-Other-clause-counted : goal.returns-in-Other-clause-counted
returns-in-Other-clause-counted c = λ before s v now.
    let same = c.in-Other.ensures {u = tt} (past (take c.args.i c.args.tape.now.log.entries)) s in
    counted-same c.args.tape.now.log.entries c.args.tape.now.sealed c.args.i (entry_of c.event.result) (rw c.log.ensures at c.event.ensures) s v same.0 same.1 (before s v now)
