use Rattle.std.proofs.Common.{◌≡◌, Some, length, take, refl, sym, ap, ◌∙◌, arith}
use Rattle.std.specs.Prelude.{slice_get}
use Rattle.std.proofs.lemmas.Option.{slice_get_within}
use Rattle.vd_law.specs.Entries.{Entry, Issue, Done, entry_of, past}
use Rattle.vd_faults.proofs.Counting.{issue-inside}
use Rattle.vd_faults.proofs.Laying.{laid-same, laid-issue}
use Rattle.vd_faults.proofs.image.lay_event.Goals as goal

pub lay_content-requires-clause-versions : goal.lay_content-requires-clause-versions
lay_content-requires-clause-versions c =
    let begins = c.in-Begins.ensures {u = tt} in
    let at : slice_get c.args.tape.now.log.entries c.args.i ≡ Some (Issue begins.0 c.in-Begins.first c.in-Begins.content.now) = (rw c.log.ensures at c.event.ensures) ∙ ap (λ (e : Entry). Some e) begins.1 in
    issue-inside (length c.args.all.now.items) c.args.tape.now c.args.i begins.0 c.in-Begins.first c.in-Begins.content.now c.requires.traced c.requires.place at

pub lay_content-requires-clause-sectors : goal.lay_content-requires-clause-sectors
lay_content-requires-clause-sectors c =
    let begins = c.in-Begins.ensures {u = tt} in
    let at : slice_get c.args.tape.now.log.entries c.args.i ≡ Some (Issue begins.0 c.in-Begins.first c.in-Begins.content.now) = (rw c.log.ensures at c.event.ensures) ∙ ap (λ (e : Entry). Some e) begins.1 in
    let inside = issue-inside (length c.args.all.now.items) c.args.tape.now c.args.i begins.0 c.in-Begins.first c.in-Begins.content.now c.requires.traced c.requires.place at in
    omega (arith, inside, c.requires.same)

pub returns-in-Begins-clause-lays : goal.returns-in-Begins-clause-lays
returns-in-Begins-clause-lays c = λ start target same before s v now.
    let begins = c.in-Begins.ensures {u = tt} in
    let at : slice_get c.args.tape.now.log.entries c.args.i ≡ Some (Issue begins.0 c.in-Begins.first c.in-Begins.content.now) = (rw c.log.ensures at c.event.ensures) ∙ ap (λ (e : Entry). Some e) begins.1 in
    let within = slice_get_within c.lay_content.new.all.items s v now in
    laid-issue start target c.args.tape.now.log.entries c.args.i begins.0 c.in-Begins.first c.in-Begins.content.now s (slice_get c.args.all.now.items s) v c.args.image.now.items c.lay_content.new.image.items
    at c.requires.short c.requires.place (omega (arith, within, c.lay_content.ensures.size, same)) (before s) (sym (c.lay_content.ensures.versions s) ∙ now) (c.lay_content.ensures.image s)

pub returns-in-IsDone-clause-lays : goal.returns-in-IsDone-clause-lays
returns-in-IsDone-clause-lays c = λ start target same before s v now.
    let done = c.in-IsDone.ensures {u = tt} in
    laid-same start target c.args.tape.now.log.entries c.args.i (Done done.0) s v c.args.image.now.items ((rw c.log.ensures at c.event.ensures) ∙ ap (λ (e : Entry). Some e) done.1) refl (before s v now)

pub returns-in-Other-clause-lays : goal.returns-in-Other-clause-lays
returns-in-Other-clause-lays c = λ start target same before s v now.
    laid-same start target c.args.tape.now.log.entries c.args.i (entry_of c.event.result) s v c.args.image.now.items (rw c.log.ensures at c.event.ensures)
    (c.in-Other.ensures {u = tt} (past (take c.args.i c.args.tape.now.log.entries)) s).0 (before s v now)
