use Rattle.std.proofs.Common.{ℕ, List, length, refl, sym, ap, ◌∙◌, arith}
use Rattle.std.specs.Prelude.{slice_get}
use Rattle.std.proofs.lemmas.Option.{slice_get_within}
use Rattle.vd_law.specs.declared.entry.Sector.{Sector}
use Rattle.vd_law.specs.Entries.{Done, entry_of}
use Rattle.vd_law.specs.Contents.{sector_in}
use Rattle.vd_faults.specs.Versions.{changed_if, made_firm}
use Rattle.vd_faults.proofs.Counting.{done-origin, origin-event, counted-done, counted-late}
use Rattle.vd_faults.proofs.versions.count_done.Goals as goal

pub event-requires : goal.event-requires
event-requires c =
    let place = c.requires.place in
    let o = done-origin (length c.args.all.now.items) c.args.tape.now c.args.i c.origin.result c.requires.traced place c.origin.ensures in
    rw c.log.ensures (slice_get_within c.args.tape.now.log.entries c.origin.result _ o.issue)

pub change_range-requires : goal.change_range-requires
change_range-requires c =
    let o = done-origin (length c.args.all.now.items) c.args.tape.now c.args.i c.origin.result c.requires.traced c.requires.place c.origin.ensures in
    let f = c.write_of-first.ensures c.requires.place.0 o.first o.content
    (origin-event c.args.tape.now.log.entries c.origin.result (entry_of c.event.result) c.requires.place.0 o.first o.content (rw c.log.ensures at c.event.ensures) o.issue) in
    omega (arith, o.ends.inside, f.0, ap length f.1)

pub returns-then-i-sealed-clause-counted : goal.returns-then-i-sealed-clause-counted
returns-then-i-sealed-clause-counted c = λ before s v at.
    let o = done-origin (length c.args.all.now.items) c.args.tape.now c.args.i c.origin.result c.requires.traced c.requires.place c.origin.ensures in
    let f = c.write_of-first.ensures c.requires.place.0 o.first o.content
    (origin-event c.args.tape.now.log.entries c.origin.result (entry_of c.event.result) c.requires.place.0 o.first o.content (rw c.log.ensures at c.event.ensures) o.issue) in
    counted-done (length c.args.all.now.items) c.args.tape.now.log.entries c.args.tape.now.sealed c.args.i c.requires.place.0 o.first o.content c.requires.place.1 (omega (arith, c.if-i-sealed.true, c.sealed.ensures)) o.ends s (slice_get c.args.all.now.items s) v (before s)
    (ap (λ (x : ℕ). changed_if made_firm (sector_in x o.content s) (slice_get c.args.all.now.items s)) (sym f.0)
    ∙ ap (λ (x : List Sector). changed_if made_firm (sector_in c.write_of-first.result.0 x s) (slice_get c.args.all.now.items s)) (sym f.1)
    ∙ sym (c.change_range.ensures.each s) ∙ at)

pub returns-else-i-sealed-clause-counted : goal.returns-else-i-sealed-clause-counted
returns-else-i-sealed-clause-counted c = λ before s v at.
    counted-late c.args.tape.now.log.entries c.args.tape.now.sealed c.args.i (Done c.requires.place.0) c.requires.place.1 s v refl (omega (arith, c.if-i-sealed.false, c.sealed.ensures)) (before s v at)
