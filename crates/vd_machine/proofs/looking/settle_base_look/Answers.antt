use Rattle.std.proofs.Common.{◌≡◌, ◌+◌, ◌≤◌, ◌∙◌, ap, subst, refl, List, length, slice_set}
use Rattle.vd_law.specs.declared.entry.Sector.{Sector}
use Rattle.vd_device.specs.declared.settled.Settled.TheVariants.{Done, NotYet, Failed}
use Rattle.vd_passes.specs.declared.pass.Pass.{Pass}
use Rattle.vd_passes.specs.Passes.{after_piece}
use Rattle.vd_passes.specs.Requests.{requests}
use Rattle.vd_passes.specs.Steps.{Sees}
use Rattle.vd_lists.proofs.Places.{read_place}
use Rattle.vd_machine.proofs.Members.{picked}
use Rattle.vd_machine.proofs.Ended.{requests-are, extends-none}
use Rattle.vd_lists.proofs.Changes.{slice_set_unchanged}
use Rattle.vd_machine.proofs.Seen.{part_of, with_part, part-long, part-kept, sees-part, extends-part, base-read-failed, fetch-back, padded-part, base-look-settled}
use Rattle.vd_machine.proofs.looking.settle_base_look.Goals as goal

pub returns-in-Done-clause-settled : goal.returns-in-Done-clause-settled
returns-in-Done-clause-settled g c =
    let at = c.requires.waiting in let passes = c.args.passes.now.items in let i = c.args.pass in let q = c.index_mut-p.result.now in let out = c.args.out.now in let part = c.settle_part.new.part in
    let there = read_place passes i at.0 q at.1 c.index_mut-p.ensures.value in let taken = c.take_fetch-ticket.ensures in let settled = c.in-Done.ensures in
    let fits : q.done + q.piece ≤ length out = subst (λ (x : Pass). x.done + x.piece ≤ length out) (picked passes i at q c.index_mut-p.ensures.value) at.2.2 in
    let filled : length part ≡ q.piece = c.settle_part.auto.part ∙ part-long q out fits in
    let padded = padded-part settled.content (part_of q out) part c.take_fetch-ticket.result.count q.piece settled.after (part-long q out fits) settled.long in (
      Done,
      refl,
      λ fresh. base-look-settled there taken.ticket settled
          (subst (λ (xs : List Sector). Sees xs i (requests c.args.shape.now fresh passes c.args.history.now.log.entries) (requests c.args.shape.now fresh (slice_set passes i c.spend.new.self) c.add.new.history.log.entries) out (with_part q out part)) padded
          (sees-part q c.end_piece.new.self c.spend.new.self c.call_id-id.result part there (c.end_piece.ensures ∙ ap after_piece taken.rest) c.spend.ensures c.call_id-id.ensures.pass c.call_id-id.ensures.call c.add.ensures.entry filled)),
      (q, there, extends-part part q.piece filled c.add.ensures.extends),
      c.in-Done.ensures.settles.cause,
    )

pub returns-in-NotYet-clause-settled : goal.returns-in-NotYet-clause-settled
returns-in-NotYet-clause-settled g c =
    let at = c.requires.waiting in let passes = c.args.passes.now.items in let i = c.args.pass in let q = c.index_mut-p.result.now in let out = c.args.out.now in let part = c.settle_part.new.part in
    let there = read_place passes i at.0 q at.1 c.index_mut-p.ensures.value in let taken = c.take_fetch-ticket.ensures in let settled = c.in-NotYet.ensures in (
      NotYet c.in-NotYet.ticket,
      refl,
      λ fresh. base-look-settled there taken.ticket settled (
        requests-are refl (ap (λ (x : Pass). slice_set passes i x) (fetch-back q c.take_fetch-ticket.new.self c.put_fetch.new.self c.take_fetch-ticket.result c.in-NotYet.ticket taken.rest taken.ticket settled.settles.settles.0 c.put_fetch.ensures) ∙ slice_set_unchanged passes i q there) refl,
        part-kept q out part settled.after,
      ),
      (q, there, extends-none c.args.history.now),
      c.in-NotYet.ensures.settles.cause,
    )

pub returns-in-Failed-clause-settled : goal.returns-in-Failed-clause-settled
returns-in-Failed-clause-settled g c =
    let at = c.requires.waiting in let passes = c.args.passes.now.items in let i = c.args.pass in let q = c.index_mut-p.result.now in let out = c.args.out.now in let part = c.settle_part.new.part in
    let there = read_place passes i at.0 q at.1 c.index_mut-p.ensures.value in let taken = c.take_fetch-ticket.ensures in let settled = c.in-Failed.ensures in (
      Failed c.in-Failed.number,
      refl,
      λ fresh. base-look-settled there taken.ticket settled (
        record { pass = q; there = there; after = requests-are refl (ap (λ (x : Pass). slice_set passes i x) (base-read-failed q c.take_fetch-ticket.new.self c.fail.new.self c.take_fetch-ticket.result.number c.in-Failed.number taken.rest settled.settles.settles.0 c.fail.ensures)) refl },
        part-kept q out part settled.after,
      ),
      (q, there, extends-none c.args.history.now),
      c.in-Failed.ensures.settles.cause,
    )

pub returns-in-Done-clause-number : goal.returns-in-Done-clause-number
returns-in-Done-clause-number g c = c.in-Done.ensures.settles.last

pub returns-in-Done-clause-keeps : goal.returns-in-Done-clause-keeps
returns-in-Done-clause-keeps g c = c.in-Done.ensures.settles.keeps

pub returns-in-NotYet-clause-number : goal.returns-in-NotYet-clause-number
returns-in-NotYet-clause-number g c = c.in-NotYet.ensures.settles.last

pub returns-in-NotYet-clause-keeps : goal.returns-in-NotYet-clause-keeps
returns-in-NotYet-clause-keeps g c = c.in-NotYet.ensures.settles.keeps

pub returns-in-Failed-clause-number : goal.returns-in-Failed-clause-number
returns-in-Failed-clause-number g c = c.in-Failed.ensures.settles.last

pub returns-in-Failed-clause-keeps : goal.returns-in-Failed-clause-keeps
returns-in-Failed-clause-keeps g c = c.in-Failed.ensures.settles.keeps
