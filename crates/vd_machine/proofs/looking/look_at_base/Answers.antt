use Rattle.std.proofs.Common.{◌∙◌, ap, inr, Some}
use Rattle.vd_passes.specs.Causes.{OfBase, flying_of}
use Rattle.vd_lists.proofs.Changes.{slice_set_here}
use Rattle.vd_lists.proofs.Places.{read_place}
use Rattle.vd_machine.proofs.looking.look_at_base.Goals as goal

pub returns-clause-number : goal.returns-clause-number
returns-clause-number g c =
    let at = c.requires.ready in let passes = c.args.passes.now.items in let q = c.index_mut-p.result.now in let next = c.submit_read-ticket.ensures.next in
    let there = read_place passes c.args.pass at.0 q at.1 c.index_mut-p.ensures.value in
    (c.begin_base_look.new.self, slice_set_here passes c.args.pass c.begin_base_look.new.self q there, inr (ap (flying_of OfBase) c.begin_base_look.ensures ∙ ap Some next.number, next.last ∙ next.number))

pub returns-clause-keeps : goal.returns-clause-keeps
returns-clause-keeps g c = let got = c.submit_read-ticket.ensures in record { counts = got.counts; telling = got.telling }
