use Rattle.std.proofs.Common.{◌≡◌, ◌+◌, ◌≤◌, ◌∙◌, ap, subst, refl, length, slice_set}
use Rattle.vd_device.specs.declared.settled.Settled.TheVariants.{Done, NotYet, Failed}
use Rattle.vd_passes.specs.declared.pass.Pass.{Pass}
use Rattle.vd_passes.specs.Passes.{after_piece}
use Rattle.vd_lists.proofs.Places.{read_place}
use Rattle.vd_machine.proofs.Members.{picked}
use Rattle.vd_machine.proofs.Ended.{requests-are, extends-none}
use Rattle.vd_machine.proofs.Submitting.{put-back, call-failed}
use Rattle.vd_lists.proofs.Changes.{slice_set_unchanged}
use Rattle.vd_machine.proofs.Seen.{part_of, part-long, part-kept, sees-part, extends-part}
use Rattle.vd_passes.proofs.Stopping.{takes-stood}
use Rattle.vd_machine.proofs.looking.settle_store_look.Goals as goal

pub returns-in-Done-clause-settled : goal.returns-in-Done-clause-settled
returns-in-Done-clause-settled g c =
    let at = c.requires.waiting in let passes = c.args.passes.now.items in let i = c.args.pass in let q = c.index_mut-p.result.now in let out = c.args.out.now in let part = c.settle.new.out in
    let there = read_place passes i at.0 q at.1 c.index_mut-p.ensures.value in let taken = c.take_ticket-ticket.ensures in
    let fits : q.done + q.piece ≤ length out = subst (λ (x : Pass). x.done + x.piece ≤ length out) (picked passes i at q c.index_mut-p.ensures.value) at.2.2 in
    let filled : length part ≡ q.piece = c.settle.auto.out ∙ part-long q out fits in (
      Done,
      refl,
      λ fresh. record {
        pass = q;
        ticket = c.take_ticket-ticket.result;
        front = part_of q out;
        content = part;
        there = there;
        has = taken.ticket;
        effect = sees-part q c.end_piece.new.self c.spend.new.self c.call_id-id.result part there (c.end_piece.ensures ∙ ap after_piece taken.rest) c.spend.ensures c.call_id-id.ensures.pass c.call_id-id.ensures.call c.add.ensures.entry filled;
        call = record { settles = c.in-Done.ensures.settles; cause = c.in-Done.ensures.cause; last = c.in-Done.ensures.last; counts = c.in-Done.ensures.counts; takes = c.in-Done.ensures.takes; gives = c.in-Done.ensures.gives; undone = c.in-Done.ensures.undone };
      },
      (q, there, extends-part part q.piece filled c.add.ensures.extends),
      c.in-Done.ensures.cause,
    )

pub returns-in-NotYet-clause-settled : goal.returns-in-NotYet-clause-settled
returns-in-NotYet-clause-settled g c =
    let at = c.requires.waiting in let passes = c.args.passes.now.items in let i = c.args.pass in let q = c.index_mut-p.result.now in let out = c.args.out.now in let part = c.settle.new.out in
    let there = read_place passes i at.0 q at.1 c.index_mut-p.ensures.value in let taken = c.take_ticket-ticket.ensures in (
      NotYet c.in-NotYet.ticket,
      refl,
      λ fresh. record {
        pass = q;
        ticket = c.take_ticket-ticket.result;
        front = part_of q out;
        content = part;
        there = there;
        has = taken.ticket;
        effect = (
          requests-are refl (ap (λ (x : Pass). slice_set passes i x) (put-back q c.take_ticket-ticket.new.self c.put_ticket.new.self c.take_ticket-ticket.result c.in-NotYet.ticket taken.rest taken.ticket c.in-NotYet.ensures.settles.0 c.put_ticket.ensures) ∙ slice_set_unchanged passes i q there) refl,
          part-kept q out part c.in-NotYet.ensures.settles.1,
        );
        call = record { settles = c.in-NotYet.ensures.settles; cause = c.in-NotYet.ensures.cause; last = c.in-NotYet.ensures.last; counts = c.in-NotYet.ensures.counts; takes = c.in-NotYet.ensures.takes; gives = c.in-NotYet.ensures.gives; undone = c.in-NotYet.ensures.undone };
      },
      (q, there, extends-none c.args.history.now),
      c.in-NotYet.ensures.cause,
    )

pub returns-in-Failed-clause-settled : goal.returns-in-Failed-clause-settled
returns-in-Failed-clause-settled g c =
    let at = c.requires.waiting in let passes = c.args.passes.now.items in let i = c.args.pass in let q = c.index_mut-p.result.now in let out = c.args.out.now in let part = c.settle.new.out in
    let there = read_place passes i at.0 q at.1 c.index_mut-p.ensures.value in let taken = c.take_ticket-ticket.ensures in (
      Failed c.in-Failed.number,
      refl,
      λ fresh. record {
        pass = q;
        ticket = c.take_ticket-ticket.result;
        front = part_of q out;
        content = part;
        there = there;
        has = taken.ticket;
        effect = (
          record { pass = q; there = there; after = requests-are refl (ap (λ (x : Pass). slice_set passes i x) (call-failed q c.take_ticket-ticket.new.self c.fail.new.self c.take_ticket-ticket.result.number c.in-Failed.number taken.rest c.in-Failed.ensures.settles.0 c.fail.ensures)) refl },
          part-kept q out part c.in-Failed.ensures.settles.1,
        );
        call = record { settles = c.in-Failed.ensures.settles; cause = c.in-Failed.ensures.cause; last = c.in-Failed.ensures.last; counts = c.in-Failed.ensures.counts; takes = c.in-Failed.ensures.takes; gives = c.in-Failed.ensures.gives; undone = c.in-Failed.ensures.undone };
      },
      (q, there, extends-none c.args.history.now),
      c.in-Failed.ensures.cause,
    )

pub returns-in-Done-clause-stopped : goal.returns-in-Done-clause-stopped
returns-in-Done-clause-stopped g c = takes-stood g.S.Store _ _ _ c.in-Done.ensures.takes

pub returns-in-Done-clause-keeps : goal.returns-in-Done-clause-keeps
returns-in-Done-clause-keeps g c = let got = c.in-Done.ensures in record { counts = got.counts; telling = got.takes.keeps }

pub returns-in-NotYet-clause-stopped : goal.returns-in-NotYet-clause-stopped
returns-in-NotYet-clause-stopped g c = takes-stood g.S.Store _ _ _ c.in-NotYet.ensures.takes

pub returns-in-NotYet-clause-keeps : goal.returns-in-NotYet-clause-keeps
returns-in-NotYet-clause-keeps g c = let got = c.in-NotYet.ensures in record { counts = got.counts; telling = got.takes.keeps }

pub returns-in-Failed-clause-stopped : goal.returns-in-Failed-clause-stopped
returns-in-Failed-clause-stopped g c = takes-stood g.S.Store _ _ _ c.in-Failed.ensures.takes

pub returns-in-Failed-clause-keeps : goal.returns-in-Failed-clause-keeps
returns-in-Failed-clause-keeps g c = let got = c.in-Failed.ensures in record { counts = got.counts; telling = got.takes.keeps }
