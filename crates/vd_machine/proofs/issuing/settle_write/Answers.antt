use Rattle.std.proofs.Common.{true, refl, ◌∙◌, ap, slice_set}
use Rattle.std.proofs.lemmas.List.{nil_from_length}
use Rattle.vd_law.specs.Entries.{Broke, Done as Finished}
use Rattle.vd_bits.specs.Blocks.{Blocks}
use Rattle.vd_device.specs.declared.settled.Settled.TheVariants.{Done, NotYet, Failed}
use Rattle.vd_passes.specs.declared.pass.Pass.{Pass}
use Rattle.vd_passes.specs.Passes.{after_spending, after_piece}
use Rattle.vd_keeper.specs.Moves.{after_owe}
use Rattle.vd_lists.proofs.Places.{read_place}
use Rattle.vd_machine.proofs.Ended.{requests-are, extends-none, own-entry}
use Rattle.vd_machine.proofs.Submitting.{put-back, call-failed, settles-nothing}
use Rattle.vd_lists.proofs.Changes.{slice_set_unchanged}
use Rattle.vd_passes.proofs.Stopping.{takes-stood}
use Rattle.vd_machine.proofs.issuing.settle_write.Goals as goal

pub returns-in-NotYet-clause-settled : goal.returns-in-NotYet-clause-settled
returns-in-NotYet-clause-settled g c =
    let at = c.requires.waiting in let q = c.index_mut-p.result.now in let taken = c.take_ticket-ticket.ensures in let late = c.in-NotYet.ensures in
    let there = read_place c.args.passes.now.items c.args.pass at.0 q at.1 c.index_mut-p.ensures.value in (
      NotYet c.in-NotYet.ticket,
      refl,
      record {
        pass = q;
        ticket = c.take_ticket-ticket.result;
        there = there;
        has = taken.ticket;
        after = requests-are refl
            (ap (λ (x : Pass). slice_set c.args.passes.now.items c.args.pass x) (put-back q c.take_ticket-ticket.new.self c.put_ticket.new.self c.take_ticket-ticket.result c.in-NotYet.ticket taken.rest taken.ticket late.settles.0 c.put_ticket.ensures)
            ∙ slice_set_unchanged c.args.passes.now.items c.args.pass q there) refl;
        call = settles-nothing late.settles.1 (record { settles = late.settles; cause = late.cause; last = late.last; counts = late.counts; takes = late.takes; gives = late.gives; undone = late.undone });
      },
      extends-none c.args.history.now,
      late.cause,
      (q, there, refl),
    )

pub returns-in-Failed-clause-settled : goal.returns-in-Failed-clause-settled
returns-in-Failed-clause-settled g c =
    let at = c.requires.waiting in let q = c.index_mut-p.result.now in let taken = c.take_ticket-ticket.ensures in let failed = c.in-Failed.ensures in
    let there = read_place c.args.passes.now.items c.args.pass at.0 q at.1 c.index_mut-p.ensures.value in (
      Failed c.in-Failed.number,
      refl,
      record {
        pass = q;
        ticket = c.take_ticket-ticket.result;
        there = there;
        has = taken.ticket;
        after = requests-are refl
            (ap (λ (x : Pass). slice_set c.args.passes.now.items c.args.pass x)
            (c.spend-in-Failed.ensures ∙ ap (after_spending 1 0) (call-failed q c.take_ticket-ticket.new.self c.fail.new.self c.take_ticket-ticket.result.number c.in-Failed.number taken.rest failed.settles.0 c.fail.ensures)))
            (own-entry Broke c.call_id-id.result c.args.pass q c.args.history.now.log.entries c.add-in-Failed.new.history.log.entries c.call_id-id.ensures.pass c.call_id-id.ensures.call c.add-in-Failed.ensures.entry);
        call = settles-nothing failed.settles.1 (record { settles = failed.settles; cause = failed.cause; last = failed.last; counts = failed.counts; takes = failed.takes; gives = failed.gives; undone = failed.undone });
      },
      c.add-in-Failed.ensures.extends,
      failed.cause,
      (q, there, refl),
    )

pub returns-in-Done-clause-settled : goal.returns-in-Done-clause-settled
returns-in-Done-clause-settled g c =
    let at = c.requires.waiting in let q = c.index_mut-p.result.now in let taken = c.take_ticket-ticket.ensures in let done = c.in-Done.ensures in
    let there = read_place c.args.passes.now.items c.args.pass at.0 q at.1 c.index_mut-p.ensures.value in (
      Done,
      refl,
      record {
        pass = q;
        ticket = c.take_ticket-ticket.result;
        there = there;
        has = taken.ticket;
        after = requests-are
            (ap (λ (b : Blocks). b.bits) c.set.ensures ∙ ap (λ (x : Pass). slice_set c.args.fresh.now.bits x.block true) taken.rest)
            (ap (λ (x : Pass). slice_set c.args.passes.now.items c.args.pass x) (c.spend.ensures ∙ ap (after_spending 1 0) (c.end_piece.ensures ∙ ap after_piece taken.rest)))
            (own-entry Finished c.call_id-id.result c.args.pass q c.args.history.now.log.entries c.add.new.history.log.entries c.call_id-id.ensures.pass c.call_id-id.ensures.call c.add.ensures.entry);
        call = settles-nothing (nil_from_length c.settle.new.out c.settle.auto.out) (record { settles = done.settles; cause = done.cause; last = done.last; counts = done.counts; takes = done.takes; gives = done.gives; undone = done.undone });
      },
      c.add.ensures.extends,
      done.cause,
      (q, there, c.owe.ensures ∙ ap (λ (x : Pass). after_owe x.block c.args.keeper.now) taken.rest),
    )

pub returns-in-Done-clause-stopped : goal.returns-in-Done-clause-stopped
returns-in-Done-clause-stopped g c = takes-stood g.S.Store _ _ _ c.in-Done.ensures.takes

pub returns-in-Done-clause-keeps : goal.returns-in-Done-clause-keeps
returns-in-Done-clause-keeps g c = let got = c.in-Done.ensures in record { counts = got.counts; telling = got.takes.keeps }

pub returns-in-NotYet-clause-stopped : goal.returns-in-NotYet-clause-stopped
returns-in-NotYet-clause-stopped g c = takes-stood g.S.Store _ _ _ c.in-NotYet.ensures.takes

pub returns-in-NotYet-clause-keeps : goal.returns-in-NotYet-clause-keeps
returns-in-NotYet-clause-keeps g c = let got = c.in-NotYet.ensures in record { counts = got.counts; telling = got.takes.keeps }

pub returns-in-Failed-clause-stopped : goal.returns-in-Failed-clause-stopped
returns-in-Failed-clause-stopped g c = takes-stood g.S.Store _ _ _ c.in-Failed.ensures.takes

pub returns-in-Failed-clause-keeps : goal.returns-in-Failed-clause-keeps
returns-in-Failed-clause-keeps g c = let got = c.in-Failed.ensures in record { counts = got.counts; telling = got.takes.keeps }
