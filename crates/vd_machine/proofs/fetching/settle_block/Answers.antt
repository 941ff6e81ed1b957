use Rattle.std.proofs.Common.{◌≡◌, ◌∙◌, sym, ap, refl, length, slice_set}
use Rattle.vd_device.specs.declared.settled.Settled.TheVariants.{Done, NotYet, Failed}
use Rattle.vd_passes.specs.declared.pass.Pass.{Pass}
use Rattle.vd_lists.proofs.Places.{read_place}
use Rattle.vd_machine.proofs.Members.{picked}
use Rattle.vd_machine.proofs.Settled.{fetch-settled, filled-after, late-after, failed-after}
use Rattle.vd_machine.proofs.fetching.settle_block.Goals as goal

pub returns-in-Done-clause-settled : goal.returns-in-Done-clause-settled
returns-in-Done-clause-settled g c =
    let at = c.requires.waiting in let q = c.index_mut-p.result.now in let taken = c.take_fetch-ticket.ensures in let settled = c.in-Done.ensures in
    let long : length q.buffer ≡ c.args.shape.now.block = ap (λ (x : Pass). length x.buffer) (sym (picked c.args.passes.now.items c.args.pass at q c.index_mut-p.ensures.value)) ∙ at.2.0.buffer in (
      Done,
      refl,
      fetch-settled (read_place c.args.passes.now.items c.args.pass at.0 q at.1 c.index_mut-p.ensures.value) taken.ticket settled
          (ap (λ (x : Pass). slice_set c.args.passes.now.items c.args.pass x) (filled-after q c.take_fetch-ticket.new.self c.fill.new.self taken.rest c.args.shape.now.block settled.content c.settle.new.self long settled.after c.fill.ensures)),
      c.in-Done.ensures.settles.cause,
    )

pub returns-in-NotYet-clause-settled : goal.returns-in-NotYet-clause-settled
returns-in-NotYet-clause-settled g c =
    let at = c.requires.waiting in let q = c.index_mut-p.result.now in let taken = c.take_fetch-ticket.ensures in let settled = c.in-NotYet.ensures in (
      NotYet c.in-NotYet.ticket,
      refl,
      fetch-settled (read_place c.args.passes.now.items c.args.pass at.0 q at.1 c.index_mut-p.ensures.value) taken.ticket settled
          (ap (λ (x : Pass). slice_set c.args.passes.now.items c.args.pass x) (late-after q c.take_fetch-ticket.new.self c.put_fetch.new.self taken.rest c.take_fetch-ticket.result c.in-NotYet.ticket c.settle.new.self taken.ticket settled.settles.settles.0 settled.after c.put_fetch.ensures)),
      c.in-NotYet.ensures.settles.cause,
    )

pub returns-in-Failed-clause-settled : goal.returns-in-Failed-clause-settled
returns-in-Failed-clause-settled g c =
    let at = c.requires.waiting in let q = c.index_mut-p.result.now in let taken = c.take_fetch-ticket.ensures in let settled = c.in-Failed.ensures in (
      Failed c.in-Failed.number,
      refl,
      fetch-settled (read_place c.args.passes.now.items c.args.pass at.0 q at.1 c.index_mut-p.ensures.value) taken.ticket settled
          (ap (λ (x : Pass). slice_set c.args.passes.now.items c.args.pass x) (failed-after q c.take_fetch-ticket.new.self c.fail.new.self taken.rest c.take_fetch-ticket.result.number c.in-Failed.number c.settle.new.self settled.settles.settles.0 settled.after c.fail.ensures)),
      c.in-Failed.ensures.settles.cause,
    )

pub returns-in-Done-clause-number : goal.returns-in-Done-clause-number
returns-in-Done-clause-number g c = c.in-Done.ensures.settles.last

pub returns-in-Done-clause-keeps : goal.returns-in-Done-clause-keeps
returns-in-Done-clause-keeps g c = c.in-Done.ensures.settles.keeps

pub returns-in-NotYet-clause-number : goal.returns-in-NotYet-clause-number
returns-in-NotYet-clause-number g c = c.in-NotYet.ensures.settles.last

pub returns-in-NotYet-clause-keeps : goal.returns-in-NotYet-clause-keeps
returns-in-NotYet-clause-keeps g c = c.in-NotYet.ensures.settles.keeps

pub returns-in-Failed-clause-number : goal.returns-in-Failed-clause-number
returns-in-Failed-clause-number g c = c.in-Failed.ensures.settles.last

pub returns-in-Failed-clause-keeps : goal.returns-in-Failed-clause-keeps
returns-in-Failed-clause-keeps g c = c.in-Failed.ensures.settles.keeps
