use Rattle.std.proofs.Common.{sym, refl, ◌∙◌, false}
use Rattle.vd_passes.specs.declared.pass.Phase.TheVariants.{Ready}
use Rattle.vd_passes.proofs.Holding.{phase-at, replies-regions}
use Rattle.vd_machine.specs.Steps.{By_reply}
use Rattle.vd_machine.specs.AskSteps.{ReplyStep}
use Rattle.vd_legal.proofs.Replying.{can-reply, reply-ok}
use Rattle.vd_core.proofs.Releasing.{counted}
use Rattle.vd_machine.specs.Views.{View}
use Rattle.vd_core.specs.declared.state.Core.TheView.{view}
use Rattle.vd_core.proofs.Kept.{kept-on}
use Rattle.vd_core.proofs.state.Core.reply.Given.{Over}
use Rattle.vd_core.proofs.state.Core.reply.Goals as goal
use Rattle.vd_core.proofs.state.Core.reply.Goals.{After-reply_in_room}

abbrev was : (g : Over) (c : After-reply_in_room g) → View g.row.S.Denot g.row.B.Denot
was g c = view g.row.S.Denot g.row.B.Denot g.S.Store g.B.Base c.self.inside

-- what it makes of the core, but for the number of steps
abbrev now : (g : Over) (c : After-reply_in_room g) → View g.row.S.Denot g.row.B.Denot
now g c = record (was g c) { passes = c.reply_in_room.new.passes.items; history = c.reply_in_room.new.history; spare = c.reply_in_room.new.spare }

pub reply_in_room-requires : goal.reply_in_room-requires
reply_in_room-requires g c =
    let at = rw (sym c.self.view_is) at c.requires.phase in
    record { can = can-reply c.args.pass c.self.invariant.0.sound at }

step : (g : Over) (c : After-reply_in_room g) → ReplyStep g.S.Store c.reply_in_room.result c.args.pass (was g c)
    (record (now g c) { steps = c.one_more-self-inside.result })
step g c =
    let at = rw (sym c.self.view_is) at c.requires.phase in let done = c.reply_in_room.ensures in
    let replies = done.replies c.self.inside.shape c.self.inside.state.fresh.bits in record {
      ready = at;
      replies = replies;
      ok = reply-ok c.args.pass c.self.invariant.0.sound at replies;
      extends = done.extends;
      left = done.left;
      running = done.running;
      others = counted (now g c) c.one_more-self-inside.ensures;
    }

pub invariant_of-self : goal.invariant_of-self
invariant_of-self g c =
    let at = rw (sym c.self.view_is) at c.requires.phase in (
      kept-on (By_reply c.reply_in_room.result (step g c)) c.self.invariant.0,
      c.self.invariant.1
          ∙ sym (replies-regions (phase-at false Ready _ c.args.pass refl at) (step g c).replies),
      c.self.invariant.2,
    )

pub returns : goal.returns
returns g c = rw (sym c.self.view_is) (record { replies = step g c })
