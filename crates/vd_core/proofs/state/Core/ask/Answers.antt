use Rattle.std.proofs.Common.{sym, ◌∙◌}
use Rattle.vd_law.specs.Entries.{asked_of}
use Rattle.vd_machine.specs.Steps.{By_ask}
use Rattle.vd_machine.specs.AskSteps.{AskStep}
use Rattle.vd_legal.proofs.Asking.{can-ask}
use Rattle.vd_core.proofs.Releasing.{counted, ask-regions, ask-table, tabled}
use Rattle.vd_machine.specs.Views.{View}
use Rattle.vd_core.specs.declared.state.Core.TheView.{view}
use Rattle.vd_core.proofs.Kept.{kept-on}
use Rattle.vd_core.proofs.state.Core.ask.Given.{Over}
use Rattle.vd_core.proofs.state.Core.ask.Goals as goal
use Rattle.vd_core.proofs.state.Core.ask.Goals.{After-ask_in_room}

abbrev was : (g : Over) (c : After-ask_in_room g) → View g.row.S.Denot g.row.B.Denot
was g c = view g.row.S.Denot g.row.B.Denot g.S.Store g.B.Base c.self.inside

-- what it makes of the core, but for the number of steps
abbrev now : (g : Over) (c : After-ask_in_room g) → View g.row.S.Denot g.row.B.Denot
now g c = record (was g c) {
  table = c.ask_in_room.new.table;
  passes = c.ask_in_room.new.passes.items;
  history = c.ask_in_room.new.history;
  spare = c.ask_in_room.new.spare;
}

pub ask_in_room-requires : goal.ask_in_room-requires
ask_in_room-requires g c =
    let at = rw (sym c.self.view_is) at c.requires.phase in
    let inside = rw (sym c.self.view_is) at c.requires.inside in
    record { can = can-ask (asked_of c.args.request) c.args.pass c.self.invariant.0.sound at c.requires.size inside }

step : (g : Over) (c : After-ask_in_room g) → AskStep g.S.Store c.ask_in_room.result (asked_of c.args.request) c.args.pass (was g c)
    (record (now g c) { steps = c.one_more-self-inside.result })
step g c = let done = c.ask_in_room.ensures in record {
  idle = rw (sym c.self.view_is) at c.requires.phase;
  size = c.requires.size;
  inside = rw (sym c.self.view_is) at c.requires.inside;
  ends = done.ends;
  running = done.running;
  others = counted (now g c) c.one_more-self-inside.ensures;
}

pub invariant_of-self : goal.invariant_of-self
invariant_of-self g c =
    let at = rw (sym c.self.view_is) at c.requires.phase in let ends = c.ask_in_room.ensures.ends in let table = ask-table at ends in (
      kept-on (By_ask c.ask_in_room.result (asked_of c.args.request) (step g c)) c.self.invariant.0,
      c.self.invariant.1 ∙ sym (ask-regions at ends),
      tabled c.self.inside.state c.ask_in_room.new.table c.self.invariant.2 table.0 table.1,
    )

pub returns-clause-asks : goal.returns-clause-asks
returns-clause-asks g c = rw (sym c.self.view_is) (step g c)
