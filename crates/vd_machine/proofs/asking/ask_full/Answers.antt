use Rattle.std.proofs.Common.{refl, ◌+◌}
use Rattle.vd_law.specs.declared.entry.Answer.TheVariants.{Full}
use Rattle.vd_law.specs.Entries.{asked_of}
use Rattle.vd_lists.proofs.Places.{read_place}
use Rattle.vd_machine.proofs.Ended.{requests-are}
use Rattle.vd_machine.proofs.Entries.{can-add-next, extends-twice, asked-replied}
use Rattle.vd_machine.proofs.asking.ask_full.Goals as goal

pub add-requires-2 : goal.add-requires-2
add-requires-2 g c = record { room = can-add-next c.add.ensures.extends c.requires.reply }

pub returns-clause-asks : goal.returns-clause-asks
returns-clause-asks g c = λ shape fresh. record {
  pass = c.index_mut-p.result.now;
  there = read_place c.args.passes.now.items c.args.pass c.requires.there.0 c.index_mut-p.result.now c.requires.there.1 c.index_mut-p.ensures.value;
  after = requests-are refl refl (asked-replied c.call_id-id.result c.args.pass (c.index_mut-p.result.now.call + 1) (asked_of c.args.request) (Full c.args.full.0 c.args.full.1) c.args.history.now.log.entries c.add.new.history.log.entries c.add-2.new.history.log.entries
      c.call_id-id.ensures.pass c.call_id-id.ensures.call c.add.ensures.entry c.add-2.ensures.entry);
}

pub returns-clause-extends : goal.returns-clause-extends
returns-clause-extends g c = extends-twice c.add.ensures.extends c.add-2.ensures.extends
