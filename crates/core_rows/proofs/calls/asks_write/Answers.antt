use Rattle.vd_law.specs.Entries.{Write}
use Rattle.core_rows.proofs.Runs.{as-many-asked, asked-phase, asked-write, ask-others, ask-said}
use Rattle.core_rows.proofs.calls.asks_write.Goals as goal

pub returns-in-None-clause-asked : goal.returns-in-None-clause-asked
returns-in-None-clause-asked g c told = asked-phase c.ask.result 8 c.args.content.now (λ answer is. cc) c.ask.ensures.asks.ends c.requires.one

pub returns-in-None-clause-content : goal.returns-in-None-clause-content
returns-in-None-clause-content g c told = let asked = asked-write c.ask.result 8 c.args.content.now (λ answer is. cc) c.ask.ensures.asks.ends in asked.1

pub returns-in-None-clause-others : goal.returns-in-None-clause-others
returns-in-None-clause-others g c = ask-others c.ask.result (Write 8 c.args.content.now) c.ask.ensures.asks.ends

pub returns-in-None-clause-said : goal.returns-in-None-clause-said
returns-in-None-clause-said g c other said apart = ask-said c.ask.result (Write 8 c.args.content.now) c.ask.ensures.asks.ends other said apart

pub returns-in-Some-clause-others : goal.returns-in-Some-clause-others
returns-in-Some-clause-others g c = ask-others c.ask.result (Write 8 c.args.content.now) c.ask.ensures.asks.ends

pub returns-in-Some-clause-said : goal.returns-in-Some-clause-said
returns-in-Some-clause-said g c other said apart = ask-said c.ask.result (Write 8 c.args.content.now) c.ask.ensures.asks.ends other said apart

pub returns-in-None-clause-passes : goal.returns-in-None-clause-passes
returns-in-None-clause-passes g c = as-many-asked c.ask.result (Write 8 c.args.content.now) c.ask.ensures.asks.ends

pub returns-in-Some-clause-passes : goal.returns-in-Some-clause-passes
returns-in-Some-clause-passes g c = as-many-asked c.ask.result (Write 8 c.args.content.now) c.ask.ensures.asks.ends
