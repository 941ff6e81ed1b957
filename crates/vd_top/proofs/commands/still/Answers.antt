use Rattle.std.proofs.Common.{refl, sym, subst}
use Rattle.vd_format.specs.declared.header.Header.{Header}
use Rattle.vd_device.proofs.QuietLaws.{reads_nothing, base_reads_nothing}
use Rattle.vd_report.specs.declared.line.Line.TheVariants.{BadWords}
use Rattle.vd_report.specs.Outcomes.{Says}
use Rattle.vd_make.specs.Images.{Makes}
use Rattle.vd_make.proofs.CrashLaws.{nothing_safe}
use Rattle.vd_make.proofs.EndLaws.{no_whole}
use Rattle.vd_device.specs.Devices.{devices}
use Rattle.vd_device.proofs.DeviceLaws.{waited, base_waited, reads_leave}
use Rattle.vd_top.specs.Commands.{Outside, Shows, Is_made_for, Is_answered, Is_run}
use Rattle.vd_top.proofs.CommandLaws.{over_base, answer_caused, run_caused}
use Rattle.vd_top.proofs.commands.still.Goals as goal

-- the words are a `show`

pub returns-in-Show-clause-answer : goal.returns-in-Show-clause-answer
returns-in-Show-clause-answer g c = let a = c.show-status.ensures.answer in rw c.unserved.ensures (a.0, Is_answered a.0 c.in-Show.ensures.3 refl refl (Shows _ _ a.0 c.in-Show.ensures.0 a.1), a.2)

pub returns-in-Show-clause-outside : goal.returns-in-Show-clause-outside
returns-in-Show-clause-outside g c = let a = c.show-status.ensures.answer in let caused = answer_caused {g = g.S.Store} {h = g.B.Base} {d = devices c.args.store c.args.base} {d' = devices c.show-status.new.store c.show-status.new.base} {Source = ⊥} a.0 (Shows _ _ a.0 c.in-Show.ensures.0 a.1) a.2 in rw c.unserved.ensures caused.outside

pub returns-in-Show-clause-device : goal.returns-in-Show-clause-device
returns-in-Show-clause-device g c = let a = c.show-status.ensures.answer in let caused = answer_caused {g = g.S.Store} {h = g.B.Base} {d = devices c.args.store c.args.base} {d' = devices c.show-status.new.store c.show-status.new.base} {Source = ⊥} a.0 (Shows _ _ a.0 c.in-Show.ensures.0 a.1) a.2 in rw c.unserved.ensures caused.device

pub returns-in-Show-clause-streams : goal.returns-in-Show-clause-streams
returns-in-Show-clause-streams g c = let a = c.show-status.ensures.answer in let caused = answer_caused {g = g.S.Store} {h = g.B.Base} {d = devices c.args.store c.args.base} {d' = devices c.show-status.new.store c.show-status.new.base} a.0 (Shows _ _ a.0 c.in-Show.ensures.0 a.1) a.2 in rw c.unserved.ensures caused.streams

pub returns-in-Show-clause-makes : goal.returns-in-Show-clause-makes
returns-in-Show-clause-makes g c header asks = absurd (c.in-Show.ensures.2 asks.size asks.block asks.chunk asks.storage asks.slots asks.spells)

pub returns-in-Show-clause-unwritten : goal.returns-in-Show-clause-unwritten
returns-in-Show-clause-unwritten g c = rw c.unserved.ensures (λ none room. c.show-status.ensures.reads.store)

pub returns-in-Show-clause-leaves : goal.returns-in-Show-clause-leaves
returns-in-Show-clause-leaves g c = rw c.unserved.ensures (reads_leave c.show-status.ensures.reads)

pub returns-in-Show-clause-alone : goal.returns-in-Show-clause-alone
returns-in-Show-clause-alone g c = rw c.unserved.ensures (λ none. (refl, refl))

-- the words are a `make`

pub returns-in-Make-clause-answer : goal.returns-in-Make-clause-answer
returns-in-Make-clause-answer g c = let a = c.make-status.ensures.answer in let making = over_base c.sectors.ensures.value c.in-Make.ensures in rw c.unserved-in-Make.ensures (a.0, Is_answered a.0 making.no_run refl refl (Is_made_for _ a.0 making.asks a.1), a.2)

pub returns-in-Make-clause-outside : goal.returns-in-Make-clause-outside
returns-in-Make-clause-outside g c = let a = c.make-status.ensures.answer in let making = over_base c.sectors.ensures.value c.in-Make.ensures in let caused = answer_caused {g = g.S.Store} {h = g.B.Base} {d = devices c.args.store c.args.base} {d' = devices c.make-status.new.store c.args.base} {Source = ⊥} a.0 (Is_made_for _ a.0 making.asks a.1) a.2 in rw c.unserved-in-Make.ensures caused.outside

pub returns-in-Make-clause-device : goal.returns-in-Make-clause-device
returns-in-Make-clause-device g c = let a = c.make-status.ensures.answer in let making = over_base c.sectors.ensures.value c.in-Make.ensures in let caused = answer_caused {g = g.S.Store} {h = g.B.Base} {d = devices c.args.store c.args.base} {d' = devices c.make-status.new.store c.args.base} {Source = ⊥} a.0 (Is_made_for _ a.0 making.asks a.1) a.2 in rw c.unserved-in-Make.ensures caused.device

pub returns-in-Make-clause-streams : goal.returns-in-Make-clause-streams
returns-in-Make-clause-streams g c = let a = c.make-status.ensures.answer in let making = over_base c.sectors.ensures.value c.in-Make.ensures in let caused = answer_caused {g = g.S.Store} {h = g.B.Base} {d = devices c.args.store c.args.base} {d' = devices c.make-status.new.store c.args.base} a.0 (Is_made_for _ a.0 making.asks a.1) a.2 in rw c.unserved-in-Make.ensures caused.streams

pub returns-in-Make-clause-makes : goal.returns-in-Make-clause-makes
returns-in-Make-clause-makes g c =
    let making = over_base c.sectors.ensures.value c.in-Make.ensures in rw c.unserved-in-Make.ensures (λ header asks. subst (λ (k : Header). Makes g.S.Store k c.make-status.result c.args.store c.make-status.new.store) (sym (making.one header asks)) c.make-status.ensures.makes)

pub returns-in-Make-clause-unwritten : goal.returns-in-Make-clause-unwritten
returns-in-Make-clause-unwritten g c =
    let making = over_base c.sectors.ensures.value c.in-Make.ensures in rw c.unserved-in-Make.ensures (λ none room. c.make-status.ensures.unwritten (room _ making.asks))

pub returns-in-Make-clause-leaves : goal.returns-in-Make-clause-leaves
returns-in-Make-clause-leaves g c =
    rw c.unserved-in-Make.ensures (record { idle = c.make-status.ensures.idle; store = waited c.make-status.ensures.keeps; base = base_waited (base_reads_nothing {h = g.B.Base} c.requires.base_idle) })

pub returns-in-Make-clause-alone : goal.returns-in-Make-clause-alone
returns-in-Make-clause-alone g c = rw c.unserved-in-Make.ensures (λ none. (refl, refl))

-- the words are a `run`

pub returns-in-Run-clause-answer : goal.returns-in-Run-clause-answer
returns-in-Run-clause-answer g c = let a = c.run.ensures.ran in (a.0, Is_run a.0 c.in-Run.ensures.0 a.1, a.2)

pub returns-in-Run-clause-outside : goal.returns-in-Run-clause-outside
returns-in-Run-clause-outside g c = let a = c.run.ensures.ran in let caused = run_caused a.0 c.in-Run.ensures.0 a.1 a.2 in caused.outside

pub returns-in-Run-clause-device : goal.returns-in-Run-clause-device
returns-in-Run-clause-device g c = let a = c.run.ensures.ran in let caused = run_caused a.0 c.in-Run.ensures.0 a.1 a.2 in caused.device

pub returns-in-Run-clause-streams : goal.returns-in-Run-clause-streams
returns-in-Run-clause-streams g c = let a = c.run.ensures.ran in let caused = run_caused a.0 c.in-Run.ensures.0 a.1 a.2 in caused.streams

pub returns-in-Run-clause-makes : goal.returns-in-Run-clause-makes
returns-in-Run-clause-makes g c header asks = absurd (c.in-Run.ensures.1 asks.size asks.block asks.chunk asks.storage asks.slots asks.spells)

pub returns-in-Run-clause-unwritten : goal.returns-in-Run-clause-unwritten
returns-in-Run-clause-unwritten g c none room = c.run.ensures.unserved none

pub returns-in-Run-clause-alone : goal.returns-in-Run-clause-alone
returns-in-Run-clause-alone g c none = absurd (none c.in-Run.ensures.0)

-- the words are none of these

pub returns-in-Nothing-clause-answer : goal.returns-in-Nothing-clause-answer
returns-in-Nothing-clause-answer g c = rw c.unserved-in-Nothing.ensures (Says BadWords, Is_answered (Says BadWords) c.in-Nothing.ensures.2 refl refl (Outside c.in-Nothing.ensures), c.say.ensures.ends)

pub returns-in-Nothing-clause-outside : goal.returns-in-Nothing-clause-outside
returns-in-Nothing-clause-outside g c = let caused = answer_caused {g = g.S.Store} {h = g.B.Base} {d = devices c.args.store c.args.base} {d' = devices c.args.store c.args.base} {Source = ⊥} (Says BadWords) (Outside c.in-Nothing.ensures) c.say.ensures.ends in rw c.unserved-in-Nothing.ensures caused.outside

pub returns-in-Nothing-clause-device : goal.returns-in-Nothing-clause-device
returns-in-Nothing-clause-device g c = let caused = answer_caused {g = g.S.Store} {h = g.B.Base} {d = devices c.args.store c.args.base} {d' = devices c.args.store c.args.base} {Source = ⊥} (Says BadWords) (Outside c.in-Nothing.ensures) c.say.ensures.ends in rw c.unserved-in-Nothing.ensures caused.device

pub returns-in-Nothing-clause-streams : goal.returns-in-Nothing-clause-streams
returns-in-Nothing-clause-streams g c = let caused = answer_caused {g = g.S.Store} {h = g.B.Base} {d = devices c.args.store c.args.base} {d' = devices c.args.store c.args.base} (Says BadWords) (Outside c.in-Nothing.ensures) c.say.ensures.ends in rw c.unserved-in-Nothing.ensures caused.streams

pub returns-in-Nothing-clause-makes : goal.returns-in-Nothing-clause-makes
returns-in-Nothing-clause-makes g c =
    rw c.unserved-in-Nothing.ensures (λ header asks. record { safe = λ told recorded. nothing_safe _ _; made = λ whole told recorded. absurd (no_whole 0 refl (λ e. cc) c.say.ensures.ends whole) })

pub returns-in-Nothing-clause-unwritten : goal.returns-in-Nothing-clause-unwritten
returns-in-Nothing-clause-unwritten g c = rw c.unserved-in-Nothing.ensures (λ none room. reads_nothing c.sectors_at_rest-sectors.ensures.ready)

pub returns-in-Nothing-clause-leaves : goal.returns-in-Nothing-clause-leaves
returns-in-Nothing-clause-leaves g c =
    rw c.unserved-in-Nothing.ensures (reads_leave (record { store = reads_nothing c.sectors_at_rest-sectors.ensures.ready; base = base_reads_nothing c.requires.base_idle }))

pub returns-in-Nothing-clause-alone : goal.returns-in-Nothing-clause-alone
returns-in-Nothing-clause-alone g c = rw c.unserved-in-Nothing.ensures (λ none. (refl, refl))
