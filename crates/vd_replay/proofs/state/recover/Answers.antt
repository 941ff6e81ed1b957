use Rattle.std.proofs.lemmas.Result.{err_from_is_err_and}
use Rattle.vd_device.proofs.QuietLaws.{reads_twice, flush_before, fault_of_longer}
use Rattle.vd_replay.proofs.FindingLaws.{reading_fault}
use Rattle.vd_replay.proofs.state.recover.Goals as goal

pub returns-in_err-fill-clause-fault : goal.returns-in_err-fill-clause-fault
returns-in_err-fill-clause-fault g c =
    let p = err_from_is_err_and c.from_residual-in_err-fill.result c.from_residual-in_err-fill.ensures.1 in
    rw (p.1, p.2) (reading_fault c.in_err-fill.field-0.0 (λ ticket fault. fault_of_longer c.find_header.ensures.quiet c.fill.ensures.quiet fault) c.in_err-fill.ensures.errors)

pub returns-in_err-fill-clause-quiet : goal.returns-in_err-fill-clause-quiet
returns-in_err-fill-clause-quiet g c = reads_twice c.find_header.ensures.quiet c.fill.ensures.quiet

pub returns-clause-quiet : goal.returns-clause-quiet
returns-clause-quiet g c = reads_twice c.find_header.ensures.quiet c.fill.ensures.quiet

pub returns-clause-flushed : goal.returns-clause-flushed
returns-clause-flushed g c = λ told. let fill = c.fill.ensures.quiet in flush_before (c.in_ok-header.ensures.flushed (fill.keeps.telling.told_before told)) (fill.recorded (c.in_flight-telling.ensures.recorded told))
