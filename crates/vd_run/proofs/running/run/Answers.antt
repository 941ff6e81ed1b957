use Rattle.std.proofs.Common.{List, refl, sym, ◌∙◌, subst}
use Rattle.vd_law.specs.declared.entry.Sector.{Sector}
use Rattle.vd_format.specs.declared.header.Header.{Header}
use Rattle.vd_core.specs.Showing.{ShowsCould}
use Rattle.vd_safety.specs.Held.{IsOpenAgain}
use Rattle.vd_device.proofs.QuietLaws.{reads_nothing, base_reads_nothing}
use Rattle.vd_report.specs.declared.line.Line.TheVariants.{NoMemory}
use Rattle.vd_device.specs.Devices.{devices}
use Rattle.vd_report.specs.Outcomes.{Says, Reported}
use Rattle.vd_run.specs.Reopening.{Reopens}
use Rattle.vd_run.specs.Running.{Is_unread, Is_unopened, Ran_without_memory, Has_run, closing_line}
use Rattle.vd_run.proofs.LeavingLaws.{opened_from}
use Rattle.vd_run.proofs.RunningLaws.{regular_text, opens_told}
use Rattle.vd_run.proofs.ServedLaws.{run_wider}
use Rattle.vd_run.proofs.AgainLaws.{allowed_again}
use Rattle.vd_run.proofs.running.run.Goals as goal
use Rattle.vd_device.proofs.DeviceLaws.{reads_leave, leaves_twice}

-- no trace

pub returns-in-Err-clause-ran : goal.returns-in-Err-clause-ran
returns-in-Err-clause-ran g c = rw c.unserved.ensures (Says c.in-Err.line, Is_unread c.in-Err.line refl c.in-Err.ensures.refused, c.say.ensures.ends)

pub returns-in-Err-clause-leaves : goal.returns-in-Err-clause-leaves
returns-in-Err-clause-leaves g c = rw c.unserved.ensures (reads_leave (record { store = reads_nothing c.look.ensures.ready; base = base_reads_nothing c.requires.base_idle }))

pub returns-in-Err-clause-unserved : goal.returns-in-Err-clause-unserved
returns-in-Err-clause-unserved g c = rw c.unserved.ensures (λ none. reads_nothing c.look.ensures.ready)

-- no memory

pub returns-in_default-clause-ran : goal.returns-in_default-clause-ran
returns-in_default-clause-ran g c = rw c.unserved-in_default.ensures (Says NoMemory, Ran_without_memory refl, c.say-in_default.ensures.ends)

pub returns-in_default-clause-leaves : goal.returns-in_default-clause-leaves
returns-in_default-clause-leaves g c = rw c.unserved-in_default.ensures (reads_leave (record { store = reads_nothing c.look.ensures.ready; base = base_reads_nothing c.requires.base_idle }))

pub returns-in_default-clause-unserved : goal.returns-in_default-clause-unserved
returns-in_default-clause-unserved g c = rw c.unserved-in_default.ensures (λ none. reads_nothing c.look.ensures.ready)

-- no image

pub returns-in-Err-open_for-clause-ran : goal.returns-in-Err-open_for-clause-ran
returns-in-Err-open_for-clause-ran g c =
    rw c.unserved-in-Err-open_for.ensures (Says c.in-Err-open_for.line, Is_unopened c.in-Ok.trace c.in-Err-open_for.line refl c.in-Ok.ensures.read c.in-Err-open_for.ensures.refused, c.say-in-Err-open_for.ensures.ends)

pub returns-in-Err-open_for-clause-leaves : goal.returns-in-Err-open_for-clause-leaves
returns-in-Err-open_for-clause-leaves g c = rw c.unserved-in-Err-open_for.ensures (reads_leave (record { store = c.open_for.ensures.quiet; base = base_reads_nothing c.requires.base_idle }))

pub returns-in-Err-open_for-clause-unserved : goal.returns-in-Err-open_for-clause-unserved
returns-in-Err-open_for-clause-unserved g c = rw c.unserved-in-Err-open_for.ensures (λ none. c.open_for.ensures.quiet)

-- no memory for a core

pub returns-clause-ran : goal.returns-clause-ran
returns-clause-ran g c = rw c.unserved-in-Err-serve_trace.ensures (Says NoMemory, Ran_without_memory refl, c.say-in-Err-serve_trace.ensures.ends)

pub returns-clause-leaves : goal.returns-clause-leaves
returns-clause-leaves g c =
    rw (c.unserved-in-Err-serve_trace.ensures, c.in-Err-serve_trace.ensures.back.0, c.in-Err-serve_trace.ensures.back.1) (reads_leave (record { store = c.open_for.ensures.quiet; base = base_reads_nothing c.requires.base_idle }))

pub returns-clause-unserved : goal.returns-clause-unserved
returns-clause-unserved g c = rw (c.unserved-in-Err-serve_trace.ensures, c.in-Err-serve_trace.ensures.back.0) (λ none. c.open_for.ensures.quiet)

-- a guest was served

pub leave-requires-clause-text : goal.leave-requires-clause-text
leave-requires-clause-text g c =
    let runs = c.in-Ok-serve_trace.ensures.run c.args.store (opened_from c.open_for.ensures.quiet c.in-Ok-open_for.ensures.flushed c.look.ensures.honest c.look.ensures.order c.look.ensures.size) in
    regular_text c.in-Ok-serve_trace.served.history.log.entries runs.run.regular

pub returns-in-Ok-serve_trace-clause-leaves : goal.returns-in-Ok-serve_trace-clause-leaves
returns-in-Ok-serve_trace-clause-leaves g c =
    let opening = reads_leave {g = g.S.Store} {h = g.B.Base} {d = devices c.args.store c.args.base} {d' = devices c.open_for.new.store c.args.base} (record { store = c.open_for.ensures.quiet; base = base_reads_nothing c.requires.base_idle }) in
    leaves_twice (leaves_twice opening c.in-Ok-serve_trace.ensures.leaves) (reads_leave c.leave.ensures.reads)

pub returns-in-Ok-serve_trace-clause-unserved : goal.returns-in-Ok-serve_trace-clause-unserved
returns-in-Ok-serve_trace-clause-unserved g c = λ none. absurd (let some = c.leave.ensures.history in cc)

pub returns-in-Ok-serve_trace-clause-ran : goal.returns-in-Ok-serve_trace-clause-ran
returns-in-Ok-serve_trace-clause-ran g c =
    let served = c.in-Ok-serve_trace.served in
    let serving = c.in-Ok-serve_trace.ensures in
    let leaving = c.leave.ensures in
    let reads = leaving.reads in
    let header = c.in-Ok-open_for.state.header in
    let runs = serving.run c.args.store (opened_from c.open_for.ensures.quiet c.in-Ok-open_for.ensures.flushed c.look.ensures.honest c.look.ensures.order c.look.ensures.size) in
    let opening = reads_leave {g = g.S.Store} {h = g.B.Base} {d = devices c.args.store c.args.base} {d' = devices c.open_for.new.store c.args.base} (record { store = c.open_for.ensures.quiet; base = base_reads_nothing c.requires.base_idle }) in
    let leaves = leaves_twice opening serving.leaves in
    let reported = leaving.reported in
    let again = subst (λ (k : Header). Reopens g.S.Store g.B.Base k c.in-Ok.trace.shows (devices served.disk.store served.disk.base) (devices c.leave.result.store c.leave.result.base) reported.0) serving.state.1 reported.1 in (
      Reported 1 served.history.log.entries (closing_line served.closing) reported.0,
      Has_run c.in-Ok.trace header served.history (closing_line served.closing) reported.0 (devices served.disk.store served.disk.base) leaving.history c.in-Ok.ensures.read
          (opens_told (λ t. serving.leaves.store.telling.told_before (reads.store.keeps.telling.told_before t)) c.in-Ok-open_for.ensures.opened)
          (run_wider leaves reads runs)
          leaves
          (record { reads = reads; numbered = runs.numbered; traced = runs.run.traced })
          again
          (λ both start good.
          let before = reads.store.keeps.telling.told_before both.0 in
          let reopens = runs.again (before, reads.base.keeps.telling.told_before both.1) start good in
          let held = sym (reads.store.held both.0) in
          let content = sym (reads.base.keeps.telling.content both.1 ∙ leaves.base.keeps.telling.content (reads.base.keeps.telling.told_before both.1)) in
          allowed_again c.in-Ok.trace reported.0 c.in-Ok-open_for.ensures.opened.inside again both.0 both.1
          (subst (λ (under : List Sector). IsOpenAgain header under start served.history.log.entries (g.S.Store.disk c.leave.result.store).held) content
          (subst (λ (xs : List Sector). IsOpenAgain header (g.B.Base.content c.args.base) start served.history.log.entries xs) held reopens.0))
          (λ said. subst (λ (under : List Sector). ShowsCould header under start served.history.log.entries (g.S.Store.disk c.leave.result.store).held) content
          (subst (λ (xs : List Sector). ShowsCould header (g.B.Base.content c.args.base) start served.history.log.entries xs) held (reopens.1 said)))),
      reported.2,
    )
