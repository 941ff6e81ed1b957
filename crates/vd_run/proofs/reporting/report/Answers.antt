use Rattle.std.proofs.Common.{◌∙◌, ap, ℕ, Bool, ◌++◌}
use Rattle.vd_law.specs.Logs.{LogState}
use Rattle.vd_report.specs.declared.line.Line.{Line}
use Rattle.vd_report.specs.declared.line.About.TheVariants as about
use Rattle.vd_report.specs.Replies.{history_text, sum_text}
use Rattle.vd_report.specs.Outcomes.{Reported}
use Rattle.vd_report.specs.Ending.{about_line, reopened_text, reopened_status, run_status, is_device_fault, are_ok}
use Rattle.vd_run.specs.Running.{closing_line}
use Rattle.vd_report.proofs.WritingLaws.{writes_both, ends_written}
use Rattle.vd_run.proofs.reporting.report.Goals as goal

pub returns-clause-reported : goal.returns-clause-reported
returns-clause-reported g c =
    let entries = c.args.history.now.log.entries in
    let line = c.closing_line-line.result in
    let opens = c.reopen-reopened.ensures.opens in
    let calls = history_text 1 entries in
    let closed = about_line about.Closing line in
    let opened = reopened_text opens.0 in
    let sum = sum_text 1 entries in (
      opens.0,
      opens.1,
      ends_written (Reported 1 entries (closing_line c.args.closing) opens.0) (((calls ++ closed) ++ opened) ++ sum) _ _ _ (ap (λ (l : Line). calls ++ about_line about.Closing l ++ opened ++ sum) c.closing_line-line.ensures)
          (c.run_status-status.ensures
          ∙ ap (λ (b : Bool). run_status b c.reopen-reopened.result.0 c.are_ok.result) (c.is_fault.ensures ∙ ap (λ (l : Line). is_device_fault l) c.closing_line-line.ensures)
          ∙ ap (λ (n : ℕ). run_status (is_device_fault (closing_line c.args.closing)) n c.are_ok.result) opens.2
          ∙ ap (λ (b : Bool). run_status (is_device_fault (closing_line c.args.closing)) (reopened_status opens.0) b) (c.are_ok.ensures ∙ ap (λ (l : LogState). are_ok l.entries) c.log.ensures.log))
          c.ended.ensures.whole c.ended.ensures.cut
          (writes_both ((calls ++ closed) ++ opened) sum _ _ _ (writes_both (calls ++ closed) opened _ _ _ (writes_both calls closed _ _ _ c.put_calls-calls.ensures c.put_next-closed.ensures) opens.3) c.put_last-written.ensures),
    )
