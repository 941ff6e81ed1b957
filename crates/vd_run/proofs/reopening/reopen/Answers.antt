use Rattle.std.proofs.Common.{◌∙◌, ap, sym, arith, ℕ, Bool, ◌++◌, take}
use Rattle.std.specs.Prelude.{if◌then◌else◌}
use Rattle.std.specs.List.{flat_map}
use Rattle.vd_bits.specs.Marks.{count_true}
use Rattle.vd_device.proofs.QuietLaws.{base_reads_nothing}
use Rattle.vd_report.specs.declared.line.Line.TheVariants as lines
use Rattle.vd_report.specs.declared.line.About.TheVariants as about
use Rattle.vd_report.specs.Outcomes.{Refused, Opened}
use Rattle.vd_report.specs.Ending.{about_line, shown_text}
use Rattle.vd_report.proofs.WritingLaws.{writes_both}
use Rattle.vd_run.proofs.LocalLaws.{counts_local}
use Rattle.vd_run.proofs.ReopeningLaws.{refused_again, version_kept, says_state, opens_again, all_earlier}
use Rattle.vd_run.proofs.reopening.reopen.Goals as goal
use Rattle.vd_run.proofs.reopening.reopen.Goals.{then-is_fault, else-is_fault, then-failed, else-failed}
use Rattle.vd_device.proofs.DeviceLaws.{both_read_twice}

pub returns-in-Err-clause-reads : goal.returns-in-Err-clause-reads
returns-in-Err-clause-reads g c = record { store = c.reload.ensures.quiet; base = base_reads_nothing c.requires.idle.1 }

pub returns-in-Err-clause-opens : goal.returns-in-Err-clause-opens
returns-in-Err-clause-opens g c = let e = c.in-Err.ensures in (
  Refused c.show_line-line.result,
  refused_again c.args.disk.now.state.header c.in-Err.error c.show_line-line.result c.show_line-line.ensures e.errors e.refused,
  elim c.if-is_fault.branch [
    | then-is_fault w ↦ w.status-is ∙ ap (λ (b : Bool). if b then 5 else 3) (sym w.if-is_fault.true ∙ c.is_fault.ensures)
    | else-is_fault w ↦ w.status-is ∙ ap (λ (b : Bool). if b then 5 else 3) (sym w.if-is_fault.false ∙ c.is_fault.ensures)
  ],
  c.put_next.ensures,
)

pub returns-clause-reads : goal.returns-clause-reads
returns-clause-reads g c = both_read_twice (record { store = c.reload.ensures.quiet; base = base_reads_nothing c.requires.idle.1 }) c.put_shows-failed.ensures.reads

pub returns-clause-opens : goal.returns-clause-opens
returns-clause-opens g c =
    let again = c.in_default.ensures in
    let state = c.reload.new.self in
    let put = c.put_shows-failed.ensures in
    let shown = put.shows.0 in
    let held = put.reads.store.held in
    let two = version_kept state.header c.args.disk.now.state.header again.same c.requires.version in
    let says = λ (t : g.S.Store.tells c.put_shows-failed.new.disk.store). says_state _ _ state two (sym (held t)) (again.says (put.reads.store.keeps.telling.told_before t)) in (
      Opened shown c.count_local-local.result c.from.result,
      opens_again c.args.disk.now.state.header state shown c.count_local-local.result c.from.result again.same says
          (all_earlier (record { store = c.reload.ensures.quiet; base = base_reads_nothing c.requires.idle.1 }) put.shows.1)
          (counts_local state c.count_local-local.result c.from.result again.opened.whole says (c.from.ensures ∙ (rw put.state at c.tracked_blocks-of.ensures.value)) (let inside = rw put.state at c.tracked_blocks-of.ensures.inside in omega (arith, c.from.ensures, inside))
          ((rw put.state at c.count_local-local.ensures) ∙ ap (λ (n : ℕ). count_true (take n state.fresh.bits)) (sym c.from.ensures))),
      elim c.if-failed.branch [
        | then-failed w ↦ w.status-is ∙ ap (λ (b : Bool). if b then 5 else 0) (sym w.if-failed.true ∙ put.shows.2)
        | else-failed w ↦ w.status-is ∙ ap (λ (b : Bool). if b then 5 else 0) (sym w.if-failed.false ∙ put.shows.2)
      ],
      writes_both (about_line about.Reopening lines.Ok ++ flat_map shown_text shown) (about_line about.Command (lines.Local c.count_local-local.result c.from.result)) _ _ _
          (writes_both (about_line about.Reopening lines.Ok) (flat_map shown_text shown) _ _ _ c.put_next-opened.ensures put.shows.3) c.put_next-2.ensures,
    )
