use Rattle.std.proofs.Common.{refl}
use Rattle.vd_report.specs.Outcomes.{Sectors, Failed}
use Rattle.vd_run.proofs.ReopeningLaws.{read_shows, fault_shows}
use Rattle.vd_run.proofs.reopening.put_shown.Goals as goal

pub returns-in-Ok-clause-shows : goal.returns-in-Ok-clause-shows
returns-in-Ok-clause-shows g c = (
  Sectors c.args.first c.read_disk.new.out,
  read_shows c.args.disk.now.state c.args.first _ c.read_disk.new.out c.read_disk.ensures.size (record { store = c.read_disk.ensures.quiet; base = c.read_disk.ensures.base_quiet }) c.requires.says c.in-Ok.ensures.read,
  refl,
  c.put_sectors.ensures,
)

pub returns-in-Err-clause-shows : goal.returns-in-Err-clause-shows
returns-in-Err-clause-shows g c =
    (Failed c.args.first c.fault_line.result, (λ line at many. fault_shows c.args.first c.in-Err.fault c.fault_line.result c.fault_line.ensures (record { store = c.read_disk.ensures.quiet; base = c.read_disk.ensures.base_quiet }) c.in-Err.ensures.fault line at), refl, c.put_next.ensures)
