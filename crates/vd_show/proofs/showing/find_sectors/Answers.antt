use Rattle.std.proofs.Common.{sym}
use Rattle.vd_device.proofs.QuietLaws.{reads_twice, base_reads_nothing}
use Rattle.vd_show.specs.Showing.{Store_failed, Base_failed}
use Rattle.vd_show.proofs.ShowLaws.{not_opened_line, past_it, found_it, failed_reading}
use Rattle.vd_show.proofs.showing.find_sectors.Goals as goal

pub returns-in-Err-clause-reads : goal.returns-in-Err-clause-reads
returns-in-Err-clause-reads g c = record { store = c.recover.ensures.quiet; base = base_reads_nothing c.requires.base_idle }

pub returns-in-Err-clause-found : goal.returns-in-Err-clause-found
returns-in-Err-clause-found g c = not_opened_line c.in-Err.refusal c.show_line.result c.show_line.ensures c.recover.ensures.quiet c.in-Err.ensures.fault c.in-Err.ensures.refused

pub returns-then-is_past-clause-reads : goal.returns-then-is_past-clause-reads
returns-then-is_past-clause-reads g c = record { store = c.recover.ensures.quiet; base = base_reads_nothing c.requires.base_idle }

pub returns-then-is_past-clause-found : goal.returns-then-is_past-clause-found
returns-then-is_past-clause-found g c = past_it c.in-Ok.state c.in-Ok.ensures.opened.readable.sized c.recover.ensures.quiet c.in-Ok.ensures.says (sym c.if-is_past.ensures)

pub returns-in-Ok-read_disk-clause-reads : goal.returns-in-Ok-read_disk-clause-reads
returns-in-Ok-read_disk-clause-reads g c = record { store = reads_twice c.recover.ensures.quiet c.read_disk.ensures.quiet; base = c.read_disk.ensures.base_quiet }

pub returns-in-Ok-read_disk-clause-found : goal.returns-in-Ok-read_disk-clause-found
returns-in-Ok-read_disk-clause-found g c =
    found_it c.recover.new.store c.in-Ok.state c.read_disk.new.out c.in-Ok.ensures.opened.readable.sized c.read_disk.ensures.size c.recover.ensures.quiet (record { store = c.read_disk.ensures.quiet; base = c.read_disk.ensures.base_quiet })
    c.in-Ok.ensures.says c.in-Ok-read_disk.ensures.read (sym c.if-is_past.ensures)

pub returns-in-Err-Store-clause-reads : goal.returns-in-Err-Store-clause-reads
returns-in-Err-Store-clause-reads g c = record { store = reads_twice c.recover.ensures.quiet c.read_disk.ensures.quiet; base = c.read_disk.ensures.base_quiet }

pub returns-in-Err-Store-clause-found : goal.returns-in-Err-Store-clause-found
returns-in-Err-Store-clause-found g c =
    Store_failed c.in-Err-Store.ticket (failed_reading c.recover.ensures.quiet (rw c.in-Err-Store.field-0-is at c.in-Err-Store.ensures.fault))

pub returns-clause-reads : goal.returns-clause-reads
returns-clause-reads g c = record { store = reads_twice c.recover.ensures.quiet c.read_disk.ensures.quiet; base = c.read_disk.ensures.base_quiet }

pub returns-clause-found : goal.returns-clause-found
returns-clause-found g c = Base_failed c.in-Err-Base.ticket (rw c.in-Err-Base.field-0-is at c.in-Err-Base.ensures.fault)
