use Rattle.vd_device.specs.Now.{flush_entries}
use Rattle.vd_device.proofs.QuietLaws.{only_reads, flush_idle, flush_failed}
use Rattle.vd_device.proofs.quiet.flush_only.Goals as goal

pub returns-clause-fault : goal.returns-clause-fault
returns-clause-fault g c = flush_failed c.flush_now.result c.flush_now.ensures.calls c.flush_now.ensures.told

pub returns-clause-quiet : goal.returns-clause-quiet
returns-clause-quiet g c =
    only_reads (flush_entries (g.S.Store.last c.flush_now.new.store) c.flush_now.result) (flush_idle _ _) c.requires.ready c.flush_now.ensures.calls c.flush_now.ensures.told
