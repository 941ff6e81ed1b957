use Rattle.std.proofs.Common.{length, ap, ◌∙◌}
use Rattle.vd_device.specs.Now.{read_entries}
use Rattle.vd_device.specs.Quiet.{sectors_from}
use Rattle.vd_device.proofs.Parts.{held_part}
use Rattle.vd_device.proofs.QuietLaws.{only_reads, read_idle, on_ok, read_failed}
use Rattle.vd_device.proofs.quiet.read_only.Goals as goal

pub returns-clause-fault : goal.returns-clause-fault
returns-clause-fault g c = read_failed c.args.first (length c.args.out.now) c.read_now.new.out c.read_now.result c.read_now.ensures.calls c.read_now.ensures.told

pub returns-clause-quiet : goal.returns-clause-quiet
returns-clause-quiet g c =
    only_reads (read_entries (g.S.Store.last c.read_now.new.store) c.args.first (length c.args.out.now) c.read_now.new.out c.read_now.result) (read_idle _ _ _ _ _)
    c.requires.ready c.read_now.ensures.calls c.read_now.ensures.told

pub returns-clause-read : goal.returns-clause-read
returns-clause-read g c =
    on_ok c.read_now.result
    (λ at told. held_part c.args.first c.read_now.new.out _ (at told) ∙ ap (sectors_from (g.S.Store.disk c.read_now.new.store).held c.args.first) c.read_now.auto.out)
    c.read_now.ensures.read
