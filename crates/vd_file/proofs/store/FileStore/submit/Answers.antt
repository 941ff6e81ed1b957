use Rattle.std.proofs.Common.{ap, sym, arith, ◌∙◌}
use Rattle.vd_file.proofs.Flight.{put}
use Rattle.vd_file.proofs.store.FileStore.submit.Goals as goal

pub returns-clause-flight : goal.returns-clause-flight
returns-clause-flight c =
    put c.args.self.now _ _ (omega (arith, ap (λ s. s.flying) c.self.view_is)) (ap (λ s. s.sectors) c.self.view_is)
    (λ read. rw (c.new.ensures.first, c.new.ensures.count) (c.requires.inside (sym c.new.ensures.kind ∙ read)))
