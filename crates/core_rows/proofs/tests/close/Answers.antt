use Rattle.std.proofs.Common.{sym, ◌∙◌}
use Rattle.core_rows.proofs.Runs.{three-idle}
use Rattle.core_rows.proofs.tests.close.Goals as goal

pub finish-requires : goal.finish-requires
finish-requires g c = record {
  idle = three-idle c.args.core.passes c.requires
      (λ p there. sym (c.phase.ensures.phase p there) ∙ c.in-Idle-Idle-Idle.is-0)
      (λ p there. sym (c.phase-2.ensures.phase p there) ∙ c.in-Idle-Idle-Idle.is-1)
      (λ p there. sym (c.phase-3.ensures.phase p there) ∙ c.in-Idle-Idle-Idle.is-2);
}
