-- What is known of a core's history, of what its type keeps.
use Rattle.std.proofs.Common.{◌≡◌, ℕ, inl, inr, Some, slice_get}
use Rattle.vd_device.specs.declared.store.Store as store
use Rattle.vd_device.specs.declared.base.Base as base
use Rattle.vd_format.specs.Headers.{IsValid}
use Rattle.vd_passes.specs.declared.pass.Pass.{Pass}
use Rattle.vd_passes.specs.declared.pass.Phase.TheVariants.{Idle}
use Rattle.vd_passes.proofs.Answered.{coherent-replied}
use Rattle.vd_passes.proofs.Blaming.{blamed-caused}
use Rattle.vd_passes.proofs.Tracing.{followed-traced}
use Rattle.vd_machine.specs.Views.{View}
use Rattle.vd_legal.proofs.Telling.{told-legal}
use Rattle.vd_causes.proofs.Storing.{stored-fulls}
use Rattle.vd_safety.proofs.KeepsWords.{safely-again}
use Rattle.vd_safety.proofs.KeepsStopping.{still-safe}
use Rattle.vd_core.specs.Kept.{IsWellKept}
use Rattle.vd_core.specs.Opening.{IsNumberedIn}
use Rattle.vd_core.specs.History.{HasOpening, IsHistoryOf, HasEnded}
use Rattle.vd_core.proofs.Agreeing.{told-agrees}
use Rattle.vd_core.proofs.Showing.{shows-could}

module _ {S B : Type 0} {g : store.Ghosts S} {h : base.Ghosts B} {c : View S B} (kept : IsWellKept g h c) (tells_logs : g.tells c.store → g.records c.store) where
  pub has-opening : HasOpening g h c
  has-opening = record {
    since = kept.sound.since;
    recorded = tells_logs;
    within = λ log. elim (kept.sound.since.store.telling.state log) [ inl tells ↦ inl (kept.logged tells).since | inr stop ↦ inr stop ];
  }

  pub known-history : IsHistoryOf g h c
  known-history = record {
    opening = has-opening;
    regular = kept.sound.coherent.regular;
    legal = λ tells base_tells. told-legal kept.sound (kept.faithful tells base_tells);
    store_faults = blamed-caused kept.accounted.of_store;
    base_faults = blamed-caused kept.accounted.of_base;
    traced = λ tells. followed-traced (kept.logged tells).followed;
    full = stored-fulls kept.accounted.stored;
    worn = kept.accounted.worn.caused;
    stored = kept.accounted.stored;
    local = kept.accounted.local;
    safe = λ log base_tells start is safe. (still-safe kept.sound kept.safe kept.stopped log base_tells start is safe).crash_safe;
    agrees = λ tells base_tells. told-agrees kept.sound (kept.faithful tells base_tells);
    apart = kept.sound.coherent.placed;
  }

  pub has-ended : IsValid c.fixed.header → ((i : ℕ) (p : Pass) → slice_get c.passes i ≡ Some p → p.phase ≡ Idle) →
      (g.tells c.store → IsNumberedIn (g.disk c.store).log c.history) → HasEnded g h c
  has-ended valid idle numbers = record {
    replied = coherent-replied kept.sound.coherent idle kept.accounted.of_passes;
    numbers = numbers;
    reopens = λ tells base_tells start is safe image left. safely-again kept.sound (kept.safe tells base_tells) (tells_logs tells) start is safe image left;
    settled = λ tells base_tells start is safe ends held may.
        shows-could kept.sound valid (kept.faithful tells base_tells) kept.accounted.local (kept.safe tells base_tells)
        (tells_logs tells) start is safe ends held may;
  }
