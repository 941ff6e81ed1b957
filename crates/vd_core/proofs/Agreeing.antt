-- What the store holds agrees with the history.
use Rattle.std.proofs.Common.{List, sym, subst}
use Rattle.std.specs.List.{Contains}
use Rattle.vd_device.specs.declared.store.Store as store
use Rattle.vd_device.specs.declared.base.Base as base
use Rattle.vd_law.specs.declared.entry.Sector.{Sector}
use Rattle.vd_passes.proofs.Tracks.{track-contents}
use Rattle.vd_machine.specs.Views.{View}
use Rattle.vd_machine.specs.Sound.{IsSound}
use Rattle.vd_machine.specs.Telling.{base_then, IsStartOf, IsFaithfullyKept}
use Rattle.vd_core.specs.Agreeing.{AgreesWith}
use Rattle.vd_format.specs.Background.{background_of}

pub told-agrees : {S B : Type 0} {g : store.Ghosts S} {h : base.Ghosts B} {c : View S B} → IsSound g h c → IsFaithfullyKept g h c → (start : List Sector)
    → IsStartOf g h c.fixed start
    → AgreesWith c.shape c.table c.fresh start (base_then h c.fixed) c.history.log.entries (g.disk c.store)
told-agrees {g = g} {h} {c} kept told start is =
    let faithful = told.faithful start is in
    record {
      placed = kept.coherent.fresh_placed;
      held = λ b x s v within inside fresh_now there held.
          subst (λ (contents : List Sector). Contains contents v) (track-contents start c.history.log.entries s)
          ((faithful.stands s within).local b x inside fresh_now there v
          (subst (λ (contents : List Sector). Contains contents v) (sym (track-contents (g.disk c.store).start (g.disk c.store).log _)) held));
      behind = λ b s within inside other.
          subst (λ (contents : List Sector). Contains contents (background_of (base_then h c.fixed) c.shape.tracked s))
          (track-contents start c.history.log.entries s) ((faithful.stands s within).other b inside other);
    }
