-- Each step keeps what the type of a core keeps: part by part, by the law of the part's own crate.
use Rattle.std.proofs.Common.{ℕ}
use Rattle.vd_device.specs.declared.store.Store as store
use Rattle.vd_device.specs.declared.base.Base as base
use Rattle.vd_machine.specs.Views.{View}
use Rattle.vd_machine.specs.Steps.{IsStep}
use Rattle.vd_machine.specs.Sound.{IsSound}
use Rattle.vd_legal.proofs.Laws.{since-kept, coherent-kept, room-kept, storage-kept, faithful-kept}
use Rattle.vd_metadata.proofs.Laws.{metadata-kept}
use Rattle.vd_causes.proofs.Laws.{accounted-kept, logged-kept}
use Rattle.vd_safety.proofs.Laws.{safely-kept, stopped-kept}
use Rattle.vd_core.specs.Kept.{IsWellKept}

pub kept-on : {S B : Type 0} {g : store.Ghosts S} {h : base.Ghosts B} {i : ℕ} {c c' : View S B} → IsStep g h i c c' → IsWellKept g h c → IsWellKept g h c'
kept-on step was = record {
  sound = record {
    since = since-kept step was.sound;
    coherent = coherent-kept step was.sound;
    roomy = room-kept step was.sound;
    storage = storage-kept step was.sound;
    metadata = metadata-kept step was.sound;
  };
  faithful = faithful-kept step was.sound was.faithful;
  logged = logged-kept step was.sound was.logged;
  accounted = accounted-kept step was.sound was.accounted;
  safe = safely-kept step was.sound was.faithful was.logged was.safe;
  stopped = stopped-kept step was.sound was.safe was.stopped;
}
