-- Each primitive keeps all that a core keeps, and so does each interleaving: every image at every moment is safe.
use Rattle.std.proofs.Common.{ℕ, List, [], Bool}
use Rattle.vd_image.specs.Log.{Entry}
use Rattle.vd_crash.specs.facts.Safe.{Opening, IsSafe}
use Rattle.vd_crash.specs.facts.Opened.{IsAtOpening}
use Rattle.vd_crash.specs.facts.Memory.{Memory}
use Rattle.vd_crash.specs.flushes.Flushing.{AreOpeningMarks}
use Rattle.vd_crash.specs.flushes.Stage.{Idle}
use Rattle.vd_crash.specs.primitives.Core.{IsCore, Resting}
use Rattle.vd_crash.specs.primitives.Keeping.{IsMarkedCore, KeepsCrashSafety}
use Rattle.vd_crash.specs.primitives.Primitives.{State, at_rest, IsPrimitive, Keeps_contents, Writes_block, Ends_flight, Flushes_on, Puts_on, Interleaves, Nothing, Then}
use Rattle.vd_crash.proofs.flushes.Marks.{marks_opened}
use Rattle.vd_crash.proofs.flushes.Moves.{opening_keeps}
use Rattle.vd_crash.proofs.primitives.FlushKeeping.{flush_core, flush_marks, put_core, put_marks}
use Rattle.vd_crash.proofs.primitives.MarkSteps.{MarksHold}
use Rattle.vd_crash.proofs.primitives.PassKeeping.{quiet_core, quiet_marks, write_core, write_marks, end_core, end_marks}

-- what a core knows of itself after each primitive
core_after : (o : Opening) (s t : State) → IsPrimitive o s t → IsMarkedCore o s → IsCore o t.log t.history t.memory t.flights t.stage
core_after o s t (Keeps_contents step) c = quiet_core o s t step c
core_after o s t (Writes_block step) c = write_core o s t step c
core_after o s t (Ends_flight step) c = end_core o s t step c
core_after o s t (Flushes_on step) c = flush_core o s t step c
core_after o s t (Puts_on step) c = put_core o s t step c

-- what the marks of its pages say
marks_after : (o : Opening) (s t : State) → IsPrimitive o s t → IsMarkedCore o s → MarksHold o t.log t.history t.memory t.marked
marks_after o s t (Keeps_contents step) c = quiet_marks o s t step c
marks_after o s t (Writes_block step) c = write_marks o s t step c
marks_after o s t (Ends_flight step) c = end_marks o s t step c
marks_after o s t (Flushes_on step) c = flush_marks o s t step c
marks_after o s t (Puts_on step) c = put_marks o s t step c

pub primitive_keeps : (o : Opening) (s t : State) → IsPrimitive o s t → KeepsCrashSafety o s → KeepsCrashSafety o t
unfolding KeepsCrashSafety
primitive_keeps o s t step c = record { core = core_after o s t step c; clean_pages = marks_after o s t step c }

pub interleaving_keeps : (o : Opening) (s t : State) → Interleaves o s t → KeepsCrashSafety o s → KeepsCrashSafety o t
interleaving_keeps o s t (Nothing u) c = c
interleaving_keeps o s t (Then u v w run step) c = primitive_keeps o v w step (interleaving_keeps o u v run c)

core_at_opening : (o : Opening) (log : List Entry) (m : Memory) → IsAtOpening o log m → IsCore o log [] m (λ k. Idle) Resting
core_at_opening o log m h =
    let k = opening_keeps o log m h in
    record {
      safe = k.safe;
      holds = k.holds;
      so_far = tt;
      tickets = λ l t has out. out;
      in_flight = record {
        each = λ l. tt;
        owned = λ j d flight. absurd (let s = flight.stands in cc);
        distinct = record { tickets = λ a b t x y. absurd x; blocks = λ a b t x y. absurd x; calls = λ a b t x y. absurd x };
      };
    }

pub opening_keeps_all : (o : Opening) (log : List Entry) (m : Memory) (marked : ℕ → Bool) → IsAtOpening o log m → AreOpeningMarks o m marked → KeepsCrashSafety o (at_rest log m marked)
unfolding KeepsCrashSafety
opening_keeps_all o log m marked opening marks =
    let core = core_at_opening o log m opening in
    record { core = core; clean_pages = marks_opened o log m marked opening core.holds marks }

pub kept_is_safe : (o : Opening) (s : State) → KeepsCrashSafety o s → IsSafe o s.log s.history
unfolding KeepsCrashSafety
kept_is_safe o s c = c.core.safe

-- every image at every moment of every interleaving of primitives from an opening is safe
pub every_interleaving : (o : Opening) (log : List Entry) (m : Memory) (marked : ℕ → Bool) (s : State) → IsAtOpening o log m → AreOpeningMarks o m marked → Interleaves o (at_rest log m marked) s → IsSafe o s.log s.history
every_interleaving o log m marked s opening marks run = kept_is_safe o s (interleaving_keeps o (at_rest log m marked) s run (opening_keeps_all o log m marked opening marks))
