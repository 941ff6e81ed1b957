-- The one word for all that a core keeps so that every image is safe.
use Rattle.vd_image.specs.Log.{May}
use Rattle.vd_crash.specs.facts.Safe.{Opening}
use Rattle.vd_crash.specs.facts.Facts.{IsClaimSettled}
use Rattle.vd_crash.specs.flushes.Flushing.{AreMarks}
use Rattle.vd_crash.specs.primitives.Core.{IsCore}
use Rattle.vd_crash.specs.primitives.Primitives.{State}

-- a core, and what its marks say of its pages of the map
pub record IsMarkedCore (o : Opening) (s : State) : Type 0 where
  pub core : IsCore o s.log s.history s.memory s.flights s.stage
  pub clean_pages : AreMarks o (May o.before s.log) (IsClaimSettled o s.log s.history s.memory s.memory.discards.reach) s.memory.index s.marked

-- Whoever keeps a core needs to know no more of crashes than this word: it holds at opening, each primitive keeps it, and
-- every image at every moment is safe where it holds.
unfoldable pub KeepsCrashSafety : Opening → State → Type 0
KeepsCrashSafety o s = IsMarkedCore o s
