-- The primitives of a core, each with what its caller, its devices, its regions and the guest's history must show.
pub use Rattle.vd_crash.specs.facts.Words.{with_table}
pub use Rattle.vd_crash.specs.primitives.States.{MayIssue, EndsNone, nothing_put, HasCleanPage, IsNextHeader, State, state, at_rest}
use Rattle.vd_crash.specs.facts.Safe.{Opening}
use Rattle.vd_crash.specs.primitives.PassSteps.{IsQuietPrimitive, IsWritePrimitive, IsEndPrimitive}
use Rattle.vd_crash.specs.primitives.FlushSteps.{IsFlushPrimitive, IsPutPrimitive}

-- One primitive leads from a state to another.
pub data IsPrimitive (o : Opening) (s t : State) : Type 0 where
  Keeps_contents : IsQuietPrimitive o s t → IsPrimitive o s t
  Writes_block : IsWritePrimitive o s t → IsPrimitive o s t
  Ends_flight : IsEndPrimitive o s t → IsPrimitive o s t
  Flushes_on : IsFlushPrimitive o s t → IsPrimitive o s t
  Puts_on : IsPutPrimitive o s t → IsPrimitive o s t

-- an interleaving: any list of primitives
pub data Interleaves (o : Opening) : State → State → Type 0 where
  Nothing : (s : State) → Interleaves o s s
  Then : (s t u : State) → Interleaves o s t → IsPrimitive o t u → Interleaves o s u
