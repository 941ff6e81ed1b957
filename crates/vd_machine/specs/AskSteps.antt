-- The steps with which a request begins and ends.
use Rattle.std.specs.Prelude.{ℕ, ◌≡◌, ◌⊎◌, ◌*◌, [], ◌∷◌, Option}
use Rattle.vd_law.specs.declared.entry.Answer.{Answer}
use Rattle.vd_law.specs.Entries.{Asked}
use Rattle.vd_law.specs.Rules.{IsInside}
use Rattle.vd_device.specs.declared.store.Store as store
use Rattle.vd_device.specs.Disks.{IsRunning}
use Rattle.vd_passes.specs.declared.pass.Phase.TheVariants.{Idle, Ready}
use Rattle.vd_passes.specs.Steps.{IsAt, Replies}
use Rattle.vd_machine.specs.Adding.{AddsEntries}
use Rattle.vd_machine.specs.Asking.{AskEnds, HasSize, IsOkWhereDone, room_after_reply}
use Rattle.vd_machine.specs.Views.{View, one_step_more, view_requests, ask_state_of}

module _ {S B : Type 0} (g : store.Ghosts S) where
  -- a request was asked: there was no room for it, or it is answered Full, or it is under way
  pub record AskStep (result : Option Answer) (request : Asked) (i : ℕ) (c c' : View S B) : Type 0 where
    pub idle : IsAt c.passes i (λ p. p.phase ≡ Idle)
    pub size : HasSize request
    pub inside : IsInside (c.shape.block * c.shape.blocks) request
    pub ends : AskEnds result request (g.events c.store) i (ask_state_of c) (ask_state_of c')
    pub running : g.tells c'.store → (c'.history ≡ c.history) ⊎ IsRunning (g.events c'.store) (g.disk c'.store)
    pub others : c' ≡ record c { table = c'.table; passes = c'.passes; history = c'.history; spare = c'.spare; steps = one_step_more c.steps }

  -- a pass that is ready has its reply, and the room that its call reserved and didn't use is left again
  pub record ReplyStep (answer : Answer) (i : ℕ) (c c' : View S B) : Type 0 where
    pub ready : IsAt c.passes i (λ p. p.phase ≡ Ready)
    pub replies : Replies answer i (view_requests c) (view_requests c')
    pub ok : IsAt c.passes i (IsOkWhereDone answer)
    pub extends : AddsEntries (g.events c.store ∷ []) 0 c.history c'.history
    pub left : IsAt c.passes i (λ p. c'.spare ≡ room_after_reply p c.spare)
    pub running : g.tells c'.store → IsRunning (g.events c'.store) (g.disk c'.store)
    pub others : c' ≡ record c { passes = c'.passes; history = c'.history; spare = c'.spare; steps = one_step_more c.steps }
