-- A request that is asked, and its reply, keep a core so that every image is safe.
use Rattle.std.proofs.Common.{◌≡◌, ℕ, ◌⊎◌, List, [], ◌∷◌, ◌++◌, length, ◌∙◌, ap, inl, inr, arith, length-append, Option}
use Rattle.vd_device.specs.declared.store.Store as store
use Rattle.vd_device.specs.declared.base.Base as base
use Rattle.vd_law.specs.declared.entry.Room.{Room}
use Rattle.vd_law.specs.Histories.{HistoryState}
use Rattle.vd_law.specs.declared.entry.Answer.{Answer}
use Rattle.vd_law.specs.Entries.{Asked}
use Rattle.vd_device.specs.Disks.{Disk, IsRunning}
use Rattle.vd_table.specs.Tables.{TableState}
use Rattle.vd_passes.specs.declared.pass.Pass.{Pass}
use Rattle.vd_safety.proofs.Asking.{ask-secured, ask_full-secured}
use Rattle.vd_safety.proofs.Replying.{reply-secured}
use Rattle.vd_machine.specs.AskSteps.{AskStep, ReplyStep}
use Rattle.vd_machine.specs.Views.{View}
use Rattle.vd_machine.specs.Sound.{IsSound}
use Rattle.vd_machine.specs.Telling.{IsFaithfullyKept}
use Rattle.vd_safety.specs.Safely.{IsSafelyKept}
use Rattle.vd_safety.proofs.KeepsCarrying.{safely-here, around}
use Rattle.vd_safety.proofs.KeepsIssuing.{number-now}

two-now : (history history' : HistoryState) (events : ℕ) (disk : Disk) → history'.numbers ≡ history.numbers ++ events ∷ events ∷ []
    → (history' ≡ history) ⊎ IsRunning events disk → history'.numbers ≡ history.numbers ++ length disk.log ∷ length disk.log ∷ []
two-now history history' events disk is (inl same) = absurd (let long = ap length is in let as_long = ap (λ (x : HistoryState). length x.numbers) same in
    let count = length-append history.numbers (events ∷ events ∷ []) in omega (arith, long, as_long, count))
two-now history history' events disk is (inr runs) = is ∙ ap (λ (n : ℕ). history.numbers ++ n ∷ n ∷ []) runs

module _ {S B : Type 0} {g : store.Ghosts S} {h : base.Ghosts B} {c : View S B} (sound : IsSound g h c)
    (told : g.tells c.store → h.tells c.base → IsFaithfullyKept g h c)
    (was : g.tells c.store → h.tells c.base → IsSafelyKept g h c) {i steps' : ℕ} {passes' : List Pass} {history' : HistoryState} {spare' : Room} where
  -- A request is asked, or answered at once.
  pub ask-safely : {result : Option Answer} {request : Asked} {table' : TableState}
      → AskStep g result request i c (record c { table = table'; passes = passes'; history = history'; spare = spare'; steps = steps' })
      → g.tells c.store → h.tells c.base → IsSafelyKept g h (record c { table = table'; passes = passes'; history = history'; spare = spare'; steps = steps' })
  ask-safely {result} {request} {table'} step now base_now = elim step.ends [
    | inl none ↦ safely-here (was now base_now) (λ start held is secured. rw (none.2.table_same, none.2.passes_same, none.2.history_same) secured)
    | inr (inl full) ↦ (let ends = full.3 in
        safely-here (was now base_now) (λ start held is secured. rw ends.table_same
        (ask_full-secured (around sound (told now base_now) start held is) secured history' step.idle (ends.asks c.fresh)
        (two-now c.history history' (g.events c.store) (g.disk c.store) ends.extends.numbers (step.running now)))))
    | inr (inr asked) ↦ (let ends = asked.1 in
        safely-here (was now base_now) (λ start held is secured.
        ask-secured (around sound (told now base_now) start held is) secured history' step.idle
        (record { kept = ends.claims.kept; storage = ends.claims.storage; one_to_one = ends.claims.one_to_one })
        (ends.asks c.fresh) (number-now c.history history' (g.events c.store) (g.disk c.store) ends.extends.numbers (step.running now))))
  ]

  -- A pass has its reply.
  pub reply-safely : {answer : Answer} → ReplyStep g answer i c (record c { passes = passes'; history = history'; spare = spare'; steps = steps' })
      → g.tells c.store → h.tells c.base → IsSafelyKept g h (record c { passes = passes'; history = history'; spare = spare'; steps = steps' })
  reply-safely step now base_now = safely-here (was now base_now) (λ start held is secured.
      reply-secured history' (around sound (told now base_now) start held is) step.ready step.replies
      (number-now c.history history' (g.events c.store) (g.disk c.store) step.extends.numbers (inr (step.running now))) secured)
