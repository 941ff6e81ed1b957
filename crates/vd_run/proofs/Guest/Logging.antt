-- A flush that is answered Ok has made stale whatever was stale or owed as it was asked.
use Rattle.std.proofs.Common.{◌≡◌, ◌⊎◌, ℕ, zero, suc, Bool, true, false, List, [], ◌∷◌, refl, sym, ◌∙◌, ap, subst, inl, inr, Option, Some, None, slice_get}
use Rattle.vd_law.specs.declared.entry.Room.{Room}
use Rattle.vd_law.specs.declared.entry.Answer.{Answer}
use Rattle.vd_law.specs.declared.entry.Answer.TheVariants.{Ok}
use Rattle.vd_law.specs.Entries.{Flush}
use Rattle.vd_law.specs.Histories.{HistoryState}
use Rattle.vd_device.specs.declared.store.Store as store
use Rattle.vd_device.specs.declared.settled.Settled.{Settled}
use Rattle.vd_device.specs.declared.settled.Settled.TheVariants as settled
use Rattle.vd_table.specs.Tables.{TableState}
use Rattle.vd_keeper.specs.declared.stage.Stage.{Stage}
use Rattle.vd_keeper.specs.declared.stage.Stage.TheVariants.{Rest, DataFlush, Puts, Syncs, Seals, Broken}
use Rattle.vd_keeper.specs.declared.stage.Put.{Put}
use Rattle.vd_keeper.specs.Keeping.{KeeperState}
use Rattle.vd_keeper.specs.Moves.{after_call, difference_of, after_adopt, IsNextPut, Next_record, Next_page, Next_header}
use Rattle.vd_keeper.proofs.Owed.{either-left, either-right}
use Rattle.vd_passes.specs.declared.shape.Shape.{Shape}
use Rattle.vd_passes.specs.declared.pass.Pass.{Pass}
use Rattle.vd_passes.specs.declared.pass.Phase.{Phase}
use Rattle.vd_passes.specs.declared.pass.Phase.TheVariants.{Idle, Asked, Held, Fetching, Filled, Issuing, Looking, Flushing, Ready}
use Rattle.vd_passes.specs.declared.pass.Fault.{Fault}
use Rattle.vd_passes.specs.declared.pass.Fault.TheVariants as fault
use Rattle.vd_passes.specs.Passes.{answer_by, after_ask, after_fault}
use Rattle.vd_passes.specs.Requests.{RequestState, with_pass}
use Rattle.vd_passes.specs.Steps.{IsAt}
use Rattle.vd_passes.proofs.Lists.{some-inj, get-set-same}
use Rattle.vd_machine.specs.Outcomes.{outcome_of}
use Rattle.vd_machine.specs.Asking.{AskEnds, ask_state}
use Rattle.vd_machine.specs.FlushSteps.{SettleMetaStep}
use Rattle.vd_machine.specs.Views.{View, view_requests}
use Rattle.vd_core.specs.Outcomes.{step_of}
use Rattle.vd_core.specs.declared.outcome.Step.TheVariants.{Again, Ended}
use Rattle.vd_drive.specs.Drivers.{GoesOnWithFlush, FlusherStep}
use Rattle.vd_run.specs.Driving.{IsToLog, AreLogged}

-- each block that was to be logged is stale, or in this flush's snapshot
abbrev AreInFlush : (first k : KeeperState) → Type 0
AreInFlush first k = (b : ℕ) → IsToLog first b → (slice_get k.stale b ≡ Some true) ⊎ (slice_get k.snapshot b ≡ Some true)

-- how far a flush has come with the blocks that were to be logged as it was asked, where it hasn't failed
abbrev IsLogging : Phase → Option Fault → (first k : KeeperState) → Type 0
IsLogging Asked why first k = k ≡ first
IsLogging Flushing why first k = AreInFlush first k
IsLogging Ready None first k = AreLogged first k
IsLogging _ why first k = Unit {0}

abbrev pub Logs : (first k : KeeperState) → Pass → Type 0
Logs first k p = IsLogging p.phase p.fault first k

-- the pass that a step leaves
left-at : (r r' : RequestState) (i : ℕ) (p p' : Pass) (P : Pass → Type 0) → slice_get r.passes i ≡ Some p → r' ≡ with_pass i p' r → P p' → IsAt r'.passes i P
left-at r r' i p p' P there after holds = (p', subst (λ (x : RequestState). slice_get x.passes i ≡ Some p') (sym after) (get-set-same r.passes i p' p there), holds)

-- neither a call nor a put changes what is stale or in the snapshot
called : (stage : Stage) (k : KeeperState) → ((after_call stage k).stale ≡ k.stale) × ((after_call stage k).snapshot ≡ k.snapshot)
unfolding after_call
called DataFlush k = (refl, refl)
called Puts k = (refl, refl)
called Syncs k = (refl, refl)
called Rest k = (refl, refl)
called Seals k = (refl, refl)
called Broken k = (refl, refl)

put-keeps : {table : TableState} {k k' : KeeperState} {put : Put} → IsNextPut table k put k' → (k'.stale ≡ k.stale) × (k'.snapshot ≡ k.snapshot)
put-keeps (Next_record sector way bytes) = (refl, refl)
put-keeps (Next_page page sector way lowest bytes) = (refl, refl)
put-keeps (Next_header sector way none bytes) = (refl, refl)

still : (first k k' : KeeperState) → (k'.stale ≡ k.stale) × (k'.snapshot ≡ k.snapshot) → AreInFlush first k → AreInFlush first k'
still first k k' same in-flush b is = elim (in-flush b is) [
  | inl stale ↦ inl (ap (λ (xs : List Bool). slice_get xs b) same.0 ∙ stale)
  | inr snapshot ↦ inr (ap (λ (xs : List Bool). slice_get xs b) same.1 ∙ snapshot)
]

module _ {S B : Type 0} (g : store.Ghosts S) (i : ℕ) (c c' : View S B) (first : KeeperState) where
  settled-on : (answer : Settled) → Again ≡ step_of (outcome_of answer) → SettleMetaStep g answer i c c' → AreInFlush first c.keeping → IsAt c'.passes i (Logs first c'.keeping)
  settled-on settled.Done is s in-flush =
      let settles = s.settles.settles in
      left-at (view_requests c) (view_requests c') i settles.pass (record settles.pass { ticket = None }) (Logs first c'.keeping) settles.there settles.after
      (rw settles.phase (still first c.keeping c'.keeping (rw s.settles.after (called c.keeping.stage c.keeping)) in-flush))
  settled-on (settled.NotYet t) is s in-flush = absurd (let e = is in cc)
  settled-on (settled.Failed number) is s in-flush =
      let settles = s.settles.settles in
      left-at (view_requests c) (view_requests c') i settles.pass (after_fault (fault.Store settles.ticket.number) settles.pass) (Logs first c'.keeping) settles.there settles.after tt

  goes : GoesOnWithFlush g Again i c c' → AreInFlush first c.keeping → IsAt c'.passes i (Logs first c'.keeping)
  goes (inl (answer, is, s)) in-flush = settled-on answer is s in-flush
  goes (inr (again, inl s)) in-flush =
      left-at (view_requests c) (view_requests c') i s.puts.sends.pass _ (Logs first c'.keeping) s.puts.sends.there s.puts.sends.after (still first c.keeping c'.keeping (put-keeps s.puts.next) in-flush)
  goes (inr (again, inr (inl s))) in-flush =
      let same = ap (λ (v : View S B). v.keeping) s.others in
      left-at (view_requests c) (view_requests c') i s.syncs.sends.pass _ (Logs first c'.keeping) s.syncs.sends.there s.syncs.sends.after
      (still first c.keeping c'.keeping (ap (λ (k : KeeperState). k.stale) same, ap (λ (k : KeeperState). k.snapshot) same) in-flush)
  goes (inr (again, inr (inr s))) in-flush =
      left-at (view_requests c) (view_requests c') i s.seals.ends.pass _ (Logs first c'.keeping) s.seals.ends.there s.seals.ends.after
      (λ b is. ap (λ (k : KeeperState). slice_get k.stale b) s.seals.after ∙ elim (in-flush b is) [
        | inl stale ↦ either-left c.keeping.stale c.keeping.snapshot b stale
        | inr snapshot ↦ either-right c.keeping.stale c.keeping.snapshot b snapshot
      ])

  on : (phase : Phase) (why : Option Fault) → FlusherStep g phase Again i c c' → IsLogging phase why first c.keeping → IsAt c'.passes i (Logs first c'.keeping)
  on Asked why (inl (again, inl s)) logs =
      left-at (view_requests c) (view_requests c') i s.begins.sends.pass _ (Logs first c'.keeping) s.begins.sends.there s.begins.sends.after
      (subst (λ (k : KeeperState). AreInFlush first k) (sym s.begins.after) (λ b is. subst (λ (k : KeeperState). IsToLog k b) (sym logs) is))
  on Asked why (inl (again, inr s)) logs =
      left-at (view_requests c) (view_requests c') i s.wears.ends.pass _ (Logs first c'.keeping) s.wears.ends.there s.wears.ends.after tt
  on Asked why (inr (by, busy, s)) logs = absurd (let e = busy in cc)
  on Flushing why made logs = goes made logs
  on Ready why (answer, ended, s) logs = absurd (let e = ended in cc)
  on Idle why made logs = absurd made
  on Held why made logs = absurd made
  on Fetching why made logs = absurd made
  on Filled why made logs = absurd made
  on Issuing why made logs = absurd made
  on Looking why made logs = absurd made

  -- While it goes on, the flush has what was to be logged.
  pub logs-on : IsAt c.passes i (λ p. FlusherStep g p.phase Again i c c') → IsAt c.passes i (Logs first c.keeping) → IsAt c'.passes i (Logs first c'.keeping)
  logs-on made logs =
      let same : made.0 ≡ logs.0 = some-inj (sym made.1 ∙ logs.1) in
      on logs.0.phase logs.0.fault (subst (λ (p : Pass). FlusherStep g p.phase Again i c c') same made.2) logs.2

  no-fault : (why : Option Fault) (done : ℕ) → answer_by why done ≡ Ok → why ≡ None
  no-fault None done ok = refl
  no-fault (Some (fault.Store ticket)) done ok = absurd (let e = ok in cc)
  no-fault (Some (fault.Base ticket)) done ok = absurd (let e = ok in cc)
  no-fault (Some (fault.Worn generation)) done ok = absurd (let e = ok in cc)

  settled-no-end : {A : Type 0} (answer : Settled) (end : Answer) → Ended end ≡ step_of (outcome_of answer) → A
  settled-no-end settled.Done end is = absurd (let e = is in cc)
  settled-no-end (settled.NotYet t) end is = absurd (let e = is in cc)
  settled-no-end (settled.Failed number) end is = absurd (let e = is in cc)

  ends : (phase : Phase) (p : Pass) (answer : Answer) → slice_get c.passes i ≡ Some p → FlusherStep g phase (Ended answer) i c c' → IsLogging phase p.fault first c.keeping → answer ≡ Ok → AreLogged first c'.keeping
  ends Asked p answer there (inl (again, made)) logs ok = absurd (let e = again in cc)
  ends Asked p answer there (inr (by, busy, s)) logs ok = absurd (let e = busy in cc)
  ends Flushing p answer there (inl (settled, is, s)) logs ok = settled-no-end settled answer is
  ends Flushing p answer there (inr (again, made)) logs ok = absurd (let e = again in cc)
  ends Ready p answer there (told, ended, s) logs ok =
      let same : p ≡ s.replies.pass = some-inj (sym there ∙ s.replies.there) in
      let told-same : told ≡ answer = (let e = ended in cc) in
      let none : p.fault ≡ None = no-fault p.fault p.done (ap (λ (q : Pass). answer_by q.fault q.done) same ∙ sym s.replies.is ∙ told-same ∙ ok) in
      let logged = subst (λ (w : Option Fault). IsLogging Ready w first c.keeping) none logs in
      subst (λ (k : KeeperState). AreLogged first k) (sym (ap (λ (v : View S B). v.keeping) s.others)) logged
  ends Idle p answer there made logs ok = absurd made
  ends Held p answer there made logs ok = absurd made
  ends Fetching p answer there made logs ok = absurd made
  ends Filled p answer there made logs ok = absurd made
  ends Issuing p answer there made logs ok = absurd made
  ends Looking p answer there made logs ok = absurd made

  -- Where it is answered Ok all that is stale.
  pub logs-end : (answer : Answer) → IsAt c.passes i (λ p. FlusherStep g p.phase (Ended answer) i c c') → IsAt c.passes i (Logs first c.keeping) → answer ≡ Ok → AreLogged first c'.keeping
  logs-end answer made logs ok =
      let same : made.0 ≡ logs.0 = some-inj (sym made.1 ∙ logs.1) in
      ends logs.0.phase logs.0 answer logs.1 (subst (λ (p : Pass). FlusherStep g p.phase (Ended answer) i c c') same made.2) logs.2 ok

-- as the flush was asked
pub logs-asked : {pass : ℕ} {passes passes' : List Pass} {shape shape' : Shape} {events : ℕ} {table table' : TableState} {history history' : HistoryState} {left left' : Room} {k k' : KeeperState}
    → AskEnds None Flush events pass (ask_state shape table passes history left) (ask_state shape' table' passes' history' left') → k' ≡ k → IsAt passes' pass (Logs k k')
logs-asked (inl (exceeds, is, nothing)) same = absurd (let e = is in cc)
logs-asked (inr (inl (needed, free, is, full))) same = absurd (let e = is in cc)
logs-asked {pass = pass} {k = k} {k' = k'} (inr (inr (none, asked))) same =
    let asks = asked.asks [] in let p = after_ask asks.pass Flush _ _ in
    (p, ap (λ (r : RequestState). slice_get r.passes pass) asks.after ∙ get-set-same _ pass p asks.pass asks.there, same)

-- ---- what an adoption leaves to log

owed-or-stale : (xs ys : List Bool) (b : ℕ) → slice_get xs b ≡ Some true → (slice_get ys b ≡ Some true) ⊎ (slice_get (difference_of xs ys) b ≡ Some true)
owed-or-stale [] ys b is = absurd (let e = is in cc)
owed-or-stale (x ∷ xs) [] b is = inr is
owed-or-stale (x ∷ xs) (true ∷ ys) zero is = inl refl
owed-or-stale (true ∷ xs) (false ∷ ys) zero is = inr refl
owed-or-stale (false ∷ xs) (false ∷ ys) zero is = absurd (let e = is in cc)
owed-or-stale (x ∷ xs) (y ∷ ys) (suc b) is = owed-or-stale xs ys b is

pub adopted : (fresh : List Bool) (k : KeeperState) (b : ℕ) → slice_get fresh b ≡ Some true → IsToLog (after_adopt fresh k) b
adopted fresh k b is = elim (owed-or-stale fresh k.stale b is) [
  | inl stale ↦ inl stale
  | inr owed ↦ inr (either-right k.owed (difference_of fresh k.stale) b owed)
]
