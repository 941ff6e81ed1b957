-- The steps of a write keep a core so that every image is safe.
use Rattle.std.proofs.Common.{◌≡◌, ℕ, zero, suc, ◌+◌, ◌-◌, ◌*◌, ◌<◌, ◌≤◌, ◌⊎◌, Bool, List, [], ◌∷◌, ◌++◌, length, sym, ◌∙◌, ap, subst, inl, inr, arith, length-append, Some, true}
use Rattle.std.specs.Prelude.{slice_range}
use Rattle.vd_device.specs.declared.store.Store as store
use Rattle.vd_device.specs.declared.base.Base as base
use Rattle.vd_law.specs.declared.entry.Sector.{Sector}
use Rattle.vd_law.specs.Entries.{Entry}
use Rattle.vd_law.specs.Histories.{HistoryState}
use Rattle.vd_device.specs.declared.ticket.Ticket.{Ticket}
use Rattle.vd_device.specs.declared.ticket.Kind.{Kind}
use Rattle.vd_device.specs.declared.ticket.Kind.TheVariants.{Read, Write, Flush}
use Rattle.vd_device.specs.declared.settled.Settled.{Settled}
use Rattle.vd_device.specs.declared.settled.Settled.TheVariants as settled
use Rattle.vd_device.specs.Disks.{Disk, IsRunning}
use Rattle.vd_device.specs.Calls.{issue_entry, done_entry, failed_entry, settle_entries}
use Rattle.vd_image.specs.Log.{Covers, Writes}
use Rattle.vd_image.proofs.Logs.{at_below}
use Rattle.vd_keeper.specs.Keeping.{KeeperState}
use Rattle.vd_passes.specs.declared.shape.Shape.{Shape}
use Rattle.vd_passes.specs.declared.pass.Pass.{Pass}
use Rattle.vd_passes.specs.declared.pass.Phase.TheVariants.{Held, Filled}
use Rattle.vd_passes.specs.Requests.{RequestState}
use Rattle.vd_passes.specs.Steps.{IsAt, CanWrite, HasAskedWrite, Issues}
use Rattle.vd_passes.proofs.Laying.{length-laid}
use Rattle.vd_passes.proofs.Lists.{some-inj}
use Rattle.vd_passes.proofs.Ready.{can-write-asked}
use Rattle.vd_safety.proofs.Ending.{IsOwedAfter, IsNumberedAfter, settle_issue-secured}
use Rattle.vd_safety.proofs.Issuing.{issue-secured, part-long}
use Rattle.vd_machine.specs.Issuing.{IsWritable, keeper_after_write}
use Rattle.vd_machine.specs.Outcomes.{numbers_of}
use Rattle.vd_machine.specs.WriteSteps.{IssueStep, SettleIssueStep}
use Rattle.vd_machine.specs.Views.{View, view_requests}
use Rattle.vd_machine.specs.Sound.{IsSound}
use Rattle.vd_machine.specs.Telling.{IsFaithfullyKept}
use Rattle.vd_safety.specs.Safely.{IsSafelyKept}
use Rattle.vd_safety.proofs.KeepsCarrying.{safely-on, around}

-- one write to this range
pub range-inside : (ticket : Ticket) (content : List Sector) (sectors : ℕ) → ticket.first + length content ≤ sectors → (j a : ℕ) (v : Sector)
    → Writes (issue_entry ticket content ∷ []) j a v → a < sectors
range-inside ticket content sectors fits zero a v w = by w.event w.stands w.covers
  where
    by : (e : Entry) → Some (issue_entry ticket content) ≡ Some e → Covers e a v → a < sectors
    by e same covers =
        let here : Covers (issue_entry ticket content) a v = subst (λ (x : Entry). Covers x a v) (sym (some-inj same)) covers in
        let below = at_below content here.0 v here.2 in omega (arith, fits, below, here.1)
range-inside ticket content sectors fits (suc j) a v w = absurd (let at = w.stands in cc)

-- an entry that writes nothing
pub none-written : (e : Entry) → ((a : ℕ) (v : Sector) → Covers e a v → ⊥) → (j a : ℕ) (v : Sector) → Writes (e ∷ []) j a v → ⊥
none-written e none zero a v w = none a v (subst (λ (x : Entry). Covers x a v) (sym (some-inj w.stands)) w.covers)
none-written e none (suc j) a v w = absurd (let at = w.stands in cc)

done-covers : (kind : Kind) (t : Ticket) (out : List Sector) (a : ℕ) (v : Sector) → Covers (done_entry kind t out) a v → ⊥
done-covers Read t out a v covers = covers
done-covers Write t out a v covers = covers
done-covers Flush t out a v covers = covers

failed-covers : (kind : Kind) (t : Ticket) (a : ℕ) (v : Sector) → Covers (failed_entry kind t) a v → ⊥
failed-covers Read t a v covers = covers
failed-covers Write t a v covers = covers
failed-covers Flush t a v covers = covers

-- no settle writes
pub settled-inside : (answer : Settled) (t : Ticket) (out : List Sector) (sectors j a : ℕ) (v : Sector) → Writes (settle_entries answer t out) j a v
    → a < sectors
settled-inside settled.Done t out sectors j a v w = absurd (none-written (done_entry t.kind t out) (done-covers t.kind t out) j a v w)
settled-inside (settled.NotYet same) t out sectors j a v w = absurd (let at = w.stands in cc)
settled-inside (settled.Failed number) t out sectors j a v w = absurd (none-written (failed_entry t.kind t) (failed-covers t.kind t) j a v w)

owed-as : (answer : Settled) (block : ℕ) (k k' : KeeperState) → k' ≡ keeper_after_write answer block k → IsOwedAfter answer block k k'
owed-as settled.Done block k k' is = is
owed-as (settled.NotYet same) block k k' is = is
owed-as (settled.Failed number) block k k' is = is

-- a history with one more number isn't the same
pub none-added : (history history' : HistoryState) (n : ℕ) → history' ≡ history → history'.numbers ≡ history.numbers ++ n ∷ [] → ⊥
none-added history history' n same more = let long = ap length more in let as_long = ap (λ (x : HistoryState). length x.numbers) same in let count =
    length-append history.numbers (n ∷ []) in omega (arith, long, as_long, count)

-- the number of an entry that was added is the length of the store's log
pub number-now : (history history' : HistoryState) (events : ℕ) (disk : Disk) → history'.numbers ≡ history.numbers ++ events ∷ []
    → (history' ≡ history) ⊎ IsRunning events disk → history'.numbers ≡ history.numbers ++ length disk.log ∷ []
number-now history history' events disk is (inl same) = absurd (none-added history history' events same is)
number-now history history' events disk is (inr runs) = is ∙ ap (λ (n : ℕ). history.numbers ++ n ∷ []) runs

numbered-as : (answer : Settled) (history history' : HistoryState) (events : ℕ) (disk : Disk) → history'.numbers ≡ history.numbers ++ numbers_of answer events
    → (history' ≡ history) ⊎ IsRunning events disk
    → IsNumberedAfter answer (length disk.log) history.numbers history'.numbers
numbered-as settled.Done history history' events disk is runs = number-now history history' events disk is runs
numbered-as (settled.NotYet same) history history' events disk is runs = is
numbered-as (settled.Failed number) history history' events disk is runs = number-now history history' events disk is runs

-- a pass whose piece can be issued has its block, to write it
writing-at : {shape : Shape} {fresh : List Bool} (passes : List Pass) (i : ℕ) → IsAt passes i (IsWritable shape fresh)
    → IsAt passes i (λ p. ((p.phase ≡ Held) ⊎ (p.phase ≡ Filled)) × (p.write ≡ true))
writing-at passes i at = (at.0, at.1, (elim at.2.way [ inl held ↦ inl held.0 | inr filled ↦ inr filled ], at.2.write))

-- the piece, or the block, lies in the store
issued-inside : {S B : Type 0} {g : store.Ghosts S} {h : base.Ghosts B} {c : View S B} {i : ℕ} {content : List Sector} {r' : RequestState} {store' : S}
    → IsSound g h c → IsAt c.passes i (IsWritable c.shape c.fresh)
    → HasAskedWrite c.history.log.entries i content → (step : Issues g content i (view_requests c) r' c.store store')
    → step.ticket.first + length step.stored ≤ g.sectors c.store
issued-inside {g = g} {c = c} {i = i} {content = content} sound at asked step =
    let p = step.pass in
    let shape = c.shape in
    let can = can-write-asked sound.coherent i content asked (writing-at c.passes i at) in
    let same : can.0 ≡ p = some-inj (sym can.1 ∙ step.there) in
    let ready : CanWrite g c.shape c.store p = subst (λ (q : Pass). CanWrite g c.shape c.store q) same can.2.0 in
    let long : length content ≡ p.count = subst (λ (q : Pass). length content ≡ q.count) same can.2.1 in
    let piece = ready.read.piece in
    let from = piece.from in let to = piece.to in let room = ready.read.room in let few = piece.no_more in
    let part = part-long content p.done p.piece (omega (arith, few, long)) in
    elim step.given.way [
      | inl held ↦ (let size = ap length held.0 ∙ part in let first = held.4 in omega (arith, from, to, room, size, first))
      | inr filled ↦
          let offset : ℕ = p.first + p.done - shape.block * p.block in
          let long_buffer = ready.buffer in
          let size : length step.stored ≡ shape.block = ap length (filled.0 ∙ filled.1)
          ∙ length-laid offset (slice_range content p.done (p.done + p.piece)) p.buffer (omega (arith, from, to, part, long_buffer)) ∙ long_buffer in
          let first = filled.3 in omega (arith, room, size, first)
    ]

module _ {S B : Type 0} {g : store.Ghosts S} {h : base.Ghosts B} {c : View S B} (sound : IsSound g h c)
    (told : g.tells c.store → h.tells c.base → IsFaithfullyKept g h c)
    (was : g.tells c.store → h.tells c.base → IsSafelyKept g h c) {i steps' : ℕ} {passes' : List Pass} {history' : HistoryState} {store' : S} where
  -- A piece is issued.
  pub issue-safely : {content : List Sector} → IssueStep g content i c (record c { store = store'; passes = passes'; history = history'; steps = steps' })
      → g.tells store' → h.tells c.base → IsSafelyKept g h (record c { store = store'; passes = passes'; history = history'; steps = steps' })
  issue-safely step now base_now =
      let call = step.issues.call in let before = call.takes.keeps.told_before now in
      safely-on (was before base_now) (_, call.takes.told now)
      (range-inside step.issues.ticket step.issues.stored (g.sectors c.store)
      (issued-inside sound step.writer step.content_asked step.issues)) call.counts.sectors
      (λ start held is secured. issue-secured history' (around sound (told before base_now) start held is)
      (writing-at c.passes i step.writer) step.content_asked step.issues
      (step.extends.2.numbers ∙ ap (λ (n : ℕ). c.history.numbers ++ n ∷ []) (step.running before)) now secured)

  -- Its end is settled.
  pub settle_issue-safely : {answer : Settled} {fresh' : List Bool} {keeping' : KeeperState}
      → SettleIssueStep g answer i c (record c { store = store'; fresh = fresh'; keeping = keeping'; passes = passes'; history = history'; steps = steps' })
      → g.tells store' → h.tells c.base → IsSafelyKept g h (record c
      { store = store'; fresh = fresh'; keeping = keeping'; passes = passes'; history = history'; steps = steps' })
  settle_issue-safely {answer} {keeping' = keeping'} step now base_now =
      let call = step.settles.call in let before = call.takes.keeps.told_before now in let owed = step.owes in
      safely-on (was before base_now) (_, call.takes.told now) (settled-inside answer step.settles.ticket [] (g.sectors c.store)) call.counts.sectors
      (λ start held is secured. settle_issue-secured answer history' (around sound (told before base_now) start held is) step.issuing step.settles
      (owed.0, owed.1, owed-as answer owed.0.block c.keeping keeping' owed.2)
      (numbered-as answer c.history history' (g.events store') (g.disk store') step.extends.numbers (step.running now)) now secured)
