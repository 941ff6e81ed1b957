-- The steps of reads, writes and asks leave the metadata attended to: none begins or ends a flush.
use Rattle.std.proofs.Common.{◌≡◌, ◌≢◌, ℕ, ◌<◌, Bool, true, false, List, [], refl, sym, ◌∙◌, ap, subst, inl, inr, arith, length, Some, slice_get, slice_set}
use Rattle.std.specs.Prelude.{◌+◌, if◌then◌else◌, nat_lt, slice_index_or, Option}
use Rattle.vd_lists.proofs.Changes.{slice_set_unchanged}
use Rattle.vd_lists.proofs.Places.{same_member}
use Rattle.vd_law.specs.declared.entry.Sector.{Sector}
use Rattle.vd_law.specs.declared.entry.Room.{Room}
use Rattle.vd_law.specs.declared.entry.Answer.{Answer}
use Rattle.vd_law.specs.Entries.{Asked as Request, Read, Write, Flush}
use Rattle.vd_law.specs.Histories.{HistoryState}
use Rattle.vd_device.specs.declared.ticket.Ticket.{Ticket}
use Rattle.vd_device.specs.declared.settled.Settled.{Settled}
use Rattle.vd_device.specs.declared.settled.Settled.TheVariants as settled
use Rattle.vd_device.specs.declared.store.Store as store
use Rattle.vd_device.specs.declared.base.Base as base
use Rattle.vd_table.specs.Tables.{TableState}
use Rattle.vd_format.specs.declared.header.Header.{Header}
use Rattle.vd_image.specs.Image.{geometry_of}
use Rattle.vd_keeper.specs.Keeping.{KeeperState}
use Rattle.vd_keeper.specs.Moves.{after_owe}
use Rattle.vd_passes.specs.declared.shape.Shape.{Shape}
use Rattle.vd_passes.specs.declared.pass.Pass.{Pass}
use Rattle.vd_passes.specs.declared.pass.Fault.{Fault}
use Rattle.vd_passes.specs.declared.pass.Phase.{Phase}
use Rattle.vd_passes.specs.declared.pass.Phase.TheVariants.{Idle, Asked, Held, Fetching, Filled, Issuing, Looking, Flushing, Ready}
use Rattle.vd_passes.specs.Passes.{after_ask}
use Rattle.vd_passes.specs.Requests.{RequestState}
use Rattle.vd_passes.specs.Steps.{IsAt, after_base_read, after_write, Sees, EndsRead}
use Rattle.vd_passes.proofs.Settling.{waiting-write}
use Rattle.vd_machine.specs.Attending.{KeeperAgrees}
use Rattle.vd_machine.specs.Asking.{AskEnds}
use Rattle.vd_machine.specs.Issuing.{keeper_after_write}
use Rattle.vd_machine.specs.AskSteps.{AskStep, ReplyStep}
use Rattle.vd_machine.specs.WriteSteps.{EnterStep, FetchStep, SettleFetchStep, IssueStep, SettleIssueStep}
use Rattle.vd_machine.specs.ReadSteps.{StoreLookStep, BaseLookStep, ZerosStep, SettleStoreLookStep, SettleBaseLookStep}
use Rattle.vd_machine.specs.Views.{View, view_requests, ask_state_of}
use Rattle.vd_machine.specs.Sound.{MetadataAgrees, IsSound}
use Rattle.vd_machine.proofs.Others.{pass-attended, table-attended, owing-attended}
use Rattle.vd_metadata.proofs.Marks.{same-marks}

-- None of these phases is that of a flush under way.

pub asked-not : Asked ≢ Flushing
asked-not e = cc

pub held-not : Held ≢ Flushing
held-not e = cc

pub fetching-not : Fetching ≢ Flushing
fetching-not e = cc

pub filled-not : Filled ≢ Flushing
filled-not e = cc

pub issuing-not : Issuing ≢ Flushing
issuing-not e = cc

pub looking-not : Looking ≢ Flushing
looking-not e = cc

pub ready-not : Ready ≢ Flushing
ready-not e = cc

pub idle-not : Idle ≢ Flushing
idle-not e = cc

-- One pass is changed, which flushes neither before nor after.
pub record IsAside (i : ℕ) (old new : List Pass) : Type 0 where
  pub before : Pass
  pub after : Pass
  pub there : slice_get old i ≡ Some before
  pub set : new ≡ slice_set old i after
  pub was : before.phase ≢ Flushing
  pub is : after.phase ≢ Flushing

apart : {phase : Phase} (i : ℕ) (passes : List Pass) (p : Pass) → slice_get passes i ≡ Some p → IsAt passes i (λ q. q.phase ≡ phase) → phase ≢ Flushing
    → p.phase ≢ Flushing
apart i passes p there at other flushing = other (sym (ap (λ (q : Pass). q.phase) (same_member passes i p at.0 there at.1) ∙ at.2) ∙ flushing)

-- it was in this phase
aside : {phase : Phase} {i : ℕ} {old new : List Pass} (p p' : Pass) → slice_get old i ≡ Some p → new ≡ slice_set old i p' → IsAt old i (λ q. q.phase ≡ phase)
    → phase ≢ Flushing → p'.phase ≢ Flushing → IsAside i old new
aside {i = i} {old} p p' there set at other is = record { before = p; after = p'; there = there; set = set; was = apart i old p there at other; is = is }

-- a pass that isn't changed
aside-same : {phase : Phase} {i : ℕ} {old new : List Pass} → new ≡ old → IsAt old i (λ q. q.phase ≡ phase) → phase ≢ Flushing → IsAside i old new
aside-same {i = i} {old} same at other =
    let not : at.0.phase ≢ Flushing = λ flushing. other (sym at.2 ∙ flushing) in
    aside at.0 at.0 at.1 (same ∙ sym (slice_set_unchanged old i at.0 at.1)) at other not

-- What a keeper has to do with is as it was.
pub aside-kept : {S B : Type 0} {c : View S B} {i : ℕ} {s : S} {b : B} {ps : List Pass} {history : HistoryState} {spare : Room} {n : ℕ} → MetadataAgrees c
    → IsAside i c.passes ps
    → MetadataAgrees (record c { store = s; base = b; passes = ps; history = history; spare = spare; steps = n })
aside-kept {i = i} was a = record { attended = pass-attended i a.before a.after was.attended a.there a.set a.was a.is; same = was.same; stale = was.stale }

-- what a step has made of the passes
passes-as : {r r' : RequestState} → r ≡ r' → r.passes ≡ r'.passes
passes-as same = ap (λ (x : RequestState). x.passes) same

piece-not : (more : Bool) → (if more then Asked else Ready) ≢ Flushing
piece-not true e = cc
piece-not false e = cc

fetched-not : (answer : Settled) (p : Pass) (ticket : Ticket) (block : ℕ) (content : List Sector) → p.phase ≢ Flushing
    → (after_base_read answer p ticket block content).phase ≢ Flushing
fetched-not settled.Done p ticket block content before = filled-not
fetched-not (settled.NotYet same) p ticket block content before = before
fetched-not (settled.Failed number) p ticket block content before = ready-not

asked-phase : (p : Pass) (r : Request) (events sectors : ℕ) → (after_ask p r events sectors).phase ≡ Asked
asked-phase p (Read first count) events sectors = refl
asked-phase p (Write first content) events sectors = refl
asked-phase p Flush events sectors = refl

-- Reads.

seen-aside : {phase : Phase} {i : ℕ} {r r' : RequestState} {content out out' : List Sector} → Sees content i r r' out out'
    → IsAt r.passes i (λ p. p.phase ≡ phase) → phase ≢ Flushing → IsAside i r.passes r'.passes
seen-aside step at other = let p = step.pass in aside p _ step.there (passes-as step.after) at other (piece-not (nat_lt (p.done + p.piece) p.count))

read-aside : (answer : Settled) (content : List Sector) (why : Fault) (i : ℕ) (r r' : RequestState) (out out' : List Sector)
    → EndsRead answer content why i r r' out out'
    → IsAt r.passes i (λ p. p.phase ≡ Looking) → IsAside i r.passes r'.passes
read-aside settled.Done content why i r r' out out' ends at = seen-aside ends at looking-not
read-aside (settled.NotYet same) content why i r r' out out' ends at = aside-same (passes-as ends.0) at looking-not
read-aside (settled.Failed number) content why i r r' out out' ends at = let f = ends.0 in aside f.pass _ f.there (passes-as f.after) at looking-not ready-not

module _ {S B : Type 0} {c c' : View S B} {i : ℕ} where
  module _ {g : store.Ghosts S} where
    pub look-aside : StoreLookStep g i c c' → IsAside i c.passes c'.passes
    look-aside s = let at = s.reader in aside s.looks.pass _ s.looks.there (passes-as s.looks.after) (at.0, at.1, at.2.0.phase) held-not looking-not

    pub zeros-aside : {out out' : List Sector} → ZerosStep g i out out' c c' → IsAside i c.passes c'.passes
    zeros-aside s = let at = s.reader in seen-aside s.sees.sees (at.0, at.1, at.2.0.0.phase) held-not

    pub settle_look-aside : {out out' : List Sector} (answer : Settled) → SettleStoreLookStep g answer i out out' c c' → IsAside i c.passes c'.passes
    settle_look-aside answer s = let at = s.looking in read-aside answer _ _ i _ _ _ _ s.settles.effect (at.0, at.1, at.2.0)

    pub settle_base_look-aside : {h : base.Ghosts B} {out out' : List Sector} (answer : Settled) → SettleBaseLookStep h g answer i out out' c c'
        → IsAside i c.passes c'.passes
    settle_base_look-aside answer s = let at = s.looking in read-aside answer _ _ i _ _ _ _ s.settles.effect (at.0, at.1, at.2.0)

  pub base_look-aside : {h : base.Ghosts B} → BaseLookStep h i c c' → IsAside i c.passes c'.passes
  base_look-aside s = let at = s.reader in aside s.looks.pass _ s.looks.there (passes-as s.looks.after) (at.0, at.1, at.2.0.phase) held-not looking-not

  -- Writes.

  pub enter-aside : EnterStep i c c' → IsAside i c.passes c'.passes
  enter-aside s = let at = s.asked in let e = s.enters.enters in aside e.pass _ e.there (passes-as e.after) (at.0, at.1, at.2.asked) asked-not held-not

  pub fetch-aside : {h : base.Ghosts B} → FetchStep h i c c' → IsAside i c.passes c'.passes
  fetch-aside s =
      let at : IsAt c.passes i (λ p. p.phase ≡ Held) = (s.writer.0, s.writer.1, s.writer.2.held) in
      elim s.fetches [
        | inl f ↦ aside f.0.pass _ f.0.there (passes-as f.0.after) at held-not fetching-not
        | inr z ↦ aside z.0.pass _ z.0.there (passes-as z.0.after) at held-not filled-not
      ]

  pub settle_fetch-aside : {h : base.Ghosts B} (answer : Settled) → SettleFetchStep h answer i c c' → IsAside i c.passes c'.passes
  settle_fetch-aside answer s =
      let f = s.settles in let was = apart i c.passes f.pass f.there s.fetching fetching-not in
      aside f.pass _ f.there (passes-as f.after) s.fetching fetching-not (fetched-not answer f.pass f.ticket c.shape.block f.content was)

  pub issue-aside : {g : store.Ghosts S} (content : List Sector) → IssueStep g content i c c' → IsAside i c.passes c'.passes
  issue-aside content s =
      let f = s.issues in let set = passes-as f.after in
      elim f.given.way [
        | inl alone ↦ aside f.pass _ f.there set (f.pass, f.there, alone.2) held-not issuing-not
        | inr filled ↦ aside f.pass _ f.there set (f.pass, f.there, filled.2) filled-not issuing-not
      ]

  pub reply-aside : {g : store.Ghosts S} (answer : Answer) → ReplyStep g answer i c c' → IsAside i c.passes c'.passes
  reply-aside answer s = aside s.replies.pass _ s.replies.there (passes-as s.replies.after) s.ready ready-not idle-not

-- the local blocks, and what the end of a write makes of the keeper

owing-same : (block : ℕ) (k : KeeperState) → ((after_owe block k).stale ≡ k.stale) × ((after_owe block k).header ≡ k.header)
owing-same block k = by (slice_index_or k.stale block false)
  where
    after : (stale : Bool) → KeeperState
    after stale = if stale then k else record k { owed = slice_set k.owed block true }

    by : (stale : Bool) → ((after stale).stale ≡ k.stale) × ((after stale).header ≡ k.header)
    by true = (refl, refl)
    by false = (refl, refl)

written-same : (answer : Settled) (block : ℕ) (k : KeeperState)
    → ((keeper_after_write answer block k).stale ≡ k.stale) × ((keeper_after_write answer block k).header ≡ k.header)
written-same settled.Done block k = owing-same block k
written-same (settled.NotYet same) block k = (refl, refl)
written-same (settled.Failed number) block k = (refl, refl)

module _ {shape : Shape} {table : TableState} {fresh fresh' : List Bool} {passes : List Pass} {flusher : Option ℕ} {k k' : KeeperState}
    (attended : KeeperAgrees shape table fresh passes flusher k) where
  still-attended : fresh' ≡ fresh → k' ≡ k → KeeperAgrees shape table fresh' passes flusher k'
  still-attended bits keeper = subst (λ (x : KeeperState). KeeperAgrees shape table fresh' passes flusher x) (sym keeper)
      (subst (λ (xs : List Bool). KeeperAgrees shape table xs passes flusher k) (sym bits) attended)

  written-attended : (answer : Settled) (p : Pass) (ticket : Ticket) (i : ℕ) (r : RequestState) → r.fresh ≡ fresh → p.block < length fresh
      → fresh' ≡ (after_write answer p ticket i r).fresh → k' ≡ keeper_after_write answer p.block k → KeeperAgrees shape table fresh' passes flusher k'
  written-attended settled.Done p ticket i r was inside bits after =
      owing-attended p.block attended inside (bits ∙ ap (λ (xs : List Bool). slice_set xs p.block true) was) after
  written-attended (settled.NotYet same) p ticket i r was inside bits after = still-attended (bits ∙ was) after
  written-attended (settled.Failed number) p ticket i r was inside bits after = still-attended (bits ∙ was) after

written-aside : (answer : Settled) (p : Pass) (ticket : Ticket) (i : ℕ) (r r' : RequestState) → slice_get r.passes i ≡ Some p
    → r' ≡ after_write answer p ticket i r
    → IsAt r.passes i (λ q. q.phase ≡ Issuing) → IsAside i r.passes r'.passes
written-aside settled.Done p ticket i r r' there after at = aside p _ there (passes-as after) at issuing-not (piece-not (nat_lt (p.done + p.piece) p.count))
written-aside (settled.NotYet same) p ticket i r r' there after at = aside-same (passes-as after) at issuing-not
written-aside (settled.Failed number) p ticket i r r' there after at = aside p _ there (passes-as after) at issuing-not ready-not

module _ {S B : Type 0} {g : store.Ghosts S} {h : base.Ghosts B} {c : View S B} {i : ℕ}
    {s : S} {fresh : List Bool} {k : KeeperState} {ps : List Pass} {history : HistoryState} {n : ℕ} where
  pub settle_issue-kept : (answer : Settled) → IsSound g h c
      → SettleIssueStep g answer i c (record c { store = s; fresh = fresh; keeping = k; passes = ps; history = history; steps = n })
      → MetadataAgrees (record c { store = s; fresh = fresh; keeping = k; passes = ps; history = history; steps = n })
  settle_issue-kept answer was step =
      let f = step.settles in let p = f.pass in let kept = was.metadata in
      let waits = waiting-write was.coherent i step.issuing in
      let same : waits.0 ≡ p = same_member c.passes i waits.0 p waits.1 f.there in
      let inside : p.block < length c.fresh = subst (λ (x : Pass). x.block < length c.fresh) same
      (let d = waits.2.piece.in_disk in let size = was.coherent.size in omega (arith, d, size)) in
      let after : k ≡ keeper_after_write answer p.block c.keeping =
      subst (λ (x : Pass). k ≡ keeper_after_write answer x.block c.keeping) (same_member c.passes i step.owes.0 p step.owes.1 f.there) step.owes.2 in
      let a = written-aside answer p f.ticket i _ _ f.there f.after step.issuing in
      let still = written-same answer p.block c.keeping in
      record {
        attended = written-attended (pass-attended i a.before a.after kept.attended a.there a.set a.was a.is) answer p f.ticket i (view_requests c) refl inside
            (ap (λ (r : RequestState). r.fresh) f.after) after;
        same = ap (λ (x : KeeperState). geometry_of x.header) after ∙ ap (λ (h : Header). geometry_of h) still.1 ∙ kept.same;
        stale = same-marks c.shape c.fixed.entries (ap (λ (x : KeeperState). x.stale) after ∙ still.0) kept.stale;
      }

-- Asks: a request gives chunks storage, in a table of the same size.

module _ {S B : Type 0} (c c' : View S B) (i events : ℕ) (result : Option Answer) (request : Request) where
  ask-aside : AskEnds result request events i (ask_state_of c) (ask_state_of c') → IsAt c.passes i (λ p. p.phase ≡ Idle) → IsAside i c.passes c'.passes
  ask-aside (inl none) at = aside-same none.2.passes_same at idle-not
  ask-aside (inr (inl full)) at = let f = full.3.asks [] in aside f.pass _ f.there (passes-as f.after) at idle-not (apart i c.passes f.pass f.there at idle-not)
  ask-aside (inr (inr asked)) at =
      let f = asked.1.asks [] in let is = asked-phase f.pass request _ _ in
      aside f.pass _ f.there (passes-as f.after) at idle-not (λ flushing. asked-not (sym is ∙ flushing))

  ask-table : AskEnds result request events i (ask_state_of c) (ask_state_of c')
      → (length c'.table.chunks ≡ length c.table.chunks) × (c'.table.storage ≡ c.table.storage)
  ask-table (inl none) = let same = none.2.table_same in (ap (λ (t : TableState). length t.chunks) same, ap (λ (t : TableState). t.storage) same)
  ask-table (inr (inl full)) = let same = full.3.table_same in (ap (λ (t : TableState). length t.chunks) same, ap (λ (t : TableState). t.storage) same)
  ask-table (inr (inr asked)) = (asked.1.claims.chunks, asked.1.claims.storage)

pub ask-kept : {S B : Type 0} {g : store.Ghosts S} {c c' : View S B} {i n : ℕ} {result : Option Answer} {request : Request} → MetadataAgrees c
    → AskStep g result request i c c'
    → MetadataAgrees (record c { table = c'.table; passes = c'.passes; history = c'.history; spare = c'.spare; steps = n })
ask-kept {c = c} {c'} {i} {result = result} {request} was s =
    let a = ask-aside c c' i _ result request s.ends s.idle in let t = ask-table c c' i _ result request s.ends in
    record { attended = table-attended (pass-attended i a.before a.after was.attended a.there a.set a.was a.is) t.0 t.1; same = was.same; stale = was.stale }
