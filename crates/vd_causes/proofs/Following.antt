-- Each step of a core keeps what traces the store faults.
use Rattle.std.proofs.Common.{◌≡◌, ℕ, ◌⊎◌, List, [], ◌∷◌, ◌++◌, length, length-append, refl, true, sym, subst, ◌∙◌, ap, inl, inr, arith, Option}
use Rattle.vd_law.specs.declared.entry.Room.{Room}
use Rattle.vd_law.specs.declared.entry.Answer.{Answer}
use Rattle.vd_law.specs.declared.entry.Sector.{Sector}
use Rattle.vd_law.specs.Entries.{Asked, Entry}
use Rattle.vd_law.specs.Histories.{HistoryState}
use Rattle.vd_device.specs.declared.store.Store as store
use Rattle.vd_device.specs.declared.base.Base as base
use Rattle.vd_device.specs.declared.settled.Settled.{Settled}
use Rattle.vd_keeper.specs.declared.stage.Route.{Route}
use Rattle.vd_table.specs.Tables.{TableState}
use Rattle.vd_passes.specs.declared.shape.Shape.{Shape}
use Rattle.vd_passes.specs.declared.pass.Pass.{Pass}
use Rattle.vd_passes.specs.declared.pass.Phase.TheVariants.{Idle, Asked as HasAsked, Held, Filled}
use Rattle.vd_passes.specs.Requests.{RequestState}
use Rattle.vd_passes.specs.Steps.{IsAt}
use Rattle.vd_passes.specs.Following.{IsFollowed}
use Rattle.vd_passes.proofs.TracingSteps.{enters-followed, fetches-followed, fills-followed, fetch_settled-followed, asks-followed, asks_full-followed, replies-followed, issues-followed, looks-followed, write_settled-followed, look_settled-followed, base_look_settled-followed, sees_zeros-followed, base_looks-followed}
use Rattle.vd_passes.proofs.FlushingAccounts.{submits_meta-followed, meta_settled-followed, ends_flush-followed}
use Rattle.vd_machine.specs.Asking.{ask_state, AskEnds}
use Rattle.vd_machine.specs.Fetching.{FetchesBlock}
use Rattle.vd_machine.specs.Views.{View, StandsStill}
use Rattle.vd_machine.specs.Steps.{IsStep, By_refusal, By_ask, By_reply, By_enter, By_fetch, By_settle_fetch, By_issue, By_settle_issue, By_store_look, By_base_look, By_zeros, By_settle_store_look, By_settle_base_look, By_begin_flush, By_wear, By_put, By_sync, By_settle_meta, By_seal, By_adopt}
use Rattle.vd_machine.specs.Sound.{IsSound}
use Rattle.vd_machine.specs.Telling.{LogAgrees}
use Rattle.vd_machine.specs.AskSteps.{AskStep, ReplyStep}
use Rattle.vd_machine.specs.WriteSteps.{EnterStep, FetchStep, SettleFetchStep, IssueStep, SettleIssueStep}
use Rattle.vd_machine.specs.ReadSteps.{StoreLookStep, BaseLookStep, ZerosStep, SettleStoreLookStep, SettleBaseLookStep}
use Rattle.vd_machine.specs.FlushSteps.{BeginFlushStep, WearStep, PutStep, SyncStep, SettleMetaStep, SealStep, AdoptStep}
use Rattle.vd_machine.proofs.Starting.{HasGrown, since-more}

-- the base has something of the block, or nothing
fetch-followed : {r r' : RequestState} {numbers : List ℕ} {log : List Entry} {B : Type 0} {h : base.Ghosts B} {b b' : B}
    → IsFollowed r.passes r.entries numbers log → (i : ℕ) → IsAt r.passes i (λ p. p.phase ≡ Held)
    → FetchesBlock h i r r' b b' → IsFollowed r'.passes r'.entries numbers log
fetch-followed followed i at (inl f) = fetches-followed followed at f.0
fetch-followed followed i at (inr z) = fills-followed followed at z.0

longer : (xs : List Entry) (x : Entry) → xs ≡ xs ++ x ∷ [] → ⊥
longer xs x same = let e = ap length same in let f = length-append xs (x ∷ []) in omega (arith, e, f)

-- where the history has grown, the store runs
ask-followed : {result : Option Answer} {request : Asked} {shape : Shape} {i : ℕ} {table table' : TableState} {passes passes' : List Pass}
    {history history' : HistoryState} {spare spare' : Room} {events : ℕ} {log : List Entry}
    → IsFollowed passes history.log.entries history.numbers log → IsAt passes i (λ p. p.phase ≡ Idle)
    → AskEnds result request events i (ask_state shape table passes history spare) (ask_state shape table' passes' history' spare')
    → (history' ≡ history) ⊎ (events ≡ length log) → IsFollowed passes' history'.log.entries history'.numbers log
ask-followed followed at (inl none) running = rw (none.2.passes_same, none.2.history_same) followed
ask-followed {events = events} followed at (inr (inl full)) running = asks_full-followed followed events at (full.3.asks []) full.3.extends.numbers
ask-followed {history = history} followed at (inr (inr asked)) (inl same) =
    absurd (longer history.log.entries _ (sym (ap (λ (h : HistoryState). h.log.entries) same)
    ∙ ap (λ (r : RequestState). r.entries) (asked.1.asks []).after))
ask-followed followed at (inr (inr asked)) (inr running) = asks-followed followed (asked.1.asks []) asked.1.extends.numbers running

-- no ask changes what the store had told at opening
ask-opened : {result : Option Answer} {request : Asked} {shape : Shape} {i : ℕ} {table table' : TableState} {passes passes' : List Pass}
    {history history' : HistoryState} {spare spare' : Room} {events : ℕ}
    → AskEnds result request events i (ask_state shape table passes history spare) (ask_state shape table' passes' history' spare')
    → history'.opened ≡ history.opened
ask-opened (inl none) = ap (λ (h : HistoryState). h.opened) none.2.history_same
ask-opened (inr (inl full)) = full.3.extends.opened
ask-opened (inr (inr asked)) = asked.1.extends.opened

abbrev IsLogged : {S B : Type 0} → store.Ghosts S → View S B → Type 0
IsLogged g c = g.tells c.store → LogAgrees g c

module _ {S B : Type 0} {g : store.Ghosts S} {c c' : View S B} (was : LogAgrees g c) where
  -- the store has gone on
  logged-on : HasGrown (g.disk c.store) (g.disk c'.store) → c'.history.opened ≡ c.history.opened
      → IsFollowed c'.passes c'.history.log.entries c'.history.numbers (g.disk c'.store).log → LogAgrees g c'
  logged-on on opened followed = record {
    since = let more = since-more c.history.opened on was.since in omega (arith, more, opened);
    followed = followed;
  }

  -- the store is as it was
  logged-here : c'.store ≡ c.store → c'.history.opened ≡ c.history.opened
      → IsFollowed c'.passes c'.history.log.entries c'.history.numbers (g.disk c'.store).log
      → LogAgrees g c'
  logged-here same opened followed = record {
    since = let since = was.since in let log = ap (λ (s : S). length (g.disk s).log) same in omega (arith, since, log, opened);
    followed = followed;
  }

-- the core as its step leaves it is this one
whole : {S B : Type 0} {g : store.Ghosts S} {c c' : View S B} → c ≡ c' → IsLogged g c' → IsLogged g c
whole {g = g} same = subst (λ x. IsLogged g x) (sym same)

-- No pass changes.
module _ {S B : Type 0} {g : store.Ghosts S} {c c' : View S B} (logged : IsLogged g c) where
  still-logged : StandsStill c c' → IsLogged g c'
  still-logged same = whole same (λ told. let was = logged told in logged-here was refl refl was.followed)

  adopt-logged : AdoptStep c c' → IsLogged g c'
  adopt-logged step = whole step.others (λ told. let was = logged told in logged-here was refl refl was.followed)

-- Each step.
module _ {S B : Type 0} {g : store.Ghosts S} {h : base.Ghosts B} {i : ℕ} {c c' : View S B} (sound : IsSound g h c) (logged : IsLogged g c) where
  ask-logged : {result : Option Answer} {request : Asked} → AskStep g result request i c c' → IsLogged g c'
  ask-logged {result} {request} step = let s = subst (λ x. AskStep g result request i c x) step.others step in
      whole step.others (λ told. let was = logged told in logged-here was refl (ask-opened s.ends) (ask-followed was.followed s.idle s.ends (s.running told)))

  reply-logged : {answer : Answer} → ReplyStep g answer i c c' → IsLogged g c'
  reply-logged {answer} step = let s = subst (λ x. ReplyStep g answer i c x) step.others step in
      whole step.others (λ told. let was = logged told in logged-here was refl s.extends.opened
      (replies-followed was.followed s.ready s.replies s.extends.numbers (s.running told)))

  enter-logged : EnterStep i c c' → IsLogged g c'
  enter-logged step = let s = subst (λ x. EnterStep i c x) step.others step in
      let at : IsAt c.passes i (λ p. p.phase ≡ HasAsked) = (s.asked.0, s.asked.1, s.asked.2.asked) in
      whole step.others (λ told. let was = logged told in logged-here was refl refl (enters-followed was.followed at s.enters.enters))

  fetch-logged : FetchStep h i c c' → IsLogged g c'
  fetch-logged step = let s = subst (λ x. FetchStep h i c x) step.others step in
      let at : IsAt c.passes i (λ p. p.phase ≡ Held) = (s.writer.0, s.writer.1, s.writer.2.held) in
      whole step.others (λ told. let was = logged told in logged-here was refl refl (fetch-followed was.followed i at s.fetches))

  settle_fetch-logged : {answer : Settled} → SettleFetchStep h answer i c c' → IsLogged g c'
  settle_fetch-logged {answer} step = let s = subst (λ x. SettleFetchStep h answer i c x) step.others step in
      whole step.others (λ told. let was = logged told in logged-here was refl refl (fetch_settled-followed was.followed s.fetching s.settles))

  issue-logged : {content : List Sector} → IssueStep g content i c c' → IsLogged g c'
  issue-logged {content} step = let s = subst (λ x. IssueStep g content i c x) step.others step in let takes = s.issues.call.takes in
      let at : IsAt c.passes i (λ p. ((p.phase ≡ Held) ⊎ (p.phase ≡ Filled)) × (p.write ≡ true)) =
      (s.writer.0, s.writer.1, (elim s.writer.2.way [ inl held ↦ inl held.0 | inr filled ↦ inr filled ], s.writer.2.write)) in
      whole step.others (λ told. let before = takes.keeps.told_before told in let was = logged before in
      logged-on was (_, takes.told told) s.extends.2.opened (issues-followed was.followed at s.issues s.extends.2.numbers (s.running before) (takes.told told)))

  settle_issue-logged : {answer : Settled} → SettleIssueStep g answer i c c' → IsLogged g c'
  settle_issue-logged {answer} step = let s = subst (λ x. SettleIssueStep g answer i c x) step.others step in let call = s.settles.call in
      whole step.others (λ told. let was = logged (call.takes.keeps.told_before told) in logged-on was (_, call.takes.told told) s.extends.opened
      (write_settled-followed sound.coherent (g.events c'.store) was.followed s.issuing s.settles s.extends.numbers
      (record { grows = call.takes.told told; gives = call.gives told })))

  store_look-logged : StoreLookStep g i c c' → IsLogged g c'
  store_look-logged step = let s = subst (λ x. StoreLookStep g i c x) step.others step in let takes = s.looks.call.takes in
      let at : IsAt c.passes i (λ p. p.phase ≡ Held) = (s.reader.0, s.reader.1, s.reader.2.0.phase) in
      whole step.others (λ told. let was = logged (takes.keeps.told_before told) in
      logged-on was (_, takes.told told) refl (looks-followed was.followed at s.looks (takes.told told)))

  base_look-logged : BaseLookStep h i c c' → IsLogged g c'
  base_look-logged step = let s = subst (λ x. BaseLookStep h i c x) step.others step in
      let at : IsAt c.passes i (λ p. p.phase ≡ Held) = (s.reader.0, s.reader.1, s.reader.2.0.phase) in
      whole step.others (λ told. let was = logged told in logged-here was refl refl (base_looks-followed sound.coherent was.followed at s.looks))

  zeros-logged : {out out' : List Sector} → ZerosStep g i out out' c c' → IsLogged g c'
  zeros-logged {out} {out'} step = let s = subst (λ x. ZerosStep g i out out' c x) step.others step in
      let at : IsAt c.passes i (λ p. p.phase ≡ Held) = (s.reader.0, s.reader.1, s.reader.2.0.0.phase) in
      whole step.others (λ told. let was = logged told in logged-here was refl s.extends.2.opened
      (sees_zeros-followed sound.coherent (g.events c.store) was.followed at s.sees s.extends.2.numbers))

  settle_store_look-logged : {answer : Settled} {out out' : List Sector} → SettleStoreLookStep g answer i out out' c c' → IsLogged g c'
  settle_store_look-logged {answer} {out} {out'} step = let s = subst (λ x. SettleStoreLookStep g answer i out out' c x) step.others step in
      let call = s.settles.call in
      whole step.others (λ told. let was = logged (call.takes.keeps.told_before told) in logged-on was (_, call.takes.told told) s.extends.2.opened
      (look_settled-followed sound.coherent (g.events c'.store) was.followed (s.looking.0, s.looking.1, s.looking.2.0) s.settles s.extends.2.numbers
      (record { grows = call.takes.told told; gives = call.gives told })))

  settle_base_look-logged : {answer : Settled} {out out' : List Sector} → SettleBaseLookStep h g answer i out out' c c' → IsLogged g c'
  settle_base_look-logged {answer} {out} {out'} step = let s = subst (λ x. SettleBaseLookStep h g answer i out out' c x) step.others step in
      whole step.others (λ told. let was = logged told in logged-here was refl s.extends.2.opened
      (base_look_settled-followed sound.coherent (g.events c.store) was.followed (s.looking.0, s.looking.1, s.looking.2.0) s.settles s.extends.2.numbers))

  begin_flush-logged : {route : Route} → BeginFlushStep g route i c c' → IsLogged g c'
  begin_flush-logged {route} step = let s = subst (λ x. BeginFlushStep g route i c x) step.others step in let sends = s.begins.sends in
      let takes = sends.call.takes in
      whole step.others (λ told. let was = logged (takes.keeps.told_before told) in
      logged-on was (_, takes.told told) refl (submits_meta-followed was.followed sends (takes.told told)))

  wear-logged : {route : Route} → WearStep route i c c' → IsLogged g c'
  wear-logged {route} step = let s = subst (λ x. WearStep route i c x) step.others step in
      whole step.others (λ told. let was = logged told in logged-here was refl refl (ends_flush-followed was.followed s.wears.ends))

  put-logged : PutStep g i c c' → IsLogged g c'
  put-logged step = let s = subst (λ x. PutStep g i c x) step.others step in let sends = s.puts.sends in let takes = sends.call.takes in
      whole step.others (λ told. let was = logged (takes.keeps.told_before told) in
      logged-on was (_, takes.told told) refl (submits_meta-followed was.followed sends (takes.told told)))

  sync-logged : SyncStep g i c c' → IsLogged g c'
  sync-logged step = let s = subst (λ x. SyncStep g i c x) step.others step in let sends = s.syncs.sends in let takes = sends.call.takes in
      whole step.others (λ told. let was = logged (takes.keeps.told_before told) in
      logged-on was (_, takes.told told) refl (submits_meta-followed was.followed sends (takes.told told)))

  settle_meta-logged : {answer : Settled} → SettleMetaStep g answer i c c' → IsLogged g c'
  settle_meta-logged {answer} step = let s = subst (λ x. SettleMetaStep g answer i c x) step.others step in let settles = s.settles.settles in
      let call = settles.call in
      whole step.others (λ told. let was = logged (call.takes.keeps.told_before told) in logged-on was (_, call.takes.told told) refl
      (meta_settled-followed sound.coherent was.followed settles (record { grows = call.takes.told told; gives = call.gives told })))

  seal-logged : SealStep i c c' → IsLogged g c'
  seal-logged step = let s = subst (λ x. SealStep i c x) step.others step in
      whole step.others (λ told. let was = logged told in logged-here was refl refl (ends_flush-followed was.followed s.seals.ends))

  pub step-logged : IsStep g h i c c' → g.tells c'.store → LogAgrees g c'
  step-logged (By_refusal same) = still-logged logged same
  step-logged (By_ask result request step) = ask-logged step
  step-logged (By_reply answer step) = reply-logged step
  step-logged (By_enter step) = enter-logged step
  step-logged (By_fetch step) = fetch-logged step
  step-logged (By_settle_fetch answer step) = settle_fetch-logged step
  step-logged (By_issue content step) = issue-logged step
  step-logged (By_settle_issue answer step) = settle_issue-logged step
  step-logged (By_store_look step) = store_look-logged step
  step-logged (By_base_look step) = base_look-logged step
  step-logged (By_zeros out out' step) = zeros-logged step
  step-logged (By_settle_store_look answer out out' step) = settle_store_look-logged step
  step-logged (By_settle_base_look answer out out' step) = settle_base_look-logged step
  step-logged (By_begin_flush route step) = begin_flush-logged step
  step-logged (By_wear route step) = wear-logged step
  step-logged (By_put step) = put-logged step
  step-logged (By_sync step) = sync-logged step
  step-logged (By_settle_meta answer step) = settle_meta-logged step
  step-logged (By_seal step) = seal-logged step
  step-logged (By_adopt step) = adopt-logged logged step
