-- Each step of a core accounts for what it answers.
use Rattle.std.proofs.Common.{◌≡◌, ℕ, ◌+◌, ◌≤◌, List, [], replicate, length, refl, sym, subst, ap, ◌∙◌, inl, inr, arith, Option, None, Some, slice_get}
use Rattle.std.specs.Prelude.{◌↔◌}
use Rattle.vd_law.specs.declared.entry.Sector.{Sector}
use Rattle.vd_law.specs.declared.entry.Answer.{Answer}
use Rattle.vd_law.specs.declared.entry.Room.{Room}
use Rattle.vd_law.specs.Entries.{Asked}
use Rattle.vd_law.specs.Histories.{HistoryState}
use Rattle.vd_device.specs.declared.store.Store as store
use Rattle.vd_device.specs.declared.base.Base as base
use Rattle.vd_device.specs.declared.settled.Settled.{Settled}
use Rattle.vd_format.specs.declared.map.Entry.{Entry as MapEntry}
use Rattle.vd_table.specs.Tables.{TableState}
use Rattle.vd_keeper.specs.declared.stage.Route.{Route}
use Rattle.vd_keeper.specs.Keeping.{KeeperState}
use Rattle.vd_passes.specs.declared.pass.Pass.{Pass}
use Rattle.vd_passes.specs.declared.pass.Phase.TheVariants.{Held}
use Rattle.vd_passes.specs.declared.pass.Fault.{Fault}
use Rattle.vd_passes.specs.Passes.{IsNew, after_enter, after_fetch, after_filled, after_look, after_base_look, after_meta, after_flush}
use Rattle.vd_passes.specs.Requests.{RequestState, requests, with_pass}
use Rattle.vd_passes.specs.Steps.{IsAt, SubmitsMeta, EndsFlush, after_base_read, meta_settled}
use Rattle.vd_passes.specs.Causes.{OfStore, OfBase, HasNextTicket, FaultsAddUp}
use Rattle.vd_passes.proofs.Blaming.{new-blamed}
use Rattle.vd_passes.proofs.BlamingSteps.{enters-blamed, fetches-blamed, fetches-store_blamed, fills-blamed, fills-store_blamed, fetch_settled-blamed, fetch_settled-store_blamed, issues-blamed, issues-base_blamed, write_settled-blamed, write_settled-base_blamed, looks-blamed, looks-base_blamed, base_looks-blamed, base_looks-store_blamed, sees_zeros-blamed, look_settled-blamed, look_settled-base_blamed, base_look_settled-blamed, base_look_settled-store_blamed, replies-blamed, asks-blamed, asks_full-blamed}
use Rattle.vd_passes.proofs.FlushingAccounts.{submits_meta-blamed, submits_meta-base_blamed, meta_settled-blamed, meta_settled-base_blamed, ends_flush-blamed}
use Rattle.vd_passes.proofs.Answered.{none-of-passes, set-of-passes, issues-of-passes, write_settled-of-passes, sees-of-passes, look_settled-of-passes, base_look_settled-of-passes, replies-of-passes, asks-of-passes, asks_full-of-passes}
use Rattle.vd_machine.specs.Asking.{ask_state, AskEnds, run_from, run_count}
use Rattle.vd_machine.specs.Fetching.{FetchesBlock}
use Rattle.vd_machine.specs.Views.{View, StandsStill, view_requests, ask_state_of}
use Rattle.vd_machine.specs.Steps.{IsStep, By_refusal, By_ask, By_reply, By_enter, By_fetch, By_settle_fetch, By_issue, By_settle_issue, By_store_look, By_base_look, By_zeros, By_settle_store_look, By_settle_base_look, By_begin_flush, By_wear, By_put, By_sync, By_settle_meta, By_seal, By_adopt}
use Rattle.vd_machine.specs.Sound.{IsSound}
use Rattle.vd_machine.specs.AskSteps.{AskStep, ReplyStep}
use Rattle.vd_machine.specs.WriteSteps.{EnterStep, FetchStep, SettleFetchStep, IssueStep, SettleIssueStep}
use Rattle.vd_machine.specs.ReadSteps.{StoreLookStep, BaseLookStep, ZerosStep, SettleStoreLookStep, SettleBaseLookStep}
use Rattle.vd_machine.specs.FlushSteps.{BeginFlushStep, WearStep, PutStep, SyncStep, SettleMetaStep, SealStep, AdoptStep}
use Rattle.vd_machine.proofs.Claiming.{run-inside}
use Rattle.vd_format.specs.Background.{zero_sector}
use Rattle.vd_causes.specs.Local.{AreLocalBy}
use Rattle.vd_causes.specs.Wearing.{RisesAddUp}
use Rattle.vd_causes.specs.Accounts.{IsAccounted}
use Rattle.vd_causes.proofs.LocalSteps.{ask_ends-local, issues-local, write_settled-local, sees-local, look_settled-local, base_look_settled-local, replies-local}
use Rattle.vd_causes.proofs.Storing.{new-stored}
use Rattle.vd_causes.proofs.StoringSteps.{ask_ends-stored, issues-stored, write_settled-stored, sees-stored, look_settled-stored, base_look_settled-stored, replies-stored}
use Rattle.vd_causes.proofs.WearingSteps.{enters-worn, fills-worn, asks-worn, asks_full-worn, looks-worn, issues-worn, fetches-worn, base_looks-worn, sees_zeros-worn, look_settled-worn, write_settled-worn, base_look_settled-worn, fetch_settled-worn, replies-worn}
use Rattle.vd_causes.proofs.WearingFlushes.{write-header, begin-worn, put-worn, settled-worn, sync-worn, worn-worn, seal-worn, adopt-worn, new-worn}

-- A core in which nothing was asked has nothing to account for.
pub opened-accounted : {S B : Type 0} {g : store.Ghosts S} {h : base.Ghosts B} (c : View S B) (buffer : List Sector)
    → ((i : ℕ) (p : Pass) → slice_get c.passes i ≡ Some p → IsNew buffer p) → c.history.log.entries ≡ []
    → ((n : ℕ) (e : MapEntry) → slice_get c.fixed.entries n ≡ Some e → (slice_get c.table.chunks n ≡ Some None) ↔ (e.storage ≡ 0))
    → length c.fixed.entries ≡ length c.table.chunks
    → AreLocalBy c.shape c.fixed.entries c.fresh [] → c.keeping.header ≡ c.fixed.header → g.faults c.fixed.store ≡ g.faults c.store
    → h.faults c.fixed.base ≡ h.faults c.base → IsAccounted g h c
opened-accounted c buffer new none given many local same now base_now = record {
  of_store = rw (none, now) (new-blamed buffer new);
  of_base = rw (none, base_now) (new-blamed buffer new);
  stored = rw none (new-stored c.shape c.fixed.entries c.table given many);
  worn = rw (sym same) (new-worn none (λ i p there. (new i p there).phase));
  local = rw none local;
  of_passes = rw none (none-of-passes c.passes);
}

-- A step that changes one pass and adds no entry.
module _ {S B : Type 0} {g : store.Ghosts S} {h : base.Ghosts B} {c : View S B} (was : IsAccounted g h c)
    {s : S} {b : B} {k : KeeperState} {flusher : Option ℕ} {passes : List Pass} {steps : ℕ} where
  pass-accounted : (i : ℕ) (p' : Pass) → requests c.shape c.fresh passes c.history.log.entries ≡ with_pass i p' (view_requests c)
      → FaultsAddUp OfStore passes c.history.log.entries (g.last s) (g.faults c.fixed.store) (g.faults s)
      → FaultsAddUp OfBase passes c.history.log.entries (h.last b) (h.faults c.fixed.base) (h.faults b)
      → RisesAddUp c.fixed.header.generation k (requests c.shape c.fresh passes c.history.log.entries)
      → IsAccounted g h (record c { store = s; base = b; keeping = k; flusher = flusher; passes = passes; steps = steps })
  pass-accounted i p' after of_store of_base worn = record {
    of_store = of_store;
    of_base = of_base;
    stored = was.stored;
    worn = worn;
    local = was.local;
    of_passes = set-of-passes i p' (ap (λ (r : RequestState). r.passes) after) was.of_passes;
  }

-- Its cases: a call of a flush is submitted, or settled, or the flush is over.
module _ {S B : Type 0} {g : store.Ghosts S} {h : base.Ghosts B} {c : View S B} (was : IsAccounted g h c)
    {i : ℕ} {k : KeeperState} {flusher : Option ℕ} {passes : List Pass} {steps : ℕ} where
  submitted : {content : List Sector} {s : S} → SubmitsMeta g content i (view_requests c) (requests c.shape c.fresh passes c.history.log.entries) c.store s
      → IsAt passes i (HasNextTicket OfStore (g.last c.store) (g.last s))
      → RisesAddUp c.fixed.header.generation k (requests c.shape c.fresh passes c.history.log.entries)
      → IsAccounted g h (record c { store = s; keeping = k; flusher = flusher; passes = passes; steps = steps })
  submitted step number worn = pass-accounted was i (after_meta step.pass step.ticket) step.after
      (submits_meta-blamed step was.of_store number step.call.counts.faults) (submits_meta-base_blamed step was.of_base) worn

  ended : {why : Option Fault} → EndsFlush why i (view_requests c) (requests c.shape c.fresh passes c.history.log.entries)
      → RisesAddUp c.fixed.header.generation k (requests c.shape c.fresh passes c.history.log.entries)
      → IsAccounted g h (record c { keeping = k; flusher = flusher; passes = passes; steps = steps })
  ended {why} step worn = pass-accounted was i (after_flush step.pass why) step.after (ends_flush-blamed step was.of_store)
      (ends_flush-blamed step was.of_base) worn

-- the base has something of the block, or nothing
fetched : {S B : Type 0} {g : store.Ghosts S} {h : base.Ghosts B} {c : View S B} (was : IsAccounted g h c) {i : ℕ} {b : B} {passes : List Pass} {steps : ℕ}
    → FetchesBlock h i (view_requests c) (requests c.shape c.fresh passes c.history.log.entries) c.base b
    → IsAt passes i (HasNextTicket OfBase (h.last c.base) (h.last b))
    → IsAccounted g h (record c { base = b; passes = passes; steps = steps })
fetched was {i} (inl f) number = let step = f.0 in
    pass-accounted was i (after_fetch step.pass step.ticket) step.after (fetches-store_blamed was.of_store step)
    (fetches-blamed was.of_base step number step.call.keeps.counts.faults) (fetches-worn was.worn step)
fetched {h = h} {c = c} was {i} (inr z) number = let step = z.0 in let same = ap h.faults z.1 in
    pass-accounted was i (after_filled step.pass (replicate c.shape.block zero_sector)) step.after (fills-store_blamed was.of_store step)
    (fills-blamed was.of_base step number (omega (arith, same))) (fills-worn was.worn step)

-- However an ask ends.
asked : {S B : Type 0} {g : store.Ghosts S} {h : base.Ghosts B} {c : View S B} → IsSound g h c → IsAccounted g h c
    → {i : ℕ} {result : Option Answer} {request : Asked} {table : TableState} {passes : List Pass} {history : HistoryState} {spare : Room} {steps : ℕ}
    → run_from c.shape request + run_count c.shape request ≤ length c.table.chunks
    → AskEnds result request (g.events c.store) i (ask_state_of c) (ask_state c.shape table passes history spare)
    → IsAccounted g h (record c { table = table; passes = passes; history = history; spare = spare; steps = steps })
asked sound was run (inl none) = let same = none.2 in record {
  of_store = rw (same.passes_same, same.history_same) was.of_store;
  of_base = rw (same.passes_same, same.history_same) was.of_base;
  stored = rw (same.table_same, same.history_same) was.stored;
  worn = rw (same.passes_same, same.history_same) was.worn;
  local = rw same.history_same was.local;
  of_passes = rw (same.passes_same, same.history_same) was.of_passes;
}
asked {g = g} {c = c} sound was {i} {result} {request} {passes = passes} {spare = spare} run (inr (inl full)) = let step = full.3.asks c.fresh in record {
  of_store = asks_full-blamed was.of_store step;
  of_base = asks_full-blamed was.of_base step;
  stored = ask_ends-stored result request passes spare sound.coherent run (inr (inl full)) was.stored;
  worn = asks_full-worn was.worn step;
  local = ask_ends-local i (g.events c.store) result request (inr (inl full)) was.local;
  of_passes = asks_full-of-passes step was.of_passes;
}
asked {g = g} {c = c} sound was {i} {result} {request} {passes = passes} {spare = spare} run (inr (inr done)) = let step = done.1.asks c.fresh in record {
  of_store = asks-blamed was.of_store step;
  of_base = asks-blamed was.of_base step;
  stored = ask_ends-stored result request passes spare sound.coherent run (inr (inr done)) was.stored;
  worn = asks-worn was.worn step;
  local = ask_ends-local i (g.events c.store) result request (inr (inr done)) was.local;
  of_passes = asks-of-passes step was.of_passes;
}

-- the core as its step leaves it is this one
whole : {S B : Type 0} {g : store.Ghosts S} {h : base.Ghosts B} {c c' : View S B} → c ≡ c' → IsAccounted g h c' → IsAccounted g h c
whole {g = g} {h = h} same = subst (λ x. IsAccounted g h x) (sym same)

-- No pass changes.
module _ {S B : Type 0} {g : store.Ghosts S} {h : base.Ghosts B} {c c' : View S B} (was : IsAccounted g h c) where
  still-accounted : StandsStill c c' → IsAccounted g h c'
  still-accounted same = whole same (record {
    of_store = was.of_store;
    of_base = was.of_base;
    stored = was.stored;
    worn = was.worn;
    local = was.local;
    of_passes = was.of_passes;
  })

  adopt-accounted : AdoptStep c c' → IsAccounted g h c'
  adopt-accounted step = whole step.others (record {
    of_store = was.of_store;
    of_base = was.of_base;
    stored = was.stored;
    worn = adopt-worn c.fresh was.worn;
    local = was.local;
    of_passes = was.of_passes;
  })

-- Each step.
module _ {S B : Type 0} {g : store.Ghosts S} {h : base.Ghosts B} {i : ℕ} {c c' : View S B} (sound : IsSound g h c) (was : IsAccounted g h c) where
  ask-accounted : {result : Option Answer} {request : Asked} → AskStep g result request i c c' → IsAccounted g h c'
  ask-accounted {result} {request} step = let s = subst (λ x. AskStep g result request i c x) step.others step in
      let run = run-inside c.shape request (length c.table.chunks) sound.storage.chunks
      sound.coherent.shaped.some sound.coherent.shaped.some_blocks s.size s.inside in
      whole step.others (asked sound was run s.ends)

  reply-accounted : {answer : Answer} → ReplyStep g answer i c c' → IsAccounted g h c'
  reply-accounted {answer} step = let s = subst (λ x. ReplyStep g answer i c x) step.others step in whole step.others (record {
    of_store = replies-blamed was.of_store s.ready s.replies;
    of_base = replies-blamed was.of_base s.ready s.replies;
    stored = replies-stored s.replies was.stored;
    worn = replies-worn sound.coherent was.worn s.ready s.replies;
    local = replies-local s.replies was.local;
    of_passes = replies-of-passes s.replies was.of_passes;
  })

  enter-accounted : EnterStep i c c' → IsAccounted g h c'
  enter-accounted step = let s = subst (λ x. EnterStep i c x) step.others step in let e = s.enters.enters in
      whole step.others (pass-accounted was i (after_enter e.pass e.block e.piece e.at) e.after (enters-blamed was.of_store e) (enters-blamed was.of_base e)
      (enters-worn was.worn e))

  fetch-accounted : FetchStep h i c c' → IsAccounted g h c'
  fetch-accounted step = let s = subst (λ x. FetchStep h i c x) step.others step in whole step.others (fetched was s.fetches s.number)

  settle_fetch-accounted : {answer : Settled} → SettleFetchStep h answer i c c' → IsAccounted g h c'
  settle_fetch-accounted {answer} step = let s = subst (λ x. SettleFetchStep h answer i c x) step.others step in let e = s.settles in
      whole step.others (pass-accounted was i (after_base_read answer e.pass e.ticket c.shape.block e.content) e.after
      (fetch_settled-store_blamed was.of_store e) (fetch_settled-blamed was.of_base e e.call.last (h.late c.base) (h.late c'.base) e.call.cause)
      (fetch_settled-worn sound.coherent was.worn e))

  issue-accounted : {content : List Sector} → IssueStep g content i c c' → IsAccounted g h c'
  issue-accounted {content} step = let s = subst (λ x. IssueStep g content i c x) step.others step in let e = s.issues in
      whole step.others (record {
        of_store = issues-blamed was.of_store e s.number e.call.counts.faults;
        of_base = issues-base_blamed was.of_base e;
        stored = issues-stored e was.stored;
        worn = issues-worn was.worn e;
        local = issues-local e was.local;
        of_passes = issues-of-passes e was.of_passes;
      })

  settle_issue-accounted : {answer : Settled} → SettleIssueStep g answer i c c' → IsAccounted g h c'
  settle_issue-accounted {answer} step = let s = subst (λ x. SettleIssueStep g answer i c x) step.others step in let e = s.settles in
      let header = ap (λ (k : KeeperState). k.header) s.owes.2 ∙ write-header answer s.owes.0.block c.keeping in whole step.others (record {
        of_store = write_settled-blamed sound.coherent was.of_store e (g.late c.store) (g.late c'.store) e.call.cause;
        of_base = write_settled-base_blamed sound.coherent was.of_base e;
        stored = write_settled-stored e was.stored;
        worn = write_settled-worn sound.coherent was.worn header e;
        local = write_settled-local sound.coherent i s.issuing was.local e;
        of_passes = write_settled-of-passes e was.of_passes;
      })

  store_look-accounted : StoreLookStep g i c c' → IsAccounted g h c'
  store_look-accounted step = let s = subst (λ x. StoreLookStep g i c x) step.others step in let e = s.looks in
      whole step.others (pass-accounted was i (after_look e.pass e.ticket) e.after (looks-blamed was.of_store e s.number e.call.counts.faults)
      (looks-base_blamed was.of_base e) (looks-worn was.worn e))

  base_look-accounted : BaseLookStep h i c c' → IsAccounted g h c'
  base_look-accounted step = let s = subst (λ x. BaseLookStep h i c x) step.others step in let e = s.looks in
      whole step.others (pass-accounted was i (after_base_look e.pass e.ticket) e.after (base_looks-store_blamed was.of_store e)
      (base_looks-blamed was.of_base e s.number e.call.keeps.counts.faults) (base_looks-worn was.worn e))

  zeros-accounted : {out out' : List Sector} → ZerosStep g i out out' c c' → IsAccounted g h c'
  zeros-accounted {out} {out'} step = let s = subst (λ x. ZerosStep g i out out' c x) step.others step in let e = s.sees in
      let held : IsAt c.passes i (λ p. p.phase ≡ Held) = (s.reader.0, s.reader.1, s.reader.2.0.0.phase) in whole step.others (record {
        of_store = sees_zeros-blamed sound.coherent was.of_store held e;
        of_base = sees_zeros-blamed sound.coherent was.of_base held e;
        stored = sees-stored e.sees was.stored;
        worn = sees_zeros-worn sound.coherent was.worn held e;
        local = sees-local e.sees was.local;
        of_passes = sees-of-passes e.sees was.of_passes;
      })

  settle_store_look-accounted : {answer : Settled} {out out' : List Sector} → SettleStoreLookStep g answer i out out' c c' → IsAccounted g h c'
  settle_store_look-accounted {answer} {out} {out'} step = let s = subst (λ x. SettleStoreLookStep g answer i out out' c x) step.others step in
      let e = s.settles in
      whole step.others (record {
        of_store = look_settled-blamed sound.coherent was.of_store e (g.late c.store) (g.late c'.store) e.call.cause;
        of_base = look_settled-base_blamed sound.coherent was.of_base e;
        stored = look_settled-stored e was.stored;
        worn = look_settled-worn sound.coherent was.worn e;
        local = look_settled-local e was.local;
        of_passes = look_settled-of-passes e was.of_passes;
      })

  settle_base_look-accounted : {answer : Settled} {out out' : List Sector} → SettleBaseLookStep h g answer i out out' c c' → IsAccounted g h c'
  settle_base_look-accounted {answer} {out} {out'} step = let s = subst (λ x. SettleBaseLookStep h g answer i out out' c x) step.others step in
      let e = s.settles in
      whole step.others (record {
        of_store = base_look_settled-store_blamed sound.coherent was.of_store e;
        of_base = base_look_settled-blamed sound.coherent was.of_base e e.call.last (h.late c.base) (h.late c'.base) e.call.cause;
        stored = base_look_settled-stored e was.stored;
        worn = base_look_settled-worn sound.coherent was.worn e;
        local = base_look_settled-local e was.local;
        of_passes = base_look_settled-of-passes e was.of_passes;
      })

  begin_flush-accounted : {route : Route} → BeginFlushStep g route i c c' → IsAccounted g h c'
  begin_flush-accounted {route} step = let s = subst (λ x. BeginFlushStep g route i c x) step.others step in
      whole step.others (submitted was s.begins.sends s.number (begin-worn was.worn s.begins))

  wear-accounted : {route : Route} → WearStep route i c c' → IsAccounted g h c'
  wear-accounted {route} step = let s = subst (λ x. WearStep route i c x) step.others step in
      whole step.others (ended was s.wears.ends (worn-worn was.worn s.wears))

  put-accounted : PutStep g i c c' → IsAccounted g h c'
  put-accounted step = let s = subst (λ x. PutStep g i c x) step.others step in
      whole step.others (submitted was s.puts.sends s.number (put-worn was.worn s.puts))

  sync-accounted : SyncStep g i c c' → IsAccounted g h c'
  sync-accounted step = let s = subst (λ x. SyncStep g i c x) step.others step in
      whole step.others (submitted was s.syncs.sends s.number (sync-worn {k' = c.keeping} was.worn s.syncs refl))

  settle_meta-accounted : {answer : Settled} → SettleMetaStep g answer i c c' → IsAccounted g h c'
  settle_meta-accounted {answer} step = let s = subst (λ x. SettleMetaStep g answer i c x) step.others step in let e = s.settles.settles in
      whole step.others (pass-accounted was i (meta_settled answer e.pass e.ticket) e.after
      (meta_settled-blamed e was.of_store (g.late c.store) (g.late c'.store) e.call.cause) (meta_settled-base_blamed e was.of_base)
      (settled-worn was.worn s.settles))

  seal-accounted : SealStep i c c' → IsAccounted g h c'
  seal-accounted step = let s = subst (λ x. SealStep i c x) step.others step in whole step.others (ended was s.seals.ends (seal-worn was.worn s.seals))

  pub step-accounted : IsStep g h i c c' → IsAccounted g h c'
  step-accounted (By_refusal same) = still-accounted was same
  step-accounted (By_ask result request step) = ask-accounted step
  step-accounted (By_reply answer step) = reply-accounted step
  step-accounted (By_enter step) = enter-accounted step
  step-accounted (By_fetch step) = fetch-accounted step
  step-accounted (By_settle_fetch answer step) = settle_fetch-accounted step
  step-accounted (By_issue content step) = issue-accounted step
  step-accounted (By_settle_issue answer step) = settle_issue-accounted step
  step-accounted (By_store_look step) = store_look-accounted step
  step-accounted (By_base_look step) = base_look-accounted step
  step-accounted (By_zeros out out' step) = zeros-accounted step
  step-accounted (By_settle_store_look answer out out' step) = settle_store_look-accounted step
  step-accounted (By_settle_base_look answer out out' step) = settle_base_look-accounted step
  step-accounted (By_begin_flush route step) = begin_flush-accounted step
  step-accounted (By_wear route step) = wear-accounted step
  step-accounted (By_put step) = put-accounted step
  step-accounted (By_sync step) = sync-accounted step
  step-accounted (By_settle_meta answer step) = settle_meta-accounted step
  step-accounted (By_seal step) = seal-accounted step
  step-accounted (By_adopt step) = adopt-accounted was step
