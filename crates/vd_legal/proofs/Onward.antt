-- What every step leaves of a core: what never changes, its shape, and its devices, which go on.
use Rattle.std.proofs.Common.{◌≡◌, ◌⊎◌, ℕ, ap, subst, sym, inl, inr, Option}
use Rattle.vd_device.specs.declared.store.Store as store
use Rattle.vd_device.specs.declared.base.Base as base
use Rattle.vd_device.specs.Stores.{IsTold, KeepsStore}
use Rattle.vd_device.specs.Bases.{KeepsBase}
use Rattle.vd_device.proofs.Keeping.{keeps-same, base-keeps-same}
use Rattle.vd_law.specs.declared.entry.Answer.{Answer}
use Rattle.vd_law.specs.Entries.{Asked}
use Rattle.vd_law.specs.Histories.{HistoryState}
use Rattle.vd_machine.specs.Asking.{AskState, AskEnds}
use Rattle.vd_machine.specs.AskSteps.{AskStep}
use Rattle.vd_machine.specs.Views.{View, one_step_more}
use Rattle.vd_legal.proofs.Framing.{IsFramed, framed}
use Rattle.vd_machine.specs.Steps.{IsStep, By_refusal, By_ask, By_reply, By_enter, By_fetch, By_settle_fetch, By_issue, By_settle_issue, By_store_look, By_base_look, By_zeros, By_settle_store_look, By_settle_base_look, By_begin_flush, By_wear, By_put, By_sync, By_settle_meta, By_seal, By_adopt}

-- the history has the room that it had, and the number of events from which it goes
abbrev pub IsSameHistory : HistoryState → HistoryState → Type 0
IsSameHistory history history' = (history'.opened ≡ history.opened) × (history'.log.room ≡ history.log.room)

stood-same : {history history' : HistoryState} → history' ≡ history → IsSameHistory history history'
stood-same same = (ap (λ (x : HistoryState). x.opened) same, ap (λ (x : HistoryState). x.log.room) same)

asked-same : {result : Option Answer} {request : Asked} {events i : ℕ} {a a' : AskState} → AskEnds result request events i a a'
    → IsSameHistory a.history a'.history
asked-same ends = elim ends [
  | inl none ↦ stood-same none.2.history_same
  | inr more ↦ elim more [ inl full ↦ (full.3.extends.opened, full.3.extends.room) | inr asked ↦ (asked.1.extends.opened, asked.1.extends.room) ]
]

store-same : {S : Type 0} (g : store.Ghosts S) {s s' : S} → s' ≡ s → IsTold g s → KeepsStore g s s'
store-same {S} g {s} same told = subst (λ (x : S). KeepsStore g s x) (sym same) (keeps-same g s told)

base-same : {B : Type 0} (h : base.Ghosts B) {b b' : B} → b' ≡ b → KeepsBase h b b'
base-same {B} h {b} same = subst (λ (x : B). KeepsBase h b x) (sym same) (base-keeps-same h b)

module _ {S B : Type 0} {g : store.Ghosts S} {h : base.Ghosts B} {i : ℕ} {c c' : View S B} where
  pub step-fixed : IsStep g h i c c' → c'.fixed ≡ c.fixed
  step-fixed (By_refusal s) = ap (λ v. v.fixed) s
  step-fixed (By_ask result request s) = ap (λ v. v.fixed) s.others
  step-fixed (By_reply answer s) = ap (λ v. v.fixed) s.others
  step-fixed (By_enter s) = ap (λ v. v.fixed) s.others
  step-fixed (By_fetch s) = ap (λ v. v.fixed) s.others
  step-fixed (By_settle_fetch answer s) = ap (λ v. v.fixed) s.others
  step-fixed (By_issue content s) = ap (λ v. v.fixed) s.others
  step-fixed (By_settle_issue answer s) = ap (λ v. v.fixed) s.others
  step-fixed (By_store_look s) = ap (λ v. v.fixed) s.others
  step-fixed (By_base_look s) = ap (λ v. v.fixed) s.others
  step-fixed (By_zeros out out' s) = ap (λ v. v.fixed) s.others
  step-fixed (By_settle_store_look answer out out' s) = ap (λ v. v.fixed) s.others
  step-fixed (By_settle_base_look answer out out' s) = ap (λ v. v.fixed) s.others
  step-fixed (By_begin_flush route s) = ap (λ v. v.fixed) s.others
  step-fixed (By_wear route s) = ap (λ v. v.fixed) s.others
  step-fixed (By_put s) = ap (λ v. v.fixed) s.others
  step-fixed (By_sync s) = ap (λ v. v.fixed) s.others
  step-fixed (By_settle_meta answer s) = ap (λ v. v.fixed) s.others
  step-fixed (By_seal s) = ap (λ v. v.fixed) s.others
  step-fixed (By_adopt s) = ap (λ v. v.fixed) s.others

  pub step-shape : IsStep g h i c c' → c'.shape ≡ c.shape
  step-shape (By_refusal s) = ap (λ v. v.shape) s
  step-shape (By_ask result request s) = ap (λ v. v.shape) s.others
  step-shape (By_reply answer s) = ap (λ v. v.shape) s.others
  step-shape (By_enter s) = ap (λ v. v.shape) s.others
  step-shape (By_fetch s) = ap (λ v. v.shape) s.others
  step-shape (By_settle_fetch answer s) = ap (λ v. v.shape) s.others
  step-shape (By_issue content s) = ap (λ v. v.shape) s.others
  step-shape (By_settle_issue answer s) = ap (λ v. v.shape) s.others
  step-shape (By_store_look s) = ap (λ v. v.shape) s.others
  step-shape (By_base_look s) = ap (λ v. v.shape) s.others
  step-shape (By_zeros out out' s) = ap (λ v. v.shape) s.others
  step-shape (By_settle_store_look answer out out' s) = ap (λ v. v.shape) s.others
  step-shape (By_settle_base_look answer out out' s) = ap (λ v. v.shape) s.others
  step-shape (By_begin_flush route s) = ap (λ v. v.shape) s.others
  step-shape (By_wear route s) = ap (λ v. v.shape) s.others
  step-shape (By_put s) = ap (λ v. v.shape) s.others
  step-shape (By_sync s) = ap (λ v. v.shape) s.others
  step-shape (By_settle_meta answer s) = ap (λ v. v.shape) s.others
  step-shape (By_seal s) = ap (λ v. v.shape) s.others
  step-shape (By_adopt s) = ap (λ v. v.shape) s.others

  -- each step is counted
  pub step-counted : IsStep g h i c c' → c'.steps ≡ one_step_more c.steps
  step-counted (By_refusal s) = ap (λ v. v.steps) s
  step-counted (By_ask result request s) = ap (λ v. v.steps) s.others
  step-counted (By_reply answer s) = ap (λ v. v.steps) s.others
  step-counted (By_enter s) = ap (λ v. v.steps) s.others
  step-counted (By_fetch s) = ap (λ v. v.steps) s.others
  step-counted (By_settle_fetch answer s) = ap (λ v. v.steps) s.others
  step-counted (By_issue content s) = ap (λ v. v.steps) s.others
  step-counted (By_settle_issue answer s) = ap (λ v. v.steps) s.others
  step-counted (By_store_look s) = ap (λ v. v.steps) s.others
  step-counted (By_base_look s) = ap (λ v. v.steps) s.others
  step-counted (By_zeros out out' s) = ap (λ v. v.steps) s.others
  step-counted (By_settle_store_look answer out out' s) = ap (λ v. v.steps) s.others
  step-counted (By_settle_base_look answer out out' s) = ap (λ v. v.steps) s.others
  step-counted (By_begin_flush route s) = ap (λ v. v.steps) s.others
  step-counted (By_wear route s) = ap (λ v. v.steps) s.others
  step-counted (By_put s) = ap (λ v. v.steps) s.others
  step-counted (By_sync s) = ap (λ v. v.steps) s.others
  step-counted (By_settle_meta answer s) = ap (λ v. v.steps) s.others
  step-counted (By_seal s) = ap (λ v. v.steps) s.others
  step-counted (By_adopt s) = ap (λ v. v.steps) s.others

  pub step-keeps : IsStep g h i c c' → IsTold g c.store → KeepsStore g c.store c'.store
  step-keeps (By_refusal s) told = store-same g (ap (λ v. v.store) s) told
  step-keeps (By_ask result request s) told = store-same g (ap (λ v. v.store) s.others) told
  step-keeps (By_reply answer s) told = store-same g (ap (λ v. v.store) s.others) told
  step-keeps (By_enter s) told = store-same g (ap (λ v. v.store) s.others) told
  step-keeps (By_fetch s) told = store-same g (ap (λ v. v.store) s.others) told
  step-keeps (By_settle_fetch answer s) told = store-same g (ap (λ v. v.store) s.others) told
  step-keeps (By_issue content s) told = s.keeps
  step-keeps (By_settle_issue answer s) told = s.keeps
  step-keeps (By_store_look s) told = s.keeps
  step-keeps (By_base_look s) told = store-same g (ap (λ v. v.store) s.others) told
  step-keeps (By_zeros out out' s) told = store-same g (ap (λ v. v.store) s.others) told
  step-keeps (By_settle_store_look answer out out' s) told = s.keeps
  step-keeps (By_settle_base_look answer out out' s) told = store-same g (ap (λ v. v.store) s.others) told
  step-keeps (By_begin_flush route s) told = s.keeps
  step-keeps (By_wear route s) told = store-same g (ap (λ v. v.store) s.others) told
  step-keeps (By_put s) told = s.keeps
  step-keeps (By_sync s) told = s.keeps
  step-keeps (By_settle_meta answer s) told = s.keeps
  step-keeps (By_seal s) told = store-same g (ap (λ v. v.store) s.others) told
  step-keeps (By_adopt s) told = store-same g (ap (λ v. v.store) s.others) told

  pub step-keeps-base : IsStep g h i c c' → KeepsBase h c.base c'.base
  step-keeps-base (By_refusal s) = base-same h (ap (λ v. v.base) s)
  step-keeps-base (By_ask result request s) = base-same h (ap (λ v. v.base) s.others)
  step-keeps-base (By_reply answer s) = base-same h (ap (λ v. v.base) s.others)
  step-keeps-base (By_enter s) = base-same h (ap (λ v. v.base) s.others)
  step-keeps-base (By_fetch s) = s.keeps
  step-keeps-base (By_settle_fetch answer s) = s.keeps
  step-keeps-base (By_issue content s) = base-same h (ap (λ v. v.base) s.others)
  step-keeps-base (By_settle_issue answer s) = base-same h (ap (λ v. v.base) s.others)
  step-keeps-base (By_store_look s) = base-same h (ap (λ v. v.base) s.others)
  step-keeps-base (By_base_look s) = s.keeps
  step-keeps-base (By_zeros out out' s) = base-same h (ap (λ v. v.base) s.others)
  step-keeps-base (By_settle_store_look answer out out' s) = base-same h (ap (λ v. v.base) s.others)
  step-keeps-base (By_settle_base_look answer out out' s) = s.keeps
  step-keeps-base (By_begin_flush route s) = base-same h (ap (λ v. v.base) s.others)
  step-keeps-base (By_wear route s) = base-same h (ap (λ v. v.base) s.others)
  step-keeps-base (By_put s) = base-same h (ap (λ v. v.base) s.others)
  step-keeps-base (By_sync s) = base-same h (ap (λ v. v.base) s.others)
  step-keeps-base (By_settle_meta answer s) = base-same h (ap (λ v. v.base) s.others)
  step-keeps-base (By_seal s) = base-same h (ap (λ v. v.base) s.others)
  step-keeps-base (By_adopt s) = base-same h (ap (λ v. v.base) s.others)

  -- nothing but an ask changes the table
  pub step-framed : IsStep g h i c c' → IsFramed c c' ⊎ ((result : Option Answer) × (request : Asked) × AskStep g result request i c c')
  step-framed (By_refusal s) = inl (framed c s)
  step-framed (By_ask result request s) = inr (result, request, s)
  step-framed (By_reply answer s) = inl (framed c s.others)
  step-framed (By_enter s) = inl (framed c s.others)
  step-framed (By_fetch s) = inl (framed c s.others)
  step-framed (By_settle_fetch answer s) = inl (framed c s.others)
  step-framed (By_issue content s) = inl (framed c s.others)
  step-framed (By_settle_issue answer s) = inl (framed c s.others)
  step-framed (By_store_look s) = inl (framed c s.others)
  step-framed (By_base_look s) = inl (framed c s.others)
  step-framed (By_zeros out out' s) = inl (framed c s.others)
  step-framed (By_settle_store_look answer out out' s) = inl (framed c s.others)
  step-framed (By_settle_base_look answer out out' s) = inl (framed c s.others)
  step-framed (By_begin_flush route s) = inl (framed c s.others)
  step-framed (By_wear route s) = inl (framed c s.others)
  step-framed (By_put s) = inl (framed c s.others)
  step-framed (By_sync s) = inl (framed c s.others)
  step-framed (By_settle_meta answer s) = inl (framed c s.others)
  step-framed (By_seal s) = inl (framed c s.others)
  step-framed (By_adopt s) = inl (framed c s.others)

  -- the history stays the one that was opened
  pub step-same-history : IsStep g h i c c' → IsSameHistory c.history c'.history
  step-same-history (By_refusal s) = stood-same (ap (λ v. v.history) s)
  step-same-history (By_ask result request s) = asked-same s.ends
  step-same-history (By_reply answer s) = (s.extends.opened, s.extends.room)
  step-same-history (By_enter s) = stood-same (ap (λ v. v.history) s.others)
  step-same-history (By_fetch s) = stood-same (ap (λ v. v.history) s.others)
  step-same-history (By_settle_fetch answer s) = stood-same (ap (λ v. v.history) s.others)
  step-same-history (By_issue content s) = (s.extends.2.opened, s.extends.2.room)
  step-same-history (By_settle_issue answer s) = (s.extends.opened, s.extends.room)
  step-same-history (By_store_look s) = stood-same (ap (λ v. v.history) s.others)
  step-same-history (By_base_look s) = stood-same (ap (λ v. v.history) s.others)
  step-same-history (By_zeros out out' s) = (s.extends.2.opened, s.extends.2.room)
  step-same-history (By_settle_store_look answer out out' s) = (s.extends.2.opened, s.extends.2.room)
  step-same-history (By_settle_base_look answer out out' s) = (s.extends.2.opened, s.extends.2.room)
  step-same-history (By_begin_flush route s) = stood-same (ap (λ v. v.history) s.others)
  step-same-history (By_wear route s) = stood-same (ap (λ v. v.history) s.others)
  step-same-history (By_put s) = stood-same (ap (λ v. v.history) s.others)
  step-same-history (By_sync s) = stood-same (ap (λ v. v.history) s.others)
  step-same-history (By_settle_meta answer s) = stood-same (ap (λ v. v.history) s.others)
  step-same-history (By_seal s) = stood-same (ap (λ v. v.history) s.others)
  step-same-history (By_adopt s) = stood-same (ap (λ v. v.history) s.others)
