-- Each step of a core keeps what holds between its passes, its history and its devices.
use Rattle.std.proofs.Common.{ℕ, ◌∙◌, ap, sym, inl, inr}
use Rattle.vd_device.specs.declared.store.Store as store
use Rattle.vd_device.specs.declared.base.Base as base
use Rattle.vd_device.specs.Stores.{KeepsStore}
use Rattle.vd_device.specs.Bases.{KeepsBase}
use Rattle.vd_device.proofs.Keeping.{keeps-on, base-keeps-on}
use Rattle.vd_passes.specs.Coherent.{IsCoherent}
use Rattle.vd_machine.specs.Views.{View, Fixed, view_requests, view_places}
use Rattle.vd_machine.specs.Steps.{IsStep, By_refusal, By_ask, By_reply, By_enter, By_fetch, By_settle_fetch, By_issue, By_settle_issue, By_store_look, By_base_look, By_zeros, By_settle_store_look, By_settle_base_look, By_begin_flush, By_wear, By_put, By_sync, By_settle_meta, By_seal, By_adopt}
use Rattle.vd_machine.specs.Sound.{IsSince, RoomIsReserved, IsStorage, IsSound}
use Rattle.vd_machine.specs.Telling.{IsFaithfullyKept}
use Rattle.vd_legal.proofs.Onward.{step-fixed, step-keeps, step-keeps-base, step-framed, step-same-history}
use Rattle.vd_legal.proofs.Framing.{framed, storage-same, stands-coherent, stands-room, stands-told}
use Rattle.vd_legal.proofs.Asking.{ask-coherent, ask-room, ask-storage, ask-told}
use Rattle.vd_legal.proofs.Replying.{reply-coherent, reply-room, reply-told}
use Rattle.vd_legal.proofs.Entering.{enter-coherent, enter-room, enter-told}
use Rattle.vd_legal.proofs.Fetching.{fetch-coherent, fetch-room, fetch-told, settle_fetch-coherent, settle_fetch-room, settle_fetch-told}
use Rattle.vd_legal.proofs.Issuing.{issue-coherent, issue-room, issue-told}
use Rattle.vd_legal.proofs.Settling.{settle_issue-coherent, settle_issue-room, settle_issue-told}
use Rattle.vd_legal.proofs.Looking.{look-coherent, look-room, look-told, base_look-coherent, base_look-room, base_look-told, zeros-coherent, zeros-room, zeros-told}
use Rattle.vd_legal.proofs.Seeing.{settle_look-coherent, settle_look-room, settle_look-told, settle_base_look-coherent, settle_base_look-room, settle_base_look-told}
use Rattle.vd_legal.proofs.Flushing.{submit-coherent, submit-room, submit-told, settle_meta-coherent, settle_meta-room, settle_meta-told, end-coherent, end-room, end-told}

module _ {S B : Type 0} {g : store.Ghosts S} {h : base.Ghosts B} {i : ℕ} {c c' : View S B} where
  coherent-step : IsStep g h i c c' → IsSound g h c → IsCoherent g h (view_requests c') (view_places c') c'.store c'.base
  coherent-step (By_refusal s) was = stands-coherent s was
  coherent-step (By_ask result request s) was = ask-coherent was s
  coherent-step (By_reply answer s) was = reply-coherent was s
  coherent-step (By_enter s) was = enter-coherent was s
  coherent-step (By_fetch s) was = fetch-coherent was s
  coherent-step (By_settle_fetch answer s) was = settle_fetch-coherent was s
  coherent-step (By_issue content s) was = issue-coherent was s
  coherent-step (By_settle_issue answer s) was = settle_issue-coherent was s
  coherent-step (By_store_look s) was = look-coherent was s
  coherent-step (By_base_look s) was = base_look-coherent was s
  coherent-step (By_zeros out out' s) was = zeros-coherent was s
  coherent-step (By_settle_store_look answer out out' s) was = settle_look-coherent was s
  coherent-step (By_settle_base_look answer out out' s) was = settle_base_look-coherent was s
  coherent-step (By_begin_flush route s) was = submit-coherent was (framed c s.others) (ap (λ v. v.spare) s.others) (ap (λ v. v.history) s.others)
      (ap (λ v. v.base) s.others) s.keeps s.begins.sends
  coherent-step (By_wear route s) was = end-coherent was (framed c s.others) (ap (λ v. v.spare) s.others) (ap (λ v. v.history) s.others)
      (ap (λ v. v.base) s.others) (ap (λ v. v.store) s.others) s.wears.ends
  coherent-step (By_put s) was = submit-coherent was (framed c s.others) (ap (λ v. v.spare) s.others) (ap (λ v. v.history) s.others)
      (ap (λ v. v.base) s.others) s.keeps s.puts.sends
  coherent-step (By_sync s) was = submit-coherent was (framed c s.others) (ap (λ v. v.spare) s.others) (ap (λ v. v.history) s.others)
      (ap (λ v. v.base) s.others) s.keeps s.syncs.sends
  coherent-step (By_settle_meta answer s) was = settle_meta-coherent was (framed c s.others) (ap (λ v. v.spare) s.others) (ap (λ v. v.history) s.others)
      (ap (λ v. v.base) s.others) s.keeps s.settles.settles
  coherent-step (By_seal s) was = end-coherent was (framed c s.others) (ap (λ v. v.spare) s.others) (ap (λ v. v.history) s.others) (ap (λ v. v.base) s.others)
      (ap (λ v. v.store) s.others) s.seals.ends
  coherent-step (By_adopt s) was = stands-coherent s.others was

  room-step : IsStep g h i c c' → IsSound g h c → RoomIsReserved g c'
  room-step (By_refusal s) was = stands-room s was.roomy
  room-step (By_ask result request s) was = ask-room was s
  room-step (By_reply answer s) was = reply-room was s
  room-step (By_enter s) was = enter-room was s
  room-step (By_fetch s) was = fetch-room was s
  room-step (By_settle_fetch answer s) was = settle_fetch-room was s
  room-step (By_issue content s) was = issue-room was s
  room-step (By_settle_issue answer s) was = settle_issue-room was s
  room-step (By_store_look s) was = look-room was s
  room-step (By_base_look s) was = base_look-room was s
  room-step (By_zeros out out' s) was = zeros-room was s
  room-step (By_settle_store_look answer out out' s) was = settle_look-room was s
  room-step (By_settle_base_look answer out out' s) was = settle_base_look-room was s
  room-step (By_begin_flush route s) was = submit-room was (framed c s.others) (ap (λ v. v.spare) s.others) (ap (λ v. v.history) s.others)
      (ap (λ v. v.base) s.others) s.keeps s.begins.sends
  room-step (By_wear route s) was = end-room was (framed c s.others) (ap (λ v. v.spare) s.others) (ap (λ v. v.history) s.others) (ap (λ v. v.base) s.others)
      (ap (λ v. v.store) s.others) s.wears.ends
  room-step (By_put s) was = submit-room was (framed c s.others) (ap (λ v. v.spare) s.others) (ap (λ v. v.history) s.others)
      (ap (λ v. v.base) s.others) s.keeps s.puts.sends
  room-step (By_sync s) was = submit-room was (framed c s.others) (ap (λ v. v.spare) s.others) (ap (λ v. v.history) s.others)
      (ap (λ v. v.base) s.others) s.keeps s.syncs.sends
  room-step (By_settle_meta answer s) was = settle_meta-room was (framed c s.others) (ap (λ v. v.spare) s.others) (ap (λ v. v.history) s.others)
      (ap (λ v. v.base) s.others) s.keeps s.settles.settles
  room-step (By_seal s) was = end-room was (framed c s.others) (ap (λ v. v.spare) s.others) (ap (λ v. v.history) s.others) (ap (λ v. v.base) s.others)
      (ap (λ v. v.store) s.others) s.seals.ends
  room-step (By_adopt s) was = stands-room s.others was.roomy

  told-step : IsStep g h i c c' → IsSound g h c → IsFaithfullyKept g h c → g.tells c'.store → h.tells c'.base → IsFaithfullyKept g h c'
  told-step (By_refusal s) was told t b = stands-told s told
  told-step (By_ask result request s) was told t b = ask-told was s told t b
  told-step (By_reply answer s) was told t b = reply-told was s told t b
  told-step (By_enter s) was told t b = enter-told was s told t b
  told-step (By_fetch s) was told t b = fetch-told was s told t b
  told-step (By_settle_fetch answer s) was told t b = settle_fetch-told was s told t b
  told-step (By_issue content s) was told t b = issue-told was s told t b
  told-step (By_settle_issue answer s) was told t b = settle_issue-told was s told t b
  told-step (By_store_look s) was told t b = look-told was s told t b
  told-step (By_base_look s) was told t b = base_look-told was s told t b
  told-step (By_zeros out out' s) was told t b = zeros-told was s told t b
  told-step (By_settle_store_look answer out out' s) was told t b = settle_look-told was s told t b
  told-step (By_settle_base_look answer out out' s) was told t b = settle_base_look-told was s told t b
  told-step (By_begin_flush route s) was told t b = submit-told was (framed c s.others) (ap (λ v. v.spare) s.others) (ap (λ v. v.history) s.others)
      (ap (λ v. v.base) s.others) s.keeps s.begins.sends told t b
  told-step (By_wear route s) was told t b = end-told was (framed c s.others) (ap (λ v. v.spare) s.others) (ap (λ v. v.history) s.others)
      (ap (λ v. v.base) s.others) (ap (λ v. v.store) s.others) s.wears.ends told t b
  told-step (By_put s) was told t b = submit-told was (framed c s.others) (ap (λ v. v.spare) s.others) (ap (λ v. v.history) s.others)
      (ap (λ v. v.base) s.others) s.keeps s.puts.sends told t b
  told-step (By_sync s) was told t b = submit-told was (framed c s.others) (ap (λ v. v.spare) s.others) (ap (λ v. v.history) s.others)
      (ap (λ v. v.base) s.others) s.keeps s.syncs.sends told t b
  told-step (By_settle_meta answer s) was told t b = settle_meta-told was (framed c s.others) (ap (λ v. v.spare) s.others) (ap (λ v. v.history) s.others)
      (ap (λ v. v.base) s.others) s.keeps s.settles.settles told t b
  told-step (By_seal s) was told t b = end-told was (framed c s.others) (ap (λ v. v.spare) s.others) (ap (λ v. v.history) s.others) (ap (λ v. v.base) s.others)
      (ap (λ v. v.store) s.others) s.seals.ends told t b
  told-step (By_adopt s) was told t b = stands-told s.others told

module _ {S B : Type 0} {g : store.Ghosts S} {h : base.Ghosts B} {i : ℕ} {c c' : View S B} (step : IsStep g h i c c') (was : IsSound g h c) where
  keeps : KeepsStore g c.store c'.store
  keeps = step-keeps step was.since.store.telling.state

  keeps-base : KeepsBase h c.base c'.base
  keeps-base = step-keeps-base step

  pub since-kept : IsSince g h c'
  since-kept = let fixed = step-fixed step in let history = step-same-history step in record {
    store = rw fixed (keeps-on g c.fixed.store c.store c'.store was.since.store keeps);
    base = rw fixed (base-keeps-on h c.fixed.base c.base c'.base was.since.base keeps-base);
    opened = history.0 ∙ was.since.opened ∙ sym (ap (λ (f : Fixed S B). g.events f.store) fixed);
    room = history.1 ∙ was.since.room ∙ sym (ap (λ (f : Fixed S B). f.room) fixed);
  }

  pub coherent-kept : IsCoherent g h (view_requests c') (view_places c') c'.store c'.base
  coherent-kept = coherent-step step was

  pub room-kept : RoomIsReserved g c'
  room-kept = room-step step was

  pub storage-kept : IsStorage g c'
  storage-kept = elim (step-framed step) [ inl f ↦ storage-same f keeps.counts.sectors was.storage | inr ask ↦ ask-storage was ask.2 ]

  pub faithful-kept : (g.tells c.store → h.tells c.base → IsFaithfullyKept g h c) → g.tells c'.store → h.tells c'.base → IsFaithfullyKept g h c'
  faithful-kept told t b = told-step step was (told (keeps.telling.told_before t) (keeps-base.telling.told_before b)) t b
