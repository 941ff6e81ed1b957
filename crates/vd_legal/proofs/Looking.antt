-- The look at a piece keeps what a core keeps.
use Rattle.std.proofs.Common.{◌≡◌, ℕ, ◌+◌, ◌*◌, ◌≤◌, ◌<◌, Bool, true, false, List, [], ◌∷◌, length, refl, sym, ◌∙◌, ap, subst, arith, replicate, ◌^◌, Some, None, slice_get}
use Rattle.std.proofs.Math.Nat.{mul_comm, le-mul_of_pos_right}
use Rattle.vd_device.specs.declared.store.Store as store
use Rattle.vd_device.specs.declared.base.Base as base
use Rattle.vd_law.specs.declared.entry.Sector.{Sector}
use Rattle.vd_passes.specs.declared.pass.Pass.{Pass}
use Rattle.vd_passes.specs.declared.pass.Phase.TheVariants.{Held}
use Rattle.vd_passes.specs.Laying.{count_below}
use Rattle.vd_passes.specs.Passes.{has_region, HasNone}
use Rattle.vd_passes.specs.Requests.{RequestState}
use Rattle.vd_passes.specs.Steps.{IsAt, CanRead, CanReadBase, Sees, SeesZeros}
use Rattle.vd_passes.proofs.Lists.{some-inj}
use Rattle.vd_passes.proofs.Regions.{region-of, held-ticket}
use Rattle.vd_passes.proofs.Onward.{not-idle}
use Rattle.vd_passes.proofs.Needing.{is_before_event, room-looked, room-base_looked, room-seen}
use Rattle.vd_passes.proofs.Holding.{phase-at}
use Rattle.vd_passes.proofs.Ready.{can-read}
use Rattle.vd_passes.proofs.Fetching.{can-read-base}
use Rattle.vd_passes.proofs.LookingAt.{IsToLook}
use Rattle.vd_passes.proofs.LookSteps.{looks-coherent, looks-faithful, looks_at_base-coherent, looks_at_base-faithful, sees_zeros-coherent, sees_zeros-faithful}
use Rattle.vd_machine.specs.Adding.{CanAdd, AddsEntries}
use Rattle.vd_legal.proofs.Devices.{piece-short, backed}
use Rattle.vd_machine.specs.ReadSteps.{IsReader, StoreLookStep, BaseLookStep, ZerosStep}
use Rattle.vd_legal.proofs.Rooming.{can-add, room-used, room-same}
use Rattle.vd_format.specs.Background.{zero_sector}
use Rattle.vd_machine.specs.Views.{View, view_requests, view_places}
use Rattle.vd_machine.specs.Sound.{RoomIsReserved, IsSound}
use Rattle.vd_machine.specs.Telling.{base_then, IsFaithfullyKept}
use Rattle.vd_legal.proofs.Framing.{framed, in-place, told-by}
use Rattle.vd_passes.specs.Coherent.{IsCoherent}

-- the zeros are those of a piece of which the base has nothing
pub zeros-seen : {i : ℕ} {r r' : RequestState} {out out' : List Sector} → IsAt r.passes i (λ p. count_below r.shape.limit (p.first + p.done) p.piece ≡ 0)
    → IsAt r.passes i (λ p. Sees (replicate p.piece zero_sector) i r r' out out') → SeesZeros i r r' out out'
zeros-seen {r = r} at seen = record {
  pass = seen.0;
  there = seen.1;
  nothing = subst (λ (p : Pass). count_below r.shape.limit (p.first + p.done) p.piece ≡ 0) (some-inj (sym at.1 ∙ seen.1)) at.2;
  sees = seen.2;
}

module _ {S B : Type 0} {g : store.Ghosts S} {h : base.Ghosts B} {c : View S B}
    (kept : IsSound g h c) (i : ℕ) where
  -- a pass that holds its block has its next event, and the sectors of its piece, among its room
  pub has-room-to-see : (p : Pass) → slice_get c.passes i ≡ Some p → has_region p.phase ≡ true → is_before_event p.phase ≡ true → p.write ≡ false
      → CanAdd p.piece c.history (g.events c.store)
  has-room-to-see p there has before read =
      let piece = (kept.coherent.each i p there).piece has in let uses = (room-seen piece (kept.roomy.reserved i p there) before read).1 in
      let a = uses.events_used in let b = uses.sectors_used in
      can-add kept.roomy i p there p.piece (omega arith) (omega arith) (piece-short kept.coherent.shaped.small piece)

  -- the numbers of a pass that holds its block are small
  pub holder-fits : (p : Pass) → slice_get c.passes i ≡ Some p → has_region p.phase ≡ true
      → (p.first + p.done ≤ 2 ^ 26) × (p.block < length c.fresh) × (p.block < 2 ^ 26)
  holder-fits p there has =
      let stands = kept.coherent.each i p there in let shaped = kept.coherent.shaped in let inside = (stands.piece has).in_disk in
      let no_more = (stands.piece has).no_more in
      let range = (stands.range (not-idle p.phase has)).0 in let size = shaped.size in let many = kept.coherent.size in
      let blocks : c.shape.blocks ≤ c.shape.blocks * c.shape.block = le-mul_of_pos_right c.shape.blocks shaped.some in
      let turned = mul_comm c.shape.blocks c.shape.block in
      (omega (arith, no_more, range, size), omega (arith, inside, many), omega (arith, inside, blocks, turned, size))

  pub can-look : IsAt c.passes i (λ p. IsReader p × (slice_get c.fresh p.block ≡ Some true)) → IsAt c.passes i (CanRead g c.shape c.store)
  can-look at = can-read kept.coherent i (at.0, at.1, (at.2.0.phase, at.2.1))

  module _ (local : Bool) (at : IsAt c.passes i (λ p. IsReader p × (slice_get c.fresh p.block ≡ Some local))) where
    to-look : IsAt c.passes i (IsToLook local c.fresh)
    to-look = (at.0, at.1, (at.2.0.phase, at.2.0.write, at.2.1))

    holding : IsAt c.passes i (λ p. has_region p.phase ≡ true)
    holding = phase-at true Held c.passes i refl (at.0, at.1, at.2.0.phase)

    before : (p : Pass) → slice_get c.passes i ≡ Some p → is_before_event p.phase ≡ true
    before p there = ap (λ (x : Pass). is_before_event x.phase) (some-inj (sym there ∙ at.1)) ∙ ap is_before_event at.2.0.phase

  pub can-look-in-base : (at : IsAt c.passes i
      (λ p. IsReader p × (slice_get c.fresh p.block ≡ Some false) × (0 < count_below c.shape.limit (p.first + p.done) p.piece)))
      → IsAt c.passes i (λ p. CanReadBase h c.shape c.base p × (0 < count_below c.shape.limit (p.first + p.done) p.piece))
  can-look-in-base at = let can = can-read-base kept.coherent i (at.0, at.1, at.2.0.phase) in
      (can.0, can.1, (can.2, subst (λ (p : Pass). 0 < count_below c.shape.limit (p.first + p.done) p.piece) (some-inj (sym at.1 ∙ can.1)) at.2.2))

  -- The piece is zeros.
  module _ (at : IsAt c.passes i (λ p. IsReader p × (slice_get c.fresh p.block ≡ Some false))) where
    reading : HasNone at.0
    reading = held-ticket (kept.coherent.each i at.0 at.1) at.2.0.phase

    pub can-see-zeros : (out : List Sector) → at.0.count ≡ length out
        → IsAt c.passes i (λ p. (p.done + p.piece ≤ length out) × (p.first + p.count ≤ 2 ^ 26) × (p.done + p.piece ≤ p.count) × (p.ticket ≡ None) ×
        (p.fetch ≡ None) × CanAdd p.piece c.history (g.events c.store))
    can-see-zeros out fits =
        let p = at.0 in let has = region-of _ Held refl at.2.0.phase in let stands = kept.coherent.each i p at.1 in
        let no_more = (stands.piece has).no_more in let range = (stands.range (not-idle p.phase has)).0 in let size = kept.coherent.shaped.size in
        (p, at.1, (omega arith, omega arith, no_more, reading.ticket, reading.fetch, has-room-to-see p at.1 has (before false at p at.1) at.2.0.write))

-- The look in the store.
module _ {S B : Type 0} {g : store.Ghosts S} {h : base.Ghosts B} {c c' : View S B} (kept : IsSound g h c) {i : ℕ} (step : StoreLookStep g i c c') where
  pub look-coherent : IsCoherent g h (view_requests c') (view_places c') c'.store c'.base
  look-coherent = in-place (framed c step.others) refl (ap (λ v. v.base) step.others)
      (looks-coherent kept.coherent (to-look kept i true step.reader) step.looks)

  pub look-room : RoomIsReserved g c'
  look-room = let m = step.looks in
      room-same kept.roomy (ap (λ v. v.shape) step.others) (ap (λ v. v.spare) step.others) i m.there (ap (λ (r : RequestState). r.passes) m.after)
      (ap (λ v. v.history) step.others)
      (room-looked (kept.roomy.reserved i m.pass m.there) (before kept i true step.reader m.pass m.there) m.ticket) refl refl refl step.keeps.telling.events

  pub look-told : IsFaithfullyKept g h c → g.tells c'.store → h.tells c'.base → IsFaithfullyKept g h c'
  look-told was told base_told = told-by (framed c step.others) (ap (λ v. h.sectors v.base) step.others) refl was
      (λ start faithful. looks-faithful kept.coherent (to-look kept i true step.reader) step.looks (λ b. faithful) told)

-- The look in the base.
module _ {S B : Type 0} {g : store.Ghosts S} {h : base.Ghosts B} {c c' : View S B} (kept : IsSound g h c) {i : ℕ} (step : BaseLookStep h i c c') where
  base-reader : IsAt c.passes i (λ p. IsReader p × (slice_get c.fresh p.block ≡ Some false))
  base-reader = (step.reader.0, step.reader.1, (step.reader.2.0, step.reader.2.1))

  pub base_look-coherent : IsCoherent g h (view_requests c') (view_places c') c'.store c'.base
  base_look-coherent = in-place (framed c step.others) (ap (λ v. v.store) step.others) refl
      (looks_at_base-coherent kept.coherent (to-look kept i false base-reader) step.looks)

  pub base_look-room : RoomIsReserved g c'
  base_look-room = let m = step.looks in
      room-same kept.roomy (ap (λ v. v.shape) step.others) (ap (λ v. v.spare) step.others) i m.there (ap (λ (r : RequestState). r.passes) m.after)
      (ap (λ v. v.history) step.others)
      (room-base_looked (kept.roomy.reserved i m.pass m.there) (before kept i false base-reader m.pass m.there) m.ticket) refl refl refl
      (let e = ap (λ v. g.events v.store) step.others in omega (arith, e))

  pub base_look-told : IsFaithfullyKept g h c → g.tells c'.store → h.tells c'.base → IsFaithfullyKept g h c'
  base_look-told was told base_told = told-by (framed c step.others) step.keeps.counts.sectors (ap (λ v. v.store) step.others) was
      (λ start faithful. looks_at_base-faithful kept.coherent (to-look kept i false base-reader) step.looks (λ (t : Unit {0}). faithful) tt)

-- The piece is zeros.
module _ {S B : Type 0} {g : store.Ghosts S} {h : base.Ghosts B} {c c' : View S B} (kept : IsSound g h c) {i : ℕ} {out out' : List Sector}
    (step : ZerosStep g i out out' c c') where
  zeros-reader : IsAt c.passes i (λ p. IsReader p × (slice_get c.fresh p.block ≡ Some false))
  zeros-reader = (step.reader.0, step.reader.1, (step.reader.2.0.0, step.reader.2.0.1))

  pub zeros-coherent : IsCoherent g h (view_requests c') (view_places c') c'.store c'.base
  zeros-coherent = in-place (framed c step.others) (ap (λ v. v.store) step.others) (ap (λ v. v.base) step.others)
      (sees_zeros-coherent kept.coherent (to-look kept i false zeros-reader) step.sees)

  pub zeros-room : RoomIsReserved g c'
  zeros-room =
      let m = step.sees.sees in let seer-is : step.reader.0 ≡ m.pass = some-inj (sym step.reader.1 ∙ m.there) in
      let has : has_region m.pass.phase ≡ true = ap (λ (x : Pass). has_region x.phase) (sym seer-is) ∙ region-of _ Held refl step.reader.2.0.0.phase in
      let read : m.pass.write ≡ false = ap (λ (x : Pass). x.write) (sym seer-is) ∙ step.reader.2.0.0.write in let e = ap (λ v. g.events v.store) step.others in
      let room = room-seen ((kept.coherent.each i m.pass m.there).piece has) (kept.roomy.reserved i m.pass m.there)
      (before kept i false zeros-reader m.pass m.there) read in
      let more = subst (λ (x : Pass). AddsEntries (g.events c.store ∷ []) x.piece c.history c'.history)
      (some-inj (sym step.extends.1 ∙ m.there)) step.extends.2 in
      room-used kept.roomy (ap (λ v. v.shape) step.others) (ap (λ v. v.spare) step.others) i m.there
      (ap (λ (r : RequestState). r.passes) m.after) more room.0 room.1 refl (omega (arith, e))

  pub zeros-told : IsFaithfullyKept g h c → g.tells c'.store → h.tells c'.base → IsFaithfullyKept g h c'
  zeros-told was told base_told =
      told-by (framed c step.others) (ap (λ v. h.sectors v.base) step.others) (ap (λ v. v.store) step.others) was (λ start faithful.
      sees_zeros-faithful kept.coherent (to-look kept i false zeros-reader) step.sees (base_then h c.fixed)
      (λ (t : Unit {0}). backed kept.coherent (base_then h c.fixed) was.base_size) (λ t. faithful) tt)
