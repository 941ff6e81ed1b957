-- Asking a request keeps a core.
use Rattle.std.proofs.Common.{◌≡◌, ℕ, ◌+◌, ◌-◌, ◌*◌, ◌^◌, List, [], length, refl, sym, ◌∙◌, ap, inl, inr, arith, Option, Some, slice_get, subst}
use Rattle.vd_device.specs.declared.store.Store as store
use Rattle.vd_device.specs.declared.base.Base as base
use Rattle.vd_law.specs.declared.entry.Room.{Room}
use Rattle.vd_law.specs.declared.entry.Answer.{Answer}
use Rattle.vd_law.specs.Entries.{Asked, Read, Write, Flush}
use Rattle.vd_law.specs.Logs.{asked_content}
use Rattle.vd_law.specs.Rules.{IsInside}
use Rattle.vd_passes.specs.declared.shape.Shape.{Shape}
use Rattle.vd_passes.specs.declared.pass.Pass.{Pass}
use Rattle.vd_passes.specs.declared.pass.Phase.TheVariants.{Idle}
use Rattle.vd_passes.specs.Places.{place_of, ArePlaces, KeepsPlaces}
use Rattle.vd_passes.specs.Passes.{after_ask}
use Rattle.vd_passes.specs.Requests.{RequestState, requests}
use Rattle.vd_passes.specs.Steps.{IsAt}
use Rattle.vd_passes.proofs.Lists.{some-inj}
use Rattle.vd_passes.proofs.PlacesGiven.{are-places}
use Rattle.vd_passes.proofs.Needing.{room-idle, room-asked}
use Rattle.vd_passes.proofs.Asking.{IsPlaced, asks-coherent, asks-faithful, asks_full-coherent, asks_full-faithful}
use Rattle.vd_machine.specs.Asking.{IsSame, CanAsk, HasSize, EndsFull, EndsAsked}
use Rattle.vd_machine.proofs.Claiming.{some-sectors, need-events, need-sectors, inside-more, run-inside, run-placed, claim-extends}
use Rattle.vd_legal.proofs.Reserving.{room-shared}
use Rattle.vd_law.specs.Needs.{request_room}
use Rattle.vd_machine.specs.Views.{Fixed, View, StandsStill, one_step_more, view_requests, view_places, ask_state_of}
use Rattle.vd_machine.specs.Sound.{RoomIsReserved, IsStorage, IsSound}
use Rattle.vd_machine.specs.Telling.{base_then, IsStartOf, IsFaithfullyKept}
use Rattle.vd_legal.proofs.Framing.{framed, storage-same, stands-coherent, stands-room, stands-told}
use Rattle.vd_machine.specs.AskSteps.{AskStep}
use Rattle.vd_law.specs.declared.entry.Sector.{Sector}
use Rattle.vd_format.specs.Background.{background_of}
use Rattle.vd_passes.specs.Coherent.{IsCoherent, IsFaithful}

-- what a pass that has asked has for its request, and which call it is
asked-has : (p : Pass) (r : Asked) (events sectors : ℕ)
    → ((after_ask p r events sectors).events ≡ events) × ((after_ask p r events sectors).sectors ≡ sectors) × ((after_ask p r events sectors).call ≡ p.call + 1)
asked-has p (Read first count) events sectors = (refl, refl, refl)
asked-has p (Write first content) events sectors = (refl, refl, refl)
asked-has p Flush events sectors = (refl, refl, refl)

module _ {S B : Type 0} {g : store.Ghosts S} {h : base.Ghosts B} {c : View S B} (request : Asked) (i : ℕ) (kept : IsSound g h c)
    (at : IsAt c.passes i (λ p. p.phase ≡ Idle)) (size : HasSize request) (inside : IsInside (c.shape.block * c.shape.blocks) request) where
  pub can-ask : CanAsk c.shape c.table c.passes c.history c.spare (g.events c.store) request i
  can-ask = record {
    some_block = kept.coherent.shaped.some;
    small_block = kept.coherent.shaped.small;
    some_chunk = kept.coherent.shaped.some_blocks;
    few = kept.coherent.few;
    there = (at.0, at.1, (let h = kept.roomy.calls i at.0 at.1 in let b = kept.roomy.bounded in omega (arith, h, b)));
    size = size;
    range = inside-more request (c.shape.block * c.shape.blocks) (2 ^ 26) kept.coherent.shaped.size inside;
    run = run-inside c.shape request (length c.table.chunks) kept.storage.chunks kept.coherent.shaped.some kept.coherent.shaped.some_blocks size inside;
    spare_events = let h = kept.roomy.spare_events in omega (arith, h);
    spare_sectors = let h = kept.roomy.spare_sectors in omega (arith, h);
    later = kept.roomy.later;
  }

module _ {S B : Type 0} {g : store.Ghosts S} {h : base.Ghosts B} {c c' : View S B} (kept : IsSound g h c) {result : Option Answer} {request : Asked} {i : ℕ}
    (step : AskStep g result request i c c') where
  -- the pass of a step is the one that is idle, and has no room of its own
  idle-is : {p : Pass} → slice_get c.passes i ≡ Some p → p.phase ≡ Idle
  idle-is {p} there = ap (λ (x : Pass). x.phase) (some-inj (sym there ∙ step.idle.1)) ∙ step.idle.2

  none-left : {p : Pass} → slice_get c.passes i ≡ Some p → (p.events ≡ 0) × (p.sectors ≡ 0)
  none-left {p} there = (kept.roomy.reserved i p there).idle (idle-is there)

  shape-same : c'.shape ≡ c.shape
  shape-same = ap (λ v. v.shape) step.others

  events-same : g.events c'.store ≡ g.events c.store
  events-same = ap (λ v. g.events v.store) step.others

  module _ {needed free : ℕ} (ends : EndsFull request needed free (g.events c.store) i (ask_state_of c) (ask_state_of c')) where
    full-room : RoomIsReserved g c'
    full-room =
        let m = ends.asks [] in let none = none-left m.there in
        let few = need-events c.shape.block request in let told = need-sectors c.shape.block request in
        let a = ends.enough.0 in let b = ends.enough.1 in let n = events-same in
        let u = ap (λ (r : Room). r.events) ends.left_after in let d = ap (λ (r : Room). r.sectors) ends.left_after in
        room-shared kept.roomy i shape-same m.there (ap (λ (r : RequestState). r.passes) m.after) ends.extends
        (room-idle c.shape.block _ (idle-is m.there) none.0 none.1)
        (omega (arith, few, a, u)) (omega (arith, told, b, d)) (omega arith) (omega (arith, n))

  module _ (ends : EndsAsked request (g.events c.store) i (ask_state_of c) (ask_state_of c')) where
    asked-room : RoomIsReserved g c'
    asked-room =
        let m = ends.asks [] in let none = none-left m.there in
        let few = need-events c.shape.block request in let told = need-sectors c.shape.block request in
        let a = ends.enough.0 in let b = ends.enough.1 in let n = events-same in
        let u = ap (λ (r : Room). r.events) ends.left_after in let d = ap (λ (r : Room). r.sectors) ends.left_after in
        let own = asked-has m.pass request ((request_room c.shape.block request).events - 1)
        ((request_room c.shape.block request).sectors - length (asked_content request)) in
        room-shared kept.roomy i shape-same m.there (ap (λ (r : RequestState). r.passes) m.after) ends.extends
        (room-asked c.shape.block m.pass request _ _ (omega (arith, few)) (omega (arith, told)))
        (omega (arith, few, a, u, own.0, none.0)) (omega (arith, told, b, d, own.1, none.1)) (omega (arith, own.2)) (omega (arith, n))

    asked-storage : IsStorage g c'
    asked-storage = let claims = ends.claims in let storage = kept.storage in let e = claims.chunks in record {
      chunks = rw shape-same (λ b in_disk. let h = storage.chunks b in_disk in omega arith);
      few = let h = storage.few in omega arith;
      one_to_one = claims.one_to_one;
      inside = rw (shape-same, claims.storage, ap (λ v. v.store) step.others) storage.inside;
    }

    asked-extends : KeepsPlaces (view_places c) (place_of c.shape c'.table.chunks)
    asked-extends = claim-extends c.shape c.table c'.table ends.claims.kept

    asked-places : ArePlaces c.shape.block c.shape.storage_at (g.sectors c.store) (place_of c.shape c'.table.chunks)
    asked-places = are-places c.shape c'.table ends.claims.one_to_one kept.coherent.shaped.some_blocks (rw ends.claims.storage kept.storage.inside)

    asked-placed : IsPlaced c.shape.block (place_of c.shape c'.table.chunks) request
    asked-placed = run-placed c.shape c'.table request kept.coherent.shaped.some kept.coherent.shaped.some_blocks ends.claims.all

  moved-coherent : IsCoherent g h (requests c'.shape c.fresh c'.passes c'.history.log.entries) (place_of c.shape c'.table.chunks) c.store c.base
      → IsCoherent g h (view_requests c') (view_places c') c'.store c'.base
  moved-coherent co = rw (ap (λ v. v.fresh) step.others, ap (λ v. v.store) step.others, ap (λ v. v.base) step.others)
      (subst (λ (x : Shape). IsCoherent g h (requests c'.shape c.fresh c'.passes c'.history.log.entries) (place_of x c'.table.chunks) c.store c.base)
      (sym shape-same) co)

  moved-told : IsFaithfullyKept g h c
      → ((start : List Sector) → IsFaithful g start (background_of (base_then h c.fixed) c.shape.tracked) (view_requests c) (view_places c) c.store
      → IsFaithful g start (background_of (base_then h c.fixed) c.shape.tracked) (requests c'.shape c.fresh c'.passes c'.history.log.entries)
      (place_of c.shape c'.table.chunks) c.store) → IsFaithfullyKept g h c'
  moved-told was next = let fixed = ap (λ v. v.fixed) step.others in record {
    base_size = ap (λ (x : Fixed S B). length (base_then h x)) fixed ∙ was.base_size ∙ sym (ap (λ v. h.sectors v.base) step.others);
    faithful = λ start is. rw (ap (λ v. v.fresh) step.others, ap (λ v. v.store) step.others, fixed)
        (subst (λ (x : Shape). IsFaithful g start (background_of (base_then h c.fixed) x.tracked) (requests c'.shape c.fresh c'.passes c'.history.log.entries)
        (place_of x c'.table.chunks) c.store) (sym shape-same)
        (next start (was.faithful start (subst (λ (x : Fixed S B). IsStartOf g h x start) fixed is))));
  }

-- there was no room
same-view : {S B : Type 0} (c : View S B) {c' : View S B}
    → c' ≡ record c { table = c'.table; passes = c'.passes; history = c'.history; spare = c'.spare; steps = one_step_more c.steps }
    → IsSame (ask_state_of c) (ask_state_of c') → StandsStill c c'
same-view c others same = others ∙ rw (same.table_same, same.passes_same, same.history_same, same.left_same) refl

-- Only a write is answered Full.
module _ {S B : Type 0} {g : store.Ghosts S} {h : base.Ghosts B} {c c' : View S B} (kept : IsSound g h c) {result : Option Answer} {i : ℕ} where
  full-coherent : (request : Asked) (step : AskStep g result request i c c') {needed free : ℕ}
      → EndsFull request needed free (g.events c.store) i (ask_state_of c) (ask_state_of c')
      → IsCoherent g h (requests c'.shape c.fresh c'.passes c'.history.log.entries) (place_of c.shape c'.table.chunks) c.store c.base
  full-coherent (Read first count) step {needed} ends = let none : needed ≡ 0 = ends.needed_is in absurd (let less = ends.fewer in omega arith)
  full-coherent (Write first content) step ends = rw ends.table_same
      (asks_full-coherent first content kept.coherent step.idle step.size.0 step.inside (ends.asks c.fresh))
  full-coherent Flush step {needed} ends = let none : needed ≡ 0 = ends.needed_is in absurd (let less = ends.fewer in omega arith)

  full-faithful : (request : Asked) (step : AskStep g result request i c c') {needed free : ℕ}
      → EndsFull request needed free (g.events c.store) i (ask_state_of c) (ask_state_of c')
      → {start : List Sector} {rest : ℕ → Sector} → IsFaithful g start rest (view_requests c) (view_places c) c.store
      → IsFaithful g start rest (requests c'.shape c.fresh c'.passes c'.history.log.entries) (place_of c.shape c'.table.chunks) c.store
  full-faithful (Read first count) step {needed} ends faithful = let none : needed ≡ 0 = ends.needed_is in absurd (let less = ends.fewer in omega arith)
  full-faithful (Write first content) step ends faithful = rw ends.table_same
      (asks_full-faithful first content kept.coherent step.idle step.size.0 step.inside (ends.asks c.fresh) faithful)
  full-faithful Flush step {needed} ends faithful = let none : needed ≡ 0 = ends.needed_is in absurd (let less = ends.fewer in omega arith)

-- However an ask ends.
module _ {S B : Type 0} {g : store.Ghosts S} {h : base.Ghosts B} {c c' : View S B} (kept : IsSound g h c) {result : Option Answer} {request : Asked} {i : ℕ}
    (step : AskStep g result request i c c') where
  pub ask-coherent : IsCoherent g h (view_requests c') (view_places c') c'.store c'.base
  ask-coherent = elim step.ends [
    | inl none ↦ stands-coherent (same-view c step.others none.2) kept
    | inr more ↦ elim more [
      | inl full ↦ moved-coherent kept step (full-coherent kept request step full.3)
      | inr asked ↦ let e = asked.1 in
          moved-coherent kept step (asks-coherent request kept.coherent step.idle (some-sectors request step.size) step.inside (asked-extends kept step e)
          (asked-places kept step e) (asked-placed kept step e) (e.asks c.fresh))
    ]
  ]

  pub ask-room : RoomIsReserved g c'
  ask-room = elim step.ends [
    | inl none ↦ stands-room (same-view c step.others none.2) kept.roomy
    | inr more ↦ elim more [ inl full ↦ full-room kept step full.3 | inr asked ↦ asked-room kept step asked.1 ]
  ]

  pub ask-storage : IsStorage g c'
  ask-storage = elim step.ends [
    | inl none ↦ storage-same (framed c (same-view c step.others none.2)) (ap (λ v. g.sectors v.store) step.others) kept.storage
    | inr more ↦ elim more [
      | inl full ↦ storage-same (record { fixed = ap (λ v. v.fixed) step.others; shape = ap (λ v. v.shape) step.others; table = full.3.table_same })
          (ap (λ v. g.sectors v.store) step.others) kept.storage
      | inr asked ↦ asked-storage kept step asked.1
    ]
  ]

  pub ask-told : IsFaithfullyKept g h c → g.tells c'.store → h.tells c'.base → IsFaithfullyKept g h c'
  ask-told was told base_told =
      elim step.ends [
        | inl none ↦ stands-told (same-view c step.others none.2) was
        | inr more ↦ elim more [
          | inl full ↦ moved-told kept step was (λ start faithful. full-faithful kept request step full.3 faithful)
          | inr asked ↦ let e = asked.1 in
              moved-told kept step was (λ start faithful. asks-faithful request kept.coherent step.idle (some-sectors request step.size) step.inside
              (asked-extends kept step e) (asked-places kept step e) (asked-placed kept step e) (e.asks c.fresh) faithful)
        ]
      ]
