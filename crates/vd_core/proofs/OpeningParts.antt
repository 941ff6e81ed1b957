-- A core as it is made keeps what its type keeps.
use Rattle.std.proofs.Common.{◌≡◌, ℕ, suc, ◌+◌, ◌-◌, ◌*◌, ◌/◌, ◌^◌, ◌<◌, ◌≤◌, Bool, List, [], ◌∷◌, ◌++◌, length, map, replicate, refl, sym, ◌∙◌, ap, subst, inl, arith, Option, None, Some, slice_get}
use Rattle.std.specs.List.{sum_by}
use Rattle.std.proofs.Math.Nat.{div-add-mod, div-le_self, div-mul-le_self, le-div_iff_mul-le, add-div_right, mul_assoc}
use Rattle.std.proofs.lemmas.List.Sums.{sum_by-cons}
use Rattle.std.proofs.lemmas.List.{length-replicate}
use Rattle.vd_law.specs.declared.entry.Sector.{Sector}
use Rattle.vd_law.specs.declared.entry.Room.{Room}
use Rattle.vd_device.specs.declared.store.Store as store
use Rattle.vd_device.specs.declared.base.Base as base
use Rattle.vd_device.specs.declared.ticket.Ticket.{Ticket}
use Rattle.vd_format.specs.declared.header.Header.{Header}
use Rattle.vd_format.specs.Headers.{IsValid}
use Rattle.vd_format.specs.Layouts.{blocks_of, store_need}
use Rattle.vd_format.proofs.Rules.{block_within, chunk_within, size_within}
use Rattle.vd_table.specs.Tables.{TableState, IsOneToOne}
use Rattle.vd_replay.specs.declared.state.State.{State}
use Rattle.vd_replay.specs.States.{IsWholeState}
use Rattle.vd_replay.proofs.Starting.{whole-storage}
use Rattle.vd_passes.specs.declared.shape.Shape.{Shape}
use Rattle.vd_passes.specs.declared.pass.Pass.{Pass}
use Rattle.vd_passes.specs.declared.pass.Phase.TheVariants.{Idle}
use Rattle.vd_passes.specs.Tracks.{writes}
use Rattle.vd_passes.specs.Standings.{Standing, standing}
use Rattle.vd_passes.specs.Places.{IsShape, place_of}
use Rattle.vd_passes.specs.Passes.{has_region, region_of, ticket_of, tickets_of, fetches_of, writes_in, IsNew, HasInFlight, IsAsHistorySays}
use Rattle.vd_passes.specs.Requests.{requests}
use Rattle.vd_passes.specs.Coherent.{IsCoherent}
use Rattle.vd_regions.specs.declared.regions.Region.{Region}
use Rattle.vd_passes.proofs.Holding.{region-none}
use Rattle.vd_passes.proofs.Standing.{standing-nothing}
use Rattle.vd_passes.proofs.PlacesGiven.{are-places, has-place}
use Rattle.vd_passes.proofs.Needing.{room-idle}
use Rattle.vd_machine.specs.Views.{View}
use Rattle.vd_machine.specs.Sound.{MetadataAgrees, RoomIsReserved, IsStorage, IsSound}
use Rattle.vd_device.specs.Stores.{IsTold}
use Rattle.vd_device.proofs.Keeping.{keeps-same, base-keeps-same}
use Rattle.vd_core.specs.Opening.{disk_shape, AreNew, empty_history, new_keeping, fixed_for}
use Rattle.vd_format.specs.Background.{zero_sector}

-- a core over these devices, whose image was opened as this state, in which nothing was asked
abbrev pub new_view : {S B : Type 0} → base.Ghosts B → (events : ℕ) → State → List Pass → Room → S → B → View S B
new_view h events s passes room x y = record {
  fixed = fixed_for s room x y;
  store = x;
  base = y;
  shape = disk_shape s.header (h.sectors y);
  table = s.table;
  fresh = s.fresh.bits;
  keeping = new_keeping s;
  flusher = None;
  passes = passes;
  history = empty_history room events;
  spare = room;
  steps = 0;
}

-- The shape of a header's disk.

pub whole-blocks : (h : Header) → IsValid h → h.block * blocks_of h ≡ h.size
whole-blocks h valid = let parts = div-add-mod h.size h.block in let rest = valid.whole_blocks in omega arith

shaped : (h : Header) (sectors base_sectors : ℕ) → IsValid h → sectors < 2 ^ 64 → IsShape (disk_shape h base_sectors) sectors base_sectors
shaped h sectors base_sectors valid bounded =
    let block = block_within h valid in let chunk = chunk_within h valid in let all = whole-blocks h valid in let size = size_within h valid in let tracked =
    valid.tracked in let slots = valid.some_slot in
    record {
      some = omega (arith, block.0);
      small = block.1;
      some_blocks = omega (arith, chunk.0);
      few_blocks = chunk.1;
      size = omega (arith, all, size);
      tracked = omega (arith, all, tracked);
      limit = refl;
      header = omega (arith, slots);
      bounded = bounded;
    }

-- Nobody holds or has anything.

idle-regions : (passes : List Pass) → ((i : ℕ) (p : Pass) → slice_get passes i ≡ Some p → p.phase ≡ Idle) → map region_of passes ≡ replicate
    (length passes) None
idle-regions [] idle = refl
idle-regions (p ∷ passes) idle =
    ap (λ (o : Option Region). o ∷ map region_of passes) (region-none p (ap has_region (idle 0 p refl)))
    ∙ ap (λ (rs : List (Option Region)). None ∷ rs) (idle-regions passes (λ i. idle (suc i)))

pub no-tickets : (passes : List Pass) → ((i : ℕ) (p : Pass) → slice_get passes i ≡ Some p → p.ticket ≡ None) → tickets_of passes ≡ []
no-tickets [] none = refl
no-tickets (p ∷ passes) none = ap (λ (o : Option Ticket). ticket_of o ++ tickets_of passes) (none 0 p refl) ∙ no-tickets passes (λ i. none (suc i))

pub no-fetches : (passes : List Pass) → ((i : ℕ) (p : Pass) → slice_get passes i ≡ Some p → p.fetch ≡ None) → fetches_of passes ≡ []
no-fetches [] none = refl
no-fetches (p ∷ passes) none = ap (λ (o : Option Ticket). ticket_of o ++ fetches_of passes) (none 0 p refl) ∙ no-fetches passes (λ i. none (suc i))

no-sum : (f : Pass → ℕ) (passes : List Pass) → ((i : ℕ) (p : Pass) → slice_get passes i ≡ Some p → f p ≡ 0) → sum_by f passes ≡ 0
no-sum f [] none = refl
no-sum f (p ∷ passes) none = let first = none 0 p refl in let rest = no-sum f passes (λ i. none (suc i)) in let step = sum_by-cons f p passes in omega
    (arith, first, rest, step)

-- a pass that is new, in a history without entries
new-stands : {buffer : List Sector} (shape : Shape) (fresh : List Bool) (places : ℕ → Option ℕ) (i : ℕ) (p : Pass) → IsNew buffer p
    → length buffer ≡ shape.block → IsAsHistorySays shape fresh places (standing [] i) p
new-stands {buffer} shape fresh places i p new long = subst (λ (t : Standing). IsAsHistorySays shape fresh places t p) (sym (standing-nothing i)) (record {
  call = sym new.call;
  idle = λ is some. absurd (let c = new.call in omega arith);
  busy = λ is. absurd (is new.phase);
  unanswered = λ is. absurd (is new.phase);
  done = λ is. absurd (is new.phase);
  range = λ is. absurd (is new.phase);
  pending = λ is. absurd (is new.phase);
  whole = λ is. absurd (is new.phase);
  ready = λ is. absurd (let other = sym new.phase ∙ is in cc);
  write = λ is. absurd (let none = sym (ap writes_in new.phase) ∙ is in cc);
  read = λ is. absurd (let other = sym new.phase ∙ is in cc);
  left = λ is. absurd (let other = sym new.phase ∙ is in cc);
  flush = λ is. absurd (let other = sym new.phase ∙ is in cc);
  no_flush = λ is. absurd (let none = sym (ap has_region new.phase) ∙ is in cc);
  unstarted = λ is. absurd (is new.phase);
  placed = λ is. absurd (is new.phase);
  piece = λ is. absurd (let none = sym (ap has_region new.phase) ∙ is in cc);
  at = λ is. absurd (let none = sym (ap has_region new.phase) ∙ is in cc);
  ticket = subst (λ ph. HasInFlight ph shape fresh p) (sym new.phase) (record { ticket = new.ticket; fetch = new.fetch });
  buffer = ap length new.buffer_is ∙ long;
})

no-writes : (s : ℕ) → writes [] s ≡ []
unfolding writes
no-writes s = refl

-- the chunk of a block of the disk is one of its chunks
chunk-inside : (blocks chunk b : ℕ) → 1 ≤ chunk → b < blocks → b / chunk < (blocks + chunk - 1) / chunk
chunk-inside blocks chunk b some inside =
    let below = div-mul-le_self b chunk in
    let less : b / chunk ≤ (blocks - 1) / chunk = (le-div_iff_mul-le {k = chunk} {x = b / chunk} {y = blocks - 1} some).1 (omega (arith, below, inside)) in
    let more : ((blocks - 1) + chunk) / chunk ≡ (blocks - 1) / chunk + 1 = add-div_right (blocks - 1) some in
    let same : blocks + chunk - 1 ≡ (blocks - 1) + chunk = omega arith in
    let goal : b / chunk < ((blocks - 1) + chunk) / chunk = omega (arith, less, more) in
    subst (λ (n : ℕ). b / chunk < n / chunk) (sym same) goal

-- no two chunks have one storage chunk, and there is each that a chunk has
one-to-one : (s : State) → IsWholeState s → IsOneToOne s.table
one-to-one s whole = record {
  apart = whole.placed.apart;
  inside = λ chunk p has.
      let given = whole.placed.given chunk p has in
      let entry = whole.entries.each chunk given.1.0 (let within = given.0 in let many = whole.sized.map in omega (arith, within, many)) given.1.1 in
      let fits = entry.storage in let is = given.1.2 in let all = whole.sized.storage in omega (arith, fits, is, all);
}

module _ {S B : Type 0} (g : store.Ghosts S) (bg : base.Ghosts B) (x : S) (y : B) (s : State) (whole : IsWholeState s) (passes : List Pass) (count : ℕ)
    (room : Room)
    (fits : store_need s.header ≤ g.sectors x) (bounded : g.sectors x < 2 ^ 64) (deep : 128 ≤ g.depth x) (base_deep : 128 ≤ bg.depth y) (idle : g.flight x [])
    (base_idle : bg.flight y [])
    (few : count ≤ 64) (new : AreNew count s.header.block passes) (counted : room.events < 2 ^ 64) where
  abbrev h : Header
  h = s.header

  valid : IsValid h
  valid = whole.sized.valid

  abbrev shape : Shape
  shape = disk_shape h (bg.sectors y)

  abbrev table : TableState
  table = s.table

  abbrev fresh : List Bool
  fresh = s.fresh.bits

  is-idle : (i : ℕ) (p : Pass) → slice_get passes i ≡ Some p → p.phase ≡ Idle
  is-idle i p there = (new.each i p there).phase

  abbrev core : View S B
  core = new_view bg (g.events x) s passes room x y

  storage : IsStorage g core
  storage = record {
    chunks = λ b inside. let many = whole.sized.table in let less = chunk-inside (blocks_of h) h.chunk b (chunk_within h valid).0 inside in omega arith;
    few = let many = whole.sized.table in let less = div-le_self (blocks_of h + h.chunk - 1) h.chunk in let blocks = div-le_self h.size h.block in
        let size = size_within h valid in let chunk = (chunk_within h valid).1 in omega arith;
    one_to_one = one-to-one s whole;
    inside = let same : s.table.storage * (h.chunk * h.block) ≡ h.storage * h.chunk * h.block = ap (λ (n : ℕ). n * (h.chunk * h.block)) whole.sized.storage
        ∙ sym (mul_assoc h.storage h.chunk h.block) in omega (arith, same, fits);
  }

  coherent : IsCoherent g bg (requests shape fresh passes []) (place_of shape table.chunks) x y
  coherent = record {
    shaped = shaped h (g.sectors x) (bg.sectors y) valid bounded;
    size = whole.sized.fresh;
    placed = are-places shape table (one-to-one s whole) (let chunk = (chunk_within h valid).0 in omega (arith, chunk)) storage.inside;
    fresh_placed = λ b is. let stored = whole-storage s b whole is in has-place shape table.chunks b stored.0 stored.1;
    regular = record { in_turn = tt; in_place = tt; alone = tt; answered = tt };
    few = let many = new.many in omega arith;
    deep = deep;
    base_deep = base_deep;
    each = λ i p there. new-stands shape fresh (place_of shape table.chunks) i p (new.each i p there) (length-replicate h.block zero_sector);
    apart = λ i j p q there_p there_q other has_p. absurd (let none = sym (ap has_region (is-idle i p there_p)) ∙ has_p in cc);
    flight = subst (g.flight x) (sym (no-tickets passes (λ i p there. (new.each i p there).ticket))) idle;
    base_flight = subst (bg.flight y) (sym (no-fetches passes (λ i p there. (new.each i p there).fetch))) base_idle;
    guest = λ a. inl (record { nobody = λ i p there w. let phase = w.phase in let other = sym (is-idle i p there) ∙ phase in cc; none = no-writes a });
  }

  roomy : RoomIsReserved g core
  roomy = record {
    later = omega arith;
    spare_events = let none = no-sum (λ (p : Pass). p.events) passes (λ i p there. (new.each i p there).events) in omega arith;
    spare_sectors = let none = no-sum (λ (p : Pass). p.sectors) passes (λ i p there. (new.each i p there).sectors) in omega arith;
    reserved = λ i p there. room-idle h.block p (is-idle i p there) (new.each i p there).events (new.each i p there).sectors;
    calls = λ i p there. let none = (new.each i p there).call in omega arith;
    bounded = counted;
  }

  pub opened-regions : replicate count None ≡ map region_of passes
  opened-regions = ap (λ (n : ℕ). replicate n None) (sym new.many) ∙ sym (idle-regions passes is-idle)

  pub opened-kept : IsTold g x → MetadataAgrees core → IsSound g bg core
  opened-kept told metadata = record {
    since = record { store = keeps-same g x told; base = base-keeps-same bg y; opened = refl; room = refl };
    coherent = coherent;
    roomy = roomy;
    storage = storage;
    metadata = metadata;
  }
