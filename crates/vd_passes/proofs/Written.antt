-- What may stand in the sectors after a write has ended.
use Rattle.std.proofs.Common.{◌≡◌, ◌≢◌, ℕ, ◌+◌, ◌-◌, ◌*◌, ◌<◌, ◌≤◌, ◌⊎◌, Bool, true, false, List, [], ◌∷◌, length, sym, ◌∙◌, ap, subst, inl, inr, arith, Option, Some, slice_get, slice_set}
use Rattle.std.specs.List.{Contains}
use Rattle.std.proofs.lemmas.Bool.{cases_eq}
use Rattle.std.proofs.lemmas.Option.{slice_get_cases}
use Rattle.vd_law.specs.declared.entry.Sector.{Sector}
use Rattle.vd_law.specs.Entries.{Entry, Done, Broke}
use Rattle.vd_device.specs.declared.ticket.Ticket.{Ticket}
use Rattle.vd_device.specs.Tickets.{ticket_id}
use Rattle.vd_passes.specs.declared.shape.Shape.{Shape}
use Rattle.vd_passes.specs.declared.pass.Pass.{Pass}
use Rattle.vd_passes.specs.declared.pass.Phase.TheVariants.{Issuing}
use Rattle.vd_passes.specs.Tracks.{Track, track, follow}
use Rattle.vd_passes.specs.Places.{IsIn}
use Rattle.vd_passes.specs.Passes.{call_id, IsWriting, IsFilling}
use Rattle.vd_passes.specs.Coherent.{IsCoherent, IsFaithful, AgreesInSector, IsFilled}
use Rattle.vd_passes.proofs.Lists.{some-inj}
use Rattle.vd_passes.proofs.Places.{same-block, same-place}
use Rattle.vd_passes.proofs.Tracks.{track-writes, done-none, done-own, done-other, broke-contents, only-one, is-one}
use Rattle.vd_passes.proofs.Regions.{filling-range, writing-block, only-filler, Freshens, freshens-set}
use Rattle.vd_passes.proofs.Closing.{stands, region, piece, writer, placed, stored, is-this, other-call, fills, fills-too, other-ticket, own-write}
use Rattle.vd_device.specs.declared.store.Store.{Ghosts as StoreGhosts}
use Rattle.vd_device.specs.declared.base.Base.{Ghosts as BaseGhosts}
use Rattle.vd_passes.specs.Requests.{requests}

-- the place of a sector in the place of its block
in-place : (block b x s : ℕ) → IsIn block b s → (x ≤ x + (s - block * b)) × (x + (s - block * b) < x + block)
in-place block b x s in_b = let f = in_b.0 in let g = in_b.1 in (omega arith, omega arith)

-- A write is done: what this pass wrote is all that may stand there, and its block is fresh.
module _ {shape : Shape} {fresh : List Bool} {places : ℕ → Option ℕ} {passes : List Pass} {history : List Entry} {S B : Type 0} {g : StoreGhosts S} {h : BaseGhosts B} {store : S} {base : B}
    (co : IsCoherent g h (requests shape fresh passes history) places store base) (i : ℕ) (p : Pass) (there : slice_get passes i ≡ Some p)
    (issuing : p.phase ≡ Issuing) (t : Ticket) (has : p.ticket ≡ Some t) where
  abbrev fresh-next : List Bool
  fresh-next = slice_set fresh p.block true

  abbrev block : ℕ
  block = shape.block

  block-known : (old : Bool) × (slice_get fresh p.block ≡ Some old)
  block-known = elim (slice_get_cases fresh p.block).1 [
    | inl f ↦ (f.0, f.2)
    | inr past ↦ absurd (let d = (piece co i p there issuing t has).in_disk in let e = co.size in omega (arith, past.0))
  ]

  pub next-freshens : Freshens fresh fresh-next p.block
  next-freshens = freshens-set fresh p.block block-known.0 block-known.1

  was-not : (b : ℕ) → slice_get fresh-next b ≡ Some false → (slice_get fresh b ≡ Some false) × (b ≢ p.block)
  was-not b is = elim (cases_eq b p.block) [
    | inl e ↦ absurd (let now = next-freshens.now in let same = ap (slice_get fresh-next) e in cc)
    | inr ne ↦ (sym (next-freshens.others b ne) ∙ is, ne)
  ]

  -- a block of which a sector is not filled was fresh before
  was-fresh : (a : ℕ) → p.at ≤ a → a < p.at + block → (IsFilling p a → ⊥) → slice_get fresh p.block ≡ Some true
  was-fresh a from to not = let pc = piece co i p there issuing t has in elim (stored co i p there issuing t has) [
    | inl own ↦ elim own.2 [
      | inl is ↦ is
      | inr whole ↦ absurd (not (let e = own.0 in let c = own.1 in let f = pc.from in let g = pc.to in fills co i p there issuing t has a (omega arith) (omega arith)))
    ]
    | inr whole ↦ absurd (not (let e = whole.0 in let c = whole.1 in fills co i p there issuing t has a (omega arith) (omega arith)))
  ]

  module _ {start : List Sector} {rest : ℕ → Sector} (fa : IsFaithful g start rest (requests shape fresh passes history) places store) where
    abbrev guest-of : ℕ → Track
    guest-of s = track start history s

    abbrev store-of : ℕ → Track
    store-of a = track (g.disk store).start (g.disk store).log a

    abbrev done-guest : ℕ → Track
    done-guest s = follow s (guest-of s) (Done (call_id i p))

    abbrev done-store : ℕ → Track
    done-store a = follow a (store-of a) (Done (ticket_id t))

    -- where this pass doesn't fill the place, what may stand there stays
    store-same : (a : ℕ) → shape.storage_at ≤ a → (IsFilling p a → ⊥) → (done-store a).contents ≡ (store-of a).contents
    store-same a low not = elim (fa.filling a low) [
      | inl none ↦ (done-none a (store-of a) (ticket_id t) none.none).0
      | inr w ↦ elim (cases_eq w.by i) [
        | inl e ↦ absurd (not (subst (λ x. IsFilling x a) (is-this co i p there issuing t has w.pass w.by w.there e) w.filling))
        | inr ne ↦ (done-other a (store-of a) (ticket_id t) (ticket_id w.ticket) w.content w.one (other-ticket co i p there issuing t has fa w.pass w.by w.ticket w.there w.has ne)).0
      ]
    ]

    -- and so where it doesn't write the guest's sector
    guest-same : (s : ℕ) → (IsWriting p s → ⊥) → (done-guest s).contents ≡ (guest-of s).contents
    guest-same s not = elim (co.guest s) [
      | inl none ↦ (done-none s (guest-of s) (call_id i p) (track-writes start history s ∙ none.none)).0
      | inr w ↦ elim (cases_eq w.by i) [
        | inl e ↦ absurd (not (subst (λ x. IsWriting x s) (is-this co i p there issuing t has w.pass w.by w.there e) w.writing))
        | inr ne ↦ (done-other s (guest-of s) (call_id i p) (call_id w.by w.pass) w.content (track-writes start history s ∙ w.one) (other-call co i p there issuing t has w.pass w.by ne)).0
      ]
    ]

    -- what may stand in the guest's sector after this pass's write of the content there is done
    now-there : (s : ℕ) (c : Sector) → ((guest-of s).writes ≡ (call_id i p, c) ∷ []) ⊎ (((guest-of s).writes ≡ []) × Contains (guest-of s).contents c) → Contains (done-guest s).contents c
    now-there s c (inl own) = subst (λ cs. Contains cs c) (sym (done-own s (guest-of s) (call_id i p) c own).0) (is-one c)
    now-there s c (inr fill) = subst (λ cs. Contains cs c) (sym (done-none s (guest-of s) (call_id i p) fill.0).0) fill.1

    -- this pass wrote the place of the sector
    filled-there : (s a : ℕ) (v : Sector) → a + block * p.block ≡ p.at + s → (w : IsFilled block passes a (track start history) (store-of a)) → w.by ≡ i → Contains (done-store a).contents v → Contains (done-guest s).contents v
    filled-there s a v place w e among =
        let is : v ≡ w.content = only-one v w.content (subst (λ cs. Contains cs v) (done-own a (store-of a) (ticket_id t) w.content (own-write co i p there issuing t has fa a w e)).0 among) in
        let same = is-this co i p there issuing t has w.pass w.by w.there e in
        let its : a + block * p.block ≡ p.at + w.sector = subst (λ (x : Pass). a + block * x.block ≡ x.at + w.sector) same w.place in
        let sector : w.sector ≡ s = omega arith in
        let source : ((guest-of s).writes ≡ (call_id i p, w.content) ∷ []) ⊎ (((guest-of s).writes ≡ []) × Contains (guest-of s).contents w.content) =
        subst (λ k. ((guest-of k).writes ≡ (call_id i p, w.content) ∷ []) ⊎ (((guest-of k).writes ≡ []) × Contains (guest-of k).contents w.content)) sector
        (subst (λ x. ((guest-of w.sector).writes ≡ (call_id i x, w.content) ∷ []) ⊎ (((guest-of w.sector).writes ≡ []) × Contains (guest-of w.sector).contents w.content)) same
        (subst (λ k. ((guest-of w.sector).writes ≡ (call_id k w.pass, w.content) ∷ []) ⊎ (((guest-of w.sector).writes ≡ []) × Contains (guest-of w.sector).contents w.content)) e w.source)) in
        subst (λ c. Contains (done-guest s).contents c) (sym is) (now-there s w.content source)

    -- the sector lies in the block that this pass wrote
    own-local : (s : ℕ) → s < length start → IsIn block p.block s → (v : Sector) → Contains (done-store (p.at + (s - block * p.block))).contents v → Contains (done-guest s).contents v
    own-local s inside in_p v among =
        let a = p.at + (s - block * p.block) in
        let range = in-place block p.block p.at s in_p in
        let f = in_p.0 in
        let place : a + block * p.block ≡ p.at + s = omega arith in
        let low : shape.storage_at ≤ a = (let inside = (co.placed.inside p.block p.at (placed co i p there issuing t has)).0 in omega arith) in
        elim (fa.filling a low) [
          | inl none ↦
              let not = none.nobody i p there in
              subst (λ cs. Contains cs v) (sym (guest-same s (λ w. not (fills-too co i p there issuing t has s a place w))))
              ((fa.stands s inside).local p.block p.at in_p (was-fresh a range.0 range.1 not) (placed co i p there issuing t has) v (subst (λ cs. Contains cs v) (store-same a low not) among))
          | inr w ↦ filled-there s a v place w (only-filler co i p there (region co i p there issuing t has) (writer co i p there issuing t has) a (track start history) (store-of a) range.0 range.1 w) among
        ]

    -- or it lies in another
    other-guest : (s b : ℕ) → IsIn block b s → b ≢ p.block → (done-guest s).contents ≡ (guest-of s).contents
    other-guest s b in_b ne = guest-same s (λ w. ne (same-block block b p.block s in_b (writing-block (stands co i p there issuing t has) w)))

    other-local : (s b x : ℕ) → s < length start → IsIn block b s → b ≢ p.block → slice_get fresh b ≡ Some true → places b ≡ Some x → (v : Sector) → Contains (done-store (x + (s - block * b))).contents v → Contains (done-guest s).contents v
    other-local s b x inside in_b ne is at v among =
        let a = x + (s - block * b) in
        let range = in-place block b x s in_b in
        let low : shape.storage_at ≤ a = (let inside = (co.placed.inside b x at).0 in omega arith) in
        let not : IsFilling p a → ⊥ = λ f. let own = filling-range (stands co i p there issuing t has) f in ne (same-place co.placed b p.block x p.at a at (placed co i p there issuing t has) range.0 range.1 own.0 own.1) in
        subst (λ cs. Contains cs v) (sym (other-guest s b in_b ne)) ((fa.stands s inside).local b x in_b is at v (subst (λ cs. Contains cs v) (store-same a low not) among))

    pub done-stands : (s : ℕ) → s < length start → AgreesInSector (requests shape fresh-next passes history) places rest s (follow s (track start history s) (Done (call_id i p))) (λ a. follow a (track (g.disk store).start (g.disk store).log a) (Done (ticket_id t)))
    done-stands s inside = record {
      local = λ b x in_b is at v among. elim (cases_eq b p.block) [
        | inl e ↦
            let x_is : p.at ≡ x = some-inj (sym (placed co i p there issuing t has) ∙ ap places (sym e) ∙ at) in
            own-local s inside (subst (λ k. IsIn block k s) e in_b) v (subst (λ k. Contains (done-store (k + (s - block * p.block))).contents v) (sym x_is) (subst (λ k. Contains (done-store (x + (s - block * k))).contents v) e among))
        | inr ne ↦ other-local s b x inside in_b ne (sym (next-freshens.others b ne) ∙ is) at v among
      ];
      other = λ b in_b is. let was = was-not b is in subst (λ cs. Contains cs (rest s)) (sym (other-guest s b in_b was.1)) ((fa.stands s inside).other b in_b was.0);
    }

    -- a failed write: what may stand there is as before
    pub broke-stands : (s : ℕ) → s < length start → AgreesInSector (requests shape fresh passes history) places rest s (follow s (track start history s) (Broke (call_id i p))) (λ a. follow a (track (g.disk store).start (g.disk store).log a) (Broke (ticket_id t)))
    broke-stands s inside = let old = fa.stands s inside in record {
      local = λ b x in_b is at v among. subst (λ cs. Contains cs v) (sym (broke-contents s (guest-of s) (call_id i p)))
          (old.local b x in_b is at v (subst (λ cs. Contains cs v) (broke-contents (x + (s - shape.block * b)) (store-of (x + (s - shape.block * b))) (ticket_id t)) among));
      other = λ b in_b is. subst (λ cs. Contains cs (rest s)) (sym (broke-contents s (guest-of s) (call_id i p))) (old.other b in_b is);
    }
