-- A pass that writes has its block alone, and the block's place in the store.
use Rattle.std.proofs.Common.{◌≡◌, ◌≢◌, ℕ, ◌+◌, ◌-◌, ◌*◌, ◌<◌, ◌≤◌, ◌⊎◌, Bool, true, false, List, [], ◌∷◌, ◌++◌, length, refl, sym, ◌∙◌, ap, subst, inl, inr, arith, Option, Some, slice_get, slice_set}
use Rattle.std.specs.List.{Contains}
use Rattle.std.proofs.lemmas.Bool.{cases_eq}
use Rattle.vd_law.specs.declared.entry.CallId.{CallId}
use Rattle.vd_law.specs.declared.entry.Sector.{Sector}
use Rattle.vd_law.specs.Entries.{Asked, Read, Write, Flush, Entry, call_of as caller_of}
use Rattle.vd_device.specs.declared.ticket.Ticket.{Ticket}
use Rattle.vd_passes.specs.declared.shape.Shape.{Shape}
use Rattle.vd_passes.specs.declared.pass.Pass.{Pass}
use Rattle.vd_passes.specs.declared.pass.Phase.{Phase}
use Rattle.vd_passes.specs.declared.pass.Phase.TheVariants.{Idle, Asked as HasAsked, Held, Fetching, Filled, Issuing, Looking, Flushing, Ready}
use Rattle.vd_passes.specs.Tracks.{Track, writes}
use Rattle.vd_passes.specs.Standings.{Standing, standing}
use Rattle.vd_passes.specs.Places.{IsIn}
use Rattle.vd_passes.specs.Passes.{has_region, TicketCovers, IsWriting, IsFilling, IsPiece, IsStored, IsStoreLook, IsBaseLook, HasInFlight, IsRequestOf, writes_in, IsAsHistorySays}
use Rattle.vd_passes.specs.Coherent.{IsCoherent, ArePassesApart, IsUnwritten, IsWritten, IsUnfilled, IsFilled}
use Rattle.vd_passes.proofs.Lists.{some-inj, get-set-same, get-set-other, at-set, length-set'}
use Rattle.vd_passes.proofs.Places.{same-block, in-piece, same-place}
use Rattle.vd_passes.proofs.Standing.{standing-other}
use Rattle.vd_device.specs.declared.store.Store.{Ghosts as StoreGhosts}
use Rattle.vd_device.specs.declared.base.Base.{Ghosts as BaseGhosts}
use Rattle.vd_passes.specs.Requests.{requests}

pub region-of : (phase as_known : Phase) → has_region as_known ≡ true → phase ≡ as_known → has_region phase ≡ true
region-of phase as_known has is = ap has_region is ∙ has

-- What is known of one pass.
module _ {shape : Shape} {fresh : List Bool} {places : ℕ → Option ℕ} {t : Standing} {p : Pass} (stands : IsAsHistorySays shape fresh places t p) where
  -- what it has in flight, in a phase that is known
  pub write-ticket : p.phase ≡ Issuing → HasInFlight Issuing shape fresh p
  write-ticket is = subst (λ ph. HasInFlight ph shape fresh p) is stands.ticket

  pub fetch-ticket : p.phase ≡ Fetching → HasInFlight Fetching shape fresh p
  fetch-ticket is = subst (λ ph. HasInFlight ph shape fresh p) is stands.ticket

  pub filled-ticket : p.phase ≡ Filled → HasInFlight Filled shape fresh p
  filled-ticket is = subst (λ ph. HasInFlight ph shape fresh p) is stands.ticket

  pub look-ticket : p.phase ≡ Looking → HasInFlight Looking shape fresh p
  look-ticket is = subst (λ ph. HasInFlight ph shape fresh p) is stands.ticket

  pub held-ticket : p.phase ≡ Held → HasInFlight Held shape fresh p
  held-ticket is = subst (λ ph. HasInFlight ph shape fresh p) is stands.ticket

  -- a pass that issues serves a write, and its block has its place
  pub issuing-write : p.phase ≡ Issuing → p.write ≡ true
  issuing-write is = stands.write (ap writes_in is)

  pub issuing-place : p.phase ≡ Issuing → places p.block ≡ Some p.at
  issuing-place is = stands.at (region-of _ Issuing refl is) (inl (issuing-write is))

  -- the sector that it writes lies in its block
  pub writing-block : {s : ℕ} → IsWriting p s → IsIn shape.block p.block s
  writing-block {s} w = in-piece shape p s (stands.piece (region-of _ Issuing refl w.phase)) w.from w.to

-- what is stored lies in the place of the block
pub stored-place : (shape : Shape) (fresh : List Bool) (p : Pass) (t : Ticket) (a : ℕ) → IsPiece shape p → IsStored shape.block fresh p t → t.first ≤ a → a < t.first + t.count → (p.at ≤ a) × (a < p.at + shape.block)
stored-place shape fresh p t a piece (inl own) from to = let f = piece.from in let g = piece.to in let e = own.0 in let c = own.1 in (omega arith, omega arith)
stored-place shape fresh p t a piece (inr whole) from to = let e = whole.0 in let c = whole.1 in (omega arith, omega arith)

-- the guest's sector of which sector `a` of the store is the place
pub sector-at : (block b at a : ℕ) → at ≤ a → a < at + block → (s : ℕ) × (a + block * b ≡ at + s) × IsIn block b s
sector-at block b at a from to = (block * b + (a - at), omega arith, (omega arith, omega arith))

module _ {shape : Shape} {fresh : List Bool} {places : ℕ → Option ℕ} {t : Standing} {p : Pass} (stands : IsAsHistorySays shape fresh places t p) where
  -- the sector of the store that it fills lies in its block's place
  pub filling-range : {a : ℕ} → IsFilling p a → (p.at ≤ a) × (a < p.at + shape.block)
  filling-range {a} f =
      let has = write-ticket stands f.phase in
      let covers : TicketCovers (Some has.0) a = subst (λ o. TicketCovers o a) has.1 f.covers in
      stored-place shape fresh p has.0 a (stands.piece (region-of _ Issuing refl f.phase)) has.4 covers.0 covers.1

  -- and is the place of a sector of the guest in that block
  pub filling-place : {a : ℕ} → IsFilling p a → (s : ℕ) × (a + shape.block * p.block ≡ p.at + s) × IsIn shape.block p.block s
  filling-place {a} f = let range = filling-range f in sector-at shape.block p.block p.at a range.0 range.1

-- What follows of one pass that holds the region of its block.
module _ {shape : Shape} {fresh : List Bool} {places : ℕ → Option ℕ} {passes : List Pass} {history : List Entry} {S B : Type 0} {g : StoreGhosts S} {h : BaseGhosts B} {store : S} {base : B}
    (co : IsCoherent g h (requests shape fresh passes history) places store base) (i : ℕ) (p : Pass) (there : slice_get passes i ≡ Some p)
    (holds : has_region p.phase ≡ true) where
  -- where another holds a region there too, both read
  pub both-read : (j : ℕ) (q : Pass) → slice_get passes j ≡ Some q → has_region q.phase ≡ true → q.block ≡ p.block → j ≢ i → (p.write ≡ false) × (q.write ≡ false)
  both-read j q at has same ne = co.apart i j p q there at (λ e. ne (sym e)) holds has (sym same)

  -- whoever fills a sector in the place of its block has that block
  pub filler-block : (a : ℕ) (guest : ℕ → Track) (store : Track) → places p.block ≡ Some p.at → p.at ≤ a → a < p.at + shape.block → (w : IsFilled shape.block passes a guest store) → w.pass.block ≡ p.block
  filler-block a guest store placed from to w =
      let stands = co.each w.by w.pass w.there in
      let range = filling-range stands w.filling in
      same-place co.placed w.pass.block p.block w.pass.at p.at a (issuing-place stands w.filling.phase) placed range.0 range.1 from to

  -- nobody writes or fills what a pass reads
  region-unwritten : p.write ≡ false → (j : ℕ) (q : Pass) → slice_get passes j ≡ Some q → q.phase ≡ Issuing → q.block ≡ p.block → ⊥
  region-unwritten reads j q at is same = let writes = issuing-write (co.each j q at) is in elim (cases_eq j i) [
    | inl e ↦ let this = some-inj (sym at ∙ ap (slice_get passes) e ∙ there) in let same_write = ap (λ (x : Pass). x.write) this in cc
    | inr ne ↦ let no = (both-read j q at (region-of _ Issuing refl is) same ne).1 in cc
  ]

  pub no-writer : p.write ≡ false → (s : ℕ) → IsIn shape.block p.block s → IsWritten passes s (writes history s) → ⊥
  no-writer reads s in_p w = region-unwritten reads w.by w.pass w.there w.writing.phase (same-block shape.block w.pass.block p.block s (writing-block (co.each w.by w.pass w.there) w.writing) in_p)

  pub no-filler : p.write ≡ false → (a : ℕ) (guest : ℕ → Track) (store : Track) → places p.block ≡ Some p.at → p.at ≤ a → a < p.at + shape.block → IsFilled shape.block passes a guest store → ⊥
  no-filler reads a guest store placed from to w = region-unwritten reads w.by w.pass w.there w.filling.phase (filler-block a guest store placed from to w)

-- What follows of one that holds it to write.
module _ {shape : Shape} {fresh : List Bool} {places : ℕ → Option ℕ} {passes : List Pass} {history : List Entry} {S B : Type 0} {g : StoreGhosts S} {h : BaseGhosts B} {store : S} {base : B}
    (co : IsCoherent g h (requests shape fresh passes history) places store base) (i : ℕ) (p : Pass) (there : slice_get passes i ≡ Some p)
    (holds : has_region p.phase ≡ true) (write : p.write ≡ true) where
  -- no other pass holds a region of its block
  pub alone : (j : ℕ) (q : Pass) → slice_get passes j ≡ Some q → has_region q.phase ≡ true → q.block ≡ p.block → j ≡ i
  alone j q at has same = elim (cases_eq j i) [
    | inl e ↦ e
    | inr ne ↦ absurd (let no = (both-read co i p there holds j q at has same ne).0 in cc)
  ]

  pub only-writer : (s : ℕ) → IsIn shape.block p.block s → (w : IsWritten passes s (writes history s)) → w.by ≡ i
  only-writer s in_p w = alone w.by w.pass w.there (region-of _ Issuing refl w.writing.phase) (same-block shape.block w.pass.block p.block s (writing-block (co.each w.by w.pass w.there) w.writing) in_p)

  pub only-filler : (a : ℕ) (guest : ℕ → Track) (store : Track) → p.at ≤ a → a < p.at + shape.block → (w : IsFilled shape.block passes a guest store) → w.by ≡ i
  only-filler a guest store from to w = alone w.by w.pass w.there (region-of _ Issuing refl w.filling.phase) (filler-block co i p there holds a guest store ((co.each i p there).at holds (inl write)) from to w)

-- Where a pass changes that neither wrote the sector before nor does so after, the others are as before.
module _ (passes : List Pass) (i : ℕ) (p p' : Pass) (there : slice_get passes i ≡ Some p) where
  pub unwritten-set : (s : ℕ) (ws ws' : List (CallId × Sector)) → IsUnwritten passes s ws → (IsWriting p' s → ⊥) → ws' ≡ [] → IsUnwritten (slice_set passes i p') s ws'
  unwritten-set s ws ws' old not none = record {
    nobody = λ j q at w. elim (at-set passes i j p' p q there at) [
      | inl new ↦ not (subst (λ x. IsWriting x s) new.1 w)
      | inr same ↦ old.nobody j q same.1 w
    ];
    none = none;
  }

  pub written-set : (s : ℕ) (ws ws' : List (CallId × Sector)) (old : IsWritten passes s ws) → (old.by ≡ i → ⊥) → ws' ≡ ws → IsWritten (slice_set passes i p') s ws'
  written-set s ws ws' old not same = record {
    by = old.by;
    pass = old.pass;
    there = get-set-other passes i old.by p' not ∙ old.there;
    writing = old.writing;
    content = old.content;
    one = same ∙ old.one;
  }

  pub unfilled-set : (a : ℕ) (store store' : Track) → IsUnfilled passes a store → (IsFilling p' a → ⊥) → store'.writes ≡ [] → IsUnfilled (slice_set passes i p') a store'
  unfilled-set a store store' old not none = record {
    nobody = λ j q at w. elim (at-set passes i j p' p q there at) [
      | inl new ↦ not (subst (λ x. IsFilling x a) new.1 w)
      | inr same ↦ old.nobody j q same.1 w
    ];
    none = none;
  }

  pub filled-set : (block a : ℕ) (guest guest' : ℕ → Track) (store store' : Track) (old : IsFilled block passes a guest store) → (old.by ≡ i → ⊥) → store'.writes ≡ store.writes
      → (guest' old.sector).writes ≡ (guest old.sector).writes → ((v : Sector) → Contains (guest old.sector).contents v → Contains (guest' old.sector).contents v) → IsFilled block (slice_set passes i p') a guest' store'
  filled-set block a guest guest' store store' old not same same' more = record {
    by = old.by;
    pass = old.pass;
    there = get-set-other passes i old.by p' not ∙ old.there;
    ticket = old.ticket;
    has = old.has;
    filling = old.filling;
    content = old.content;
    one = same ∙ old.one;
    sector = old.sector;
    place = old.place;
    in_block = old.in_block;
    source = elim old.source [
      | inl own ↦ inl (same' ∙ own)
      | inr other ↦ inr (same' ∙ other.0, more old.content other.1)
    ];
  }

pub request-kept : (p q : Pass) (r : Asked) → q.write ≡ p.write → q.first ≡ p.first → q.count ≡ p.count → q.flush ≡ p.flush → IsRequestOf p r → IsRequestOf q r
request-kept p q (Read first count) w f c g is = (w ∙ is.0, is.1 ∙ sym f, is.2 ∙ sym c, g ∙ is.3)
request-kept p q (Write first content) w f c g is = (w ∙ is.0, is.1 ∙ sym f, is.2 ∙ sym c, g ∙ is.3)
request-kept p q Flush w f c g is = (w ∙ is.0, f ∙ is.1, c ∙ is.2, g ∙ is.3)

-- A pass that changes keeps apart from the others where it holds no region that it didn't hold.
pub apart-set : (passes : List Pass) (i : ℕ) (p p' : Pass) → slice_get passes i ≡ Some p
    → ((j k : ℕ) (q r : Pass) → slice_get passes j ≡ Some q → slice_get passes k ≡ Some r → j ≢ k → ArePassesApart q r)
    → ((k : ℕ) (r : Pass) → slice_get passes k ≡ Some r → i ≢ k → ArePassesApart p' r)
    → (j k : ℕ) (q r : Pass) → slice_get (slice_set passes i p') j ≡ Some q → slice_get (slice_set passes i p') k ≡ Some r → j ≢ k → ArePassesApart q r
apart-set passes i p p' there old new j k q r at_j at_k ne = elim (at-set passes i j p' p q there at_j) [
  | inl a ↦ elim (at-set passes i k p' p r there at_k) [
    | inl b ↦ absurd (ne (a.0 ∙ sym b.0))
    | inr b ↦ subst (λ x. ArePassesApart x r) (sym a.1) (new k r b.1 (λ e. b.0 (sym e)))
  ]
  | inr a ↦ elim (at-set passes i k p' p r there at_k) [
    | inl b ↦ λ has_q has_r same. let c = subst (λ x. ArePassesApart x q) (sym b.1) (new j q a.1 (λ e. a.0 (sym e))) has_r has_q (sym same) in (c.1, c.0)
    | inr b ↦ old j k q r a.1 b.1 ne
  ]
]

-- The passes stand as the history says after a step of one of them,
pub each-step : (shape : Shape) (fresh : List Bool) (places : ℕ → Option ℕ) (passes : List Pass) (history history' : List Entry) (i : ℕ) (p p' : Pass) → slice_get passes i ≡ Some p
    → ((j : ℕ) → j ≢ i → standing history' j ≡ standing history j)
    → ((j : ℕ) (q : Pass) → slice_get passes j ≡ Some q → j ≢ i → IsAsHistorySays shape fresh places (standing history j) q)
    → IsAsHistorySays shape fresh places (standing history' i) p'
    → (j : ℕ) (q : Pass) → slice_get (slice_set passes i p') j ≡ Some q → IsAsHistorySays shape fresh places (standing history' j) q
each-step shape fresh places passes history history' i p p' there others old new j q at_j = elim (at-set passes i j p' p q there at_j) [
  | inl a ↦ subst (λ x. IsAsHistorySays shape fresh places (standing history' j) x) (sym a.1) (subst (λ k. IsAsHistorySays shape fresh places (standing history' k) p') (sym a.0) new)
  | inr a ↦ subst (λ h. IsAsHistorySays shape fresh places h q) (sym (others j a.0)) (old j q a.1 a.0)
]

-- with an entry,
pub each-set : (shape : Shape) (fresh : List Bool) (places : ℕ → Option ℕ) (passes : List Pass) (history : List Entry) (e : Entry) (i : ℕ) (p p' : Pass) → slice_get passes i ≡ Some p → (caller_of e).pass ≡ i
    → ((j : ℕ) (q : Pass) → slice_get passes j ≡ Some q → j ≢ i → IsAsHistorySays shape fresh places (standing history j) q)
    → IsAsHistorySays shape fresh places (standing (history ++ e ∷ []) i) p'
    → (j : ℕ) (q : Pass) → slice_get (slice_set passes i p') j ≡ Some q → IsAsHistorySays shape fresh places (standing (history ++ e ∷ []) j) q
each-set shape fresh places passes history e i p p' there of = each-step shape fresh places passes history (history ++ e ∷ []) i p p' there (λ j ne. standing-other history e j (λ same. ne (sym same ∙ of)))

-- and with none
pub each-quiet : (shape : Shape) (fresh : List Bool) (places : ℕ → Option ℕ) (passes : List Pass) (history : List Entry) (i : ℕ) (p p' : Pass) → slice_get passes i ≡ Some p
    → ((j : ℕ) (q : Pass) → slice_get passes j ≡ Some q → j ≢ i → IsAsHistorySays shape fresh places (standing history j) q)
    → IsAsHistorySays shape fresh places (standing history i) p'
    → (j : ℕ) (q : Pass) → slice_get (slice_set passes i p') j ≡ Some q → IsAsHistorySays shape fresh places (standing history j) q
each-quiet shape fresh places passes history i p p' there = each-step shape fresh places passes history history i p p' there (λ j ne. refl)

-- block b is fresh from now on, and the others are as they were
pub record Freshens (fresh fresh' : List Bool) (b : ℕ) : Type 0 where
  pub size : length fresh' ≡ length fresh
  pub others : (c : ℕ) → c ≢ b → slice_get fresh' c ≡ slice_get fresh c
  pub now : slice_get fresh' b ≡ Some true

pub freshens-set : (fresh : List Bool) (b : ℕ) (old : Bool) → slice_get fresh b ≡ Some old → Freshens fresh (slice_set fresh b true) b
freshens-set fresh b old there = record { size = length-set' fresh b true; others = λ c ne. get-set-other fresh b c true ne; now = get-set-same fresh b true old there }

known : {fresh fresh' : List Bool} {b : ℕ} → Freshens fresh fresh' b → (c : ℕ) (v : Bool) → c ≢ b → slice_get fresh c ≡ Some v → slice_get fresh' c ≡ Some v
known {fresh} {fresh'} {b} freshens c v ne is = freshens.others c ne ∙ is

stored-freshens : {fresh fresh' : List Bool} {b : ℕ} → Freshens fresh fresh' b → (block : ℕ) (p : Pass) (t : Ticket) → p.block ≢ b → IsStored block fresh p t → IsStored block fresh' p t
stored-freshens {fresh} {fresh'} {b} f block p t ne (inl own) = inl (own.0, own.1, elim own.2 [ inl is ↦ inl (known f p.block true ne is) | inr whole ↦ inr whole ])
stored-freshens {fresh} {fresh'} {b} f block p t ne (inr whole) = inr (whole.0, whole.1, known f p.block false ne whole.2)

look-freshens : {fresh fresh' : List Bool} {b : ℕ} → Freshens fresh fresh' b → (shape : Shape) (p : Pass) (t : Ticket) → p.block ≢ b → IsStoreLook shape fresh p t ⊎ IsBaseLook shape fresh p t → IsStoreLook shape fresh' p t ⊎ IsBaseLook shape fresh' p t
look-freshens {fresh} {fresh'} {b} f shape p t ne (inl store) = inl (record { has = store.has; none = store.none; kind = store.kind; first = store.first; count = store.count; local = known f p.block true ne store.local })
look-freshens {fresh} {fresh'} {b} f shape p t ne (inr base) = inr (record { has = base.has; none = base.none; kind = base.kind; first = base.first; count = base.count; not_fresh = known f p.block false ne base.not_fresh })

ticket-freshens : {fresh fresh' : List Bool} {b : ℕ} → Freshens fresh fresh' b → (ph : Phase) (shape : Shape) (p : Pass) → (has_region ph ≡ true → p.block ≢ b) → HasInFlight ph shape fresh p → HasInFlight ph shape fresh' p
ticket-freshens {fresh} {fresh'} {b} f Idle shape p ne has = has
ticket-freshens {fresh} {fresh'} {b} f HasAsked shape p ne has = has
ticket-freshens {fresh} {fresh'} {b} f Held shape p ne has = has
ticket-freshens {fresh} {fresh'} {b} f Fetching shape p ne has = (has.0, has.1, has.2, has.3, known f p.block false (ne refl) has.4)
ticket-freshens {fresh} {fresh'} {b} f Filled shape p ne has = (has.0, known f p.block false (ne refl) has.1)
ticket-freshens {fresh} {fresh'} {b} f Issuing shape p ne has = (has.0, has.1, has.2, has.3, stored-freshens f shape.block p has.0 (ne refl) has.4)
ticket-freshens {fresh} {fresh'} {b} f Looking shape p ne has = (has.0, look-freshens f shape p has.0 (ne refl) has.1)
ticket-freshens {fresh} {fresh'} {b} f Flushing shape p ne has = has
ticket-freshens {fresh} {fresh'} {b} f Ready shape p ne has = has

-- A pass that holds no region of the block stands as it did.
pub stands-freshens : {shape : Shape} {fresh fresh' : List Bool} {b : ℕ} {places : ℕ → Option ℕ} {t : Standing} {p : Pass} → Freshens fresh fresh' b → (has_region p.phase ≡ true → p.block ≢ b)
    → IsAsHistorySays shape fresh places t p → IsAsHistorySays shape fresh' places t p
stands-freshens {shape} {fresh} {fresh'} {b} {places} {t} {p} freshens ne stands = record {
  call = stands.call;
  idle = stands.idle;
  busy = stands.busy;
  unanswered = stands.unanswered;
  done = stands.done;
  range = stands.range;
  pending = stands.pending;
  whole = stands.whole;
  ready = stands.ready;
  write = stands.write;
  read = stands.read;
  left = stands.left;
  flush = stands.flush;
  no_flush = stands.no_flush;
  unstarted = stands.unstarted;
  placed = stands.placed;
  piece = stands.piece;
  at = λ has why. stands.at has (elim why [ inl write ↦ inl write | inr is ↦ inr (sym (freshens.others p.block (ne has)) ∙ is) ]);
  ticket = ticket-freshens freshens p.phase shape p ne stands.ticket;
  buffer = stands.buffer;
}
