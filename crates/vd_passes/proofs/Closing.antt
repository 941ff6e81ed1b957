-- A pass gives up its region, with an entry that closes its write.
use Rattle.std.proofs.Common.{◌≡◌, ◌≢◌, ℕ, ◌+◌, ◌-◌, ◌*◌, ◌<◌, ◌≤◌, ◌⊎◌, Bool, true, false, List, [], ◌∷◌, ◌++◌, length, refl, sym, ◌∙◌, ap, subst, inl, inr, arith, Option, Some, None, slice_get, slice_set}
use Rattle.std.specs.List.{Contains}
use Rattle.std.proofs.lemmas.Bool.{cases_eq}
use Rattle.vd_law.specs.declared.entry.CallId.{CallId}
use Rattle.vd_law.specs.declared.entry.Sector.{Sector}
use Rattle.vd_law.specs.Entries.{Entry, Done, Broke, same_call, past, call_of as caller_of}
use Rattle.vd_law.specs.Rules.{IsRegular, IsShown}
use Rattle.vd_device.specs.declared.ticket.Ticket.{Ticket}
use Rattle.vd_device.specs.declared.ticket.Kind.TheVariants.{Write as WriteKind}
use Rattle.vd_device.specs.Tickets.{ticket_id, Takes}
use Rattle.vd_device.specs.Disks.{Adds}
use Rattle.vd_passes.specs.declared.shape.Shape.{Shape}
use Rattle.vd_passes.specs.declared.pass.Pass.{Pass}
use Rattle.vd_passes.specs.declared.pass.Phase.TheVariants.{Filled, Issuing}
use Rattle.vd_passes.specs.Tracks.{Track, track, writes, follow}
use Rattle.vd_passes.specs.Standings.{standing}
use Rattle.vd_passes.specs.Passes.{has_region, call_id, TicketCovers, IsWriting, IsFilling, IsPiece, IsStored, IsAsHistorySays}
use Rattle.vd_passes.specs.Coherent.{IsCoherent, IsFaithful, AgreesInSector, IsUnwritten, IsWritten, IsUnfilled, IsFilled}
use Rattle.vd_passes.proofs.Lists.{some-inj, at-set, length-set', tickets-taken, fetches-same}
use Rattle.vd_passes.proofs.Growing.{AreAlike}
use Rattle.vd_passes.proofs.Places.{same-block, same-place}
use Rattle.vd_passes.proofs.Standing.{shown-push}
use Rattle.vd_passes.proofs.Tracks.{track-more, disk-track, same-false, done-none, done-own, done-other, broke-none, broke-own, broke-other}
use Rattle.vd_passes.proofs.Regions.{region-of, write-ticket, issuing-write, issuing-place, writing-block, filling-range, alone, unwritten-set, written-set, unfilled-set, filled-set, apart-set, each-set}
use Rattle.vd_device.specs.declared.store.Store.{Ghosts as StoreGhosts}
use Rattle.vd_device.specs.declared.base.Base.{Ghosts as BaseGhosts}
use Rattle.vd_passes.specs.Requests.{requests}

-- an entry closes the write of one call and no other
pub record Closes (id : CallId) (ws ws' : List (CallId × Sector)) : Type 0 where
  pub none : ws ≡ [] → ws' ≡ []
  pub own : (c : Sector) → ws ≡ (id, c) ∷ [] → ws' ≡ []
  pub other : (o : CallId) (c : Sector) → ws ≡ (o, c) ∷ [] → same_call o id ≡ false → ws' ≡ ws

pub done-closes : (s : ℕ) (t : Track) (id : CallId) → Closes id t.writes (follow s t (Done id)).writes
done-closes s t id = record {
  none = λ h. (done-none s t id h).1;
  own = λ c h. (done-own s t id c h).1;
  other = λ o c h ne. (done-other s t id o c h ne).1;
}

pub broke-closes : (s : ℕ) (t : Track) (id : CallId) → Closes id t.writes (follow s t (Broke id)).writes
broke-closes s t id = record {
  none = broke-none s t id;
  own = broke-own s t id;
  other = broke-other s t id;
}

module _ {shape : Shape} {fresh : List Bool} {places : ℕ → Option ℕ} {passes : List Pass} {history : List Entry} {S B : Type 0} {g : StoreGhosts S} {h : BaseGhosts B} {store : S} {base : B}
    (co : IsCoherent g h (requests shape fresh passes history) places store base) (i : ℕ) (p : Pass) (there : slice_get passes i ≡ Some p)
    (issuing : p.phase ≡ Issuing) (t : Ticket) (has : p.ticket ≡ Some t) where
  pub stands : IsAsHistorySays shape fresh places (standing history i) p
  stands = co.each i p there

  pub region : has_region p.phase ≡ true
  region = region-of _ Issuing refl issuing

  pub piece : IsPiece shape p
  piece = stands.piece region

  pub writer : p.write ≡ true
  writer = issuing-write stands issuing

  pub placed : places p.block ≡ Some p.at
  placed = issuing-place stands issuing

  pub stored : IsStored shape.block fresh p t
  stored = let h = write-ticket stands issuing in subst (λ u. IsStored shape.block fresh p u) (some-inj (sym h.1 ∙ has)) h.4

  pub is-write : t.kind ≡ WriteKind
  is-write = let h = write-ticket stands issuing in subst (λ (u : Ticket). u.kind ≡ WriteKind) (some-inj (sym h.1 ∙ has)) h.3

  pub no-fetch : p.fetch ≡ None
  no-fetch = (write-ticket stands issuing).2

  -- the pass found at its number is this one
  pub is-this : (q : Pass) (j : ℕ) → slice_get passes j ≡ Some q → j ≡ i → q ≡ p
  is-this q j at e = some-inj (sym at ∙ ap (slice_get passes) e ∙ there)

  pub other-call : (w : Pass) (by : ℕ) → (by ≡ i → ⊥) → same_call (call_id by w) (call_id i p) ≡ false
  other-call w by ne = same-false (call_id by w) (call_id i p) (λ e f. ne e)

  -- the pass fills what its ticket covers
  pub fills : (a : ℕ) → t.first ≤ a → a < t.first + t.count → IsFilling p a
  fills a from to = record { phase = issuing; covers = subst (λ o. TicketCovers o a) (sym has) (from, to) }

  -- the place of a sector that it writes is one that it fills
  pub fills-too : (s a : ℕ) → a + shape.block * p.block ≡ p.at + s → IsWriting p s → IsFilling p a
  fills-too s a place w = elim stored [
    | inl own ↦ let e = own.0 in let c = own.1 in let f = w.from in let g = w.to in fills a (omega arith) (omega arith)
    | inr whole ↦ let e = whole.0 in let c = whole.1 in let m = writing-block stands w in let f = m.0 in let g = m.1 in fills a (omega arith) (omega arith)
  ]

  -- after a close nobody writes in its block
  module _ (p' : Pass) (freed : has_region p'.phase ≡ false) where
    idle-now : p'.phase ≢ Issuing
    idle-now e = let h = region-of _ Issuing refl e in cc

    none-else : (j : ℕ) (q : Pass) → slice_get (slice_set passes i p') j ≡ Some q → q.phase ≡ Issuing → (slice_get passes j ≡ Some q → q.block ≡ p.block) → ⊥
    none-else j q at is same = elim (at-set passes i j p' p q there at) [
      | inl new ↦ idle-now (ap (λ (x : Pass). x.phase) (sym new.1) ∙ is)
      | inr old ↦ old.0 (alone co i p there region writer j q old.1 (region-of _ Issuing refl is) (same old.1))
    ]

    pub close-guest : (s : ℕ) (ws' : List (CallId × Sector)) → Closes (call_id i p) (writes history s) ws' → IsUnwritten (slice_set passes i p') s ws' ⊎ IsWritten (slice_set passes i p') s ws'
    close-guest s ws' closes = elim (co.guest s) [
      | inl none ↦ inl (unwritten-set passes i p p' there s _ _ none (λ w. idle-now w.phase) (closes.none none.none))
      | inr w ↦ elim (cases_eq w.by i) [
        | inl e ↦
            let same = is-this w.pass w.by w.there e in
            let writing = subst (λ x. IsWriting x s) same w.writing in
            let one : writes history s ≡ (call_id i p, w.content) ∷ [] = subst (λ x. writes history s ≡ (call_id i x, w.content) ∷ []) same (subst (λ k. writes history s ≡ (call_id k w.pass, w.content) ∷ []) e w.one) in
            inl (record {
              nobody = λ j q at is. none-else j q at is.phase (λ old. same-block shape.block q.block p.block s (writing-block (co.each j q old) is) (writing-block stands writing));
              none = closes.own w.content one;
            })
        | inr ne ↦ inr (written-set passes i p p' there s _ _ w ne (closes.other (call_id w.by w.pass) w.content w.one (other-call w.pass w.by ne)))
      ]
    ]

    pub close-coherent : (e : Entry) (fresh' : List Bool) (store' : S) → AreAlike g h store store' base base → (caller_of e).pass ≡ i → IsRegular (shape.block * shape.blocks) (history ++ e ∷ [])
        → ((s : ℕ) → Closes (call_id i p) (writes history s) (writes (history ++ e ∷ []) s))
        → length fresh' ≡ length fresh → ((b : ℕ) → b ≢ p.block → slice_get fresh' b ≡ slice_get fresh b)
        → ((j : ℕ) (q : Pass) → slice_get passes j ≡ Some q → j ≢ i → IsAsHistorySays shape fresh' places (standing history j) q)
        → IsAsHistorySays shape fresh' places (standing (history ++ e ∷ []) i) p' → p'.ticket ≡ None → p'.fetch ≡ None → Takes t (g.flight store) (g.flight store')
        → IsCoherent g h (requests shape fresh' (slice_set passes i p') (history ++ e ∷ [])) places store' base
    close-coherent e fresh' store' alike of regular closes size same each next no_ticket no_fetch takes = record {
      shaped = rw alike.sectors co.shaped;
      size = size ∙ co.size;
      placed = rw alike.sectors co.placed;
      fresh_placed = λ b is. elim (cases_eq b p.block) [
        | inl this ↦ (p.at, ap places this ∙ placed)
        | inr ne ↦ co.fresh_placed b (sym (same b ne) ∙ is)
      ];
      regular = regular;
      few = rw (length-set' passes i p') co.few;
      deep = rw alike.depth co.deep;
      base_deep = co.base_deep;
      each = each-set shape fresh' places passes history e i p p' there of each next;
      apart = apart-set passes i p p' there co.apart (λ k r at ne has_p. absurd (cc));
      flight = takes _ _ (tickets-taken passes i p p' t there has no_ticket) co.flight;
      base_flight = subst (h.flight base) (sym (fetches-same passes i p p' there (no_fetch ∙ sym no-fetch))) co.base_flight;
      guest = λ s. close-guest s _ (closes s);
    }

  -- Where the store tells.
  module _ {start : List Sector} {rest : ℕ → Sector} (fa : IsFaithful g start rest (requests shape fresh passes history) places store) where
    abbrev guest-of : ℕ → Track
    guest-of s = track start history s

    abbrev store-of : ℕ → Track
    store-of a = track (g.disk store).start (g.disk store).log a

    -- the ticket found at a pass that is this one is this ticket
    pub this-ticket : (q : Pass) (j : ℕ) (u : Ticket) → slice_get passes j ≡ Some q → q.ticket ≡ Some u → j ≡ i → u ≡ t
    this-ticket q j u at is e = some-inj (sym is ∙ ap (λ (x : Pass). x.ticket) (is-this q j at e) ∙ has)

    pub other-ticket : (q : Pass) (j : ℕ) (u : Ticket) → slice_get passes j ≡ Some q → q.ticket ≡ Some u → (j ≡ i → ⊥) → same_call (ticket_id u) (ticket_id t) ≡ false
    other-ticket q j u at is ne = same-false (ticket_id u) (ticket_id t) (λ e f. fa.distinct j i q p u t at there ne is has f)

    -- what this pass fills, with its own ticket
    pub own-write : (a : ℕ) (w : IsFilled shape.block passes a (track start history) (store-of a)) → w.by ≡ i → (store-of a).writes ≡ (ticket_id t, w.content) ∷ []
    own-write a w e = subst (λ u. (store-of a).writes ≡ (ticket_id u, w.content) ∷ []) (this-ticket w.pass w.by w.ticket w.there w.has e) w.one

    -- the guest's writes on a sector whose place another pass fills stay
    guest-stays : (a : ℕ) (ws' : List (CallId × Sector)) (w : IsFilled shape.block passes a (track start history) (store-of a)) → Closes (call_id i p) (guest-of w.sector).writes ws' → (w.by ≡ i → ⊥) → ws' ≡ (guest-of w.sector).writes
    guest-stays a ws' w closes ne = elim w.source [
      | inl own ↦ closes.other (call_id w.by w.pass) w.content own (other-call w.pass w.by ne)
      | inr fill ↦ closes.none fill.0 ∙ sym fill.0
    ]

    module _ (p' : Pass) (freed : has_region p'.phase ≡ false) where
      pub close-filling : (a : ℕ) → shape.storage_at ≤ a → (guest' : ℕ → Track) (store' : Track) → ((s : ℕ) → Closes (call_id i p) (guest-of s).writes (guest' s).writes) → Closes (ticket_id t) (store-of a).writes store'.writes
          → ((w : IsFilled shape.block passes a (track start history) (store-of a)) → (w.by ≡ i → ⊥) → (v : Sector) → Contains (guest-of w.sector).contents v → Contains (guest' w.sector).contents v)
          → IsUnfilled (slice_set passes i p') a store' ⊎ IsFilled shape.block (slice_set passes i p') a guest' store'
      close-filling a low guest' store' closes closes' more = elim (fa.filling a low) [
        | inl none ↦ inl (unfilled-set passes i p p' there a _ _ none (λ w. idle-now p' freed w.phase) (closes'.none none.none))
        | inr w ↦ elim (cases_eq w.by i) [
          | inl e ↦
              let range = filling-range stands (subst (λ x. IsFilling x a) (is-this w.pass w.by w.there e) w.filling) in
              inl (record {
                nobody = λ j q at is. none-else p' freed j q at is.phase (λ old.
                    let its = co.each j q old in let other = filling-range its is in
                    same-place co.placed q.block p.block q.at p.at a (issuing-place its is.phase) placed other.0 other.1 range.0 range.1);
                none = closes'.own w.content (own-write a w e);
              })
          | inr ne ↦ inr (filled-set passes i p p' there shape.block a (track start history) guest' (store-of a) store' w ne
              (closes'.other (ticket_id w.ticket) w.content w.one (other-ticket w.pass w.by w.ticket w.there w.has ne)) (guest-stays a _ w (closes w.sector) ne) (more w ne))
        ]
      ]

      pub close-faithful : {store' : S} → g.last store' ≡ g.last store → (e e' : Entry) (fresh' : List Bool) → p'.ticket ≡ None → IsShown start (past history) e → Adds e' (g.disk store) (g.disk store')
          → ((s : ℕ) → Closes (call_id i p) (guest-of s).writes (follow s (guest-of s) e).writes) → ((a : ℕ) → Closes (ticket_id t) (store-of a).writes (follow a (store-of a) e').writes)
          → ((s : ℕ) → s < length start → AgreesInSector (requests shape fresh' passes history) places rest s (follow s (guest-of s) e) (λ a. follow a (store-of a) e'))
          → ((a : ℕ) (w : IsFilled shape.block passes a (track start history) (store-of a)) → (w.by ≡ i → ⊥) → (v : Sector) → Contains (guest-of w.sector).contents v → Contains (follow w.sector (guest-of w.sector) e).contents v)
          → IsFaithful g start rest (requests shape fresh' (slice_set passes i p') (history ++ e ∷ [])) places store'
      close-faithful {store'} same e e' fresh' no_ticket true_to adds closes closes' stands' more = record {
        size = fa.size;
        shown = shown-push start history e fa.shown true_to;
        numbers = λ j q u at is. elim (at-set passes i j p' p q there at) [
          | inl a ↦ absurd (let n = sym is ∙ ap (λ (x : Pass). x.ticket) a.1 ∙ no_ticket in cc)
          | inr a ↦ rw same (fa.numbers j q u a.1 is)
        ];
        distinct = λ j k q r u v at_j at_k ne has_u has_v. elim (at-set passes i j p' p q there at_j) [
          | inl a ↦ absurd (let n = sym has_u ∙ ap (λ (x : Pass). x.ticket) a.1 ∙ no_ticket in cc)
          | inr a ↦ elim (at-set passes i k p' p r there at_k) [
            | inl b ↦ absurd (let n = sym has_v ∙ ap (λ (x : Pass). x.ticket) b.1 ∙ no_ticket in cc)
            | inr b ↦ fa.distinct j k q r u v a.1 b.1 ne has_u has_v
          ]
        ];
        stands = λ s inside. let next = stands' s inside in record {
          local = λ b x in_b is at v among. subst (λ (g : Track). Contains g.contents v) (sym (track-more start history e s)) (next.local b x in_b is at v (subst (λ (d : Track). Contains d.contents v) (disk-track (x + (s - shape.block * b)) adds) among));
          other = λ b in_b is. subst (λ (g : Track). Contains g.contents (rest s)) (sym (track-more start history e s)) (next.other b in_b is);
        };
        filling = λ a low. subst (λ d. IsUnfilled (slice_set passes i p') a d ⊎ IsFilled shape.block (slice_set passes i p') a (track start (history ++ e ∷ [])) d) (sym (disk-track a adds))
            (close-filling a low (track start (history ++ e ∷ [])) (follow a (store-of a) e')
            (λ s. subst (λ (g : Track). Closes (call_id i p) (guest-of s).writes g.writes) (sym (track-more start history e s)) (closes s)) (closes' a)
            (λ w ne v among. subst (λ (g : Track). Contains g.contents v) (sym (track-more start history e w.sector)) (more a w ne v among)));
        buffers = λ j q at is. elim (at-set passes i j p' p q there at) [
          | inl a ↦ absurd (let f = region-of _ Filled refl (ap (λ (x : Pass). x.phase) (sym a.1) ∙ is) in cc)
          | inr a ↦ fa.buffers j q a.1 is
        ];
      }
