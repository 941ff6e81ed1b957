-- A pass begins to read its piece, or sees it, or a device has failed it.
use Rattle.std.proofs.Common.{◌≡◌, ◌≢◌, ℕ, ◌+◌, ◌*◌, ◌<◌, ◌≤◌, Bool, true, false, List, length, refl, sym, ◌∙◌, ap, subst, inl, inr, arith, Option, Some, slice_get, slice_set}
use Rattle.vd_law.specs.declared.entry.Sector.{Sector}
use Rattle.vd_law.specs.Entries.{Seen, Read as AsksRead}
use Rattle.vd_device.specs.declared.store.Store as store
use Rattle.vd_device.specs.declared.base.Base as base
use Rattle.vd_device.specs.declared.ticket.Ticket.{Ticket}
use Rattle.vd_device.specs.declared.ticket.Kind.TheVariants.{Read as ReadKind}
use Rattle.vd_device.specs.Tickets.{ticket_id, Puts}
use Rattle.vd_device.specs.Disks.{Adds}
use Rattle.vd_device.specs.Calls.{IsHeld, ask_read_entry}
use Rattle.vd_device.specs.Stores.{StoreCountsStand}
use Rattle.vd_device.specs.Bases.{KeepsBase}
use Rattle.vd_passes.specs.Requests.{RequestState, with_pass}
use Rattle.vd_passes.specs.declared.pass.Pass.{Pass}
use Rattle.vd_passes.specs.declared.pass.Phase.{Phase}
use Rattle.vd_passes.specs.declared.pass.Phase.TheVariants.{Held, Issuing, Looking}
use Rattle.vd_passes.specs.declared.pass.Fault.{Fault}
use Rattle.vd_passes.specs.Laying.{count_below, IsRest}
use Rattle.vd_passes.specs.Standings.{standing}
use Rattle.vd_passes.specs.Passes.{has_region, pending_of, tickets_of, fetches_of, HasNone, HasOutcome, IsAsHistorySays, after_look, after_base_look, after_piece, after_fault, after_spending}
use Rattle.vd_passes.specs.Coherent.{IsCoherent, IsFaithful, stored_track}
use Rattle.vd_passes.specs.Steps.{Sees}
use Rattle.vd_passes.proofs.Lists.{some-inj, tickets-put, tickets-same, fetches-put, fetches-same}
use Rattle.vd_passes.proofs.Tracks.{disk-track, ask-same}
use Rattle.vd_passes.proofs.Regions.{region-of, held-ticket}
use Rattle.vd_passes.proofs.Growing.{AreAlike, alike-store, alike-base}
use Rattle.vd_passes.proofs.NotIssuing.{quiet-coherent, quiet-faithful, still-faithful, apart-kept, apart-free}
use Rattle.vd_passes.proofs.Onward.{moved-stands, failed-stands}
use Rattle.vd_passes.proofs.Looking.{seen-coherent, rest-faithful, seen-faithful}

-- It holds the region of a block, to read its piece there; the block is fresh or isn't.
abbrev pub IsToLook : Bool → List Bool → Pass → Type 0
IsToLook local fresh p = (p.phase ≡ Held) × (p.write ≡ false) × (slice_get fresh p.block ≡ Some local)

module _ {S B : Type 0} {g : store.Ghosts S} {h : base.Ghosts B} {r : RequestState} {places : ℕ → Option ℕ} {s : S} {b : B} (co : IsCoherent g h r places s b)
    (i : ℕ) (p : Pass) (there : slice_get r.passes i ≡ Some p) where
  stands : IsAsHistorySays r.shape r.fresh places (standing r.entries i) p
  stands = co.each i p there

  -- The read begins.
  module _ (local : Bool) (to_look : IsToLook local r.fresh p) where
    region : has_region p.phase ≡ true
    region = region-of _ Held refl to_look.0

    pub to-look-none : HasNone p
    to-look-none = held-ticket stands to_look.0

    not-issuing : p.phase ≢ Issuing
    not-issuing e = absurd (let f = to_look.0 in cc)

    pending : pending_of Looking p.piece ≡ pending_of p.phase p.piece
    pending = ap (λ (ph : Phase). pending_of ph p.piece) (sym to_look.0)

    pub looks-coherent-at : (t : Ticket) (s' : S) → StoreCountsStand g s s' → local ≡ true → t.kind ≡ ReadKind → t.first + r.shape.block * p.block ≡ p.at + (p.first + p.done) → t.count ≡ p.piece → Puts t (g.flight s) (g.flight s')
        → IsCoherent g h (with_pass i (after_look p t) r) places s' b
    looks-coherent-at t s' counts is kind first count puts = quiet-coherent co i p there not-issuing (after_look p t) (λ e. absurd (cc)) s' b (alike-store counts)
        (moved-stands stands region Looking (Some t) p.fetch p.buffer refl pending (λ e. absurd (cc)) (λ e. to_look.1)
        (t, inl (record { has = refl; none = to-look-none.fetch; kind = kind; first = first; count = count; local = to_look.2 ∙ ap Some is })) stands.buffer)
        (apart-kept r.passes co.apart i p (after_look p t) there region refl refl)
        (puts _ _ (tickets-put r.passes i p (after_look p t) t there to-look-none.ticket refl) co.flight)
        (subst (h.flight b) (sym (fetches-same r.passes i p (after_look p t) there refl)) co.base_flight)

    pub looks-faithful-at : {start : List Sector} {rest : ℕ → Sector} (t : Ticket) {s' : S} → IsFaithful g start rest r places s → Adds (ask_read_entry t) (g.disk s) (g.disk s') → g.last s < t.number → g.last s' ≡ t.number
        → IsFaithful g start rest (with_pass i (after_look p t) r) places s'
    looks-faithful-at {start} {rest} t {s'} fa adds later last = quiet-faithful co i p there not-issuing (after_look p t) (λ e. absurd (cc)) fa s' (omega (arith, later, last))
        (λ u is. let same : u.number ≡ t.number = ap (λ (x : Ticket). x.number) (sym (some-inj is)) in (omega (arith, same, last), λ j q v at ne has e. let n = fa.numbers j q v at has in absurd (omega (arith, n, later, e, same))))
        (λ a low. disk-track a adds ∙ ask-same a (stored_track g s a) (ticket_id t) (AsksRead t.first t.count))
        (λ e. absurd (cc))

    pub base-looks-coherent-at : (t : Ticket) (b' : B) → KeepsBase h b b' → local ≡ false → t.kind ≡ ReadKind → t.first ≡ p.first + p.done → t.count ≡ count_below r.shape.limit (p.first + p.done) p.piece → Puts t (h.flight b) (h.flight b')
        → IsCoherent g h (with_pass i (after_base_look p t) r) places s b'
    base-looks-coherent-at t b' keeps is kind first count puts = quiet-coherent co i p there not-issuing (after_base_look p t) (λ e. absurd (cc)) s b' (alike-base keeps)
        (moved-stands stands region Looking p.ticket (Some t) p.buffer refl pending (λ e. absurd (cc)) (λ e. to_look.1)
        (t, inr (record { has = refl; none = to-look-none.ticket; kind = kind; first = first; count = count; not_fresh = to_look.2 ∙ ap Some is })) stands.buffer)
        (apart-kept r.passes co.apart i p (after_base_look p t) there region refl refl)
        (subst (g.flight s) (sym (tickets-same r.passes i p (after_base_look p t) there refl)) co.flight)
        (puts _ _ (fetches-put r.passes i p (after_base_look p t) t there to-look-none.fetch refl) co.base_flight)

    pub base-looks-faithful-at : {start : List Sector} {rest : ℕ → Sector} (t : Ticket) → IsFaithful g start rest r places s → IsFaithful g start rest (with_pass i (after_base_look p t) r) places s
    base-looks-faithful-at {start} {rest} t fa = still-faithful co i p there not-issuing (after_base_look p t) (λ e. absurd (cc)) fa (λ u is. is) (λ e. absurd (cc))

  -- The piece is seen.
  module _ {content : List Sector} {r' : RequestState} {out out' : List Sector} (has : has_region p.phase ≡ true) (calm : p.phase ≢ Issuing) (reads : p.write ≡ false) (sees : Sees content i r r' out out') where
    this : sees.pass ≡ p
    this = some-inj (sym sees.there ∙ there)

    long : length content ≡ p.piece
    long = sees.long ∙ ap (λ (x : Pass). x.piece) this

    abbrev next : Pass
    next = after_spending 1 p.piece (after_piece p)

    pub sees-coherent : (s' : S) (b' : B) → AreAlike g h s s' b b' → g.flight s' (tickets_of (slice_set r.passes i next)) → h.flight b' (fetches_of (slice_set r.passes i next)) → IsCoherent g h r' places s' b'
    sees-coherent s' b' alike flight base_flight = rw (sees.after, this) (seen-coherent co i p there has calm reads content long s' b' alike flight base_flight)

    pub sees-rest : {start : List Sector} {rest : ℕ → Sector} → IsFaithful g start rest r places s → slice_get r.fresh p.block ≡ Some false → IsRest rest (p.first + p.done) content → IsFaithful g start rest r' places s
    sees-rest {start} {rest} fa absent is_rest = rw (sees.after, this) (rest-faithful co i p there has calm reads content long fa absent is_rest)

    pub sees-store : {start : List Sector} {rest : ℕ → Sector} {s' : S} → IsFaithful g start rest r places s → (t : Ticket) → t.first + r.shape.block * p.block ≡ p.at + (p.first + p.done) → slice_get r.fresh p.block ≡ Some true
        → Adds (Seen (ticket_id t) t.first content) (g.disk s) (g.disk s') → g.last s' ≡ g.last s → IsHeld t.first content (g.disk s').held → IsFaithful g start rest r' places s'
    sees-store {start} {rest} {s'} fa t place local adds last held = rw (sees.after, this) (seen-faithful co i p there has calm reads content long fa t place local adds last held)

  -- A device has failed the read.
  module _ (looking : p.phase ≡ Looking) (why : Fault) where
    pub failed-coherent : (s' : S) (b' : B) → AreAlike g h s s' b b' → HasOutcome (after_fault why p) false (Some why) → g.flight s' (tickets_of (slice_set r.passes i (after_fault why p))) → h.flight b' (fetches_of (slice_set r.passes i (after_fault why p)))
        → IsCoherent g h (with_pass i (after_fault why p) r) places s' b'
    failed-coherent s' b' alike outcome flight base_flight = quiet-coherent co i p there (λ e. absurd (cc)) (after_fault why p) (λ e. absurd (cc)) s' b' alike
        (failed-stands stands (region-of _ Looking refl looking) why (ap (λ (ph : Phase). pending_of ph p.piece) looking) outcome)
        (λ k q at ne. apart-free (after_fault why p) q refl) flight base_flight

    pub failed-faithful : {start : List Sector} {rest : ℕ → Sector} {s' : S} → IsFaithful g start rest r places s → g.last s ≤ g.last s' → ((a : ℕ) → stored_track g s' a ≡ stored_track g s a) → IsFaithful g start rest (with_pass i (after_fault why p) r) places s'
    failed-faithful {start} {rest} {s'} fa later same = quiet-faithful co i p there (λ e. absurd (cc)) (after_fault why p) (λ e. absurd (cc)) fa s' later (λ u is. absurd (cc)) (λ a low. same a) (λ e. absurd (cc))
