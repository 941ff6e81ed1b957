-- The steps of a read keep the passes coherent, and true to their devices.
use Rattle.std.proofs.Common.{◌≡◌, ◌≢◌, ℕ, ◌+◌, ◌-◌, ◌<◌, ◌≤◌, true, false, List, ◌++◌, length, replicate, refl, sym, ◌∙◌, ap, subst, inl, inr, arith, Option, Some, None, slice_get, slice_set}
use Rattle.vd_law.specs.declared.entry.Sector.{Sector}
use Rattle.vd_law.specs.declared.entry.Answer.TheVariants.{StoreFault}
use Rattle.vd_device.specs.declared.store.Store as store
use Rattle.vd_device.specs.declared.base.Base as base
use Rattle.vd_device.specs.declared.ticket.Ticket.{Ticket}
use Rattle.vd_device.specs.declared.ticket.Kind.{Kind}
use Rattle.vd_device.specs.declared.ticket.Kind.TheVariants.{Read as ReadKind}
use Rattle.vd_device.specs.declared.settled.Settled.{Settled}
use Rattle.vd_device.specs.declared.settled.Settled.TheVariants as settled
use Rattle.vd_device.specs.Tickets.{ticket_id, Takes}
use Rattle.vd_device.specs.Disks.{Adds}
use Rattle.vd_device.specs.Calls.{Gives, IsHeld, done_entry, failed_entry}
use Rattle.vd_device.specs.Stores.{SettlesCall}
use Rattle.vd_device.specs.Bases.{SettlesInBase}
use Rattle.vd_passes.specs.Requests.{RequestState}
use Rattle.vd_passes.specs.declared.pass.Pass.{Pass}
use Rattle.vd_passes.specs.declared.pass.Phase.TheVariants.{Held, Issuing, Looking}
use Rattle.vd_passes.specs.declared.pass.Fault.TheVariants as fault
use Rattle.vd_passes.specs.Laying.{Backs, IsRest}
use Rattle.vd_passes.specs.Standings.{standing}
use Rattle.vd_passes.specs.Passes.{has_region, tickets_of, fetches_of, IsStoreLook, IsBaseLook, IsAsHistorySays, after_piece, after_fault, after_spending}
use Rattle.vd_passes.specs.Coherent.{IsCoherent, IsFaithful, stored_track}
use Rattle.vd_passes.specs.Steps.{IsAt, IsWaiting, Looks, LooksAtBase, SeesZeros, EndsRead, LookSettled, BaseLookSettled}
use Rattle.vd_passes.proofs.Lists.{some-inj, tickets-taken, tickets-same, fetches-taken, fetches-same}
use Rattle.vd_passes.proofs.Tracks.{disk-track, reply-same}
use Rattle.vd_passes.proofs.Regions.{region-of, look-ticket}
use Rattle.vd_passes.proofs.Growing.{alike-same, alike-store, alike-base}
use Rattle.vd_passes.proofs.Onward.{not-idle}
use Rattle.vd_passes.proofs.Settling.{late-coherent, late-faithful, in-flight}
use Rattle.vd_passes.proofs.Fetching.{zeros-are-rest, read-is-rest}
use Rattle.vd_passes.proofs.LookingAt.{IsToLook, to-look-none, looks-coherent-at, looks-faithful-at, base-looks-coherent-at, base-looks-faithful-at, sees-coherent, sees-rest, sees-store, failed-coherent, failed-faithful}
use Rattle.vd_format.specs.Background.{zero_sector}

-- A pass that reads its piece.
module _ {S B : Type 0} {g : store.Ghosts S} {h : base.Ghosts B} {r : RequestState} {places : ℕ → Option ℕ} {s : S} {b : B} (co : IsCoherent g h r places s b) (i : ℕ) (p : Pass) (there : slice_get r.passes i ≡ Some p) (looking : p.phase ≡ Looking) where
  stands : IsAsHistorySays r.shape r.fresh places (standing r.entries i) p
  stands = co.each i p there

  region : has_region p.phase ≡ true
  region = region-of _ Looking refl looking

  reads : p.write ≡ false
  reads = stands.read looking

  short : p.done < p.count
  short = let piece = stands.piece region in let some = piece.some in let no_more = piece.no_more in omega arith

  calm : p.phase ≢ Issuing
  calm e = absurd (cc)

  abbrev next : Pass
  next = after_spending 1 p.piece (after_piece p)

  -- from the store
  store-look : (t : Ticket) → p.ticket ≡ Some t → IsStoreLook r.shape r.fresh p t
  store-look t has = let l = look-ticket stands looking in elim l.1 [
    | inl in_store ↦ subst (IsStoreLook r.shape r.fresh p) (some-inj (sym in_store.has ∙ has)) in_store
    | inr in_base ↦ absurd (let n = in_base.none in cc)
  ]

  -- or from the base
  base-look : (t : Ticket) → p.fetch ≡ Some t → IsBaseLook r.shape r.fresh p t
  base-look t has = let l = look-ticket stands looking in elim l.1 [
    | inl in_store ↦ absurd (let n = in_store.none in cc)
    | inr in_base ↦ subst (IsBaseLook r.shape r.fresh p) (some-inj (sym in_base.has ∙ has)) in_base
  ]

  module _ (t : Ticket) (has : p.ticket ≡ Some t) where
    look : IsStoreLook r.shape r.fresh p t
    look = store-look t has

    -- the pass without its ticket
    store-flight : (p' : Pass) (s' : S) → p'.ticket ≡ None → Takes t (g.flight s) (g.flight s') → g.flight s' (tickets_of (slice_set r.passes i p'))
    store-flight p' s' none takes = takes _ _ (tickets-taken r.passes i p p' t there has none) co.flight

    store-fetches : (p' : Pass) → p'.fetch ≡ None → h.flight b (fetches_of (slice_set r.passes i p'))
    store-fetches p' none = subst (h.flight b) (sym (fetches-same r.passes i p p' there (none ∙ sym look.none))) co.base_flight

    pub look-ended-coherent : (answer : Settled) (content : List Sector) (r' : RequestState) (out out' front : List Sector) (s' : S)
        → EndsRead answer content (fault.Store t.number) i r r' out out' → SettlesCall g answer t front content s s' → IsCoherent g h r' places s' b
    look-ended-coherent settled.Done content r' out out' front s' sees call =
        sees-coherent co i p there region calm reads sees s' b (alike-store call.counts) (store-flight next s' refl call.settles) (store-fetches next refl)
    look-ended-coherent (settled.NotYet same) content r' out out' front s' late call = rw late.0 (late-coherent co (alike-store call.counts) call.settles.2 (λ ts has_them. has_them))
    look-ended-coherent (settled.Failed number) content r' out out' front s' failed call =
        let mine : failed.0.pass ≡ p = some-inj (sym failed.0.there ∙ there) in
        rw (failed.0.after, mine) (failed-coherent co i p there looking (fault.Store t.number) s' b (alike-store call.counts) (inr short, sym reads)
        (store-flight (after_fault (fault.Store t.number) p) s' refl call.settles.2) (store-fetches (after_fault (fault.Store t.number) p) refl))

    pub look-ended-faithful : {start : List Sector} {rest : ℕ → Sector} (answer : Settled) (content : List Sector) (r' : RequestState) (out out' front : List Sector) (s' : S)
        → EndsRead answer content (fault.Store t.number) i r r' out out' → IsFaithful g start rest r places s → SettlesCall g answer t front content s s' → g.tells s' → IsFaithful g start rest r' places s'
    look-ended-faithful {start} {rest} settled.Done content r' out out' front s' sees fa call told =
        sees-store co i p there region calm reads sees fa t look.first look.local (subst (λ (k : Kind). Adds (done_entry k t content) (g.disk s) (g.disk s')) look.kind (call.takes.told told)) call.last (call.gives told look.kind)
    look-ended-faithful {start} {rest} (settled.NotYet same) content r' out out' front s' late fa call told = rw late.0 (late-faithful fa call.last (call.takes.told told))
    look-ended-faithful {start} {rest} (settled.Failed number) content r' out out' front s' failed fa call told =
        let adds = subst (λ (k : Kind). Adds (failed_entry k t) (g.disk s) (g.disk s')) look.kind (call.takes.told told) in let mine : failed.0.pass ≡ p = some-inj (sym failed.0.there ∙ there) in
        rw (failed.0.after, mine) (failed-faithful co i p there looking (fault.Store t.number) fa call.counts.last (λ a. disk-track a adds ∙ reply-same a (stored_track g s a) (ticket_id t) (StoreFault t.number 0)))

  module _ (t : Ticket) (has : p.fetch ≡ Some t) where
    from-base : IsBaseLook r.shape r.fresh p t
    from-base = base-look t has

    base-flight : (p' : Pass) (b' : B) → p'.fetch ≡ None → Takes t (h.flight b) (h.flight b') → h.flight b' (fetches_of (slice_set r.passes i p'))
    base-flight p' b' none takes = takes _ _ (fetches-taken r.passes i p p' t there has none) co.base_flight

    base-tickets : (p' : Pass) → p'.ticket ≡ None → g.flight s (tickets_of (slice_set r.passes i p'))
    base-tickets p' none = subst (g.flight s) (sym (tickets-same r.passes i p p' there (none ∙ sym from-base.none))) co.flight

    pub base-ended-coherent : (answer : Settled) (content : List Sector) (r' : RequestState) (out out' front read : List Sector) (b' : B)
        → EndsRead answer content (fault.Base t.number) i r r' out out' → SettlesInBase h answer t front read b b' → IsCoherent g h r' places s b'
    base-ended-coherent settled.Done content r' out out' front read b' sees call =
        sees-coherent co i p there region calm reads sees s b' (alike-base call.keeps) (base-tickets next refl) (base-flight next b' refl call.settles)
    base-ended-coherent (settled.NotYet same) content r' out out' front read b' late call = rw late.0 (late-coherent co (alike-base call.keeps) (λ ts has_them. has_them) call.settles.2)
    base-ended-coherent (settled.Failed number) content r' out out' front read b' failed call =
        let mine : failed.0.pass ≡ p = some-inj (sym failed.0.there ∙ there) in
        rw (failed.0.after, mine) (failed-coherent co i p there looking (fault.Base t.number) s b' (alike-base call.keeps) (short, refl)
        (base-tickets (after_fault (fault.Base t.number) p) refl) (base-flight (after_fault (fault.Base t.number) p) b' refl call.settles.2))

    pub base-ended-faithful : {start : List Sector} {rest : ℕ → Sector} (answer : Settled) (content held : List Sector) (r' : RequestState) (out out' : List Sector) → length content ≡ t.count
        → EndsRead answer (content ++ replicate (p.piece - t.count) zero_sector) (fault.Base t.number) i r r' out out' → IsFaithful g start rest r places s → Gives answer t content held → Backs rest r.shape.limit held → IsFaithful g start rest r' places s
    base-ended-faithful {start} {rest} settled.Done content held r' out out' long sees fa gives backs =
        sees-rest co i p there region calm reads sees fa from-base.not_fresh
        (subst (λ (n : ℕ). IsRest rest (p.first + p.done) (content ++ replicate (p.piece - n) zero_sector)) long
        (read-is-rest rest r.shape.limit held backs (p.first + p.done) p.piece content (long ∙ from-base.count) (subst (λ (n : ℕ). IsHeld n content held) from-base.first (gives from-base.kind))))
    base-ended-faithful {start} {rest} (settled.NotYet same) content held r' out out' long late fa gives backs = rw late.0 fa
    base-ended-faithful {start} {rest} (settled.Failed number) content held r' out out' long failed fa gives backs =
        let mine : failed.0.pass ≡ p = some-inj (sym failed.0.there ∙ there) in rw (failed.0.after, mine) (failed-faithful co i p there looking (fault.Base t.number) fa (omega arith) (λ a. refl))

-- The steps, as their records say them.
module _ {S B : Type 0} {g : store.Ghosts S} {h : base.Ghosts B} {r r' : RequestState} {places : ℕ → Option ℕ} {s : S} {b : B} {i : ℕ} (co : IsCoherent g h r places s b) where
  module _ {s' : S} (at : IsAt r.passes i (IsToLook true r.fresh)) (step : Looks g i r r' s s') where
    to-look : IsToLook true r.fresh step.pass
    to-look = subst (IsToLook true r.fresh) (some-inj (sym at.1 ∙ step.there)) at.2

    pub looks-coherent : IsCoherent g h r' places s' b
    looks-coherent = rw step.after (looks-coherent-at co i step.pass step.there true to-look step.ticket s' step.call.counts refl step.kind step.first step.count step.call.flight)

    pub looks-faithful : {start : List Sector} {rest : ℕ → Sector} → (g.tells s → IsFaithful g start rest r places s) → g.tells s' → IsFaithful g start rest r' places s'
    looks-faithful {start} {rest} fa told = let c = step.call in
        rw step.after (looks-faithful-at co i step.pass step.there true to-look step.ticket (fa (c.takes.keeps.told_before told)) (c.takes.told told) (c.rises told) c.next.last)

  module _ {b' : B} (at : IsAt r.passes i (IsToLook false r.fresh)) (step : LooksAtBase h i r r' b b') where
    to-look-at-base : IsToLook false r.fresh step.pass
    to-look-at-base = subst (IsToLook false r.fresh) (some-inj (sym at.1 ∙ step.there)) at.2

    pub looks_at_base-coherent : IsCoherent g h r' places s b'
    looks_at_base-coherent = rw step.after (base-looks-coherent-at co i step.pass step.there false to-look-at-base step.ticket b' step.call.keeps refl step.kind step.first step.count step.call.flight)

    pub looks_at_base-faithful : {start : List Sector} {rest : ℕ → Sector} {tells : Type 0} → (tells → IsFaithful g start rest r places s) → tells → IsFaithful g start rest r' places s
    looks_at_base-faithful {start} {rest} {tells} fa told = rw step.after (base-looks-faithful-at co i step.pass step.there false to-look-at-base step.ticket (fa told))

  module _ {out out' : List Sector} (at : IsAt r.passes i (IsToLook false r.fresh)) (step : SeesZeros i r r' out out') where
    zeros-look : IsToLook false r.fresh step.pass
    zeros-look = subst (IsToLook false r.fresh) (some-inj (sym at.1 ∙ step.there)) at.2

    zeros-region : has_region step.pass.phase ≡ true
    zeros-region = region-of _ Held refl zeros-look.0

    zeros-not-issuing : step.pass.phase ≢ Issuing
    zeros-not-issuing e = absurd (let f = zeros-look.0 in cc)

    zeros-next : Pass
    zeros-next = after_spending 1 step.pass.piece (after_piece step.pass)

    pub sees_zeros-coherent : IsCoherent g h r' places s b
    unfolding zeros-next
    sees_zeros-coherent = let none = to-look-none co i step.pass step.there false zeros-look in
        sees-coherent co i step.pass step.there zeros-region zeros-not-issuing zeros-look.1 step.sees s b alike-same
        (subst (g.flight s) (sym (tickets-same r.passes i step.pass zeros-next step.there (sym none.ticket))) co.flight)
        (subst (h.flight b) (sym (fetches-same r.passes i step.pass zeros-next step.there (sym none.fetch))) co.base_flight)

    pub sees_zeros-faithful : {start : List Sector} {rest : ℕ → Sector} {tells : Type 0} (held : List Sector) → (tells → Backs rest r.shape.limit held)
        → (tells → IsFaithful g start rest r places s) → tells → IsFaithful g start rest r' places s
    sees_zeros-faithful {start} {rest} {tells} held backs fa told =
        sees-rest co i step.pass step.there zeros-region zeros-not-issuing zeros-look.1 step.sees (fa told) zeros-look.2 (zeros-are-rest rest r.shape.limit held (backs told) (step.pass.first + step.pass.done) step.pass.piece step.nothing)

  module _ {answer : Settled} {s' : S} {out out' : List Sector} (at : IsAt r.passes i (λ p. p.phase ≡ Looking)) (step : LookSettled g answer i r r' s s' out out') where
    looking : step.pass.phase ≡ Looking
    looking = ap (λ (x : Pass). x.phase) (some-inj (sym step.there ∙ at.1)) ∙ at.2

    pub look_settled-coherent : IsCoherent g h r' places s' b
    look_settled-coherent = look-ended-coherent co i step.pass step.there looking step.ticket step.has answer step.content r' out out' step.front s' step.effect step.call

    pub look_settled-faithful : {start : List Sector} {rest : ℕ → Sector} → (g.tells s → IsFaithful g start rest r places s) → g.tells s' → IsFaithful g start rest r' places s'
    look_settled-faithful {start} {rest} fa told =
        look-ended-faithful co i step.pass step.there looking step.ticket step.has answer step.content r' out out' step.front s' step.effect (fa (step.call.takes.keeps.told_before told)) step.call told

  module _ {answer : Settled} {b' : B} {out out' : List Sector} (at : IsAt r.passes i (λ p. p.phase ≡ Looking)) (step : BaseLookSettled h answer i r r' b b' out out') where
    base-looking : step.pass.phase ≡ Looking
    base-looking = ap (λ (x : Pass). x.phase) (some-inj (sym step.there ∙ at.1)) ∙ at.2

    abbrev padded : List Sector
    padded = step.content ++ replicate (step.pass.piece - step.ticket.count) zero_sector

    pub base_look_settled-coherent : IsCoherent g h r' places s b'
    base_look_settled-coherent = base-ended-coherent co i step.pass step.there base-looking step.ticket step.has answer padded r' out out' step.front step.content b' step.effect step.call

    pub base_look_settled-faithful : {start : List Sector} {rest : ℕ → Sector} {tells : Type 0} → (tells → h.tells b') → (tells → Backs rest r.shape.limit (h.content b'))
        → (tells → IsFaithful g start rest r places s) → tells → IsFaithful g start rest r' places s
    base_look_settled-faithful {start} {rest} {tells} base_told backs fa told =
        base-ended-faithful co i step.pass step.there base-looking step.ticket step.has answer step.content (h.content b') r' out out' step.long step.effect (fa told) (step.call.gives (base_told told)) (backs told)

-- A pass that reads its piece from the store has that in flight.
pub waiting-look : {S B : Type 0} {g : store.Ghosts S} {h : base.Ghosts B} {r : RequestState} {places : ℕ → Option ℕ} {s : S} {b : B}
    → IsCoherent g h r places s b → (i : ℕ) → IsAt r.passes i (λ p. (p.phase ≡ Looking) × (slice_get r.fresh p.block ≡ Some true)) → IsAt r.passes i (IsWaiting g ReadKind r.shape s)
waiting-look {S} {B} {g} {h} {r} {places} {s} {b} co i at =
    let p = at.0 in let there = at.1 in let stands = co.each i p there in let has = region-of _ Looking refl at.2.0 in
    let l = look-ticket stands at.2.0 in elim l.1 [
      | inl in_store ↦ (
        p,
        there,
        record {
          ticket = l.0;
          has = in_store.has;
          none = in_store.none;
          is = in_store.kind;
          mine = in-flight r.passes co.flight i p l.0 there in_store.has;
          piece = stands.piece has;
          end = let range = (stands.range (not-idle p.phase has)).0 in let size = co.shaped.size in omega arith;
        },
      )
      | inr in_base ↦ absurd (let not_fresh = in_base.not_fresh in let local = at.2.1 in cc)
    ]

-- How many sectors the read of a piece has: all of them from the store, those that the base has from there.
module _ {S B : Type 0} {g : store.Ghosts S} {h : base.Ghosts B} {r : RequestState} {places : ℕ → Option ℕ} {s : S} {b : B} (co : IsCoherent g h r places s b) (i : ℕ) (at : IsAt r.passes i (λ p. p.phase ≡ Looking)) (t : Ticket) where
  pub look-count : at.0.ticket ≡ Some t → t.count ≡ at.0.piece
  look-count has = (store-look co i at.0 at.1 at.2 t has).count

  pub base-look-count : at.0.fetch ≡ Some t → t.count ≤ at.0.piece
  base-look-count has = let c = (base-look co i at.0 at.1 at.2 t has).count in omega arith
