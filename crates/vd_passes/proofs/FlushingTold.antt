-- A flush submits a call, settles it and ends: the passes stay true to their devices, as its writes lie below the storage.
use Rattle.std.proofs.Common.{◌≡◌, ◌≢◌, ℕ, ◌≤◌, false, List, [], length, sym, ◌∙◌, ap, subst, inl, inr, arith, Option, Some, None, slice_get}
use Rattle.vd_law.specs.declared.entry.Sector.{Sector}
use Rattle.vd_law.specs.declared.entry.CallId.{CallId}
use Rattle.vd_law.specs.declared.entry.Answer.TheVariants.{Ok, StoreFault}
use Rattle.vd_law.specs.Entries.{Flush, Done, Broke, same_call}
use Rattle.vd_device.specs.declared.store.Store as store
use Rattle.vd_device.specs.declared.base.Base as base
use Rattle.vd_device.specs.declared.ticket.Ticket.{Ticket}
use Rattle.vd_device.specs.declared.ticket.Kind.{Kind}
use Rattle.vd_device.specs.declared.ticket.Kind.TheVariants as kind
use Rattle.vd_device.specs.declared.settled.Settled.{Settled}
use Rattle.vd_device.specs.declared.settled.Settled.TheVariants as settled
use Rattle.vd_device.specs.Tickets.{ticket_id}
use Rattle.vd_device.specs.Calls.{Tells, done_entry, failed_entry}
use Rattle.vd_passes.specs.declared.shape.Shape.{Shape}
use Rattle.vd_passes.specs.Requests.{RequestState, with_pass}
use Rattle.vd_passes.specs.declared.pass.Pass.{Pass}
use Rattle.vd_passes.specs.declared.pass.Phase.TheVariants.{Filled, Issuing, Flushing}
use Rattle.vd_passes.specs.declared.pass.Fault.{Fault}
use Rattle.vd_passes.specs.declared.pass.Fault.TheVariants as fault
use Rattle.vd_passes.specs.Tracks.{Track, track, follow}
use Rattle.vd_passes.specs.Passes.{IsMeta, after_meta, after_flush, after_fault}
use Rattle.vd_passes.specs.Coherent.{IsCoherent, IsFaithful, IsFilled, stored_track}
use Rattle.vd_passes.specs.Steps.{meta_entry, SubmitsMeta, meta_settled, MetaSettled, EndsFlush}
use Rattle.vd_passes.proofs.Lists.{some-inj}
use Rattle.vd_passes.proofs.Tracks.{disk-track, disk-same, none-past, ask-same, reply-same, issue-off, done-none, done-other, broke-contents, broke-none, broke-other, same-false}
use Rattle.vd_passes.proofs.NotIssuing.{quiet-faithful, still-faithful}
use Rattle.vd_passes.proofs.Flushing.{IsFlushing, flushing-not-issuing, flush-ticket}

same-parts : (t u : Track) → t.contents ≡ u.contents → t.writes ≡ u.writes → t ≡ u
same-parts t u contents writes = ap (λ (cs : List Sector). record { contents = cs; writes = t.writes }) contents ∙ ap (λ (ws : List (CallId × Sector)). record { contents = u.contents; writes = ws }) writes

-- From the storage on nothing changes where a call of a flush begins.
begins-same : (shape : Shape) (u : Ticket) (content : List Sector) → IsMeta shape u → (u.kind ≡ kind.Write → u.count ≡ length content) → (a : ℕ) (t : Track) → shape.storage_at ≤ a → follow a t (meta_entry u.kind u content) ≡ t
begins-same shape u content (inl flush) count a t low = subst (λ (k : Kind). follow a t (meta_entry k u content) ≡ t) (sym flush) (ask-same a t (ticket_id u) Flush)
begins-same shape u content (inr write) count a t low =
    subst (λ (k : Kind). follow a t (meta_entry k u content) ≡ t) (sym write.0)
    (issue-off a t (ticket_id u) u.first content (none-past u.first content a (let long = count write.0 in let inside = write.1 in omega arith)))

module _ {S B : Type 0} {g : store.Ghosts S} {h : base.Ghosts B} {r : RequestState} {places : ℕ → Option ℕ} {s : S} {b : B} (co : IsCoherent g h r places s b) where
  -- nor where it ends
  module _ (i : ℕ) (p : Pass) (there : slice_get r.passes i ≡ Some p) (flushing : p.phase ≡ Flushing) (u : Ticket) (has : p.ticket ≡ Some u)
      {start : List Sector} {rest : ℕ → Sector} (fa : IsFaithful g start rest r places s) where
    is_meta : IsMeta r.shape u
    is_meta = (flush-ticket (co.each i p there) flushing).1 u has

    abbrev store-of : ℕ → Track
    store-of a = stored_track g s a

    -- whoever fills a sector of the storage is another pass, with another ticket
    other-call : (a : ℕ) (w : IsFilled r.shape.block r.passes a (track start r.entries) (store-of a)) → same_call (ticket_id w.ticket) (ticket_id u) ≡ false
    other-call a w =
        let ne : w.by ≢ i = λ e. let same = ap (λ (x : Pass). x.phase) (some-inj (sym w.there ∙ ap (slice_get r.passes) e ∙ there)) in let issues = w.filling.phase in absurd (cc) in
        same-false (ticket_id w.ticket) (ticket_id u) (λ e f. fa.distinct w.by i w.pass p w.ticket u w.there there ne w.has has f)

    done-same : (a : ℕ) → r.shape.storage_at ≤ a → follow a (store-of a) (Done (ticket_id u)) ≡ store-of a
    done-same a low = elim (fa.filling a low) [
      | inl none ↦ let d = done-none a (store-of a) (ticket_id u) none.none in same-parts _ _ d.0 (d.1 ∙ sym none.none)
      | inr w ↦ let d = done-other a (store-of a) (ticket_id u) (ticket_id w.ticket) w.content w.one (other-call a w) in same-parts _ _ d.0 d.1
    ]

    broke-same : (a : ℕ) → r.shape.storage_at ≤ a → follow a (store-of a) (Broke (ticket_id u)) ≡ store-of a
    broke-same a low = elim (fa.filling a low) [
      | inl none ↦ same-parts _ _ (broke-contents a (store-of a) (ticket_id u)) (broke-none a (store-of a) (ticket_id u) none.none ∙ sym none.none)
      | inr w ↦ same-parts _ _ (broke-contents a (store-of a) (ticket_id u)) (broke-other a (store-of a) (ticket_id u) (ticket_id w.ticket) w.content w.one (other-call a w))
    ]

    done-meta : (a : ℕ) → r.shape.storage_at ≤ a → follow a (store-of a) (done_entry u.kind u []) ≡ store-of a
    done-meta a low = elim is_meta [
      | inl flush ↦ subst (λ (k : Kind). follow a (store-of a) (done_entry k u []) ≡ store-of a) (sym flush) (reply-same a (store-of a) (ticket_id u) Ok)
      | inr write ↦ subst (λ (k : Kind). follow a (store-of a) (done_entry k u []) ≡ store-of a) (sym write.0) (done-same a low)
    ]

    failed-meta : (a : ℕ) → r.shape.storage_at ≤ a → follow a (store-of a) (failed_entry u.kind u) ≡ store-of a
    failed-meta a low = elim is_meta [
      | inl flush ↦ subst (λ (k : Kind). follow a (store-of a) (failed_entry k u) ≡ store-of a) (sym flush) (reply-same a (store-of a) (ticket_id u) (StoreFault u.number 0))
      | inr write ↦ subst (λ (k : Kind). follow a (store-of a) (failed_entry k u) ≡ store-of a) (sym write.0) (broke-same a low)
    ]

    not-filled : p.phase ≢ Filled
    not-filled e = absurd (cc)

    calm : p.phase ≢ Issuing
    calm e = absurd (cc)

    settled-faithful : {s' : S} (answer : Settled) → g.last s ≤ g.last s' → Tells answer u [] (g.disk s) (g.disk s') → IsFaithful g start rest (with_pass i (meta_settled answer p u) r) places s'
    settled-faithful {s'} settled.Done later tells =
        quiet-faithful co i p there calm (record p { ticket = None }) calm fa s' later (λ v is. absurd (cc)) (λ a low. disk-track a tells.grows ∙ done-meta a low) (λ e. absurd (not-filled e))
    settled-faithful {s'} (settled.NotYet same) later tells =
        quiet-faithful co i p there calm p calm fa s' later (λ v is. (let n = fa.numbers i p v there is in omega (arith, n, later), λ j q w at ne its. fa.distinct j i q p w v at there ne its is))
        (λ a low. disk-same a tells.grows) (λ e. absurd (not-filled e))
    settled-faithful {s'} (settled.Failed number) later tells =
        quiet-faithful co i p there calm (after_fault (fault.Store u.number) p) (λ e. absurd (cc)) fa s' later (λ v is. absurd (cc)) (λ a low. disk-track a tells.grows ∙ failed-meta a low) (λ e. absurd (cc))

  -- The steps, as their records say them.
  module _ {i : ℕ} {r' : RequestState} {start : List Sector} {rest : ℕ → Sector} where
    module _ {s' : S} where
      pub submits_meta-faithful : {content : List Sector} → SubmitsMeta g content i r r' s s' → (g.tells s → IsFaithful g start rest r places s) → g.tells s' → IsFaithful g start rest r' places s'
      submits_meta-faithful {content} step was told =
          let p = step.pass in let u = step.ticket in let c = step.call in let later = c.rises told in let fa = was (c.takes.keeps.told_before told) in let last : g.last s' ≡ u.number = c.next.last in
          rw step.after
          (quiet-faithful co i p step.there (flushing-not-issuing co i p step.there step.phase) (after_meta p u) (λ e. absurd (cc)) fa s' c.counts.last
          (λ v is. let same : v.number ≡ u.number = ap (λ (x : Ticket). x.number) (sym (some-inj is)) in (omega (arith, same, last), λ j q w at ne has e. let n = fa.numbers j q w at has in absurd (omega (arith, n, later, e, same))))
          (λ a low. disk-track a (c.takes.told told) ∙ begins-same r.shape u content step.is_meta step.count a (stored_track g s a) low)
          (λ e. absurd (cc)))

      pub meta_settled-faithful : {answer : Settled} → MetaSettled g answer i r r' s s' → (g.tells s → IsFaithful g start rest r places s) → g.tells s' → IsFaithful g start rest r' places s'
      meta_settled-faithful {answer} step was told = let c = step.call in
          rw step.after (settled-faithful i step.pass step.there step.phase step.ticket step.has (was (c.takes.keeps.told_before told)) answer c.counts.last (record { grows = c.takes.told told; gives = c.gives told }))

    pub ends_flush-faithful : {why : Option Fault} → EndsFlush why i r r' → IsFaithful g start rest r places s → IsFaithful g start rest r' places s
    ends_flush-faithful {why} step fa =
        let p = step.pass in let way : IsFlushing p = elim step.cause [ inl over ↦ inr over.1 | inr worn ↦ inl worn.2 ] in
        rw step.after (still-faithful co i p step.there (flushing-not-issuing co i p step.there way) (after_flush p why) (λ e. absurd (cc)) fa (λ v is. is) (λ e. absurd (cc)))
