-- What a pass saw of its piece may stand there.
use Rattle.std.proofs.Common.{◌≡◌, ◌≢◌, ℕ, ◌+◌, ◌-◌, ◌*◌, ◌<◌, ◌≤◌, Bool, true, false, nat_lt, List, [], ◌∷◌, ◌++◌, length, refl, sym, ◌∙◌, ap, subst, inl, inr, arith, Option, Some, None, slice_get, slice_set}
use Rattle.std.specs.Prelude.{if◌then◌else◌}
use Rattle.std.specs.List.{Contains}
use Rattle.std.proofs.lemmas.Bool.{cases_eq, ltb-true, ltb-false}
use Rattle.vd_law.specs.declared.entry.CallId.{CallId}
use Rattle.vd_law.specs.declared.entry.Sector.{Sector}
use Rattle.vd_law.specs.Entries.{Asked, Read, Write, Flush, Entry, Seen, past}
use Rattle.vd_law.specs.Contents.{sector_in}
use Rattle.vd_law.specs.Rules.{IsRegular, IsShown}
use Rattle.vd_device.specs.declared.ticket.Ticket.{Ticket}
use Rattle.vd_device.specs.Tickets.{ticket_id}
use Rattle.vd_device.specs.Disks.{Disk, Adds}
use Rattle.vd_device.specs.Calls.{IsHeld}
use Rattle.vd_passes.specs.declared.shape.Shape.{Shape}
use Rattle.vd_passes.specs.declared.pass.Pass.{Pass}
use Rattle.vd_passes.specs.declared.pass.Phase.{Phase}
use Rattle.vd_passes.specs.declared.pass.Phase.TheVariants.{Idle, Asked as HasAsked, Held, Fetching, Filled, Issuing, Looking, Flushing, Ready}
use Rattle.vd_passes.specs.Laying.{IsRest}
use Rattle.vd_passes.specs.Tracks.{Track, track, writes}
use Rattle.vd_passes.specs.Standings.{standing}
use Rattle.vd_passes.specs.Places.{IsIn}
use Rattle.vd_passes.specs.Passes.{has_region, pending_of, call_id, tickets_of, fetches_of, IsPiece, IsRequestOf, HasOutcome, IsAsHistorySays, after_piece, after_spending}
use Rattle.vd_passes.specs.Coherent.{IsCoherent, IsFaithful, AgreesInSector, IsFilled}
use Rattle.vd_passes.proofs.Lists.{some-inj}
use Rattle.vd_passes.proofs.Places.{block-after, same-block, in-piece, same-place}
use Rattle.vd_passes.proofs.Standing.{IsServing, standing-own, standing-other, regular-seen, shown-push}
use Rattle.vd_passes.proofs.Tracks.{track-more, track-writes, track-contents, writes-more, writes-none, disk-track, cases-at, at-range, at-some, some-at, seen-writes, seen-at, seen-off, is-one}
use Rattle.vd_passes.proofs.Regions.{region-of, issuing-write, both-read, no-writer, no-filler, request-kept}
use Rattle.vd_passes.proofs.NotIssuing.{not-issuing-coherent, not-issuing-faithful, apart-free}
use Rattle.vd_passes.proofs.Onward.{not-idle, not-ready}
use Rattle.vd_device.specs.declared.store.Store.{Ghosts as StoreGhosts}
use Rattle.vd_device.specs.declared.base.Base.{Ghosts as BaseGhosts}
use Rattle.vd_passes.specs.Requests.{requests}
use Rattle.vd_passes.proofs.Growing.{AreAlike}

-- What an honest store reads where no write is open could stand there before.
pub read-could : {disk disk' : Disk} {id : CallId} {first : ℕ} {out : List Sector} → Adds (Seen id first out) disk disk' → IsHeld first out disk'.held
    → (a : ℕ) (v : Sector) → sector_in first out a ≡ Some v → (track disk.start disk.log a).writes ≡ [] → Contains (track disk.start disk.log a).contents v
read-could {disk} {disk'} {id} {first} {out} adds held a v on quiet =
    let quiet' : (track disk'.start disk'.log a).writes ≡ [] = ap (λ (x : Track). x.writes) (disk-track a adds) ∙ seen-writes a (track disk.start disk.log a) id first out ∙ quiet in
    let calm = writes-none disk.log a (sym (track-writes disk.start disk.log a) ∙ quiet) in
    let calm' = writes-none disk'.log a (sym (track-writes disk'.start disk'.log a) ∙ quiet') in
    subst (λ (cs : List Sector). Contains cs v) (sym (track-contents disk.start disk.log a)) (adds.honest_before a v (sym (adds.others a calm calm') ∙ held a v on))

none-pending : (ph : Phase) (piece : ℕ) → ph ≢ Issuing → pending_of ph piece ≡ 0
none-pending Idle piece ne = refl
none-pending HasAsked piece ne = refl
none-pending Held piece ne = refl
none-pending Fetching piece ne = refl
none-pending Filled piece ne = refl
none-pending Issuing piece ne = absurd (ne refl)
none-pending Looking piece ne = refl
none-pending Flushing piece ne = refl
none-pending Ready piece ne = refl

is-read : (p : Pass) (r : Asked) → IsRequestOf p r → p.write ≡ false → p.flush ≡ false → r ≡ Read p.first p.count
is-read p (Read first count) is reads no_flush = let f = is.1 in let c = is.2 in cc
is-read p (Write first content) is reads no_flush = absurd (let w = is.0 in cc)
is-read p Flush is reads no_flush = absurd (let f = is.3 in cc)

ended : Bool → Phase
ended b = if b then HasAsked else Ready

ended-not-issuing : (b : Bool) → ended b ≢ Issuing
unfolding ended
ended-not-issuing true e = cc
ended-not-issuing false e = cc

ended-free : (b : Bool) → has_region (ended b) ≡ false
unfolding ended
ended-free true = refl
ended-free false = refl

ended-filled : (b : Bool) → ended b ≢ Filled
unfolding ended
ended-filled true e = cc
ended-filled false e = cc

module _ {shape : Shape} {fresh : List Bool} {places : ℕ → Option ℕ} {passes : List Pass} {history : List Entry} {S B : Type 0} {g : StoreGhosts S} {h : BaseGhosts B} {store : S} {base : B}
    (co : IsCoherent g h (requests shape fresh passes history) places store base) (i : ℕ) (p : Pass) (there : slice_get passes i ≡ Some p)
    (region : has_region p.phase ≡ true) (calm : p.phase ≢ Issuing) (reads : p.write ≡ false) (content : List Sector) (long : length content ≡ p.piece) where
  stands : IsAsHistorySays shape fresh places (standing history i) p
  stands = co.each i p there

  piece : IsPiece shape p
  piece = stands.piece region

  busy : p.phase ≢ Idle
  busy = not-idle p.phase region

  whole : ((standing history i).progress.broken ≡ false) × (p.fault ≡ None)
  whole = stands.whole busy (not-ready p.phase region)

  abbrev event : Entry
  event = Seen (call_id i p) (p.first + p.done) content

  abbrev next : Pass
  next = after_spending 1 p.piece (after_piece p)

  in-block : (s : ℕ) (v : Sector) → sector_in (p.first + p.done) content s ≡ Some v → IsIn shape.block p.block s
  in-block s v on = let r = at-range (p.first + p.done) content s v on in in-piece shape p s piece r.0 (let to = r.1 in omega arith)

  -- nobody writes what a pass reads
  free : (s : ℕ) → IsIn shape.block p.block s → writes history s ≡ []
  free s in_p = elim (co.guest s) [
    | inl none ↦ none.none
    | inr w ↦ absurd (no-writer co i p there region reads s in_p w)
  ]

  nobody : (j : ℕ) (q : Pass) → slice_get passes j ≡ Some q → q.phase ≡ Issuing → q.block ≡ p.block → ⊥
  nobody j q at is same = elim (cases_eq j i) [
    | inl e ↦ calm (ap (λ (x : Pass). x.phase) (some-inj (sym there ∙ ap (slice_get passes) (sym e) ∙ at)) ∙ is)
    | inr ne ↦ let w = issuing-write (co.each j q at) is in let n = (both-read co i p there region j q at (region-of _ Issuing refl is) same ne).1 in cc
  ]

  serving : IsServing history i (Read p.first p.count)
  serving = let asked = stands.busy busy in record { asked = asked.1 ∙ ap Some (is-read p asked.0 asked.2 reads (stands.no_flush region)); unanswered = stands.unanswered busy }

  abbrev at-call : ℕ → CallId
  at-call call = record { pass = i; call = call }

  regular : IsRegular (shape.block * shape.blocks) (history ++ event ∷ [])
  regular =
      let done = stands.done busy in let some = piece.some in let no_more = piece.no_more in
      subst (λ (c : ℕ). IsRegular (shape.block * shape.blocks) (history ++ Seen (at-call c) (p.first + p.done) content ∷ [])) stands.call
      (regular-seen i p.first p.count (p.first + p.done) content co.regular serving (omega arith) (omega arith) (omega arith)
      (λ s from to. free s (in-piece shape p s piece from (omega arith))))

  goes-on : (b : Bool) → nat_lt (p.done + p.piece) p.count ≡ b
      → IsAsHistorySays shape fresh places (record (standing history i) { progress = record (standing history i).progress { done = (standing history i).progress.done + length content; started = true } })
      (record p { phase = if b then HasAsked else Ready; done = p.done + p.piece; ticket = None; fetch = None; events = p.events - 1; sectors = p.sectors - p.piece })
  goes-on true is = record {
    call = stands.call;
    idle = λ e. absurd (cc);
    busy = λ e. let b = stands.busy busy in (b.0, b.1, request-kept p (record p { phase = HasAsked; done = p.done + p.piece; ticket = None; fetch = None; events = p.events - 1; sectors = p.sectors - p.piece }) b.0 refl refl refl refl b.2);
    unanswered = λ e. stands.unanswered busy;
    done = λ e. let d = stands.done busy in omega arith;
    range = λ e. ((stands.range busy).0, piece.no_more);
    pending = λ e. stands.pending busy ∙ none-pending p.phase p.piece calm;
    whole = λ e f. whole;
    ready = λ e. absurd (cc);
    write = λ e. absurd (cc);
    read = λ e. absurd (cc);
    left = λ e f. ltb-true _ _ is;
    flush = λ e. absurd (cc);
    no_flush = λ e. absurd (cc);
    unstarted = λ e f. absurd (let n = stands.no_flush region in cc);
    placed = λ e. stands.placed busy;
    piece = λ e. absurd (cc);
    at = λ e. absurd (cc);
    ticket = record { ticket = refl; fetch = refl };
    buffer = stands.buffer;
  }
  goes-on false is =
      let p' : Pass = record p { phase = Ready; done = p.done + p.piece; ticket = None; fetch = None; events = p.events - 1; sectors = p.sectors - p.piece } in record {
        call = stands.call;
        idle = λ e. absurd (cc);
        busy = λ e. let b = stands.busy busy in (b.0, b.1, request-kept p p' b.0 refl refl refl refl b.2);
        unanswered = λ e. stands.unanswered busy;
        done = λ e. let d = stands.done busy in omega arith;
        range = λ e. ((stands.range busy).0, piece.no_more);
        pending = λ e. stands.pending busy ∙ none-pending p.phase p.piece calm;
        whole = λ e f. absurd (f refl);
        ready = λ e. subst (HasOutcome p' (standing history i).progress.broken) (sym whole.1) ((let n = piece.no_more in let m = ltb-false _ _ is in omega arith), whole.0);
        write = λ e. absurd (cc);
        read = λ e. absurd (cc);
        left = λ e. absurd (cc);
        flush = λ e. absurd (cc);
        no_flush = λ e. absurd (cc);
        unstarted = λ e f. absurd (let n = stands.no_flush region in cc);
        placed = λ e. stands.placed busy;
        piece = λ e. absurd (cc);
        at = λ e. absurd (cc);
        ticket = record { ticket = refl; fetch = refl };
        buffer = stands.buffer;
      }

  abbrev more_left : Bool
  more_left = nat_lt (p.done + p.piece) p.count

  next-not-issuing : next.phase ≢ Issuing
  unfolding ended
  next-not-issuing = ended-not-issuing more_left

  next-free : has_region next.phase ≡ false
  unfolding ended
  next-free = ended-free more_left

  next-filled : next.phase ≢ Filled
  unfolding ended
  next-filled = ended-filled more_left

  quiet : (s : ℕ) → writes (history ++ event ∷ []) s ≡ writes history s
  quiet s = writes-more history event s (track [] history s) (track-writes [] history s) ∙ seen-writes s (track [] history s) (call_id i p) (p.first + p.done) content ∙ track-writes [] history s

  pub seen-coherent : (store' : S) (base' : B) → AreAlike g h store store' base base' → g.flight store' (tickets_of (slice_set passes i next)) → h.flight base' (fetches_of (slice_set passes i next))
      → IsCoherent g h (requests shape fresh (slice_set passes i next) (history ++ event ∷ [])) places store' base'
  seen-coherent store' base' alike flight base_flight = not-issuing-coherent co i p there calm next next-not-issuing (history ++ event ∷ []) quiet store' base' alike regular
      (λ j ne. standing-other history event j (λ e. ne (sym e)))
      (subst (λ h. IsAsHistorySays shape fresh places h next) (sym (standing-own history event i (ap at-call (sym stands.call)) tt)) (goes-on more_left refl))
      (λ k r at ne. apart-free next r next-free)
      flight base_flight

  module _ {start : List Sector} {rest : ℕ → Sector} (fa : IsFaithful g start rest (requests shape fresh passes history) places store) where
    abbrev guest-of : ℕ → Track
    guest-of s = track start history s

    abbrev seen-of : ℕ → Track
    seen-of s = track start (history ++ event ∷ []) s

    in-start : (s : ℕ) → IsIn shape.block p.block s → s < length start
    in-start s in_p = let size = fa.size in let e = block-after shape.block p.block shape.blocks piece.in_disk in let to = in_p.1 in omega arith

    -- where nothing was seen what may stand there stays, and where something was it is that
    off-same : (s : ℕ) → sector_in (p.first + p.done) content s ≡ None → seen-of s ≡ guest-of s
    off-same s off = track-more start history event s ∙ seen-off s (guest-of s) (call_id i p) (p.first + p.done) content off

    on-now : (s : ℕ) (v : Sector) → sector_in (p.first + p.done) content s ≡ Some v → (seen-of s).contents ≡ v ∷ []
    on-now s v on = ap (λ (x : Track). x.contents) (track-more start history event s)
        ∙ seen-at s (guest-of s) (call_id i p) (p.first + p.done) content v on (track-writes start history s ∙ free s (in-block s v on))

    more : (a : ℕ) (w : IsFilled shape.block passes a (track start history) (track (g.disk store).start (g.disk store).log a)) → (v : Sector) → Contains (guest-of w.sector).contents v → Contains (seen-of w.sector).contents v
    more a w v among = elim (cases-at (p.first + p.done) content w.sector) [
      | inl off ↦ subst (λ (x : Track). Contains x.contents v) (sym (off-same w.sector off)) among
      | inr on ↦ absurd (nobody w.by w.pass w.there w.filling.phase (same-block shape.block w.pass.block p.block w.sector w.in_block (in-block w.sector on.0 on.1)))
    ]

    shown-is : ((s : ℕ) (v : Sector) → sector_in (p.first + p.done) content s ≡ Some v → Contains (guest-of s).contents v) → IsShown start (past history) event
    shown-is each s v on = subst (λ (cs : List Sector). Contains cs v) (track-contents start history s) (each s v on)

    -- The pass saw the rest of a block that isn't fresh.
    pub rest-faithful : slice_get fresh p.block ≡ Some false → IsRest rest (p.first + p.done) content → IsFaithful g start rest (requests shape fresh (slice_set passes i next) (history ++ event ∷ [])) places store
    rest-faithful absent is_rest = not-issuing-faithful co i p there calm next next-not-issuing (history ++ event ∷ []) quiet fa store (omega arith)
        (shown-push start history event fa.shown (shown-is (λ s v on.
        let in_p = in-block s v on in
        subst (λ (x : Sector). Contains (guest-of s).contents x) (sym (is_rest s v on)) ((fa.stands s (in-start s in_p)).other p.block in_p absent))))
        (λ t is. absurd (cc)) (λ a low. refl)
        (λ s inside. elim (cases-at (p.first + p.done) content s) [
          | inl off ↦ subst (λ (x : Track). AgreesInSector (requests shape fresh passes history) places rest s x (track (g.disk store).start (g.disk store).log)) (sym (off-same s off)) (fa.stands s inside)
          | inr on ↦
              let in_p = in-block s on.0 on.1 in
              record {
                local = λ b x in_b is at v among. absurd (let e = ap (slice_get fresh) (same-block shape.block b p.block s in_b in_p) in cc);
                other = λ b in_b not. subst (λ (cs : List Sector). Contains cs (rest s)) (sym (on-now s on.0 on.1)) (subst (λ (x : Sector). Contains (x ∷ []) (rest s)) (sym (is_rest s on.0 on.1)) (is-one (rest s)));
              }
        ])
        more (λ e. absurd (next-filled e))

    -- The pass read its block's place in the store.
    module _ (t : Ticket) (place : t.first + shape.block * p.block ≡ p.at + (p.first + p.done)) (local : slice_get fresh p.block ≡ Some true) where
      placed : places p.block ≡ Some p.at
      placed = stands.at region (inr local)

      in-place : (a : ℕ) (v : Sector) → sector_in t.first content a ≡ Some v → (p.at ≤ a) × (a < p.at + shape.block)
      in-place a v on = let r = at-range t.first content a v on in let from = r.0 in let to = r.1 in let f = piece.from in let g = piece.to in (omega arith, omega arith)

      -- sector `a` is the place of the guest's sector s
      there-too : (s a : ℕ) (v : Sector) → a + shape.block * p.block ≡ p.at + s → sector_in (p.first + p.done) content s ≡ Some v → sector_in t.first content a ≡ Some v
      there-too s a v same on =
          let r = at-range (p.first + p.done) content s v on in let from = r.0 in
          let e : a - t.first ≡ s - (p.first + p.done) = omega arith in
          some-at t.first content a v (omega arith) (rw e (at-some (p.first + p.done) content s v on))

      here-too : (s a : ℕ) (v : Sector) → a + shape.block * p.block ≡ p.at + s → sector_in t.first content a ≡ Some v → sector_in (p.first + p.done) content s ≡ Some v
      here-too s a v same on =
          let r = at-range t.first content a v on in let from = r.0 in
          let e : s - (p.first + p.done) ≡ a - t.first = omega arith in
          some-at (p.first + p.done) content s v (omega arith) (rw e (at-some t.first content a v on))

      -- the place of a sector of which nothing was seen is none that was read
      off-too : (s b x : ℕ) → IsIn shape.block b s → places b ≡ Some x → sector_in (p.first + p.done) content s ≡ None → sector_in t.first content (x + (s - shape.block * b)) ≡ None
      off-too s b x in_b at off = let a = x + (s - shape.block * b) in elim (cases-at t.first content a) [
        | inl none ↦ none
        | inr on ↦
            let range = in-place a on.0 on.1 in let low = in_b.0 in let high = in_b.1 in
            let e : b ≡ p.block = same-place co.placed b p.block x p.at a at placed (omega arith) (omega arith) range.0 range.1 in
            let x_is : x ≡ p.at = some-inj (sym at ∙ ap places e ∙ placed) in
            let times : shape.block * b ≡ shape.block * p.block = ap (λ (k : ℕ). shape.block * k) e in
            absurd (let here = here-too s a on.0 (omega arith) on.1 in cc)
      ]

      abbrev store-of : ℕ → Track
      store-of a = track (g.disk store).start (g.disk store).log a

      store-free : (a : ℕ) (v : Sector) → sector_in t.first content a ≡ Some v → (store-of a).writes ≡ []
      store-free a v on = let range = in-place a v on in elim (fa.filling a (let low = (co.placed.inside p.block p.at placed).0 in let from = range.0 in omega arith)) [
        | inl none ↦ none.none
        | inr w ↦ absurd (no-filler co i p there region reads a (track start history) (store-of a) placed range.0 range.1 w)
      ]

      module _ {store' : S} (adds : Adds (Seen (ticket_id t) t.first content) (g.disk store) (g.disk store')) where
        abbrev after-of : ℕ → Track
        after-of a = track (g.disk store').start (g.disk store').log a

        store-off : (a : ℕ) → sector_in t.first content a ≡ None → after-of a ≡ store-of a
        store-off a off = disk-track a adds ∙ seen-off a (store-of a) (ticket_id t) t.first content off

        store-on : (a : ℕ) (v : Sector) → sector_in t.first content a ≡ Some v → (after-of a).contents ≡ v ∷ []
        store-on a v on = ap (λ (x : Track). x.contents) (disk-track a adds) ∙ seen-at a (store-of a) (ticket_id t) t.first content v on (store-free a v on)

        off-stands : (s : ℕ) → s < length start → sector_in (p.first + p.done) content s ≡ None → AgreesInSector (requests shape fresh passes history) places rest s (seen-of s) after-of
        off-stands s inside off = let old = fa.stands s inside in record {
          local = λ b x in_b is at v among. subst (λ (g : Track). Contains g.contents v) (sym (off-same s off))
              (old.local b x in_b is at v (subst (λ (d : Track). Contains d.contents v) (store-off (x + (s - shape.block * b)) (off-too s b x in_b at off)) among));
          other = λ b in_b not. subst (λ (g : Track). Contains g.contents (rest s)) (sym (off-same s off)) (old.other b in_b not);
        }

        on-stands : (s : ℕ) (c : Sector) → sector_in (p.first + p.done) content s ≡ Some c → AgreesInSector (requests shape fresh passes history) places rest s (seen-of s) after-of
        on-stands s c on = let in_p = in-block s c on in record {
          local = λ b x in_b is at v among.
              let e : b ≡ p.block = same-block shape.block b p.block s in_b in_p in
              let x_is : x ≡ p.at = some-inj (sym at ∙ ap places e ∙ placed) in
              let times : shape.block * b ≡ shape.block * p.block = ap (λ (k : ℕ). shape.block * k) e in
              let low = in_b.0 in
              let read = there-too s (x + (s - shape.block * b)) c (omega arith) on in
              subst (λ (cs : List Sector). Contains cs v) (sym (on-now s c on)) (subst (λ (cs : List Sector). Contains cs v) (store-on (x + (s - shape.block * b)) c read) among);
          other = λ b in_b not. absurd (let e = ap (slice_get fresh) (same-block shape.block b p.block s in_b in_p) in cc);
        }

        pub seen-faithful : g.last store' ≡ g.last store → IsHeld t.first content (g.disk store').held → IsFaithful g start rest (requests shape fresh (slice_set passes i next) (history ++ event ∷ [])) places store'
        seen-faithful still held = not-issuing-faithful co i p there calm next next-not-issuing (history ++ event ∷ []) quiet fa store' (omega (arith, still))
            (shown-push start history event fa.shown (shown-is (λ s v on.
            let in_p = in-block s v on in let low = in_p.0 in
            let a = p.at + (s - shape.block * p.block) in
            let read = there-too s a v (omega arith) on in
            (fa.stands s (in-start s in_p)).local p.block p.at in_p local placed v (read-could adds held a v read (store-free a v read)))))
            (λ u is. absurd (cc))
            (λ a low. ap (λ (x : Track). x.writes) (disk-track a adds) ∙ seen-writes a (store-of a) (ticket_id t) t.first content)
            (λ s inside. elim (cases-at (p.first + p.done) content s) [
              | inl off ↦ off-stands s inside off
              | inr on ↦ on-stands s on.0 on.1
            ])
            more (λ e. absurd (next-filled e))
