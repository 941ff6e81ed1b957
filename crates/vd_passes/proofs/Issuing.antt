-- A pass issues a piece of its write.
use Rattle.std.proofs.Common.{◌≡◌, ◌≢◌, ℕ, ◌+◌, ◌-◌, ◌*◌, ◌<◌, ◌≤◌, ◌⊎◌, Bool, true, false, List, [], ◌∷◌, ◌++◌, length, refl, sym, ◌∙◌, ap, subst, inl, inr, arith, Option, Some, None, slice_get, slice_set}
use Rattle.std.specs.Prelude.{slice_range}
use Rattle.std.specs.List.{Contains}
use Rattle.std.proofs.lemmas.List.Elements.{Contains-append_left, Contains-push, Contains-push_cases}
use Rattle.vd_lists.proofs.Lists.{length_part}
use Rattle.vd_law.specs.declared.entry.Sector.{Sector}
use Rattle.vd_law.specs.declared.entry.CallId.{CallId}
use Rattle.vd_law.specs.Entries.{Write, Entry, Issue}
use Rattle.vd_law.specs.Contents.{sector_in}
use Rattle.vd_law.specs.Rules.{IsRegular}
use Rattle.vd_device.specs.declared.ticket.Ticket.{Ticket}
use Rattle.vd_device.specs.declared.ticket.Kind.TheVariants.{Write as WriteKind}
use Rattle.vd_device.specs.Tickets.{ticket_id, Puts}
use Rattle.vd_device.specs.Disks.{Adds}
use Rattle.vd_passes.specs.declared.shape.Shape.{Shape}
use Rattle.vd_passes.specs.declared.pass.Pass.{Pass}
use Rattle.vd_passes.specs.declared.pass.Phase.TheVariants.{Idle, Held, Filled, Issuing, Ready}
use Rattle.vd_passes.specs.Laying.{Lays, extent}
use Rattle.vd_passes.specs.Tracks.{Track, track, writes, follow}
use Rattle.vd_passes.specs.Standings.{standing}
use Rattle.vd_passes.specs.Places.{IsIn}
use Rattle.vd_passes.specs.Passes.{has_region, call_id, tickets_of, HasNone, IsAsHistorySays, IsPiece, IsStored, pending_of, after_issue}
use Rattle.vd_passes.specs.Coherent.{IsCoherent, IsFaithful, AgreesInSector, IsUnwritten, IsWritten, IsUnfilled, IsFilled}
use Rattle.vd_passes.specs.Steps.{IsAt, HasAskedWrite, Issues}
use Rattle.vd_passes.proofs.Tracks.{track-more, track-writes, writes-more, disk-track, cases-at, at-inside, at-range, issue-at, issue-off}
use Rattle.vd_passes.proofs.Standing.{last_of, standing-own, regular-issue, shown-push}
use Rattle.vd_passes.proofs.Lists.{some-inj, get-set-same, at-set, length-set', tickets-put, fetches-same}
use Rattle.vd_passes.proofs.Places.{block-after, same-block, in-piece, same-place}
use Rattle.vd_passes.proofs.Regions.{alone, only-writer, only-filler, stored-place, sector-at, unwritten-set, written-set, unfilled-set, filled-set, request-kept, apart-set, each-set, region-of, filled-ticket}
use Rattle.vd_passes.proofs.Laying.{given-buffer, given-stored, given-lays}
use Rattle.vd_passes.proofs.Ready.{IsHolding, holding-region, holding-not, holding-none, holding-busy, holding-unready, request-is, asked-long}
use Rattle.vd_device.specs.declared.store.Store.{Ghosts as StoreGhosts}
use Rattle.vd_device.specs.declared.base.Base.{Ghosts as BaseGhosts}
use Rattle.vd_passes.specs.Requests.{RequestState, requests}
use Rattle.vd_passes.proofs.Growing.{AreAlike, alike-store, agrees-so}

module _ {shape : Shape} {fresh : List Bool} {places : ℕ → Option ℕ} {passes : List Pass} {history : List Entry} {S B : Type 0} {g : StoreGhosts S} {h : BaseGhosts B} {store : S} {base : B}
    (co : IsCoherent g h (requests shape fresh passes history) places store base) (i : ℕ) (p : Pass) (there : slice_get passes i ≡ Some p)
    (holding : IsHolding p) (write : p.write ≡ true) (part : List Sector) (long : length part ≡ p.piece) (t : Ticket)
    (kind : t.kind ≡ WriteKind) (stored : IsStored shape.block fresh p t) (buffer : List Sector) (room : length buffer ≡ shape.block) where
  abbrev issued : Pass
  issued = after_issue p t buffer

  abbrev event : Entry
  event = Issue (call_id i p) (p.first + p.done) part

  stands : IsAsHistorySays shape fresh places (standing history i) p
  stands = co.each i p there

  region : has_region p.phase ≡ true
  region = holding-region p holding

  piece : IsPiece shape p
  piece = stands.piece region

  placed : places p.block ≡ Some p.at
  placed = stands.at region (inl write)

  none : HasNone p
  none = holding-none stands holding

  not-idle : p.phase ≢ Idle
  not-idle = holding-busy stands holding

  not-ready : p.phase ≢ Ready
  not-ready = holding-unready stands holding

  -- a pass that writes now isn't this one
  not-writing : (by : ℕ) (q : Pass) → slice_get passes by ≡ Some q → q.phase ≡ Issuing → by ≡ i → ⊥
  not-writing by q at is e = holding-not p Issuing holding (λ f. absurd (cc)) (λ f. absurd (cc)) (ap (λ (x : Pass). x.phase) (some-inj (sym there ∙ ap (slice_get passes) (sym e) ∙ at)) ∙ is)

  in-part : (s : ℕ) (c : Sector) → sector_in (p.first + p.done) part s ≡ Some c → IsIn shape.block p.block s
  in-part s c h = let r = at-range (p.first + p.done) part s c h in in-piece shape p s piece r.0 (let to = r.1 in omega arith)

  -- no write is open on a sector of the block
  free : (s : ℕ) → IsIn shape.block p.block s → writes history s ≡ []
  free s in_p = elim (co.guest s) [
    | inl unwritten ↦ unwritten.none
    | inr w ↦ absurd (not-writing w.by w.pass w.there w.writing.phase (only-writer co i p there region write s in_p w))
  ]

  abbrev bare : ℕ → Track
  bare s = record { contents = []; writes = writes history s }

  writes-next : (s : ℕ) → writes (history ++ event ∷ []) s ≡ (follow s (bare s) event).writes
  writes-next s = writes-more history event s (bare s) refl

  guest : (s : ℕ) → IsUnwritten (slice_set passes i issued) s (writes (history ++ event ∷ []) s) ⊎ IsWritten (slice_set passes i issued) s (writes (history ++ event ∷ []) s)
  guest s = elim (cases-at (p.first + p.done) part s) [
    | inl off ↦
        let same : writes (history ++ event ∷ []) s ≡ writes history s = writes-next s ∙ ap (λ (x : Track). x.writes) (issue-off s (bare s) (call_id i p) (p.first + p.done) part off) in
        elim (co.guest s) [
          | inl unwritten ↦ inl (unwritten-set passes i p issued there s (writes history s) (writes (history ++ event ∷ []) s) unwritten
              (λ w. let from : p.first + p.done ≤ s = w.from in let to : s < p.first + p.done + p.piece = w.to in let f = at-inside (p.first + p.done) part s from (omega arith) in let g = f.1 in cc)
              (same ∙ unwritten.none))
          | inr w ↦ inr (written-set passes i p issued there s (writes history s) (writes (history ++ event ∷ []) s) w (not-writing w.by w.pass w.there w.writing.phase) same)
        ]
    | inr on ↦
        let r = at-range (p.first + p.done) part s on.0 on.1 in
        inr (record {
          by = i;
          pass = issued;
          there = get-set-same passes i issued p there;
          writing = record { phase = refl; from = r.0; to = let to = r.1 in omega arith };
          content = on.0;
          one = writes-next s ∙ ap (λ (x : Track). x.writes) (issue-at s (bare s) (call_id i p) (p.first + p.done) part on.0 on.1) ∙ ap (λ ws. (call_id i p, on.0) ∷ ws) (free s (in-part s on.0 on.1));
        })
  ]

  abbrev call-at : ℕ → CallId
  call-at n = record { pass = i; call = n }

  mine : call_id i p ≡ last_of history i
  mine = ap call-at (sym stands.call)

  closed : (standing history i).progress.pending ≡ 0
  closed = stands.pending not-idle ∙ elim holding [
    | inl held ↦ ap (λ ph. pending_of ph p.piece) held
    | inr filled ↦ ap (λ ph. pending_of ph p.piece) filled
  ]

  next : IsAsHistorySays shape fresh places (standing (history ++ event ∷ []) i) issued
  next = subst (λ h. IsAsHistorySays shape fresh places h issued) (sym (standing-own history event i mine tt)) (record {
    call = stands.call;
    idle = λ e. absurd (cc);
    busy = λ e. let b = stands.busy not-idle in (b.0, b.1, request-kept p issued b.0 refl refl refl refl b.2);
    unanswered = λ e. stands.unanswered not-idle;
    done = λ e. stands.done not-idle;
    range = λ e. stands.range not-idle;
    pending = λ e. long;
    whole = λ e f. stands.whole not-idle not-ready;
    ready = λ e. absurd (cc);
    write = λ e. write;
    read = λ e. absurd (cc);
    left = λ e. absurd (cc);
    flush = λ e. absurd (cc);
    no_flush = λ e. stands.no_flush region;
    unstarted = λ e f. absurd (let n = stands.no_flush region in cc);
    placed = λ e w. stands.placed not-idle write;
    piece = λ e. record { some = piece.some; no_more = piece.no_more; from = piece.from; to = piece.to; in_disk = piece.in_disk; ends = piece.ends };
    at = λ e w. placed;
    ticket = (t, refl, none.fetch, kind, stored);
    buffer = room;
  })

  -- The history may go on so, where the piece is that of the request.
  module _ (first : ℕ) (asked : List Sector) (request : (standing history i).progress.asked ≡ Some (Write first asked)) (part_of : part ≡ slice_range asked p.done (p.done + length part)) where
    regular : IsRegular (shape.block * shape.blocks) (history ++ event ∷ [])
    regular =
        let is = request-is co i p there holding first asked request in
        let place = is.1 in let count = is.2 in let done = stands.done not-idle in let some = piece.some in let no_more = piece.no_more in
        subst (λ id. IsRegular (shape.block * shape.blocks) (history ++ Issue id (p.first + p.done) part ∷ [])) (sym mine)
        (regular-issue i first (p.first + p.done) asked part co.regular (record { asked = request; unanswered = stands.unanswered not-idle })
        closed (stands.whole not-idle not-ready).0 (omega arith) (omega arith) (omega arith)
        (part_of ∙ ap (λ n. slice_range asked n (n + length part)) (sym done))
        (λ s from to. free s (in-piece shape p s piece from (omega arith))))

    pub coherent : (store' : S) → AreAlike g h store store' base base → Puts t (g.flight store) (g.flight store') → IsCoherent g h (requests shape fresh (slice_set passes i issued) (history ++ event ∷ [])) places store' base
    coherent store' alike puts = record {
      shaped = rw alike.sectors co.shaped;
      size = co.size;
      placed = rw alike.sectors co.placed;
      fresh_placed = co.fresh_placed;
      regular = regular;
      few = rw (length-set' passes i issued) co.few;
      deep = rw alike.depth co.deep;
      base_deep = co.base_deep;
      each = each-set shape fresh places passes history event i p issued there refl (λ j q at ne. co.each j q at) next;
      apart = apart-set passes i p issued there co.apart (λ k r at ne has_p has_r. co.apart i k p r there at ne region has_r);
      flight = puts (tickets_of passes) (tickets_of (slice_set passes i issued)) (tickets-put passes i p issued t there none.ticket refl) co.flight;
      base_flight = subst (h.flight base) (sym (fetches-same passes i p issued there refl)) co.base_flight;
      guest = guest;
    }

  -- Where the devices tell: the store was given the piece, laid out as its block asks.
  module _ {start : List Sector} {rest : ℕ → Sector} {store' : S} (fa : IsFaithful g start rest (requests shape fresh passes history) places store) (stored_content : List Sector)
      (lays : Lays rest shape.block p.block p.at (extent (p.first + p.done) part) (extent t.first stored_content) (slice_get fresh p.block ≡ Some false)) (wide : length stored_content ≡ t.count)
      (adds : Adds (Issue (ticket_id t) t.first stored_content) (g.disk store) (g.disk store')) (new_number : g.last store < t.number) (now_last : g.last store' ≡ t.number) where
    abbrev guest-of : ℕ → Track
    guest-of s = track start history s

    abbrev store-of : ℕ → Track
    store-of a = track (g.disk store).start (g.disk store).log a

    abbrev guest-next : ℕ → Track
    guest-next s = follow s (guest-of s) event

    abbrev store-next : ℕ → Track
    store-next a = follow a (store-of a) (Issue (ticket_id t) t.first stored_content)

    guest-free : (s : ℕ) → IsIn shape.block p.block s → (guest-of s).writes ≡ []
    guest-free s in_p = track-writes start history s ∙ free s in_p

    -- what the store is given lies in the block's place
    in-stored : (a : ℕ) (c : Sector) → sector_in t.first stored_content a ≡ Some c → (p.at ≤ a) × (a < p.at + shape.block)
    in-stored a c h = let r = at-range t.first stored_content a c h in stored-place shape fresh p t a piece stored r.0 (let to = r.1 in omega arith)

    guest-off : (s : ℕ) → sector_in (p.first + p.done) part s ≡ None → guest-next s ≡ guest-of s
    guest-off s off = issue-off s (guest-of s) (call_id i p) (p.first + p.done) part off

    guest-on : (s : ℕ) (c : Sector) → sector_in (p.first + p.done) part s ≡ Some c → guest-next s ≡ record { contents = (guest-of s).contents ++ c ∷ []; writes = (call_id i p, c) ∷ (guest-of s).writes }
    guest-on s c on = issue-at s (guest-of s) (call_id i p) (p.first + p.done) part c on

    store-off : (a : ℕ) → sector_in t.first stored_content a ≡ None → store-next a ≡ store-of a
    store-off a off = issue-off a (store-of a) (ticket_id t) t.first stored_content off

    store-on : (a : ℕ) (c : Sector) → sector_in t.first stored_content a ≡ Some c → store-next a ≡ record { contents = (store-of a).contents ++ c ∷ []; writes = (ticket_id t, c) ∷ (store-of a).writes }
    store-on a c on = issue-at a (store-of a) (ticket_id t) t.first stored_content c on

    -- nothing goes that could stand there before
    more : (s : ℕ) (v : Sector) → Contains (guest-of s).contents v → Contains (guest-next s).contents v
    more s v among = elim (cases-at (p.first + p.done) part s) [
      | inl off ↦ subst (λ (g : Track). Contains g.contents v) (sym (guest-off s off)) among
      | inr on ↦ subst (λ (g : Track). Contains g.contents v) (sym (guest-on s on.0 on.1)) (Contains-append_left (guest-of s).contents (on.0 ∷ []) v among)
    ]

    -- another pass that writes to the store does so for another block, on which nothing changes
    guest-other : (s by : ℕ) (q : Pass) → slice_get passes by ≡ Some q → q.phase ≡ Issuing → IsIn shape.block q.block s → guest-next s ≡ guest-of s
    guest-other s by q at is in_q = elim (cases-at (p.first + p.done) part s) [
      | inl off ↦ guest-off s off
      | inr on ↦ absurd (not-writing by q at is (alone co i p there region write by q at (region-of _ Issuing refl is) (same-block shape.block q.block p.block s in_q (in-part s on.0 on.1))))
    ]

    -- a block's sector that the store is given now is this block's, and it is the piece's
    local-now : (b x s a : ℕ) (c : Sector) → IsIn shape.block b s → slice_get fresh b ≡ Some true → places b ≡ Some x → a ≡ x + (s - shape.block * b) → sector_in t.first stored_content a ≡ Some c → Contains (guest-next s).contents c
    local-now b x s a c in_b is at_b e on =
        let range = in-stored a c on in let from = in_b.0 in let to = in_b.1 in
        let same : b ≡ p.block = same-place co.placed b p.block x p.at a at_b placed (omega arith) (omega arith) range.0 range.1 in
        let at_same : x ≡ p.at = some-inj (sym at_b ∙ ap places same ∙ placed) in
        let blocks : shape.block * b ≡ shape.block * p.block = ap (λ n. shape.block * n) same in
        elim (lays.source a s c (omega arith) on) [
          | inl own ↦ subst (λ (g : Track). Contains g.contents c) (sym (guest-on s c own)) (Contains-push (guest-of s).contents c)
          | inr fill ↦ absurd (let known = sym is ∙ ap (slice_get fresh) same ∙ fill.2 in cc)
        ]

    stands-next : (s : ℕ) → s < length start → AgreesInSector (requests shape fresh passes history) places rest s (guest-next s) store-next
    stands-next s inside = let old = fa.stands s inside in record {
      local = λ b x in_b is at_b v among.
          let a : ℕ = x + (s - shape.block * b) in
          elim (cases-at t.first stored_content a) [
            | inl off ↦ more s v (old.local b x in_b is at_b v (subst (λ (g : Track). Contains g.contents v) (store-off a off) among))
            | inr on ↦ elim (Contains-push_cases (store-of a).contents on.0 v (subst (λ (g : Track). Contains g.contents v) (store-on a on.0 on.1) among)) [
              | inl before ↦ more s v (old.local b x in_b is at_b v before)
              | inr now ↦ subst (λ c. Contains (guest-next s).contents c) now (local-now b x s a on.0 in_b is at_b refl on.1)
            ]
          ];
      other = λ b in_b not. more s (rest s) (old.other b in_b not);
    }

    -- a sector of the block lies in the disk
    in-disk : (s : ℕ) → IsIn shape.block p.block s → s < length start
    in-disk s in_p = let to = in_p.1 in let size = fa.size in let after = block-after shape.block p.block shape.blocks piece.in_disk in omega arith

    filling-next : (a : ℕ) → shape.storage_at ≤ a → IsUnfilled (slice_set passes i issued) a (store-next a) ⊎ IsFilled shape.block (slice_set passes i issued) a guest-next (store-next a)
    filling-next a low = elim (cases-at t.first stored_content a) [
      | inl off ↦
          let same = ap (λ (x : Track). x.writes) (store-off a off) in
          elim (fa.filling a low) [
            | inl unfilled ↦ inl (unfilled-set passes i p issued there a (store-of a) (store-next a) unfilled
                (λ w. let from : t.first ≤ a = w.covers.0 in let to : a < t.first + t.count = w.covers.1 in let f = at-inside t.first stored_content a from (omega arith) in let g = f.1 in cc)
                (same ∙ unfilled.none))
            | inr w ↦ inr (filled-set passes i p issued there shape.block a guest-of guest-next (store-of a) (store-next a) w (not-writing w.by w.pass w.there w.filling.phase) same
                (ap (λ (x : Track). x.writes) (guest-other w.sector w.by w.pass w.there w.filling.phase w.in_block)) (more w.sector))
          ]
      | inr on ↦
          let range = in-stored a on.0 on.1 in let r = at-range t.first stored_content a on.0 on.1 in
          let calm : (store-of a).writes ≡ [] = elim (fa.filling a low) [
            | inl unfilled ↦ unfilled.none
            | inr w ↦ absurd (not-writing w.by w.pass w.there w.filling.phase (only-filler co i p there region write a guest-of (store-of a) range.0 range.1 w))
          ] in
          let place = sector-at shape.block p.block p.at a range.0 range.1 in
          inr (record {
            by = i;
            pass = issued;
            there = get-set-same passes i issued p there;
            ticket = t;
            has = refl;
            filling = record { phase = refl; covers = (r.0, let to = r.1 in omega arith) };
            content = on.0;
            one = ap (λ (x : Track). x.writes) (store-on a on.0 on.1) ∙ ap (λ ws. (ticket_id t, on.0) ∷ ws) calm;
            sector = place.0;
            place = place.1;
            in_block = place.2;
            source = elim (lays.source a place.0 on.0 place.1 on.1) [
              | inl own ↦ inl (ap (λ (x : Track). x.writes) (guest-on place.0 on.0 own) ∙ ap (λ ws. (call_id i p, on.0) ∷ ws) (guest-free place.0 place.2))
              | inr fill ↦ inr (
                ap (λ (x : Track). x.writes) (guest-off place.0 fill.0) ∙ guest-free place.0 place.2,
                more place.0 on.0 (subst (λ x. Contains (guest-of place.0).contents x) (sym fill.1) ((fa.stands place.0 (in-disk place.0 place.2)).other p.block place.2 fill.2)),
              )
            ];
          })
    ]

    -- each ticket in flight has an earlier number than this one
    earlier : (j : ℕ) (q : Pass) (u : Ticket) → slice_get passes j ≡ Some q → q.ticket ≡ Some u → u.number ≢ t.number
    earlier j q u at_j has e = let n = fa.numbers j q u at_j has in absurd (omega arith)

    pub faithful : IsFaithful g start rest (requests shape fresh (slice_set passes i issued) (history ++ event ∷ [])) places store'
    faithful = record {
      size = fa.size;
      shown = shown-push start history event fa.shown tt;
      numbers = λ j q u at_j has. rw now_last (elim (at-set passes i j issued p q there at_j) [
        | inl a ↦ let e = some-inj (sym has ∙ ap (λ (x : Pass). x.ticket) a.1) in let n = ap (λ (x : Ticket). x.number) e in omega arith
        | inr a ↦ let n = fa.numbers j q u a.1 has in omega arith
      ]);
      distinct = λ j k q r u v at_j at_k ne has_u has_v. elim (at-set passes i j issued p q there at_j) [
        | inl a ↦ elim (at-set passes i k issued p r there at_k) [
          | inl b ↦ absurd (ne (a.0 ∙ sym b.0))
          | inr b ↦ λ e. earlier k r v b.1 has_v (sym e ∙ ap (λ (x : Ticket). x.number) (some-inj (sym has_u ∙ ap (λ (x : Pass). x.ticket) a.1)))
        ]
        | inr a ↦ elim (at-set passes i k issued p r there at_k) [
          | inl b ↦ λ e. earlier j q u a.1 has_u (e ∙ ap (λ (x : Ticket). x.number) (some-inj (sym has_v ∙ ap (λ (x : Pass). x.ticket) b.1)))
          | inr b ↦ fa.distinct j k q r u v a.1 b.1 ne has_u has_v
        ]
      ];
      stands = λ s inside. agrees-so (subst (λ (x : Track). AgreesInSector (requests shape fresh passes history) places rest s x (track (g.disk store').start (g.disk store').log)) (sym (track-more start history event s)) (stands-told s (stands-next s inside)));
      filling = λ a low. filling-told a (filling-next a low);
      buffers = λ j q at_j filled. elim (at-set passes i j issued p q there at_j) [
        | inl a ↦ absurd (let e = ap (λ (x : Pass). x.phase) a.1 in cc)
        | inr a ↦ fa.buffers j q a.1 filled
      ];
    }
      where
        stands-told : (s : ℕ) → AgreesInSector (requests shape fresh passes history) places rest s (guest-next s) store-next → AgreesInSector (requests shape fresh passes history) places rest s (guest-next s) (track (g.disk store').start (g.disk store').log)
        stands-told s next = record {
          local = λ b x in_b is at_b v among. next.local b x in_b is at_b v (subst (λ (d : Track). Contains d.contents v) (disk-track (x + (s - shape.block * b)) adds) among);
          other = next.other;
        }

        filling-told : (a : ℕ) → IsUnfilled (slice_set passes i issued) a (store-next a) ⊎ IsFilled shape.block (slice_set passes i issued) a guest-next (store-next a)
            → IsUnfilled (slice_set passes i issued) a (track (g.disk store').start (g.disk store').log a) ⊎ IsFilled shape.block (slice_set passes i issued) a (track start (history ++ event ∷ [])) (track (g.disk store').start (g.disk store').log a)
        filling-told a (inl unfilled) = inl (record { nobody = unfilled.nobody; none = ap (λ (x : Track). x.writes) (disk-track a adds) ∙ unfilled.none })
        filling-told a (inr w) = inr (record {
          by = w.by;
          pass = w.pass;
          there = w.there;
          ticket = w.ticket;
          has = w.has;
          filling = w.filling;
          content = w.content;
          one = ap (λ (x : Track). x.writes) (disk-track a adds) ∙ w.one;
          sector = w.sector;
          place = w.place;
          in_block = w.in_block;
          source = subst (λ (g : Track). (g.writes ≡ (call_id w.by w.pass, w.content) ∷ []) ⊎ ((g.writes ≡ []) × Contains g.contents w.content)) (sym (track-more start history event w.sector)) w.source;
        })

-- Issuing keeps a core coherent, and true to its devices.
module _ {shape : Shape} {fresh : List Bool} {places : ℕ → Option ℕ} {passes : List Pass} {history : List Entry} {i : ℕ} {S B : Type 0} {g : StoreGhosts S} {h : BaseGhosts B} {store store' : S} {base : B} {r' : RequestState}
    (content : List Sector) (co : IsCoherent g h (requests shape fresh passes history) places store base)
    (at : IsAt passes i (λ p. ((p.phase ≡ Held) ⊎ (p.phase ≡ Filled)) × (p.write ≡ true))) (asked : HasAskedWrite history i content)
    (step : Issues g content i (requests shape fresh passes history) r' store store') where
  this : at.0 ≡ step.pass
  this = some-inj (sym at.1 ∙ step.there)

  was-holding : IsHolding step.pass
  was-holding = subst (λ (x : Pass). IsHolding x) this at.2.0

  writes-now : step.pass.write ≡ true
  writes-now = ap (λ (x : Pass). x.write) (sym this) ∙ at.2.1

  abbrev step-part : List Sector
  step-part = slice_range content step.pass.done (step.pass.done + step.pass.piece)

  step-stands : IsAsHistorySays shape fresh places (standing history i) step.pass
  step-stands = co.each i step.pass step.there

  step-piece : IsPiece shape step.pass
  step-piece = step-stands.piece (holding-region step.pass was-holding)

  step-long : length step-part ≡ step.pass.piece
  step-long = let count = asked-long co i content asked step.pass step.there was-holding in let no_more = step-piece.no_more in length_part content step.pass.done step.pass.piece (omega arith)

  not-fresh : step.pass.phase ≡ Filled → slice_get fresh step.pass.block ≡ Some false
  not-fresh is = (filled-ticket step-stands is).1

  step-stored : IsStored shape.block fresh step.pass step.ticket
  step-stored = given-stored step.given step-piece step-long step-stands.buffer not-fresh

  step-room : length step.buffer ≡ shape.block
  step-room = given-buffer step.given step-piece step-long step-stands.buffer

  pub issues-coherent : IsCoherent g h r' places store' base
  issues-coherent = rw step.after (coherent co i step.pass step.there was-holding writes-now step-part step-long step.ticket step.kind step-stored step.buffer step-room
      asked.0 content asked.1 (ap (λ n. slice_range content step.pass.done (step.pass.done + n)) (sym step-long)) store' (alike-store step.call.counts) step.call.flight)

  pub issues-faithful : {start : List Sector} {rest : ℕ → Sector} → (g.tells store → IsFaithful g start rest (requests shape fresh passes history) places store) → g.tells store' → IsFaithful g start rest r' places store'
  issues-faithful {start} {rest} faithful_before told =
      let fa = faithful_before (step.call.takes.keeps.told_before told) in
      let lays = given-lays step.given step-piece step-long step-stands.buffer not-fresh rest (fa.buffers i step.pass step.there) in
      rw step.after (faithful co i step.pass step.there was-holding writes-now step-part step-long step.ticket step.kind step-stored step.buffer step-room
      fa step.stored lays (sym step.given.count) (step.call.takes.told told) (step.call.rises told) step.call.next.last)
