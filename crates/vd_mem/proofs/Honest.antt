-- What a store holds stays what could be there.
use Rattle.std.proofs.Common.{◌≡◌, ℕ, ◌+◌, ◌<◌, ◌≤◌, ◌⊎◌, inl, inr, Bool, true, false, List, [], ◌∷◌, Option, Some, None, length, refl, ap, sym, ◌∙◌, subst, arith}
use Rattle.std.specs.Prelude.{if◌then◌else◌, slice_get, slice_range}
use Rattle.std.specs.Option.{option_to_list}
use Rattle.std.specs.List.{Contains, find, list_any}
use Rattle.std.proofs.lemmas.List.Elements.{Contains-append_left, Contains-push}
use Rattle.std.proofs.lemmas.Option.{same_Some}
use Rattle.vd_lists.proofs.Options.{cases_option}
use Rattle.vd_law.specs.declared.entry.Sector.{Sector}
use Rattle.vd_law.specs.declared.entry.CallId.{CallId}
use Rattle.vd_law.specs.Entries.{Entry, Ask, Issue, Done, Broke, Seen, Reply, Past, ◌▸◌, past}
use Rattle.vd_law.specs.Contents.{sector_in, Open, is_of, is_of_another, open_writes, contents_after_done, contents_after_seen, could_after}
use Rattle.vd_law.proofs.Appending.{could-push}
use Rattle.vd_law.proofs.Opening.{same_call-refl}
use Rattle.vd_device.specs.declared.ticket.Ticket.{Ticket}
use Rattle.vd_device.specs.Tickets.{HasAmong, ticket_id}
use Rattle.vd_device.specs.Disks.{Disk, IsHonest, IsUnwrittenAt, GrowsBy, AreWrites}
use Rattle.vd_mem.specs.StoreState.{over_at}
use Rattle.vd_mem.specs.Flying.{IsOnlyOpen, HaveDistinctNumbers}
use Rattle.vd_mem.proofs.Sectors.{sector-none, over-at, over-off, over-length, range-held}
use Rattle.vd_mem.proofs.Flying.{grown, off-none}

-- The contents that could be in each sector are at least those from before.
abbrev pub NoLess : Entry → Type 0
NoLess e = (start : List Sector) (p : Past) (s : ℕ) (v : Sector) → Contains (could_after start p s) v → Contains (could_after start (p ▸ e) s) v

-- what could be there with one more entry
could-grown : (d : Disk) (e : Entry) (held : List Sector) (s : ℕ) (v : Sector) → Contains (could_after d.start (past d.log ▸ e) s) v → Contains (could_after d.start (past (grown d e held).log) s) v
could-grown d e held s v there = subst (λ (k : List Sector). Contains k v) (sym (could-push d.start d.log e s)) there

-- An entry that leaves what is held.
pub kept-grows : (d : Disk) (e : Entry) → NoLess e → IsHonest d → GrowsBy (e ∷ []) d (grown d e d.held)
kept-grows d e more honest = record {
  start = refl;
  log = refl;
  size = refl;
  others = λ s before after. refl;
  honest_before = honest;
  honest = λ s v at. could-grown d e d.held s v (more d.start (past d.log) s v (honest s v at));
}

pub ask-more : (id : CallId) (request : _) → NoLess (Ask id request)
ask-more id request start p s v there = there

pub issue-more : (id : CallId) (first : ℕ) (content : List Sector) → NoLess (Issue id first content)
issue-more id first content start p s v there = Contains-append_left (could_after start p s) (option_to_list (sector_in first content s)) v there

pub broke-more : (id : CallId) → NoLess (Broke id)
broke-more id start p s v there = there

pub reply-more : (id : CallId) (answer : _) → NoLess (Reply id answer)
reply-more id answer start p s v there = there

-- a Seen of what is held
seen-there : (o : Option Sector) (others : Bool) (contents : List Sector) (v : Sector) → ((w : Sector) → o ≡ Some w → w ≡ v) → Contains contents v → Contains (contents_after_seen o others contents) v
seen-there None others contents v shows there = there
seen-there (Some w) true contents v shows there = there
seen-there (Some w) false contents v shows there = subst (λ (x : Sector). Contains (x ∷ []) v) (sym (shows w refl)) (Contains-push [] v)

pub seen-grows : (d : Disk) (id : CallId) (first count : ℕ) → IsHonest d → GrowsBy (Seen id first (slice_range d.held first (first + count)) ∷ []) d (grown d (Seen id first (slice_range d.held first (first + count))) d.held)
seen-grows d id first count honest =
    let out = slice_range d.held first (first + count) in
    record {
      start = refl;
      log = refl;
      size = refl;
      others = λ s before after. refl;
      honest_before = honest;
      honest = λ s v at. could-grown d (Seen id first out) d.held s v
          (seen-there (sector_in first out s) (list_any (is_of_another id) (open_writes (past d.log) s)) (could_after d.start (past d.log) s) v
          (λ w shown. same_Some w v (sym (range-held first count d.held s w shown) ∙ at)) (honest s v at));
    }

-- A write of a ticket in flight is carried out.
module _ (d : Disk) (t : Ticket) (content : List Sector) (size : length content ≡ t.count) (fits : t.first + t.count ≤ length d.held)
    (only_open : (s : ℕ) (v : Sector) → sector_in t.first content s ≡ Some v → IsOnlyOpen d.start (past d.log) (ticket_id t) s v)
    (honest : IsHonest d) where
  abbrev written : List Sector
  written = over_at t.first content d.held

  room : t.first + length content ≤ length d.held
  room = omega (arith, size, fits)

  calm-kept : (s : ℕ) → IsUnwrittenAt d s → slice_get written s ≡ slice_get d.held s
  calm-kept s calm =
      elim (cases_option (sector_in t.first content s)) [
        | inl none ↦ over-off t.first content d.held s room none
        | inr some ↦ let o = only_open s some.0 some.1 in let alone = o.alone in absurd (let e = sym calm ∙ alone in cc)
      ]

  -- what is held then could be there, where an entry makes this of what could be
  pub written-grows : (e : Entry) → ((s : ℕ) (v : Sector) → sector_in t.first content s ≡ None → Contains (could_after d.start (past d.log) s) v → Contains (could_after d.start (past d.log ▸ e) s) v)
      → ((s : ℕ) (v : Sector) → sector_in t.first content s ≡ Some v → IsOnlyOpen d.start (past d.log) (ticket_id t) s v → Contains (could_after d.start (past d.log ▸ e) s) v)
      → GrowsBy (e ∷ []) d (grown d e written)
  written-grows e off on = record {
    start = refl;
    log = refl;
    size = over-length t.first content d.held room;
    others = λ s before after. calm-kept s before;
    honest_before = honest;
    honest = λ s v at. could-grown d e written s v
        (elim (cases_option (sector_in t.first content s)) [
          | inl none ↦ off s v none (honest s v (sym (over-off t.first content d.held s room none) ∙ at))
          | inr some ↦ let same : some.0 ≡ v = same_Some some.0 v (sym (over-at t.first content d.held s some.0 (omega (arith, room)) some.1) ∙ at) in
              subst (λ (x : Sector). Contains (could_after d.start (past d.log ▸ e) s) x) same (on s some.0 some.1 (only_open s some.0 some.1))
        ]);
  }

  -- it failed, and left the sectors as written
  pub broke-written-grows : GrowsBy (Broke (ticket_id t) ∷ []) d (grown d (Broke (ticket_id t)) written)
  broke-written-grows = written-grows (Broke (ticket_id t)) (λ s v none there. there) (λ s v at o. o.among)

  found : (s : ℕ) (v : Sector) → IsOnlyOpen d.start (past d.log) (ticket_id t) s v → contents_after_done (find (is_of (ticket_id t)) (open_writes (past d.log) s)) (could_after d.start (past d.log) s) ≡ v ∷ []
  found s v o =
      ap (λ (ws : List Open). contents_after_done (find (is_of (ticket_id t)) ws) (could_after d.start (past d.log) s)) o.alone
      ∙ ap (λ (b : Bool). contents_after_done (if b then Some (own_write s v) else None) (could_after d.start (past d.log) s)) (same_call-refl (ticket_id t))
    where
      own_write : ℕ → Sector → Open
      own_write s v = record { call = ticket_id t; number = length (Rattle.vd_law.specs.Contents.issued_contents (past d.log) s); content = v }

  -- it is done
  pub done-grows : (others all : List Ticket) → HasAmong t others all → HaveDistinctNumbers all → AreWrites all d → GrowsBy (Done (ticket_id t) ∷ []) d (grown d (Done (ticket_id t)) written)
  done-grows others all among distinct writes =
      written-grows (Done (ticket_id t))
      (λ s v none there. subst (λ (k : List Sector). Contains k v)
      (sym (ap (λ (o : Option Open). contents_after_done o (could_after d.start (past d.log) s)) (off-none d t others all s among distinct writes (outside s none)))) there)
      (λ s v at o. subst (λ (k : List Sector). Contains k v) (sym (found s v o)) (Contains-push [] v))
    where
      outside : (s : ℕ) → sector_in t.first content s ≡ None → (s < t.first) ⊎ (t.first + t.count ≤ s)
      outside s none = elim (sector-none t.first content s none) [ inl below ↦ inl below | inr above ↦ inr (omega (arith, above, size)) ]
