-- Tickets that are put in flight and that end, and what the log says of them.
use Rattle.std.proofs.Common.{◌≡◌, ℕ, ◌+◌, ◌<◌, ◌≤◌, ◌⊎◌, inl, inr, Bool, true, false, not, List, [], ◌∷◌, ◌++◌, Option, Some, None, length, refl, ap, sym, ◌∙◌, subst, arith, length-append}
use Rattle.std.specs.Prelude.{if◌then◌else◌}
use Rattle.std.specs.List.{All, AllByRecursion, Contains, filter, find}
use Rattle.std.proofs.lemmas.List.Elements.{All-nil, All-cons, All-head, All-tail, All-weaker, All-filter, filter_passes, All-append}
use Rattle.vd_lists.proofs.Options.{cases_option}
use Rattle.vd_law.specs.declared.entry.Sector.{Sector}
use Rattle.vd_law.specs.declared.entry.CallId.{CallId}
use Rattle.vd_law.specs.Entries.{Entry, call_of, same_call, Past, ◌▸◌, past}
use Rattle.vd_law.specs.Contents.{sector_in, issued_contents, Open, open_after_issue, is_of, is_of_another, open_writes}
use Rattle.vd_law.proofs.Appending.{after-push}
use Rattle.vd_law.proofs.Opening.{same_call-refl}
use Rattle.vd_device.specs.declared.ticket.Ticket.{Ticket}
use Rattle.vd_device.specs.declared.ticket.Kind.{Kind}
use Rattle.vd_device.specs.declared.ticket.Kind.TheVariants.{Read, Write, Flush}
use Rattle.vd_device.specs.Tickets.{HasAmong, IsClear, AreRangesApart, ticket_id}
use Rattle.vd_device.specs.Calls.{issue_entry}
use Rattle.vd_device.specs.Disks.{Disk, IsOneOf, AreWrites}
use Rattle.vd_mem.specs.Flying.{IsLoggedAs, IsCall, HaveDistinctNumbers, AreCalls}
use Rattle.vd_mem.proofs.Flights.{all-more, all-both, all-put, all-take, all-at, contains-put, contains-it, contains-take, distinct-put, distinct-take, same-number, IsOther}
use Rattle.vd_mem.proofs.Sectors.{sector-range, sector-none}
use Rattle.vd_mem.proofs.Opens.{IsOff, other-call, other-ticket, stands-kept}

-- the disk with one more entry, and other contents
abbrev pub grown : Disk → Entry → List Sector → Disk
grown d e held = record { start = d.start; log = d.log ++ e ∷ []; held = held }

-- of two facts of each
All-both : {X : Type 0} (P Q R : X → Type 0) → ((x : X) → P x → Q x → R x) → (xs : List X) → All P xs → All Q xs → All R xs
All-both P Q R f xs p q = λ k x within. f _ (p k x within) (q k x within)

-- The writes that are open are those of these tickets.

one-put : (t : Ticket) (others all : List Ticket) → HasAmong t others all → (s : ℕ) (w : Open) → IsOneOf others s w → IsOneOf all s w
one-put t others all among s w of = record { ticket = of.ticket; among = contains-put t others all among of.ticket of.among; kind = of.kind; call = of.call; from = of.from; to = of.to }

-- one of the others, where it is not the ticket's
one-take : (t : Ticket) (others all : List Ticket) → HasAmong t others all → (s : ℕ) (w : Open) → ((t.kind ≡ Write) → w.call ≡ ticket_id t → ⊥) → IsOneOf all s w → IsOneOf others s w
one-take t others all among s w apart of =
    elim (contains-take t others all among of.ticket of.among) [
      | inl same ↦ absurd (apart (ap (λ (u : Ticket). u.kind) same ∙ of.kind) (of.call ∙ ap ticket_id (sym same)))
      | inr other ↦ record { ticket = of.ticket; among = other; kind = of.kind; call = of.call; from = of.from; to = of.to }
    ]

-- An entry that leaves the open writes.
abbrev pub IsNoWrite : Entry → Type 0
IsNoWrite e = (p : Past) (s : ℕ) → open_writes (p ▸ e) s ≡ open_writes p s

pub writes-asked : (d : Disk) (e : Entry) (held : List Sector) (t : Ticket) (others all : List Ticket) → IsNoWrite e → HasAmong t others all → AreWrites others d → AreWrites all (grown d e held)
writes-asked d e held t others all calm among writes = λ s.
    subst (All (IsOneOf all s)) (sym (after-push (λ (p : Past). open_writes p s) d.log e ∙ calm (past d.log) s))
    (All-weaker (IsOneOf others s) (IsOneOf all s) (one-put t others all among s) (open_writes (past d.log) s) (writes s))

opened-of : (t : Ticket) (all : List Ticket) (s n : ℕ) (o : Option Sector) → t.kind ≡ Write → Contains all t → ((v : Sector) → o ≡ Some v → (t.first ≤ s) × (s < t.first + t.count)) → All (IsOneOf all s) (open_after_issue (ticket_id t) n o)
opened-of t all s n None write among range = All-nil (IsOneOf all s)
opened-of t all s n (Some v) write among range =
    let w : Open = record { call = ticket_id t; number = n; content = v } in let inside = range v refl in
    All-cons (IsOneOf all s) w [] (record { ticket = t; among = among; kind = write; call = refl; from = inside.0; to = inside.1 }) (All-nil (IsOneOf all s))

pub writes-issued : (d : Disk) (content held : List Sector) (t : Ticket) (others all : List Ticket) → t.kind ≡ Write → length content ≡ t.count → HasAmong t others all → AreWrites others d → AreWrites all (grown d (issue_entry t content) held)
writes-issued d content held t others all write size among writes = λ s.
    let new = open_after_issue (ticket_id t) (length (issued_contents (past d.log) s) + 1) (sector_in t.first content s) in
    subst (All (IsOneOf all s)) (sym (after-push (λ (p : Past). open_writes p s) d.log (issue_entry t content)))
    (All-append (IsOneOf all s) new (open_writes (past d.log) s)
    (opened-of t all s _ (sector_in t.first content s) write (contains-it t others all among) (λ v at. let range = sector-range t.first content s v at in (range.0, omega (arith, range.1, size))))
    (All-weaker (IsOneOf others s) (IsOneOf all s) (one-put t others all among s) (open_writes (past d.log) s) (writes s)))

-- the end of a ticket that isn't a write's
pub writes-answered : (d : Disk) (e : Entry) (held : List Sector) (t : Ticket) (others all : List Ticket) → IsNoWrite e → (t.kind ≡ Write → ⊥) → HasAmong t others all → AreWrites all d → AreWrites others (grown d e held)
writes-answered d e held t others all calm other among writes = λ s.
    subst (All (IsOneOf others s)) (sym (after-push (λ (p : Past). open_writes p s) d.log e ∙ calm (past d.log) s))
    (All-weaker (IsOneOf all s) (IsOneOf others s) (λ w of. one-take t others all among s w (λ write call. other write) of) (open_writes (past d.log) s) (writes s))

-- the end of a write
abbrev pub EndsOf : CallId → Entry → Type 0
EndsOf id e = (p : Past) (s : ℕ) → open_writes (p ▸ e) s ≡ filter (is_of_another id) (open_writes p s)

another-apart : (t : Ticket) (w : Open) → is_of_another (ticket_id t) w ≡ true → w.call ≡ ticket_id t → ⊥
another-apart t w another same =
    let own : same_call w.call (ticket_id t) ≡ true = ap (λ (c : CallId). same_call c (ticket_id t)) same ∙ same_call-refl (ticket_id t) in
    let no = sym another ∙ ap not own in cc

pub writes-ended : (d : Disk) (e : Entry) (held : List Sector) (t : Ticket) (others all : List Ticket) → EndsOf (ticket_id t) e → HasAmong t others all → AreWrites all d → AreWrites others (grown d e held)
writes-ended d e held t others all ends among writes = λ s.
    let left = filter (is_of_another (ticket_id t)) (open_writes (past d.log) s) in
    subst (All (IsOneOf others s)) (sym (after-push (λ (p : Past). open_writes p s) d.log e ∙ ends (past d.log) s))
    (All-both (λ w. is_of_another (ticket_id t) w ≡ true) (IsOneOf all s) (IsOneOf others s)
    (λ w another of. one-take t others all among s w (λ write. another-apart t w another) of) left
    (filter_passes (is_of_another (ticket_id t)) (open_writes (past d.log) s))
    (All-filter (is_of_another (ticket_id t)) (IsOneOf all s) (open_writes (past d.log) s) (writes s)))

-- Where a range is free no write is open.

apart-free : (first count s : ℕ) (t : Ticket) → AreRangesApart t.first t.count first count → first ≤ s → s < first + count → t.first ≤ s → s < t.first + t.count → ⊥
apart-free first count s t (inl below) from to t_from t_to = omega (arith, below, from, t_to)
apart-free first count s t (inr above) from to t_from t_to = omega (arith, above, to, t_from)

none-of : (s : ℕ) (ws : List Open) (tickets : List Ticket) → ((w : Open) → IsOneOf tickets s w → ⊥) → All (IsOneOf tickets s) ws → ws ≡ []
none-of s [] tickets nobody all = refl
none-of s (w ∷ ws) tickets nobody all = absurd (nobody w (All-head (IsOneOf tickets s) w ws all))

pub free-closed : (d : Disk) (tickets : List Ticket) (first count s : ℕ) → AreWrites tickets d → AllByRecursion (IsClear first count) tickets → first ≤ s → s < first + count → open_writes (past d.log) s ≡ []
free-closed d tickets first count s writes clear from to =
    none-of s (open_writes (past d.log) s) tickets
    (λ w of. apart-free first count s of.ticket (all-at (IsClear first count) tickets of.ticket clear of.among of.kind) from to of.from of.to)
    (writes s)

-- where none is in flight no write is open
pub none-closed : (d : Disk) (s : ℕ) → AreWrites [] d → open_writes (past d.log) s ≡ []
none-closed d s writes = none-of s (open_writes (past d.log) s) [] (λ w of. absurd (let among = of.among in omega (arith, among.1))) (writes s)

-- Outside the ticket's range no write of its call is open.
find-none : (t : Ticket) (s : ℕ) (ws : List Open) → All (λ (w : Open). w.call ≡ ticket_id t → ⊥) ws → find (is_of (ticket_id t)) ws ≡ None
find-none t s [] all = refl
find-none t s (w ∷ ws) all =
    let P : Open → Type 0 = λ w. w.call ≡ ticket_id t → ⊥ in
    let here : same_call w.call (ticket_id t) ≡ false = other_open t w (All-head P w ws all) in
    ap (λ (b : Bool). if b then Some w else find (is_of (ticket_id t)) ws) here ∙ find-none t s ws (All-tail P w ws all)
  where
    other_open : (t : Ticket) (w : Open) → (w.call ≡ ticket_id t → ⊥) → same_call w.call (ticket_id t) ≡ false
    other_open t w apart = other-call w.call (ticket_id t) apart

pub off-none : (d : Disk) (t : Ticket) (others all : List Ticket) (s : ℕ) → HasAmong t others all → HaveDistinctNumbers all → AreWrites all d → (s < t.first) ⊎ (t.first + t.count ≤ s) → find (is_of (ticket_id t)) (open_writes (past d.log) s) ≡ None
off-none d t others all s among distinct writes off =
    find-none t s (open_writes (past d.log) s)
    (All-weaker (IsOneOf all s) (λ (w : Open). w.call ≡ ticket_id t → ⊥) (λ w of call.
    let same : t ≡ of.ticket = same-number t others all among distinct of.ticket of.among (ap (λ (c : CallId). c.call) (sym of.call ∙ call)) in
    outside t s off (omega (arith, of.from, ap (λ (u : Ticket). u.first) same)) (omega (arith, of.to, ap (λ (u : Ticket). u.first) same, ap (λ (u : Ticket). u.count) same)))
    (open_writes (past d.log) s) (writes s))
  where
    outside : (t : Ticket) (s : ℕ) → (s < t.first) ⊎ (t.first + t.count ≤ s) → t.first ≤ s → s < t.first + t.count → ⊥
    outside t s (inl below) from to = omega (arith, below, from)
    outside t s (inr above) from to = omega (arith, above, to)

-- A ticket is put in flight with its first entry.

call-kept : (last last' : ℕ) (start : List Sector) (log : List Entry) (e : Entry) (t u : Ticket) → last ≤ last' → call_of e ≡ ticket_id t → IsOther t u
    → (u.kind ≡ Write → (s : ℕ) → u.first ≤ s → s < u.first + u.count → IsOff e s) → IsCall last start log u → IsCall last' start (log ++ e ∷ []) u
call-kept last last' start log e t u more own other off call = record {
  number = omega (arith, more, call.number);
  placed = omega (arith, call.placed, length-append log (e ∷ []));
  stands = stands-kept u.kind start log e u (ap (λ (c : CallId). same_call c (ticket_id u)) own ∙ other-ticket t u other) call.placed off call.stands;
}

new-number : (last : ℕ) (start : List Sector) (log : List Entry) (t : Ticket) → last < t.number → (ts : List Ticket) → AllByRecursion (IsCall last start log) ts → AllByRecursion (IsOther t) ts
new-number last start log t above ts calls = all-more (IsCall last start log) (IsOther t) (λ u call same. omega (arith, above, call.number, same)) ts calls

-- what a new ticket says of itself
abbrev pub IsOffOthers : Entry → Disk → Type 0
IsOffOthers e d = (s : ℕ) → (open_writes (past d.log) s ≡ [] → ⊥) → IsOff e s

-- the range of a write in flight is open
pub writing-open : (last : ℕ) (d : Disk) (u : Ticket) → IsCall last d.start d.log u → u.kind ≡ Write → (s : ℕ) → u.first ≤ s → s < u.first + u.count → open_writes (past d.log) s ≡ [] → ⊥
writing-open last d u call write s from to closed =
    at-write u.kind call.stands write
  where
    at-write : (k : Kind) → IsLoggedAs k d.start d.log u → k ≡ Write → ⊥
    at-write Read stands is = cc
    at-write Write stands is =
        elim (cases_option (sector_in u.first stands.content s)) [
          | inl none ↦ outside (sector-none u.first stands.content s none) stands.size
          | inr some ↦ let o = stands.only_open s some.0 some.1 in let alone = o.alone in cc
        ]
      where
        outside : (s < u.first) ⊎ (u.first + length stands.content ≤ s) → length stands.content ≡ u.count → ⊥
        outside (inl below) size = omega (arith, below, from)
        outside (inr above) size = omega (arith, above, to, size)
    at-write Flush stands is = cc

pub calls-put : (last : ℕ) (d : Disk) (e : Entry) (held : List Sector) (t : Ticket) (others all : List Ticket) → last < t.number → call_of e ≡ ticket_id t → IsOffOthers e d → AreWrites all (grown d e held) → IsCall t.number d.start (d.log ++ e ∷ []) t
    → HasAmong t others all → AreCalls last d others → AreCalls t.number (grown d e held) all
calls-put last d e held t others all above own off writes here among calls =
    let new = new-number last d.start d.log t above others calls.each in
    record {
      each = all-put (IsCall t.number d.start (d.log ++ e ∷ [])) t others all among
          (all-both (IsCall last d.start d.log) (IsOther t) (IsCall t.number d.start (d.log ++ e ∷ []))
          (λ u call other. call-kept last t.number d.start d.log e t u (omega (arith, above)) own other (λ write s from to. off s (writing-open last d u call write s from to)) call)
          others calls.each new)
          here;
      distinct = distinct-put t others all among calls.distinct new;
      writes = writes;
    }

-- A ticket leaves the flight with its last entry.
pub calls-take : (last : ℕ) (d : Disk) (e : Entry) (held : List Sector) (t : Ticket) (others all : List Ticket) → call_of e ≡ ticket_id t → ((s : ℕ) → IsOff e s) → AreWrites others (grown d e held)
    → HasAmong t others all → AreCalls last d all → AreCalls last (grown d e held) others
calls-take last d e held t others all own off writes among calls =
    let rest = distinct-take t others all among calls.distinct in
    record {
      each = all-both (IsCall last d.start d.log) (IsOther t) (IsCall last d.start (d.log ++ e ∷ []))
          (λ u call other. call-kept last last d.start d.log e t u (omega arith) own other (λ write s from to. off s) call)
          others (all-take (IsCall last d.start d.log) t others all among calls.each).1 rest.1;
      distinct = rest.0;
      writes = writes;
    }
