-- The log of a store stays orderly, and its writes inside, through its calls.
use Rattle.std.proofs.Common.{ℕ, zero, suc, ◌≡◌, ◌+◌, ◌-◌, ◌<◌, ◌≤◌, inl, inr, Bool, true, false, List, [], ◌∷◌, ◌++◌, length, Option, Some, refl, ap, sym, ◌∙◌, subst, arith}
use Rattle.std.specs.Prelude.{⊤, Ok, slice_get, slice_index_or}
use Rattle.std.specs.List.{All, AllByRecursion, Contains, list_any}
use Rattle.std.proofs.lemmas.List.{append_assoc, append-nil, length_push}
use Rattle.std.proofs.lemmas.List.Elements.{All-head}
use Rattle.std.proofs.lemmas.Option.{slice_get_within}
use Rattle.vd_law.specs.declared.entry.Sector.{Sector}
use Rattle.vd_law.specs.declared.entry.CallId.{CallId}
use Rattle.vd_law.specs.declared.entry.Answer.TheVariants.{StoreFault}
use Rattle.vd_law.specs.Entries.{Asked, Flush as AsksFlush, Entry, Ask, Issue, Done as Ended, Broke, Seen, Reply, Past, ◌▸◌, past}
use Rattle.vd_law.specs.Contents.{sector_in, Open, is_of_another, open_writes, contents_after_seen, could, could_after}
use Rattle.vd_law.proofs.Appending.{past-push, could-push}
use Rattle.vd_law.proofs.Opening.{own_alone}
use Rattle.vd_law.proofs.Sectors.{sector_in-place}
use Rattle.vd_device.specs.declared.ticket.Ticket.{Ticket}
use Rattle.vd_device.specs.declared.ticket.Kind.{Kind}
use Rattle.vd_device.specs.declared.ticket.Kind.TheVariants.{Read, Write, Flush}
use Rattle.vd_device.specs.declared.settled.Settled.{Settled}
use Rattle.vd_device.specs.declared.settled.Settled.TheVariants.{Done, NotYet, Failed}
use Rattle.vd_device.specs.Tickets.{ticket_id, AreRangesApart, IsClear}
use Rattle.vd_device.specs.Calls.{issue_entry, done_entry, failed_entry, Tells}
use Rattle.vd_device.specs.Disks.{Disk, IsUnwrittenAt, IsClean, IsOneOf, AreWrites, GrowsBy, Adds}
use Rattle.vd_device.specs.Now.{call_number, flush_entries}
use Rattle.vd_device.specs.Quiet.{IsNoWrite, AddsNoWrite}
use Rattle.vd_image.specs.Log.{Fine, At, Covers, Writes, Flushes}
use Rattle.vd_image.proofs.Logs.{writes_pushed}
use Rattle.vd_safety.proofs.Orderly.{IsOrderly, orderly-ask, orderly-reply, orderly-issue, orderly-done, orderly-broke, orderly-seen}
use Rattle.vd_safety.proofs.Clean.{WasClean, AreInside, flushes-more}

-- the log of this store is orderly
abbrev pub IsOrderlyDisk : Disk → Type 0
IsOrderlyDisk d = IsOrderly d.start (past d.log)

-- one more entry
more : (old new : Disk) (e : Entry) → new.start ≡ old.start → new.log ≡ old.log ++ e ∷ [] → IsOrderly old.start (past old.log ▸ e) → IsOrderlyDisk new
more old new e start log orderly =
    subst (λ (xs : List Sector). IsOrderly xs (past new.log)) (sym start) (subst (λ (p : Past). IsOrderly old.start p) (sym (ap past log ∙ past-push old.log e)) orderly)

pub orderly-asked : (old new : Disk) (id : CallId) (request : Asked) → Adds (Ask id request) old new → IsOrderlyDisk old → IsOrderlyDisk new
orderly-asked old new id request adds orderly = more old new (Ask id request) adds.start adds.log (orderly-ask old.start (past old.log) id request orderly)

each_at : (P : Ticket → Type 0) (ts : List Ticket) (k : ℕ) (t : Ticket) → k < length ts → slice_index_or ts k t ≡ t → AllByRecursion P ts → P t
each_at P [] k t less is all = absurd (omega (arith, less))
each_at P (u ∷ ts) zero t less is all = subst P is all.0
each_at P (u ∷ ts) (suc k) t less is all = each_at P ts k t (omega arith) is all.1

-- what a write touches no ticket in flight writes, so that no write is open there
calm_there : (tickets : List Ticket) (first count s : ℕ) (ws : List Open) → AllByRecursion (IsClear first count) tickets → All (IsOneOf tickets s) ws → first ≤ s → s < first + count → ws ≡ []
calm_there tickets first count s [] clear all from to = refl
calm_there tickets first count s (w ∷ ws) clear all from to = absurd (by_ticket (All-head (IsOneOf tickets s) w ws all))
  where
    apart : (t : Ticket) → t.first ≤ s → s < t.first + t.count → AreRangesApart t.first t.count first count → ⊥
    apart t low high (inl before) = omega (arith, low, high, before, from)
    apart t low high (inr after) = omega (arith, low, high, after, to)

    by_ticket : IsOneOf tickets s w → ⊥
    by_ticket one = apart one.ticket one.from one.to (each_at (IsClear first count) tickets one.among.0 one.ticket one.among.1 one.among.2 clear one.kind)

pub orderly-issued : (old new : Disk) (ticket : Ticket) (content : List Sector) (tickets : List Ticket) → Adds (issue_entry ticket content) old new → AreWrites tickets old → AllByRecursion (IsClear ticket.first (length content)) tickets
    → IsOrderlyDisk old → IsOrderlyDisk new
orderly-issued old new ticket content tickets adds writes clear orderly = more old new (issue_entry ticket content) adds.start adds.log (orderly-issue old.start (past old.log) (ticket_id ticket) ticket.first content free orderly)
  where
    free : (s : ℕ) (v : Sector) → sector_in ticket.first content s ≡ Some v → open_writes (past old.log) s ≡ []
    free s v covers =
        let inside = sector_in-place ticket.first content s v covers in
        let below = slice_get_within content (s - ticket.first) v inside.1 in
        calm_there tickets ticket.first (length content) s (open_writes (past old.log) s) clear (writes s) inside.0 (let k = inside.0 in omega (arith, k, below))

-- a settle, by a ticket whose number no write in flight has
pub orderly-settled : (answer : Settled) (ticket : Ticket) (out : List Sector) (old new : Disk) (tickets : List Ticket) → Tells answer ticket out old new → AreWrites tickets old
    → (ticket.kind ≡ Read → (t : Ticket) → Contains tickets t → t.kind ≡ Write → t.number ≡ ticket.number → ⊥) → IsOrderlyDisk old → IsOrderlyDisk new
orderly-settled (NotYet same) ticket out old new tickets tells writes apart orderly =
    subst (λ (xs : List Sector). IsOrderly xs (past new.log)) (sym tells.grows.start) (subst (λ (l : List Entry). IsOrderly old.start (past l)) (sym (tells.grows.log ∙ append-nil old.log)) orderly)
orderly-settled (Failed number) ticket out old new tickets tells writes apart orderly = by_kind ticket.kind tells.grows
  where
    by_kind : (kind : Kind) → GrowsBy (failed_entry kind ticket ∷ []) old new → IsOrderlyDisk new
    by_kind Read grows = more old new (failed_entry Read ticket) grows.start grows.log (orderly-reply old.start (past old.log) (ticket_id ticket) (StoreFault ticket.number 0) orderly)
    by_kind Write grows = more old new (failed_entry Write ticket) grows.start grows.log (orderly-broke old.start (past old.log) (ticket_id ticket) orderly)
    by_kind Flush grows = more old new (failed_entry Flush ticket) grows.start grows.log (orderly-reply old.start (past old.log) (ticket_id ticket) (StoreFault ticket.number 0) orderly)
orderly-settled Done ticket out old new tickets tells writes apart orderly = by_kind ticket.kind refl tells.grows
  where
    same_id : (t : Ticket) (c : CallId) → c ≡ ticket_id t → c ≡ ticket_id ticket → t.number ≡ ticket.number
    same_id t c a b = ap (λ (d : CallId). d.call) (sym a ∙ b)

    -- no write of the read's own number is open
    none_own : (s : ℕ) (ws : List Open) → ticket.kind ≡ Read → All (IsOneOf tickets s) ws → All (λ (w : Open). w.call ≡ ticket_id ticket) ws → ws ≡ []
    none_own s [] read ones own = refl
    none_own s (w ∷ ws) read ones own =
        let one = All-head (IsOneOf tickets s) w ws ones in
        let call = All-head (λ (u : Open). u.call ≡ ticket_id ticket) w ws own in
        absurd (apart read one.ticket one.among one.kind (same_id one.ticket w.call one.call call))

    shown : ticket.kind ≡ Read → GrowsBy (Seen (ticket_id ticket) ticket.first out ∷ []) old new → (s : ℕ) (v : Sector) → sector_in ticket.first out s ≡ Some v → Contains (could_after old.start (past old.log) s) v
    shown read grows s v covers = by_others (list_any (is_of_another (ticket_id ticket)) (open_writes (past old.log) s)) refl
      where
        held : slice_get new.held s ≡ Some v
        held = tells.gives read s v covers

        could_is : could new.start new.log s ≡ contents_after_seen (Some v) (list_any (is_of_another (ticket_id ticket)) (open_writes (past old.log) s)) (could old.start old.log s)
        could_is = ap (λ (xs : List Sector). could xs new.log s) grows.start ∙ ap (λ (l : List Entry). could old.start l s) grows.log ∙ could-push old.start old.log (Seen (ticket_id ticket) ticket.first out) s
            ∙ ap (λ (o : Option Sector). contents_after_seen o (list_any (is_of_another (ticket_id ticket)) (open_writes (past old.log) s)) (could old.start old.log s)) covers

        calm_still : open_writes (past old.log) s ≡ [] → IsUnwrittenAt new s
        calm_still calm = ap (λ (l : List Entry). open_writes (past l) s) grows.log ∙ ap (λ (p : Past). open_writes p s) (past-push old.log (Seen (ticket_id ticket) ticket.first out)) ∙ calm

        by_others : (others : Bool) → list_any (is_of_another (ticket_id ticket)) (open_writes (past old.log) s) ≡ others → Contains (could old.start old.log s) v
        by_others true is = subst (λ (c : List Sector). Contains c v) (could_is ∙ ap (λ (b : Bool). contents_after_seen (Some v) b (could old.start old.log s)) is) (grows.honest s v held)
        by_others false is =
            let calm = none_own s (open_writes (past old.log) s) read (writes s) (own_alone (ticket_id ticket) (open_writes (past old.log) s) is) in
            grows.honest_before s v (sym (grows.others s calm (calm_still calm)) ∙ held)

    by_kind : (kind : Kind) → ticket.kind ≡ kind → GrowsBy (done_entry kind ticket out ∷ []) old new → IsOrderlyDisk new
    by_kind Read is grows = more old new (done_entry Read ticket out) grows.start grows.log (orderly-seen old.start (past old.log) (ticket_id ticket) ticket.first out (shown is grows) orderly)
    by_kind Write is grows = more old new (done_entry Write ticket out) grows.start grows.log (orderly-done old.start (past old.log) (ticket_id ticket) orderly)
    by_kind Flush is grows = more old new (done_entry Flush ticket out) grows.start grows.log (orderly-reply old.start (past old.log) (ticket_id ticket) Fine orderly)

-- ---- writes stay inside

-- one more event, which writes inside the store if it writes
inside_more : (old new : Disk) (e : Entry) → new.start ≡ old.start → new.log ≡ old.log ++ e ∷ [] → ((s : ℕ) (v : Sector) → Covers e s v → s < length old.start) → AreInside old → AreInside new
inside_more old new e start log covers inside i a v w =
    subst (λ (xs : List Sector). a < length xs) (sym start) (elim (writes_pushed old.log e i a v (subst (λ (l : List Entry). Writes l i a v) log w)) [ inl before ↦ inside i a v before | inr now ↦ covers a v now.1 ])

pub inside-issued : (old new : Disk) (ticket : Ticket) (content : List Sector) → Adds (issue_entry ticket content) old new → ticket.first + length content ≤ length old.start → AreInside old → AreInside new
inside-issued old new ticket content adds room inside =
    inside_more old new (issue_entry ticket content) adds.start adds.log (λ s v covers. (let below = slice_get_within content covers.0 v covers.2 in let at = covers.1 in omega (arith, below, at, room))) inside

pub inside-asked : (old new : Disk) (id : CallId) (request : Asked) → Adds (Ask id request) old new → AreInside old → AreInside new
inside-asked old new id request adds inside = inside_more old new (Ask id request) adds.start adds.log (λ s v covers. absurd covers) inside

pub inside-settled : (answer : Settled) (ticket : Ticket) (out : List Sector) (old new : Disk) → Tells answer ticket out old new → AreInside old → AreInside new
inside-settled (NotYet same) ticket out old new tells inside = λ i a v w.
    subst (λ (xs : List Sector). a < length xs) (sym tells.grows.start) (inside i a v (subst (λ (l : List Entry). Writes l i a v) (tells.grows.log ∙ append-nil old.log) w))
inside-settled (Failed number) ticket out old new tells inside = by_kind ticket.kind tells.grows
  where
    by_kind : (kind : Kind) → GrowsBy (failed_entry kind ticket ∷ []) old new → AreInside new
    by_kind Read grows = inside_more old new (failed_entry Read ticket) grows.start grows.log (λ s v covers. absurd covers) inside
    by_kind Write grows = inside_more old new (failed_entry Write ticket) grows.start grows.log (λ s v covers. absurd covers) inside
    by_kind Flush grows = inside_more old new (failed_entry Flush ticket) grows.start grows.log (λ s v covers. absurd covers) inside
inside-settled Done ticket out old new tells inside = by_kind ticket.kind tells.grows
  where
    by_kind : (kind : Kind) → GrowsBy (done_entry kind ticket out ∷ []) old new → AreInside new
    by_kind Read grows = inside_more old new (done_entry Read ticket out) grows.start grows.log (λ s v covers. absurd covers) inside
    by_kind Write grows = inside_more old new (done_entry Write ticket out) grows.start grows.log (λ s v covers. absurd covers) inside
    by_kind Flush grows = inside_more old new (done_entry Flush ticket out) grows.start grows.log (λ s v covers. absurd covers) inside

-- entries that begin no write
none_begun : (es : List Entry) → AllByRecursion IsNoWrite es → (log : List Entry) (i a : ℕ) (v : Sector) → Writes (log ++ es) i a v → Writes log i a v
none_begun [] none log i a v w = subst (λ (l : List Entry). Writes l i a v) (append-nil log) w
none_begun (e ∷ es) none log i a v w = elim (writes_pushed log e i a v (none_begun es none.1 (log ++ e ∷ []) i a v (subst (λ (l : List Entry). Writes l i a v) (sym (append_assoc log (e ∷ []) es)) w))) [
  | inl before ↦ before
  | inr now ↦ absurd (not_now e none.0 now.1)
]
  where
    not_now : (x : Entry) → IsNoWrite x → Covers x a v → ⊥
    not_now (Ask c request) begins covers = covers
    not_now (Issue c first content) begins covers = begins
    not_now (Ended c) begins covers = covers
    not_now (Broke c) begins covers = covers
    not_now (Seen c first content) begins covers = covers
    not_now (Reply c answer) begins covers = covers

pub inside-quiet : (old new : Disk) → AddsNoWrite old new → AreInside old → AreInside new
inside-quiet old new adds inside i a v w =
    subst (λ (xs : List Sector). a < length xs) (sym adds.start) (inside i a v (none_begun adds.more adds.none old.log i a v (subst (λ (l : List Entry). Writes l i a v) adds.log w)))

-- ---- the flush of an opening

at_here : (xs ys : List Entry) (y : Entry) → At (xs ++ y ∷ ys) (length xs) y
at_here [] ys y = refl
at_here (x ∷ xs) ys y = at_here xs ys y

-- a flush that is asked and answered well at once
pub flush-stands : (log : List Entry) (number : ℕ) (done : ⊤) → Flushes (log ++ flush_entries number (Ok done)) (length log)
flush-stands log number done = record {
  id = call_number number;
  reply = length log + 1;
  asked = at_here log (Reply (call_number number) Fine ∷ []) (Ask (call_number number) AsksFlush);
  replied = subst (λ (l : List Entry). At l (length log + 1) (Reply (call_number number) Fine)) (append_assoc log (Ask (call_number number) AsksFlush ∷ []) (Reply (call_number number) Fine ∷ []))
      (subst (λ (i : ℕ). At ((log ++ Ask (call_number number) AsksFlush ∷ []) ++ Reply (call_number number) Fine ∷ []) i (Reply (call_number number) Fine)) (length_push log (Ask (call_number number) AsksFlush))
      (at_here (log ++ Ask (call_number number) AsksFlush ∷ []) [] (Reply (call_number number) Fine)));
  next = λ m request after before at. omega (arith, after, before);
  later = omega arith;
}

-- A clean store, after a flush that succeeded and calls that only read.
pub was-clean : (old mid new : Disk) (number : ℕ) (done : ⊤) → IsClean old → mid.start ≡ old.start → mid.log ≡ old.log ++ flush_entries number (Ok done) → AddsNoWrite mid new → WasClean old new
was-clean old mid new number done clean start log reads = record {
  clean = clean;
  start = reads.start ∙ start;
  more = flush_entries number (Ok done) ++ reads.more;
  none = (tt, (tt, reads.none));
  log = reads.log ∙ ap (λ (l : List Entry). l ++ reads.more) log ∙ append_assoc old.log (flush_entries number (Ok done)) reads.more;
  flush = length old.log;
  flushes = subst (λ (l : List Entry). Flushes l (length old.log)) (sym (reads.log ∙ ap (λ (l : List Entry). l ++ reads.more) log)) (flushes-more (old.log ++ flush_entries number (Ok done)) reads.more (length old.log) (flush-stands old.log number done));
  after = omega arith;
}
