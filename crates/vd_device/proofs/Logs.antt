-- Two calls of a store, one after the other.
use Rattle.std.proofs.Common.{ℕ, ◌≡◌, ◌+◌, ◌-◌, ◌<◌, ◌≤◌, ◌⊎◌, inl, inr, Bool, List, [], ◌∷◌, ◌++◌, length, take, Option, None, ap, sym, ◌∙◌, subst, arith}
use Rattle.std.specs.Prelude.{slice_get, if◌then◌else◌}
use Rattle.std.proofs.lemmas.List.{append_assoc, append-nil}
use Rattle.std.proofs.lemmas.Option.{slice_get_past}
use Rattle.std.proofs.lemmas.Bool.Decides.{leb_tells}
use Rattle.vd_law.specs.declared.entry.Sector.{Sector}
use Rattle.vd_law.specs.declared.entry.CallId.{CallId}
use Rattle.vd_law.specs.Entries.{Entry, Ask, Read as Asks_read, Flush as Asks_flush, Issue, Done, Broke, Seen, Reply, past}
use Rattle.vd_law.specs.Contents.{open_writes, open_after_issue, sector_in, issued_contents}
use Rattle.vd_law.proofs.Appending.{after-push}
use Rattle.vd_law.specs.declared.entry.Answer.TheVariants.{Ok as Fine, StoreFault}
use Rattle.vd_device.specs.declared.ticket.Ticket.{Ticket}
use Rattle.vd_device.specs.declared.ticket.Kind.TheVariants.{Read, Write, Flush}
use Rattle.vd_device.specs.Tickets.{IsTicket}
use Rattle.vd_device.specs.Calls.{ask_read_entry, ask_flush_entry, issue_entry, done_entry, failed_entry}
use Rattle.vd_device.specs.Disks.{Disk, IsUnwrittenAt, IsRunning, HasStopped, Records, RecordsSome, GrowsBy}
use Rattle.vd_device.specs.Now.{call_number, WritesBy}

pub records_twice : (a b : Entry) (e0 e1 e2 : ℕ) (old mid new : Disk) → Records (a ∷ []) e0 e1 old mid → Records (b ∷ []) e1 e2 mid new → RecordsSome (a ∷ b ∷ []) e0 e2 old new
records_twice a b e0 e1 e2 old mid new r q = record {
  start = q.start ∙ r.start;
  goes_on = both r.goes_on q.goes_on;
}
  where
    both : (IsRunning e0 old × IsRunning e1 mid × (mid.log ≡ old.log ++ a ∷ [])) ⊎ (HasStopped e1 mid × (mid.log ≡ old.log))
        → (IsRunning e1 mid × IsRunning e2 new × (new.log ≡ mid.log ++ b ∷ [])) ⊎ (HasStopped e2 new × (new.log ≡ mid.log))
        → (IsRunning e0 old × IsRunning e2 new × (new.log ≡ old.log ++ a ∷ b ∷ [])) ⊎ (HasStopped e2 new × (count : ℕ) × (new.log ≡ old.log ++ take count (a ∷ b ∷ [])))
    both (inl x) (inl y) = inl (x.0, y.1, y.2 ∙ ap (λ l. l ++ b ∷ []) x.2 ∙ append_assoc old.log (a ∷ []) (b ∷ []))
    both (inl x) (inr y) = inr (y.0, 1, y.1 ∙ x.2)
    both (inr x) (inl y) = absurd (omega arith)
    both (inr x) (inr y) = inr (y.0, 0, y.1 ∙ x.1 ∙ sym (append-nil old.log))

-- a sector outside the content's range is not in it
pub outside : (first : ℕ) (content : List Sector) (s : ℕ) → (s < first) ⊎ (first + length content ≤ s) → sector_in first content s ≡ None
outside first content s h =
    elim (leb_tells first s) [
      | inl inside ↦ ap (λ (b : Bool). if b then slice_get content (s - first) else None) inside.0
          ∙ slice_get_past content (s - first) (past_end first content s h inside.1)
      | inr before ↦ ap (λ (b : Bool). if b then slice_get content (s - first) else None) before.0
    ]
  where
    past_end : (first : ℕ) (content : List Sector) (s : ℕ) → (s < first) ⊎ (first + length content ≤ s) → first ≤ s → length content ≤ s - first
    past_end first content s (inl below) from = absurd (omega arith)
    past_end first content s (inr above) from = omega arith

-- a write leaves no sector open but its own
pub calm_issued : (old mid : Disk) (id : CallId) (first : ℕ) (content : List Sector) (s : ℕ) → mid.log ≡ old.log ++ Issue id first content ∷ []
    → (s < first) ⊎ (first + length content ≤ s) → IsUnwrittenAt old s → IsUnwrittenAt mid s
calm_issued old mid id first content s log h calm =
    ap (λ (l : List Entry). open_writes (past l) s) log
    ∙ after-push (λ p. open_writes p s) old.log (Issue id first content)
    ∙ ap (λ (v : Option Sector). open_after_issue id (length (issued_contents (past old.log) s) + 1) v ++ open_writes (past old.log) s) (outside first content s h)
    ∙ calm

pub writes_twice : (id : CallId) (first : ℕ) (content : List Sector) (end : Entry) (old mid new : Disk)
    → GrowsBy (Issue id first content ∷ []) old mid → GrowsBy (end ∷ []) mid new → WritesBy (Issue id first content ∷ end ∷ []) first (length content) old new
writes_twice id first content end old mid new x y = record {
  start = y.start ∙ x.start;
  log = y.log ∙ ap (λ l. l ++ end ∷ []) x.log ∙ append_assoc old.log (Issue id first content ∷ []) (end ∷ []);
  size = y.size ∙ x.size;
  others = λ s apart calm calm'. (let between = calm_issued old mid id first content s x.log apart calm in
      y.others s between calm' ∙ x.others s calm between);
  honest_before = x.honest_before;
  honest = y.honest;
}

-- The entries of a ticket whose number, kind and range are known.

pub issued_is : (ticket : Ticket) (number first count : ℕ) (content : List Sector) → number ≡ ticket.number → IsTicket ticket Write first count → issue_entry ticket content ≡ Issue (call_number number) first content
issued_is ticket number first count content n t = let f = t.first_is in cc

pub asked_is : (ticket : Ticket) (number first count : ℕ) → number ≡ ticket.number → IsTicket ticket Read first count → ask_read_entry ticket ≡ Ask (call_number number) (Asks_read first count)
asked_is ticket number first count n t = let f = t.first_is in let k = t.count_is in cc

pub seen_is : (ticket : Ticket) (number first count : ℕ) (out : List Sector) → number ≡ ticket.number → IsTicket ticket Read first count → done_entry ticket.kind ticket out ≡ Seen (call_number number) first out
seen_is ticket number first count out n t = let f = t.first_is in rw t.kind_is cc

pub unread_is : (ticket : Ticket) (number first count : ℕ) → number ≡ ticket.number → IsTicket ticket Read first count → failed_entry ticket.kind ticket ≡ Reply (call_number number) (StoreFault number 0)
unread_is ticket number first count n t = rw t.kind_is cc

pub written_is : (ticket : Ticket) (number first count : ℕ) (out : List Sector) → number ≡ ticket.number → IsTicket ticket Write first count → done_entry ticket.kind ticket out ≡ Done (call_number number)
written_is ticket number first count out n t = rw t.kind_is cc

pub broke_is : (ticket : Ticket) (number first count : ℕ) → number ≡ ticket.number → IsTicket ticket Write first count → failed_entry ticket.kind ticket ≡ Broke (call_number number)
broke_is ticket number first count n t = rw t.kind_is cc

pub flush_is : (ticket : Ticket) (number : ℕ) → number ≡ ticket.number → ask_flush_entry ticket ≡ Ask (call_number number) Asks_flush
flush_is ticket number n = cc

pub unflushed_is : (ticket : Ticket) (number : ℕ) → number ≡ ticket.number → ticket.kind ≡ Flush → failed_entry ticket.kind ticket ≡ Reply (call_number number) (StoreFault number 0)
unflushed_is ticket number n k = rw k cc

pub flushed_is : (ticket : Ticket) (number : ℕ) (out : List Sector) → number ≡ ticket.number → ticket.kind ≡ Flush → done_entry ticket.kind ticket out ≡ Reply (call_number number) Fine
flushed_is ticket number out n k = rw k cc

pub records_as : (a b x y : Entry) (e0 e1 e2 : ℕ) (old mid new : Disk) → x ≡ a → y ≡ b → Records (x ∷ []) e0 e1 old mid → Records (y ∷ []) e1 e2 mid new → RecordsSome (a ∷ b ∷ []) e0 e2 old new
records_as a b x y e0 e1 e2 old mid new p q r s =
    records_twice a b e0 e1 e2 old mid new (subst (λ (e : Entry). Records (e ∷ []) e0 e1 old mid) p r) (subst (λ (e : Entry). Records (e ∷ []) e1 e2 mid new) q s)

pub writes_as : (id : CallId) (first : ℕ) (content : List Sector) (b x y : Entry) (old mid new : Disk) → x ≡ Issue id first content → y ≡ b
    → GrowsBy (x ∷ []) old mid → GrowsBy (y ∷ []) mid new → WritesBy (Issue id first content ∷ b ∷ []) first (length content) old new
writes_as id first content b x y old mid new p q r s =
    writes_twice id first content b old mid new (subst (λ (e : Entry). GrowsBy (e ∷ []) old mid) p r) (subst (λ (e : Entry). GrowsBy (e ∷ []) mid new) q s)
