-- What one more entry makes of the calls of other tickets.
use Rattle.std.proofs.Common.{◌≡◌, ℕ, ◌+◌, ◌<◌, ◌≤◌, inl, inr, Bool, true, false, not, ◌||◌, List, [], ◌∷◌, ◌++◌, Option, Some, None, length, refl, ap, sym, ◌∙◌, subst, arith}
use Rattle.std.specs.Prelude.{if◌then◌else◌}
use Rattle.std.specs.Option.{option_to_list}
use Rattle.std.specs.List.{Contains, filter, find, list_any}
use Rattle.std.proofs.lemmas.List.{append-nil, take-append-le}
use Rattle.std.proofs.lemmas.List.Elements.{Contains-append_left}
use Rattle.std.proofs.lemmas.Bool.{cases_Bool}
use Rattle.vd_lists.proofs.Places.{slice_get_front}
use Rattle.vd_law.specs.declared.entry.Sector.{Sector}
use Rattle.vd_law.specs.declared.entry.CallId.{CallId}
use Rattle.vd_law.specs.Entries.{Entry, Ask, Issue, Done, Broke, Seen, Reply, call_of, same_call, Past, ◌▸◌, past}
use Rattle.vd_law.specs.Calls.{progress, before_ask}
use Rattle.vd_law.specs.Contents.{sector_in, issued_contents, Open, open_after_issue, is_of, is_of_another, open_writes, contents_after_done, contents_after_seen, could_after}
use Rattle.vd_law.proofs.Appending.{past-push}
use Rattle.vd_law.proofs.Opening.{same_call-refl, same_call-is}
use Rattle.vd_law.proofs.OpenLaws.{progress-other}
use Rattle.vd_device.specs.declared.ticket.Ticket.{Ticket}
use Rattle.vd_device.specs.declared.ticket.Kind.{Kind}
use Rattle.vd_device.specs.declared.ticket.Kind.TheVariants.{Read, Write, Flush}
use Rattle.vd_device.specs.Tickets.{ticket_id}
use Rattle.vd_mem.specs.Flying.{IsOnlyOpen, IsLoggedAs}
use Rattle.vd_mem.proofs.Sectors.{sector-range}

pub other-call : (a b : CallId) → (a ≡ b → ⊥) → same_call a b ≡ false
other-call a b apart = elim (cases_Bool (same_call a b)) [ inl same ↦ absurd (apart (same_call-is a b same)) | inr other ↦ other ]

pub turned : (a b : CallId) → same_call a b ≡ false → same_call b a ≡ false
turned a b other = other-call b a (λ same. let here = ap (same_call a) same ∙ same_call-refl a in cc)

-- the calls of two tickets
pub other-ticket : (t u : Ticket) → (u.number ≡ t.number → ⊥) → same_call (ticket_id t) (ticket_id u) ≡ false
other-ticket t u other = other-call (ticket_id t) (ticket_id u) (λ same. other (sym (ap (λ (c : CallId). c.call) same)))

-- an Issue that doesn't touch the sector, or another entry
abbrev pub IsOff : Entry → ℕ → Type 0
IsOff (Ask id request) s = Unit {0}
IsOff (Issue id first content) s = sector_in first content s ≡ None
IsOff (Done id) s = Unit {0}
IsOff (Broke id) s = Unit {0}
IsOff (Seen id first content) s = Unit {0}
IsOff (Reply id answer) s = Unit {0}

abbrev one : CallId → ℕ → Sector → Open
one id n v = record { call = id; number = n; content = v }

looked-kept : (o : Option Sector) (b : Bool) (contents : List Sector) → b ≡ true → contents_after_seen o b contents ≡ contents
looked-kept None b contents others = refl
looked-kept (Some v) b contents others = ap (λ (b : Bool). if b then contents else v ∷ []) others

-- A write that is open alone stays so when another call goes on.
pub open-kept : (start : List Sector) (p : Past) (e : Entry) (id : CallId) (s : ℕ) (v : Sector) → same_call (call_of e) id ≡ false → IsOff e s → IsOnlyOpen start p id s v → IsOnlyOpen start (p ▸ e) id s v
open-kept start p (Ask c request) id s v other off o = record { alone = o.alone; among = o.among }
open-kept start p (Issue c first content) id s v other off o =
    let parts = subst (λ (x : Option Sector). (open_after_issue c (length (issued_contents p s) + 1) x ++ open_writes p s ≡ one id (length (issued_contents p s ++ option_to_list x)) v ∷ []) × Contains (could_after start p s ++ option_to_list x) v) (sym off)
    (o.alone ∙ ap (λ (w : List Sector). one id (length w) v ∷ []) (sym (append-nil (issued_contents p s))), Contains-append_left (could_after start p s) [] v o.among) in
    record { alone = parts.0; among = parts.1 }
open-kept start p (Done c) id s v other off o =
    let apart = turned c id other in let w = one id (length (issued_contents p s)) v in
    let parts = subst (λ (ws : List Open). (filter (is_of_another c) ws ≡ w ∷ []) × Contains (contents_after_done (find (is_of c) ws) (could_after start p s)) v) (sym o.alone)
    (ap (λ (b : Bool). if not b then w ∷ [] else []) apart, subst (λ (b : Bool). Contains (contents_after_done (if b then Some w else None) (could_after start p s)) v) (sym apart) o.among) in
    record { alone = parts.0; among = parts.1 }
open-kept start p (Broke c) id s v other off o =
    let apart = turned c id other in let w = one id (length (issued_contents p s)) v in
    record {
      alone = ap (filter (is_of_another c)) o.alone ∙ ap (λ (b : Bool). if not b then w ∷ [] else []) apart;
      among = o.among;
    }
open-kept start p (Seen c first content) id s v other off o =
    let apart = turned c id other in
    let beside : list_any (is_of_another c) (open_writes p s) ≡ true = ap (list_any (is_of_another c)) o.alone ∙ ap (λ (b : Bool). not b || false) apart in
    record {
      alone = o.alone;
      among = subst (λ (k : List Sector). Contains k v) (sym (looked-kept (sector_in first content s) (list_any (is_of_another c) (open_writes p s)) (could_after start p s) beside)) o.among;
    }
open-kept start p (Reply c answer) id s v other off o = record { alone = o.alone; among = o.among }

ask-kept : (p : Past) (e : Entry) (id : CallId) → same_call (call_of e) id ≡ false → before_ask (p ▸ e) id ≡ before_ask p id
ask-kept p (Ask c request) id other = ap (λ (b : Bool). if b then p else before_ask p id) other
ask-kept p (Issue c first content) id other = refl
ask-kept p (Done c) id other = refl
ask-kept p (Broke c) id other = refl
ask-kept p (Seen c first content) id other = refl
ask-kept p (Reply c answer) id other = refl

pub stands-kept : (k : Kind) (start : List Sector) (log : List Entry) (e : Entry) (t : Ticket) → same_call (call_of e) (ticket_id t) ≡ false → t.mark < length log
    → (k ≡ Write → (s : ℕ) → t.first ≤ s → s < t.first + t.count → IsOff e s) → IsLoggedAs k start log t → IsLoggedAs k start (log ++ e ∷ []) t
stands-kept Read start log e t other placed off stands = tt
stands-kept Write start log e t other placed off stands = record {
  content = stands.content;
  size = stands.size;
  issue = slice_get_front log (e ∷ []) t.mark placed ∙ stands.issue;
  only_open = λ s v at. let range = sector-range t.first stands.content s v at in
      subst (λ (p : Past). IsOnlyOpen start p (ticket_id t) s v) (sym (past-push log e))
      (open-kept start (past log) e (ticket_id t) s v other (off refl s range.0 (omega (arith, range.1, stands.size))) (stands.only_open s v at));
}
stands-kept Flush start log e t other placed off stands = record {
  asked = ap (λ (p : Past). (progress p (ticket_id t)).asked) (past-push log e) ∙ ap (λ c. c.asked) (progress-other (past log) e (ticket_id t) other) ∙ stands.asked;
  before = ap (λ (p : Past). before_ask p (ticket_id t)) (past-push log e) ∙ ask-kept (past log) e (ticket_id t) other ∙ stands.before
      ∙ ap past (sym (take-append-le t.mark log (e ∷ []) (omega arith)));
}
