-- What is printed of a history: for each guest its calls, in order, with their answers and what was read.
use Rattle.std.specs.Prelude.{ℕ, zero, suc, ◌+◌, Bool, true, false, ◌==◌, ◌&&◌, nat_le, if◌then◌else◌, List, [], ◌∷◌, ◌++◌, codes, decimal}
use Rattle.std.specs.List.{count_by}
use Rattle.vd_law.specs.declared.entry.Sector.{Sector}
use Rattle.vd_law.specs.declared.entry.CallId.{CallId}
use Rattle.vd_law.specs.declared.entry.Answer.{Answer}
use Rattle.vd_law.specs.declared.entry.Answer.TheVariants.{Ok, Full, StoreFault, BaseFault, NoRoom, Worn}
use Rattle.vd_law.specs.Entries.{Entry, Ask, Seen, Reply, Past, nothing, ◌▸◌, past}
use Rattle.vd_law.specs.Rules.{is_ok}
use Rattle.vd_report.specs.Lines.{phrase}
use Rattle.vd_report.specs.Tokens.{tokens}

-- an answer that stands in a report: every one but that of a call that found no room, which stands in no history
abbrev pub IsPrinted : Answer → Type 0
IsPrinted (NoRoom events sectors) = ⊥
IsPrinted answer = Unit {0}

abbrev pub answer_text : Answer → List ℕ
answer_text Ok = codes "ok"
answer_text (Full needed free) = phrase (codes "full") (needed ∷ free ∷ [])
answer_text (StoreFault ticket done) = phrase (codes "store fault") (ticket ∷ done ∷ [])
answer_text (BaseFault ticket done) = phrase (codes "base fault") (ticket ∷ done ∷ [])
answer_text (NoRoom events sectors) = []
answer_text (Worn generation) = phrase (codes "worn") (generation ∷ [])

-- a reply's answer is printed
abbrev pub HasText : Entry → Type 0
HasText (Reply id answer) = IsPrinted answer
HasText e = Unit {0}

-- what the entry shows the guest
abbrev pub seen_in : (guest : ℕ) → Entry → List Sector
seen_in guest (Seen id first content) = if id.pass == guest then content else []
seen_in guest e = []

-- the sectors that a guest has seen since its last Ask, in order
abbrev pub seen_since_ask : Past → (guest : ℕ) → List Sector
seen_since_ask nothing guest = []
seen_since_ask (p ▸ Ask id request) guest = if id.pass == guest then [] else seen_since_ask p guest
seen_since_ask (p ▸ e) guest = seen_since_ask p guest ++ seen_in guest e

-- the guest, a dot, the call, a blank and the answer
abbrev pub head_text : CallId → Answer → List ℕ
head_text id answer = decimal id.pass ++ codes "." ++ decimal id.call ++ codes " " ++ answer_text answer

-- what is shown of the sectors that a call has seen: all of them, after an Ok
abbrev pub seen_text : Answer → List Sector → List ℕ
seen_text answer seen = if is_ok answer then tokens seen else []

abbrev pub call_text : CallId → Answer → List Sector → List ℕ
call_text id answer seen = head_text id answer ++ (seen_text answer seen ++ codes "\n")

-- the line of a reply to the guest, after these entries
abbrev pub reply_text : Past → Entry → (guest : ℕ) → List ℕ
reply_text p (Reply id answer) guest = if id.pass == guest then call_text id answer (seen_since_ask p guest) else []
reply_text p e guest = []

-- a guest's calls, each where it is replied to
abbrev pub guest_text : Past → (guest : ℕ) → List ℕ
guest_text nothing guest = []
guest_text (p ▸ e) guest = guest_text p guest ++ reply_text p e guest

-- the calls of so many guests, from guest 1 on
abbrev pub history_text : (guests : ℕ) → List Entry → List ℕ
history_text zero entries = []
history_text (suc n) entries = history_text n entries ++ guest_text (past entries) (n + 1)

-- The last line counts the guests' replies.

abbrev pub is_full : Answer → Bool
is_full (Full needed free) = true
is_full answer = false

abbrev pub is_fault : Answer → Bool
is_fault (StoreFault ticket done) = true
is_fault (BaseFault ticket done) = true
is_fault answer = false

abbrev pub is_worn : Answer → Bool
is_worn (Worn generation) = true
is_worn answer = false

-- a reply to one of so many guests, with such an answer
abbrev pub is_reply : (Answer → Bool) → (guests : ℕ) → Entry → Bool
is_reply test guests (Reply id answer) = nat_le 1 id.pass && nat_le id.pass guests && test answer
is_reply test guests e = false

abbrev pub replies : (Answer → Bool) → (guests : ℕ) → List Entry → ℕ
replies test guests entries = count_by (is_reply test guests) entries

abbrev pub sum_text : (guests : ℕ) → List Entry → List ℕ
sum_text guests entries =
    phrase (codes "sum ok") (replies is_ok guests entries ∷ []) ++ phrase (codes " full") (replies is_full guests entries ∷ [])
    ++ phrase (codes " fault") (replies is_fault guests entries ∷ []) ++ phrase (codes " worn") (replies is_worn guests entries ∷ []) ++ codes "\n"
