-- After a quiet history each sector could hold, and a crash may leave, what the disk after it says.
use Rattle.std.proofs.Common.{◌≡◌, ℕ, zero, suc, ◌+◌, max, ◌<◌, ◌≤◌, inl, inr, Bool, true, false, List, [], ◌∷◌, ◌++◌, Option, Some, None, length, drop, get_or, refl, ap, sym, ◌∙◌, subst, arith}
use Rattle.std.specs.Prelude.{if◌then◌else◌, ◌==◌, slice_get, map, IsSome}
use Rattle.std.specs.Option.{option_to_list}
use Rattle.std.specs.List.{All}
use Rattle.std.proofs.lemmas.List.{drop-drop}
use Rattle.std.proofs.lemmas.List.Elements.{All-head}
use Rattle.std.proofs.lemmas.Bool.{eqb-true, cases_Bool}
use Rattle.std.proofs.lemmas.Option.{slice_get-get_or}
use Rattle.vd_law.specs.declared.entry.Sector.{Sector}
use Rattle.vd_law.specs.declared.entry.CallId.{CallId}
use Rattle.vd_law.specs.declared.entry.Answer.{Answer}
use Rattle.vd_law.specs.Entries.{Asked, Entry, Ask, Issue, Done, Broke, Seen, Reply, call_of, same_call, Past, nothing, ◌▸◌, past}
use Rattle.vd_law.specs.Calls.{Progress, progress, progress_after, no_progress, last_call, before_ask}
use Rattle.vd_law.specs.Contents.{issued_contents, Open, open_writes, could_after, could, last_done, is_flushed, firm_after, versions, may_after, may}
use Rattle.vd_law.specs.Rules.{Each, IsInTurn, IsAnswered, ReplyFits, IsLegal}
use Rattle.vd_law.specs.Joining.{last_or, after_from, after_history, IsAcknowledged, IsOnlyAfter, IsQuiet, raised_id, raised_entry, joined_entries}
use Rattle.vd_law.proofs.Appending.{firm-le}
use Rattle.vd_law.proofs.CallLaws.{IsWrite, only-writes, next-call, fresh-call}
use Rattle.vd_law.proofs.CleanLaws.{IsSettled, clean}
use Rattle.vd_law.proofs.Inside.{still_asked}
use Rattle.vd_log.proofs.JoinLaws.{onto, onto-fold, raised_is, written-onto, could-onto, last_done-onto}
use Rattle.vd_law.proofs.OpenLaws.{open-pending}
use Rattle.vd_law.proofs.Opening.{same_call-is}
use Rattle.vd_law.proofs.RuleLaws.{past-append}

-- The disk after a history.

pub slice_get-after : (p : Past) (n : ℕ) (start : List Sector) (k : ℕ) (x : Sector) → slice_get start k ≡ Some x → slice_get (after_from p n start) k ≡ Some (last_or x (issued_contents p (n + k)))
slice_get-after p n [] k x at = cc
slice_get-after p n (y ∷ rest) zero x at =
    let same : y ≡ x = cc in
    ap (λ (z : Sector). Some (last_or z (issued_contents p n))) same ∙ (let here : n ≡ n + 0 = omega arith in ap (λ (m : ℕ). Some (last_or x (issued_contents p m))) here)
slice_get-after p n (y ∷ rest) (suc k) x at =
    slice_get-after p (n + 1) rest k x at ∙ (let here : (n + 1) + k ≡ n + suc k = omega arith in ap (λ (m : ℕ). Some (last_or x (issued_contents p m))) here)

pub length-after : (p : Past) (n : ℕ) (start : List Sector) → length (after_from p n start) ≡ length start
length-after p n [] = refl
length-after p n (x ∷ rest) = ap suc (length-after p (n + 1) rest)

-- An answered call has nothing pending.

pub kept : (P : Progress → Type 0) (p : Past) (e : Entry) (id : CallId) → (call_of e ≡ id → P (progress_after (progress p id) e)) → P (progress p id) → P (progress (p ▸ e) id)
kept P p e id own before =
    elim (cases_Bool (same_call (call_of e) id)) [
      | inl same ↦ subst (λ (b : Bool). P (if b then progress_after (progress p id) e else progress p id)) (sym same) (own (same_call-is (call_of e) id same))
      | inr other ↦ subst (λ (b : Bool). P (if b then progress_after (progress p id) e else progress p id)) (sym other) before
    ]

abbrev IdleOnceAnswered : Progress → Type 0
IdleOnceAnswered c = c.answered ≡ true → c.pending ≡ 0

reply_idle : (asked : Option Asked) (c : Progress) (answer : Answer) → ReplyFits asked c answer → c.pending ≡ 0
reply_idle None c answer fits = absurd fits
reply_idle (Some request) c answer fits = fits.none_open

pub answered-idle : (size : ℕ) (p : Past) → Each (IsInTurn size) p → Each IsAnswered p → (id : CallId) → IdleOnceAnswered (progress p id)
answered-idle size nothing turn answered id = λ told. refl
answered-idle size (p ▸ Ask c request) turn answered id =
    kept IdleOnceAnswered p (Ask c request) id
    (λ same told. ap (λ (d : CallId). (progress p d).pending) (sym same) ∙ ap (λ (c : Progress). c.pending) (next-call size p c turn.0 turn.1.0))
    (answered-idle size p turn.0 answered.0 id)
answered-idle size (p ▸ Issue c first content) turn answered id =
    kept IdleOnceAnswered p (Issue c first content) id
    (λ same told. (let unanswered : (progress p id).answered ≡ false = ap (λ (d : CallId). (progress p d).answered) (sym same) ∙ turn.1.unanswered in let impossible : true ≡ false = sym told ∙ unanswered in cc))
    (answered-idle size p turn.0 answered.0 id)
answered-idle size (p ▸ Done c) turn answered id = kept IdleOnceAnswered p (Done c) id (λ same told. refl) (answered-idle size p turn.0 answered.0 id)
answered-idle size (p ▸ Broke c) turn answered id = kept IdleOnceAnswered p (Broke c) id (λ same told. refl) (answered-idle size p turn.0 answered.0 id)
answered-idle size (p ▸ Seen c first content) turn answered id =
    kept IdleOnceAnswered p (Seen c first content) id (λ same. answered-idle size p turn.0 answered.0 id) (answered-idle size p turn.0 answered.0 id)
answered-idle size (p ▸ Reply c answer) turn answered id =
    kept IdleOnceAnswered p (Reply c answer) id
    (λ same told. ap (λ (d : CallId). (progress p d).pending) (sym same) ∙ reply_idle (progress p c).asked (progress p c) answer answered.1)
    (answered-idle size p turn.0 answered.0 id)

-- What a quiet history leaves.

write_some : (asked : Option Asked) → IsWrite asked → IsSome asked
write_some None write = absurd write
write_some (Some request) write = refl

none_left : (start : List Sector) (log : List Entry) (ws : List Open) → IsLegal start log → IsQuiet log → All (λ (w : Open). 0 < (progress (past log) w.call).pending) ws → ws ≡ []
none_left start log [] legal quiet pending = refl
none_left start log (w ∷ ws) legal quiet pending =
    let p = past log in let turn = legal.regular.in_turn in
    let busy : 0 < (progress p w.call).pending = All-head (λ (w : Open). 0 < (progress p w.call).pending) w ws pending in
    let asked = write_some (progress p w.call).asked (only-writes (length start) p turn legal.regular.in_place w.call busy) in
    let idle = answered-idle (length start) p turn legal.regular.answered w.call (quiet.answered w.call asked) in
    absurd (omega (arith, busy, idle))

pub quiet-closed : (start : List Sector) (log : List Entry) (s : ℕ) → IsLegal start log → IsQuiet log → open_writes (past log) s ≡ []
quiet-closed start log s legal quiet = none_left start log (open_writes (past log) s) legal quiet (open-pending (past log) s legal.regular.in_place)

pub quiet-settled : (start : List Sector) (log : List Entry) (s : ℕ) (x : Sector) → slice_get start s ≡ Some x → IsLegal start log → IsQuiet log → IsSettled x (open_writes (past log) s) (last_done (past log) s) (issued_contents (past log) s) (could_after start (past log) s)
quiet-settled start log s x told legal quiet =
    elim (clean start (length start) (past log) s x told quiet.unbroken legal.regular.in_turn legal.regular.in_place legal.regular.alone legal.shown) [
      | inl settled ↦ settled
      | inr w ↦ (let none = quiet-closed start log s legal quiet in let one = w.one in cc)
    ]

acknowledged-firm : (p q : Past) (s : ℕ) → IsAcknowledged p q → last_done q s ≤ firm_after p s
acknowledged-firm nothing q s yes_acked = absurd yes_acked
acknowledged-firm (p ▸ Ask id request) q s acked = acknowledged-firm p q s acked
acknowledged-firm (p ▸ Issue id first content) q s acked = acknowledged-firm p q s acked
acknowledged-firm (p ▸ Done id) q s acked = acknowledged-firm p q s acked
acknowledged-firm (p ▸ Broke id) q s acked = acknowledged-firm p q s acked
acknowledged-firm (p ▸ Seen id first content) q s acked = acknowledged-firm p q s acked
acknowledged-firm (p ▸ Reply id answer) q s (inl now) =
    let flushed : is_flushed (progress p id).asked answer ≡ true = now.0 in
    let here : last_done q s ≡ last_done (before_ask p id) s = ap (λ (r : Past). last_done r s) now.1 in
    subst (λ (b : Bool). last_done q s ≤ (if b then max (firm_after p s) (last_done (before_ask p id) s) else firm_after p s)) (sym flushed) (omega (arith, here))
acknowledged-firm (p ▸ Reply id answer) q s (inr before) =
    let below = acknowledged-firm p q s before in
    elim (is_flushed (progress p id).asked answer) as (λ b. last_done q s ≤ (if b then max (firm_after p s) (last_done (before_ask p id) s) else firm_after p s)) [ true ↦ omega (arith, below) | false ↦ below ]

only_after-done : (p q : Past) (s : ℕ) → IsOnlyAfter p q → last_done q s ≡ last_done p s
only_after-done nothing q s is = ap (λ (r : Past). last_done r s) is
only_after-done (p ▸ e) q s (inl is) = ap (λ (r : Past). last_done r s) is
only_after-done (p ▸ Ask id request) q s (inr later) = only_after-done p q s later.1
only_after-done (p ▸ Issue id first content) q s (inr later) = absurd later.0
only_after-done (p ▸ Done id) q s (inr later) = absurd later.0
only_after-done (p ▸ Broke id) q s (inr later) = only_after-done p q s later.1
only_after-done (p ▸ Seen id first content) q s (inr later) = only_after-done p q s later.1
only_after-done (p ▸ Reply id answer) q s (inr later) = only_after-done p q s later.1

pub quiet-firm : (start : List Sector) (log : List Entry) (s : ℕ) (x : Sector) → slice_get start s ≡ Some x → IsLegal start log → IsQuiet log → firm_after (past log) s ≡ length (issued_contents (past log) s)
quiet-firm start log s x told legal quiet =
    let p = past log in let settled = quiet-settled start log s x told legal quiet in
    omega (
      arith,
      settled.all_done,
      acknowledged-firm p quiet.flushed.0 s quiet.flushed.1,
      only_after-done p quiet.flushed.0 s quiet.flushed.2,
      firm-le p s,
    )

-- The calls of the history that goes on.

call_of-raised : (by : ℕ → ℕ) (e : Entry) → call_of (raised_entry by e) ≡ raised_id by (call_of e)
call_of-raised by (Ask id request) = refl
call_of-raised by (Issue id first content) = refl
call_of-raised by (Done id) = refl
call_of-raised by (Broke id) = refl
call_of-raised by (Seen id first content) = refl
call_of-raised by (Reply id answer) = refl

gone_on-raised : (by : ℕ → ℕ) (c : Progress) (e : Entry) → progress_after c (raised_entry by e) ≡ progress_after c e
gone_on-raised by c (Ask id request) = refl
gone_on-raised by c (Issue id first content) = refl
gone_on-raised by c (Done id) = refl
gone_on-raised by c (Broke id) = refl
gone_on-raised by c (Seen id first content) = refl
gone_on-raised by c (Reply id answer) = refl

-- no call of the first history is raised
abbrev pub AreNew : (ℕ → ℕ) → Past → Type 0
AreNew by h = (id : CallId) → 0 < id.call → progress h (raised_id by id) ≡ no_progress

pub progress-onto : (by : ℕ → ℕ) (h q : Past) → AreNew by h → (id : CallId) → 0 < id.call → progress (onto by h q) (raised_id by id) ≡ progress q id
progress-onto by h nothing new id positive = new id positive
progress-onto by h (q ▸ e) new id positive =
    let before = progress-onto by h q new id positive in
    ap (λ (c : CallId). if same_call c (raised_id by id) then progress_after (progress (onto by h q) (raised_id by id)) (raised_entry by e) else progress (onto by h q) (raised_id by id)) (call_of-raised by e)
    ∙ ap (λ (b : Bool). if b then progress_after (progress (onto by h q) (raised_id by id)) (raised_entry by e) else progress (onto by h q) (raised_id by id)) (raised_is by (call_of e) id)
    ∙ ap (λ (c : Progress). if same_call (call_of e) id then progress_after c (raised_entry by e) else c) before
    ∙ ap (λ (c : Progress). if same_call (call_of e) id then c else progress q id) (gone_on-raised by (progress q id) e)

pub last_call-onto : (by : ℕ → ℕ) (h q : Past) (pass : ℕ) → last_call h pass ≡ by pass → last_call (onto by h q) pass ≡ by pass + last_call q pass
last_call-onto by h nothing pass is = omega (arith, is)
last_call-onto by h (q ▸ Ask id request) pass is =
    elim (cases_Bool (id.pass == pass)) [
      | inl same ↦ (let bys : by id.pass ≡ by pass = ap by (eqb-true id.pass pass same) in
          ap (λ (b : Bool). if b then by id.pass + id.call else last_call (onto by h q) pass) same
          ∙ ap (λ (n : ℕ). n + id.call) bys
          ∙ ap (λ (b : Bool). by pass + (if b then id.call else last_call q pass)) (sym same))
      | inr differ ↦ ap (λ (b : Bool). if b then by id.pass + id.call else last_call (onto by h q) pass) differ
          ∙ last_call-onto by h q pass is
          ∙ ap (λ (b : Bool). by pass + (if b then id.call else last_call q pass)) (sym differ)
    ]
last_call-onto by h (q ▸ Issue id first content) pass is = last_call-onto by h q pass is
last_call-onto by h (q ▸ Done id) pass is = last_call-onto by h q pass is
last_call-onto by h (q ▸ Broke id) pass is = last_call-onto by h q pass is
last_call-onto by h (q ▸ Seen id first content) pass is = last_call-onto by h q pass is
last_call-onto by h (q ▸ Reply id answer) pass is = last_call-onto by h q pass is

-- an entry that asks nothing leaves what was asked
asked_before : (q : Past) (e : Entry) (id : CallId) → (progress_after (progress q id) e).asked ≡ (progress q id).asked → IsSome (progress (q ▸ e) id).asked → IsSome (progress q id).asked
asked_before q e id same some = subst IsSome (still_asked (same_call (call_of e) id) (progress q id) (progress_after (progress q id) e) same) some

before_ask-onto : (by : ℕ → ℕ) (h q : Past) (id : CallId) → IsSome (progress q id).asked → before_ask (onto by h q) (raised_id by id) ≡ onto by h (before_ask q id)
before_ask-onto by h nothing id some = (let impossible : false ≡ true = some in cc)
before_ask-onto by h (q ▸ Ask c request) id some =
    ap (λ (b : Bool). if b then onto by h q else before_ask (onto by h q) (raised_id by id)) (raised_is by c id)
    ∙ elim (cases_Bool (same_call c id)) [
      | inl same ↦ ap (λ (b : Bool). if b then onto by h q else before_ask (onto by h q) (raised_id by id)) same ∙ ap (λ (b : Bool). onto by h (if b then q else before_ask q id)) (sym same)
      | inr differ ↦ (let earlier : IsSome (progress q id).asked = subst (λ (b : Bool). IsSome (if b then progress_after (progress q id) (Ask c request) else progress q id).asked) differ some in
          ap (λ (b : Bool). if b then onto by h q else before_ask (onto by h q) (raised_id by id)) differ ∙ before_ask-onto by h q id earlier ∙ ap (λ (b : Bool). onto by h (if b then q else before_ask q id)) (sym differ))
    ]
before_ask-onto by h (q ▸ Issue c first content) id some = before_ask-onto by h q id (asked_before q (Issue c first content) id refl some)
before_ask-onto by h (q ▸ Done c) id some = before_ask-onto by h q id (asked_before q (Done c) id refl some)
before_ask-onto by h (q ▸ Broke c) id some = before_ask-onto by h q id (asked_before q (Broke c) id refl some)
before_ask-onto by h (q ▸ Seen c first content) id some = before_ask-onto by h q id (asked_before q (Seen c first content) id refl some)
before_ask-onto by h (q ▸ Reply c answer) id some = before_ask-onto by h q id (asked_before q (Reply c answer) id refl some)

-- the calls of a history are counted from 1
abbrev pub IsCounted : Past → Entry → Type 0
IsCounted p e = 0 < (call_of e).call

flushed_some : (asked : Option Asked) (answer : Answer) → is_flushed asked answer ≡ true → IsSome asked
flushed_some None answer flushed = cc
flushed_some (Some request) answer flushed = refl

firm-onto : (by : ℕ → ℕ) (h q : Past) (s : ℕ) → AreNew by h → Each IsCounted q → open_writes h s ≡ [] → last_done h s ≡ length (issued_contents h s) → firm_after h s ≡ length (issued_contents h s) → firm_after (onto by h q) s ≡ length (issued_contents h s) + firm_after q s
firm-onto by h nothing s new counted none all firm = omega (arith, firm)
firm-onto by h (q ▸ Ask id request) s new counted none all firm = firm-onto by h q s new counted.0 none all firm
firm-onto by h (q ▸ Issue id first content) s new counted none all firm = firm-onto by h q s new counted.0 none all firm
firm-onto by h (q ▸ Done id) s new counted none all firm = firm-onto by h q s new counted.0 none all firm
firm-onto by h (q ▸ Broke id) s new counted none all firm = firm-onto by h q s new counted.0 none all firm
firm-onto by h (q ▸ Seen id first content) s new counted none all firm = firm-onto by h q s new counted.0 none all firm
firm-onto by h (q ▸ Reply id answer) s new counted none all firm =
    let m = length (issued_contents h s) in let j = onto by h q in let before = firm-onto by h q s new counted.0 none all firm in
    let chosen : Bool → ℕ = λ b. if b then max (firm_after j s) (last_done (before_ask j (raised_id by id)) s) else firm_after j s in
    ap (λ (c : Progress). chosen (is_flushed c.asked answer)) (progress-onto by h q new id counted.1)
    ∙ elim (cases_Bool (is_flushed (progress q id).asked answer)) [
      | inl flushed ↦ (let asked = flushed_some (progress q id).asked answer flushed in
          let done : last_done (before_ask j (raised_id by id)) s ≡ m + last_done (before_ask q id) s = ap (λ (r : Past). last_done r s) (before_ask-onto by h q id asked) ∙ last_done-onto by h (before_ask q id) s none all in
          let sum : max (firm_after j s) (last_done (before_ask j (raised_id by id)) s) ≡ m + max (firm_after q s) (last_done (before_ask q id) s) = omega (arith, before, done) in
          ap chosen flushed ∙ sum ∙ ap (λ (b : Bool). m + (if b then max (firm_after q s) (last_done (before_ask q id) s) else firm_after q s)) (sym flushed))
      | inr other ↦ ap chosen other ∙ before ∙ ap (λ (b : Bool). m + (if b then max (firm_after q s) (last_done (before_ask q id) s) else firm_after q s)) (sym other)
    ]

drop-last : (x : Sector) (ws vs : List Sector) → drop (length ws) (x ∷ (ws ++ vs)) ≡ last_or x ws ∷ vs
drop-last x [] vs = refl
drop-last x (y ∷ ws) vs = drop-last y ws vs

may-onto : (start next : List Sector) (by : ℕ → ℕ) (h q : Past) (s : ℕ) (x : Sector) → slice_get start s ≡ Some x → slice_get next s ≡ Some (last_or x (issued_contents h s)) → firm_after (onto by h q) s ≡ length (issued_contents h s) + firm_after q s → may_after start (onto by h q) s ≡ may_after next q s
may-onto start next by h q s x told after_told firm =
    let wh = issued_contents h s in let wq = issued_contents q s in
    let all : versions start (onto by h q) s ≡ x ∷ (wh ++ wq) = ap (λ (o : Option Sector). option_to_list o ++ issued_contents (onto by h q) s) told ∙ ap (λ (ws : List Sector). x ∷ ws) (written-onto by h q s) in
    let rest : versions next q s ≡ last_or x wh ∷ wq = ap (λ (o : Option Sector). option_to_list o ++ wq) after_told in
    ap (λ (n : ℕ). drop n (versions start (onto by h q) s)) firm
    ∙ ap (drop (length wh + firm_after q s)) all
    ∙ sym (drop-drop (firm_after q s) (length wh) (x ∷ (wh ++ wq)))
    ∙ ap (drop (firm_after q s)) (drop-last x wh wq ∙ sym rest)

-- The two laws on contents.

pub past-joined : (first next : List Entry) → past (joined_entries first next) ≡ onto (λ pass. last_call (past first) pass) (past first) (past next)
past-joined first next =
    let by : ℕ → ℕ = λ pass. last_call (past first) pass in
    past-append first (map (raised_entry by) next) nothing ∙ onto-fold by (past first) nothing next

pub are_new : (start : List Sector) (log : List Entry) → IsLegal start log → AreNew (λ pass. last_call (past log) pass) (past log)
are_new start log legal id positive =
    fresh-call (length start) (past log) legal.regular.in_turn (raised_id (λ pass. last_call (past log) pass) id) (omega (arith, positive))

-- what a sector could hold after a quiet history is what the disk after it has
pub held-after : (start : List Sector) (log : List Entry) (s : ℕ) → s < length start → IsLegal start log → IsQuiet log → could_after start (past log) s ≡ option_to_list (slice_get (after_history start log) s)
held-after start log s below legal quiet =
    let none : Sector = record { bytes = [] } in let x = get_or start s none in
    let told : slice_get start s ≡ Some x = slice_get-get_or start s none below in
    (quiet-settled start log s x told legal quiet).holds
    ∙ sym (ap (λ (o : Option Sector). option_to_list o) (slice_get-after (past log) 0 start s x told ∙ (let here : 0 + s ≡ s = omega arith in ap (λ (n : ℕ). Some (last_or x (issued_contents (past log) n))) here)))

pub could-joined : (start : List Sector) (first next : List Entry) (s : ℕ) (x : Sector) → slice_get start s ≡ Some x → IsLegal start first → IsQuiet first → could start (joined_entries first next) s ≡ could (after_history start first) next s
could-joined start first next s x told legal quiet =
    let by : ℕ → ℕ = λ pass. last_call (past first) pass in let h = past first in
    let settled = quiet-settled start first s x told legal quiet in
    let held : could_after start h s ≡ option_to_list (slice_get (after_history start first) s) = settled.holds ∙ sym (ap (λ (o : Option Sector). option_to_list o) (slice_get-after h 0 start s x told ∙ (let here : 0 + s ≡ s = omega arith in ap (λ (n : ℕ). Some (last_or x (issued_contents h n))) here))) in
    ap (λ (p : Past). could_after start p s) (past-joined first next)
    ∙ could-onto start (after_history start first) by h (past next) s settled.closed held

pub may-joined : (start : List Sector) (first next : List Entry) (s : ℕ) (x : Sector) → slice_get start s ≡ Some x → IsLegal start first → IsQuiet first → Each IsCounted (past next) → may start (joined_entries first next) s ≡ may (after_history start first) next s
may-joined start first next s x told legal quiet counted =
    let by : ℕ → ℕ = λ pass. last_call (past first) pass in let h = past first in
    let settled = quiet-settled start first s x told legal quiet in
    let after_told : slice_get (after_history start first) s ≡ Some (last_or x (issued_contents h s)) = slice_get-after h 0 start s x told ∙ (let here : 0 + s ≡ s = omega arith in ap (λ (n : ℕ). Some (last_or x (issued_contents h n))) here) in
    ap (λ (p : Past). may_after start p s) (past-joined first next)
    ∙ may-onto start (after_history start first) by h (past next) s x told after_told
    (firm-onto by h (past next) s (are_new start first legal) counted settled.closed settled.all_done (quiet-firm start first s x told legal quiet))
