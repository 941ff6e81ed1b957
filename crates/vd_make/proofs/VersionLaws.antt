-- What one more event makes of the contents that a sector may have: each of them, or each since the last that was done, has P.
use Rattle.std.proofs.Common.{ℕ, ◌≡◌, ◌+◌, ◌-◌, max, ◌≤◌, inl, inr, Bool, List, [], ◌∷◌, ◌++◌, length, drop, take, Option, Some, None, refl, ap, sym, ◌∙◌, subst, arith, length-append, append-nil}
use Rattle.std.specs.Prelude.{slice_get, if◌then◌else◌}
use Rattle.std.specs.Option.{option_to_list}
use Rattle.std.specs.List.{AllByRecursion, Contains, find}
use Rattle.std.proofs.lemmas.List.{drop-append-le, drop-drop, append_assoc, take-append-drop}
use Rattle.std.proofs.lemmas.List.Elements.{Contains-append_cases, Contains-append_right, Contains-push_cases}
use Rattle.std.proofs.Math.Seq.{drop-append_seam}
use Rattle.vd_law.specs.declared.entry.Sector.{Sector}
use Rattle.vd_law.specs.declared.entry.CallId.{CallId}
use Rattle.vd_law.specs.declared.entry.Answer.TheVariants as answers
use Rattle.vd_law.specs.Entries.{Asked, Flush, Entry, Ask, Issue, Done, Broke, Seen, Reply, Past, ◌▸◌, past}
use Rattle.vd_law.specs.Calls.{Progress, progress, before_ask}
use Rattle.vd_law.specs.Contents.{sector_in, issued_contents, is_of, open_after_issue, open_writes, open_write, issue_number, last_done, is_flushed, firm_after, versions, may_after}
use Rattle.vd_law.proofs.Appending.{past-push, either, last_done-le, firm-le}
use Rattle.vd_law.proofs.Opening.{same_call-refl}
use Rattle.vd_law.proofs.OpenLaws.{progress-own}

-- P holds of each element
abbrev pub Only : (Sector → Type 0) → List Sector → Type 0
Only P xs = (x : Sector) → Contains xs x → P x

drop_within : (k : ℕ) (ys : List Sector) (x : Sector) → Contains (drop k ys) x → Contains ys x
drop_within k ys x there = subst (λ (l : List Sector). Contains l x) (take-append-drop k ys) (Contains-append_right (take k ys) (drop k ys) x there)

-- fewer are left of a list of which more is dropped
pub only_drop : (P : Sector → Type 0) (n m : ℕ) (xs : List Sector) → n ≤ m → Only P (drop n xs) → Only P (drop m xs)
only_drop P n m xs less all x there =
    let same : drop m xs ≡ drop (m - n) (drop n xs) = ap (λ (k : ℕ). drop k xs) (omega (arith, less)) ∙ sym (drop-drop (m - n) n xs) in
    all x (drop_within (m - n) (drop n xs) x (subst (λ (l : List Sector). Contains l x) same there))

pub only_append : (P : Sector → Type 0) (xs ys : List Sector) → Only P xs → Only P ys → Only P (xs ++ ys)
only_append P xs ys left right x there = elim (Contains-append_cases xs ys x there) [ inl l ↦ left x l | inr r ↦ right x r ]

pub only_one : (P : Sector → Type 0) (v : Sector) → P v → Only P (v ∷ [])
only_one P v has x there = elim (Contains-push_cases [] v x there) [ inl none ↦ absurd (omega (arith, none.1)) | inr same ↦ subst P same has ]

only_option : (P : Sector → Type 0) (o : Option Sector) → ((x : Sector) → o ≡ Some x → P x) → Only P (option_to_list o)
only_option P None each x there = absurd (omega (arith, there.1))
only_option P (Some v) each x there = only_one P v (each v refl) x there

-- what the event writes to the sector has P
abbrev pub Fits : (Sector → Type 0) → ℕ → Entry → Type 0
Fits P s (Issue id first content) = (x : Sector) → sector_in first content s ≡ Some x → P x
Fits P s _ = Unit {0}

pub fits_weaker : (P Q : Sector → Type 0) → ((x : Sector) → P x → Q x) → (s : ℕ) (e : Entry) → Fits P s e → Fits Q s e
fits_weaker P Q f s (Ask id request) fits = tt
fits_weaker P Q f s (Issue id first content) fits = λ x covers. f x (fits x covers)
fits_weaker P Q f s (Done id) fits = tt
fits_weaker P Q f s (Broke id) fits = tt
fits_weaker P Q f s (Seen id first content) fits = tt
fits_weaker P Q f s (Reply id answer) fits = tt

-- each content of the sector since the last that was done
abbrev pub Since : (Sector → Type 0) → List Sector → Past → ℕ → Type 0
Since P start p s = Only P (drop (last_done p s) (versions start p s))

-- each content that a crash may leave in it
abbrev pub Left : (Sector → Type 0) → List Sector → Past → ℕ → Type 0
Left P start p s = Only P (may_after start p s)

-- with one more version behind those of which so many are dropped
one_version : (P : Sector → Type 0) (n : ℕ) (start : List Sector) (p : Past) (s : ℕ) (o : Option Sector) → n ≤ length (issued_contents p s) → ((x : Sector) → o ≡ Some x → P x)
    → Only P (drop n (versions start p s)) → Only P (drop n (option_to_list (slice_get start s) ++ (issued_contents p s ++ option_to_list o)))
one_version P n start p s o less fits all =
    let within : n ≤ length (versions start p s) = omega (arith, less, length-append (option_to_list (slice_get start s)) (issued_contents p s)) in
    let same = ap (drop n) (sym (append_assoc (option_to_list (slice_get start s)) (issued_contents p s) (option_to_list o))) ∙ drop-append-le n (versions start p s) (option_to_list o) within in
    subst (Only P) (sym same) (only_append P (drop n (versions start p s)) (option_to_list o) all (only_option P o fits))

pub since_one : (P : Sector → Type 0) (start : List Sector) (p : Past) (e : Entry) (s : ℕ) → Fits P s e → Since P start p s → Since P start (p ▸ e) s
since_one P start p (Ask id request) s fits all = all
since_one P start p (Issue id first content) s fits all = one_version P (last_done p s) start p s (sector_in first content s) (last_done-le p s) fits all
since_one P start p (Done id) s fits all =
    only_drop P (last_done p s) (max (last_done p s) (issue_number (open_write p id s))) (versions start p s) (omega arith) all
since_one P start p (Broke id) s fits all = all
since_one P start p (Seen id first content) s fits all = all
since_one P start p (Reply id answer) s fits all = all

pub left_one : (P : Sector → Type 0) (start : List Sector) (p : Past) (e : Entry) (s : ℕ) → Fits P s e → Left P start p s → Left P start (p ▸ e) s
left_one P start p (Ask id request) s fits all = all
left_one P start p (Issue id first content) s fits all = one_version P (firm_after p s) start p s (sector_in first content s) (firm-le p s) fits all
left_one P start p (Done id) s fits all = all
left_one P start p (Broke id) s fits all = all
left_one P start p (Seen id first content) s fits all = all
left_one P start p (Reply id answer) s fits all =
    let firmer = max (firm_after p s) (last_done (before_ask p id) s) in
    either (λ (n : ℕ). Only P (drop n (versions start p s))) (is_flushed (progress p id).asked answer) firmer (firm_after p s)
    (only_drop P (firm_after p s) firmer (versions start p s) (omega arith) all) all

-- the same of several events at the end of a log
pub since_more : (P : Sector → Type 0) (start : List Sector) (log es : List Entry) (s : ℕ) → AllByRecursion (Fits P s) es → Since P start (past log) s → Since P start (past (log ++ es)) s
since_more P start log [] s fits all = subst (λ (l : List Entry). Since P start (past l) s) (sym (append-nil log)) all
since_more P start log (e ∷ es) s fits all =
    subst (λ (l : List Entry). Since P start (past l) s) (append_assoc log (e ∷ []) es)
    (since_more P start (log ++ e ∷ []) es s fits.1 (subst (λ (q : Past). Since P start q s) (sym (past-push log e)) (since_one P start (past log) e s fits.0 all)))

pub left_more : (P : Sector → Type 0) (start : List Sector) (log es : List Entry) (s : ℕ) → AllByRecursion (Fits P s) es → Left P start (past log) s → Left P start (past (log ++ es)) s
left_more P start log [] s fits all = subst (λ (l : List Entry). Left P start (past l) s) (sym (append-nil log)) all
left_more P start log (e ∷ es) s fits all =
    subst (λ (l : List Entry). Left P start (past l) s) (append_assoc log (e ∷ []) es)
    (left_more P start (log ++ e ∷ []) es s fits.1 (subst (λ (q : Past). Left P start q s) (sym (past-push log e)) (left_one P start (past log) e s fits.0 all)))

-- the call's own write is the one that it has open
pub own_open : (p : Past) (id : CallId) (first : ℕ) (content : List Sector) (s : ℕ) (v : Sector) → sector_in first content s ≡ Some v
    → open_write (p ▸ Issue id first content) id s ≡ Some (record { call = id; number = length (issued_contents p s) + 1; content = v })
own_open p id first content s v covers =
    ap (λ (o : Option Sector). find (is_of id) (open_after_issue id (length (issued_contents p s) + 1) o ++ open_writes p s)) covers
    ∙ ap (λ (b : Bool). if b then Some (record { call = id; number = length (issued_contents p s) + 1; content = v }) else find (is_of id) (open_writes p s)) (same_call-refl id)

-- after a write and its Done nothing else stands since then
pub since_written : (P : Sector → Type 0) (start : List Sector) (p : Past) (id : CallId) (first : ℕ) (content : List Sector) (s : ℕ) (v : Sector) → sector_in first content s ≡ Some v → P v
    → Since P start (p ▸ Issue id first content ▸ Done id) s
since_written P start p id first content s v covers has =
    let before = versions start p s in
    let n = length (issued_contents p s) in
    let short : length before ≤ n + 1 = omega (arith, length-append (option_to_list (slice_get start s)) (issued_contents p s), at_most_one (slice_get start s)) in
    let number : issue_number (open_write (p ▸ Issue id first content) id s) ≡ n + 1 = ap issue_number (own_open p id first content s v covers) in
    let same : versions start (p ▸ Issue id first content ▸ Done id) s ≡ before ++ v ∷ [] =
    sym (append_assoc (option_to_list (slice_get start s)) (issued_contents p s) (option_to_list (sector_in first content s))) ∙ ap (λ (o : Option Sector). before ++ option_to_list o) covers in
    let m = last_done (p ▸ Issue id first content ▸ Done id) s in
    subst (λ (l : List Sector). Only P (drop m l)) (sym same)
    (only_drop P (length before) m (before ++ v ∷ []) (omega (arith, short, number))
    (subst (Only P) (sym (drop-append_seam before (v ∷ []))) (only_one P v has)))
  where
    at_most_one : (o : Option Sector) → length (option_to_list o) ≤ 1
    at_most_one None = omega arith
    at_most_one (Some x) = omega arith

-- a flush that is asked and succeeds leaves what stands since the last that was done
pub left_flushed : (P : Sector → Type 0) (start : List Sector) (p : Past) (id : CallId) (s : ℕ) → Since P start p s → Left P start (p ▸ Ask id Flush ▸ Reply id answers.Ok) s
left_flushed P start p id s all =
    let asked : (progress (p ▸ Ask id Flush) id).asked ≡ Some Flush = ap (λ (c : Progress). c.asked) (progress-own p (Ask id Flush)) in
    let before : before_ask (p ▸ Ask id Flush) id ≡ p = ap (λ (b : Bool). if b then p else before_ask p id) (same_call-refl id) in
    let firm : firm_after (p ▸ Ask id Flush ▸ Reply id answers.Ok) s ≡ max (firm_after p s) (last_done p s) =
    ap (λ (r : Option Asked). if is_flushed r answers.Ok then max (firm_after p s) (last_done (before_ask (p ▸ Ask id Flush) id) s) else firm_after p s) asked
    ∙ ap (λ (q : Past). max (firm_after p s) (last_done q s)) before in
    subst (λ (n : ℕ). Only P (drop n (versions start p s))) (sym firm)
    (only_drop P (last_done p s) (max (firm_after p s) (last_done p s)) (versions start p s) (omega arith) all)
