-- What a history that goes on after a quiet one says.
use Rattle.std.proofs.Common.{◌≡◌, ℕ, ◌+◌, max, inl, inr, Bool, true, false, not, ◌&&◌, ◌||◌, List, [], ◌∷◌, ◌++◌, Option, Some, None, length, refl, ap, sym, ◌∙◌, arith, length-append}
use Rattle.std.specs.Prelude.{if◌then◌else◌, ◌==◌, slice_get, map}
use Rattle.std.specs.Option.{option_to_list, option_map}
use Rattle.std.specs.List.{fold, filter, find, list_any}
use Rattle.std.proofs.lemmas.List.{append-nil, append_assoc}
use Rattle.std.proofs.lemmas.Bool.{cases_Bool}
use Rattle.vd_law.specs.declared.entry.Sector.{Sector}
use Rattle.vd_law.specs.declared.entry.CallId.{CallId}
use Rattle.vd_law.specs.Entries.{Entry, Ask, Issue, Done, Broke, Seen, Reply, same_call, Past, nothing, ◌▸◌}
use Rattle.vd_law.specs.Contents.{sector_in, issued_contents, Open, open_after_issue, is_of, is_of_another, open_writes, open_write, contents_after_done, contents_after_seen, could_after, issue_number, last_done}
use Rattle.vd_law.specs.Joining.{raised_id, raised_entry}
use Rattle.vd_law.proofs.Opening.{same_call-is, same_call-refl}

-- h, and then the raised entries of q
abbrev pub onto : (ℕ → ℕ) → Past → Past → Past
onto by h nothing = h
onto by h (q ▸ e) = onto by h q ▸ raised_entry by e

pub onto-fold : (by : ℕ → ℕ) (h q : Past) (es : List Entry) → fold ◌▸◌ (onto by h q) (map (raised_entry by) es) ≡ onto by h (fold ◌▸◌ q es)
onto-fold by h q [] = refl
onto-fold by h q (e ∷ es) = onto-fold by h (q ▸ e) es

-- raised calls are the same where the calls are
pub raised_is : (by : ℕ → ℕ) (a b : CallId) → same_call (raised_id by a) (raised_id by b) ≡ same_call a b
raised_is by a b =
    elim (cases_Bool (same_call a b)) [
      | inl same ↦ ap (λ (c : CallId). same_call (raised_id by a) (raised_id by c)) (sym (same_call-is a b same)) ∙ same_call-refl (raised_id by a) ∙ sym same
      | inr differ ↦ elim (cases_Bool (same_call (raised_id by a) (raised_id by b))) [
        | inl raised_same ↦ (let one = same_call-is (raised_id by a) (raised_id by b) raised_same in
            let pass : a.pass ≡ b.pass = ap (λ (c : CallId). c.pass) one in
            let sums : by a.pass + a.call ≡ by b.pass + b.call = ap (λ (c : CallId). c.call) one in
            let bys : by a.pass ≡ by b.pass = ap by pass in
            let call : a.call ≡ b.call = omega (arith, sums, bys) in
            let a_is_b : same_call a b ≡ true = ap (λ (n : ℕ). (n == b.pass) && (a.call == b.call)) pass ∙ ap (λ (n : ℕ). (b.pass == b.pass) && (n == b.call)) call ∙ same_call-refl b in cc)
        | inr raised_differ ↦ raised_differ ∙ sym differ
      ]
    ]

pub written-onto : (by : ℕ → ℕ) (h q : Past) (s : ℕ) → issued_contents (onto by h q) s ≡ issued_contents h s ++ issued_contents q s
written-onto by h nothing s = sym (append-nil (issued_contents h s))
written-onto by h (q ▸ Ask id request) s = written-onto by h q s
written-onto by h (q ▸ Issue id first content) s =
    ap (λ (ws : List Sector). ws ++ option_to_list (sector_in first content s)) (written-onto by h q s)
    ∙ append_assoc (issued_contents h s) (issued_contents q s) (option_to_list (sector_in first content s))
written-onto by h (q ▸ Done id) s = written-onto by h q s
written-onto by h (q ▸ Broke id) s = written-onto by h q s
written-onto by h (q ▸ Seen id first content) s = written-onto by h q s
written-onto by h (q ▸ Reply id answer) s = written-onto by h q s

unfoldable pub shifted : (ℕ → ℕ) → ℕ → Open → Open
shifted by m w = record { call = raised_id by w.call; number = m + w.number; content = w.content }

filter-shifted : (by : ℕ → ℕ) (m : ℕ) (id : CallId) (ws : List Open) → filter (is_of_another (raised_id by id)) (map (shifted by m) ws) ≡ map (shifted by m) (filter (is_of_another id) ws)
unfolding shifted
filter-shifted by m id [] = refl
filter-shifted by m id (w ∷ ws) =
    ap (λ (b : Bool). if not b then shifted by m w ∷ filter (is_of_another (raised_id by id)) (map (shifted by m) ws) else filter (is_of_another (raised_id by id)) (map (shifted by m) ws)) (raised_is by w.call id)
    ∙ ap (λ (us : List Open). if is_of_another id w then shifted by m w ∷ us else us) (filter-shifted by m id ws)
    ∙ elim (is_of_another id w) as (λ b. (if b then shifted by m w ∷ map (shifted by m) (filter (is_of_another id) ws) else map (shifted by m) (filter (is_of_another id) ws)) ≡ map (shifted by m) (if b then w ∷ filter (is_of_another id) ws else filter (is_of_another id) ws)) [ true ↦ refl | false ↦ refl ]

find-shifted : (by : ℕ → ℕ) (m : ℕ) (id : CallId) (ws : List Open) → find (is_of (raised_id by id)) (map (shifted by m) ws) ≡ option_map (shifted by m) (find (is_of id) ws)
unfolding shifted
find-shifted by m id [] = refl
find-shifted by m id (w ∷ ws) =
    ap (λ (b : Bool). if b then Some (shifted by m w) else find (is_of (raised_id by id)) (map (shifted by m) ws)) (raised_is by w.call id)
    ∙ ap (λ (o : Option Open). if is_of id w then Some (shifted by m w) else o) (find-shifted by m id ws)
    ∙ elim (is_of id w) as (λ b. (if b then Some (shifted by m w) else option_map (shifted by m) (find (is_of id) ws)) ≡ option_map (shifted by m) (if b then Some w else find (is_of id) ws)) [ true ↦ refl | false ↦ refl ]

any-shifted : (by : ℕ → ℕ) (m : ℕ) (id : CallId) (ws : List Open) → list_any (is_of_another (raised_id by id)) (map (shifted by m) ws) ≡ list_any (is_of_another id) ws
unfolding shifted
any-shifted by m id [] = refl
any-shifted by m id (w ∷ ws) =
    ap (λ (b : Bool). not b || list_any (is_of_another (raised_id by id)) (map (shifted by m) ws)) (raised_is by w.call id)
    ∙ ap (λ (b : Bool). is_of_another id w || b) (any-shifted by m id ws)

opened-shifted : (by : ℕ → ℕ) (m : ℕ) (id : CallId) (n k : ℕ) (o : Option Sector) (ws : List Open) → k ≡ m + n → open_after_issue (raised_id by id) (k + 1) o ++ map (shifted by m) ws ≡ map (shifted by m) (open_after_issue id (n + 1) o ++ ws)
unfolding shifted
opened-shifted by m id n k None ws is = refl
opened-shifted by m id n k (Some v) ws is =
    let next : k + 1 ≡ m + (n + 1) = omega (arith, is) in
    ap (λ (number : ℕ). record { call = raised_id by id; number = number; content = v } ∷ map (shifted by m) ws) next

-- the open Issues, where none was open before
pub open_writes-onto : (by : ℕ → ℕ) (h q : Past) (s : ℕ) → open_writes h s ≡ [] → open_writes (onto by h q) s ≡ map (shifted by (length (issued_contents h s))) (open_writes q s)
open_writes-onto by h nothing s none = none
open_writes-onto by h (q ▸ Ask id request) s none = open_writes-onto by h q s none
open_writes-onto by h (q ▸ Issue id first content) s none =
    ap (λ (ws : List Open). open_after_issue (raised_id by id) (length (issued_contents (onto by h q) s) + 1) (sector_in first content s) ++ ws) (open_writes-onto by h q s none)
    ∙ opened-shifted by (length (issued_contents h s)) id (length (issued_contents q s)) (length (issued_contents (onto by h q) s)) (sector_in first content s) (open_writes q s)
    (ap length (written-onto by h q s) ∙ length-append (issued_contents h s) (issued_contents q s))
open_writes-onto by h (q ▸ Done id) s none =
    ap (filter (is_of_another (raised_id by id))) (open_writes-onto by h q s none) ∙ filter-shifted by (length (issued_contents h s)) id (open_writes q s)
open_writes-onto by h (q ▸ Broke id) s none =
    ap (filter (is_of_another (raised_id by id))) (open_writes-onto by h q s none) ∙ filter-shifted by (length (issued_contents h s)) id (open_writes q s)
open_writes-onto by h (q ▸ Seen id first content) s none = open_writes-onto by h q s none
open_writes-onto by h (q ▸ Reply id answer) s none = open_writes-onto by h q s none

open_write-onto : (by : ℕ → ℕ) (h q : Past) (id : CallId) (s : ℕ) → open_writes h s ≡ [] → open_write (onto by h q) (raised_id by id) s ≡ option_map (shifted by (length (issued_contents h s))) (open_write q id s)
open_write-onto by h q id s none =
    ap (find (is_of (raised_id by id))) (open_writes-onto by h q s none) ∙ find-shifted by (length (issued_contents h s)) id (open_writes q s)

settled-shifted : (by : ℕ → ℕ) (m : ℕ) (o : Option Open) (contents : List Sector) → contents_after_done (option_map (shifted by m) o) contents ≡ contents_after_done o contents
unfolding shifted
settled-shifted by m None contents = refl
settled-shifted by m (Some w) contents = refl

-- What a sector could hold, where it could hold one content before.
pub could-onto : (start next : List Sector) (by : ℕ → ℕ) (h q : Past) (s : ℕ) → open_writes h s ≡ [] → could_after start h s ≡ option_to_list (slice_get next s) → could_after start (onto by h q) s ≡ could_after next q s
could-onto start next by h nothing s none held = held
could-onto start next by h (q ▸ Ask id request) s none held = could-onto start next by h q s none held
could-onto start next by h (q ▸ Issue id first content) s none held =
    ap (λ (k : List Sector). k ++ option_to_list (sector_in first content s)) (could-onto start next by h q s none held)
could-onto start next by h (q ▸ Done id) s none held =
    ap (λ (o : Option Open). contents_after_done o (could_after start (onto by h q) s)) (open_write-onto by h q id s none)
    ∙ settled-shifted by (length (issued_contents h s)) (open_write q id s) (could_after start (onto by h q) s)
    ∙ ap (contents_after_done (open_write q id s)) (could-onto start next by h q s none held)
could-onto start next by h (q ▸ Broke id) s none held = could-onto start next by h q s none held
could-onto start next by h (q ▸ Seen id first content) s none held =
    ap (λ (b : Bool). contents_after_seen (sector_in first content s) b (could_after start (onto by h q) s))
    (ap (list_any (is_of_another (raised_id by id))) (open_writes-onto by h q s none) ∙ any-shifted by (length (issued_contents h s)) id (open_writes q s))
    ∙ ap (contents_after_seen (sector_in first content s) (list_any (is_of_another id) (open_writes q s))) (could-onto start next by h q s none held)
could-onto start next by h (q ▸ Reply id answer) s none held = could-onto start next by h q s none held

number-shifted : (by : ℕ → ℕ) (m a : ℕ) (o : Option Open) → max (m + a) (issue_number (option_map (shifted by m) o)) ≡ m + max a (issue_number o)
unfolding shifted
number-shifted by m a None = omega arith
number-shifted by m a (Some w) = omega arith

pub last_done-onto : (by : ℕ → ℕ) (h q : Past) (s : ℕ) → open_writes h s ≡ [] → last_done h s ≡ length (issued_contents h s) → last_done (onto by h q) s ≡ length (issued_contents h s) + last_done q s
last_done-onto by h nothing s none all = omega (arith, all)
last_done-onto by h (q ▸ Ask id request) s none all = last_done-onto by h q s none all
last_done-onto by h (q ▸ Issue id first content) s none all = last_done-onto by h q s none all
last_done-onto by h (q ▸ Done id) s none all =
    ap (λ (n : ℕ). max n (issue_number (open_write (onto by h q) (raised_id by id) s))) (last_done-onto by h q s none all)
    ∙ ap (λ (o : Option Open). max (length (issued_contents h s) + last_done q s) (issue_number o)) (open_write-onto by h q id s none)
    ∙ number-shifted by (length (issued_contents h s)) (last_done q s) (open_write q id s)
last_done-onto by h (q ▸ Broke id) s none all = last_done-onto by h q s none all
last_done-onto by h (q ▸ Seen id first content) s none all = last_done-onto by h q s none all
last_done-onto by h (q ▸ Reply id answer) s none all = last_done-onto by h q s none all
