-- How the Issues that calls have open are found.
use Rattle.std.proofs.Common.{◌≡◌, ℕ, ◌+◌, inl, inr, Bool, true, false, not, ◌&&◌, ◌||◌, List, [], ◌∷◌, ◌++◌, Option, Some, None, length, refl, ap, sym, ◌∙◌}
use Rattle.std.specs.Prelude.{if◌then◌else◌, is_some}
use Rattle.std.specs.List.{filter, find, list_any}
use Rattle.std.proofs.lemmas.Bool.{and_parts, cases_Bool, or_cases}
use Rattle.std.proofs.Math.Bool.{or-true}
use Rattle.vd_law.specs.declared.entry.Sector.{Sector}
use Rattle.vd_law.specs.declared.entry.CallId.{CallId}
use Rattle.vd_law.specs.Entries.{Ask, Issue, Done, Broke, Seen, Reply, same_call, Past, nothing, ◌▸◌}
use Rattle.vd_law.specs.Contents.{sector_in, issued_contents, Open, open_after_issue, is_of, is_of_another, open_writes, open_write}
use Rattle.vd_law.proofs.Appending.{either}
use Rattle.vd_judge.specs.ContentStates.{count_and_open, open_after_end, some_open}
use Rattle.vd_law.proofs.Opening.{same_call-is, same_call-refl, find-closed}

pub tracked-done : (p : Past) (c id : CallId) (s : ℕ) → count_and_open (p ▸ Done c) id s ≡ open_after_end (same_call c id) (count_and_open p id s)
tracked-done p c id s = ap (λ (o : Option Open). (length (issued_contents p s), o)) (find-closed c id (open_writes p s))

pub tracked-broke : (p : Past) (c id : CallId) (s : ℕ) → count_and_open (p ▸ Broke c) id s ≡ open_after_end (same_call c id) (count_and_open p id s)
tracked-broke p c id s = ap (λ (o : Option Open). (length (issued_contents p s), o)) (find-closed c id (open_writes p s))

-- Whether another call has an Issue open, found by going over the calls that have Issues.

any_of : (c id : CallId) (ws : List Open) → not (same_call c id) ≡ true → is_some (find (is_of c) ws) ≡ true → list_any (is_of_another id) ws ≡ true
any_of c id [] other found = cc
any_of c id (w ∷ ws) other found =
    elim (cases_Bool (same_call w.call c)) [
      | inl same ↦ let w_other : not (same_call w.call id) ≡ true = ap (λ (a : CallId). not (same_call a id)) (same_call-is w.call c same) ∙ other in
          ap (λ (b : Bool). b || list_any (is_of_another id) ws) w_other
      | inr differ ↦ let later : is_some (find (is_of c) ws) ≡ true = ap (λ (b : Bool). is_some (if b then Some w else find (is_of c) ws)) (sym differ) ∙ found in
          ap (λ (b : Bool). is_of_another id w || b) (any_of c id ws other later) ∙ or-true (is_of_another id w)
    ]

pub some_open-any : (p : Past) (id : CallId) (s : ℕ) (q : Past) → some_open p id s q ≡ true → list_any (is_of_another id) (open_writes p s) ≡ true
some_open-any p id s nothing found = cc
some_open-any p id s (q ▸ Ask c request) found = some_open-any p id s q found
some_open-any p id s (q ▸ Issue c first content) found =
    elim (or_cases (some_open p id s q) (is_some (sector_in first content s) && (not (same_call c id) && is_some (open_write p c s))) found) [
      | inl before ↦ some_open-any p id s q before
      | inr here ↦ let covers = and_parts (is_some (sector_in first content s)) (not (same_call c id) && is_some (open_write p c s)) here in
          let other = and_parts (not (same_call c id)) (is_some (open_write p c s)) covers.1 in any_of c id (open_writes p s) other.0 other.1
    ]
some_open-any p id s (q ▸ Done c) found = some_open-any p id s q found
some_open-any p id s (q ▸ Broke c) found = some_open-any p id s q found
some_open-any p id s (q ▸ Seen c first content) found = some_open-any p id s q found
some_open-any p id s (q ▸ Reply c answer) found = some_open-any p id s q found

-- whether the call has an Issue on the sector
abbrev issued : Past → CallId → ℕ → Bool
issued nothing id s = false
issued (q ▸ Issue c first content) id s = issued q id s || (same_call c id && is_some (sector_in first content s))
issued (q ▸ _) id s = issued q id s

abbrev AllPass : (CallId → Bool) → List Open → Type 0
AllPass t [] = Unit {0}
AllPass t (w ∷ ws) = (t w.call ≡ true) × AllPass t ws

all_pass-filter : (t : CallId → Bool) (keeps : Open → Bool) (ws : List Open) → AllPass t ws → AllPass t (filter keeps ws)
all_pass-filter t keeps [] all = tt
all_pass-filter t keeps (w ∷ ws) all =
    either (AllPass t) (keeps w) (w ∷ filter keeps ws) (filter keeps ws) (all.0, all_pass-filter t keeps ws all.1) (all_pass-filter t keeps ws all.1)

all_pass-more : (t u : CallId → Bool) (ws : List Open) → ((c : CallId) → t c ≡ true → u c ≡ true) → AllPass t ws → AllPass u ws
all_pass-more t u [] more all = tt
all_pass-more t u (w ∷ ws) more all = (more w.call all.0, all_pass-more t u ws more all.1)

all_pass-opened : (t : CallId → Bool) (c : CallId) (n : ℕ) (o : Option Sector) (ws : List Open) → (is_some o ≡ true → t c ≡ true) → AllPass t ws → AllPass t (open_after_issue c n o ++ ws)
all_pass-opened t c n None ws passes all = all
all_pass-opened t c n (Some v) ws passes all = (passes refl, all)

all_issued : (q : Past) (s : ℕ) → AllPass (λ c. issued q c s) (open_writes q s)
all_issued nothing s = tt
all_issued (q ▸ Ask c request) s = all_pass-more (λ a. issued q a s) (λ a. issued (q ▸ Ask c request) a s) (open_writes q s) (λ a e. e) (all_issued q s)
all_issued (q ▸ Issue c first content) s =
    let t : CallId → Bool = λ a. issued (q ▸ Issue c first content) a s in
    all_pass-opened t c (length (issued_contents q s) + 1) (sector_in first content s) (open_writes q s)
    (λ covers. ap (λ (b : Bool). issued q c s || (b && is_some (sector_in first content s))) (same_call-refl c)
    ∙ ap (λ (b : Bool). issued q c s || b) covers
    ∙ or-true (issued q c s))
    (all_pass-more (λ a. issued q a s) t (open_writes q s) (λ a e. ap (λ (b : Bool). b || (same_call c a && is_some (sector_in first content s))) e) (all_issued q s))
all_issued (q ▸ Done c) s =
    all_pass-more (λ a. issued q a s) (λ a. issued (q ▸ Done c) a s) _ (λ a e. e) (all_pass-filter (λ a. issued q a s) (is_of_another c) (open_writes q s) (all_issued q s))
all_issued (q ▸ Broke c) s =
    all_pass-more (λ a. issued q a s) (λ a. issued (q ▸ Broke c) a s) _ (λ a e. e) (all_pass-filter (λ a. issued q a s) (is_of_another c) (open_writes q s) (all_issued q s))
all_issued (q ▸ Seen c first content) s = all_pass-more (λ a. issued q a s) (λ a. issued (q ▸ Seen c first content) a s) (open_writes q s) (λ a e. e) (all_issued q s)
all_issued (q ▸ Reply c answer) s = all_pass-more (λ a. issued q a s) (λ a. issued (q ▸ Reply c answer) a s) (open_writes q s) (λ a e. e) (all_issued q s)

-- the call that has it open
another_of : (t : CallId → Bool) (id : CallId) (ws : List Open) → AllPass t ws → list_any (is_of_another id) ws ≡ true → (c : CallId) × (not (same_call c id) ≡ true) × (t c ≡ true) × (is_some (find (is_of c) ws) ≡ true)
another_of t id [] all found = cc
another_of t id (w ∷ ws) all found =
    elim (cases_Bool (same_call w.call id)) [
      | inl own ↦ let later : list_any (is_of_another id) ws ≡ true = ap (λ (b : Bool). not b || list_any (is_of_another id) ws) (sym own) ∙ found in
          let a = another_of t id ws all.1 later in
          (a.0, a.1, a.2, elim (is_of a.0 w) as (λ b. is_some (if b then Some w else find (is_of a.0) ws) ≡ true) [ true ↦ refl | false ↦ a.3 ])
      | inr other ↦ (w.call, ap not other, all.0, ap (λ (b : Bool). is_some (if b then Some w else find (is_of w.call) ws)) (same_call-refl w.call))
    ]

issued-some : (p q : Past) (id c : CallId) (s : ℕ) → issued q c s ≡ true → not (same_call c id) ≡ true → is_some (open_write p c s) ≡ true → some_open p id s q ≡ true
issued-some p nothing id c s at other current = cc
issued-some p (q ▸ Ask a request) id c s at other current = issued-some p q id c s at other current
issued-some p (q ▸ Issue a first content) id c s at other current =
    elim (or_cases (issued q c s) (same_call a c && is_some (sector_in first content s)) at) [
      | inl before ↦ ap (λ (b : Bool). b || (is_some (sector_in first content s) && (not (same_call a id) && is_some (open_write p a s)))) (issued-some p q id c s before other current)
      | inr here ↦ let parts = and_parts (same_call a c) (is_some (sector_in first content s)) here in let a_is_c = same_call-is a c parts.0 in
          ap (λ (b : Bool). some_open p id s q || (b && (not (same_call a id) && is_some (open_write p a s)))) parts.1
          ∙ ap (λ (d : CallId). some_open p id s q || (not (same_call d id) && is_some (open_write p d s))) a_is_c
          ∙ ap (λ (b : Bool). some_open p id s q || (b && is_some (open_write p c s))) other
          ∙ ap (λ (b : Bool). some_open p id s q || b) current
          ∙ or-true (some_open p id s q)
    ]
issued-some p (q ▸ Done a) id c s at other current = issued-some p q id c s at other current
issued-some p (q ▸ Broke a) id c s at other current = issued-some p q id c s at other current
issued-some p (q ▸ Seen a first content) id c s at other current = issued-some p q id c s at other current
issued-some p (q ▸ Reply a answer) id c s at other current = issued-some p q id c s at other current

-- Where none was found, there is none.
pub none_open : (p : Past) (id : CallId) (s : ℕ) → some_open p id s p ≡ false → list_any (is_of_another id) (open_writes p s) ≡ false
none_open p id s none =
    elim (cases_Bool (list_any (is_of_another id) (open_writes p s))) [
      | inl any ↦ let a = another_of (λ c. issued p c s) id (open_writes p s) (all_issued p s) any in
          let some = issued-some p p id a.0 s a.2 a.1 a.3 in cc
      | inr closed ↦ closed
    ]
