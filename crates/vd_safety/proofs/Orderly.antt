-- What could stand in a sector of a store whose log is orderly, as one is where no write is begun over one that is open and what is seen could be there.
use Rattle.std.proofs.Common.{ℕ, zero, suc, ◌≡◌, ◌+◌, ◌-◌, ◌≤◌, ◌⊎◌, inl, inr, max, Bool, true, false, not, List, [], ◌∷◌, ◌++◌, length, Option, Some, None, refl, ap, sym, subst, arith, add-one}
use Rattle.std.specs.Prelude.{if◌then◌else◌, slice_get}
use Rattle.std.specs.List.{Contains, filter, find, list_any}
use Rattle.std.specs.Option.{option_to_list}
use Rattle.std.proofs.lemmas.List.{append-nil}
use Rattle.vd_law.specs.declared.entry.Sector.{Sector}
use Rattle.vd_law.specs.declared.entry.CallId.{CallId}
use Rattle.vd_law.specs.declared.entry.Answer.{Answer}
use Rattle.vd_law.specs.Entries.{Asked, Entry, Ask, Issue, Done, Broke, Seen, Reply, Past, nothing, ◌▸◌, past, same_call}
use Rattle.vd_law.specs.Calls.{progress, before_ask}
use Rattle.vd_law.specs.Contents.{sector_in, issued_contents, Open, open_after_issue, is_of, is_of_another, open_writes, contents_after_done, contents_after_seen, could_after, could, issue_number, last_done, is_flushed, firm_after, versions, may}
use Rattle.vd_law.proofs.Appending.{last_done-le, either}
use Rattle.vd_image.specs.Log.{At}
use Rattle.vd_image.proofs.Logs.{at_end, at_below, at_prefix, at_pushed}
use Rattle.vd_image.proofs.Exact.{at_contains, contains_at, dropped_at}

-- ---- one write is open at most, and none that is done is later

pub record IsOpenOne (x : Sector) (current : List Open) (last : ℕ) (issued : List Sector) : Type 0 where
  pub write : Open
  pub one : current ≡ write ∷ []
  pub later : last ≤ write.number
  pub content : At (x ∷ issued) write.number write.content

abbrev pub OpenAt : Sector → List Open → ℕ → List Sector → Type 0
OpenAt x current last issued = (current ≡ []) ⊎ IsOpenOne x current last issued

issue_open : (x : Sector) (current : List Open) (last : ℕ) (issued : List Sector) (c : CallId) (o : Option Sector) → ((v : Sector) → o ≡ Some v → current ≡ []) → last ≤ length issued → OpenAt x current last issued
    → OpenAt x (open_after_issue c (length issued + 1) o ++ current) last (issued ++ option_to_list o)
issue_open x current last issued c None free below at = subst (λ (i : List Sector). OpenAt x current last i) (sym (append-nil issued)) at
issue_open x current last issued c (Some v) free below at = inr (record {
  write = record { call = c; number = length issued + 1; content = v };
  one = ap (λ (ws : List Open). record { call = c; number = length issued + 1; content = v } ∷ ws) (free v refl);
  later = omega (arith, below);
  content = subst (λ (n : ℕ). At (x ∷ issued ++ v ∷ []) n v) (sym (add-one (length issued))) (at_end issued v);
})

closed_one : (x : Sector) (last : ℕ) (issued : List Sector) (w : Open) (own : Bool) → last ≤ w.number → At (x ∷ issued) w.number w.content → OpenAt x (if not own then w ∷ [] else []) (max last (issue_number (if own then Some w else None))) issued
closed_one x last issued w true later content = inl refl
closed_one x last issued w false later content = inr (record { write = w; one = refl; later = omega (arith, later); content = content })

done_open : (x : Sector) (current : List Open) (last : ℕ) (issued : List Sector) (id : CallId) → OpenAt x current last issued → OpenAt x (filter (is_of_another id) current) (max last (issue_number (find (is_of id) current))) issued
done_open x current last issued id (inl none) = subst (λ (ws : List Open). OpenAt x (filter (is_of_another id) ws) (max last (issue_number (find (is_of id) ws))) issued) (sym none) (inl refl)
done_open x current last issued id (inr w) =
    subst (λ (ws : List Open). OpenAt x (filter (is_of_another id) ws) (max last (issue_number (find (is_of id) ws))) issued) (sym w.one) (closed_one x last issued w.write (is_of id w.write) w.later w.content)

broken_one : (x : Sector) (last : ℕ) (issued : List Sector) (w : Open) (own : Bool) → last ≤ w.number → At (x ∷ issued) w.number w.content → OpenAt x (if not own then w ∷ [] else []) last issued
broken_one x last issued w true later content = inl refl
broken_one x last issued w false later content = inr (record { write = w; one = refl; later = later; content = content })

broke_open : (x : Sector) (current : List Open) (last : ℕ) (issued : List Sector) (id : CallId) → OpenAt x current last issued → OpenAt x (filter (is_of_another id) current) last issued
broke_open x current last issued id (inl none) = subst (λ (ws : List Open). OpenAt x (filter (is_of_another id) ws) last issued) (sym none) (inl refl)
broke_open x current last issued id (inr w) = subst (λ (ws : List Open). OpenAt x (filter (is_of_another id) ws) last issued) (sym w.one) (broken_one x last issued w.write (is_of id w.write) w.later w.content)

-- ---- what could be there is the last write that is done, or a later one

-- the content is that of a version with at least this number
abbrev pub IsAmong : Sector → (last : ℕ) → List Sector → Sector → Type 0
IsAmong x last issued u = (j : ℕ) × (last ≤ j) × At (x ∷ issued) j u

more_among : (x : Sector) (last : ℕ) (issued : List Sector) (o : Option Sector) (u : Sector) → IsAmong x last issued u → IsAmong x last (issued ++ option_to_list o) u
more_among x last issued o u h = (h.0, h.1, at_prefix (x ∷ issued) (option_to_list o) h.0 u h.2)

issue_among : (x : Sector) (last : ℕ) (issued could : List Sector) (o : Option Sector) → last ≤ length issued → ((k : ℕ) (u : Sector) → At could k u → IsAmong x last issued u)
    → (k : ℕ) (u : Sector) → At (could ++ option_to_list o) k u → IsAmong x last (issued ++ option_to_list o) u
issue_among x last issued could None below before k u at = more_among x last issued None u (before k u (subst (λ (c : List Sector). At c k u) (append-nil could) at))
issue_among x last issued could (Some v) below before k u at = elim (at_pushed could v k u at) [
  | inl old ↦ more_among x last issued (Some v) u (before k u old)
  | inr new ↦ (suc (length issued), omega arith, subst (λ (w : Sector). At (issued ++ v ∷ []) (length issued) w) new.1 (at_end issued v))
]

ended_among : (x : Sector) (last : ℕ) (issued could : List Sector) (w : Open) (own : Bool) → last ≤ w.number → At (x ∷ issued) w.number w.content → ((k : ℕ) (u : Sector) → At could k u → IsAmong x last issued u)
    → (k : ℕ) (u : Sector) → At (contents_after_done (if own then Some w else None) could) k u → IsAmong x (max last (issue_number (if own then Some w else None))) issued u
ended_among x last issued could w true later content before zero u at = (w.number, omega (arith, later), (let same : w.content ≡ u = cc in subst (λ (v : Sector). At (x ∷ issued) w.number v) same content))
ended_among x last issued could w true later content before (suc k) u at = absurd cc
ended_among x last issued could w false later content before k u at = let h = before k u at in (h.0, omega (arith, h.1), h.2)

done_among : (x : Sector) (current : List Open) (last : ℕ) (issued could : List Sector) (id : CallId) → OpenAt x current last issued → ((k : ℕ) (u : Sector) → At could k u → IsAmong x last issued u)
    → (k : ℕ) (u : Sector) → At (contents_after_done (find (is_of id) current) could) k u → IsAmong x (max last (issue_number (find (is_of id) current))) issued u
done_among x current last issued could id (inl none) before =
    subst (λ (ws : List Open). (k : ℕ) (u : Sector) → At (contents_after_done (find (is_of id) ws) could) k u → IsAmong x (max last (issue_number (find (is_of id) ws))) issued u) (sym none)
    (λ k u at. let h = before k u at in (h.0, omega (arith, h.1), h.2))
done_among x current last issued could id (inr w) before =
    subst (λ (ws : List Open). (k : ℕ) (u : Sector) → At (contents_after_done (find (is_of id) ws) could) k u → IsAmong x (max last (issue_number (find (is_of id) ws))) issued u) (sym w.one)
    (ended_among x last issued could w.write (is_of id w.write) w.later w.content before)

seen_among : (x : Sector) (last : ℕ) (issued could : List Sector) (o : Option Sector) (others : Bool) → ((v : Sector) → o ≡ Some v → Contains could v) → ((k : ℕ) (u : Sector) → At could k u → IsAmong x last issued u)
    → (k : ℕ) (u : Sector) → At (contents_after_seen o others could) k u → IsAmong x last issued u
seen_among x last issued could None others shown before k u at = before k u at
seen_among x last issued could (Some v) true shown before k u at = before k u at
seen_among x last issued could (Some v) false shown before zero u at = let same : v ≡ u = cc in let there = contains_at could v (shown v refl) in before there.0 u (subst (λ (w : Sector). At could there.0 w) same there.1)
seen_among x last issued could (Some v) false shown before (suc k) u at = absurd cc

-- in each sector of the store
pub record IsOrderly (start : List Sector) (p : Past) : Type 0 where
  pub one : (s : ℕ) (x : Sector) → slice_get start s ≡ Some x → OpenAt x (open_writes p s) (last_done p s) (issued_contents p s)
  pub among : (s : ℕ) (x : Sector) → slice_get start s ≡ Some x → (k : ℕ) (u : Sector) → At (could_after start p s) k u → IsAmong x (last_done p s) (issued_contents p s) u

-- ---- the log goes on

pub orderly-new : (start : List Sector) → IsOrderly start nothing
orderly-new start = record { one = λ s x told. inl refl; among = λ s x told k u at. (k, omega arith, subst (λ (o : Option Sector). At (option_to_list o) k u) told at) }

pub orderly-ask : (start : List Sector) (p : Past) (c : CallId) (request : Asked) → IsOrderly start p → IsOrderly start (p ▸ Ask c request)
orderly-ask start p c request o = record { one = o.one; among = o.among }

pub orderly-reply : (start : List Sector) (p : Past) (c : CallId) (answer : Answer) → IsOrderly start p → IsOrderly start (p ▸ Reply c answer)
orderly-reply start p c answer o = record { one = o.one; among = o.among }

-- a write is begun over none that is open
pub orderly-issue : (start : List Sector) (p : Past) (c : CallId) (first : ℕ) (content : List Sector) → ((s : ℕ) (v : Sector) → sector_in first content s ≡ Some v → open_writes p s ≡ []) → IsOrderly start p → IsOrderly start (p ▸ Issue c first content)
orderly-issue start p c first content free o = record {
  one = λ s x told. issue_open x (open_writes p s) (last_done p s) (issued_contents p s) c (sector_in first content s) (λ v covers. free s v covers) (last_done-le p s) (o.one s x told);
  among = λ s x told. issue_among x (last_done p s) (issued_contents p s) (could_after start p s) (sector_in first content s) (last_done-le p s) (o.among s x told);
}

pub orderly-done : (start : List Sector) (p : Past) (c : CallId) → IsOrderly start p → IsOrderly start (p ▸ Done c)
orderly-done start p c o = record {
  one = λ s x told. done_open x (open_writes p s) (last_done p s) (issued_contents p s) c (o.one s x told);
  among = λ s x told. done_among x (open_writes p s) (last_done p s) (issued_contents p s) (could_after start p s) c (o.one s x told) (o.among s x told);
}

pub orderly-broke : (start : List Sector) (p : Past) (c : CallId) → IsOrderly start p → IsOrderly start (p ▸ Broke c)
orderly-broke start p c o = record { one = λ s x told. broke_open x (open_writes p s) (last_done p s) (issued_contents p s) c (o.one s x told); among = o.among }

-- what is seen could be there
pub orderly-seen : (start : List Sector) (p : Past) (c : CallId) (first : ℕ) (content : List Sector) → ((s : ℕ) (v : Sector) → sector_in first content s ≡ Some v → Contains (could_after start p s) v) → IsOrderly start p → IsOrderly start (p ▸ Seen c first content)
orderly-seen start p c first content shown o = record {
  one = o.one;
  among = λ s x told. seen_among x (last_done p s) (issued_contents p s) (could_after start p s) (sector_in first content s) (list_any (is_of_another c) (open_writes p s)) (λ v covers. shown s v covers) (o.among s x told);
}

-- ---- so a crash may leave it

-- what was done before a call was asked is done
done_before : (p : Past) (id : CallId) (s : ℕ) → last_done (before_ask p id) s ≤ last_done p s
done_before nothing id s = omega arith
done_before (p ▸ Ask c request) id s = either (λ (q : Past). last_done q s ≤ last_done p s) (same_call c id) p (before_ask p id) (omega arith) (done_before p id s)
done_before (p ▸ Issue c first content) id s = done_before p id s
done_before (p ▸ Done c) id s = let k = done_before p id s in omega arith
done_before (p ▸ Broke c) id s = done_before p id s
done_before (p ▸ Seen c first content) id s = done_before p id s
done_before (p ▸ Reply c answer) id s = done_before p id s

firm_done : (p : Past) (s : ℕ) → firm_after p s ≤ last_done p s
firm_done nothing s = omega arith
firm_done (p ▸ Ask c request) s = firm_done p s
firm_done (p ▸ Issue c first content) s = firm_done p s
firm_done (p ▸ Done c) s = let k = firm_done p s in omega arith
firm_done (p ▸ Broke c) s = firm_done p s
firm_done (p ▸ Seen c first content) s = firm_done p s
firm_done (p ▸ Reply c answer) s =
    let k = firm_done p s in
    let b = done_before p c s in
    either (λ (n : ℕ). n ≤ last_done p s) (is_flushed (progress p c).asked answer) (max (firm_after p s) (last_done (before_ask p c) s)) (firm_after p s) (omega arith) k

versions_are : (start : List Sector) (p : Past) (s : ℕ) (x : Sector) → slice_get start s ≡ Some x → versions start p s ≡ x ∷ issued_contents p s
versions_are start p s x told = ap (λ (o : Option Sector). option_to_list o ++ issued_contents p s) told

-- What could be in a sector is what a crash may leave there.
pub could-may : (start : List Sector) (log : List Entry) (s : ℕ) (x u : Sector) → slice_get start s ≡ Some x → IsOrderly start (past log) → Contains (could start log s) u → Contains (may start log s) u
could-may start log s x u told orderly could_be =
    let there = contains_at (could start log s) u could_be in
    let h = orderly.among s x told there.0 u there.1 in
    let firm = firm_done (past log) s in
    at_contains (may start log s) (h.0 - firm_after (past log) s) u
    (dropped_at (firm_after (past log) s) (versions start (past log) s) (h.0 - firm_after (past log) s) h.0 u (let l = h.1 in omega (arith, firm, l))
    (subst (λ (vs : List Sector). At vs h.0 u) (sym (versions_are start (past log) s x told)) h.2))

-- Where each write to a sector is done, what could be there is the last version alone.
pub could-last : (start : List Sector) (log : List Entry) (s : ℕ) (x u : Sector) → slice_get start s ≡ Some x → IsOrderly start (past log) → last_done (past log) s ≡ length (issued_contents (past log) s) → Contains (could start log s) u
    → At (versions start (past log) s) (length (issued_contents (past log) s)) u
could-last start log s x u told orderly all could_be =
    let there = contains_at (could start log s) u could_be in
    let h = orderly.among s x told there.0 u there.1 in
    let below = at_below (x ∷ issued_contents (past log) s) h.0 u h.2 in
    let last : h.0 ≡ length (issued_contents (past log) s) = (let l = h.1 in omega (arith, l, below, all)) in
    subst (λ (vs : List Sector). At vs (length (issued_contents (past log) s)) u) (sym (versions_are start (past log) s x told)) (subst (λ (n : ℕ). At (x ∷ issued_contents (past log) s) n u) last h.2)
