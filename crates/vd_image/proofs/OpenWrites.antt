-- The open and the done writes of a sector by their numbers.
use Rattle.std.proofs.Common.{ℕ, ◌≡◌, ◌+◌, ◌<◌, ◌≤◌, ◌⊎◌, inl, inr, max, List, [], ◌∷◌, ◌++◌, length, Option, Some, None, Bool, false, arith, refl, ap, sym, subst, ◌∙◌}
use Rattle.std.specs.Prelude.{if◌then◌else◌}
use Rattle.std.specs.List.{filter, find}
use Rattle.std.proofs.lemmas.Bool.{cases_lt, cases_Bool}
use Rattle.std.proofs.lemmas.List.{length_push}
use Rattle.vd_law.specs.Entries.{same_call, Past, nothing, ◌▸◌}
use Rattle.vd_law.specs.Contents.{sector_in, issued_contents, Open, open_after_issue, is_of, is_of_another, open_writes, open_write, issue_number, last_done}
use Rattle.vd_law.proofs.Opening.{same_call-is, same_call-refl, find-closed}
use Rattle.vd_image.specs.Log.{Sector, CallId, Entry, Ask, Issue, Done, Broke, Seen, Reply, At, Covers, IsIssueOf, Ends, IsWriteInFlight}
use Rattle.vd_image.proofs.Logs.{at_push, at_end, at_below, at_pushed, ends_push, ends_pushed, ends_end}
use Rattle.vd_image.proofs.NthWrites.{list_of, size, IsNth, covers_in, in_covers, nth_within}

-- an open write of the longer history is one of the shorter, or its last entry is the issue
pub flight_pushed : (p : Past) (e : Entry) (i : ℕ) (id : CallId) → IsWriteInFlight (list_of p ++ e ∷ []) i id → (IsWriteInFlight (list_of p) i id × (Done id ≡ e → ⊥) × (Broke id ≡ e → ⊥)) ⊎ ((i ≡ size p) × IsIssueOf e id)
flight_pushed p e i id h = elim (at_pushed (list_of p) e i h.event h.stands) [
  | inl old ↦ inl (
    record { event = h.event; stands = old; issues = h.issues; running = λ m after found. h.running m after (grown m found) },
    (λ same. let below = at_below (list_of p) i h.event old in h.running (size p) below (inl (subst (λ (x : Entry). At (list_of p ++ e ∷ []) (size p) x) (sym same) (at_end (list_of p) e)))),
    (λ same. let below = at_below (list_of p) i h.event old in h.running (size p) below (inr (subst (λ (x : Entry). At (list_of p ++ e ∷ []) (size p) x) (sym same) (at_end (list_of p) e)))),
  )
  | inr new ↦ inr (new.0, subst (λ (x : Entry). IsIssueOf x id) (sym new.1) h.issues)
]
  where
    grown : (m : ℕ) → At (list_of p) m (Done id) ⊎ At (list_of p) m (Broke id) → At (list_of p ++ e ∷ []) m (Done id) ⊎ At (list_of p ++ e ∷ []) m (Broke id)
    grown m (inl a) = inl (at_push (list_of p) e m (Done id) a)
    grown m (inr a) = inr (at_push (list_of p) e m (Broke id) a)

pub differs : (c id : CallId) → (id ≡ c → ⊥) → same_call c id ≡ false
differs c id other = elim (cases_Bool (same_call c id)) [ inl same ↦ absurd (other (sym (same_call-is c id same))) | inr differ ↦ differ ]

-- what is open of a call has at least the number of each of its writes in flight
abbrev pub HasOpen : Past → CallId → ℕ → ℕ → Type 0
HasOpen p id s n = (w : Open) × (open_write p id s ≡ Some w) × (n ≤ w.number)

pub open_closed : (p : Past) (c id : CallId) (s n : ℕ) → same_call c id ≡ false → HasOpen p id s n → (w : Open) × (find (is_of id) (filter (is_of_another c) (open_writes p s)) ≡ Some w) × (n ≤ w.number)
open_closed p c id s n differ h = (h.0, find-closed c id (open_writes p s) ∙ ap (λ (b : Bool). if b then None else find (is_of id) (open_writes p s)) differ ∙ h.1, h.2)

-- an issue that covers s puts its own write first
pub open_first : (p : Past) (c id : CallId) (first : ℕ) (content : List Sector) (s : ℕ) (v : Sector) → sector_in first content s ≡ Some v → c ≡ id
    → open_write (p ▸ Issue c first content) id s ≡ Some (record { call = c; number = length (issued_contents p s) + 1; content = v })
open_first p c id first content s v e same =
    ap (λ (y : Option Sector). find (is_of id) (open_after_issue c (length (issued_contents p s) + 1) y ++ open_writes p s)) e
    ∙ ap (λ (b : Bool). if b then Some (record { call = c; number = length (issued_contents p s) + 1; content = v }) else find (is_of id) (open_writes p s)) (ap (λ (d : CallId). same_call c d) (sym same) ∙ same_call-refl c)

pub open_issued : (p : Past) (c id : CallId) (first : ℕ) (content : List Sector) (s : ℕ) → (x : Option Sector) → sector_in first content s ≡ x
    → (open_write (p ▸ Issue c first content) id s ≡ open_write p id s) ⊎ ((v : Sector) × (x ≡ Some v) × (c ≡ id) × (open_write (p ▸ Issue c first content) id s ≡ Some (record { call = c; number = length (issued_contents p s) + 1; content = v })))
open_issued p c id first content s None e = inl (ap (λ (y : Option Sector). find (is_of id) (open_after_issue c (length (issued_contents p s) + 1) y ++ open_writes p s)) e)
open_issued p c id first content s (Some v) e = elim (cases_Bool (same_call c id)) [
  | inl same ↦ inr (v, refl, same_call-is c id same, open_first p c id first content s v e (same_call-is c id same))
  | inr differ ↦ inl (ap (λ (y : Option Sector). find (is_of id) (open_after_issue c (length (issued_contents p s) + 1) y ++ open_writes p s)) e
      ∙ ap (λ (b : Bool). if b then Some (record { call = c; number = length (issued_contents p s) + 1; content = v }) else find (is_of id) (open_writes p s)) differ)
]

pub flight_open : (p : Past) (s n i : ℕ) (v : Sector) (id : CallId) → IsNth p s n i v → IsWriteInFlight (list_of p) i id → HasOpen p id s n
flight_open nothing s n i v id h flight = absurd h
flight_open (p ▸ e) s n i v id (inl h) flight = elim (flight_pushed p e i id flight) [
  | inr new ↦ absurd (let k = nth_within p s n i v h in omega (arith, k.0, new.0))
  | inl old ↦ still e (flight_open p s n i v id h old.0) old.1 old.2 (nth_within p s n i v h).2
]
  where
    still : (e : Entry) → HasOpen p id s n → (Done id ≡ e → ⊥) → (Broke id ≡ e → ⊥) → n ≤ length (issued_contents p s) → HasOpen (p ▸ e) id s n
    still (Ask c request) k no_done no_broke within = k
    still (Issue c first content) k no_done no_broke within = elim (open_issued p c id first content s (sector_in first content s) refl) [
      | inl same ↦ (k.0, same ∙ k.1, k.2)
      | inr new ↦ (record { call = c; number = length (issued_contents p s) + 1; content = new.0 }, new.3, omega arith)
    ]
    still (Done c) k no_done no_broke within = open_closed p c id s n (differs c id (λ same. no_done (ap Done same))) k
    still (Broke c) k no_done no_broke within = open_closed p c id s n (differs c id (λ same. no_broke (ap Broke same))) k
    still (Seen c first content) k no_done no_broke within = k
    still (Reply c answer) k no_done no_broke within = k
flight_open (p ▸ e) s n i v id (inr h) flight = elim (flight_pushed p e i id flight) [
  | inl old ↦ absurd (let b = at_below (list_of p) i old.0.event old.0.stands in omega (arith, h.0))
  | inr new ↦ first_open e h.1 new.1
]
  where
    first_open : (e : Entry) → Covers e s v → IsIssueOf e id → HasOpen (p ▸ e) id s n
    first_open (Ask c request) covers issue = absurd covers
    first_open (Issue c first content) covers issue =
        (record { call = c; number = length (issued_contents p s) + 1; content = v }, open_first p c id first content s v (in_covers c first content s v covers) issue, omega (arith, h.2))
    first_open (Done c) covers issue = absurd covers
    first_open (Broke c) covers issue = absurd covers
    first_open (Seen c first content) covers issue = absurd covers
    first_open (Reply c answer) covers issue = absurd covers

-- and it is one of them
pub open_flight : (p : Past) (s : ℕ) (id : CallId) (w : Open) → open_write p id s ≡ Some w → (i : ℕ) × (v : Sector) × IsNth p s w.number i v × IsWriteInFlight (list_of p) i id
open_flight nothing s id w is = absurd cc
open_flight (p ▸ e) s id w is = by_entry (open_flight p s id w) e is
  where
    kept : (open_write p id s ≡ Some w → (i : ℕ) × (v : Sector) × IsNth p s w.number i v × IsWriteInFlight (list_of p) i id) → (e : Entry) → (Done id ≡ e → ⊥) → (Broke id ≡ e → ⊥) → open_write p id s ≡ Some w → (i : ℕ) × (v : Sector) × IsNth (p ▸ e) s w.number i v × IsWriteInFlight (list_of p ++ e ∷ []) i id
    kept again e no_done no_broke was =
        let h = again was in
        (h.0, h.1, inl h.2, record { event = h.3.event; stands = at_push (list_of p) e h.0 h.3.event h.3.stands; issues = h.3.issues; running = λ m after found. running h.0 h.3 m after found })
      where
        running : (i : ℕ) → IsWriteInFlight (list_of p) i id → (m : ℕ) → i < m → At (list_of p ++ e ∷ []) m (Done id) ⊎ At (list_of p ++ e ∷ []) m (Broke id) → ⊥
        running i f m after (inl a) = elim (at_pushed (list_of p) e m (Done id) a) [ inl k ↦ f.running m after (inl k) | inr k ↦ no_done (sym k.1) ]
        running i f m after (inr a) = elim (at_pushed (list_of p) e m (Broke id) a) [ inl k ↦ f.running m after (inr k) | inr k ↦ no_broke (sym k.1) ]

    closed : (c : CallId) → find (is_of id) (filter (is_of_another c) (open_writes p s)) ≡ Some w → (id ≡ c → ⊥) × (open_write p id s ≡ Some w)
    closed c was = elim (cases_Bool (same_call c id)) [
      | inl same ↦ absurd (let e = sym (ap (λ (b : Bool). if b then None else find (is_of id) (open_writes p s)) same) ∙ sym (find-closed c id (open_writes p s)) ∙ was in cc)
      | inr differ ↦ (
        (λ equal. let same = ap (λ (d : CallId). same_call d id) equal ∙ differ in let told = same_call-refl id in absurd cc),
        sym (ap (λ (b : Bool). if b then None else find (is_of id) (open_writes p s)) differ) ∙ sym (find-closed c id (open_writes p s)) ∙ was,
      )
    ]

    by_entry : (open_write p id s ≡ Some w → (i : ℕ) × (v : Sector) × IsNth p s w.number i v × IsWriteInFlight (list_of p) i id) → (e : Entry) → open_write (p ▸ e) id s ≡ Some w → (i : ℕ) × (v : Sector) × IsNth (p ▸ e) s w.number i v × IsWriteInFlight (list_of p ++ e ∷ []) i id
    by_entry again (Ask c request) was = kept again (Ask c request) (λ same. absurd cc) (λ same. absurd cc) was
    by_entry again (Issue c first content) was = elim (open_issued p c id first content s (sector_in first content s) refl) [
      | inl same ↦ kept again (Issue c first content) (λ e. absurd cc) (λ e. absurd cc) (sym same ∙ was)
      | inr new ↦
          let one : record { call = c; number = length (issued_contents p s) + 1; content = new.0 } ≡ w = (let a = sym new.3 ∙ was in cc) in
          let number : length (issued_contents p s) + 1 ≡ w.number = ap (λ (x : Open). x.number) one in (
            size p,
            new.0,
            inr (refl, covers_in first content s new.0 new.1, sym number),
            record { event = Issue c first content; stands = at_end (list_of p) (Issue c first content); issues = new.2; running = λ m after found. past_end m after found },
          )
    ]
      where
        past_end : (m : ℕ) → size p < m → At (list_of p ++ Issue c first content ∷ []) m (Done id) ⊎ At (list_of p ++ Issue c first content ∷ []) m (Broke id) → ⊥
        past_end m after (inl a) = let b = at_below (list_of p ++ Issue c first content ∷ []) m (Done id) a in let l = length_push (list_of p) (Issue c first content) in omega arith
        past_end m after (inr a) = let b = at_below (list_of p ++ Issue c first content ∷ []) m (Broke id) a in let l = length_push (list_of p) (Issue c first content) in omega arith
    by_entry again (Done c) was = let k = closed c was in kept again (Done c) (λ same. k.0 (let e : Done id ≡ Done c = same in cc)) (λ same. absurd cc) k.1
    by_entry again (Broke c) was = let k = closed c was in kept again (Broke c) (λ same. absurd cc) (λ same. k.0 (let e : Broke id ≡ Broke c = same in cc)) k.1
    by_entry again (Seen c first content) was = kept again (Seen c first content) (λ same. absurd cc) (λ same. absurd cc) was
    by_entry again (Reply c answer) was = kept again (Reply c answer) (λ same. absurd cc) (λ same. absurd cc) was

-- writes that are done

-- the last done write has at least the number of each that is done
pub done_below : (p : Past) (s n i d : ℕ) (v : Sector) → IsNth p s n i v → Ends (list_of p) i d → n ≤ last_done p s
done_below nothing s n i d v h ends = absurd h
done_below (p ▸ e) s n i d v (inl h) ends = elim (ends_pushed (list_of p) e i d ends) [
  | inl old ↦ grows e (done_below p s n i d v h old)
  | inr new ↦
      let open_it = flight_open p s n i v new.1.0.id h (record { event = new.1.0.event; stands = new.1.0.stands; issues = new.1.0.issues; running = new.1.0.open_still }) in
      subst (λ (x : Entry). n ≤ last_done (p ▸ x) s) (sym new.1.1)
      (let number : issue_number (open_write p new.1.0.id s) ≡ open_it.0.number = ap issue_number open_it.1 in let l = open_it.2 in omega arith)
]
  where
    grows : (e : Entry) → n ≤ last_done p s → n ≤ last_done (p ▸ e) s
    grows (Ask c request) k = k
    grows (Issue c first content) k = k
    grows (Done c) k = omega arith
    grows (Broke c) k = k
    grows (Seen c first content) k = k
    grows (Reply c answer) k = k
done_below (p ▸ e) s n i d v (inr h) ends = absurd (
    let l = length_push (list_of p) e in
    let b = at_below (list_of p ++ e ∷ []) d (Done ends.id) ends.done in
    let a = ends.later in omega (arith, h.0))

abbrev pub IsDoneNth : Past → ℕ → ℕ → Type 0
IsDoneNth p s n = (i : ℕ) × (d : ℕ) × (v : Sector) × IsNth p s n i v × Ends (list_of p) i d

pub done_push : (p : Past) (e : Entry) (s n : ℕ) → IsDoneNth p s n → IsDoneNth (p ▸ e) s n
done_push p e s n h = (h.0, h.1, h.2, inl h.3, ends_push (list_of p) e h.0 h.1 h.4)

pub done_is : (p : Past) (s : ℕ) → (last_done p s ≡ 0) ⊎ IsDoneNth p s (last_done p s)
done_is nothing s = inl refl
done_is (p ▸ e) s = by_entry (done_is p s) e
  where
    old : (last_done p s ≡ 0) ⊎ IsDoneNth p s (last_done p s) → (e : Entry) → (last_done p s ≡ 0) ⊎ IsDoneNth (p ▸ e) s (last_done p s)
    old before e = elim before [ inl none ↦ inl none | inr h ↦ inr (done_push p e s (last_done p s) h) ]

    ended : (c : CallId) → (x : Option Open) → open_write p c s ≡ x → (issue_number x ≡ 0) ⊎ IsDoneNth (p ▸ Done c) s (issue_number x)
    ended c None is = inl refl
    ended c (Some w) is =
        let h = open_flight p s c w is in
        inr (h.0, size p, h.1, inl h.2, ends_end (list_of p) h.0 (record { event = h.3.event; id = c; stands = h.3.stands; issues = h.3.issues; open_still = h.3.running }))

    greater : (c : CallId) (a b : ℕ) → (a ≡ 0) ⊎ IsDoneNth (p ▸ Done c) s a → (b ≡ 0) ⊎ IsDoneNth (p ▸ Done c) s b → (max a b ≡ 0) ⊎ IsDoneNth (p ▸ Done c) s (max a b)
    greater c a b h k = elim (cases_lt a b) [
      | inl less ↦ (let same : b ≡ max a b = omega arith in subst (λ (n : ℕ). (n ≡ 0) ⊎ IsDoneNth (p ▸ Done c) s n) same k)
      | inr more ↦ (let same : a ≡ max a b = omega arith in subst (λ (n : ℕ). (n ≡ 0) ⊎ IsDoneNth (p ▸ Done c) s n) same h)
    ]

    by_entry : (last_done p s ≡ 0) ⊎ IsDoneNth p s (last_done p s) → (e : Entry) → (last_done (p ▸ e) s ≡ 0) ⊎ IsDoneNth (p ▸ e) s (last_done (p ▸ e) s)
    by_entry before (Ask c request) = old before (Ask c request)
    by_entry before (Issue c first content) = old before (Issue c first content)
    by_entry before (Done c) = greater c (last_done p s) (issue_number (open_write p c s)) (old before (Done c)) (ended c (open_write p c s) refl)
    by_entry before (Broke c) = old before (Broke c)
    by_entry before (Seen c first content) = old before (Seen c first content)
    by_entry before (Reply c answer) = old before (Reply c answer)
