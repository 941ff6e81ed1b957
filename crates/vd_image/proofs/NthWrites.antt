-- The writes to a sector by their numbers, as the law counts them.
use Rattle.std.proofs.Common.{ℕ, ◌≡◌, ◌+◌, ◌-◌, ◌<◌, ◌≤◌, ◌⊎◌, inl, inr, List, [], ◌∷◌, ◌++◌, length, Option, Some, None, arith, refl, ap, sym, subst, ◌∙◌}
use Rattle.std.specs.List.{fold}
use Rattle.std.specs.Option.{option_to_list}
use Rattle.std.proofs.lemmas.List.{append_assoc, append-nil, length_push}
use Rattle.vd_law.specs.Entries.{Past, nothing, ◌▸◌}
use Rattle.vd_law.specs.Contents.{sector_in, issued_contents}
use Rattle.vd_law.proofs.Sectors.{sector_in-at, sector_in-place}
use Rattle.vd_image.specs.Log.{Sector, CallId, Entry, Ask, Issue, Done, Broke, Seen, Reply, At, Covers, Writes}
use Rattle.vd_image.proofs.Logs.{at_push, at_end, at_pushed, covers_one, writes_push, writes_end, writes_pushed}

-- the entries of a history, in order
abbrev pub list_of : Past → List Entry
list_of nothing = []
list_of (p ▸ e) = list_of p ++ e ∷ []

abbrev pub size : Past → ℕ
size p = length (list_of p)

pub list_of-fold : (xs : List Entry) (p : Past) → list_of (fold ◌▸◌ p xs) ≡ list_of p ++ xs
list_of-fold [] p = sym (append-nil (list_of p))
list_of-fold (x ∷ xs) p = list_of-fold xs (p ▸ x) ∙ append_assoc (list_of p) (x ∷ []) xs

-- the n-th write to s, counted from 1, is the i-th entry's, of v
abbrev pub IsNth : Past → ℕ → ℕ → ℕ → Sector → Type 0
IsNth nothing s n i v = ⊥
IsNth (p ▸ e) s n i v = IsNth p s n i v ⊎ ((i ≡ size p) × Covers e s v × (n ≡ length (issued_contents p s) + 1))

pub covers_in : (first : ℕ) (content : List Sector) (s : ℕ) (v : Sector) → sector_in first content s ≡ Some v → (offset : ℕ) × (s ≡ first + offset) × At content offset v
covers_in first content s v is = let h = sector_in-place first content s v is in (s - first, omega (arith, h.0), h.1)

pub in_covers : (id : CallId) (first : ℕ) (content : List Sector) (s : ℕ) (v : Sector) → Covers (Issue id first content) s v → sector_in first content s ≡ Some v
in_covers id first content s v c = ap (λ (t : ℕ). sector_in first content t) c.1 ∙ sector_in-at first c.0 content ∙ c.2

-- one more entry adds to what is written there what it covers
pub written_step : (p : Past) (e : Entry) (s : ℕ) → ((v : Sector) × Covers e s v × (issued_contents (p ▸ e) s ≡ issued_contents p s ++ v ∷ [])) ⊎ (((v : Sector) → Covers e s v → ⊥) × (issued_contents (p ▸ e) s ≡ issued_contents p s))
written_step p (Issue id first content) s = go (sector_in first content s) refl
  where
    go : (x : Option Sector) → sector_in first content s ≡ x → ((v : Sector) × Covers (Issue id first content) s v × (issued_contents (p ▸ Issue id first content) s ≡ issued_contents p s ++ v ∷ [])) ⊎ (((v : Sector) → Covers (Issue id first content) s v → ⊥) × (issued_contents (p ▸ Issue id first content) s ≡ issued_contents p s))
    go (Some v) e = inl (v, covers_in first content s v e, ap (λ (x : Option Sector). issued_contents p s ++ option_to_list x) e)
    go None e = inr ((λ v covers. let a = in_covers id first content s v covers in absurd cc), ap (λ (x : Option Sector). issued_contents p s ++ option_to_list x) e ∙ append-nil (issued_contents p s))
written_step p (Ask id request) s = inr ((λ v covers. covers), refl)
written_step p (Done id) s = inr ((λ v covers. covers), refl)
written_step p (Broke id) s = inr ((λ v covers. covers), refl)
written_step p (Seen id first content) s = inr ((λ v covers. covers), refl)
written_step p (Reply id answer) s = inr ((λ v covers. covers), refl)

pub written_more : (p : Past) (e : Entry) (s : ℕ) → length (issued_contents p s) ≤ length (issued_contents (p ▸ e) s)
written_more p e s = elim (written_step p e s) [
  | inl h ↦ (let l = length_one (issued_contents p s) h.0 in let k = ap length h.2 in omega arith)
  | inr h ↦ (let k = ap length h.1 in omega arith)
]
  where
    length_one : (xs : List Sector) (x : Sector) → length (xs ++ x ∷ []) ≡ length xs + 1
    length_one xs x = length_push xs x

pub nth_writes : (p : Past) (s n i : ℕ) (v : Sector) → IsNth p s n i v → Writes (list_of p) i s v
nth_writes nothing s n i v h = absurd h
nth_writes (p ▸ e) s n i v (inl h) = writes_push (list_of p) e i s v (nth_writes p s n i v h)
nth_writes (p ▸ e) s n i v (inr h) = subst (λ (j : ℕ). Writes (list_of p ++ e ∷ []) j s v) (sym h.0) (writes_end (list_of p) e s v h.1)

pub writes_nth : (p : Past) (s i : ℕ) (v : Sector) → Writes (list_of p) i s v → (n : ℕ) × IsNth p s n i v
writes_nth nothing s i v w = absurd (let a = w.stands in cc)
writes_nth (p ▸ e) s i v w = elim (writes_pushed (list_of p) e i s v w) [
  | inl old ↦ (let h = writes_nth p s i v old in (h.0, inl h.1))
  | inr new ↦ (length (issued_contents p s) + 1, inr (new.0, new.1, refl))
]

pub nth_within : (p : Past) (s n i : ℕ) (v : Sector) → IsNth p s n i v → (i < size p) × (1 ≤ n) × (n ≤ length (issued_contents p s))
nth_within nothing s n i v h = absurd h
nth_within (p ▸ e) s n i v (inl h) =
    let k = nth_within p s n i v h in let m = written_more p e s in let l = length_push (list_of p) e in
    (omega (arith, k.0), k.1, omega (arith, k.2))
nth_within (p ▸ e) s n i v (inr h) =
    let l = length_push (list_of p) e in
    (omega (arith, h.0), omega (arith, h.2), last (written_step p e s))
  where
    last : ((u : Sector) × Covers e s u × (issued_contents (p ▸ e) s ≡ issued_contents p s ++ u ∷ [])) ⊎ (((u : Sector) → Covers e s u → ⊥) × (issued_contents (p ▸ e) s ≡ issued_contents p s)) → n ≤ length (issued_contents (p ▸ e) s)
    last (inl k) = let l = length_push (issued_contents p s) k.0 in let m = ap length k.2 in omega (arith, h.2)
    last (inr k) = absurd (k.0 v h.1)

-- later writes have greater numbers
pub nth_order : (p : Past) (s n m i j : ℕ) (u v : Sector) → IsNth p s n i u → IsNth p s m j v → i < j → n < m
nth_order nothing s n m i j u v h k less = absurd h
nth_order (p ▸ e) s n m i j u v (inl h) (inl k) less = nth_order p s n m i j u v h k less
nth_order (p ▸ e) s n m i j u v (inl h) (inr k) less = let w = nth_within p s n i u h in omega (arith, w.2, k.2)
nth_order (p ▸ e) s n m i j u v (inr h) (inl k) less = absurd (let w = nth_within p s m j v k in omega (arith, w.0, h.0))
nth_order (p ▸ e) s n m i j u v (inr h) (inr k) less = absurd (omega (arith, h.0, k.0))

-- an entry's write has one number
pub nth_one : (p : Past) (s n m i : ℕ) (u v : Sector) → IsNth p s n i u → IsNth p s m i v → n ≡ m
nth_one nothing s n m i u v h k = absurd h
nth_one (p ▸ e) s n m i u v (inl h) (inl k) = nth_one p s n m i u v h k
nth_one (p ▸ e) s n m i u v (inl h) (inr k) = absurd (let w = nth_within p s n i u h in omega (arith, w.0, k.0))
nth_one (p ▸ e) s n m i u v (inr h) (inl k) = absurd (let w = nth_within p s m i v k in omega (arith, w.0, h.0))
nth_one (p ▸ e) s n m i u v (inr h) (inr k) = omega (arith, h.2, k.2)

-- the contents written to s, in order, are those of its writes
pub nth_at : (p : Past) (s k i : ℕ) (v : Sector) → IsNth p s (k + 1) i v → At (issued_contents p s) k v
nth_at nothing s k i v h = absurd h
nth_at (p ▸ e) s k i v h = elim (written_step p e s) [
  | inl w ↦ subst (λ (xs : List Sector). At xs k v) (sym w.2) (elim h [
    | inl old ↦ at_push (issued_contents p s) w.0 k v (nth_at p s k i v old)
    | inr new ↦
        let place : k ≡ length (issued_contents p s) = omega (arith, new.2) in
        let value : w.0 ≡ v = covers_one e s w.0 v w.1 new.1 in
        subst (λ (j : ℕ). At (issued_contents p s ++ w.0 ∷ []) j v) (sym place) (subst (λ (y : Sector). At (issued_contents p s ++ w.0 ∷ []) (length (issued_contents p s)) y) value (at_end (issued_contents p s) w.0))
  ])
  | inr w ↦ subst (λ (xs : List Sector). At xs k v) (sym w.1) (elim h [ inl old ↦ nth_at p s k i v old | inr new ↦ absurd (w.0 v new.1) ])
]

pub at_nth : (p : Past) (s k : ℕ) (v : Sector) → At (issued_contents p s) k v → (i : ℕ) × IsNth p s (k + 1) i v
at_nth nothing s k v at = absurd cc
at_nth (p ▸ e) s k v at = elim (written_step p e s) [
  | inl w ↦ elim (at_pushed (issued_contents p s) w.0 k v (subst (λ (xs : List Sector). At xs k v) w.2 at)) [
    | inl old ↦ (let h = at_nth p s k v old in (h.0, inl h.1))
    | inr new ↦ (size p, inr (refl, subst (λ (y : Sector). Covers e s y) new.1 w.1, omega (arith, new.0)))
  ]
  | inr w ↦ (let h = at_nth p s k v (subst (λ (xs : List Sector). At xs k v) w.1 at) in (h.0, inl h.1))
]
