-- What one more event at the end of a log changes.
use Rattle.std.proofs.Common.{ℕ, zero, suc, ◌≡◌, ◌+◌, ◌<◌, ◌≤◌, ◌⊎◌, inl, inr, List, [], ◌∷◌, ◌++◌, length, arith, refl, ap, sym, subst}
use Rattle.std.proofs.lemmas.Bool.{cases_lt}
use Rattle.vd_image.specs.Log.{IsOpen, Sector, CallId, Asked, Flush, Fine, Entry, Ask, Issue, Done, Broke, Seen, Reply, At, Covers, Writes, Ends, Flushes, IsSure, NoneSureFrom, May}

-- what stands at a place stands there after one more
pub at_push : {A : Type 0} (xs : List A) (y : A) (i : ℕ) (x : A) → At xs i x → At (xs ++ y ∷ []) i x
at_push [] y i x h = absurd (cc)
at_push (z ∷ xs) y zero x h = h
at_push (z ∷ xs) y (suc i) x h = at_push xs y i x h

-- what stands in a first part stands in the whole
pub at_prefix : {A : Type 0} (xs ys : List A) (i : ℕ) (x : A) → At xs i x → At (xs ++ ys) i x
at_prefix [] ys i x h = absurd cc
at_prefix (y ∷ xs) ys zero x h = h
at_prefix (y ∷ xs) ys (suc i) x h = at_prefix xs ys i x h

-- the new one stands at the end
pub at_end : {A : Type 0} (xs : List A) (y : A) → At (xs ++ y ∷ []) (length xs) y
at_end [] y = refl
at_end (z ∷ xs) y = at_end xs y

pub at_below : {A : Type 0} (xs : List A) (i : ℕ) (x : A) → At xs i x → i < length xs
at_below [] i x h = absurd (cc)
at_below (z ∷ xs) zero x h = omega arith
at_below (z ∷ xs) (suc i) x h = let k : i < length xs = at_below xs i x h in omega arith

-- what stands in the longer list stood in the shorter, or is the new one
pub at_pushed : {A : Type 0} (xs : List A) (y : A) (i : ℕ) (x : A) → At (xs ++ y ∷ []) i x → At xs i x ⊎ ((i ≡ length xs) × (y ≡ x))
at_pushed [] y zero x h = inr (refl, cc)
at_pushed [] y (suc i) x h = absurd (cc)
at_pushed (z ∷ xs) y zero x h = inl h
at_pushed (z ∷ xs) y (suc i) x h = elim (at_pushed xs y i x h) [ inl k ↦ inl k | inr k ↦ inr (ap suc k.0, k.1) ]

-- one thing stands at a place
pub at_one : {A : Type 0} (xs : List A) (i : ℕ) (x y : A) → At xs i x → At xs i y → x ≡ y
at_one xs i x y a b = cc (a, b)

-- an event writes one content to a sector
pub covers_one : (e : Entry) (s : ℕ) (u v : Sector) → Covers e s u → Covers e s v → u ≡ v
covers_one (Issue id first content) s u v a b =
    let same : a.0 ≡ b.0 = omega (arith, a.1, b.1) in
    cc (a.2, b.2, same)
covers_one (Ask id request) s u v a b = absurd a
covers_one (Done id) s u v a b = absurd a
covers_one (Broke id) s u v a b = absurd a
covers_one (Seen id first content) s u v a b = absurd a
covers_one (Reply id answer) s u v a b = absurd a

pub writes_one : (log : List Entry) (i s : ℕ) (u v : Sector) → Writes log i s u → Writes log i s v → u ≡ v
writes_one log i s u v a b =
    let same : b.event ≡ a.event = cc (a.stands, b.stands) in
    covers_one a.event s u v a.covers (subst (λ (e : Entry). Covers e s v) same b.covers)

pub writes_push : (log : List Entry) (e : Entry) (i s : ℕ) (v : Sector) → Writes log i s v → Writes (log ++ e ∷ []) i s v
writes_push log e i s v w = record { event = w.event; stands = at_push log e i w.event w.stands; covers = w.covers }

-- the new event's write
pub writes_end : (log : List Entry) (e : Entry) (s : ℕ) (v : Sector) → Covers e s v → Writes (log ++ e ∷ []) (length log) s v
writes_end log e s v c = record { event = e; stands = at_end log e; covers = c }

pub writes_pushed : (log : List Entry) (e : Entry) (i s : ℕ) (v : Sector) → Writes (log ++ e ∷ []) i s v → Writes log i s v ⊎ ((i ≡ length log) × Covers e s v)
writes_pushed log e i s v w =
    elim (at_pushed log e i w.event w.stands) [
      | inl h ↦ inl (record { event = w.event; stands = h; covers = w.covers })
      | inr h ↦ inr (h.0, subst (λ (x : Entry). Covers x s v) (sym h.1) w.covers)
    ]

pub writes_below : (log : List Entry) (i s : ℕ) (v : Sector) → Writes log i s v → i < length log
writes_below log i s v w = at_below log i w.event w.stands

pub ends_push : (log : List Entry) (e : Entry) (i d : ℕ) → Ends log i d → Ends (log ++ e ∷ []) i d
ends_push log e i d h = record {
  event = h.event;
  id = h.id;
  issues = h.issues;
  later = h.later;
  stands = at_push log e i h.event h.stands;
  done = at_push log e d (Done h.id) h.done;
  next = λ m after before found. h.next m after before (older m before found);
}
  where
    below : (m : ℕ) (x : Entry) → m < d → At (log ++ e ∷ []) m x → At log m x
    below m x before a = elim (at_pushed log e m x a) [
      | inl k ↦ k
      | inr k ↦ absurd (let bound : d < length log = at_below log d (Done h.id) h.done in omega (arith, k.0))
    ]

    older : (m : ℕ) → m < d → At (log ++ e ∷ []) m (Done h.id) ⊎ At (log ++ e ∷ []) m (Broke h.id) → At log m (Done h.id) ⊎ At log m (Broke h.id)
    older m before (inl a) = inl (below m (Done h.id) before a)
    older m before (inr a) = inr (below m (Broke h.id) before a)

pub flushes_push : (log : List Entry) (e : Entry) (a : ℕ) → Flushes log a → Flushes (log ++ e ∷ []) a
flushes_push log e a h = record {
  next = λ m request after before found. h.next m request after before (earlier m request before found);
  id = h.id;
  reply = h.reply;
  later = h.later;
  asked = at_push log e a (Ask h.id Flush) h.asked;
  replied = at_push log e h.reply (Reply h.id Fine) h.replied;
}
  where
    earlier : (m : ℕ) (request : Asked) → m < h.reply → At (log ++ e ∷ []) m (Ask h.id request) → At log m (Ask h.id request)
    earlier m request before found = elim (at_pushed log e m (Ask h.id request) found) [
      | inl k ↦ k
      | inr k ↦ absurd (let bound : h.reply < length log = at_below log h.reply (Reply h.id Fine) h.replied in omega (arith, k.0))
    ]

pub sure_push : (log : List Entry) (e : Entry) (i : ℕ) → IsSure log i → IsSure (log ++ e ∷ []) i
sure_push log e i h = record {
  done = h.done;
  asked = h.asked;
  before = h.before;
  ends = ends_push log e i h.done h.ends;
  flushes = flushes_push log e h.asked h.flushes;
}

pub none_sure_pushed : (log : List Entry) (e : Entry) (i s : ℕ) → NoneSureFrom (log ++ e ∷ []) i s → NoneSureFrom log i s
none_sure_pushed log e i s h = λ j v from w sure. h j v from (writes_push log e j s v w) (sure_push log e j sure)

-- one more event leaves in a sector what could be left before, or what it writes there itself
pub may_pushed : (start : ℕ → Sector) (log : List Entry) (e : Entry) (s : ℕ) (v : Sector) → May start (log ++ e ∷ []) s v → May start log s v ⊎ Covers e s v
may_pushed start log e s v (inl h) = inl (inl (record { value = h.value; newest = none_sure_pushed log e 0 s h.newest }))
may_pushed start log e s v (inr h) = elim (writes_pushed log e h.at s v h.writes) [
  | inl w ↦ inl (inr (record { at = h.at; writes = w; newest = none_sure_pushed log e (h.at + 1) s h.newest }))
  | inr w ↦ inr w.1
]

-- where a write is sure, what may be left is its content or was written later
pub may_since : (start : ℕ → Sector) (log : List Entry) (i s : ℕ) (u v : Sector) → Writes log i s u → IsSure log i → May start log s v → (j : ℕ) × (i ≤ j) × Writes log j s v × NoneSureFrom log (j + 1) s
may_since start log i s u v w sure (inl h) = absurd (h.newest i u (omega arith) w sure)
may_since start log i s u v w sure (inr h) = elim (cases_lt h.at i) [
  | inl less ↦ absurd (h.newest i u (omega arith) w sure)
  | inr more ↦ (h.at, more, h.writes, h.newest)
]

-- a write that is open in the longer log was open in the shorter
pub open_pushed : (log : List Entry) (e : Entry) (j : ℕ) → j < length log → IsOpen (log ++ e ∷ []) j → IsOpen log j
open_pushed log e j below h = elim (at_pushed log e j h.event h.stands) [
  | inl k ↦ record { event = h.event; id = h.id; stands = k; issues = h.issues; open_still = λ m after found. h.open_still m after (grown m found) }
  | inr k ↦ absurd (omega (arith, k.0))
]
  where
    grown : (m : ℕ) → At log m (Done h.id) ⊎ At log m (Broke h.id) → At (log ++ e ∷ []) m (Done h.id) ⊎ At (log ++ e ∷ []) m (Broke h.id)
    grown m (inl a) = inl (at_push log e m (Done h.id) a)
    grown m (inr a) = inr (at_push log e m (Broke h.id) a)

-- a write that is done in the longer log was done in the shorter, or was open there and the new event is its Done
pub ends_pushed : (log : List Entry) (e : Entry) (i d : ℕ) → Ends (log ++ e ∷ []) i d → Ends log i d ⊎ ((d ≡ length log) × ((h : IsOpen log i) × (e ≡ Done h.id)))
ends_pushed log e i d h = elim (at_pushed log e d (Done h.id) h.done) [
  | inl k ↦
      let below : d < length log = at_below log d (Done h.id) k in
      inl (record {
        event = h.event;
        id = h.id;
        issues = h.issues;
        later = h.later;
        done = k;
        stands = kept (at_pushed log e i h.event h.stands) (omega (arith, h.later, below));
        next = λ m after before found. h.next m after before (grown m found);
      })
  | inr k ↦ inr (
    k.0,
    (
      record {
        event = h.event;
        id = h.id;
        issues = h.issues;
        stands = kept (at_pushed log e i h.event h.stands) (omega (arith, h.later, k.0));
        open_still = λ m after found. h.next m after (let b : m < length log = below m found in omega (arith, k.0)) (grown m found);
      },
      k.1,
    ),
  )
]
  where
    kept : {x : Entry} → At log i x ⊎ ((i ≡ length log) × (e ≡ x)) → i < length log → At log i x
    kept (inl a) less = a
    kept (inr a) less = absurd (omega (arith, a.0))

    grown : (m : ℕ) → At log m (Done h.id) ⊎ At log m (Broke h.id) → At (log ++ e ∷ []) m (Done h.id) ⊎ At (log ++ e ∷ []) m (Broke h.id)
    grown m (inl a) = inl (at_push log e m (Done h.id) a)
    grown m (inr a) = inr (at_push log e m (Broke h.id) a)

    below : (m : ℕ) → At log m (Done h.id) ⊎ At log m (Broke h.id) → m < length log
    below m (inl a) = at_below log m (Done h.id) a
    below m (inr a) = at_below log m (Broke h.id) a

-- an open write is done by its call's Done
pub ends_end : (log : List Entry) (i : ℕ) (h : IsOpen log i) → Ends (log ++ Done h.id ∷ []) i (length log)
ends_end log i h = record {
  event = h.event;
  id = h.id;
  issues = h.issues;
  later = at_below log i h.event h.stands;
  stands = at_push log (Done h.id) i h.event h.stands;
  done = at_end log (Done h.id);
  next = λ m after before found. h.open_still m after (older m before found);
}
  where
    old : (m : ℕ) (x : Entry) → m < length log → At log m x ⊎ ((m ≡ length log) × (Done h.id ≡ x)) → At log m x
    old m x before (inl a) = a
    old m x before (inr a) = absurd (omega (arith, a.0))

    older : (m : ℕ) → m < length log → At (log ++ Done h.id ∷ []) m (Done h.id) ⊎ At (log ++ Done h.id ∷ []) m (Broke h.id) → At log m (Done h.id) ⊎ At log m (Broke h.id)
    older m before (inl a) = inl (old m (Done h.id) before (at_pushed log (Done h.id) m (Done h.id) a))
    older m before (inr a) = inr (old m (Broke h.id) before (at_pushed log (Done h.id) m (Broke h.id) a))

-- a flush of the longer log was one of the shorter, or the new event is its good answer
pub flushes_pushed : (log : List Entry) (e : Entry) (a : ℕ) → Flushes (log ++ e ∷ []) a → Flushes log a ⊎ ((id : CallId) × At log a (Ask id Flush) × (e ≡ Reply id Fine))
flushes_pushed log e a h = elim (at_pushed log e h.reply (Reply h.id Fine) h.replied) [
  | inl k ↦
      let below : h.reply < length log = at_below log h.reply (Reply h.id Fine) k in
      inl (record { id = h.id; reply = h.reply; later = h.later; replied = k; next = λ m request after before found. h.next m request after before (at_push log e m (Ask h.id request) found); asked = kept (at_pushed log e a (Ask h.id Flush) h.asked) (omega (arith, h.later, below)) })
  | inr k ↦ inr (h.id, kept (at_pushed log e a (Ask h.id Flush) h.asked) (omega (arith, h.later, k.0)), k.1)
]
  where
    kept : {x : Entry} → At log a x ⊎ ((a ≡ length log) × (e ≡ x)) → a < length log → At log a x
    kept (inl b) less = b
    kept (inr b) less = absurd (omega (arith, b.0))

-- a write and a flush after it that is answered well
pub sure_by : (log : List Entry) (i d a : ℕ) → Ends log i d → d < a → Flushes log a → IsSure log i
sure_by log i d a ends before flushes = record { done = d; asked = a; ends = ends; before = before; flushes = flushes }
