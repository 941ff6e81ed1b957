-- What one more entry leaves of the history's writes, ends, flushes, discards and numbers.
use Rattle.std.proofs.Common.{ℕ, suc, ◌≡◌, ◌<◌, ◌≤◌, ◌⊎◌, inl, inr, List, [], ◌∷◌, ◌++◌, length, Some, None, Option, arith, refl, ap, sym, subst, ◌∙◌}
use Rattle.std.proofs.lemmas.List.{length_push}
use Rattle.vd_image.specs.Log.{Sector, CallId, Entry, Flush, Fine, Ask, Done, Reply, At, Covers, Ends, Flushes, IsOpen}
use Rattle.vd_crash.specs.facts.Safe.{NumberedEntry, events}
use Rattle.vd_crash.specs.facts.Facts.{HasEntry, GuestWrites, GuestEnds, GuestFlushes, IsDrop, OwnWrites, IsDroppedAfter, IsDroppedBefore, AreNumbers, IsLive}
use Rattle.vd_image.proofs.Logs.{at_one, at_push, at_below, at_pushed, ends_pushed, flushes_pushed, open_pushed}
use Rattle.vd_crash.proofs.facts.History.{numbered_at}

pub events_push : (history : List NumberedEntry) (x : NumberedEntry) → events (history ++ x ∷ []) ≡ events history ++ x.event ∷ []
events_push [] x = refl
events_push (y ∷ history) x = ap (λ (l : List Entry). y.event ∷ l) (events_push history x)

pub length_events : (history : List NumberedEntry) → length (events history) ≡ length history
length_events [] = refl
length_events (y ∷ history) = ap suc (length_events history)

-- entries

pub guest_writes_push : (history : List NumberedEntry) (x : NumberedEntry) (j n s : ℕ) (v : Sector) → GuestWrites history j n s v → GuestWrites (history ++ x ∷ []) j n s v
guest_writes_push history x j n s v w = record { event = w.event; stands = at_push history x j (record { event = w.event; number = n }) w.stands; covers = w.covers }

pub guest_writes_pushed : (history : List NumberedEntry) (x : NumberedEntry) (j n s : ℕ) (v : Sector) → GuestWrites (history ++ x ∷ []) j n s v
    → GuestWrites history j n s v ⊎ ((j ≡ length history) × (x.number ≡ n) × Covers x.event s v)
guest_writes_pushed history x j n s v w = elim (at_pushed history x j (record { event = w.event; number = n }) w.stands) [
  | inl k ↦ inl (record { event = w.event; stands = k; covers = w.covers })
  | inr k ↦ inr (k.0, ap (λ (e : NumberedEntry). e.number) k.1, subst (λ (e : Entry). Covers e s v) (sym (ap (λ (e : NumberedEntry). e.event) k.1)) w.covers)
]

pub guest_writes_below : (history : List NumberedEntry) (j n s : ℕ) (v : Sector) → GuestWrites history j n s v → j < length history
guest_writes_below history j n s v w = at_below history j (record { event = w.event; number = n }) w.stands

-- a guest write that is done in the longer history was done in the shorter, or was open there and the new entry is its Done
pub guest_ends_pushed : (history : List NumberedEntry) (x : NumberedEntry) (j e n : ℕ) → GuestEnds (history ++ x ∷ []) j e n
    → GuestEnds history j e n ⊎ ((e ≡ length history) × (x.number ≡ n) × ((h : IsOpen (events history) j) × (x.event ≡ Done h.id)))
guest_ends_pushed history x j e n h =
    elim (ends_pushed (events history) x.event j e (subst (λ (l : List Entry). Ends l j e) (events_push history x) h.ends)) [
      | inl k ↦ elim (at_pushed history x e (record { event = h.event; number = n }) h.numbered) [
        | inl a ↦ inl (record { event = h.event; ends = k; numbered = a })
        | inr a ↦ absurd (let b : e < length (events history) = at_below (events history) e (Done k.id) k.done in let same = length_events history in omega (arith, a.0, b, same))
      ]
      | inr k ↦ elim (at_pushed history x e (record { event = h.event; number = n }) h.numbered) [
        | inl a ↦ absurd (let b : e < length history = at_below history e (record { event = h.event; number = n }) a in let same = length_events history in omega (arith, k.0, b, same))
        | inr a ↦ inr (a.0, ap (λ (y : NumberedEntry). y.number) a.1, k.1)
      ]
    ]

pub guest_open_pushed : (history : List NumberedEntry) (x : NumberedEntry) (j : ℕ) → j < length history → IsOpen (events (history ++ x ∷ [])) j → IsOpen (events history) j
guest_open_pushed history x j below h =
    let same = length_events history in
    open_pushed (events history) x.event j (omega (arith, same)) (subst (λ (l : List Entry). IsOpen l j) (events_push history x) h)

-- a flush that was answered well in the longer history was so in the shorter, or the new entry is its answer
pub guest_flushes_pushed : (history : List NumberedEntry) (x : NumberedEntry) (a n : ℕ) → GuestFlushes (history ++ x ∷ []) a n
    → GuestFlushes history a n ⊎ ((id : CallId) × HasEntry history a n (Ask id Flush) × (x.event ≡ Reply id Fine))
guest_flushes_pushed history x a n h =
    elim (flushes_pushed (events history) x.event a (subst (λ (l : List Entry). Flushes l a) (events_push history x) h.flushes)) [
      | inl k ↦ elim (at_pushed history x a (record { event = h.event; number = n }) h.numbered) [
        | inl b ↦ inl (record { event = h.event; flushes = k; numbered = b })
        | inr b ↦ absurd (let c : a < length (events history) = at_below (events history) a (Ask k.id Flush) k.asked in let same = length_events history in omega (arith, b.0, c, same))
      ]
      | inr k ↦
          let there = numbered_at history a (Ask k.0 Flush) k.1 in
          let now : At (history ++ x ∷ []) a (record { event = Ask k.0 Flush; number = there.0 }) = at_push history x a (record { event = Ask k.0 Flush; number = there.0 }) there.1 in
          let same : n ≡ there.0 = ap (λ (y : NumberedEntry). y.number) (at_one (history ++ x ∷ []) a (record { event = h.event; number = n }) (record { event = Ask k.0 Flush; number = there.0 }) h.numbered now) in
          inr (k.0, subst (λ (i : ℕ). HasEntry history a i (Ask k.0 Flush)) (sym same) there.1, k.2)
    ]

-- discards

-- the same entries are discards, of those that there were
abbrev pub SameDrops : (old new : ℕ → Option ℕ) → ℕ → Type 0
SameDrops old new top = (j : ℕ) → j < top → new j ≡ old j

pub same_drops : (drops : ℕ → Option ℕ) (top : ℕ) → SameDrops drops drops top
same_drops drops top j less = refl

pub drop_below : (drops : ℕ → Option ℕ) (history : List NumberedEntry) (j n c : ℕ) → IsDrop drops history j n c → j < length history
drop_below drops history j n c h = at_below history j (record { event = h.event; number = n }) h.stands

pub drop_push : (old new : ℕ → Option ℕ) (history : List NumberedEntry) (x : NumberedEntry) (j n c : ℕ) → SameDrops old new (length history) → IsDrop old history j n c → IsDrop new (history ++ x ∷ []) j n c
drop_push old new history x j n c same h = record {
  event = h.event;
  stands = at_push history x j (record { event = h.event; number = n }) h.stands;
  is = same j (drop_below old history j n c h) ∙ h.is;
}

pub drop_pushed : (old new : ℕ → Option ℕ) (history : List NumberedEntry) (x : NumberedEntry) (j n c : ℕ) → SameDrops old new (length history) → IsDrop new (history ++ x ∷ []) j n c
    → IsDrop old history j n c ⊎ ((j ≡ length history) × (x.number ≡ n) × (new (length history) ≡ Some c))
drop_pushed old new history x j n c same h = elim (at_pushed history x j (record { event = h.event; number = n }) h.stands) [
  | inl k ↦ inl (record { event = h.event; stands = k; is = sym (same j (at_below history j (record { event = h.event; number = n }) k)) ∙ h.is })
  | inr k ↦ inr (k.0, ap (λ (e : NumberedEntry). e.number) k.1, sym (ap new k.0) ∙ h.is)
]

-- of entries that are no discard
pub drop_old : (drops : ℕ → Option ℕ) (history : List NumberedEntry) (x : NumberedEntry) (j n c : ℕ) → drops (length history) ≡ None → IsDrop drops (history ++ x ∷ []) j n c → IsDrop drops history j n c
drop_old drops history x j n c none h = elim (drop_pushed drops drops history x j n c (same_drops drops (length history)) h) [ inl k ↦ k | inr k ↦ absurd (let e = k.2 in cc) ]

pub own_push : (old new : ℕ → Option ℕ) (history : List NumberedEntry) (x : NumberedEntry) (j n s : ℕ) (v : Sector) → SameDrops old new (length history) → OwnWrites old history j n s v → OwnWrites new (history ++ x ∷ []) j n s v
own_push old new history x j n s v same w = (guest_writes_push history x j n s v w.0, same j (guest_writes_below history j n s v w.0) ∙ w.1)

pub own_pushed : (old new : ℕ → Option ℕ) (history : List NumberedEntry) (x : NumberedEntry) (j n s : ℕ) (v : Sector) → SameDrops old new (length history) → OwnWrites new (history ++ x ∷ []) j n s v
    → OwnWrites old history j n s v ⊎ ((j ≡ length history) × (x.number ≡ n) × Covers x.event s v × (new (length history) ≡ None))
own_pushed old new history x j n s v same w = elim (guest_writes_pushed history x j n s v w.0) [
  | inl k ↦ inl (k, sym (same j (guest_writes_below history j n s v k)) ∙ w.1)
  | inr k ↦ inr (k.0, k.1, k.2, sym (ap new k.0) ∙ w.1)
]

pub dropped_after_push : (old new : ℕ → Option ℕ) (history : List NumberedEntry) (x : NumberedEntry) (j c : ℕ) → SameDrops old new (length history) → IsDroppedAfter old history j c → IsDroppedAfter new (history ++ x ∷ []) j c
dropped_after_push old new history x j c same h = (h.0, h.1, drop_push old new history x h.0 h.1 c same h.2, h.3)

pub dropped_before_push : (old new : ℕ → Option ℕ) (history : List NumberedEntry) (x : NumberedEntry) (j c since : ℕ) → SameDrops old new (length history) → IsDroppedBefore old history j c since → IsDroppedBefore new (history ++ x ∷ []) j c since
dropped_before_push old new history x j c since same h = (h.0, h.1, drop_push old new history x h.0 h.1 c same h.2, h.3, h.4)

-- a write that is live in the longer history, and was in the shorter, was live there
pub live_pushed : (history : List NumberedEntry) (x : NumberedEntry) (j : ℕ) → j < length history → IsLive (history ++ x ∷ []) j → IsLive history j
live_pushed history x j below (inl h) = elim (guest_ends_pushed history x j h.0 h.1 h.2) [ inl k ↦ inl (h.0, h.1, k) | inr k ↦ inr k.2.0 ]
live_pushed history x j below (inr h) = inr (guest_open_pushed history x j below h)

-- numbers

pub numbers_event : (opened : ℕ) (log : List Entry) (drops : ℕ → Option ℕ) (history : List NumberedEntry) (e : Entry) → AreNumbers opened log drops history → AreNumbers opened (log ++ e ∷ []) drops history
numbers_event opened log drops history e h = record {
  never_fall = h.never_fall;
  issues_rise = h.issues_rise;
  since_opening = h.since_opening;
  none_above = λ j n f stands. let b = h.none_above j n f stands in let l = length_push log e in omega arith;
}

pub numbers_entry : (opened : ℕ) (log : List Entry) (old_drops new_drops : ℕ → Option ℕ) (history : List NumberedEntry) (x : NumberedEntry) → SameDrops old_drops new_drops (length history)
    → AreNumbers opened log old_drops history → opened ≤ length log → x.number ≡ length log
    → ((s : ℕ) (v : Sector) → Covers x.event s v → (j n t : ℕ) (u : Sector) → OwnWrites old_drops history j n t u → n < length log)
    → AreNumbers opened log new_drops (history ++ x ∷ [])
numbers_entry opened log old_drops new_drops history x same h within number issues = record {
  never_fall = λ i j m n e f less first second. order i j m n e f less (at_pushed history x i (record { event = e; number = m }) first) (at_pushed history x j (record { event = f; number = n }) second);
  issues_rise = λ i j m n s t u v less first second. rise i j m n s t u v less (own_pushed old_drops new_drops history x i m s u same first) (guest_writes_pushed history x j n t v second);
  since_opening = λ j n e stands. old j n e (at_pushed history x j (record { event = e; number = n }) stands);
  none_above = λ j n e stands. top j n e (at_pushed history x j (record { event = e; number = n }) stands);
}
  where
    Pushed : ℕ → ℕ → Entry → Type 0
    Pushed j n e = At history j (record { event = e; number = n }) ⊎ ((j ≡ length history) × (x ≡ record { event = e; number = n }))

    number_of : (n : ℕ) (e : Entry) → x ≡ record { event = e; number = n } → n ≡ length log
    number_of n e same = sym (ap (λ (y : NumberedEntry). y.number) same) ∙ number

    order : (i j m n : ℕ) (e f : Entry) → i < j → At history i (record { event = e; number = m }) ⊎ ((i ≡ length history) × (x ≡ record { event = e; number = m }))
        → At history j (record { event = f; number = n }) ⊎ ((j ≡ length history) × (x ≡ record { event = f; number = n })) → m ≤ n
    order i j m n e f less (inl a) (inl b) = h.never_fall i j m n e f less a b
    order i j m n e f less (inl a) (inr b) = let c = h.none_above i m e a in let d = number_of n f b.1 in omega arith
    order i j m n e f less (inr a) (inl b) = absurd (let c = at_below history j (record { event = f; number = n }) b in omega (arith, a.0))
    order i j m n e f less (inr a) (inr b) = absurd (omega (arith, a.0, b.0))

    rise : (i j m n s t : ℕ) (u v : Sector) → i < j → OwnWrites old_drops history i m s u ⊎ ((i ≡ length history) × (x.number ≡ m) × Covers x.event s u × (new_drops (length history) ≡ None))
        → GuestWrites history j n t v ⊎ ((j ≡ length history) × (x.number ≡ n) × Covers x.event t v) → m < n
    rise i j m n s t u v less (inl a) (inl b) = h.issues_rise i j m n s t u v less a b
    rise i j m n s t u v less (inl a) (inr b) = let c = issues t v b.2 i m s u a in omega (arith, b.1)
    rise i j m n s t u v less (inr a) (inl b) = absurd (let c = guest_writes_below history j n t v b in omega (arith, a.0))
    rise i j m n s t u v less (inr a) (inr b) = absurd (omega (arith, a.0, b.0))

    old : (j n : ℕ) (e : Entry) → At history j (record { event = e; number = n }) ⊎ ((j ≡ length history) × (x ≡ record { event = e; number = n })) → opened ≤ n
    old j n e (inl a) = h.since_opening j n e a
    old j n e (inr a) = let d = number_of n e a.1 in omega arith

    top : (j n : ℕ) (e : Entry) → At history j (record { event = e; number = n }) ⊎ ((j ≡ length history) × (x ≡ record { event = e; number = n })) → n ≤ length log
    top j n e (inl a) = h.none_above j n e a
    top j n e (inr a) = let d = number_of n e a.1 in omega arith

pub ends_below : (history : List NumberedEntry) (j e n : ℕ) → GuestEnds history j e n → j < length history
ends_below history j e n h = let b : e < length (events history) = at_below (events history) e (Done h.ends.id) h.ends.done in let l = length_events history in let f = h.ends.later in omega arith

pub open_below : (history : List NumberedEntry) (j : ℕ) → IsOpen (events history) j → j < length history
open_below history j h = let b : j < length (events history) = at_below (events history) j h.event h.stands in let l = length_events history in omega arith

pub guest_writes_old : (history : List NumberedEntry) (x : NumberedEntry) (j n s : ℕ) (v : Sector) → j < length history → GuestWrites (history ++ x ∷ []) j n s v → GuestWrites history j n s v
guest_writes_old history x j n s v below w = elim (guest_writes_pushed history x j n s v w) [ inl k ↦ k | inr k ↦ absurd (omega (arith, k.0)) ]

pub own_writes_old : (old new : ℕ → Option ℕ) (history : List NumberedEntry) (x : NumberedEntry) (j n s : ℕ) (v : Sector) → SameDrops old new (length history) → j < length history → OwnWrites new (history ++ x ∷ []) j n s v → OwnWrites old history j n s v
own_writes_old old new history x j n s v same below w = (guest_writes_old history x j n s v below w.0, sym (same j below) ∙ w.1)
