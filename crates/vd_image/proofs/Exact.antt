-- What a crash may leave in a sector is what the list of the law has.
use Rattle.std.proofs.Common.{ℕ, zero, suc, ◌≡◌, ◌+◌, ◌-◌, ◌<◌, ◌≤◌, ◌⊎◌, ◌↔◌, inl, inr, max, List, [], ◌∷◌, ◌++◌, length, drop, Option, Some, Bool, true, false, arith, refl, ap, sym, subst}
use Rattle.std.specs.Prelude.{slice_get, if◌then◌else◌}
use Rattle.std.specs.List.{Contains, slice_index_or}
use Rattle.std.specs.Option.{option_to_list}
use Rattle.std.proofs.lemmas.Option.{slice_get-get_or}
use Rattle.std.proofs.lemmas.Bool.{cases_lt}
use Rattle.std.proofs.lemmas.List.{length_push}
use Rattle.vd_law.specs.declared.entry.Answer.TheVariants as answers
use Rattle.vd_law.specs.Entries.{Past, nothing, ◌▸◌, past}
use Rattle.vd_law.specs.Calls.{progress, before_ask}
use Rattle.vd_law.specs.Contents.{issued_contents, last_done, is_flushed, firm_after, versions, may}
use Rattle.vd_image.specs.Log.{Sector, CallId, Answer, Fine, Asked, Flush, Entry, Ask, Issue, Done, Broke, Seen, Reply, At, Writes, Ends, Flushes, IsSure, May, IsImage, IsOpen}
use Rattle.vd_image.proofs.Logs.{at_push, at_end, at_below, at_pushed, ends_push, ends_pushed, sure_push}
use Rattle.vd_image.proofs.NthWrites.{list_of, size, list_of-fold, IsNth, nth_writes, writes_nth, nth_within, nth_order, nth_one, nth_at, at_nth}
use Rattle.vd_image.proofs.OpenWrites.{done_below, done_is}
use Rattle.vd_image.proofs.AsksBefore.{before_nth, nth_before, before_ends, ends_before, IsLastAsk, ask_known, known_ask}

pub firm_more : (p : Past) (e : Entry) (s : ℕ) → firm_after p s ≤ firm_after (p ▸ e) s
firm_more p (Ask c request) s = omega arith
firm_more p (Issue c first content) s = omega arith
firm_more p (Done c) s = omega arith
firm_more p (Broke c) s = omega arith
firm_more p (Seen c first content) s = omega arith
firm_more p (Reply c answer) s = go (is_flushed (progress p c).asked answer)
  where
    go : (b : Bool) → firm_after p s ≤ (if b then max (firm_after p s) (last_done (before_ask p c) s) else firm_after p s)
    go true = omega arith
    go false = omega arith

-- a flush that is answered well was so before, or the last entry is its answer
pub flush_new : (p : Past) (e : Entry) (a : ℕ) (h : Flushes (list_of p ++ e ∷ []) a) → Flushes (list_of p) a ⊎ (IsLastAsk p a h.id Flush × (e ≡ Reply h.id Fine))
flush_new p e a h = elim (at_pushed (list_of p) e h.reply (Reply h.id Fine) h.replied) [
  | inl k ↦
      let below = at_below (list_of p) h.reply (Reply h.id Fine) k in
      inl (record { id = h.id; reply = h.reply; later = h.later; replied = k; asked = kept (at_pushed (list_of p) e a (Ask h.id Flush) h.asked) (omega (arith, h.later, below)); next = λ m request after before found. h.next m request after before (at_push (list_of p) e m (Ask h.id request) found) })
  | inr k ↦ inr (
    (
      kept (at_pushed (list_of p) e a (Ask h.id Flush) h.asked) (omega (arith, h.later, k.0)),
      λ m request after found. h.next m request after (let b = at_below (list_of p) m (Ask h.id request) found in omega (arith, k.0)) (at_push (list_of p) e m (Ask h.id request) found),
    ),
    k.1,
  )
]
  where
    kept : {x : Entry} → At (list_of p) a x ⊎ ((a ≡ size p) × (e ≡ x)) → a < size p → At (list_of p) a x
    kept (inl b) less = b
    kept (inr b) less = absurd (omega (arith, b.0))

pub sure_below : (p : Past) (s n i : ℕ) (v : Sector) → IsNth p s n i v → IsSure (list_of p) i → n ≤ firm_after p s
sure_below nothing s n i v h sure = absurd h
sure_below (p ▸ e) s n i v (inr h) sure = absurd (
    let l = length_push (list_of p) e in
    let b = at_below (list_of p ++ e ∷ []) sure.asked (Ask sure.flushes.id Flush) sure.flushes.asked in
    let a = sure.ends.later in omega (arith, h.0, sure.before))
sure_below (p ▸ e) s n i v (inl h) sure = elim (flush_new p e sure.asked sure.flushes) [
  | inl old ↦
      let asked_below = at_below (list_of p) sure.asked (Ask old.id Flush) old.asked in
      let m = firm_more p e s in
      let was = sure_below p s n i v h (record { done = sure.done; asked = sure.asked; before = sure.before; flushes = old; ends = old_ends asked_below (ends_pushed (list_of p) e i sure.done sure.ends) }) in
      omega arith
  | inr new ↦
      let below = at_below (list_of p) sure.asked (Ask sure.flushes.id Flush) new.0.0 in
      let known = ask_known p sure.asked sure.flushes.id Flush new.0 in
      let ends = old_ends below (ends_pushed (list_of p) e i sure.done sure.ends) in
      let at_ask = done_below (before_ask p sure.flushes.id) s n i sure.done v
      (nth_before p (before_ask p sure.flushes.id) sure.asked s n i v known.1 (omega (arith, ends.later, sure.before)) h)
      (ends_before p (before_ask p sure.flushes.id) sure.asked i sure.done known.1 sure.before ends) in
      let firm : firm_after (p ▸ Reply sure.flushes.id Fine) s ≡ max (firm_after p s) (last_done (before_ask p sure.flushes.id) s) =
      ap (λ (r : Option Asked). if is_flushed r Fine then max (firm_after p s) (last_done (before_ask p sure.flushes.id) s) else firm_after p s) known.0 in
      subst (λ (x : Entry). n ≤ firm_after (p ▸ x) s) (sym new.1) (omega arith)
]
  where
    old_ends : sure.asked < size p → Ends (list_of p) i sure.done ⊎ ((sure.done ≡ size p) × ((k : IsOpen (list_of p) i) × (e ≡ Done k.id))) → Ends (list_of p) i sure.done
    old_ends below (inl old) = old
    old_ends below (inr new) = absurd (omega (arith, new.0, sure.before))

abbrev pub IsSureNth : Past → ℕ → ℕ → Type 0
IsSureNth p s n = (i : ℕ) × (v : Sector) × IsNth p s n i v × IsSure (list_of p) i

pub firm_is : (p : Past) (s : ℕ) → (firm_after p s ≡ 0) ⊎ IsSureNth p s (firm_after p s)
firm_is nothing s = inl refl
firm_is (p ▸ e) s = by_entry (firm_is p s) e
  where
    old : (firm_after p s ≡ 0) ⊎ IsSureNth p s (firm_after p s) → (e : Entry) → (firm_after p s ≡ 0) ⊎ IsSureNth (p ▸ e) s (firm_after p s)
    old before e = elim before [ inl none ↦ inl none | inr h ↦ inr (h.0, h.1, inl h.2, sure_push (list_of p) e h.0 h.3) ]

    greater : (e : Entry) (a b : ℕ) → (a ≡ 0) ⊎ IsSureNth (p ▸ e) s a → (b ≡ 0) ⊎ IsSureNth (p ▸ e) s b → (max a b ≡ 0) ⊎ IsSureNth (p ▸ e) s (max a b)
    greater e a b h k = elim (cases_lt a b) [
      | inl less ↦ (let same : b ≡ max a b = omega arith in subst (λ (n : ℕ). (n ≡ 0) ⊎ IsSureNth (p ▸ e) s n) same k)
      | inr more ↦ (let same : a ≡ max a b = omega arith in subst (λ (n : ℕ). (n ≡ 0) ⊎ IsSureNth (p ▸ e) s n) same h)
    ]

    flushed : (c : CallId) (answer : Answer) → (progress p c).asked ≡ Some Flush → answer ≡ Fine → (last_done (before_ask p c) s ≡ 0) ⊎ IsSureNth (p ▸ Reply c answer) s (last_done (before_ask p c) s)
    flushed c answer asked fine =
        let ask = known_ask p c Flush asked in
        let known = ask_known p ask.0 c Flush ask.1 in
        elim (done_is (before_ask p c) s) [
          | inl none ↦ inl none
          | inr h ↦
              let ends = before_ends p (before_ask p c) ask.0 h.0 h.1 known.1 h.4 in
              let nth = before_nth p (before_ask p c) ask.0 s (last_done (before_ask p c) s) h.0 h.2 known.1 h.3 in
              let asked_below = at_below (list_of p) ask.0 (Ask c Flush) ask.1.0 in
              inr (
                h.0,
                h.2,
                inl nth,
                record {
                  done = h.1;
                  asked = ask.0;
                  ends = ends_push (list_of p) (Reply c answer) h.0 h.1 ends.0;
                  before = ends.1;
                  flushes = record {
                    id = c;
                    reply = size p;
                    asked = at_push (list_of p) (Reply c answer) ask.0 (Ask c Flush) ask.1.0;
                    replied = subst (λ (x : Answer). At (list_of p ++ Reply c answer ∷ []) (size p) (Reply c x)) fine (at_end (list_of p) (Reply c answer));
                    later = asked_below;
                    next = λ m request after before found. elim (at_pushed (list_of p) (Reply c answer) m (Ask c request) found) [ inl k ↦ ask.1.1 m request after k | inr k ↦ absurd (let e = k.1 in cc) ];
                  };
                },
              )
        ]

    is_flush : (r : Option Asked) (answer : Answer) → is_flushed r answer ≡ true → (r ≡ Some Flush) × (answer ≡ Fine)
    is_flush (Some Flush) answers.Ok is = (refl, refl)
    is_flush _ _ is = absurd cc

    replied : (c : CallId) (answer : Answer) → (firm_after p s ≡ 0) ⊎ IsSureNth p s (firm_after p s) → (b : Bool) → is_flushed (progress p c).asked answer ≡ b
        → ((if b then max (firm_after p s) (last_done (before_ask p c) s) else firm_after p s) ≡ 0) ⊎ IsSureNth (p ▸ Reply c answer) s (if b then max (firm_after p s) (last_done (before_ask p c) s) else firm_after p s)
    replied c answer before true is =
        let f = is_flush (progress p c).asked answer is in
        greater (Reply c answer) (firm_after p s) (last_done (before_ask p c) s) (old before (Reply c answer)) (flushed c answer f.0 f.1)
    replied c answer before false is = old before (Reply c answer)

    by_entry : (firm_after p s ≡ 0) ⊎ IsSureNth p s (firm_after p s) → (e : Entry) → (firm_after (p ▸ e) s ≡ 0) ⊎ IsSureNth (p ▸ e) s (firm_after (p ▸ e) s)
    by_entry before (Ask c request) = old before (Ask c request)
    by_entry before (Issue c first content) = old before (Issue c first content)
    by_entry before (Done c) = old before (Done c)
    by_entry before (Broke c) = old before (Broke c)
    by_entry before (Seen c first content) = old before (Seen c first content)
    by_entry before (Reply c answer) = replied c answer before (is_flushed (progress p c).asked answer) refl

-- the list of the law

pub at_contains : (xs : List Sector) (k : ℕ) (v : Sector) → At xs k v → Contains xs v
at_contains xs k v at = (k, at_below xs k v at, index xs k at)
  where
    index : (ys : List Sector) (j : ℕ) → At ys j v → slice_index_or ys j v ≡ v
    index [] j h = absurd cc
    index (y ∷ ys) zero h = cc
    index (y ∷ ys) (suc j) h = index ys j h

pub contains_at : (xs : List Sector) (v : Sector) → Contains xs v → (k : ℕ) × At xs k v
contains_at xs v h = (h.0, found xs h.0 h.1 h.2)
  where
    found : (ys : List Sector) (j : ℕ) → j < length ys → slice_index_or ys j v ≡ v → At ys j v
    found [] j below is = absurd (omega (arith, below))
    found (y ∷ ys) zero below is = ap Some is
    found (y ∷ ys) (suc j) below is = found ys j (omega arith) is

pub at_dropped : (n : ℕ) (xs : List Sector) (k j : ℕ) (v : Sector) → n + k ≡ j → At (drop n xs) k v → At xs j v
at_dropped zero xs k j v sum at = let same : k ≡ j = omega (arith, sum) in subst (λ (i : ℕ). At xs i v) same at
at_dropped (suc n) [] k j v sum at = absurd cc
at_dropped (suc n) (x ∷ xs) k zero v sum at = absurd (omega (arith, sum))
at_dropped (suc n) (x ∷ xs) k (suc j) v sum at = at_dropped n xs k j v (omega (arith, sum)) at

pub dropped_at : (n : ℕ) (xs : List Sector) (k j : ℕ) (v : Sector) → n + k ≡ j → At xs j v → At (drop n xs) k v
dropped_at zero xs k j v sum at = let same : j ≡ k = omega (arith, sum) in subst (λ (i : ℕ). At xs i v) same at
dropped_at (suc n) [] k j v sum at = absurd cc
dropped_at (suc n) (x ∷ xs) k zero v sum at = absurd (omega (arith, sum))
dropped_at (suc n) (x ∷ xs) k (suc j) v sum at = dropped_at n xs k j v (omega (arith, sum)) at

-- what the law lists is the content at the start, where nothing is sure, or that of a write that no later sure one passed over
pub listed : (held : ℕ → Sector) (p : Past) (s k : ℕ) (v : Sector) → firm_after p s ≤ k → At (held s ∷ issued_contents p s) k v → May held (list_of p) s v
listed held p s zero v firm at = inl (record {
  value = (let same : held s ≡ v = cc in sym same);
  newest = λ j u from w sure.
      let nth = writes_nth p s j u w in
      let most = sure_below p s nth.0 j u nth.1 sure in
      let within = nth_within p s nth.0 j u nth.1 in
      omega (arith, within.1);
})
listed held p s (suc k) v firm at =
    let h = at_nth p s k v at in
    inr (record {
      at = h.0;
      writes = nth_writes p s (k + 1) h.0 v h.1;
      newest = λ j u from w sure.
          let nth = writes_nth p s j u w in
          let most = sure_below p s nth.0 j u nth.1 sure in
          let more = nth_order p s (k + 1) nth.0 h.0 j v u h.1 nth.1 (omega arith) in
          omega arith;
    })

-- and each such content is listed
pub in_list : (held : ℕ → Sector) (p : Past) (s : ℕ) (v : Sector) → May held (list_of p) s v → (k : ℕ) × (firm_after p s ≤ k) × At (held s ∷ issued_contents p s) k v
in_list held p s v (inl h) = (0, none (firm_is p s), let same = h.value in cc)
  where
    none : (firm_after p s ≡ 0) ⊎ IsSureNth p s (firm_after p s) → firm_after p s ≤ 0
    none (inl zero_is) = omega arith
    none (inr k) = absurd (h.newest k.0 k.1 (omega arith) (nth_writes p s (firm_after p s) k.0 k.1 k.2) k.3)
in_list held p s v (inr h) = (nth.0, most (firm_is p s), listed_at nth.0 nth.1 within.1)
  where
    nth : (n : ℕ) × IsNth p s n h.at v
    nth = writes_nth p s h.at v h.writes

    within : (h.at < size p) × (1 ≤ nth.0) × (nth.0 ≤ length (issued_contents p s))
    within = nth_within p s nth.0 h.at v nth.1

    listed_at : (n : ℕ) → IsNth p s n h.at v → 1 ≤ n → At (held s ∷ issued_contents p s) n v
    listed_at zero is some = absurd (omega (arith, some))
    listed_at (suc n) is some = nth_at p s n h.at v (let same : suc n ≡ n + 1 = omega arith in subst (λ (m : ℕ). IsNth p s m h.at v) same is)

    most : (firm_after p s ≡ 0) ⊎ IsSureNth p s (firm_after p s) → firm_after p s ≤ nth.0
    most (inl zero_is) = omega arith
    most (inr k) = elim (cases_lt h.at k.0) [
      | inl later ↦ absurd (h.newest k.0 k.1 (omega arith) (nth_writes p s (firm_after p s) k.0 k.1 k.2) k.3)
      | inr not_later ↦ elim (cases_lt k.0 h.at) [
        | inl before ↦ (let order = nth_order p s (firm_after p s) nth.0 k.0 h.at k.1 v k.2 nth.1 before in omega arith)
        | inr not_before ↦
            let same : k.0 ≡ h.at = omega arith in
            let one = nth_one p s (firm_after p s) nth.0 h.at k.1 v (subst (λ (i : ℕ). IsNth p s (firm_after p s) i k.1) same k.2) nth.1 in
            omega arith
      ]
    ]

-- A crash may leave a content in a sector exactly where the list of the law has it.
pub may_is_exact : (start : List Sector) (held : ℕ → Sector) (log : List Entry) (s : ℕ) (v : Sector) → slice_get start s ≡ Some (held s) → Contains (may start log s) v ↔ May held log s v
may_is_exact start held log s v there = (
  (λ h.
      let at = contains_at (may start log s) v h in
      let here = at_dropped (firm_after (past log) s) (versions start (past log) s) at.0 (firm_after (past log) s + at.0) v refl at.1 in
      subst (λ (l : List Entry). May held l s v) (list_of-fold log nothing) (listed held (past log) s (firm_after (past log) s + at.0) v (omega arith) (subst (λ (xs : List Sector). At xs (firm_after (past log) s + at.0) v) all here))),
  (λ h.
      let k = in_list held (past log) s v (subst (λ (l : List Entry). May held l s v) (sym (list_of-fold log nothing)) h) in
      let rest : firm_after (past log) s + (k.0 - firm_after (past log) s) ≡ k.0 = omega (arith, k.1) in
      at_contains (may start log s) (k.0 - firm_after (past log) s) v
      (dropped_at (firm_after (past log) s) (versions start (past log) s) (k.0 - firm_after (past log) s) k.0 v rest
      (subst (λ (xs : List Sector). At xs k.0 v) (sym all) k.2))),
)
  where
    all : versions start (past log) s ≡ held s ∷ issued_contents (past log) s
    all = ap (λ (x : Option Sector). option_to_list x ++ issued_contents (past log) s) there

-- some content may always be left
pub some_left : (held : ℕ → Sector) (log : List Entry) (s : ℕ) → (v : Sector) × May held log s v
some_left held log s =
    let at = at_inside (held s) (held s ∷ issued_contents (past log) s) (firm_after (past log) s) below in
    let left = listed held (past log) s (firm_after (past log) s) (slice_index_or (held s ∷ issued_contents (past log) s) (firm_after (past log) s) (held s)) (omega arith) at in
    (slice_index_or (held s ∷ issued_contents (past log) s) (firm_after (past log) s) (held s), subst (λ (l : List Entry). May held l s (slice_index_or (held s ∷ issued_contents (past log) s) (firm_after (past log) s) (held s))) (list_of-fold log nothing) left)
  where
    at_inside : (other : Sector) (xs : List Sector) (i : ℕ) → i < length xs → At xs i (slice_index_or xs i other)
    at_inside other xs i less = slice_get-get_or xs i other less

    below : firm_after (past log) s < length (held s ∷ issued_contents (past log) s)
    below = elim (firm_is (past log) s) [ inl none ↦ omega arith | inr sure ↦ (let k = nth_within (past log) s (firm_after (past log) s) sure.0 sure.1 sure.2 in omega arith) ]

-- and so some image
pub some_image : (held : ℕ → Sector) (log : List Entry) → (image : ℕ → Sector) × IsImage held log image
some_image held log = ((λ s. (some_left held log s).0), λ s. (some_left held log s).1)

-- An image is one that a crash may leave where the law's lists have each of its sectors.
pub image_is_left : (start : List Sector) (held : ℕ → Sector) (log : List Entry) (image : ℕ → Sector) → ((s : ℕ) → s < length start → slice_get start s ≡ Some (held s))
    → ((i s : ℕ) (v : Sector) → Writes log i s v → s < length start)
    → ((s : ℕ) → s < length start → Contains (may start log s) (image s)) → ((s : ℕ) → length start ≤ s → image s ≡ held s) → IsImage held log image
image_is_left start held log image there inside listed_all past_end = λ s. elim (cases_lt s (length start)) [
  | inl within ↦ (may_is_exact start held log s (image s) (there s within)).0 (listed_all s within)
  | inr outside ↦ inl (record { value = past_end s outside; newest = λ j v from w sure. let b = inside j s v w in omega arith })
]
