-- What a crash may leave in the place of a block that is shown is what the guest's history allows.
use Rattle.std.proofs.Common.{ℕ, ◌≡◌, ◌+◌, ◌<◌, ◌≤◌, ◌⊎◌, inl, inr, List, Some, None, Option, Bool, arith, refl, ap, sym, subst, ◌∙◌}
use Rattle.std.proofs.lemmas.Bool.{cases_lt}
use Rattle.vd_lists.proofs.Options.{cases_option}
use Rattle.vd_image.specs.Log.{Sector, Entry, Flush, Ask, Done, Writes, Ends, IsSure, NoneSureFrom, May}
use Rattle.vd_crash.specs.facts.Safe.{NumberedEntry, events, Opening}
use Rattle.vd_crash.specs.facts.Facts.{GuestWrites, GuestEnds, GuestFlushes, IsDrop, OwnWrites, AreDrops, AreNumbers, IsOpened, IsLive, IsFill, IsContent, Stands, Began, IsWhole, IsKept, AreAnswered}
use Rattle.vd_image.proofs.Logs.{writes_one, may_since}
use Rattle.vd_crash.proofs.facts.History.{numbered_at, writes_of, guest_writes_of}

-- the end of a sure write, with its number, and the flush after it
pub sure_ends : (history : List NumberedEntry) (j : ℕ) → (sure : IsSure (events history) j) → (n : ℕ) × GuestEnds history j sure.done n
sure_ends history j sure =
    let end = numbered_at history sure.done (Done sure.ends.id) sure.ends.done in
    (end.0, record { event = Done sure.ends.id; ends = sure.ends; numbered = end.1 })

pub sure_flushes : (history : List NumberedEntry) (j : ℕ) → (sure : IsSure (events history) j) → (n : ℕ) × GuestFlushes history sure.asked n
sure_flushes history j sure =
    let ask = numbered_at history sure.asked (Ask sure.flushes.id Flush) sure.flushes.asked in
    (ask.0, record { event = Ask sure.flushes.id Flush; flushes = sure.flushes; numbered = ask.1 })

-- a sure entry is one of the first `reach`
pub sure_reached : (o : Opening) (log : List Entry) (history : List NumberedEntry) (drops : ℕ → Option ℕ) (stale off_base : ℕ → Bool) (reach j : ℕ)
    → AreAnswered o log drops history stale off_base reach → IsSure (events history) j → j < reach
sure_reached o log history drops stale off_base reach j answered sure =
    let f = sure_flushes history j sure in
    let r = answered.reached sure.asked f.0 f.1 in
    let l = sure.ends.later in
    let b = sure.before in
    omega arith

-- What the place of block b is known by: the facts on both logs, and where its contents stand since when.
pub record IsPlace (o : Opening) (log : List Entry) (history : List NumberedEntry) (drops : ℕ → Option ℕ) (stale off_base : ℕ → Bool) (reach b p since : ℕ) : Type 0 where
  pub numbers : AreNumbers o.opened log drops history
  pub discards : AreDrops o drops history
  pub answered : AreAnswered o log drops history stale off_base reach
  pub stands : Stands o log history drops b p since
  pub newest : (j n : ℕ) → IsDrop drops history j n (o.layout.chunk_of b) → j < reach → n < since

-- A guest's sure write, of entries with these limits, is one of a store write that is sure and comes later; so is none where none is.
-- `from` is an entry such that discards of the chunk from it on have numbers above i, and since is at most i + 1.
pub none_later : (o : Opening) (log : List Entry) (history : List NumberedEntry) (drops : ℕ → Option ℕ) (stale off_base : ℕ → Bool) (reach b p since i k n s : ℕ) (u : Sector)
    → IsPlace o log history drops stale off_base reach b p since → o.layout.block_of s ≡ b → since ≤ i + 1
    → NoneSureFrom log (i + 1) (o.layout.place p s) → GuestWrites history k n s u → IsSure (events history) k
    → ((drops k ≡ None) → IsLive history k → i < n)
    → ((l m : ℕ) → k ≤ l → IsDrop drops history l m (o.layout.chunk_of b) → i < m) → ⊥
none_later o log history drops stale off_base reach b p since i k n s u place block order newest writes sure own later = elim (cases_option (drops k)) [
  | inl ordinary ↦
      let ends = sure_ends history k sure in
      let more : i < n = own ordinary (inl (sure.done, ends.0, ends.1)) in
      elim (place.stands.mirrored k sure.done n ends.0 s u block (writes, ordinary) ends.1) [
        | inl mirrored ↦
            let flush = sure_flushes history k sure in
            let answer = place.answered.flushed sure.asked flush.0 flush.1 in
            let order2 : ends.0 ≤ flush.0 = place.numbers.never_fall sure.done sure.asked ends.0 flush.0 ends.1.event flush.1.event sure.before ends.1.numbered flush.1.numbered in
            newest n u (omega arith) mirrored.1.writes (record { done = mirrored.1.done; asked = answer.0; ends = mirrored.1.ends; before = omega (arith, mirrored.1.before, order2, answer.2); flushes = answer.1 })
        | inr dropped ↦ (let l = later dropped.0 dropped.1 (omega (arith, dropped.3)) dropped.2 in omega (arith, dropped.4))
      ]
  | inr is ↦
      let drop : IsDrop drops history k n is.0 = record { event = writes.event; stands = writes.stands; is = is.1 } in
      let chunk : o.layout.chunk_of (o.layout.block_of s) ≡ is.0 = (place.discards.covers k n n is.0 s u drop writes).0 in
      let chunk_b : is.0 ≡ o.layout.chunk_of b = sym chunk ∙ ap o.layout.chunk_of block in
      let here : IsDrop drops history k n (o.layout.chunk_of b) = subst (λ (c : ℕ). IsDrop drops history k n c) chunk_b drop in
      let m = later k n (omega arith) here in
      let l = place.newest k n here (sure_reached o log history drops stale off_base reach k place.answered sure) in
      omega arith
]

-- a discard that comes after an ordinary write has a higher number
pub drop_after : (o : Opening) (log : List Entry) (history : List NumberedEntry) (drops : ℕ → Option ℕ) (i j l m s : ℕ) (v : Sector)
    → AreNumbers o.opened log drops history → AreDrops o drops history → s < o.layout.size → OwnWrites drops history j i s v → j < l → IsDrop drops history l m (o.layout.chunk_of (o.layout.block_of s)) → i < m
drop_after o log history drops i j l m s v numbers discards within writes after drop =
    numbers.issues_rise j l i m s s v o.zeros after writes (discards.whole l m (o.layout.chunk_of (o.layout.block_of s)) s drop within refl)

-- the content of a guest's ordinary write is allowed where no later store write to the place is sure
pub guest_allowed : (o : Opening) (log : List Entry) (history : List NumberedEntry) (drops : ℕ → Option ℕ) (stale off_base : ℕ → Bool) (reach b p since i j s : ℕ) (v : Sector)
    → IsPlace o log history drops stale off_base reach b p since → o.layout.block_of s ≡ b → s < o.layout.size → since ≤ i + 1
    → NoneSureFrom log (i + 1) (o.layout.place p s) → OwnWrites drops history j i s v → May o.disk (events history) s v
guest_allowed o log history drops stale off_base reach b p since i j s v place block within order newest writes = inr (record {
  at = j;
  writes = writes_of history j i s v writes.0;
  newest = λ k u after w sure.
      let g = guest_writes_of history k s u w in
      none_later o log history drops stale off_base reach b p since i k g.0 s u place block order newest g.1 sure
      (λ ordinary live. place.numbers.issues_rise j k i g.0 s s v u (omega arith) writes g.1)
      (λ l m from drop.
      let here : IsDrop drops history l m (o.layout.chunk_of (o.layout.block_of s)) = subst (λ (y : ℕ). IsDrop drops history l m (o.layout.chunk_of y)) (sym block) drop in
      drop_after o log history drops i j l m s v place.numbers place.discards within writes (omega arith) here);
})

-- what stands in a block that isn't local is allowed where no later store write to the place is sure
pub fill_allowed : (o : Opening) (log : List Entry) (history : List NumberedEntry) (drops : ℕ → Option ℕ) (stale off_base : ℕ → Bool) (reach b p since i s : ℕ) (v : Sector)
    → IsPlace o log history drops stale off_base reach b p since → o.layout.block_of s ≡ b → s < o.layout.size → since ≤ i + 1
    → NoneSureFrom log (i + 1) (o.layout.place p s) → IsFill o drops history i s v → May o.disk (events history) s v
fill_allowed o log history drops stale off_base reach b p since i s v place block within order newest fill = elim fill.value [
  | inl start ↦ inl (record { value = start.1; newest = λ k u after w sure. none k u (omega (arith, start.0)) w sure })
  | inr drop ↦ inr (record {
    at = drop.0;
    writes = writes_of history drop.0 drop.1 s v (subst (λ (y : Sector). GuestWrites history drop.0 drop.1 s y) (sym drop.4) (place.discards.whole drop.0 drop.1 (o.layout.chunk_of (o.layout.block_of s)) s drop.2 within refl));
    newest = λ k u after w sure. none k u (let e = drop.3 in omega arith) w sure;
  })
]
  where
    none : (k : ℕ) (u : Sector) → fill.from ≤ k → Writes (events history) k s u → IsSure (events history) k → ⊥
    none k u from w sure =
        let g = guest_writes_of history k s u w in
        none_later o log history drops stale off_base reach b p since i k g.0 s u place block order newest g.1 sure
        (λ ordinary live. fill.writes k g.0 u from (g.1, ordinary) live)
        (λ l m after drop. fill.later l m (omega arith) (subst (λ (y : ℕ). IsDrop drops history l m (o.layout.chunk_of y)) (sym block) drop))

pub content_allowed : (o : Opening) (log : List Entry) (history : List NumberedEntry) (drops : ℕ → Option ℕ) (stale off_base : ℕ → Bool) (reach b p since i s : ℕ) (v : Sector)
    → IsPlace o log history drops stale off_base reach b p since → o.layout.block_of s ≡ b → s < o.layout.size → since ≤ i + 1
    → NoneSureFrom log (i + 1) (o.layout.place p s) → IsContent o drops history i s v → May o.disk (events history) s v
content_allowed o log history drops stale off_base reach b p since i s v place block within order newest (inl g) =
    guest_allowed o log history drops stale off_base reach b p since i g.0 s v place block within order newest g.1
content_allowed o log history drops stale off_base reach b p since i s v place block within order newest (inr f) =
    fill_allowed o log history drops stale off_base reach b p since i s v place block within order newest f

-- a block that was local at opening
pub began_allowed : (o : Opening) (log : List Entry) (history : List NumberedEntry) (drops : ℕ → Option ℕ) (stale off_base : ℕ → Bool) (reach b p s : ℕ) (v : Sector)
    → IsPlace o log history drops stale off_base reach b p o.opened → IsOpened o log → o.layout.block_of s ≡ b → s < o.layout.size
    → Began o b p → May o.before log (o.layout.place p s) v → May o.disk (events history) s v
began_allowed o log history drops stale off_base reach b p s v place opening block within began may = elim may [
  | inl h ↦ start 0 (omega arith) h.newest (opening.untouched (o.layout.place p s) v h ∙ began.same s block)
  | inr h ↦ elim (cases_lt h.at o.opened) [
    | inl less ↦ start (h.at + 1) (omega arith) h.newest (opening.early h.at (o.layout.place p s) v less h.writes h.newest ∙ began.same s block)
    | inr more ↦ content_allowed o log history drops stale off_base reach b p o.opened h.at s v place block within (omega arith) h.newest (place.stands.later h.at s v block more h.writes)
  ]
]
  where
    start : (i : ℕ) → i ≤ o.opened → NoneSureFrom log i (o.layout.place p s) → v ≡ o.disk s → May o.disk (events history) s v
    start i low newest value = inl (record {
      value = value;
      newest = λ k u after w sure.
          let g = guest_writes_of history k s u w in
          elim (cases_option (drops k)) [
            | inl ordinary ↦
                let ends = sure_ends history k sure in
                elim (place.stands.mirrored k sure.done g.0 ends.0 s u block (g.1, ordinary) ends.1) [
                  | inl mirrored ↦
                      let flush = sure_flushes history k sure in
                      let answer = place.answered.flushed sure.asked flush.0 flush.1 in
                      let order2 : ends.0 ≤ flush.0 = place.numbers.never_fall sure.done sure.asked ends.0 flush.0 ends.1.event flush.1.event sure.before ends.1.numbered flush.1.numbered in
                      let since : o.opened ≤ g.0 = place.numbers.since_opening k g.0 g.1.event g.1.stands in
                      newest g.0 u (omega arith) mirrored.1.writes (record { done = mirrored.1.done; asked = answer.0; ends = mirrored.1.ends; before = omega (arith, mirrored.1.before, order2, answer.2); flushes = answer.1 })
                  | inr dropped ↦ (let l = place.numbers.since_opening dropped.0 dropped.1 dropped.2.event dropped.2.stands in omega (arith, dropped.4))
                ]
            | inr is ↦
                let drop : IsDrop drops history k g.0 is.0 = record { event = g.1.event; stands = g.1.stands; is = is.1 } in
                let chunk : o.layout.chunk_of (o.layout.block_of s) ≡ is.0 = (place.discards.covers k g.0 g.0 is.0 s u drop g.1).0 in
                let chunk_b : is.0 ≡ o.layout.chunk_of b = sym chunk ∙ ap o.layout.chunk_of block in
                let here : IsDrop drops history k g.0 (o.layout.chunk_of b) = subst (λ (c : ℕ). IsDrop drops history k g.0 c) chunk_b drop in
                let l = place.newest k g.0 here (sure_reached o log history drops stale off_base reach k place.answered sure) in
                let since : o.opened ≤ g.0 = place.numbers.since_opening k g.0 g.1.event g.1.stands in
                omega arith
          ];
    })

-- a block that one write wrote whole, and that write is sure
pub written_allowed : (o : Opening) (log : List Entry) (history : List NumberedEntry) (drops : ℕ → Option ℕ) (stale off_base : ℕ → Bool) (reach b p w s : ℕ) (v : Sector)
    → IsPlace o log history drops stale off_base reach b p (w + 1) → o.layout.block_of s ≡ b → s < o.layout.size
    → IsWhole o log history drops b p w → IsSure log w → May o.before log (o.layout.place p s) v → May o.disk (events history) s v
written_allowed o log history drops stale off_base reach b p w s v place block within whole sure may =
    let first = whole s block in
    let source = may_since o.before log w (o.layout.place p s) first.0 v first.1 sure may in
    elim (cases_lt w source.0) [
      | inl more ↦ content_allowed o log history drops stale off_base reach b p (w + 1) source.0 s v place block within (omega arith) source.3 (place.stands.later source.0 s v block (omega arith) source.2)
      | inr less ↦
          let same : source.0 ≡ w = omega (arith, source.1, less) in
          let newest : NoneSureFrom log (w + 1) (o.layout.place p s) = subst (λ (i : ℕ). NoneSureFrom log (i + 1) (o.layout.place p s)) same source.3 in
          let value : first.0 ≡ v = writes_one log w (o.layout.place p s) first.0 v first.1 (subst (λ (i : ℕ). Writes log i (o.layout.place p s) v) same source.2) in
          content_allowed o log history drops stale off_base reach b p (w + 1) w s v place block within (omega arith) newest (subst (λ (x : Sector). IsContent o drops history w s x) value first.2)
    ]

-- what may be left in the place of a block that is shown is allowed
pub shown_allowed : (o : Opening) (log : List Entry) (history : List NumberedEntry) (drops : ℕ → Option ℕ) (stale off_base : ℕ → Bool) (table : ℕ → Option ℕ) (reach b p s : ℕ) (v : Sector)
    → AreNumbers o.opened log drops history → AreDrops o drops history → AreAnswered o log drops history stale off_base reach → IsOpened o log → IsKept o log history drops table b reach 0
    → o.layout.block_of s ≡ b → s < o.layout.size → table (o.layout.chunk_of b) ≡ Some p
    → May o.before log (o.layout.place p s) v → May o.disk (events history) s v
shown_allowed o log history drops stale off_base table reach b p s v numbers discards answered opening kept block within given may =
    let same : p ≡ kept.storage = cc (given, kept.given) in
    let here : May o.before log (o.layout.place kept.storage s) v = subst (λ (q : ℕ). May o.before log (o.layout.place q s) v) same may in
    elim kept.origin [
      | inl h ↦ began_allowed o log history drops stale off_base reach b kept.storage s v (place o.opened h.1) opening block within h.0 here
      | inr h ↦ written_allowed o log history drops stale off_base reach b kept.storage h.0 s v (place (h.0 + 1) h.1) block within h.2 (sure h.0 h.3) here
    ]
  where
    place : (is : ℕ) → kept.since ≡ is → IsPlace o log history drops stale off_base reach b kept.storage is
    place is e = subst (λ (i : ℕ). IsPlace o log history drops stale off_base reach b kept.storage i) e (record { numbers = numbers; discards = discards; answered = answered; stands = kept.stands; newest = kept.newest })

    sure : (w : ℕ) → (IsSure log w) ⊎ ((d : ℕ) × Ends log w d × (d < 0)) → IsSure log w
    sure w (inl k) = k
    sure w (inr k) = absurd (omega (arith, k.2))
