-- Each step of a flush leaves fewer steps to make.
use Rattle.std.proofs.Common.{◌≡◌, ◌≢◌, inl, inr, ℕ, ◌+◌, ◌-◌, ◌*◌, ◌<◌, ◌≤◌, Bool, true, false, cond, List, length, get_or, set, sym, refl, ap, ◌∙◌, arith, Option, Some, None, slice_get, slice_set, is_some}
use Rattle.std.specs.Prelude.{◌&&◌}
use Rattle.std.specs.List.{list_any}
use Rattle.std.proofs.lemmas.Bool.{cases_Bool, false≢true, not_from_true, not_from_false, cond-true, cond-false}
use Rattle.std.proofs.lemmas.List.Folds.{list_any_at}
use Rattle.std.proofs.lemmas.Option.{get_or_from_slice_get, slice_get_within}
use Rattle.vd_law.specs.declared.entry.Answer.{Answer}
use Rattle.vd_bits.specs.Marks.{count_true}
use Rattle.vd_device.specs.declared.ticket.Ticket.{Ticket}
use Rattle.vd_device.specs.declared.settled.Settled.TheVariants as settled
use Rattle.vd_device.specs.declared.store.Store as store
use Rattle.vd_table.specs.Tables.{TableState}
use Rattle.vd_keeper.specs.declared.stage.Stage.{Stage}
use Rattle.vd_keeper.specs.declared.stage.Stage.TheVariants.{Rest, DataFlush, Puts, Syncs, Seals, Broken}
use Rattle.vd_keeper.specs.declared.stage.Way as way
use Rattle.vd_keeper.specs.declared.stage.Way.TheVariants as ways
use Rattle.vd_keeper.specs.declared.stage.Route.{Route}
use Rattle.vd_keeper.specs.declared.stage.Route.TheVariants.{Owed}
use Rattle.vd_keeper.specs.declared.stage.Put.{Put}
use Rattle.vd_keeper.specs.Keeping.{KeeperState, no_marks, pages_of}
use Rattle.vd_keeper.specs.Entries.{chunks_with, next_chunks}
use Rattle.vd_keeper.specs.Flushes.{is_recycle, records_for, last_generation}
use Rattle.vd_keeper.specs.Moves.{HasPutDue, IsNextPut, Next_record, Next_page, Next_header, none_of, after_begin, after_break, after_call, after_seal, after_data, after_put, after_sync, after_owe}
use Rattle.vd_keeper.proofs.Rows.{get_or-nothing}
use Rattle.vd_keeper.proofs.NextChunks.{all-none}
use Rattle.vd_keeper.proofs.Moving.{fewer}
use Rattle.vd_keeper.proofs.Begun.{after-put-in-stage}
use Rattle.vd_keeper.proofs.Laws.{puts-leave}
use Rattle.vd_passes.specs.declared.pass.Pass.{Pass}
use Rattle.vd_passes.specs.declared.pass.Phase.{Phase}
use Rattle.vd_passes.specs.declared.pass.Phase.TheVariants.{Asked, Flushing, Ready}
use Rattle.vd_passes.specs.declared.pass.Fault.TheVariants as fault
use Rattle.vd_passes.specs.Passes.{after_meta, after_fault, after_flush, after_reply}
use Rattle.vd_passes.specs.Requests.{RequestState}
use Rattle.vd_passes.specs.Steps.{Replies}
use Rattle.vd_machine.specs.Flushing.{meta_state, BeginsFlush, IsWornOut, PutsNext, SyncsPuts, SettlesMeta, SealsFlush}
use Rattle.vd_machine.specs.Attending.{HasUnflushedPuts, IsAtStage, KeeperAgrees}
use Rattle.vd_machine.specs.Measures.{puts_left, syncs_left, calls_left, steps_at, flush_steps_in, flush_steps}
use Rattle.vd_lists.proofs.Changes.{slice_set_here}
use Rattle.vd_lists.proofs.Places.{same_member}
use Rattle.vd_machine.proofs.Kept.{record-less}
use Rattle.vd_machine.proofs.Stages.{no-ticket}
use Rattle.vd_machine.proofs.Attended.{at-stage, due-at, worn-asked, sealed-flushing}

-- ---- a put leaves less to put

recycle-way : (w : way.Way) → is_recycle w ≡ true → (t : ℕ) × (w ≡ ways.Recycle t)
recycle-way ways.Nothing is = absurd (false≢true is)
recycle-way ways.Records is = absurd (false≢true is)
recycle-way (ways.Recycle t) is = (t, refl)

-- what is left by a recycle that has still to put its header
module _ (k : KeeperState) (t : ℕ) (recycle : k.way ≡ ways.Recycle t) (head : k.head ≡ false) where
  pages-left : puts_left k.way k ≡ count_true k.marked + 1
  pages-left = ap (λ (w : way.Way). puts_left w k) recycle ∙ cond-false k.head 0 (count_true k.marked + 1) head

  page-syncs : syncs_left k.way k ≡ cond (none_of k.marked && none_of k.put) 1 2
  page-syncs = ap (λ (w : way.Way). syncs_left w k) recycle ∙ cond-false k.head 1 (cond (none_of k.marked && none_of k.put) 1 2) head

one-or-two : (b : Bool) → (1 ≤ cond b 1 2) × (cond b 1 2 ≤ 2)
one-or-two true = (omega arith, omega arith)
one-or-two false = (omega arith, omega arith)

some-marked : (marked : List Bool) (page : ℕ) → slice_get marked page ≡ Some true → none_of marked ≡ false
some-marked marked page is =
    not_from_true (list_any (λ (b : Bool). b) marked) (list_any_at (λ (b : Bool). b) marked page false (slice_get_within marked page true is) (get_or_from_slice_get marked page true false is))

none-nothing : (n : ℕ) → none_of (no_marks n) ≡ true
none-nothing n = not_from_false (list_any (λ (b : Bool). b) (no_marks n)) (all-none (no_marks n) (λ i. get_or-nothing n i))

put-less : (table : TableState) (k k' : KeeperState) (put : Put) → HasPutDue k → IsNextPut table k put k' → calls_left k' + 2 ≤ calls_left k
put-less table k k' put due (Next_record sector records bytes) =
    let less = record-less k (due.records records) in
    let was : puts_left k.way k ≡ records_for (length (chunks_with k.header k.snapshot) - k.logged) = ap (λ (w : way.Way). puts_left w k) records in
    let after : KeeperState = record k { next = k.next + 1; logged = k.logged + length (next_chunks k) } in
    let is : puts_left k.way after ≡ records_for (length (chunks_with k.header k.snapshot) - (k.logged + length (next_chunks k))) = ap (λ (w : way.Way). puts_left w after) records in
    let syncs : syncs_left k.way after ≡ syncs_left k.way k = ap (λ (w : way.Way). syncs_left w after) records ∙ sym (ap (λ (w : way.Way). syncs_left w k) records) in
    omega (arith, less, was, is, syncs)
put-less table k k' put due (Next_page page sector recycle lowest bytes) =
    let w = recycle-way k.way recycle in let head = due.recycle recycle in
    let after : KeeperState = record k { marked = set k.marked page false; put = set k.put page true } in
    let was = pages-left k w.0 w.1 head in
    let is : puts_left k.way after ≡ count_true (set k.marked page false) + 1 = pages-left after w.0 w.1 head in
    let marks = fewer k.marked 0 page lowest in
    let two : syncs_left k.way k ≡ 2 = page-syncs k w.0 w.1 head ∙ ap (λ (b : Bool). cond {A = ℕ} (b && none_of k.put) 1 2) (some-marked k.marked page lowest.is_marked) in
    let most = (one-or-two (none_of (set k.marked page false) && none_of (set k.put page true))).1 in
    let syncs : syncs_left k.way after ≡ cond (none_of (set k.marked page false) && none_of (set k.put page true)) 1 2 = page-syncs after w.0 w.1 head in
    omega (arith, was, is, marks, two, most, syncs)
put-less table k k' put due (Next_header sector recycle none bytes) =
    let w = recycle-way k.way recycle in let head = due.recycle recycle in
    let after : KeeperState = record k { sure = false; head = true } in
    let was = pages-left k w.0 w.1 head in
    let some = (one-or-two (none_of k.marked && none_of k.put)).0 in
    let syncs = page-syncs k w.0 w.1 head in
    let is : puts_left k.way after ≡ 0 = ap (λ (w : way.Way). puts_left w after) w.1 in
    let one : syncs_left k.way after ≡ 1 = ap (λ (w : way.Way). syncs_left w after) w.1 in
    omega (arith, was, some, syncs, is, one)

-- neither the stage nor what is owed matters for what is left
module _ (k : KeeperState) (s : Stage) (owed : List Bool) where
  same-puts : (w : way.Way) → puts_left w (record k { stage = s; owed = owed }) ≡ puts_left w k
  same-puts ways.Nothing = refl
  same-puts ways.Records = refl
  same-puts (ways.Recycle t) = refl

  same-syncs : (w : way.Way) → syncs_left w (record k { stage = s; owed = owed }) ≡ syncs_left w k
  same-syncs ways.Nothing = refl
  same-syncs ways.Records = refl
  same-syncs (ways.Recycle t) = refl

  same-calls : calls_left (record k { stage = s; owed = owed }) ≡ calls_left k
  same-calls = ap (λ (n : ℕ). 2 * n + 2 * syncs_left k.way (record k { stage = s; owed = owed })) (same-puts k.way) ∙ ap (λ (n : ℕ). 2 * puts_left k.way k + 2 * n) (same-syncs k.way)

-- ---- a call that is done

data-less : (k : KeeperState) (s : Stage) (w : way.Way) → steps_at (after_data w) (record k { stage = s }) false < calls_left k + 3
data-less k s ways.Nothing = omega arith
data-less k s ways.Records = omega (arith, same-calls k s k.owed)
data-less k s (ways.Recycle t) = omega (arith, same-calls k s k.owed)

put-done : (k : KeeperState) (s : Stage) → steps_at (after_put k k.way) (record k { stage = s }) false < calls_left k + 3
put-done k s =
    let same = same-calls k s k.owed in
    elim (after-put-in-stage k k.way) [
      | inl puts ↦ (let is = ap (λ (x : Stage). steps_at x (record k { stage = s }) false) puts in omega (arith, is, same))
      | inr syncs ↦ (let is = ap (λ (x : Stage). steps_at x (record k { stage = s }) false) syncs in omega (arith, is, same))
    ]

-- a flush that puts has something to make durable
some-syncs : (k : KeeperState) (w : way.Way) → w ≢ ways.Nothing → 1 ≤ syncs_left w k
some-syncs k ways.Nothing some = absurd (some refl)
some-syncs k ways.Records some = omega arith
some-syncs k (ways.Recycle t) some = elim (cases_Bool k.head) [
  | inl head ↦ (let is = cond-true {A = ℕ} k.head 1 (cond (none_of k.marked && none_of k.put) 1 2) head in omega (arith, is))
  | inr head ↦ (let is = cond-false {A = ℕ} k.head 1 (cond (none_of k.marked && none_of k.put) 1 2) head in let some = (one-or-two (none_of k.marked && none_of k.put)).0 in omega (arith, is, some))
]

module _ (k : KeeperState) (put : HasUnflushedPuts k) (pages : is_recycle k.way ≡ true → k.head ≡ false → none_of k.marked ≡ true) where
  ended : 2 < calls_left k + 1
  ended = let some = some-syncs k k.way put.some in omega (arith, some)

  -- the header comes next
  map-done : (s : Stage) (t : ℕ) → k.way ≡ ways.Recycle t → k.head ≡ false → steps_at Puts (record k { stage = s; put = no_marks (pages_of k.header) }) false < calls_left k + 1
  map-done s t e head =
      let recycle : is_recycle k.way ≡ true = ap is_recycle e in
      let after : KeeperState = record k { stage = s; put = no_marks (pages_of k.header) } in
      let was = pages-left k t e head in
      let is : puts_left k.way after ≡ count_true k.marked + 1 = pages-left after t e head in
      let marks = pages recycle head in
      let two : syncs_left k.way k ≡ 2 = page-syncs k t e head ∙ ap (λ (b : Bool). cond {A = ℕ} (b && none_of k.put) 1 2) marks ∙ ap (λ (b : Bool). cond {A = ℕ} b 1 2) (put.pages recycle head) in
      let one : syncs_left k.way after ≡ 1 =
      page-syncs after t e head ∙ ap (λ (b : Bool). cond {A = ℕ} (b && none_of (no_marks (pages_of k.header))) 1 2) marks ∙ ap (λ (b : Bool). cond {A = ℕ} b 1 2) (none-nothing (pages_of k.header)) in
      omega (arith, was, is, two, one)

  head-done : (s : Stage) (t : ℕ) (head : Bool) → k.way ≡ ways.Recycle t → k.head ≡ head → steps_at (cond {A = Stage} head Seals Puts) (record k { stage = s; put = no_marks (pages_of k.header) }) false < calls_left k + 1
  head-done s t true e is = ended
  head-done s t false e is = map-done s t e is

  sync-done : (s : Stage) (w : way.Way) → k.way ≡ w → steps_at (after_sync k.head w) (record k { stage = s; put = no_marks (pages_of k.header) }) false < calls_left k + 1
  sync-done s ways.Nothing e = ended
  sync-done s ways.Records e = ended
  sync-done s (ways.Recycle t) e = head-done s t k.head e refl

done-less : (k : KeeperState) (s : Stage) (p : Pass) (t : Ticket) → p.ticket ≡ Some t → IsAtStage s k p → steps_at (after_call s k).stage (after_call s k) false < steps_at s k true
unfolding after_call
done-less k DataFlush p t out at = data-less k (after_data k.way) k.way
done-less k Puts p t out at = put-done k (after_put k k.way)
done-less k Syncs p t out at = sync-done k at.0 at.1 (after_sync k.head k.way) k.way refl
done-less k Rest p t out at = absurd at
done-less k Seals p t out at = no-ticket p t at out
done-less k Broken p t out at = absurd at

some-steps : (k : KeeperState) (s : Stage) (p : Pass) (t : Ticket) → p.ticket ≡ Some t → IsAtStage s k p → 1 < steps_at s k true
some-steps k DataFlush p t out at = omega arith
some-steps k Puts p t out at = omega arith
some-steps k Syncs p t out at = let more = ended k at.0 at.1 in omega (arith, more)
some-steps k Rest p t out at = absurd at
some-steps k Seals p t out at = no-ticket p t at out
some-steps k Broken p t out at = absurd at

-- ---- the steps of a pass

-- of one whose flush is under way
flushing-steps : (k : KeeperState) (p : Pass) (s : Stage) (waits : Bool) → p.phase ≡ Flushing → k.stage ≡ s → is_some p.ticket ≡ waits → flush_steps k p ≡ steps_at s k waits
flushing-steps k p s waits phase stage waiting =
    ap (λ (f : Phase). flush_steps_in f k p) phase ∙ ap (λ (x : Stage). steps_at x k (is_some p.ticket)) stage ∙ ap (λ (b : Bool). steps_at s k b) waiting

asked-steps : (k : KeeperState) (p : Pass) → p.phase ≡ Asked → flush_steps k p ≡ steps_at DataFlush (after_begin Owed k) true + 1
asked-steps k p phase = ap (λ (f : Phase). flush_steps_in f k p) phase

-- what stands there before a step, and after it
before : (passes : List Pass) (i : ℕ) (k : KeeperState) (old p : Pass) → slice_get passes i ≡ Some old → slice_get passes i ≡ Some p → flush_steps k p ≡ flush_steps k old
before passes i k old p was there = ap (λ (q : Pass). flush_steps k q) (same_member passes i p old there was)

passes-are : {r r' : RequestState} → r ≡ r' → r.passes ≡ r'.passes
passes-are same = ap (λ (r : RequestState). r.passes) same

after : (r r' : RequestState) (i : ℕ) (k' next : KeeperState) (old new p' : Pass) → slice_get r.passes i ≡ Some old → r'.passes ≡ slice_set r.passes i new → k' ≡ next → slice_get r'.passes i ≡ Some p' → flush_steps k' p' ≡ flush_steps next new
after r r' i k' next old new p' was set_is kept there =
    let is : slice_get r'.passes i ≡ Some new = ap (λ (ps : List Pass). slice_get ps i) set_is ∙ slice_set_here r.passes i new old was in
    ap (λ (q : Pass). flush_steps k' q) (same_member r'.passes i p' new there is) ∙ ap (λ (x : KeeperState). flush_steps x new) kept

-- ---- each step lowers them

pub begin-lowers : {r r' : RequestState} {i : ℕ} {k k' : KeeperState} {S : Type 0} {g : store.Ghosts S} {s s' : S} (p p' : Pass)
    → BeginsFlush g Owed i (meta_state k r) (meta_state k' r') s s' → slice_get r.passes i ≡ Some p → slice_get r'.passes i ≡ Some p' → flush_steps k' p' < flush_steps k p
begin-lowers {r} {r'} {i} {k} {k'} p p' b there there' =
    let old = b.sends.pass in let new = after_meta b.sends.pass b.sends.ticket in
    let was = before r.passes i k old p b.sends.there there in
    let is = after r r' i k' (after_begin Owed k) old new p' b.sends.there (passes-are b.sends.after) b.after there' in
    omega (arith, was, is, asked-steps k old b.asked)

pub worn-lowers : {route : Route} {r r' : RequestState} {i : ℕ} {k : KeeperState} (p p' : Pass)
    → IsWornOut route i k r r' → slice_get r.passes i ≡ Some p → slice_get r'.passes i ≡ Some p' → flush_steps k p' < flush_steps k p
worn-lowers {route} {r} {r'} {i} {k} p p' w there there' =
    let old = w.ends.pass in let new = after_flush w.ends.pass (Some (fault.Worn last_generation)) in
    let was = before r.passes i k old p w.ends.there there in
    let is = after r r' i k k old new p' w.ends.there (passes-are w.ends.after) refl there' in
    omega (arith, was, is, asked-steps k old (worn-asked w.ends))

pub put-lowers : {r r' : RequestState} {i : ℕ} {k k' : KeeperState} {table : TableState} {flusher : Option ℕ} {S : Type 0} {g : store.Ghosts S} {s s' : S} (p p' : Pass)
    → KeeperAgrees r.shape table r.fresh r.passes flusher k → k.stage ≡ Puts → PutsNext g table i (meta_state k r) (meta_state k' r') s s' → slice_get r.passes i ≡ Some p → slice_get r'.passes i ≡ Some p' → flush_steps k' p' < flush_steps k p
put-lowers {r} {r'} {i} {k} {k'} {table} p p' a stage n there there' =
    let old = n.sends.pass in let new = after_meta n.sends.pass n.sends.ticket in
    let was = before r.passes i k old p n.sends.there there in
    let is = after r r' i k' k' old new p' n.sends.there (passes-are n.sends.after) refl there' in
    let waits = flushing-steps k old Puts false n.under_way stage (ap is_some n.sends.none) in
    let left = puts-leave table k k' n.put n.next in
    let sent = flushing-steps k' new Puts true refl (left.stage ∙ stage) refl in
    let less = put-less table k k' n.put (due-at a i old n.sends.there stage n.under_way n.sends.none) n.next in
    omega (arith, was, is, waits, sent, less)

pub sync-lowers : {r r' : RequestState} {i : ℕ} {S : Type 0} {g : store.Ghosts S} {s s' : S} (k : KeeperState) (p p' : Pass)
    → k.stage ≡ Syncs → SyncsPuts g i r r' s s' → slice_get r.passes i ≡ Some p → slice_get r'.passes i ≡ Some p' → flush_steps k p' < flush_steps k p
sync-lowers {r} {r'} {i} k p p' stage s there there' =
    let old = s.sends.pass in let new = after_meta s.sends.pass s.sends.ticket in
    let was = before r.passes i k old p s.sends.there there in
    let is = after r r' i k k old new p' s.sends.there (passes-are s.sends.after) refl there' in
    let waits = flushing-steps k old Syncs false s.under_way stage (ap is_some s.sends.none) in
    let sent = flushing-steps k new Syncs true refl stage refl in
    omega (arith, was, is, waits, sent)

pub done-lowers : {r r' : RequestState} {i : ℕ} {k k' : KeeperState} {table : TableState} {flusher : Option ℕ} {S : Type 0} {g : store.Ghosts S} {s s' : S} (p p' : Pass)
    → KeeperAgrees r.shape table r.fresh r.passes flusher k → SettlesMeta g settled.Done i (meta_state k r) (meta_state k' r') s s' → slice_get r.passes i ≡ Some p → slice_get r'.passes i ≡ Some p' → flush_steps k' p' < flush_steps k p
done-lowers {r} {r'} {i} {k} {k'} p p' a m there there' =
    let s = m.settles in let old = s.pass in let new = record old { ticket = None } in
    let was = before r.passes i k old p s.there there in
    let is = after r r' i k' (after_call k.stage k) old new p' s.there (passes-are s.after) m.after there' in
    let waits = flushing-steps k old k.stage true s.phase refl (ap is_some s.has) in
    let next = flushing-steps (after_call k.stage k) new (after_call k.stage k).stage false s.phase refl refl in
    let less = done-less k k.stage old s.ticket s.has (at-stage a i old s.there s.phase) in
    omega (arith, was, is, waits, next, less)

pub failed-lowers : {r r' : RequestState} {i : ℕ} {k k' : KeeperState} {number : ℕ} {table : TableState} {flusher : Option ℕ} {S : Type 0} {g : store.Ghosts S} {s s' : S} (p p' : Pass)
    → KeeperAgrees r.shape table r.fresh r.passes flusher k → SettlesMeta g (settled.Failed number) i (meta_state k r) (meta_state k' r') s s' → slice_get r.passes i ≡ Some p → slice_get r'.passes i ≡ Some p' → flush_steps k' p' < flush_steps k p
failed-lowers {r} {r'} {i} {k} {k'} p p' a m there there' =
    let s = m.settles in let old = s.pass in let new = after_fault (fault.Store s.ticket.number) old in
    let was = before r.passes i k old p s.there there in
    let is = after r r' i k' (after_break k) old new p' s.there (passes-are s.after) m.after there' in
    let waits = flushing-steps k old k.stage true s.phase refl (ap is_some s.has) in
    let less = some-steps k k.stage old s.ticket s.has (at-stage a i old s.there s.phase) in
    omega (arith, was, is, waits, less)

pub seal-lowers : {r r' : RequestState} {i : ℕ} {k k' : KeeperState} (p p' : Pass)
    → k.stage ≡ Seals → SealsFlush i (meta_state k r) (meta_state k' r') → slice_get r.passes i ≡ Some p → slice_get r'.passes i ≡ Some p' → flush_steps k' p' < flush_steps k p
seal-lowers {r} {r'} {i} {k} {k'} p p' stage s there there' =
    let old = s.ends.pass in let new = after_flush s.ends.pass None in
    let was = before r.passes i k old p s.ends.there there in
    let is = after r r' i k' (after_seal k) old new p' s.ends.there (passes-are s.ends.after) s.after there' in
    let waits = flushing-steps k old Seals false (sealed-flushing s.ends) stage (ap is_some s.ends.none) in
    omega (arith, was, is, waits)

pub reply-lowers : {answer : Answer} {r r' : RequestState} {i : ℕ} (k k' : KeeperState) (p p' : Pass)
    → Replies answer i r r' → slice_get r.passes i ≡ Some p → slice_get r'.passes i ≡ Some p' → p.phase ≡ Ready → flush_steps k' p' < flush_steps k p
reply-lowers {answer} {r} {r'} {i} k k' p p' e there there' ready =
    let is = after r r' i k' k' e.pass (after_reply e.pass) p' e.there (passes-are e.after) refl there' in
    let one = ap (λ (f : Phase). flush_steps_in f k p) ready in
    omega (arith, is, one)

-- ---- what leaves them as they are

-- a call that is late
pub late-leaves : {r r' : RequestState} {i : ℕ} {k k' : KeeperState} {same : Ticket} {S : Type 0} {g : store.Ghosts S} {s s' : S} (p p' : Pass)
    → SettlesMeta g (settled.NotYet same) i (meta_state k r) (meta_state k' r') s s' → slice_get r.passes i ≡ Some p → slice_get r'.passes i ≡ Some p' → flush_steps k' p' ≡ flush_steps k p
late-leaves {r} {r'} {i} {k} {k'} p p' m there there' =
    let s = m.settles in after r r' i k' k s.pass s.pass p' s.there (passes-are s.after) m.after there' ∙ sym (before r.passes i k s.pass p s.there there)

-- a block that comes to be owed while a flush is under way
owed-steps : (k : KeeperState) (owed : List Bool) (s : Stage) (waits : Bool) → steps_at s (record k { owed = owed }) waits ≡ steps_at s k waits
owed-steps k owed Rest waits = refl
owed-steps k owed DataFlush waits = ap (λ (n : ℕ). n + 3) (same-calls k k.stage owed)
owed-steps k owed Puts true = ap (λ (n : ℕ). n + 3) (same-calls k k.stage owed)
owed-steps k owed Puts false = ap (λ (n : ℕ). n + 2) (same-calls k k.stage owed)
owed-steps k owed Syncs true = ap (λ (n : ℕ). n + 1) (same-calls k k.stage owed)
owed-steps k owed Syncs false = ap (λ (n : ℕ). n + 2) (same-calls k k.stage owed)
owed-steps k owed Seals waits = refl
owed-steps k owed Broken waits = refl

pub owing-leaves : (block : ℕ) (k : KeeperState) (p : Pass) → p.phase ≡ Flushing → flush_steps (after_owe block k) p ≡ flush_steps k p
owing-leaves block k p phase =
    let owed : KeeperState = record k { owed = slice_set k.owed block true } in
    elim (cases_Bool (get_or k.stale block false)) [
      | inl stale ↦ ap (λ (x : KeeperState). flush_steps x p) (cond-true (get_or k.stale block false) k owed stale)
      | inr off ↦
          ap (λ (x : KeeperState). flush_steps x p) (cond-false (get_or k.stale block false) k owed off)
          ∙ ap (λ (f : Phase). flush_steps_in f owed p) phase
          ∙ owed-steps k (slice_set k.owed block true) k.stage (is_some p.ticket)
          ∙ sym (ap (λ (f : Phase). flush_steps_in f k p) phase)
    ]
