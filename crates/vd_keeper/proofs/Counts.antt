-- Numbers by which a keeper chooses.
use Rattle.std.proofs.Common.{◌≡◌, ◌⊎◌, ⊎_elim, ℕ, suc, ◌+◌, ◌-◌, ◌*◌, ◌/◌, ◌<◌, ◌≤◌, Bool, true, false, not, cond, List, [], ◌∷◌, length, get_or, drop, Option, Some, None, sym, refl, ap, ◌∙◌, arith}
use Rattle.std.specs.Prelude.{◌||◌, ◌&&◌, nat_lt, is_some, IfSome, IsNone, ◌↔◌}
use Rattle.std.specs.List.{list_any}
use Rattle.std.proofs.lemmas.Bool.{cases_lt, cond-false, cond-true, false_from_ne_true, false≢true, le-ltb, lt-ltb, ltb-true, not-true, not_from_false, not_from_true}
use Rattle.std.proofs.lemmas.List.{length-drop, nil_from_length, get_or_past}
use Rattle.std.proofs.lemmas.List.Sums.{sum_by-cons}
use Rattle.vd_bits.specs.Blocks.{Blocks}
use Rattle.vd_bits.specs.Marks.{count_true}
use Rattle.vd_keeper.specs.declared.keeper.Keeper.TheInside.{Inside}
use Rattle.vd_keeper.specs.declared.stage.Stage.TheVariants.{Rest, Puts, Syncs, Broken}
use Rattle.vd_keeper.specs.declared.stage.Way as way
use Rattle.vd_keeper.specs.declared.stage.Way.TheVariants as ways
use Rattle.vd_keeper.specs.declared.stage.Route as route
use Rattle.vd_keeper.specs.declared.stage.Route.TheVariants as routes
use Rattle.vd_keeper.specs.Keeping.{KeeperState}
use Rattle.vd_keeper.specs.Entries.{union_of, chunks_with}
use Rattle.vd_keeper.specs.Flushes.{records_for, is_recycle}
use Rattle.vd_keeper.specs.Moves.{HasPutDue, way_of, none_of, after_put}
use Rattle.vd_keeper.specs.Sets.{IsNextChunk, chunks_from, chunk_count, marks_of}
use Rattle.vd_keeper.specs.KeeperFields.{keeper_state, IsKeeper}
use Rattle.vd_keeper.proofs.NextChunks.{any-none, all-none, none-from-blocks, skip-chunks, past-chunks, found-none, length-marks_of, block-chunk}
use Rattle.vd_keeper.proofs.Pouring.{unmarked-place}
use Rattle.vd_format.proofs.Rules.{chunk_within}
use Rattle.vd_keeper.proofs.Begun.{owed-later, owed-chunks}

pub any-count : (xs : List Bool) → list_any (λ (x : Bool). x) xs ≡ nat_lt 0 (count_true xs)
any-count [] = refl
any-count (true ∷ xs) =
    let e : count_true (true ∷ xs) ≡ 1 + count_true xs = sum_by-cons (λ (b : Bool). cond {A = ℕ} b 1 0) true xs in
    sym (lt-ltb 0 (count_true (true ∷ xs)) (omega (arith, e)))
any-count (false ∷ xs) =
    let e : count_true (false ∷ xs) ≡ 0 + count_true xs = sum_by-cons (λ (b : Bool). cond {A = ℕ} b 1 0) false xs in
    any-count xs ∙ ap (λ (n : ℕ). nat_lt 0 n) (omega (arith, e))

pub some-counted : (xs : List Bool) → 0 < count_true xs → none_of xs ≡ false
some-counted xs h = not_from_true (list_any (λ (x : Bool). x) xs) (any-count xs ∙ lt-ltb 0 (count_true xs) h)

pub none-counted : (xs : List Bool) → count_true xs ≤ 0 → none_of xs ≡ true
none-counted xs h = not_from_false (list_any (λ (x : Bool). x) xs) (any-count xs ∙ le-ltb 0 (count_true xs) h)

-- a set without chunks has no block, and one without blocks no chunk
pub none-of-set : (b : Blocks) → 0 < b.chunk → length (chunks_from b 0) ≡ 0 → none_of b.bits ≡ true
none-of-set b some e =
    let none = found-none b 0 (nil_from_length (chunks_from b 0) e) in
    not_from_false (list_any (λ (x : Bool). x) b.bits)
    (all-none b.bits
    (λ i. ⊎_elim
    (λ (inside : i < length b.bits). unmarked-place b i some inside (none (i / b.chunk) (omega arith) (omega (arith, block-chunk b i some inside, length-marks_of b))))
    (λ (past : length b.bits ≤ i). get_or_past b.bits i false past)
    (cases_lt i (length b.bits))))

pub some-of-set : (b : Blocks) → (length (chunks_from b 0) ≡ 0 → ⊥) → none_of b.bits ≡ false
some-of-set b ne =
    false_from_ne_true (none_of b.bits)
    (λ (none : none_of b.bits ≡ true).
    let bare = any-none b.bits (not-true (list_any (λ (x : Bool). x) b.bits) none) in
    let nil : chunks_from b 0 ≡ [] = skip-chunks b (chunk_count b) 0 (omega arith) (λ n low high. none-from-blocks b n (λ j h. bare (n * b.chunk + j))) ∙ past-chunks b (0 + chunk_count b) (omega arith) in
    ne (ap (λ (ns : List ℕ). length ns) nil))

-- ---- the way of a flush

pub way-recycle : (asked : route.Route) (k : KeeperState) (t : ℕ) → asked ≡ routes.Recycle t → ways.Recycle t ≡ way_of asked k
unfolding way_of
way-recycle asked k t e = ap (λ (r : route.Route). way_of r k) (sym e)

module _ (asked : route.Route) (k : KeeperState) (owed : asked ≡ routes.Owed) where
  pub way-big : (not k.sure || nat_lt (k.header.slots - k.next) (records_for (length (chunks_with k.header k.owed)))) ≡ true → ways.Recycle k.header.tracked ≡ way_of asked k
  unfolding way_of
  way-big big =
      sym (cond-true (not k.sure || nat_lt (k.header.slots - k.next) (records_for (length (chunks_with k.header k.owed)))) (ways.Recycle k.header.tracked) (cond {A = way.Way} (none_of k.owed) ways.Nothing ways.Records) big)
      ∙ ap (λ (r : route.Route). way_of r k) (sym owed)

  pub way-nothing : (not k.sure || nat_lt (k.header.slots - k.next) (records_for (length (chunks_with k.header k.owed)))) ≡ false → none_of k.owed ≡ true → ways.Nothing ≡ way_of asked k
  unfolding way_of
  way-nothing small none =
      sym
      (cond-false (not k.sure || nat_lt (k.header.slots - k.next) (records_for (length (chunks_with k.header k.owed)))) (ways.Recycle k.header.tracked) (cond {A = way.Way} (none_of k.owed) ways.Nothing ways.Records) small
      ∙ cond-true (none_of k.owed) ways.Nothing ways.Records none)
      ∙ ap (λ (r : route.Route). way_of r k) (sym owed)

  pub way-some : (not k.sure || nat_lt (k.header.slots - k.next) (records_for (length (chunks_with k.header k.owed)))) ≡ false → none_of k.owed ≡ false → ways.Records ≡ way_of asked k
  unfolding way_of
  way-some small some =
      sym
      (cond-false (not k.sure || nat_lt (k.header.slots - k.next) (records_for (length (chunks_with k.header k.owed)))) (ways.Recycle k.header.tracked) (cond {A = way.Way} (none_of k.owed) ways.Nothing ways.Records) small
      ∙ cond-false (none_of k.owed) ways.Nothing ways.Records some)
      ∙ ap (λ (r : route.Route). way_of r k) (sym owed)

-- ---- after a put

-- there are chunks left where a search finds one
pub left-some : (i : Inside) → IsKeeper i → (found : Option ℕ) → IfSome found (IsNextChunk i.snapshot i.from) → (IsNone found → chunks_from i.snapshot i.from ≡ []) → is_some found ≡ nat_lt i.logged (length (chunks_with i.header i.snapshot.bits))
left-some i kept None next none =
    let nil : length (drop i.logged (chunks_with i.header i.snapshot.bits)) ≡ 0 = ap (λ (ns : List ℕ). length ns) (sym kept.rest ∙ none refl) in
    sym (le-ltb i.logged (length (chunks_with i.header i.snapshot.bits)) (omega (arith, nil, length-drop i.logged (chunks_with i.header i.snapshot.bits))))
left-some i kept (Some c) next none =
    let one : length (drop i.logged (chunks_with i.header i.snapshot.bits)) ≡ suc (length (chunks_from i.snapshot (c + 1))) = ap (λ (ns : List ℕ). length ns) (sym kept.rest ∙ next.rest) in
    sym (lt-ltb i.logged (length (chunks_with i.header i.snapshot.bits)) (omega (arith, one, length-drop i.logged (chunks_with i.header i.snapshot.bits))))

pub after-records : (k : KeeperState) (more : Bool) → k.way ≡ ways.Records → more ≡ nat_lt k.logged (length (chunks_with k.header k.snapshot)) → cond more Puts Syncs ≡ after_put k k.way
after-records k more e is = ap (λ (b : Bool). cond b Puts Syncs) is ∙ ap (λ (w : way.Way). after_put k w) (sym e)

pub after-recycle : (k : KeeperState) (t : ℕ) (more : Bool) → k.way ≡ ways.Recycle t → (not k.head && not (none_of k.marked)) ≡ more → cond more Puts Syncs ≡ after_put k k.way
after-recycle k t more e is = ap (λ (b : Bool). cond b Puts Syncs) (sym is) ∙ ap (λ (w : way.Way). after_put k w) (sym e)

some-chunk : (i : Inside) → IsKeeper i → 0 < i.later.chunk
some-chunk i kept = let within = chunk_within i.header kept.keeping.valid in omega (arith, kept.later_chunk, within.0)

-- ---- what is owed at rest

module _ (i : Inside) (kept : IsKeeper i) (rest : (i.stage ≡ Rest) ⊎ (i.stage ≡ Broken)) where
  pub none-owed : length (chunks_from i.later 0) ≡ 0 → none_of (union_of i.later.bits i.snapshot.bits) ≡ true
  none-owed e = ap none_of (owed-later i kept rest) ∙ none-of-set i.later (some-chunk i kept) e

  pub some-owed : (length (chunks_from i.later 0) ≡ 0 → ⊥) → none_of (union_of i.later.bits i.snapshot.bits) ≡ false
  some-owed ne = ap none_of (owed-later i kept rest) ∙ some-of-set i.later ne

  pub fits-or-not : (chunks left : ℕ) → i.sure ≡ true → chunks ≡ length (chunks_from i.later 0) → left ≡ i.header.slots - i.next
      → nat_lt left ((chunks + 23) / 24) ≡ (not i.sure || nat_lt (i.header.slots - i.next) (records_for (length (chunks_with i.header (union_of i.later.bits i.snapshot.bits)))))
  fits-or-not chunks left sure e f =
      let same : chunks ≡ length (chunks_with i.header (union_of i.later.bits i.snapshot.bits)) = e ∙ ap (λ (cs : List ℕ). length cs) (owed-chunks i kept rest) in
      ap (λ (n : ℕ). nat_lt n ((chunks + 23) / 24)) f
      ∙ ap (λ (n : ℕ). nat_lt (i.header.slots - i.next) (records_for n)) same
      ∙ ap (λ (b : Bool). not b || nat_lt (i.header.slots - i.next) (records_for (length (chunks_with i.header (union_of i.later.bits i.snapshot.bits))))) (sym sure)

records-nothing : ways.Records ≡ ways.Nothing → ⊥
records-nothing e = absurd cc

recycle-nothing : (t : ℕ) → ways.Recycle t ≡ ways.Nothing → ⊥
recycle-nothing t e = absurd cc

recycle-no-records : (t : ℕ) → ways.Recycle t ≡ ways.Records → ⊥
recycle-no-records t e = absurd cc

-- ---- what is due

pub due-nothing : (k : KeeperState) → k.way ≡ ways.Nothing → HasPutDue k → ⊥
due-nothing k e due = due.some e

pub due-records : (k : KeeperState) → k.way ≡ ways.Records → k.logged < length (chunks_with k.header k.snapshot) → HasPutDue k
due-records k e more = record {
  some = λ n. records-nothing (sym e ∙ n);
  records = λ _. more;
  recycle = λ r. absurd (false≢true (sym (ap is_recycle e) ∙ r));
}

pub due-recycle : (k : KeeperState) (t : ℕ) → k.way ≡ ways.Recycle t → k.head ≡ false → HasPutDue k
due-recycle k t e none = record {
  some = λ n. recycle-nothing t (sym e ∙ n);
  records = λ r. absurd (recycle-no-records t (sym e ∙ r));
  recycle = λ _. none;
}

-- a search says what is left
pub due-found : (i : Inside) (found : Bool) → i.way ≡ ways.Records → found ≡ nat_lt i.logged (length (chunks_with i.header i.snapshot.bits)) → (found ≡ true) ↔ HasPutDue (keeper_state i)
due-found i found e is = (
  λ yes. due-records (keeper_state i) e (ltb-true i.logged (length (chunks_with i.header i.snapshot.bits)) (sym is ∙ yes)),
  λ due. is ∙ lt-ltb i.logged (length (chunks_with i.header i.snapshot.bits)) (due.records e),
)

pub due-head : (k : KeeperState) (t : ℕ) → k.way ≡ ways.Recycle t → (not k.head ≡ true) ↔ HasPutDue k
due-head k t e = (λ yes. due-recycle k t e (not-true k.head yes), λ due. not_from_false k.head (due.recycle (ap is_recycle e)))
