-- Once a flush was the last, each sector of the disk that the store stands for may stand there by the history.
use Rattle.std.proofs.Common.{◌≡◌, ℕ, ◌+◌, ◌-◌, ◌*◌, ◌/◌, ◌%◌, ◌<◌, ◌≤◌, inl, inr, Bool, true, false, List, length, sym, ◌∙◌, ap, subst, arith, Option, Some, slice_get}
use Rattle.std.specs.List.{Contains}
use Rattle.std.proofs.Math.Nat.{mod-lt}
use Rattle.std.proofs.lemmas.Nat.{div-add-mod'}
use Rattle.std.proofs.lemmas.Bool.{cases_lt}
use Rattle.std.proofs.lemmas.Option.{slice_get-get_or, get_or_from_slice_get}
use Rattle.vd_device.specs.declared.store.Store as store
use Rattle.vd_device.specs.declared.base.Base as base
use Rattle.vd_law.specs.declared.entry.Sector.{Sector}
use Rattle.vd_law.specs.declared.entry.CallId.{CallId}
use Rattle.vd_law.specs.Entries.{Flush, Entry, Done, nothing, past}
use Rattle.vd_law.specs.Contents.{could, last_done}
use Rattle.vd_format.specs.declared.header.Header.{Header}
use Rattle.vd_format.specs.Layouts.{blocks_of, place_of_sector}
use Rattle.vd_format.proofs.Places.{in-place}
use Rattle.vd_image.specs.Log.{Writes, Ends, Flushes, NoneSureFrom}
use Rattle.vd_image.specs.Image.{Geometry, Format, Layout, DiskHas}
use Rattle.vd_image.specs.Layouts.{layout_of}
use Rattle.vd_image.specs.Decoders.{format_of}
use Rattle.vd_image.proofs.NthWrites.{list_of, list_of-fold, nth_writes}
use Rattle.vd_image.proofs.OpenWrites.{done_is}
use Rattle.vd_image.proofs.Layouts.{parts_apart}
use Rattle.vd_image.proofs.Openings.{same_format, same_layout}
use Rattle.vd_replay.specs.Images.{image_of}
use Rattle.vd_passes.specs.Places.{IsIn}
use Rattle.vd_passes.proofs.PlacesGiven.{place-some}
use Rattle.vd_safety.specs.Mirrors.{bit_of, storage_of}
use Rattle.vd_safety.specs.Safely.{opening_from, IsSafelyKept}
use Rattle.vd_safety.specs.Held.{IsFound}
use Rattle.vd_safety.proofs.Calls.{one-ask}
use Rattle.vd_safety.proofs.Found.{held-found, unstale-unsure}
use Rattle.vd_safety.proofs.Stated.{up_there, stored_has}
use Rattle.vd_core.specs.Agreeing.{AgreesWith}
use Rattle.vd_causes.specs.Local.{IsWrittenIn, AreLocalBy}
use Rattle.vd_core.specs.Showing.{EndsFlushed, MayHold, ShowsCould}
use Rattle.vd_machine.specs.Start.{WasSafe}
use Rattle.vd_machine.specs.Views.{View}
use Rattle.vd_machine.specs.Sound.{MetadataAgrees, IsSound}
use Rattle.vd_machine.specs.Telling.{opening_of, base_then, IsStartOf, IsFaithfullyKept}
use Rattle.vd_device.specs.Frames.{GoesOn}
use Rattle.vd_format.specs.Headers.{IsValid}
use Rattle.vd_image.specs.CrashImages.{IsCrashImage}
use Rattle.vd_core.proofs.Agreeing.{told-agrees}
use Rattle.vd_safety.proofs.KeepsWords.{all-inside}
use Rattle.vd_core.proofs.StartingDisk.{sector-block}
use Rattle.vd_format.specs.Background.{background, background_of, base_at, zero_sector}
use Rattle.vd_lists.proofs.Places.{some_place}

listed : (log : List Entry) → list_of (past log) ≡ log
listed log = list_of-fold log nothing

-- a block in which a write is done has a write that such a flush made sure
pub sure-write : (log : List Entry) (a : ℕ) → Flushes log a → ((m : ℕ) (id : CallId) → a ≤ m → slice_get log m ≡ Some (Done id) → ⊥) → (s : ℕ) → 0 < last_done
    (past log) s → NoneSureFrom log 0 s → ⊥
sure-write log a flushes none_done s some none = elim (done_is (past log) s) [
  | inl never ↦ omega (arith, never, some)
  | inr done ↦
      let writes : Writes log done.0 s done.2 = subst (λ (l : List Entry). Writes l done.0 s done.2) (listed log)
      (nth_writes (past log) s (last_done (past log) s) done.0 done.2 done.3) in
      let ends : Ends log done.0 done.1 = subst (λ (l : List Entry). Ends l done.0 done.1) (listed log) done.4 in
      elim (cases_lt done.1 a) [
        | inl before ↦ none done.0 done.2 (omega arith) writes (record { done = done.1; asked = a; ends = ends; before = before; flushes = flushes })
        | inr after ↦ none_done done.1 ends.id after ends.done
      ]
]

module _ {S B : Type 0} {g : store.Ghosts S} {bg : base.Ghosts B} {c : View S B} (kept : IsSound g bg c) (valid : IsValid c.fixed.header)
    (told : IsFaithfullyKept g bg c)
    (local : AreLocalBy c.shape c.fixed.entries c.fresh c.history.log.entries) (was : IsSafelyKept g bg c) (logs : g.records c.store)
    (start : List Sector) (is : IsStartOf g bg c.fixed start) (safe : WasSafe (opening_of g c.fixed) c.fixed.header)
    (ends : EndsFlushed c.history.log.entries) (held : List Sector) (may : MayHold (g.disk c.store) held) where
  abbrev h : Header
  h = c.fixed.header

  abbrev behind_it : List Sector
  behind_it = base_then bg c.fixed

  abbrev entries : List Entry
  entries = c.history.log.entries

  abbrev fresh : List Bool
  fresh = c.fresh

  abbrev chunks : List (Option ℕ)
  chunks = c.table.chunks

  recorded : MetadataAgrees c
  recorded = kept.metadata

  -- the log goes on from the opening's
  on : GoesOn (g.disk c.fixed.store) (g.disk c.store)
  on = kept.since.store.telling.goes_on logs

  left : IsCrashImage (g.disk c.fixed.store).start (g.disk c.store).log held
  left = subst (λ (xs : List Sector). IsCrashImage xs (g.disk c.store).log held) on.start may.left

  inside-start : (i a : ℕ) (v : Sector) → Writes (g.disk c.store).log i a v → a < length (g.disk c.fixed.store).start
  inside-start i a v w = let inside = all-inside kept was logs start is safe i a v w in let size = ap length on.start in omega (arith, inside, size)

  flushes : Flushes entries ends.ask
  flushes = record {
    id = ends.id;
    reply = ends.reply;
    asked = ends.asked;
    replied = ends.replied;
    next = λ m request after before at. (let same = one-ask
        (c.shape.block * c.shape.blocks) entries ends.id ends.ask m Flush request kept.coherent.regular.in_turn ends.asked at in omega (arith, same, after));
    later = ends.later;
  }

  agrees : AgreesWith c.shape c.table fresh start behind_it entries (g.disk c.store)
  agrees = told-agrees kept told start is

  found : (s : ℕ) (v : Sector) → s < h.size → DiskHas (format_of h) (layout_of h) (base_at zero_sector behind_it) zero_sector (image_of held) s v
      → IsFound h behind_it c.table fresh c.keeping held s v
  found = held-found h c.fixed.entries (g.disk c.fixed.store).start (was.secured start is safe).0 behind_it start
      (g.events c.fixed.store) c.table fresh c.keeping c.flusher c.passes c.history (g.disk c.store).log held (was.secured start is safe).1
      (record { size = left.size; each = left.sectors; inside = inside-start })

  -- The shape's numbers are the header's.

  block-same : c.shape.block ≡ h.block
  block-same = recorded.attended.block ∙ ap (λ (g : Geometry). g.block) recorded.same

  chunk-same : c.shape.chunk ≡ h.chunk
  chunk-same = recorded.attended.chunk ∙ ap (λ (g : Geometry). g.chunk) recorded.same

  layout-same : layout_of c.keeping.header ≡ layout_of h
  layout-same = same_layout c.keeping.header h recorded.same

  blocks-same : c.shape.blocks ≡ blocks_of h
  blocks-same = recorded.attended.blocks ∙ ap (λ (l : Layout). l.blocks) layout-same

  module _ (s : ℕ) (v : Sector) (within : s < h.size) where
    abbrev b : ℕ
    b = s / h.block

    some : 0 < h.block
    some = let n = kept.coherent.shaped.some in let same = block-same in omega arith

    in_block : IsIn c.shape.block b s
    in_block = subst (λ (n : ℕ). IsIn n b s) (sym block-same)
        (let parts = div-add-mod' s h.block in let less = mod-lt s some in (omega (arith, parts), omega (arith, parts, less)))

    in_disk : b < c.shape.blocks
    in_disk = let inside = (parts_apart h valid).blocks s within in let same = blocks-same in omega arith

    in_start : s < length start
    in_start = let size = is.size in omega arith

    -- the block is local, with this storage: the store may hold the sector in its place
    stored : (p : ℕ) → storage_of c.table (b / h.chunk) ≡ Some p → bit_of fresh b ≡ true → v ≡ image_of held ((layout_of h).place p s) → Contains
        (could start entries s) v
    stored p given up value =
        let there : slice_get chunks (b / c.shape.chunk) ≡ Some (Some p) = ap (λ (n : ℕ). slice_get chunks (b / n)) chunk-same ∙ stored_has c.table
        (b / h.chunk) p given in
        let placed = place-some c.shape chunks b p there in
        let x : ℕ = c.shape.storage_at + (p * c.shape.chunk + b % c.shape.chunk) * c.shape.block in
        let a : ℕ = x + (s - c.shape.block * b) in
        let inside = (kept.coherent.placed.inside b x placed).1 in let size = left.size in let long = was.size in
        let reached : a < length held = (let block = in_block in omega (arith, inside, size, long, block)) in
        let content : v ≡ image_of held a = value ∙ ap (image_of held) (sym (place-is p)) in
        agrees.held b x s v in_start in_block (up_there fresh b up) placed
        (subst (λ (w : Sector). Contains (could (g.disk c.store).start (g.disk c.store).log a) w) (sym content)
        (may.now a (image_of held a) (slice_get-get_or held a zero_sector reached)))
      where
        place-is : (p : ℕ) → c.shape.storage_at + (p * c.shape.chunk + b % c.shape.chunk) * c.shape.block + (s - c.shape.block * b) ≡ (layout_of h).place p s
        place-is p =
            in-place c.shape.storage_at c.shape.chunk c.shape.block p b s (sector-block c.shape.block b s kept.coherent.shaped.some in_block)
            ∙ ap (λ (n : ℕ). place_of_sector c.shape.storage_at c.shape.chunk n p s) recorded.attended.block
            ∙ ap (λ (chunk : ℕ). place_of_sector c.shape.storage_at chunk c.keeping.header.block p s) recorded.attended.chunk
            ∙ ap (λ (low : ℕ). place_of_sector low c.keeping.header.chunk c.keeping.header.block p s) recorded.attended.storage_at
            ∙ ap (λ (l : Layout). l.place p s) layout-same

    -- the block isn't in every image: then no write in it is done, and it isn't local
    unstale-other : bit_of c.keeping.stale b ≡ false → slice_get fresh b ≡ Some false
    unstale-other unstale =
        let bit = some_place fresh b (let size = kept.coherent.size in let inside = in_disk in omega arith) in
        by bit.0 bit.1
      where
        unwritten : IsWrittenIn c.shape entries b → ⊥
        unwritten w =
            let near : w.0 / h.block ≡ b = sector-block h.block b w.0 some (subst (λ (n : ℕ). IsIn n b w.0) block-same w.1) in
            let secured = was.secured start is safe in
            sure-write entries ends.ask flushes ends.none_done w.0 w.2
            (unstale-unsure (opening_from g bg c.fixed secured.0 start) c.table fresh c.keeping c.flusher c.passes c.history
            (g.disk c.store).log secured.1 w.0 (ap (bit_of c.keeping.stale) near ∙ unstale))

        by : (bit : Bool) → slice_get fresh b ≡ Some bit → slice_get fresh b ≡ Some false
        by false at = at
        by true at = absurd (elim ((local.each b in_disk).0 at) [
          | inl old ↦ (let marked = get_or_from_slice_get c.keeping.stale b true false (recorded.stale b in_disk old) in cc)
          | inr w ↦ unwritten w
        ])

    behind : bit_of c.keeping.stale b ≡ false → v ≡ background (base_at zero_sector behind_it) zero_sector c.keeping.header.tracked s → Contains
        (could start entries s) v
    behind unstale value =
        let same : v ≡ background_of behind_it c.shape.tracked s = value
        ∙ ap (λ (t : ℕ). background_of behind_it t s) (sym recorded.attended.tracked) in
        subst (λ (w : Sector). Contains (could start entries s) w) (sym same) (agrees.behind b s in_start in_block (unstale-other unstale))

    shown : DiskHas (format_of h) (layout_of h) (base_at zero_sector behind_it) zero_sector (image_of held) s v → Contains (could start entries s) v
    shown has = elim (found s v within has) [
      | inl here ↦ stored here.0 here.1 here.2 here.3
      | inr other ↦ behind other.0 other.1
    ]

  pub shows-could : ShowsCould h behind_it start entries held
  shows-could = record {
    each = λ g same s v within has.
        shown s v (let size = ap (λ (z : Geometry). z.size) same in omega arith)
        (subst (λ (f : Format). DiskHas f (layout_of h) (base_at zero_sector behind_it) zero_sector (image_of held) s v) (same_format g h same)
        (subst (λ (l : Layout). DiskHas (format_of g) l (base_at zero_sector behind_it) zero_sector (image_of held) s v) (same_layout g h same) has));
  }
