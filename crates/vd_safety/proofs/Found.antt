-- Where a sector of an image that a crash may leave is found: in the storage that its block has now, or behind the image.
use Rattle.std.proofs.Common.{ℕ, ◌≡◌, ◌<◌, ◌≤◌, ◌⊎◌, inl, inr, Bool, true, false, List, Option, Some, ap, refl, sym, ◌∙◌, subst}
use Rattle.std.specs.Prelude.{if◌then◌else◌}
use Rattle.vd_law.specs.declared.entry.Sector.{Sector}
use Rattle.vd_law.specs.Entries.{Entry}
use Rattle.vd_law.specs.Histories.{HistoryState}
use Rattle.vd_format.specs.declared.header.Header.{Header}
use Rattle.vd_table.specs.Tables.{TableState}
use Rattle.vd_image.specs.Log.{NoneSureFrom, May, IsImage}
use Rattle.vd_image.specs.Image.{Header as ImageHeader, Mapping, DiskHas, unmapped_sector}
use Rattle.vd_image.specs.Layouts.{layout_of}
use Rattle.vd_image.specs.Decoders.{Entry as MapEntry, format_of}
use Rattle.vd_image.specs.CrashImages.{sectors_or}
use Rattle.vd_crash.specs.facts.Safe.{NumberedEntry, Opening, events}
use Rattle.vd_crash.specs.facts.Facts.{IsDrop, IsClaimSettled, Holds}
use Rattle.vd_crash.proofs.facts.Histories.{events_numbered}
use Rattle.vd_crash.proofs.facts.Recovered.{mapped, due_has, local_by, header_order, start_left}
use Rattle.vd_crash.specs.primitives.Primitives.{State}
use Rattle.vd_crash.specs.primitives.Keeping.{KeepsCrashSafety}
use Rattle.vd_replay.specs.Images.{image_of}
use Rattle.vd_keeper.specs.Keeping.{KeeperState}
use Rattle.vd_passes.specs.declared.pass.Pass.{Pass}
use Rattle.vd_safety.specs.Mirrors.{core_state, IsUndiscarded, bit_of, storage_of, opening_for, HasSafeMirror}
use Rattle.vd_safety.specs.Held.{IsHeldNow, IsFound}
use Rattle.vd_safety.proofs.Held.{held_image}
use Rattle.vd_format.specs.Background.{background, base_at, zero_sector}
use Rattle.vd_crash.specs.facts.Memory.{Memory}
use Rattle.vd_crash.specs.facts.Metadata.{Local}

is_false : (x : Bool) → (x ≡ true → ⊥) → x ≡ false
is_false true h = absurd (h refl)
is_false false h = refl

-- ---- in the laws' words

-- a local block's sector stands in the storage that memory gives it; another block's has the background by the kept header, and isn't stale
abbrev FoundBy : Opening → Memory → (ℕ → Sector) → (s : ℕ) → (v : Sector) → Type 0
FoundBy o m image s v =
    ((p : ℕ) × (m.index.table (o.layout.chunk_of (o.layout.block_of s)) ≡ Some p) × (m.fresh (o.layout.block_of s) ≡ true) × (v ≡ image (o.layout.place p s)))
    ⊎ ((m.index.stale (o.layout.block_of s) ≡ false) × (v ≡ background o.base o.zeros m.index.tracked s))

by_kind : (o : Opening) (w : Mapping) (tracked s : ℕ) → w.zeros ≡ false → unmapped_sector o.base o.zeros tracked w s ≡ background o.base o.zeros tracked s
by_kind o w tracked s base = ap (λ (y : Bool). if y then o.zeros else background o.base o.zeros tracked s) base

found_by : (o : Opening) (log : List Entry) (history : List NumberedEntry) (m : Memory) → Holds o log history m → IsUndiscarded m.discards → ((b : ℕ) → m.index.off_base b ≡ m.index.stale b) → ((b : ℕ) → m.index.tried b ≡ false) → (image : ℕ → Sector) → IsImage o.before log image
    → (s : ℕ) (v : Sector) → s < o.layout.size → DiskHas o.format o.layout o.base o.zeros image s v → FoundBy o m image s v
found_by o log history m holds undiscarded same_off untried image is_image s v within disk =
    let metadata = holds.facts.metadata in
    let kept = metadata.header_known (image o.layout.header_at) (is_image o.layout.header_at) in
    let same : disk.header ≡ kept.header = cc (disk.reads, kept.reads) in
    let order : m.index.generation ≤ disk.header.generation = subst (λ (y : ImageHeader). m.index.generation ≤ y.generation) (sym same) (header_order o (May o.before log) m.index (image o.layout.header_at) kept) in
    let right = mapped o (May o.before log) (IsClaimSettled o log history m m.discards.reach) m.index image disk.header (o.layout.chunk_of (o.layout.block_of s)) disk.mapping metadata is_image disk.reads order disk.maps in
    elim disk.has [
      | inl h ↦ inl (h.0, right.storage_agrees h.0 h.1.0, known (right.blocks_settled (o.layout.block_of s) h.1.1).1, h.2)
      | inr h ↦
          let not_has : disk.mapping.has (o.layout.block_of s) ≡ true → ⊥ = λ has. (let l = local_by o (IsClaimSettled o log history m m.discards.reach) m.index.table (o.layout.chunk_of (o.layout.block_of s)) (o.layout.block_of s) disk.mapping right has in h.0 l.0 l.1) in
          let unstale : m.index.stale (o.layout.block_of s) ≡ false = is_false (m.index.stale (o.layout.block_of s))
          (λ stale. not_has (due_has o (May o.before log) (IsClaimSettled o log history m m.discards.reach) m.index image disk.header (Local (o.layout.block_of s)) disk.mapping metadata is_image disk.reads order stale disk.maps)) in
          let start : background o.base o.zeros disk.header.tracked s ≡ o.disk s = elim (kept.background s within (same_off (o.layout.block_of s) ∙ unstale)) [
            | inl e ↦ ap (λ (y : ImageHeader). background o.base o.zeros y.tracked s) same ∙ e
            | inr next ↦ absurd (let tried = next.1 in let never = untried (o.layout.block_of s) in cc)
          ] in
          inr (unstale, h.1 ∙ by_kind o disk.mapping disk.header.tracked s (is_false disk.mapping.zeros (λ zeros. let is = right.kind_settled zeros in let none = undiscarded.zeros (o.layout.chunk_of (o.layout.block_of s)) in cc)) ∙ start ∙ sym (holds.blocks.background_same s within (same_off (o.layout.block_of s) ∙ unstale)))
    ]
  where
    known : (m.fresh (o.layout.block_of s) ≡ true) ⊎ ((j : ℕ) × (n : ℕ) × IsDrop m.discards.drops history j n (o.layout.chunk_of (o.layout.block_of s))) → m.fresh (o.layout.block_of s) ≡ true
    known (inl is) = is
    known (inr dropped) = absurd (let none = undiscarded.drops dropped.0 in let is = dropped.2.is in cc)

kept_holds : (o : Opening) (s : State) → KeepsCrashSafety o s → Holds o s.log s.history s.memory
unfolding KeepsCrashSafety
kept_holds o s kept = kept.core.holds

-- ---- of a core

module _ (o : Opening) (table : TableState) (fresh : List Bool) (k : KeeperState) (flusher : Option ℕ) (passes : List Pass) (history : HistoryState) (log : List Entry) (secured : HasSafeMirror o (core_state table fresh k flusher passes history) log) where
  holds : Holds o secured.state.log secured.state.history secured.state.memory
  holds = kept_holds o secured.state secured.keeps

  -- No write in a block that isn't stale was made sure by a flush.
  pub unstale-unsure : (x : ℕ) → bit_of k.stale (o.layout.block_of x) ≡ false → NoneSureFrom history.log.entries 0 x
  unstale-unsure x unstale =
      let same : events secured.state.history ≡ history.log.entries = ap events secured.mirrors.history_is ∙ events_numbered history.log.entries history.numbers secured.mirrors.many in
      let not : secured.state.memory.index.off_base (o.layout.block_of x) ≡ true → ⊥ = λ off. (let is = secured.mirrors.off_base (o.layout.block_of x) in cc) in
      subst (λ (es : List Entry). NoneSureFrom es 0 x) same (start_left o secured.state.log secured.state.history secured.state.memory x holds.facts not)

  secured-found : (image : ℕ → Sector) → IsImage o.before log image → (x : ℕ) (v : Sector) → x < o.layout.size → DiskHas o.format o.layout o.base o.zeros image x v
      → ((p : ℕ) × (storage_of table (o.layout.chunk_of (o.layout.block_of x)) ≡ Some p) × (bit_of fresh (o.layout.block_of x) ≡ true) × (v ≡ image (o.layout.place p x)))
      ⊎ ((bit_of k.stale (o.layout.block_of x) ≡ false) × (v ≡ background o.base o.zeros k.header.tracked x))
  secured-found image left x v within disk =
      let m = secured.mirrors in let b = o.layout.block_of x in
      let untried : (c : ℕ) → secured.state.memory.index.tried c ≡ false = m.tried in
      elim (found_by o secured.state.log secured.state.history secured.state.memory holds m.undiscarded (λ c. m.off_base c ∙ sym (m.stale c)) untried image (subst (λ (l : List Entry). IsImage o.before l image) (sym m.log_is) left) x v within disk) [
        | inl here ↦ inl (here.0, sym (m.storage (o.layout.chunk_of b)) ∙ here.1, sym (m.fresh_is b) ∙ here.2, here.3)
        | inr behind ↦ inr (sym (m.stale b) ∙ behind.0, behind.1 ∙ ap (λ (t : ℕ). background o.base o.zeros t x) m.tracked)
      ]

-- Each sector of the disk that a held image stands for is found there.
pub held-found : (h : Header) (entries : List MapEntry) (before : List Sector) (held : ℕ → Sector) (base disk : List Sector) (opened : ℕ) (table : TableState) (fresh : List Bool) (k : KeeperState) (flusher : Option ℕ) (passes : List Pass) (history : HistoryState) (log : List Entry) (now : List Sector)
    → HasSafeMirror (opening_for h entries before held base disk opened) (core_state table fresh k flusher passes history) log → IsHeldNow before log now
    → (s : ℕ) (v : Sector) → s < h.size → DiskHas (format_of h) (layout_of h) (base_at zero_sector base) zero_sector (image_of now) s v → IsFound h base table fresh k now s v
held-found h entries before held base disk opened table fresh k flusher passes history log now secured is_held s v inside has =
    secured-found (opening_for h entries before held base disk opened) table fresh k flusher passes history log secured (sectors_or zero_sector now) (held_image zero_sector before log now is_held) s v inside has
