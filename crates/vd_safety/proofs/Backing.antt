-- The content of a block that isn't local is the base's, by the shape as by the laws.
use Rattle.std.proofs.Common.{◌≡◌, ℕ, ◌+◌, ◌-◌, ◌*◌, ◌<◌, Bool, false, List, sym, ◌∙◌, ap, inl, inr, arith, Option, Some, None, slice_get}
use Rattle.std.specs.Prelude.{if◌then◌else◌, nat_lt}
use Rattle.std.proofs.lemmas.Bool.Decides.{leb_tells}
use Rattle.vd_law.specs.declared.entry.Sector.{Sector}
use Rattle.vd_law.specs.Entries.{Entry}
use Rattle.vd_law.specs.Histories.{HistoryState}
use Rattle.vd_law.specs.Contents.{sector_in}
use Rattle.vd_format.specs.declared.header.Header.{Header}
use Rattle.vd_format.specs.Layouts.{blocks_of}
use Rattle.vd_table.specs.Tables.{TableState}
use Rattle.vd_crash.specs.facts.Safe.{Opening}
use Rattle.vd_crash.specs.primitives.Primitives.{State}
use Rattle.vd_crash.specs.primitives.Keeping.{KeepsCrashSafety}
use Rattle.vd_crash.proofs.primitives.Using.{kept_background}
use Rattle.vd_keeper.specs.Keeping.{KeeperState}
use Rattle.vd_passes.specs.declared.shape.Shape.{Shape}
use Rattle.vd_passes.specs.declared.pass.Pass.{Pass}
use Rattle.vd_passes.specs.Laying.{IsRest}
use Rattle.vd_passes.specs.Places.{IsIn}
use Rattle.vd_safety.specs.Mirrors.{core_state, bit_of, Mirrors}
use Rattle.vd_safety.proofs.Places.{of-block, in-disk}
use Rattle.vd_safety.proofs.Surroundings.{Surroundings, block-same}
use Rattle.vd_format.specs.Background.{background, background_of, zero_sector}

-- a sector of a content that stands at `first`
pub sector-at : (first n : ℕ) (content : List Sector) (v : Sector) → slice_get content n ≡ Some v → sector_in first content (first + n) ≡ Some v
sector-at first n content v h = elim (leb_tells first (first + n)) [
  | inl inside ↦ ap (λ (b : Bool). if b then slice_get content (first + n - first) else None) inside.0 ∙ (let e : first + n - first ≡ n = omega arith in rw e h)
  | inr outside ↦ absurd (omega (arith, outside.1))
]

module _ {h : Header} {o : Opening} {shape : Shape} {table : TableState} {fresh : List Bool} {k : KeeperState} {flusher : Option ℕ} {passes : List Pass} {history : HistoryState} {log : List Entry} {base : List Sector} {last : ℕ} {s : State}
    (around : Surroundings h o shape (core_state table fresh k flusher passes history) base last) (is : Mirrors o (core_state table fresh k flusher passes history) log s) where
  same-background : (t : ℕ) → background_of base shape.tracked t ≡ background o.base o.zeros s.memory.index.tracked t
  same-background t =
      ap (λ (n : ℕ). background_of base n t) (around.attended.tracked ∙ sym is.tracked)
      ∙ ap (λ (v : Sector). if nat_lt t s.memory.index.tracked then v else zero_sector) (sym (around.base_is t))
      ∙ ap (λ (v : Sector). if nat_lt t s.memory.index.tracked then o.base t else v) (sym around.header.zeros)

  some : 0 < h.block
  some = let e = block-same around in let g = around.some_block in omega arith

  -- the rest of a block that isn't local is what the guest's disk had there
  pub rest-is : (b t : ℕ) → KeepsCrashSafety o s → IsIn h.block b t → b < blocks_of h → bit_of fresh b ≡ false → background_of base shape.tracked t ≡ o.disk t
  rest-is b t keeps inside below not_fresh = same-background t
      ∙ kept_background o s t keeps (in-disk h o.layout around.header.layout b t below inside) (is.fresh_is (o.layout.block_of t) ∙ ap (bit_of fresh) (of-block h o.layout around.header.layout b t some inside) ∙ not_fresh)
      (is.undiscarded.zeros (o.layout.chunk_of (o.layout.block_of t)))

  -- and so is what a buffer has of it
  pub buffer-is : (b n : ℕ) (buffer : List Sector) (v : Sector) → KeepsCrashSafety o s → n < h.block → b < blocks_of h → bit_of fresh b ≡ false → IsRest (background_of base shape.tracked) (h.block * b) buffer → slice_get buffer n ≡ Some v → v ≡ o.disk (h.block * b + n)
  buffer-is b n buffer v keeps within below not_fresh rest at = rest (h.block * b + n) v (sector-at (h.block * b) n buffer v at) ∙ rest-is b (h.block * b + n) keeps (omega arith, omega arith) below not_fresh
