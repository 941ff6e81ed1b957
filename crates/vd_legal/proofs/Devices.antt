-- What is known of the devices of a core, and of the places of its passes.
use Rattle.std.proofs.Common.{◌≡◌, ℕ, ◌<◌, ◌≤◌, List, map, length, min, sym, ◌∙◌, ap, arith, Option, Some, slice_get}
use Rattle.std.proofs.lemmas.List.{length-map}
use Rattle.std.proofs.lemmas.Option.{slice_get_within}
use Rattle.vd_law.specs.declared.entry.Sector.{Sector}
use Rattle.vd_device.specs.declared.store.Store as store
use Rattle.vd_device.specs.declared.base.Base as base
use Rattle.vd_regions.specs.declared.regions.Region.{Region}
use Rattle.vd_passes.specs.declared.shape.Shape.{Shape}
use Rattle.vd_passes.specs.declared.pass.Pass.{Pass}
use Rattle.vd_passes.specs.Passes.{region_of, IsPiece}
use Rattle.vd_passes.specs.Laying.{Backs}
use Rattle.vd_passes.specs.Requests.{RequestState}
use Rattle.vd_passes.specs.Coherent.{IsCoherent}
use Rattle.vd_passes.proofs.Backing.{background-backs}
use Rattle.vd_format.specs.Background.{background_of}

-- A told base is what is behind the disk.
pub backed : {r : RequestState} {places : ℕ → Option ℕ} {S B : Type 0} {g : store.Ghosts S} {h : base.Ghosts B} {s : S} {b : B}
    → IsCoherent g h r places s b → (content : List Sector) → length content ≡ h.sectors b → Backs (background_of content r.shape.tracked) r.shape.limit content
backed {r} co content size = background-backs content r.shape.tracked r.shape.limit (co.shaped.limit ∙ ap (λ (n : ℕ). min n r.shape.tracked) (sym size))

-- each pass has its place among the regions
pub region-within : (regions : List (Option Region)) (passes : List Pass) (i : ℕ) (p : Pass) → regions ≡ map region_of passes → slice_get passes i ≡ Some p
    → i < length regions
region-within regions passes i p held there = let long = ap length held ∙ length-map passes region_of in let inside = slice_get_within passes i p there in
    omega arith

-- a piece lies in its block, so that an event tells it
pub piece-short : {shape : Shape} {p : Pass} → shape.block ≤ 128 → IsPiece shape p → p.piece ≤ 2048
piece-short small piece = let from = piece.from in let to = piece.to in omega (arith, small, from, to)
