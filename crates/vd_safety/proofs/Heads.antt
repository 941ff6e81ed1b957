-- The next header of a recycle, as the laws of crash safety read it.
use Rattle.std.proofs.Common.{◌≡◌, ℕ, ◌+◌, true, Ok, refl}
use Rattle.vd_law.specs.declared.entry.Sector.{Sector}
use Rattle.vd_format.specs.declared.header.Header.{Header}
use Rattle.vd_format.specs.Headers.{spelling}
use Rattle.vd_format.proofs.Headers.{header_of-spelling}
use Rattle.vd_image.specs.Image.{geometry_of}
use Rattle.vd_crash.specs.facts.Safe.{Opening}
use Rattle.vd_keeper.specs.declared.stage.Way as way
use Rattle.vd_keeper.specs.declared.stage.Way.TheVariants as ways
use Rattle.vd_keeper.specs.Keeping.{KeeperState}
use Rattle.vd_keeper.specs.Flushes.{IsKeeping, IsPossible, is_recycle}
use Rattle.vd_keeper.specs.Moves.{next_header}
use Rattle.vd_keeper.proofs.Ended.{next-valid}
use Rattle.vd_safety.specs.Mirrors.{IsOfHeader}
use Rattle.vd_safety.proofs.Records.{by-header}

-- it is of the same geometry
pub next-geometry : (w : way.Way) (h : Header) → geometry_of (next_header w h) ≡ geometry_of h
next-geometry (ways.Recycle tracked) h = refl
next-geometry ways.Records h = refl
next-geometry ways.Nothing h = refl

pub next-generation : (w : way.Way) (h : Header) → is_recycle w ≡ true → (next_header w h).generation ≡ h.generation + 1
next-generation (ways.Recycle tracked) h is = refl
next-generation ways.Records h is = absurd cc
next-generation ways.Nothing h is = absurd cc

-- where each recycle leaves the tracked part, so does this
pub next-tracked : (w : way.Way) (h : Header) → ((t : ℕ) → w ≡ ways.Recycle t → t ≡ h.tracked) → (next_header w h).tracked ≡ h.tracked
next-tracked (ways.Recycle tracked) h same = same tracked refl
next-tracked ways.Records h same = refl
next-tracked ways.Nothing h same = refl

-- the sector of the next header says it
pub head-reads : (h : Header) (o : Opening) (k : KeeperState) (sector : Sector) → IsOfHeader h o k → IsKeeping k → IsPossible k → sector.bytes ≡ spelling (next_header k.way k.header) → o.format.header_of sector ≡ Ok (next_header k.way k.header)
head-reads h o k sector of kept possible bytes =
    by-header h o k of (λ p. p.format.header_of sector ≡ Ok (next_header k.way k.header))
    (header_of-spelling sector (next_header k.way k.header) (record { valid = next-valid k.way k.header kept.valid possible.generation possible.tracked; bytes = bytes }))

pub head-geometry : (h : Header) (o : Opening) (k : KeeperState) → IsOfHeader h o k → geometry_of (next_header k.way k.header) ≡ o.layout.geometry
head-geometry h o k of = by-header h o k of (λ p. geometry_of (next_header k.way k.header) ≡ p.layout.geometry) (next-geometry k.way k.header)
