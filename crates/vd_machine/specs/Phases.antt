-- What the phase of a pass says of it.
use Rattle.std.specs.Prelude.{◌≡◌, ◌<◌, true, false}
use Rattle.vd_passes.specs.declared.shape.Shape.{Shape}
use Rattle.vd_passes.specs.declared.pass.Pass.{Pass}
use Rattle.vd_passes.specs.declared.pass.Phase.TheVariants.{Asked, Looking, Flushing}
use Rattle.vd_passes.specs.Passes.{has_region, writes_in, IsPiece}

-- How a pass of a disk of this shape stands: what its phase says of its request and of its piece.
pub record IsInPhase (shape : Shape) (p : Pass) : Type 0 where
  pub some : 0 < shape.block
  pub write : writes_in p.phase ≡ true → p.write ≡ true
  pub read : p.phase ≡ Looking → p.write ≡ false
  pub left : p.phase ≡ Asked → p.flush ≡ false → p.done < p.count
  pub flush : p.phase ≡ Flushing → p.flush ≡ true
  pub no_flush : has_region p.phase ≡ true → p.flush ≡ false
  pub piece : has_region p.phase ≡ true → IsPiece shape p
