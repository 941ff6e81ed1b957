use Rattle.std.proofs.Common.{ℕ, ◌≡◌, ◌∙◌, Some, length, slice_get, slice_set, ap, subst, sym, inl, inr, arith}
use Rattle.std.proofs.lemmas.List.{length-set}
use Rattle.std.proofs.lemmas.Bool.Decides.{eqb_tells}
use Rattle.vd_lists.proofs.Changes.{slice_set_inside, slice_set_other}
use Rattle.vd_table.specs.Tables.{TableState}
use Rattle.vd_keeper.proofs.tests.full_table.Goals as goal

pub loop-chunk-preserved : goal.loop-chunk-preserved
loop-chunk-preserved c =
    let given = c.in-Ok.ensures.given in let was = c.loop-chunk.invariant in let chunk = c.loop-chunk.chunk in let chunks = c.loop-chunk.table.chunks in record {
      size = ap (λ (t : TableState). length t.chunks) given ∙ length-set chunks chunk (Some chunk) ∙ was.size;
      storage = ap (λ (t : TableState). t.storage) given ∙ was.storage;
      each = λ k below. ap (λ (t : TableState). slice_get t.chunks k) given ∙ (elim (eqb_tells k chunk) [
        | inl same ↦ subst (λ (x : ℕ). slice_get (slice_set chunks chunk (Some chunk)) x ≡ Some (Some x)) (sym same.1) (slice_set_inside chunks chunk (Some chunk) (omega (arith, was.size, c.loop-chunk-test.true)))
        | inr other ↦ slice_set_other chunks chunk k (Some chunk) other.1 ∙ was.each k (omega (arith, below, other.1))
      ]);
    }

pub returns : goal.returns
returns c = record {
  size = c.loop-chunk.invariant.size ∙ c.layout_of-chunks.ensures.chunks;
  storage = c.loop-chunk.invariant.storage;
  each = λ chunk h. (chunk, omega (arith, c.requires.all), c.loop-chunk.invariant.each chunk (omega (arith, c.layout_of-chunks.ensures.chunks)));
}
