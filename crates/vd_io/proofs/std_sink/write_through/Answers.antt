-- What one write took follows what was written before it.
use Rattle.std.proofs.Common.{ℕ, ◌+◌, List, Option, take, drop, sym, subst, arith}
use Rattle.std.proofs.Math.Seq.{take-add}
use Rattle.std.proofs.lemmas.List.{take_rest}
use Rattle.std.specs.Io.KnownBytes.{Appends}
use Rattle.std.proofs.KnownBytes.{Appends-trans}
use Rattle.vd_io.proofs.std_sink.write_through.Goals as goal

appends-more : (old between new : Option (List ℕ)) (done count : ℕ) (text : List ℕ) →
    Appends old between (take done text) → Appends between new (take count (drop done text)) → Appends old new (take (done + count) text)
appends-more old between new done count text before more =
    subst (Appends old new) (sym (take-add done count text)) (Appends-trans old between new (take done text) (take count (drop done text)) before more)

pub loop-done-preserved : goal.loop-done-preserved
loop-done-preserved g c = record {
  within = omega (arith, c.in_ok-count.ensures.within);
  written = appends-more _ _ _ c.loop-done.done _ c.args.bytes.now c.loop-done.invariant.written (rw take_rest at c.in_ok-count.ensures.bytes);
}
