use Rattle.std.proofs.Common.{◌≡◌, ◌++◌, drop, IfOk}
use Rattle.std.specs.Vec.Iter.{into_iter_items, into_iter_len}
use Rattle.vd_edge.proofs.session.words_of.Given as goal

abbrev pub invariant-loop-word : goal.invariant-loop-word
invariant-loop-word l = IfOk l.fn.args (λ given. l.words.items ++ into_iter_items l.rest ≡ drop 1 (into_iter_items given))

abbrev pub decreases-loop-word : goal.decreases-loop-word
decreases-loop-word l = into_iter_len l.rest
