use Rattle.std.proofs.Common.{◌≡◌, ◌+◌, ◌*◌, ◌^◌, ◌<◌, ◌≤◌, [], ◌∷◌, ◌++◌, false, length, replicate, ap, ◌∙◌, arith, length-append}
use Rattle.std.proofs.lemmas.Grind.{div_ceil_times}
use Rattle.vd_bits.proofs.WordLaws.{span_some, next_span}
use Rattle.vd_bits.proofs.SummaryLaws.{empty-summarizes}
use Rattle.vd_bits.proofs.LevelLaws.{levels-push, grown-enough, grown-needed}
use Rattle.vd_bits.proofs.levels.empty_levels.Goals as goal

pub loop-words-preserved : goal.loop-words-preserved
loop-words-preserved c =
    let before = c.loop-words.above.items in let n = length before in let words = c.div_ceil-words.result in
    let d = div_ceil_times c.loop-words.words 64 (omega arith) in
    let items : c.push.new.self.items ≡ before ++ c.in_ok-level.level ∷ [] = rw c.if-is_err.ensures.negation at c.push.ensures.items in
    let span : 64 ^ length c.push.new.self.items ≡ 64 ^ n * 64 = ap (λ all. 64 ^ length all) items ∙ ap (λ k. 64 ^ k) (length-append before (c.in_ok-level.level ∷ [])) ∙ next_span n in
    let enough : c.args.pages ≤ 64 ^ n * 64 * words = grown-enough c.args.pages (64 ^ n) c.loop-words.words words c.loop-words.invariant.enough (omega (arith, c.div_ceil-words.ensures, d)) in
    let needed : 64 ^ n * 64 * words < c.args.pages + 64 ^ n * 64 = grown-needed c.args.pages (64 ^ n) c.loop-words.words words c.loop-words.invariant.needed (omega (arith, c.div_ceil-words.ensures, d)) in
    record {
      levels = levels-push (replicate c.args.pages false) before c.push.new.self.items c.in_ok-level.level c.loop-words.invariant.levels items
          (rw c.in_ok-level.ensures (empty-summarizes (64 ^ (n + 1)) c.args.pages words (span_some (n + 1)) (rw next_span enough) (rw next_span needed)));
      enough = rw span enough;
      needed = rw span needed;
    }
