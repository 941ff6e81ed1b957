use Rattle.std.proofs.Common.{ℕ, ◌+◌, ◌*◌, ◌/◌, ◌≡◌, ◌<◌, List, length, ap, ◌∙◌, subst, arith}
use Rattle.std.specs.Prelude.{min, slice_index_or}
use Rattle.std.proofs.lemmas.List.{get_or_default}
use Rattle.std.proofs.lemmas.Result.{err_from_is_err_and}
use Rattle.vd_law.specs.declared.entry.Sector.{Sector}
use Rattle.vd_replay.specs.Pages.{AreAt, AreRead, AreEntries}
use Rattle.vd_replay.proofs.PageLaws.{judged_further}
use Rattle.vd_replay.proofs.pages.take_pages.Goals as goal
use Rattle.vd_format.specs.Background.{zero_sector}

at_page : (page index : ℕ) (at : ℕ → Sector) (sectors : List Sector) (first : ℕ) (d : Sector) → first ≡ 32 * (page + index) → index < length sectors → AreAt at page sectors
    → at (first / 32) ≡ slice_index_or sectors index d
at_page page index at sectors first d is within each =
    let e : first / 32 ≡ page + index = omega arith in
    ap at e ∙ each index within ∙ get_or_default sectors index zero_sector d within

pub returns-in_err-take_page-clause-judged : goal.returns-in_err-take_page-clause-judged
returns-in_err-take_page-clause-judged c at each before =
    let p = err_from_is_err_and c.from_residual-in_err-take_page.result c.from_residual-in_err-take_page.ensures.1 in
    let i = c.loop-sector.sector-index in
    let start : min (32 * (c.args.page + i)) c.args.shape.now.chunks ≡ c.loop-sector.first = (let f = c.loop-sector.invariant.first in omega arith) in
    let now = subst (λ (n : ℕ). AreRead c.args.shape.now at n c.loop-sector.pages) start (c.loop-sector.invariant.read at each before) in
    rw (p.1, p.2) (judged_further c.args.shape.now at c.min-end.result (min (32 * (c.args.page + length c.args.sectors.now)) c.args.shape.now.chunks) c.take_page.new.pages c.take_page.new.pages c.in_err-take_page.field-0.0 (omega arith)
    (c.in_err-take_page.ensures.judged at (at_page c.args.page i at c.args.sectors.now c.loop-sector.first _ c.loop-sector.invariant.first c.loop-sector-test.true each) now))

pub loop-sector-preserved : goal.loop-sector-preserved
loop-sector-preserved c =
    let i = c.loop-sector.sector-index in
    let start : min (32 * (c.args.page + i)) c.args.shape.now.chunks ≡ c.loop-sector.first = (let f = c.loop-sector.invariant.first in omega arith) in
    let end : c.min-end.result ≡ min (32 * (c.args.page + (i + 1))) c.args.shape.now.chunks = (let f = c.loop-sector.invariant.first in omega arith) in
    record {
      first = (let f = c.loop-sector.invariant.first in omega arith);
      size = c.take_page.ensures.size ∙ c.loop-sector.invariant.size;
      grammar = subst (λ (n : ℕ). AreEntries c.args.shape.now n c.take_page.new.pages) end
          (c.in_ok-take_page.ensures.grammar (subst (λ (n : ℕ). AreEntries c.args.shape.now n c.loop-sector.pages) start c.loop-sector.invariant.grammar));
      read = λ at each before. subst (λ (n : ℕ). AreRead c.args.shape.now at n c.take_page.new.pages) end
          (c.in_ok-take_page.ensures.judged at (at_page c.args.page i at c.args.sectors.now c.loop-sector.first _ c.loop-sector.invariant.first c.loop-sector-test.true each)
          (subst (λ (n : ℕ). AreRead c.args.shape.now at n c.loop-sector.pages) start (c.loop-sector.invariant.read at each before)));
    }
