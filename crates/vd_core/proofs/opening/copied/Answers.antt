use Rattle.std.proofs.Common.{◌+◌, List, Bool, refl, sym, subst}
use Rattle.std.proofs.lemmas.Option.{slice_get_within}
use Rattle.vd_core.proofs.Copied.{IsCopied, copied-none, copied-more, copied-all}
use Rattle.vd_core.proofs.opening.copied.Goals as goal

pub loop-page-init : goal.loop-page-init
loop-page-init c = subst (λ (xs : List Bool). IsCopied 0 c.args.marks.now xs) (sym c.in_ok-copy.ensures) (copied-none c.args.marks.now c.args.pages c.requires)

pub loop-page-preserved : goal.loop-page-preserved
loop-page-preserved c = let lowest = c.in-Some.ensures.lowest in
    subst (λ (xs : List Bool). IsCopied (c.in-Some.page + 1) c.args.marks.now xs) (sym c.mark.ensures)
    (copied-more c.loop-page.from c.in-Some.page c.args.marks.now c.loop-page.copy c.loop-page.invariant lowest (slice_get_within c.args.marks.now c.in-Some.page _ lowest.is_marked))

pub returns : goal.returns
returns c = copied-all c.loop-page.from c.args.marks.now c.loop-page.copy c.loop-page.invariant (c.in_default.ensures.none.0 refl)
