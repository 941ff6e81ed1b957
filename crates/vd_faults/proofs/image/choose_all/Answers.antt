use Rattle.std.proofs.Common.{◌≡◌, ◌<◌, Some, length, refl, ◌∙◌, arith}
use Rattle.std.specs.Prelude.{slice_get}
use Rattle.std.proofs.lemmas.List.{length-set}
use Rattle.std.proofs.lemmas.Option.{slice_get_read}
use Rattle.vd_faults.proofs.Choice.{choose-read, choose-state, choose-more, choose-all}
use Rattle.vd_faults.proofs.image.choose_all.Goals as goal

pub choice-requires-clause-firm : goal.choice-requires-clause-firm
choice-requires-clause-firm g c =
    let inv = c.loop-s.invariant in let all = c.loop-s.all.items in let init = c.args.all.now.items in let x = c.index.result.now in
    let within : c.loop-s.s < length init = omega (arith, c.loop-s-test.true, c.len-s-end.ensures, c.args.all.now.ok.0) in
    let read : slice_get all c.loop-s.s ≡ Some x = slice_get_read all (length all) c.loop-s.s x refl (omega (arith, inv.0, within)) c.index.ensures in
    (c.requires.firm c.loop-s.s x (choose-read g.C.Chooser.choice c.args.chooser.now c.loop-s.chooser init all c.loop-s.s x read within inv.1 inv.2)).0

pub choice-requires-clause-short : goal.choice-requires-clause-short
choice-requires-clause-short g c =
    let inv = c.loop-s.invariant in let all = c.loop-s.all.items in let init = c.args.all.now.items in let x = c.index.result.now in
    let within : c.loop-s.s < length init = omega (arith, c.loop-s-test.true, c.len-s-end.ensures, c.args.all.now.ok.0) in
    let read : slice_get all c.loop-s.s ≡ Some x = slice_get_read all (length all) c.loop-s.s x refl (omega (arith, inv.0, within)) c.index.ensures in
    (c.requires.firm c.loop-s.s x (choose-read g.C.Chooser.choice c.args.chooser.now c.loop-s.chooser init all c.loop-s.s x read within inv.1 inv.2)).1

pub loop-s-preserved : goal.loop-s-preserved
loop-s-preserved g c =
    let inv = c.loop-s.invariant in let all = c.loop-s.all.items in let init = c.args.all.now.items in let x = c.index.result.now in
    let within : c.loop-s.s < length init = omega (arith, c.loop-s-test.true, c.len-s-end.ensures, c.args.all.now.ok.0) in
    let read : slice_get all c.loop-s.s ≡ Some x = slice_get_read all (length all) c.loop-s.s x refl (omega (arith, inv.0, within)) c.index.ensures in (
      length-set all c.loop-s.s c.choice.result ∙ inv.0,
      c.choice.ensures.chooser ∙ choose-state g.C.Chooser.choice c.args.chooser.now c.loop-s.chooser init all c.loop-s.s x read within inv.1 inv.2,
      choose-more g.C.Chooser.choice c.args.chooser.now c.loop-s.chooser init all c.loop-s.s x read within inv.1 inv.2 c.choice.result c.choice.ensures.chosen,
    )

pub returns-clause-each : goal.returns-clause-each
returns-clause-each g c = λ s v at.
    c.loop-s.invariant.2 s v at ∙ choose-all g.C.Chooser.choice c.args.chooser.now c.args.all.now.items c.loop-s.s s v (omega (arith, c.loop-s-test.false, c.len-s-end.ensures, c.args.all.now.ok.0)) at
