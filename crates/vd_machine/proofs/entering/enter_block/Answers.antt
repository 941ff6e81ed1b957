use Rattle.std.proofs.Common.{◌≡◌, ◌∙◌, sym}
use Rattle.std.specs.Prelude.{if◌then◌else◌}
use Rattle.vd_regions.specs.declared.regions.Mode.TheVariants.{Shared, Own}
use Rattle.vd_lists.proofs.Places.{read_place}
use Rattle.vd_machine.proofs.Members.{picked}
use Rattle.vd_machine.proofs.Entered.{mode-own, mode-shared, enters-block}
use Rattle.vd_machine.proofs.entering.enter_block.Goals as goal
use Rattle.vd_machine.proofs.entering.enter_block.Goals.{then-p, else-p}

pub returns-clause-enters : goal.returns-clause-enters
returns-clause-enters c =
    let at = c.requires.can in let passes = c.args.passes.now.items in let q = c.index-p.result.now in let r = c.index_mut.result.now in let asked = c.in_ok-ask.ensures in
    let wants : c.if-p.mode ≡ (if q.write then Own else Shared) = elim c.if-p.branch [ then-p w ↦ mode-own q.write c.if-p.mode w.if-p.true w.mode-is | else-p w ↦ mode-shared q.write c.if-p.mode w.if-p.false w.mode-is ] in
    enters-block c.args.shape.now c.args.table.now.chunks c.args.regions.now c.ask.new.self c.args.pass passes q r c.enter.new.self c.next_piece-block.result.0 c.next_piece-block.result.1 c.place-at.result c.if-p.mode
    (read_place passes c.args.pass at.0 q at.1 c.index-p.ensures)
    (sym (picked passes c.args.pass at r c.index_mut.ensures.value) ∙ picked passes c.args.pass at q c.index-p.ensures)
    c.enter.ensures c.next_piece-block.ensures c.place-at.ensures wants asked.free asked.held
