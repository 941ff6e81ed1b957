use Rattle.std.proofs.Common.{◌≡◌, ◌+◌, ◌≤◌, ◌∙◌, ap, subst, List, length, replicate, slice_set}
use Rattle.vd_law.specs.declared.entry.Sector.{Sector}
use Rattle.vd_passes.specs.declared.pass.Pass.{Pass}
use Rattle.vd_passes.specs.Requests.{requests}
use Rattle.vd_passes.specs.Steps.{Sees}
use Rattle.vd_lists.proofs.Places.{read_place}
use Rattle.vd_machine.proofs.Members.{picked}
use Rattle.vd_machine.proofs.Seen.{with_part, part-long, sees-part, extends-part}
use Rattle.vd_machine.proofs.looking.see_zeros.Goals as goal
use Rattle.vd_format.specs.Background.{zero_sector}

pub returns : goal.returns
returns g c =
    let at = c.requires.ready in let q = c.index_mut-p.result.now in let out = c.args.out.now in let part = c.clear.new.sectors in
    let there = read_place c.args.passes.now.items c.args.pass at.0 q at.1 c.index_mut-p.ensures.value in
    let fits : q.done + q.piece ≤ length out = subst (λ (x : Pass). x.done + x.piece ≤ length out) (picked c.args.passes.now.items c.args.pass at q c.index_mut-p.ensures.value) at.2.0 in
    let long = part-long q out fits in
    let zeros : part ≡ replicate q.piece zero_sector = c.clear.ensures ∙ ap (λ n. replicate n zero_sector) long in
    let filled : length part ≡ q.piece = c.clear.auto.sectors ∙ long in
    record {
      sees = (
        q,
        there,
        (
          λ shape fresh. subst (λ (xs : List Sector). Sees xs c.args.pass (requests shape fresh c.args.passes.now.items c.args.history.now.log.entries)
              (requests shape fresh (slice_set c.args.passes.now.items c.args.pass c.spend.new.self) c.add.new.history.log.entries) out (with_part q out part)) zeros
              (sees-part q c.end_piece.new.self c.spend.new.self c.call_id.result part there c.end_piece.ensures c.spend.ensures c.call_id.ensures.pass c.call_id.ensures.call c.add.ensures.entry filled),
          extends-part part q.piece filled c.add.ensures.extends,
        ),
      );
      running = c.add.ensures.running;
    }
