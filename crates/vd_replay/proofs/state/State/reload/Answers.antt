use Rattle.std.proofs.Common.{true, ap, ◌∙◌}
use Rattle.vd_device.proofs.QuietLaws.{reads_twice}
use Rattle.vd_replay.proofs.FillingLaws.{sized_again, same_geometry, found_again, says_found}
use Rattle.vd_image.specs.Image.{Header, geometry_of}
use Rattle.vd_replay.proofs.state.State.reload.Goals as goal

pub fill-requires-clause-sized : goal.fill-requires-clause-sized
fill-requires-clause-sized g c = sized_again c.args.self.now c.in_ok-self.field-0 true c.requires.sized c.in_ok-self.ensures.valid c.in_ok-self.ensures.agrees

pub returns-clause-quiet : goal.returns-clause-quiet
returns-clause-quiet g c = reads_twice c.find_header.ensures.quiet c.fill.ensures.quiet

pub returns-clause-same : goal.returns-clause-same
returns-clause-same g c = ap (λ (h : Header). geometry_of h) c.fill.ensures.kept.header ∙ same_geometry c.args.self.now.header c.in_ok-self.field-0 c.in_ok-self.ensures.agrees

pub returns-clause-says : goal.returns-clause-says
returns-clause-says g c =
    says_found (g.S.Store.tells c.fill.new.store) c.fill.result (g.S.Store.disk c.fill.new.store).held c.fill.new.self c.fill.ensures.says
    (λ told. found_again (g.S.Store.disk c.find_header.new.store).held (g.S.Store.disk c.fill.new.store).held c.in_ok-self.field-0 c.fill.new.self.header (c.fill.ensures.quiet.held told) c.fill.ensures.kept.header
    (c.in_ok-self.ensures.found (c.fill.ensures.quiet.keeps.telling.told_before told)))
