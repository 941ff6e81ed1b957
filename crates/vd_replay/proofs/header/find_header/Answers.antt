use Rattle.std.proofs.Common.{◌≡◌, ◌<◌, length, Ok, refl, ap, sym, ◌∙◌, arith}
use Rattle.vd_format.specs.Headers.{header_of}
use Rattle.vd_device.proofs.QuietLaws.{reads_twice, ready_again, flush_first}
use Rattle.vd_replay.specs.Images.{image_of}
use Rattle.vd_replay.proofs.FindingLaws.{no_sectors, first_sector, bad_header, found_header, not_found_header, valid_header, on_good}
use Rattle.vd_replay.proofs.header.find_header.Given.{Over}
use Rattle.vd_replay.proofs.header.find_header.Goals as goal

pub returns-then-have-eq0-clause-not_found : goal.returns-then-have-eq0-clause-not_found
returns-then-have-eq0-clause-not_found g c told = no_sectors c.args.kept (g.S.Store.disk c.args.store.now).held (c.sectors_at_rest-have.ensures.held told ∙ c.if-have-eq0.true)

pub judge-requires : goal.judge-requires
judge-requires g c = let spells = (c.in-Ok.ensures.ok c.in-Ok.header).0 refl in spells.valid

pub returns-in-Err-read_only-clause-quiet : goal.returns-in-Err-read_only-clause-quiet
returns-in-Err-read_only-clause-quiet g c = reads_twice c.flush_only.ensures.quiet c.read_only.ensures.quiet

pub returns-in-Ok-clause-quiet : goal.returns-in-Ok-clause-quiet
returns-in-Ok-clause-quiet g c = reads_twice c.flush_only.ensures.quiet c.read_only.ensures.quiet

pub returns-in-Ok-clause-ready : goal.returns-in-Ok-clause-ready
returns-in-Ok-clause-ready g c = on_good _ c.judge.result (ready_again c.sectors_at_rest-have.ensures.ready (reads_twice c.flush_only.ensures.quiet c.read_only.ensures.quiet))

pub returns-in-Ok-clause-valid : goal.returns-in-Ok-clause-valid
returns-in-Ok-clause-valid g c = let spells = (c.in-Ok.ensures.ok c.in-Ok.header).0 refl in valid_header c.judge.result c.in-Ok.header spells.valid c.judge.ensures.same

known : (g : Over) (c : goal.After-judge g) → g.S.Store.tells c.read_only.new.store
    → (c.sectors_at_rest-have.result ≡ length (g.S.Store.disk c.read_only.new.store).held) × (0 < length (g.S.Store.disk c.read_only.new.store).held) × (header_of (image_of (g.S.Store.disk c.read_only.new.store).held 0) ≡ Ok c.in-Ok.header)
known g c told =
    let after_flush = c.in_default-read_only.ensures.quiet.keeps.telling.told_before told in
    let before = c.flush_only.ensures.quiet.keeps.telling.told_before after_flush in
    let size : length (g.S.Store.disk c.read_only.new.store).held ≡ c.sectors_at_rest-have.result =
    ap length (c.read_only.ensures.quiet.held told ∙ c.flush_only.ensures.quiet.held after_flush) ∙ c.sectors_at_rest-have.ensures.held before in
    let some : 0 < length (g.S.Store.disk c.read_only.new.store).held = (let k = c.if-have-eq0.false in omega arith) in
    (sym size, some, sym (c.in-Ok.ensures.read ∙ ap header_of (first_sector (g.S.Store.disk c.read_only.new.store).held c.read_only.new.out _ (c.in_default-read_only.ensures.read told) some)))

pub returns-in-Ok-clause-found : goal.returns-in-Ok-clause-found
returns-in-Ok-clause-found g c =
    found_header (g.S.Store.tells c.read_only.new.store) c.judge.result (g.S.Store.disk c.read_only.new.store).held c.in-Ok.header c.sectors_at_rest-have.result c.judge.ensures.same c.judge.ensures.room (known g c)

pub returns-in-Ok-clause-not_found : goal.returns-in-Ok-clause-not_found
returns-in-Ok-clause-not_found g c =
    not_found_header (g.S.Store.tells c.read_only.new.store) c.judge.result c.args.kept (g.S.Store.disk c.read_only.new.store).held c.in-Ok.header c.sectors_at_rest-have.result c.judge.ensures.wrong (known g c)

pub returns-in-Err-read_header-clause-quiet : goal.returns-in-Err-read_header-clause-quiet
returns-in-Err-read_header-clause-quiet g c = reads_twice c.flush_only.ensures.quiet c.read_only.ensures.quiet

pub returns-in-Err-read_header-clause-not_found : goal.returns-in-Err-read_header-clause-not_found
returns-in-Err-read_header-clause-not_found g c told =
    let after_flush = c.in_default-read_only.ensures.quiet.keeps.telling.told_before told in
    let before = c.flush_only.ensures.quiet.keeps.telling.told_before after_flush in
    let size : length (g.S.Store.disk c.read_only.new.store).held ≡ c.sectors_at_rest-have.result =
    ap length (c.read_only.ensures.quiet.held told ∙ c.flush_only.ensures.quiet.held after_flush) ∙ c.sectors_at_rest-have.ensures.held before in
    let some : 0 < length (g.S.Store.disk c.read_only.new.store).held = (let k = c.if-have-eq0.false in omega arith) in
    bad_header c.args.kept (g.S.Store.disk c.read_only.new.store).held c.in-Err-read_header.error some
    (sym (c.in-Err-read_header.ensures.read ∙ ap header_of (first_sector (g.S.Store.disk c.read_only.new.store).held c.read_only.new.out _ (c.in_default-read_only.ensures.read told) some)))

pub returns-in-Ok-clause-flushed : goal.returns-in-Ok-clause-flushed
returns-in-Ok-clause-flushed g c = on_good _ c.judge.result (λ told.
    let recorded = c.in_flight-telling.ensures.recorded told in let quiet = c.read_only.ensures.quiet in
    flush_first (g.S.Store.last c.flush_only.new.store) (c.flush_only.ensures.quiet.recorded (quiet.keeps.telling.recorded_before recorded)).start (c.in_default.ensures.flushed (quiet.keeps.telling.told_before told)) (quiet.recorded recorded))
