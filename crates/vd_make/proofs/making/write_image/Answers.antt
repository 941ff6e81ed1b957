use Rattle.std.proofs.Common.{ℕ, Ok, Err, subst}
use Rattle.vd_format.specs.Layouts.{storage_start}
use Rattle.vd_image.specs.Made.{header_sector}
use Rattle.vd_make.specs.Putting.{Fills}
use Rattle.vd_make.proofs.StoryLaws.{story_begun, story_blanked, story_headed, written_whole, all_one, header_is}
use Rattle.vd_device.proofs.Keeping.{keeps-on}
use Rattle.vd_make.proofs.making.write_image.Goals as goal
use Rattle.vd_format.specs.Background.{zero_sector}

pub returns-in_err-fill-2-clause-keeps : goal.returns-in_err-fill-2-clause-keeps
returns-in_err-fill-2-clause-keeps g c = keeps-on g.S.Store c.args.store.now c.fill.new.store c.fill-2.new.store c.fill.ensures.keeps c.fill-2.ensures.keeps

pub returns-clause-keeps : goal.returns-clause-keeps
returns-clause-keeps g c =
    let first = keeps-on g.S.Store c.args.store.now c.fill.new.store c.fill-2.new.store c.fill.ensures.keeps c.fill-2.ensures.keeps in
    keeps-on g.S.Store c.args.store.now c.fill-2.new.store c.fill-3.new.store first c.fill-3.ensures.keeps

pub returns-in_err-fill-clause-story : goal.returns-in_err-fill-clause-story
returns-in_err-fill-clause-story g c told = story_begun _ _ _ _ _ _ (c.in_err-fill.ensures.fills zero_sector c.requires.zeros.0 told)

pub returns-in_err-fill-2-clause-story : goal.returns-in_err-fill-2-clause-story
returns-in_err-fill-2-clause-story g c told =
    let before = c.fill-2.ensures.keeps.telling.told_before told in
    story_blanked _ _ _ _ _ _ _ (c.in_ok-fill.ensures.fills zero_sector c.requires.zeros.0 before)
    (subst (λ (end : ℕ). Fills (Err c.in_err-fill-2.field-0.0) zero_sector 1 end (g.S.Store.disk c.fill.new.store) (g.S.Store.disk c.fill-2.new.store)) c.layout_of.ensures.storage
    (c.in_err-fill-2.ensures.fills zero_sector c.requires.zeros.0 told))

pub returns-clause-story : goal.returns-clause-story
returns-clause-story g c told =
    let second = c.fill-3.ensures.keeps.telling.told_before told in
    let first = c.fill-2.ensures.keeps.telling.told_before second in
    story_headed _ _ _ c.fill-3.result _ _ _ _ (c.in_ok-fill.ensures.fills zero_sector c.requires.zeros.0 first)
    (subst (λ (end : ℕ). Fills (Ok tt) zero_sector 1 end (g.S.Store.disk c.fill.new.store) (g.S.Store.disk c.fill-2.new.store)) c.layout_of.ensures.storage
    (c.in_ok-fill-2.ensures.fills zero_sector c.requires.zeros.0 second))
    (c.fill-3.ensures.fills (header_sector c.args.header.now) (all_one _ _ (header_is _ _ c.write_header.ensures.spelled)) told)

pub returns-clause-written : goal.returns-clause-written
returns-clause-written g c =
    written_whole (header_sector c.args.header.now) zero_sector (storage_start c.args.header.now) c.fill-3.result _ _
    (λ told. (let second = c.fill-3.ensures.keeps.telling.told_before told in (
      g.S.Store.disk c.fill.new.store,
      subst (λ (end : ℕ). Fills (Ok tt) zero_sector 1 end (g.S.Store.disk c.fill.new.store) (g.S.Store.disk c.fill-2.new.store)) c.layout_of.ensures.storage
          (c.in_ok-fill-2.ensures.fills zero_sector c.requires.zeros.0 second),
    )))
    (λ told. c.fill-3.ensures.fills (header_sector c.args.header.now) (all_one _ _ (header_is _ _ c.write_header.ensures.spelled)) told)
