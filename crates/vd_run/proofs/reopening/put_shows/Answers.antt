use Rattle.std.proofs.Common.{◌≡◌, ◌∙◌, refl, ap, sym, arith, Bool, [], ◌∷◌, ◌++◌, length, take, drop}
use Rattle.std.specs.Prelude.{◌||◌}
use Rattle.std.specs.List.{list_any, flat_map}
use Rattle.std.proofs.lemmas.List.{length-take, length-drop, length-append}
use Rattle.vd_device.proofs.QuietLaws.{reads_nothing, base_reads_nothing}
use Rattle.vd_replay.specs.declared.state.State.{State}
use Rattle.vd_report.specs.Ending.{has_failed, shown_text}
use Rattle.vd_run.proofs.RunningLaws.{line_within}
use Rattle.vd_report.proofs.WritingLaws.{writes_nothing, writes_both, writes_as}
use Rattle.vd_run.proofs.ReopeningLaws.{none_shown, one_step_more, all_later, shown_earlier, all_shown, failed_more, text_more}
use Rattle.vd_run.proofs.reopening.put_shows.Goals as goal
use Rattle.vd_device.proofs.DeviceLaws.{both_read_twice}
use Rattle.vd_lists.proofs.Places.{some_place}

pub loop-at-init : goal.loop-at-init
loop-at-init g c = record {
  room = c.requires.room;
  state = refl;
  reads = record { store = reads_nothing c.sectors_at_rest-sectors.ensures.ready; base = base_reads_nothing c.requires.idle.1 };
  shown = [];
  are = none_shown c.args.trace.now.shows;
  failed = refl;
  writes = writes_nothing c.args.written;
}

pub put_shown-fails-requires-clause-inside : goal.put_shown-fails-requires-clause-inside
put_shown-fails-requires-clause-inside g c =
    let line = some_place c.args.trace.now.shows c.loop-at.at (omega (arith, c.shows-at-end.ensures)) in
    let is = c.show-first.ensures.shown line.0 line.1 in
    let k = line_within c.args.disk.now.state.header.size c.args.trace.now c.requires.inside c.loop-at.at line.0 line.1 in
    let n = length-take c.show-first.result.1 c.loop-at.room in
    let same = ap (λ (s : State). s.header.size) c.loop-at.invariant.state in omega (arith, is.0, is.1, k, n, same)

pub loop-at-preserved : goal.loop-at-preserved
loop-at-preserved g c =
    let inv = c.loop-at.invariant in
    let put = rw inv.state at c.put_shown-fails.ensures in
    let shows = put.shows.0 in
    let line = some_place c.args.trace.now.shows c.loop-at.at (omega (arith, c.shows-at-end.ensures)) in
    let is = c.show-first.ensures.shown line.0 line.1 in
    let count = length-take c.show-first.result.1 c.loop-at.room in
    let range = c.show-first.ensures.range in
    let many : line.0.count ≡ length (take c.show-first.result.1 c.loop-at.room) = omega (arith, is.1, count, range.2, inv.room) in
    let here = put.shows.1 line.0 (sym is.0) many in record {
      room = (let a = length-append c.put_shown-fails.new.room (drop c.show-first.result.1 c.loop-at.room) in let b = length-drop c.show-first.result.1 c.loop-at.room in let s = c.put_shown-fails.auto.room in omega (arith, a, b, s, many, is.1, inv.room, range.2));
      state = put.state;
      reads = both_read_twice inv.reads put.reads;
      shown = inv.shown ++ shows ∷ [];
      are = one_step_more c.args.trace.now.shows c.loop-at.at line.0 inv.shown shows line.1 (all_later put.reads inv.are) (shown_earlier shows inv.reads here);
      failed = ap (λ (b : Bool). b || c.put_shown-fails.result.0) inv.failed ∙ ap (λ (b : Bool). list_any has_failed inv.shown || b) put.shows.2 ∙ sym (failed_more inv.shown shows);
      writes = writes_as (text_more inv.shown shows) (writes_both (flat_map shown_text inv.shown) (shown_text shows) _ _ _ inv.writes put.shows.3);
    }

pub returns-clause-shows : goal.returns-clause-shows
returns-clause-shows g c =
    let inv = c.loop-at.invariant in (inv.shown, all_shown c.args.trace.now.shows c.loop-at.at inv.shown (omega (arith, c.shows-at-end.ensures, c.loop-at-test.false)) inv.are, inv.failed, inv.writes)
