use Rattle.std.proofs.Common.{rules, arith, ◌≡◌, [], ap, ◌∙◌, Some}
use Rattle.std.proofs.lemmas.List.Elements.{All-pop}
use Rattle.vd_words.specs.Rule.{view, both}
use Rattle.vd_words.specs.Counts.{times, count_past, times_seen}
use Rattle.vd_words.specs.Values.{ScanValue}
use Rattle.vd_words.proofs.Keeps.{joins}
use Rattle.vd_words.proofs.Gathering.{parts_taken, marked_taken, drawn_taken, looked_taken, ended_taken}
use Rattle.vd_words.proofs.marks.gather.Goals as goal

pub join_seat-requires : goal.join_seat-requires
join_seat-requires c =
    let seat = c.loop-scan.seat in
    let other = c.into_seat.result in
    let cut = All-pop (λ (s : ScanValue). s.id ≡ c.args.board.now.shared.table_id) c.loop-scan.scans.items c.pop.new.self.items (Some c.in-Some.scan) c.in-Some.ensures.items c.loop-scan.invariant.own in (
      search rules,
      c.into_seat.ensures.seat.0 ∙ cut.1,
      search rules,
      search rules,
      joins c.args.board.now.shared.key seat.id seat.me.0 other.id other.me.0 c.loop-scan.invariant.part,
    )

pub loop-scan-preserved : goal.loop-scan-preserved
loop-scan-preserved c =
    let inv = c.loop-scan.invariant in
    let v = c.loop-scan.seat.me.0 in
    let w = c.into_seat.result.me.0 in
    let is : w ≡ view 1 [] c.in-Some.scan.draws c.in-Some.scan.looks c.in-Some.scan.found = ap (λ m. m.0) c.into_seat.ensures.seat.1 in
    let items = c.loop-scan.scans.items in
    let rest = c.pop.new.self.items in
    let last = c.in-Some.ensures.items in
    let now : c.join_seat.new.seat.me.0 ≡ both v w = ap (λ m. m.0) c.join_seat.ensures.2 in
    let cut = All-pop (λ (s : ScanValue). s.id ≡ c.args.board.now.shared.table_id) items rest (Some c.in-Some.scan) last inv.own in record {
      seat_is = (c.join_seat.ensures.0 ∙ inv.seat_is.0, ap (λ m. m.1) c.join_seat.ensures.2 ∙ inv.seat_is.1);
      part = let n = ap (λ u. u.parts) now in let had = inv.part in omega arith;
      own = cut.0;
      parts = let n = ap (λ u. u.parts) now in let t = parts_taken v w items rest c.in-Some.scan is last in let had = inv.parts in omega arith;
      marked = ap (λ u. u.marked) now ∙ marked_taken v w items rest c.in-Some.scan is last ∙ inv.marked;
      drawn = λ x. let n = ap (λ u. times x u.drawn) now in let t = drawn_taken v w items rest c.in-Some.scan is last x in let had = inv.drawn x in omega arith;
      looked = λ b. let n = ap (λ u. times_seen b u.looks) now in let t = looked_taken v w items rest c.in-Some.scan is last b in let had = inv.looked b in omega arith;
      ended = λ limit all.
          let had = inv.ended limit all in
          let t = ended_taken v w items rest c.in-Some.scan is last limit c.into_seat.ensures.ended had.0 in
          let n = ap (λ u. count_past limit u.drawn) now in
          let before = had.1 in
          let step = t.1 in
          (t.0, omega arith);
    }
