use Rattle.std.proofs.Common.{ℕ, ◌≡◌, ap, ◌∙◌, arith, length, take, length-take-le}
use Rattle.std.proofs.lemmas.Result.{err_from_is_err_and}
use Rattle.vd_format.specs.Layouts.{sectors_for_bytes}
use Rattle.vd_replay.specs.Fresh.{are_empty}
use Rattle.vd_device.specs.Quiet.{sectors_from}
use Rattle.vd_device.proofs.QuietLaws.{reads_nothing, reads_twice, ready_again, fault_of_longer}
use Rattle.vd_replay.proofs.AreaLaws.{more_read, nothing_read}
use Rattle.vd_replay.proofs.area.is_empty_area.Goals as goal

pub loop-done-init : goal.loop-done-init
loop-done-init g c = (reads_nothing c.requires.ready, λ told. nothing_read _ _ _, omega arith)

pub is_empty_piece-requires-clause-ready : goal.is_empty_piece-requires-clause-ready
is_empty_piece-requires-clause-ready g c = ready_again c.requires.ready c.loop-done.invariant.0

pub is_empty_piece-requires-clause-range : goal.is_empty_piece-requires-clause-range
is_empty_piece-requires-clause-range g c =
    let same = c.loop-done.invariant.0.keeps.counts.sectors in
    let n : length (take c.min-some.result c.loop-done.room) ≡ c.min-some.result = length-take-le c.min-some.result c.loop-done.room (omega arith) in
    (omega arith, omega arith, omega arith)

pub returns-in_err-piece-clause-fault : goal.returns-in_err-piece-clause-fault
returns-in_err-piece-clause-fault g c =
    let p = err_from_is_err_and c.from_residual.result c.from_residual.ensures.1 in
    rw (p.1, p.2) (fault_of_longer c.loop-done.invariant.0 c.is_empty_piece.ensures.quiet c.in_err-piece.ensures.fault)

pub returns-in_err-piece-clause-quiet : goal.returns-in_err-piece-clause-quiet
returns-in_err-piece-clause-quiet g c = reads_twice c.loop-done.invariant.0 c.is_empty_piece.ensures.quiet

pub loop-done-preserved : goal.loop-done-preserved
loop-done-preserved g c = (
  reads_twice c.loop-done.invariant.0 c.is_empty_piece.ensures.quiet,
  (λ told. (let before = c.is_empty_piece.ensures.quiet.keeps.telling.told_before told in
      let n : length (take c.min-some.result c.loop-done.room) ≡ c.min-some.result = length-take-le c.min-some.result c.loop-done.room (omega arith) in
      more_read (g.S.Store.disk c.loop-done.store).held (g.S.Store.disk c.is_empty_piece.new.store).held c.args.from c.args.bytes c.loop-done.done c.min-some.result _ c.loop-done.empty c.in_ok-piece.piece
      n (c.is_empty_piece.ensures.quiet.held told) (c.loop-done.invariant.1 before) (c.in_ok-piece.ensures.read told))),
  omega arith,
)

pub returns-clause-quiet : goal.returns-clause-quiet
returns-clause-quiet g c = c.loop-done.invariant.0

pub returns-clause-read : goal.returns-clause-read
returns-clause-read g c told =
    let all : c.loop-done.done ≡ sectors_for_bytes c.args.bytes = (let most = c.loop-done.invariant.2 in omega arith) in
    (c.loop-done.invariant.1 told).empty_is ∙ ap (λ (k : ℕ). are_empty c.args.bytes (sectors_from (g.S.Store.disk c.loop-done.store).held c.args.from k)) all
