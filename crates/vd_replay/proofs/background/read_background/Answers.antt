use Rattle.std.proofs.Common.{length, ap, arith}
use Rattle.vd_format.proofs.BackgroundLaws.{read_parts}
use Rattle.vd_replay.proofs.background.read_background.Goals as goal

pub returns-in_ok-read_base-clause-read : goal.returns-in_ok-read_base-clause-read
returns-in_ok-read_base-clause-read g c told =
    let same = c.in_ok-read_base.ensures.calls.keeps.telling.content told in
    let size = c.sectors.ensures.content (c.in_ok-read_base.ensures.calls.keeps.telling.told_before told) in
    let many = ap length same in
    read_parts _ c.read_base.new.out c.clear.new.sectors c.args.tracked c.args.first _ (length c.split_at_mut-front.result.1.now) c.clear.ensures (omega arith) (omega arith)
    (λ some. c.in_ok-read_base.ensures.read told)

pub returns-else-count-gt0-clause-read : goal.returns-else-count-gt0-clause-read
returns-else-count-gt0-clause-read g c told =
    let size = c.sectors.ensures.content told in
    read_parts _ c.split_at_mut-front.result.0.now c.clear.new.sectors c.args.tracked c.args.first _ (length c.split_at_mut-front.result.1.now) c.clear.ensures (omega arith) (omega arith)
    (λ some. absurd (omega arith))
