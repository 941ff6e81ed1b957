use Rattle.std.proofs.Common.{ℕ, ◌≡◌, ◌+◌, take, length, subst, arith, length-take-le}
use Rattle.vd_make.specs.Putting.{IsRangeWritten}
use Rattle.vd_device.proofs.Keeping.{keeps-on, keeps-same}
use Rattle.vd_make.proofs.PutLaws.{all_first, lays_none, lays_more, laid_none, laid_more}
use Rattle.vd_make.proofs.filling.lay.Goals as goal
use Rattle.vd_make.proofs.CallLaws.{fault_earlier}

pub loop-at-init : goal.loop-at-init
loop-at-init g c = record {
  ready = c.requires.ready;
  keeps = keeps-same g.S.Store c.args.store.now c.requires.ready.told;
  lays = λ v all told. lays_none v _ _ _ (c.requires.ready.rest told);
  laid = λ v all told. laid_none v _ _;
  low = omega arith;
  high = c.requires.range.0;
}

pub returns-in_err-put-clause-lays : goal.returns-in_err-put-clause-lays
returns-in_err-put-clause-lays g c v all told =
    let before = c.put.ensures.keeps.telling.told_before told in
    let n : length (take c.min-some.result c.args.content.now) ≡ c.min-some.result = length-take-le c.min-some.result c.args.content.now (omega arith) in
    lays_more v _ _ _ _ _ _ _ c.loop-at.invariant.low (omega arith) (c.loop-at.invariant.lays v all before) (c.put.ensures.lays v (all_first v _ _ all) told)

pub loop-at-preserved : goal.loop-at-preserved
loop-at-preserved g c =
    let n : length (take c.min-some.result c.args.content.now) ≡ c.min-some.result = length-take-le c.min-some.result c.args.content.now (omega arith) in
    let low = c.loop-at.invariant.low in
    let high = c.loop-at.invariant.high in
    record {
      ready = c.put.ensures.ready;
      keeps = keeps-on g.S.Store c.args.store.now c.loop-at.store c.put.new.store c.loop-at.invariant.keeps c.put.ensures.keeps;
      lays = λ v all told. (
          let before = c.put.ensures.keeps.telling.told_before told in
          lays_more v _ _ _ _ _ _ _ low (omega arith) (c.loop-at.invariant.lays v all before) (c.put.ensures.lays v (all_first v _ _ all) told));
      laid = λ v all told. (
          let before = c.put.ensures.keeps.telling.told_before told in
          subst (λ (k : ℕ). IsRangeWritten v c.args.from (c.loop-at.at + k) (g.S.Store.disk c.put.new.store)) n
          (laid_more v _ _ _ _ _ low (c.loop-at.invariant.laid v all before) (c.put.ensures.lays v (all_first v _ _ all) told) (c.in_ok-put.ensures.laid v (all_first v _ _ all) told)));
      low = omega arith;
      high = omega arith;
    }

pub returns-clause-laid : goal.returns-clause-laid
returns-clause-laid g c v all told =
    let here : c.loop-at.at ≡ c.args.to = (let high = c.loop-at.invariant.high in let past = c.loop-at-test.false in omega (arith, high, past)) in
    subst (λ (n : ℕ). IsRangeWritten v c.args.from n (g.S.Store.disk c.loop-at.store)) here (c.loop-at.invariant.laid v all told)
