use Rattle.std.proofs.Common.{◌+◌, ◌-◌, ◌≤◌, arith}
use Rattle.vd_table.specs.Runs.{TakesRun}
use Rattle.vd_table.proofs.Links.{one_to_one}
use Rattle.vd_table.proofs.RunLaws.{enough-one, first-fits, run-number, run-storage, run-keeps, run-others, run-all, run-one_to_one, run-more, run-whole}
use Rattle.vd_table.proofs.table.Table.take_run.Goals as goal
use Rattle.vd_table.proofs.table.Table.take_run.Goals.{After-loop-chunk}

-- the run at the end of the loop
done : (c : After-loop-chunk) → c.args.from + c.args.count ≤ c.loop-chunk.chunk → TakesRun c.args.self.now c.args.from c.args.count c.loop-chunk.self
done c end = run-whole c.args.self.now c.loop-chunk.self c.args.from c.args.count c.loop-chunk.chunk (omega arith) c.loop-chunk.invariant.takes

pub take_one-requires-clause-inside : goal.take_one-requires-clause-inside
take_one-requires-clause-inside c = omega (arith, run-number c.args.self.now c.args.from (c.loop-chunk.chunk - c.args.from) c.loop-chunk.self c.loop-chunk.invariant.takes)

pub take_one-requires-clause-enough : goal.take_one-requires-clause-enough
take_one-requires-clause-enough c = first-fits c.loop-chunk.self c.loop-chunk.chunk (c.args.from + c.args.count - c.loop-chunk.chunk) (c.args.from + c.args.count - (c.loop-chunk.chunk + 1)) (omega arith) c.loop-chunk.invariant.enough

pub loop-chunk-preserved : goal.loop-chunk-preserved
loop-chunk-preserved c = record {
  takes = run-more c.args.self.now c.loop-chunk.self c.take_one.new.self c.args.from c.loop-chunk.chunk (omega arith) c.loop-chunk.invariant.takes c.take_one.ensures;
  enough = enough-one c.loop-chunk.self c.take_one.new.self c.loop-chunk.chunk c.take_one.ensures (c.args.from + c.args.count - c.loop-chunk.chunk) (c.args.from + c.args.count - (c.loop-chunk.chunk + 1)) (omega arith) c.loop-chunk.invariant.enough;
}

pub returns-clause-kept : goal.returns-clause-kept
returns-clause-kept c = run-keeps c.args.self.now c.args.from c.args.count c.loop-chunk.self (done (goal.at.returns-clause-kept c).After-loop-chunk c.loop-chunk-test.false)

pub returns-clause-all : goal.returns-clause-all
returns-clause-all c = run-all c.args.self.now c.args.from c.args.count c.loop-chunk.self (done (goal.at.returns-clause-all c).After-loop-chunk c.loop-chunk-test.false)

pub returns-clause-others : goal.returns-clause-others
returns-clause-others c = run-others c.args.self.now c.args.from c.args.count c.loop-chunk.self (done (goal.at.returns-clause-others c).After-loop-chunk c.loop-chunk-test.false)

pub returns-clause-chunks : goal.returns-clause-chunks
returns-clause-chunks c = run-number c.args.self.now c.args.from c.args.count c.loop-chunk.self (done (goal.at.returns-clause-chunks c).After-loop-chunk c.loop-chunk-test.false)

pub returns-clause-storage : goal.returns-clause-storage
returns-clause-storage c = run-storage c.args.self.now c.args.from c.args.count c.loop-chunk.self (done (goal.at.returns-clause-storage c).After-loop-chunk c.loop-chunk-test.false)

pub returns-clause-one_to_one : goal.returns-clause-one_to_one
returns-clause-one_to_one c = run-one_to_one c.args.self.now c.args.from c.args.count c.loop-chunk.self (done (goal.at.returns-clause-one_to_one c).After-loop-chunk c.loop-chunk-test.false) (rw (← c.self.view_is) (one_to_one c.self.inside.storage.items c.self.inside.owners.items c.self.inside.free c.self.invariant))
