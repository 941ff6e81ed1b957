use Rattle.std.proofs.Common.{◌≡◌, ◌++◌, length}
use Rattle.std.specs.Prelude.{map, ◌==◌}
use Rattle.std.specs.List.{slice_split}
use Rattle.vd_trace.proofs.fields.fields_of.Given as goal

abbrev pub invariant-loop : goal.invariant-loop
invariant-loop l = record {
  few : length l.fields.items ≡ l.counter;
  split : slice_split (λ b. b == 32) l.line ≡ map (λ f. f.now) l.fields.items ++ slice_split (λ b. b == 32) l.rest;
}
