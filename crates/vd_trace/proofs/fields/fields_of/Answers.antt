use Rattle.std.proofs.Common.{arith, eqb, length-append, List, ℕ, Bor}
use Rattle.std.proofs.lemmas.List.Splits.{length-slice_split}
use Rattle.std.proofs.lemmas.List.{length-map}
use Rattle.std.specs.Prelude.{map}
use Rattle.std.specs.List.{slice_split}
use Rattle.vd_trace.proofs.fields.fields_of.Goals as goal

pub returns-clause-many : goal.returns-clause-many
returns-clause-many c =
    let some = length-slice_split (λ b. eqb b 32) c.loop.rest.now in
    rw c.loop.invariant.split (omega (arith, some, length-append (map (λ f. f.now) c.loop.fields.items) (slice_split (λ b. eqb b 32) c.loop.rest.now), length-map c.loop.fields.items (λ (f : Bor (List ℕ)). f.now)))
