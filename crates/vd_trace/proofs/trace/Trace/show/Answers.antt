use Rattle.std.proofs.Common.{◌<◌, length, ap, arith}
use Rattle.std.proofs.lemmas.List.{length-map}
use Rattle.vd_trace.specs.Keeping.{showing_of}
use Rattle.vd_trace.specs.Traces.{Script}
use Rattle.vd_trace.proofs.Found.{shown-ranged}
use Rattle.vd_trace.proofs.trace.Trace.show.Goals as goal

pub returns-clause-range : goal.returns-clause-range
returns-clause-range c =
    let many = ap (λ (s : Script). length s.shows) c.self.view_is in
    let inside : c.args.at < length c.self.inside.shows.items = omega (arith, c.requires, many, length-map c.self.inside.shows.items showing_of) in
    rw c.from.ensures (shown-ranged c.self.inside c.args.at c.index-shown.result.now c.self.invariant inside c.index-shown.ensures)
