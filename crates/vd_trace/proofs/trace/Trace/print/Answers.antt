use Rattle.vd_io.proofs.Composing.{writes-failed, writes-after}
use Rattle.vd_trace.proofs.Pieces.{kept-text}
use Rattle.vd_trace.proofs.RoundTrips.{reads-back}
use Rattle.vd_trace.proofs.trace.Trace.print.Goals as goal

pub returns-in_err-put_items-clause-writes : goal.returns-in_err-put_items-clause-writes
returns-in_err-put_items-clause-writes g c = λ told.
    rw (← c.self.view_is, kept-text c.self.inside.sectors.items c.self.inside.items.items c.self.inside.shows.items, ← c.as_slice.ensures.value, ← c.as_slice-2.ensures.value)
    (writes-failed _ c.from_residual.ensures.0 (c.in_err-put_items.ensures.writes told))

pub returns-in_err-put_items-clause-reads_back : goal.returns-in_err-put_items-clause-reads_back
returns-in_err-put_items-clause-reads_back g c = rw (← c.self.view_is) (reads-back _ c.self.invariant.script)

pub returns-clause-writes : goal.returns-clause-writes
returns-clause-writes g c = λ told.
    rw (← c.self.view_is, kept-text c.self.inside.sectors.items c.self.inside.items.items c.self.inside.shows.items, ← c.as_slice.ensures.value, ← c.as_slice-2.ensures.value, ← c.as_slice-3.ensures.value)
    (writes-after _ (c.in_ok-put_items.ensures.writes (c.put_shows.ensures.told_before told)).ok (c.put_shows.ensures.writes told))

pub returns-clause-reads_back : goal.returns-clause-reads_back
returns-clause-reads_back g c = rw (← c.self.view_is) (reads-back _ c.self.invariant.script)
