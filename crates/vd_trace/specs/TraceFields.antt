-- How a trace is kept.
use Rattle.std.specs.Prelude.{◌≤◌, length, map, sum_by}
use Rattle.vd_trace.specs.declared.trace.Trace.TheInside.{Inside}
use Rattle.vd_trace.specs.Texts.{IsScript}
use Rattle.vd_trace.specs.Traces.{Script}
use Rattle.vd_trace.specs.Keeping.{lists, sectors_in, asking_of, showing_of, HasItems}

abbrev pub script_in : Inside → Script
script_in t = record { guests = length t.places.items; asks = map (asking_of t.sectors.items) t.items.items; shows = map showing_of t.shows.items }

pub record IsTrace (t : Inside) : Type 0 where
  pub items : HasItems (length t.places.items) t.sectors.items t.items.items (lists t.places.items) (map (asking_of t.sectors.items) t.items.items)
  pub few : length t.items.items ≤ 500000
  pub small : sum_by (λ item. sectors_in item.work) t.items.items ≤ 262144
  pub script : IsScript (script_in t)
