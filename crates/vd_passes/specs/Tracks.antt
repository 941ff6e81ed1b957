-- What one sector may hold, and the writes on it that are open, each with its content there.
use Rattle.std.specs.Prelude.{ℕ, List, [], ◌∷◌, ◌++◌, map, if◌then◌else◌, Option, Some, None}
use Rattle.vd_law.specs.declared.entry.Sector.{Sector}
use Rattle.vd_law.specs.declared.entry.CallId.{CallId}
use Rattle.vd_law.specs.Entries.{Entry, Ask, Issue, Done, Broke, Seen, Reply, same_call, past}
use Rattle.vd_law.specs.Contents.{sector_in, Open, open_writes, could}

pub record Track : Type 0 where
  pub contents : List Sector
  pub writes : List (CallId × Sector)

abbrev pub content_by : Open → CallId × Sector
content_by w = (w.call, w.content)

-- the writes on sector s that are open, the last one first
unfoldable pub writes : List Entry → ℕ → List (CallId × Sector)
writes log s = map content_by (open_writes (past log) s)

unfoldable pub track : List Sector → List Entry → ℕ → Track
track start log s = record { contents = could start log s; writes = writes log s }

-- the open writes without those of one call
abbrev pub writes_without : CallId → List (CallId × Sector) → List (CallId × Sector)
writes_without id [] = []
writes_without id (w ∷ ws) = if same_call w.0 id then writes_without id ws else (w ∷ writes_without id ws)

-- the contents after a call's open write is done
abbrev pub contents_with_done : CallId → List (CallId × Sector) → List Sector → List Sector
contents_with_done id [] contents = contents
contents_with_done id (w ∷ ws) contents = if same_call w.0 id then (w.1 ∷ []) else contents_with_done id ws contents

-- a content that was seen is the only one, unless another call's write is open
abbrev pub contents_with_seen : Sector → List (CallId × Sector) → List Sector → List Sector
contents_with_seen v [] contents = v ∷ []
contents_with_seen v (w ∷ ws) contents = contents

abbrev pub track_after_issue : CallId → Option Sector → Track → Track
track_after_issue id None t = t
track_after_issue id (Some c) t = record { contents = t.contents ++ c ∷ []; writes = (id, c) ∷ t.writes }

abbrev pub track_after_seen : CallId → Option Sector → Track → Track
track_after_seen id None t = t
track_after_seen id (Some v) t = record { contents = contents_with_seen v (writes_without id t.writes) t.contents; writes = t.writes }

-- how an entry changes what is known of sector s
unfoldable pub follow : ℕ → Track → Entry → Track
follow s t (Ask id request) = t
follow s t (Issue id first content) = track_after_issue id (sector_in first content s) t
follow s t (Done id) = record { contents = contents_with_done id t.writes t.contents; writes = writes_without id t.writes }
follow s t (Broke id) = record { contents = t.contents; writes = writes_without id t.writes }
follow s t (Seen id first content) = track_after_seen id (sector_in first content s) t
follow s t (Reply id answer) = t
