-- How a flush's puts become what every image has.
use Rattle.std.proofs.Common.{ℕ, ◌≡◌, ◌+◌, ◌<◌, ◌≤◌, ◌⊎◌, inl, inr, List, [], ◌∷◌, ◌++◌, length, true, arith}
use Rattle.vd_image.specs.Log.{Sector, CallId, Entry, Done, Broke, At, Covers, IsIssueOf}
use Rattle.vd_image.specs.Image.{IsApart}
use Rattle.vd_crash.specs.facts.Safe.{NumberedEntry, Opening}
use Rattle.vd_crash.specs.facts.Facts.{IsClaimSettled}
use Rattle.vd_image.proofs.Logs.{at_end, at_below, writes_push, writes_pushed, writes_end, writes_below}
use Rattle.vd_crash.proofs.facts.Metadata.{WritesPlaces}
use Rattle.vd_crash.specs.flushes.Flushing.{IsLast}
use Rattle.vd_crash.specs.flushes.Passes.{IsPutting}
use Rattle.vd_crash.specs.flushes.Stage.{FlushProgress, HasPut}
use Rattle.vd_crash.proofs.flushes.Passes.{in_flight_push, recorded_push, page_push}
use Rattle.vd_crash.specs.facts.Memory.{Memory}
use Rattle.vd_crash.specs.facts.Metadata.{Claim}
use Rattle.vd_crash.proofs.flushes.Synced.{last_done}
use Rattle.std.proofs.lemmas.List.{length_push}

-- a put is issued
pub putting : (log : List Entry) (e : Entry) (a : ℕ) (v : Sector) (ticket : CallId) → Covers e a v → IsIssueOf e ticket → IsPutting (log ++ e ∷ []) a v ticket (length log)
putting log e a v ticket covers issues = record {
  writes = writes_end log e a v covers;
  flight = record {
    event = e;
    stands = at_end log e;
    issues = issues;
    running = λ m after found. past m after (below m found);
  };
  last = λ j u after w. past j after (writes_below (log ++ e ∷ []) j a u w);
}
  where
    past : (m : ℕ) → length log < m → m < length (log ++ e ∷ []) → ⊥
    past m after less = let l = length_push log e in omega arith

    below : (m : ℕ) → At (log ++ e ∷ []) m (Done ticket) ⊎ At (log ++ e ∷ []) m (Broke ticket) → m < length (log ++ e ∷ [])
    below m (inl h) = at_below (log ++ e ∷ []) m (Done ticket) h
    below m (inr h) = at_below (log ++ e ∷ []) m (Broke ticket) h

-- other events leave it in flight
pub putting_push : (log : List Entry) (e : Entry) (a : ℕ) (v : Sector) (ticket : CallId) (i : ℕ) → (Done ticket ≡ e → ⊥) → (Broke ticket ≡ e → ⊥) → ((u : Sector) → Covers e a u → ⊥)
    → IsPutting log a v ticket i → IsPutting (log ++ e ∷ []) a v ticket i
putting_push log e a v ticket i no_done no_broke other h = record {
  writes = writes_push log e i a v h.writes;
  flight = in_flight_push log e i ticket no_done no_broke h.flight;
  last = λ j u after w. elim (writes_pushed log e j a u w) [ inl old ↦ h.last j u after old | inr new ↦ other u new.1 ];
}

-- its Done makes it the last content of its sector
pub put_done : (log : List Entry) (a : ℕ) (v : Sector) (ticket : CallId) (i : ℕ) → IsPutting log a v ticket i → IsLast (log ++ Done ticket ∷ []) a v (length log + 1)
put_done log a v ticket i h = last_done log a i v h.writes h.last (record { event = h.flight.event; id = ticket; stands = h.flight.stands; issues = h.flight.issues; open_still = h.flight.running })

pub last_later : (log : List Entry) (s : ℕ) (v : Sector) (by more : ℕ) → by ≤ more → IsLast log s v by → IsLast log s v more
last_later log s v by more order h = record { at = h.at; done = h.done; writes = h.writes; ends = h.ends; last = h.last; before = let b = h.before in omega arith }

-- what was put stays so beside other passes' events
pub has_put_push : (o : Opening) (log : List Entry) (history : List NumberedEntry) (m : Memory) (e : Entry) (p : FlushProgress) → IsApart o.layout
    → ((c : ℕ) → p.written c ≡ true → c < o.layout.chunks) → WritesPlaces o e → ((t : Claim) → IsClaimSettled o log history m p.snapshot.begun t → IsClaimSettled o (log ++ e ∷ []) history m p.snapshot.begun t)
    → HasPut o log history m p → HasPut o (log ++ e ∷ []) history m p
has_put_push o log history m e p apart in_range places still h = record {
  records = λ b is. recorded_push o log m e p.first p.by b (λ k u below within covers. let g = places (o.layout.slot_at k) u covers in apart.place_slot g.0 g.1 k g.2 within g.3) (h.records b is);
  pages = λ c is. page_push o log history m p.snapshot e p.by c (λ u covers. let g = places (o.layout.map_at c) u covers in apart.place_map g.0 g.1 c g.2 (in_range c is) g.3) still (h.pages c is);
}
