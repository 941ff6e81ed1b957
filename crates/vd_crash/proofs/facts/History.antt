-- The entries of a history and its events.
use Rattle.std.proofs.Common.{ℕ, zero, suc, ◌≡◌, List, [], ◌∷◌, Some, Option, ap}
use Rattle.std.specs.Option.{option_map}
use Rattle.vd_image.specs.Log.{Sector, Entry, At, Writes}
use Rattle.vd_crash.specs.facts.Safe.{NumberedEntry, events}
use Rattle.vd_crash.specs.facts.Facts.{HasEntry, GuestWrites}

-- each event has its entry
pub numbered_at : (history : List NumberedEntry) (j : ℕ) (e : Entry) → At (events history) j e → (n : ℕ) × HasEntry history j n e
numbered_at [] j e h = absurd cc
numbered_at (x ∷ history) zero e h = (x.number, let same : x.event ≡ e = cc in ap (λ (v : Entry). Some (record { event = v; number = x.number })) same)
numbered_at (x ∷ history) (suc j) e h = numbered_at history j e h

-- each entry's event stands at its place
pub event_at : (history : List NumberedEntry) (j n : ℕ) (e : Entry) → HasEntry history j n e → At (events history) j e
event_at [] j n e h = absurd cc
event_at (x ∷ history) zero n e h = ap (λ (o : Option NumberedEntry). option_map (λ (y : NumberedEntry). y.event) o) h
event_at (x ∷ history) (suc j) n e h = event_at history j n e h

pub writes_of : (history : List NumberedEntry) (j n s : ℕ) (v : Sector) → GuestWrites history j n s v → Writes (events history) j s v
writes_of history j n s v w = record { event = w.event; stands = event_at history j n w.event w.stands; covers = w.covers }

pub guest_writes_of : (history : List NumberedEntry) (j s : ℕ) (v : Sector) → Writes (events history) j s v → (n : ℕ) × GuestWrites history j n s v
guest_writes_of history j s v w =
    let h = numbered_at history j w.event w.stands in
    (h.0, record { event = w.event; stands = h.1; covers = w.covers })
