-- Steps of a pass that move no write of its own keep all that a core keeps.
use Rattle.std.proofs.Common.{ℕ, ◌≡◌, ◌⊎◌, List, [], ◌∷◌, ◌++◌, Option, refl}
use Rattle.vd_image.specs.Log.{CallId, Entry, Done, Broke, IsIssueOf}
use Rattle.vd_crash.specs.facts.Safe.{NumberedEntry, Opening}
use Rattle.vd_crash.specs.flushes.Stage.{Flight, HasTicket, HasCall, IsOtherCall}
use Rattle.vd_crash.specs.facts.Words.{AnswersWell, Grows, WritesNothing}
use Rattle.vd_crash.specs.flushes.Moves.{world, entry_now, Tells, Notes, Takes, Keeps, Keeps_contents}
use Rattle.vd_crash.specs.primitives.Core.{AsksNone, Stage, StageTicket, IsCore}
use Rattle.vd_crash.proofs.facts.Metadata.{WritesPlaces}
use Rattle.vd_crash.proofs.flushes.Moves.{step_keeps}
use Rattle.vd_crash.proofs.flushes.Flights.{flights_event, flights_entry, flights_memory}
use Rattle.vd_crash.proofs.facts.Steps.{next_ordinary}
use Rattle.vd_crash.proofs.facts.Writes.{no_ends}
use Rattle.vd_crash.proofs.flushes.Stage.{quiet_follows}
use Rattle.vd_crash.proofs.primitives.Core.{stage_event, stage_entry, stage_storage, with_table}
use Rattle.vd_crash.specs.facts.Memory.{Memory, IsTable}

pub kept : (o : Opening) (log : List Entry) (history : List NumberedEntry) (m : Memory) (flights : ℕ → Flight) (stage : Stage) → IsCore o log history m flights stage → Keeps o (world log history m)
kept o log history m flights stage c = record { safe = c.safe; holds = c.holds }

pub quiet_places : (o : Opening) (e : Entry) → WritesNothing e → WritesPlaces o e
quiet_places o e quiet = λ s v covers. absurd (quiet s v covers)

-- a store event that writes nothing and ends nothing that is in flight
pub core_tells : (o : Opening) (log : List Entry) (history : List NumberedEntry) (m : Memory) (flights : ℕ → Flight) (stage : Stage) (e : Entry) → IsCore o log history m flights stage → WritesNothing e
    → ((k : ℕ) (t : CallId) → HasTicket (flights k) t → (Done t ≡ e) ⊎ (Broke t ≡ e) → ⊥) → ((t : CallId) → StageTicket stage t → (Done t ≡ e) ⊎ (Broke t ≡ e) → ⊥) → AsksNone stage e
    → IsCore o (log ++ e ∷ []) history m flights stage
core_tells o log history m flights stage e c quiet passes flush asks =
    let k = step_keeps o (world log history m) (world (log ++ e ∷ []) history m) (Keeps_contents (Tells e quiet)) (kept o log history m flights stage c) in
    record {
      safe = k.safe;
      holds = k.holds;
      in_flight = flights_event o log history m flights e passes c.in_flight;
      so_far = stage_event o log history m stage e c.holds.apart (quiet_places o e quiet) (quiet_follows o log history m e quiet) flush asks c.so_far;
      tickets = c.tickets;
    }

-- an entry that is no issue and no end of a write, and answers no flush well but one that is due
pub core_notes : (o : Opening) (log : List Entry) (history : List NumberedEntry) (m : Memory) (flights : ℕ → Flight) (stage : Stage) (event : Entry) → IsCore o log history m flights stage → WritesNothing event
    → ((id : CallId) → event ≡ Done id → ⊥) → ((id : CallId) → IsIssueOf event id → ⊥) → ((k : ℕ) (id : CallId) → HasCall (flights k) id → IsOtherCall (entry_now log event) id)
    → AnswersWell o log history m (entry_now log event)
    → IsCore o log (history ++ entry_now log event ∷ []) m flights stage
core_notes o log history m flights stage event c quiet no_done no_issue other answers =
    let k = step_keeps o (world log history m) (world log (history ++ entry_now log event ∷ []) m) (Keeps_contents (Notes event (record { writes_nothing = quiet; no_done = no_done; answers = answers }))) (kept o log history m flights stage c) in
    record {
      safe = k.safe;
      holds = k.holds;
      in_flight = flights_entry o log history m flights (entry_now log event) no_issue other c.in_flight;
      so_far = stage_entry o log history m stage (entry_now log event) (next_ordinary o m.discards.drops history c.holds.facts.discards) c.holds.facts.opening.within refl (λ b q given. no_ends o log history m.discards.drops (entry_now log event) no_done b q) c.so_far;
      tickets = c.tickets;
    }

-- chunks take storage
pub core_takes : (o : Opening) (log : List Entry) (history : List NumberedEntry) (m : Memory) (flights : ℕ → Flight) (stage : Stage) (table : ℕ → Option ℕ) → IsCore o log history m flights stage
    → Grows m.index.table table → IsTable o.layout.storage table → IsCore o log history (with_table m table) flights stage
core_takes o log history m flights stage table c grows is_table =
    let k = step_keeps o (world log history m) (world log history (with_table m table)) (Keeps_contents (Takes table grows is_table)) (kept o log history m flights stage c) in
    record {
      safe = k.safe;
      holds = k.holds;
      tickets = c.tickets;
      in_flight = flights_memory o log history m (with_table m table) flights (λ l. record { fresh = λ b has is. is; pending = λ b n has is. is; sealed = λ call a n is. is }) c.in_flight;
      so_far = stage_storage o log history m stage table grows c.so_far;
    }
