-- The puts of a flush, and adopting, keep all that a core keeps.
use Rattle.std.proofs.Common.{ℕ, ◌≡◌, ◌+◌, ◌<◌, inl, inr, List, [], ◌∷◌, ◌++◌, length, Some, Bool, true, false}
use Rattle.vd_image.specs.Log.{Sector, CallId, Entry, Covers, IsIssueOf}
use Rattle.vd_image.specs.Image.{Header, Record}
use Rattle.vd_crash.specs.facts.Safe.{NumberedEntry, Opening}
use Rattle.vd_crash.specs.flushes.Stage.{Flight, HasTicket, FlushProgress}
use Rattle.vd_crash.specs.facts.Words.{with_blocks, WritesOnly, with_index}
use Rattle.vd_crash.specs.primitives.Core.{IsCore, Resting, Working, Putting, Puts_next}
use Rattle.vd_crash.proofs.flushes.Flights.{flights_memory}
use Rattle.vd_crash.specs.flushes.Flushing.{IsWantedRecord, IsWantedPage}
use Rattle.vd_crash.proofs.flushes.Stage.{so_far_record, so_far_page}
use Rattle.vd_crash.specs.primitives.Primitives.{IsNextHeader}
use Rattle.vd_crash.proofs.flushes.Moves.{adopted}
use Rattle.vd_crash.proofs.primitives.FlushSteps.{core_put, core_put_next}
use Rattle.vd_crash.specs.facts.Memory.{Memory}
use Rattle.vd_crash.specs.facts.Metadata.{Off_base}
use Rattle.vd_crash.proofs.flushes.Putting.{only_no_place}
use Rattle.vd_crash.proofs.flushes.Wanted.{wanted_written, off_after_wanted, caught_in_page}

-- the put of a record
pub does_put_record : (o : Opening) (log : List Entry) (history : List NumberedEntry) (m : Memory) (flights : ℕ → Flight) (call ticket : CallId) (a n q : ℕ) (p : FlushProgress) (e : Entry) (v : Sector) (r : Record) → IsCore o log history m flights (Working call a n q p)
    → ((k : ℕ) → HasTicket (flights k) ticket → ⊥) → IsIssueOf e ticket → m.index.cursor < o.layout.slots → WritesOnly e (o.layout.slot_at m.index.cursor) v → Covers e (o.layout.slot_at m.index.cursor) v
    → o.format.record_of v ≡ Some r → IsWantedRecord o m p.snapshot r
    → IsCore o (log ++ e ∷ []) history (with_index m m.index.sure m.index.tried (m.index.cursor + 1)) flights (Putting call a n q p (o.layout.slot_at m.index.cursor) (length log) v ticket)
does_put_record o log history m flights call ticket a n q p e v r c new issues room only covers reads item =
    core_put o log history m flights call ticket a n q p e (o.layout.slot_at m.index.cursor) v (m.index.cursor + 1) c
    (so_far_record o log history m call a n q p e v r c.holds c.so_far room only reads item) (only_no_place o e (o.layout.slot_at m.index.cursor) v only (λ s t within same. c.holds.apart.place_slot s t m.index.cursor within room same)) new issues covers (λ place s within same. c.holds.apart.place_slot place s m.index.cursor within room same)
    (λ d within same. absurd (c.holds.apart.map_slot d m.index.cursor within room same))

pub does_put_page : (o : Opening) (log : List Entry) (history : List NumberedEntry) (m : Memory) (flights : ℕ → Flight) (call ticket : CallId) (a n q : ℕ) (p : FlushProgress) (e : Entry) (v : Sector) (page : ℕ) → IsCore o log history m flights (Working call a n q p)
    → ((k : ℕ) → HasTicket (flights k) ticket → ⊥) → IsIssueOf e ticket → page < o.layout.chunks → WritesOnly e (o.layout.map_at page) v → Covers e (o.layout.map_at page) v
    → ((c : ℕ) → c < o.layout.chunks → o.layout.map_at c ≡ o.layout.map_at page → IsWantedPage o m p.snapshot c v)
    → ((c : ℕ) → p.written c ≡ true → o.layout.map_at c ≡ o.layout.map_at page → ⊥)
    → IsCore o (log ++ e ∷ []) history (with_index m m.index.sure m.index.tried m.index.cursor) flights (Putting call a n q p (o.layout.map_at page) (length log) v ticket)
does_put_page o log history m flights call ticket a n q p e v page c new issues room only covers pages once =
    core_put o log history m flights call ticket a n q p e (o.layout.map_at page) v m.index.cursor c
    (so_far_page o log history m call a n q p e v page c.holds c.so_far room only pages once) (only_no_place o e (o.layout.map_at page) v only (λ s t within same. c.holds.apart.place_map s t page within room same)) new issues covers (λ place s within same. c.holds.apart.place_map place s page within room same)
    (λ d within same. wanted_written o log history m p.snapshot call a n q d v c.holds c.so_far.way c.so_far.flushes (pages d within same))

pub does_put_header : (o : Opening) (log : List Entry) (history : List NumberedEntry) (m : Memory) (flights : ℕ → Flight) (call ticket : CallId) (a n q : ℕ) (p : FlushProgress) (e : Entry) (v : Sector) (next : Header) (tried : ℕ → Bool) → IsCore o log history m flights (Working call a n q p)
    → ((k : ℕ) → HasTicket (flights k) ticket → ⊥) → IsIssueOf e ticket → WritesOnly e o.layout.header_at v → Covers e o.layout.header_at v → IsNextHeader o m p v next tried
    → IsCore o (log ++ e ∷ []) history (with_index m false tried m.index.cursor) flights (Puts_next call a n q p (length log) v next ticket)
does_put_header o log history m flights call ticket a n q p e v next tried c new issues only covers h =
    core_put_next o log history m flights call ticket a n q p e v next tried c new issues only covers h.wider h.wanted
    (record {
      header = next;
      reads = h.reads;
      geometry = h.geometry;
      generation = inr h.generation;
      background = λ s within not_off. elim (h.background s within not_off) [
        | inl same ↦ inl same
        | inr t ↦ inr (h.generation, t, caught_in_page o log history m p.snapshot (Off_base (o.layout.block_of s)) (λ d inside. c.so_far.paged d (h.paged d inside)) (off_after_wanted o log history m p.snapshot call a n q (o.layout.block_of s) c.holds c.so_far.way (h.wanted (o.layout.block_of s) t)))
      ];
    })
    (record { reads = h.reads; generation = h.generation; background = h.background; paged = h.paged })

pub core_adopt : (o : Opening) (log : List Entry) (history : List NumberedEntry) (m : Memory) (flights : ℕ → Flight) (owed : ℕ → Bool) → IsCore o log history m flights Resting
    → ((c : ℕ) → m.owed c ≡ true → owed c ≡ true) → ((c : ℕ) → owed c ≡ true → m.fresh c ≡ true) → IsCore o log history (with_blocks m m.fresh m.born owed m.pending) flights Resting
core_adopt o log history m flights owed c more local = record {
  safe = c.safe;
  holds = adopted o log history m owed c.holds more local;
  so_far = tt;
  tickets = c.tickets;
  in_flight = flights_memory o log history m (with_blocks m m.fresh m.born owed m.pending) flights (λ l. record { fresh = λ b has is. is; pending = λ b i has is. is; sealed = λ call a n is. is }) c.in_flight;
}
