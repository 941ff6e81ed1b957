-- Each primitive from its parts, over a state that is written out.
use Rattle.std.proofs.Common.{ℕ, ◌≡◌, ◌+◌, ◌<◌, ◌⊎◌, List, [], ◌∷◌, ◌++◌, length, Some, None, Option, Bool, true, false, refl}
use Rattle.vd_image.specs.Log.{Sector, CallId, Entry, Flush, Fine, Ask, Issue, Done, Broke, Reply, Covers, IsIssueOf}
use Rattle.vd_image.specs.Image.{Header, Record}
use Rattle.vd_crash.specs.facts.Safe.{NumberedEntry, Opening}
use Rattle.vd_crash.specs.facts.Facts.{HasEntry}
use Rattle.vd_crash.specs.facts.Memory.{Discards, Memory, IsTable}
use Rattle.vd_crash.specs.facts.Words.{Grows, WritesNothing, with_blocks, IsSameWrite, IsUpdated, IsWholeWrite, WritesOnly, with_index, with_table, Sealing, sealed_memory, IsDropWrite, IsDiscarded, discarded_memory}
use Rattle.vd_crash.specs.flushes.Flushing.{Snapshot, snapshot_of, IsWantedRecord, IsWantedPage, IsLogged}
use Rattle.vd_crash.specs.flushes.Moves.{entry_now}
use Rattle.vd_crash.specs.flushes.Stage.{IsOtherCall, IsLoggedBy, Flight, Idle, Writing, Answering, HasTicket, HasBlock, HasCall, FlushProgress}
use Rattle.vd_crash.specs.primitives.Core.{Stage, Resting, Sending, Working, Putting, Syncing, Puts_next, Has_next, Syncs_next, Is_next, StageTicket, AsksNone}
use Rattle.vd_crash.specs.primitives.FlushSteps.IsFlushPrimitive.{Begins as by_begins, Data_flushed as by_data_flushed, Flush_fails as by_flush_fails, Seals as by_seals, Seals_recycle as by_seals_recycle, Synced as by_synced, Syncs as by_syncs}
use Rattle.vd_crash.specs.primitives.FlushSteps.IsPutPrimitive.{Header_done as by_header_done, Header_synced as by_header_synced, Put_done as by_put_done, Puts_header as by_puts_header, Puts_page as by_puts_page, Puts_record as by_puts_record, Syncs_header as by_syncs_header}
use Rattle.vd_crash.specs.primitives.PassSteps.IsEndPrimitive.{Ends_local as by_ends_local, Ends_whole as by_ends_whole, Fails_whole as by_fails_whole}
use Rattle.vd_crash.specs.primitives.PassSteps.IsQuietPrimitive.{Adopts as by_adopts, Answers as by_answers, Marks as by_marks, Notes as by_notes, Takes as by_takes, Tells as by_tells}
use Rattle.vd_crash.specs.primitives.PassSteps.IsWritePrimitive.{Drops as by_drops, Issues as by_issues, Issues_whole as by_issues_whole}
use Rattle.vd_crash.specs.primitives.Primitives.{MayIssue, EndsNone, nothing_put, HasCleanPage, IsNextHeader, state, IsPrimitive, Keeps_contents, Writes_block, Ends_flight, Flushes_on, Puts_on}

-- a store event that writes nothing and ends nothing that is in flight
pub Tells : {o : Opening} (log : List Entry) (history : List NumberedEntry) (m : Memory) (marked : ℕ → Bool) (flights : ℕ → Flight) (stage : Stage) (e : Entry) → WritesNothing e → EndsNone flights e → ((t : CallId) → StageTicket stage t → (Done t ≡ e) ⊎ (Broke t ≡ e) → ⊥) → AsksNone stage e
    → IsPrimitive o (state log history m marked flights stage) (state (log ++ e ∷ []) history m marked flights stage)
Tells log history m marked flights stage e nothing passes flush asks =
    Keeps_contents (by_tells e (record { writes_nothing = nothing; passes = passes; flush = flush; asks_none = asks }))

-- an entry that is no issue, no end of a write, and no good answer of a flush
pub Notes : {o : Opening} (log : List Entry) (history : List NumberedEntry) (m : Memory) (marked : ℕ → Bool) (flights : ℕ → Flight) (stage : Stage) (event : Entry) → WritesNothing event → ((id : CallId) → event ≡ Done id → ⊥) → ((id : CallId) → IsIssueOf event id → ⊥)
    → ((k : ℕ) (id : CallId) → HasCall (flights k) id → IsOtherCall (entry_now log event) id) → ((id : CallId) (a n : ℕ) → HasEntry history a n (Ask id Flush) → event ≡ Reply id Fine → ⊥)
    → IsPrimitive o (state log history m marked flights stage) (state log (history ++ entry_now log event ∷ []) m marked flights stage)
Notes log history m marked flights stage event nothing no_done no_issue other no_answer =
    Keeps_contents (by_notes event (record { writes_nothing = nothing; no_done = no_done; no_issue = no_issue; other_calls = other; no_answer = no_answer }))

-- chunks take storage
pub Takes : {o : Opening} (log : List Entry) (history : List NumberedEntry) (m : Memory) (marked : ℕ → Bool) (flights : ℕ → Flight) (stage : Stage) (table : ℕ → Option ℕ) → Grows m.index.table table → IsTable o.layout.storage table
    → IsPrimitive o (state log history m marked flights stage) (state log history (with_table m table) marked flights stage)
Takes log history m marked flights stage table grows is_table =
    Keeps_contents (by_takes table grows is_table)

-- a piece is issued, to a local block
pub Issues : {o : Opening} (log : List Entry) (history : List NumberedEntry) (m : Memory) (marked : ℕ → Bool) (flights new : ℕ → Flight) (stage : Stage) (k b p : ℕ) (id ticket : CallId) (first : ℕ) (content : List Sector) (e : Entry)
    → MayIssue flights stage k b id ticket → IsUpdated flights new k (Writing b (length history) (length log) id ticket) → IsIssueOf e ticket → m.fresh b ≡ true → m.index.table (o.layout.chunk_of b) ≡ Some p → IsSameWrite o (Issue id first content) e b p
    → IsPrimitive o (state log history m marked flights stage) (state (log ++ e ∷ []) (history ++ entry_now log (Issue id first content) ∷ []) m marked new stage)
Issues log history m marked flights new stage k b p id ticket first content e may put issues fresh given same =
    Writes_block (by_issues (record { pass = k; ticket = ticket; piece = record { call = id; first = first; content = content; event = e; block = b; storage = p }; flights = new; may = may; put = put; issues = issues }) (record { local = fresh; given = given; same = same }))

-- and of a whole block
pub Issues_whole : {o : Opening} (log : List Entry) (history : List NumberedEntry) (m : Memory) (marked : ℕ → Bool) (pending : ℕ → Option ℕ) (flights new : ℕ → Flight) (stage : Stage) (k b p : ℕ) (id ticket : CallId) (first : ℕ) (content : List Sector) (e : Entry)
    → MayIssue flights stage k b id ticket → IsUpdated flights new k (Writing b (length history) (length log) id ticket) → IsIssueOf e ticket
    → m.fresh b ≡ false → m.pending b ≡ None → b < o.layout.blocks → m.index.table (o.layout.chunk_of b) ≡ Some p → IsUpdated m.pending pending b (Some (length log)) → IsWholeWrite o m.discards (Issue id first content) e b p
    → IsPrimitive o (state log history m marked flights stage) (state (log ++ e ∷ []) (history ++ entry_now log (Issue id first content) ∷ []) (with_blocks m m.fresh m.born m.owed pending) marked new stage)
Issues_whole log history m marked pending flights new stage k b p id ticket first content e may put issues not_local none in_range given put_pending whole =
    Writes_block (by_issues_whole (record { pass = k; ticket = ticket; piece = record { call = id; first = first; content = content; event = e; block = b; storage = p }; flights = new; may = may; put = put; issues = issues })
    (record { pending = pending; not_local = not_local; none = none; in_range = in_range; given = given; put = put_pending; whole = whole }))

-- a piece is done, in a local block
pub Ends_local : {o : Opening} (log : List Entry) (history : List NumberedEntry) (m : Memory) (marked : ℕ → Bool) (owed : ℕ → Bool) (flights new : ℕ → Flight) (stage : Stage) (k b j n : ℕ) (call ticket : CallId) → flights k ≡ Writing b j n call ticket → IsUpdated flights new k Idle → m.fresh b ≡ true
    → ((c : ℕ) → m.owed c ≡ true → owed c ≡ true) → ((c : ℕ) → owed c ≡ true → (m.owed c ≡ true) ⊎ (c ≡ b)) → (m.index.stale b ≡ true) ⊎ (owed b ≡ true)
    → IsPrimitive o (state log history m marked flights stage) (state (log ++ Done ticket ∷ []) (history ++ entry_now (log ++ Done ticket ∷ []) (Done call) ∷ []) (with_blocks m m.fresh m.born owed m.pending) marked new stage)
Ends_local log history m marked owed flights new stage k b j n call ticket is put fresh still only logged =
    Ends_flight (by_ends_local (record { pass = k; block = b; entry = j; number = n; call = call; ticket = ticket; flights = new; in_flight = is; put = put }) owed fresh (record { still = still; only = only; logged = logged }))

-- of a whole block
pub Ends_whole : {o : Opening} (log : List Entry) (history : List NumberedEntry) (m : Memory) (marked : ℕ → Bool) (fresh : ℕ → Bool) (born : ℕ → ℕ) (owed : ℕ → Bool) (pending : ℕ → Option ℕ) (flights new : ℕ → Flight) (stage : Stage) (k b j n : ℕ) (call ticket : CallId)
    → flights k ≡ Writing b j n call ticket → IsUpdated flights new k Idle → m.pending b ≡ Some n → IsUpdated m.fresh fresh b true → IsUpdated m.born born b (length (log ++ Done ticket ∷ [])) → IsUpdated m.pending pending b None
    → ((c : ℕ) → m.owed c ≡ true → owed c ≡ true) → ((c : ℕ) → owed c ≡ true → (m.owed c ≡ true) ⊎ (c ≡ b)) → (m.index.stale b ≡ true) ⊎ (owed b ≡ true)
    → IsPrimitive o (state log history m marked flights stage) (state (log ++ Done ticket ∷ []) (history ++ entry_now (log ++ Done ticket ∷ []) (Done call) ∷ []) (with_blocks m fresh born owed pending) marked new stage)
Ends_whole log history m marked fresh born owed pending flights new stage k b j n call ticket is put at put_fresh put_born put_pending still only logged =
    Ends_flight (by_ends_whole (record { pass = k; block = b; entry = j; number = n; call = call; ticket = ticket; flights = new; in_flight = is; put = put }) owed at (record { still = still; only = only; logged = logged })
    (record { fresh = fresh; born = born; pending = pending; put_fresh = put_fresh; put_born = put_born; put_pending = put_pending }))

-- a piece of a whole block fails
pub Fails_whole : {o : Opening} (log : List Entry) (history : List NumberedEntry) (m : Memory) (marked : ℕ → Bool) (pending : ℕ → Option ℕ) (flights new : ℕ → Flight) (stage : Stage) (k b j n : ℕ) (call ticket : CallId) → flights k ≡ Writing b j n call ticket → IsUpdated flights new k Idle → IsUpdated m.pending pending b None
    → IsPrimitive o (state log history m marked flights stage) (state (log ++ Broke ticket ∷ []) (history ++ entry_now (log ++ Broke ticket ∷ []) (Broke call) ∷ []) (with_blocks m m.fresh m.born m.owed pending) marked new stage)
Fails_whole log history m marked pending flights new stage k b j n call ticket is put put_pending =
    Ends_flight (by_fails_whole (record { pass = k; block = b; entry = j; number = n; call = call; ticket = ticket; flights = new; in_flight = is; put = put }) pending put_pending)

-- a flush begins, with its data flush
pub Begins : {o : Opening} (log : List Entry) (history : List NumberedEntry) (m : Memory) (marked : ℕ → Bool) (flights : ℕ → Flight) (call ticket : CallId) (a n : ℕ) → HasEntry history a n (Ask call Flush)
    → IsPrimitive o (state log history m marked flights Resting) (state (log ++ Ask ticket Flush ∷ []) history m marked flights (Sending call a n (length log) (snapshot_of m history) ticket))
Begins log history m marked flights call ticket a n asked =
    Flushes_on (by_begins call ticket a n refl asked)

-- which is answered well
pub Data_flushed : {o : Opening} (log : List Entry) (history : List NumberedEntry) (m : Memory) (marked : ℕ → Bool) (flights : ℕ → Flight) (call ticket : CallId) (a n q : ℕ) (snapshot : Snapshot) (paged : ℕ → Bool) → ((c : ℕ) → paged c ≡ true → HasCleanPage o history m.discards.drops marked snapshot c)
    → IsPrimitive o (state log history m marked flights (Sending call a n q snapshot ticket)) (state (log ++ Reply ticket Fine ∷ []) history m marked flights (Working call a n q (nothing_put snapshot m.index.cursor paged)))
Data_flushed log history m marked flights call ticket a n q snapshot paged clean =
    Flushes_on (by_data_flushed (record { call = call; entry = a; number = n; data_at = q; snapshot = snapshot; ticket = ticket; stage = refl }) paged clean)

-- a flush fails
pub Flush_fails : {o : Opening} (log : List Entry) (history : List NumberedEntry) (m : Memory) (marked : ℕ → Bool) (flights : ℕ → Flight) (stage : Stage) (e : Entry) → WritesNothing e → EndsNone flights e
    → IsPrimitive o (state log history m marked flights stage) (state (log ++ e ∷ []) history m marked flights Resting)
Flush_fails log history m marked flights stage e nothing none =
    Flushes_on (by_flush_fails e nothing none)

-- a record is put
pub Puts_record : {o : Opening} (log : List Entry) (history : List NumberedEntry) (m : Memory) (marked : ℕ → Bool) (flights : ℕ → Flight) (call ticket : CallId) (a n q : ℕ) (p : FlushProgress) (e : Entry) (v : Sector) (r : Record) → ((k : ℕ) → HasTicket (flights k) ticket → ⊥) → IsIssueOf e ticket
    → m.index.cursor < o.layout.slots → WritesOnly e (o.layout.slot_at m.index.cursor) v → Covers e (o.layout.slot_at m.index.cursor) v → o.format.record_of v ≡ Some r → IsWantedRecord o m p.snapshot r
    → IsPrimitive o (state log history m marked flights (Working call a n q p)) (state (log ++ e ∷ []) history (with_index m m.index.sure m.index.tried (m.index.cursor + 1)) marked flights (Putting call a n q p (o.layout.slot_at m.index.cursor) (length log) v ticket))
Puts_record log history m marked flights call ticket a n q p e v r new issues room only covers reads wanted =
    Puts_on (by_puts_record (record { flush = record { call = call; entry = a; number = n; data_at = q; progress = p; stage = refl }; event = e; ticket = ticket; value = v; item = r; room = room; put = record { ticket_new = new; issues = issues; only = only; covers = covers }; reads = reads; wanted = wanted }))

-- a page of the map is put
pub Puts_page : {o : Opening} (log : List Entry) (history : List NumberedEntry) (m : Memory) (marked : ℕ → Bool) (flights : ℕ → Flight) (call ticket : CallId) (a n q : ℕ) (p : FlushProgress) (e : Entry) (v : Sector) (page : ℕ) → ((k : ℕ) → HasTicket (flights k) ticket → ⊥) → IsIssueOf e ticket
    → page < o.layout.chunks → WritesOnly e (o.layout.map_at page) v → Covers e (o.layout.map_at page) v
    → ((c : ℕ) → c < o.layout.chunks → o.layout.map_at c ≡ o.layout.map_at page → IsWantedPage o m p.snapshot c v)
    → ((c : ℕ) → p.written c ≡ true → o.layout.map_at c ≡ o.layout.map_at page → ⊥)
    → IsPrimitive o (state log history m marked flights (Working call a n q p)) (state (log ++ e ∷ []) history (with_index m m.index.sure m.index.tried m.index.cursor) marked flights (Putting call a n q p (o.layout.map_at page) (length log) v ticket))
Puts_page log history m marked flights call ticket a n q p e v page new issues within only covers wanted once =
    Puts_on (by_puts_page (record { flush = record { call = call; entry = a; number = n; data_at = q; progress = p; stage = refl }; event = e; ticket = ticket; value = v; page = page; within = within; put = record { ticket_new = new; issues = issues; only = only; covers = covers }; wanted = wanted; once = once }))

-- a put is done
pub Put_done : {o : Opening} (log : List Entry) (history : List NumberedEntry) (m : Memory) (marked : ℕ → Bool) (flights : ℕ → Flight) (call ticket : CallId) (a n q i sector : ℕ) (v : Sector) (p : FlushProgress) (recorded written : ℕ → Bool) → IsLoggedBy o m sector v recorded written p
    → IsPrimitive o (state log history m marked flights (Putting call a n q p sector i v ticket)) (state (log ++ Done ticket ∷ []) history m marked flights (Working call a n q (record { snapshot = p.snapshot; first = p.first; by = length log + 1; recorded = recorded; written = written; slotted = p.slotted; paged = p.paged })))
Put_done log history m marked flights call ticket a n q i sector v p recorded written logged =
    Puts_on (by_put_done (record { call = call; entry = a; number = n; data_at = q; progress = p; sector = sector; event = i; value = v; ticket = ticket; stage = refl }) recorded written logged)

-- what was put is synced
pub Syncs : {o : Opening} (log : List Entry) (history : List NumberedEntry) (m : Memory) (marked : ℕ → Bool) (flights : ℕ → Flight) (call ticket : CallId) (a n q : ℕ) (p : FlushProgress)
    → IsPrimitive o (state log history m marked flights (Working call a n q p)) (state (log ++ Ask ticket Flush ∷ []) history m marked flights (Syncing call a n q p (length log) ticket))
Syncs log history m marked flights call ticket a n q p =
    Flushes_on (by_syncs (record { call = call; entry = a; number = n; data_at = q; progress = p; stage = refl }) ticket)

-- which is answered well
pub Synced : {o : Opening} (log : List Entry) (history : List NumberedEntry) (m : Memory) (marked : ℕ → Bool) (flights : ℕ → Flight) (call ticket : CallId) (a n q r : ℕ) (p : FlushProgress) (slotted paged now : ℕ → Bool)
    → ((b : ℕ) → slotted b ≡ true → (p.slotted b ≡ true) ⊎ (p.recorded b ≡ true)) → ((c : ℕ) → paged c ≡ true → (p.paged c ≡ true) ⊎ (p.written c ≡ true))
    → ((c : ℕ) → c < o.layout.chunks → now (o.layout.map_at c) ≡ false → (marked (o.layout.map_at c) ≡ false) ⊎ (paged c ≡ true))
    → IsPrimitive o (state log history m marked flights (Syncing call a n q p r ticket)) (state (log ++ Reply ticket Fine ∷ []) history m now flights (Working call a n q (record { snapshot = p.snapshot; first = p.first; by = p.by; recorded = p.recorded; written = p.written; slotted = slotted; paged = paged })))
Synced log history m marked flights call ticket a n q r p slotted paged now slots pages cleared =
    Flushes_on (by_synced (record { flush = record { call = call; entry = a; number = n; data_at = q; progress = p; asked = r; ticket = ticket; stage = refl }; slotted = slotted; paged = paged; marked = now; slots = slots; pages = pages; cleared = cleared }))

-- the next header is put
pub Puts_header : {o : Opening} (log : List Entry) (history : List NumberedEntry) (m : Memory) (marked : ℕ → Bool) (flights : ℕ → Flight) (call ticket : CallId) (a n q : ℕ) (p : FlushProgress) (e : Entry) (v : Sector) (next : Header) (tried : ℕ → Bool) → ((k : ℕ) → HasTicket (flights k) ticket → ⊥) → IsIssueOf e ticket
    → WritesOnly e o.layout.header_at v → Covers e o.layout.header_at v → IsNextHeader o m p v next tried
    → IsPrimitive o (state log history m marked flights (Working call a n q p)) (state (log ++ e ∷ []) history (with_index m false tried m.index.cursor) marked flights (Puts_next call a n q p (length log) v next ticket))
Puts_header log history m marked flights call ticket a n q p e v next tried new issues only covers header =
    Puts_on (by_puts_header (record { flush = record { call = call; entry = a; number = n; data_at = q; progress = p; stage = refl }; event = e; ticket = ticket; value = v; next = next; tried = tried; put = record { ticket_new = new; issues = issues; only = only; covers = covers }; header = header }))

-- which is done
pub Header_done : {o : Opening} (log : List Entry) (history : List NumberedEntry) (m : Memory) (marked : ℕ → Bool) (flights : ℕ → Flight) (call ticket : CallId) (a n q i : ℕ) (p : FlushProgress) (v : Sector) (next : Header)
    → IsPrimitive o (state log history m marked flights (Puts_next call a n q p i v next ticket)) (state (log ++ Done ticket ∷ []) history m marked flights (Has_next call a n q p (length log + 1) v next))
Header_done log history m marked flights call ticket a n q i p v next =
    Puts_on (by_header_done (record { call = call; entry = a; number = n; data_at = q; progress = p; value = v; next = next }) i ticket refl)

-- it is synced
pub Syncs_header : {o : Opening} (log : List Entry) (history : List NumberedEntry) (m : Memory) (marked : ℕ → Bool) (flights : ℕ → Flight) (call ticket : CallId) (a n q by : ℕ) (p : FlushProgress) (v : Sector) (next : Header)
    → IsPrimitive o (state log history m marked flights (Has_next call a n q p by v next)) (state (log ++ Ask ticket Flush ∷ []) history m marked flights (Syncs_next call a n q p by v next (length log) ticket))
Syncs_header log history m marked flights call ticket a n q by p v next =
    Puts_on (by_syncs_header (record { call = call; entry = a; number = n; data_at = q; progress = p; value = v; next = next }) by ticket refl)

-- which is answered well
pub Header_synced : {o : Opening} (log : List Entry) (history : List NumberedEntry) (m : Memory) (marked : ℕ → Bool) (flights : ℕ → Flight) (call ticket : CallId) (a n q by r : ℕ) (p : FlushProgress) (v : Sector) (next : Header)
    → IsPrimitive o (state log history m marked flights (Syncs_next call a n q p by v next r ticket)) (state (log ++ Reply ticket Fine ∷ []) history m marked flights (Is_next call a n q p by v next r))
Header_synced log history m marked flights call ticket a n q by r p v next =
    Puts_on (by_header_synced (record { call = call; entry = a; number = n; data_at = q; progress = p; value = v; next = next }) by r ticket refl)

-- a flush by records, or with nothing to log, is over
pub Seals : {o : Opening} (log : List Entry) (history : List NumberedEntry) (m : Memory) (marked : ℕ → Bool) (flights new : ℕ → Flight) (k : ℕ) (call : CallId) (a n q : ℕ) (p : FlushProgress) (z : Sealing) → flights k ≡ Idle → IsUpdated flights new k (Answering call a n)
    → IsLogged o history m p.snapshot z → m.index.sure ≡ true → ((b : ℕ) → p.snapshot.blocks b ≡ true → p.slotted b ≡ true) → ((b : ℕ) → p.snapshot.lost (o.layout.chunk_of b) ≡ true → p.slotted b ≡ true)
    → ((b : ℕ) → p.snapshot.blocks b ≡ true → (marked (o.layout.map_at (o.layout.chunk_of b)) ≡ true) ⊎ (p.paged (o.layout.chunk_of b) ≡ true))
    → ((c : ℕ) → p.snapshot.lost c ≡ true → (marked (o.layout.map_at c) ≡ true) ⊎ (p.paged c ≡ true))
    → IsPrimitive o (state log history m marked flights (Working call a n q p)) (state log history (sealed_memory m m.index.generation m.index.tracked m.index.sure m.index.tried m.index.cursor z) marked new Resting)
Seals log history m marked flights new k call a n q p z idle put logged sure slots lost_slots pages lost_pages =
    Flushes_on (by_seals (record { flush = record { call = call; entry = a; number = n; data_at = q; progress = p; stage = refl }; owes = record { pass = k; flights = new; idle = idle; put = put }; sealing = z; logged = logged; sure = sure; slotted = slots; lost_slotted = lost_slots; pages = pages; lost_pages = lost_pages }))

-- a recycle is over
pub Seals_recycle : {o : Opening} (log : List Entry) (history : List NumberedEntry) (m : Memory) (marked now : ℕ → Bool) (flights new : ℕ → Flight) (k : ℕ) (call : CallId) (a n q by r : ℕ) (p : FlushProgress) (v : Sector) (next : Header) (z : Sealing) (none : ℕ → Bool) → flights k ≡ Idle → IsUpdated flights new k (Answering call a n)
    → IsLogged o history m p.snapshot z → ((b : ℕ) → none b ≡ false)
    → IsPrimitive o (state log history m marked flights (Is_next call a n q p by v next r)) (state log history (sealed_memory m (m.index.generation + 1) next.tracked true none 0 z) now new Resting)
Seals_recycle log history m marked now flights new k call a n q by r p v next z none idle put logged none_tried =
    Flushes_on (by_seals_recycle (record { flush = record { call = call; entry = a; number = n; data_at = q; progress = p; value = v; next = next }; by = by; asked = r; owes = record { pass = k; flights = new; idle = idle; put = put }; sealing = z; marked = now; tried = none; stage = refl; logged = logged; none_tried = none_tried }))

-- a flush is answered
pub Answers : {o : Opening} (log : List Entry) (history : List NumberedEntry) (m : Memory) (marked : ℕ → Bool) (flights new : ℕ → Flight) (stage : Stage) (k : ℕ) (call : CallId) (a n : ℕ) → flights k ≡ Answering call a n → IsUpdated flights new k Idle → ((b i : ℕ) → HasEntry history b i (Ask call Flush) → b ≡ a)
    → IsPrimitive o (state log history m marked flights stage) (state log (history ++ entry_now log (Reply call Fine) ∷ []) m marked new stage)
Answers log history m marked flights new stage k call a n is put once =
    Keeps_contents (by_answers (record { pass = k; call = call; entry = a; number = n; flights = new; owes = is; put = put; once = once }))

-- more local blocks are owed
pub Adopts : {o : Opening} (log : List Entry) (history : List NumberedEntry) (m : Memory) (marked : ℕ → Bool) (flights : ℕ → Flight) (owed : ℕ → Bool) → ((c : ℕ) → m.owed c ≡ true → owed c ≡ true) → ((c : ℕ) → owed c ≡ true → m.fresh c ≡ true)
    → IsPrimitive o (state log history m marked flights Resting) (state log history (with_blocks m m.fresh m.born owed m.pending) marked flights Resting)
Adopts log history m marked flights owed still local =
    Keeps_contents (by_adopts owed refl (record { still = still; local = local }))

-- a chunk is discarded
pub Drops : {o : Opening} (log : List Entry) (history : List NumberedEntry) (m : Memory) (marked : ℕ → Bool) (flights : ℕ → Flight) (stage : Stage) (id : CallId) (first : ℕ) (content : List Sector) (c : ℕ) (fresh stale owed : ℕ → Bool) (d : Discards)
    → c < o.layout.chunks → IsDropWrite o c (Issue id first content) → IsDiscarded o m (length history) c fresh stale owed d
    → ((k : ℕ) → HasCall (flights k) id → ⊥) → ((k b : ℕ) → HasBlock (flights k) b → o.layout.chunk_of b ≡ c → ⊥) → ((b : ℕ) → o.layout.chunk_of b ≡ c → m.pending b ≡ None)
    → IsPrimitive o (state log history m marked flights stage) (state log ((history ++ entry_now log (Issue id first content) ∷ []) ++ entry_now log (Done id) ∷ []) (discarded_memory m fresh stale owed d) marked flights stage)
Drops log history m marked flights stage id first content c fresh stale owed d within writes discarded no_call no_block none_pending =
    Writes_block (by_drops (record { drop = record { call = id; first = first; content = content; chunk = c; fresh = fresh; stale = stale; owed = owed; discards = d; within = within; writes = writes; discarded = discarded; none_pending = none_pending }; no_call = no_call; no_block = no_block }))

-- pages are marked
pub Marks : {o : Opening} (log : List Entry) (history : List NumberedEntry) (m : Memory) (marked more : ℕ → Bool) (flights : ℕ → Flight) (stage : Stage) → ((a : ℕ) → marked a ≡ true → more a ≡ true)
    → IsPrimitive o (state log history m marked flights stage) (state log history m more flights stage)
Marks log history m marked more flights stage grows =
    Keeps_contents (by_marks more grows)
