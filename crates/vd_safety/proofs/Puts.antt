-- The next record, sector of the map or header of a flush is put.
use Rattle.std.proofs.Common.{◌≡◌, inl, inr, ℕ, ◌+◌, ◌*◌, ◌/◌, ◌<◌, ◌≤◌, Bool, true, false, List, [], ◌∷◌, ◌++◌, length, Option, Some, None, slice_get, slice_set, sym, refl, ap, ◌∙◌, arith, subst}
use Rattle.std.specs.Prelude.{◌||◌}
use Rattle.std.proofs.lemmas.Bool.{cases_eq, cases_lt}
use Rattle.std.proofs.lemmas.List.{get_or_past}
use Rattle.vd_law.specs.declared.entry.Sector.{Sector}
use Rattle.vd_law.specs.Entries.{Entry, Issue}
use Rattle.vd_law.specs.Histories.{HistoryState}
use Rattle.vd_device.specs.declared.store.Store as store
use Rattle.vd_device.specs.declared.ticket.Ticket.{Ticket}
use Rattle.vd_device.specs.declared.ticket.Kind.{Kind}
use Rattle.vd_device.specs.Tickets.{ticket_id}
use Rattle.vd_bits.specs.Marks.{IsLowest, NoneFrom}
use Rattle.vd_format.specs.declared.header.Header.{Header}
use Rattle.vd_format.specs.Layouts.{chunks_of, slots_start, map_start}
use Rattle.vd_format.specs.Headers.{spelling}
use Rattle.vd_format.specs.Entries.{page_bytes}
use Rattle.vd_format.specs.Records.{record_bytes}
use Rattle.vd_table.specs.Tables.{TableState}
use Rattle.vd_crash.specs.facts.Safe.{Opening}
use Rattle.vd_crash.specs.facts.Words.{with_index}
use Rattle.vd_crash.specs.flushes.Stage.{FlushProgress, HasTicket}
use Rattle.vd_crash.specs.primitives.Core.{Stage, Working, Putting, Puts_next as Puts_head}
use Rattle.vd_crash.specs.primitives.Primitives.{State, state}
use Rattle.vd_crash.proofs.primitives.Parts.{Puts_record, Puts_page, Puts_header}
use Rattle.vd_crash.specs.primitives.Keeping.{KeepsCrashSafety}
use Rattle.vd_crash.proofs.primitives.Keeping.{primitive_keeps}
use Rattle.vd_crash.proofs.primitives.Using.{kept_same_tracked}
use Rattle.vd_keeper.specs.declared.stage.Stage.TheVariants.{Puts}
use Rattle.vd_keeper.specs.declared.stage.Way.TheVariants as ways
use Rattle.vd_keeper.specs.declared.stage.Put as put
use Rattle.vd_keeper.specs.Keeping.{KeeperState, pages_of}
use Rattle.vd_keeper.specs.Entries.{next_chunks, next_facts, page_entries}
use Rattle.vd_keeper.specs.Flushes.{IsKeeping, is_recycle}
use Rattle.vd_keeper.specs.Moves.{HasPutDue, IsNextPut, next_header}
use Rattle.vd_keeper.specs.Moves.IsNextPut.{Next_record, Next_page, Next_header}
use Rattle.vd_keeper.proofs.Moving.{lowest-inside}
use Rattle.vd_passes.specs.declared.shape.Shape.{Shape}
use Rattle.vd_passes.specs.declared.pass.Pass.{Pass}
use Rattle.vd_passes.specs.declared.pass.Phase.TheVariants.{Flushing}
use Rattle.vd_passes.specs.Passes.{call_id, after_meta}
use Rattle.vd_passes.specs.Requests.{RequestState, requests, with_pass}
use Rattle.vd_passes.specs.Steps.{meta_entry}
use Rattle.vd_safety.specs.Mirrors.{core_state, bit_of, IsBegunOf, IsProgressOf, Nowhere, InRecordOf, InPageOf, IsStageBy, Mirrors, HasSafeMirror}
use Rattle.vd_safety.proofs.Records.{IsMemoryOf}
use Rattle.vd_safety.proofs.Slots.{record-wanted, record-names, logged-more}
use Rattle.vd_safety.proofs.Pages.{page-wanted, page-chunk, page-first}
use Rattle.vd_safety.proofs.Heads.{next-generation, next-tracked, head-reads, head-geometry}
use Rattle.vd_safety.proofs.Updates.{bit-is, bit-set-same, bit-set-other}
use Rattle.vd_safety.proofs.Flying.{is_bare}
use Rattle.vd_safety.proofs.Stepping.{IsFlushing, flusher-is, flusher-as, keeps-at, ticket-new, stage-at, stage-by, moved, flights-after, secured-on}
use Rattle.vd_safety.proofs.Putting.{one-writes, one-covers, puts-data, puts-syncs, puts-seals, puts-possible, puts-due, records-recycle, records-plain, plain-recycle, slot-left, kept-apart, kept-first, slot-at, map-at, header-at, same-chunks, same-slots, same-map, map-same}
use Rattle.vd_machine.specs.Flushing.{meta_state, PutsNext, place_of_put, put_sector}

-- what a flush was begun with, after a put
begun-put : (k k' : KeeperState) → IsBegunOf k → k.stage ≡ Puts → k'.stage ≡ Puts → (is_recycle k'.way ≡ false → (k'.sure ≡ k.sure) × (k'.marked ≡ k.marked) × (k'.put ≡ k.put) × (k'.head ≡ k.head)) → k'.header ≡ k.header → k'.way ≡ k.way → k'.snapshot ≡ k.snapshot
    → (k'.head ≡ true → (page : ℕ) → bit_of k'.put page ≡ false) → IsBegunOf k'
begun-put k k' was puts puts' plain header way snapshot headed = record {
  surely = λ e. (plain e).0 ∙ was.surely (ap is_recycle (sym way) ∙ e);
  behind = λ either b is. elim either [
    | inl e ↦ ap (λ (xs : List Bool). bit_of xs (b / k'.header.chunk / 32)) (plain e).1 ∙ ap (λ (h : Header). bit_of k.marked (b / h.chunk / 32)) header ∙ was.behind (inl (ap is_recycle (sym way) ∙ e)) b (ap (λ (xs : List Bool). bit_of xs b) (sym snapshot) ∙ is)
    | inr e ↦ absurd (puts-data (sym puts' ∙ e))
  ];
  nothing = λ e b. ap (λ (xs : List Bool). bit_of xs b) snapshot ∙ was.nothing (sym way ∙ e) b;
  headless = λ e. (plain e).3 ∙ was.headless (ap is_recycle (sym way) ∙ e);
  unput = λ either page. elim either [
    | inl e ↦ absurd (puts-data (sym puts' ∙ e))
    | inr (inl e) ↦ ap (λ (xs : List Bool). bit_of xs page) (plain e).2 ∙ was.unput (inr (inl (ap is_recycle (sym way) ∙ e))) page
    | inr (inr e) ↦ headed e page
  ];
  unlogged = λ e. absurd (puts-data (sym puts' ∙ e));
  all_logged = λ e. absurd (puts-syncs (sym puts' ∙ e));
  recycled = λ e. absurd (puts-seals (sym puts' ∙ e));
}

or-true : (x y : Bool) → y ≡ true → (x || y) ≡ true
or-true true y e = refl
or-true false y e = e

-- no sector of the map is marked
pub none-marked : (marked : List Bool) → NoneFrom marked 0 → (page : ℕ) → bit_of marked page ≡ false
none-marked marked empty page = elim (cases_lt page (length marked)) [
  | inl less ↦ bit-is marked page false (empty page (omega arith) less)
  | inr past ↦ get_or_past marked page false past
]

-- A core where a pass that flushes is about to put something.
module _ (h : Header) (o : Opening) (shape : Shape) (table : TableState) (fresh : List Bool) (k : KeeperState) (passes : List Pass) (history : HistoryState) (log : List Entry) (s : State) (last i : ℕ) (p : Pass) (t : Ticket)
    (around : IsFlushing h o shape (core_state table fresh k (Some i) passes history) last) (was : KeepsCrashSafety o s) (mirrors : Mirrors o (core_state table fresh k (Some i) passes history) log s)
    (there : slice_get passes i ≡ Some p) (flushes : p.phase ≡ Flushing) (none : p.ticket ≡ None) (puts : k.stage ≡ Puts) (above : last < t.number) where
  abbrev p' : Pass
  p' = after_meta p t

  abbrev kept : IsKeeping k
  kept = around.attended.keeping

  due : HasPutDue k
  due = puts-due i p around refl there none puts

  now : IsBegunOf k × IsStageBy Puts k.head None o k (call_id i p) s.stage
  now = stage-at Puts k.head None i p o k (Some i) passes s.stage refl there puts refl none mirrors.stage

  abbrev a : ℕ
  a = now.1.0

  abbrev n : ℕ
  n = now.1.1

  abbrev q : ℕ
  q = now.1.2

  abbrev pr : FlushProgress
  pr = now.1.3

  progress : IsProgressOf k pr Nowhere Nowhere
  progress = now.1.4

  keeps : KeepsCrashSafety o (state s.log s.history s.memory s.marked s.flights (Working (call_id i p) a n q pr))
  keeps = keeps-at o s (Working (call_id i p) a n q pr) now.1.5 was

  memory-is : IsMemoryOf s.memory pr.snapshot table k
  memory-is = record { generation = mirrors.generation; table_is = mirrors.storage; stale = mirrors.stale; snapshot_is = progress.snapshot }

  fresh-ticket : (l : ℕ) → HasTicket (s.flights l) (ticket_id t) → ⊥
  fresh-ticket = ticket-new passes s.flights last t mirrors.flights around.numbers above

  bare : is_bare p.phase ≡ true
  bare = ap is_bare flushes

  abbrev entry : Sector → Entry
  entry v = Issue (ticket_id t) t.first (v ∷ [])

  -- ---- a record

  put-record : (v : Sector) → k.way ≡ ways.Records → v.bytes ≡ record_bytes k.header.generation (next_facts table k) → t.first ≡ slots_start k.header + k.next
      → HasSafeMirror o (core_state table fresh (record k { next = k.next + 1; logged = k.logged + length (next_chunks k) }) (Some i) (slice_set passes i p') history) (log ++ entry v ∷ [])
  put-record v way bytes at =
      let k' : KeeperState = record k { next = k.next + 1; logged = k.logged + length (next_chunks k) } in
      let m = s.memory in
      let short = due.records way in
      let room : k.next < k.header.slots = slot-left k (puts-possible k kept puts) way short in
      let cursor : m.index.cursor < o.layout.slots = (let e = same-slots h o k around.header in omega (arith, e, mirrors.cursor, room)) in
      let here : t.first ≡ o.layout.slot_at m.index.cursor = at ∙ slot-at h o k around.header k.next ∙ ap o.layout.slot_at (sym mirrors.cursor) in
      let wanted = record-wanted h o m pr.snapshot table k v around.header memory-is kept around.storage short bytes in
      let stage : Stage = Putting (call_id i p) a n q pr (o.layout.slot_at m.index.cursor) (length s.log) v (ticket_id t) in
      let after = primitive_keeps o (state s.log s.history m s.marked s.flights (Working (call_id i p) a n q pr)) (state (s.log ++ entry v ∷ []) s.history (with_index m m.index.sure m.index.tried (m.index.cursor + 1)) s.marked s.flights stage)
      (Puts_record s.log s.history m s.marked s.flights (call_id i p) (ticket_id t) a n q pr (entry v) v wanted.0 fresh-ticket refl cursor
      (one-writes (ticket_id t) t.first (o.layout.slot_at m.index.cursor) v here) (one-covers (ticket_id t) t.first (o.layout.slot_at m.index.cursor) v here) wanted.1 wanted.2) keeps in
      let first : pr.first ≤ k.next = (let f = kept-first o s.log s.history m s.marked s.flights (call_id i p) a n q pr keeps in omega (arith, f, mirrors.cursor)) in
      let so_far : IsProgressOf k' pr (InRecordOf o k' pr.first (o.layout.slot_at m.index.cursor) v) (InPageOf o (o.layout.slot_at m.index.cursor)) = record {
        snapshot = progress.snapshot;
        recorded = λ way b snap found. elim (logged-more k (b / k.header.chunk) found) [
          | inl old ↦ elim (progress.recorded way b snap old) [ inl is ↦ inl is | inr nowhere ↦ absurd nowhere ]
          | inr next ↦ inr (
            k.next,
            ap o.layout.slot_at mirrors.cursor,
            first,
            omega arith,
            (let e = same-slots h o k around.header in omega (arith, e, room)),
            record-names h o m pr.snapshot table k v around.header memory-is kept around.storage short bytes b next,
          )
        ];
        paged = λ recycle. absurd (records-recycle k way recycle);
        written_unmarked = progress.written_unmarked;
        in_page = λ c inside same. absurd ((kept-apart o s was).map_slot c m.index.cursor (let e = same-chunks h o k around.header in omega (arith, e, inside)) cursor (sym same));
        caught_up = λ stage recycle. absurd (records-recycle k way recycle);
      } in
      let begun = begun-put k k' now.0 puts puts (λ e. (refl, refl, refl, refl)) refl refl refl (λ e. now.0.unput (inr (inr e))) in
      let mine = moved o table fresh k (Some i) passes history log s mirrors i p p' there k' (Some i) (log ++ entry v ∷ []) (s.log ++ entry v ∷ []) m.index.sure (m.index.cursor + 1) s.marked stage bare
      (ap (λ (l : List Entry). l ++ entry v ∷ []) mirrors.log_is) (record { header = refl; stale = refl; owed = refl }) mirrors.sure (ap (λ (x : ℕ). x + 1) mirrors.cursor) mirrors.same_tracked mirrors.marked
      (flights-after o table fresh k (Some i) passes history log s mirrors i p p' there bare refl)
      (stage-by Puts false (Some t) i p p' o k' passes stage there puts (now.0.headless (records-plain k way)) refl begun (a, n, q, pr, o.layout.slot_at m.index.cursor, length s.log, v, so_far, refl)) in
      record { state = _; keeps = after; mirrors = mine }

  -- ---- a sector of the map

  put-page : (page : ℕ) (v : Sector) → is_recycle k.way ≡ true → IsLowest k.marked 0 page → v.bytes ≡ page_bytes (page_entries table k page) → t.first ≡ map_start k.header + page
      → HasSafeMirror o (core_state table fresh (record k { marked = slice_set k.marked page false; put = slice_set k.put page true }) (Some i) (slice_set passes i p') history) (log ++ entry v ∷ [])
  put-page page v recycle lowest bytes at =
      let k' : KeeperState = record k { marked = slice_set k.marked page false; put = slice_set k.put page true } in
      let m = s.memory in
      let of = around.header in
      let few : page < length k.marked = lowest-inside k.marked 0 page lowest in
      let inside : page < pages_of k.header = omega (arith, few, kept.marked_size) in
      let put_few : page < length k.put = omega (arith, inside, kept.put_size) in
      let first : ℕ = 32 * page in
      let its : first / 32 ≡ page = page-chunk page in
      let there_is : first < chunks_of k.header = page-first k.header page inside in
      let chunk : first < o.layout.chunks = (let e = same-chunks h o k of in omega (arith, e, there_is)) in
      let marked : bit_of k.marked page ≡ true = bit-is k.marked page true lowest.is_marked in
      let here : t.first ≡ o.layout.map_at first = at ∙ ap (λ (x : ℕ). map_start k.header + x) (sym its) ∙ map-at h o k of first in
      let stage : Stage = Putting (call_id i p) a n q pr (o.layout.map_at first) (length s.log) v (ticket_id t) in
      let after = primitive_keeps o (state s.log s.history m s.marked s.flights (Working (call_id i p) a n q pr)) (state (s.log ++ entry v ∷ []) s.history (with_index m m.index.sure m.index.tried m.index.cursor) s.marked s.flights stage)
      (Puts_page s.log s.history m s.marked s.flights (call_id i p) (ticket_id t) a n q pr (entry v) v first fresh-ticket refl chunk
      (one-writes (ticket_id t) t.first (o.layout.map_at first) v here) (one-covers (ticket_id t) t.first (o.layout.map_at first) v here)
      (λ c within same. page-wanted h o m pr.snapshot table k page v of memory-is kept around.storage bytes c first its within same)
      (λ c written same. (let e : bit_of k.marked page ≡ false = ap (bit_of k.marked) (sym (same-map h o k of c first same ∙ its)) ∙ progress.written_unmarked c written in absurd cc))) keeps in
      -- the marks and puts of the other sectors
      let other_marked : (x : ℕ) → (x ≡ page → ⊥) → bit_of k'.marked x ≡ bit_of k.marked x = λ x ne. bit-set-other k.marked page x false ne in
      let other_put : (x : ℕ) → (x ≡ page → ⊥) → bit_of k'.put x ≡ bit_of k.put x = λ x ne. bit-set-other k.put page x true ne in
      let own_marked : (x : ℕ) → x ≡ page → bit_of k'.marked x ≡ false = λ x e. ap (bit_of k'.marked) e ∙ bit-set-same k.marked page false few in
      let own_put : (x : ℕ) → x ≡ page → bit_of k'.put x ≡ true = λ x e. ap (bit_of k'.put) e ∙ bit-set-same k.put page true put_few in
      let still : (x : ℕ) → bit_of k.put x ≡ true → bit_of k'.put x ≡ true = λ x is. elim (cases_eq x page) [ inl e ↦ own_put x e | inr ne ↦ other_put x ne ∙ is ] in
      let so_far : IsProgressOf k' pr (InRecordOf o k' pr.first (o.layout.map_at first) v) (InPageOf o (o.layout.map_at first)) = record {
        snapshot = progress.snapshot;
        recorded = λ records. absurd (records-recycle k records recycle);
        paged = λ way c within. elim (progress.paged way c within) [
          | inl is ↦ inl is
          | inr (inl is) ↦ inr (inl (is.0, still (c / 32) is.1))
          | inr (inr (inl nowhere)) ↦ absurd nowhere
          | inr (inr (inr is)) ↦ elim (cases_eq (c / 32) page) [
            | inl e ↦ inr (inr (inl (map-same h o k of first c (its ∙ sym e))))
            | inr ne ↦ inr (inr (inr (other_marked (c / 32) ne ∙ is)))
          ]
        ];
        written_unmarked = λ c written. elim (cases_eq (c / 32) page) [ inl e ↦ own_marked (c / 32) e | inr ne ↦ other_marked (c / 32) ne ∙ progress.written_unmarked c written ];
        in_page = λ c within same. (let e : c / 32 ≡ page = sym (same-map h o k of first c same) ∙ its in (own_put (c / 32) e, own_marked (c / 32) e));
        caught_up = λ stage way empty. inr (first, there_is, refl);
      } in
      let headless : k.head ≡ false = due.recycle recycle in
      let begun = begun-put k k' now.0 puts puts (λ e. absurd (plain-recycle k e recycle)) refl refl refl (λ e. absurd (let f : true ≡ false = sym e ∙ headless in cc)) in
      let mine = moved o table fresh k (Some i) passes history log s mirrors i p p' there k' (Some i) (log ++ entry v ∷ []) (s.log ++ entry v ∷ []) m.index.sure m.index.cursor s.marked stage bare
      (ap (λ (l : List Entry). l ++ entry v ∷ []) mirrors.log_is) (record { header = refl; stale = refl; owed = refl }) mirrors.sure mirrors.cursor mirrors.same_tracked
      (λ c within. mirrors.marked c within ∙ elim (cases_eq (c / 32) page) [
        | inl e ↦ ap (λ (x : Bool). x || bit_of k.put (c / 32)) (ap (bit_of k.marked) e ∙ marked) ∙ sym (or-true (bit_of k'.marked (c / 32)) (bit_of k'.put (c / 32)) (own_put (c / 32) e))
        | inr ne ↦ ap (λ (x : Bool). x || bit_of k.put (c / 32)) (sym (other_marked (c / 32) ne)) ∙ ap (λ (x : Bool). bit_of k'.marked (c / 32) || x) (sym (other_put (c / 32) ne))
      ])
      (flights-after o table fresh k (Some i) passes history log s mirrors i p p' there bare refl)
      (stage-by Puts false (Some t) i p p' o k' passes stage there puts headless refl begun (a, n, q, pr, o.layout.map_at first, length s.log, v, so_far, refl)) in
      record { state = _; keeps = after; mirrors = mine }

  -- ---- the header

  put-header : (v : Sector) → is_recycle k.way ≡ true → NoneFrom k.marked 0 → v.bytes ≡ spelling (next_header k.way k.header) → t.first ≡ 0
      → HasSafeMirror o (core_state table fresh (record k { sure = false; head = true }) (Some i) (slice_set passes i p') history) (log ++ entry v ∷ [])
  put-header v recycle empty bytes at =
      let k' : KeeperState = record k { sure = false; head = true } in
      let m = s.memory in
      let of = around.header in
      let next : Header = next_header k.way k.header in
      let unput : (page : ℕ) → bit_of k.put page ≡ false = elim (progress.caught_up puts recycle empty) [ inl is ↦ is | inr found ↦ absurd found.2 ] in
      let unmarked : (page : ℕ) → bit_of k.marked page ≡ false = none-marked k.marked empty in
      let paged : (c : ℕ) → c < o.layout.chunks → pr.paged c ≡ true = λ c within. elim (progress.paged recycle c (let e = same-chunks h o k of in omega (arith, e, within))) [
        | inl is ↦ is
        | inr (inl is) ↦ absurd (let e = unput (c / 32) in let f = is.1 in cc)
        | inr (inr (inl nowhere)) ↦ absurd nowhere
        | inr (inr (inr is)) ↦ absurd (let e = unmarked (c / 32) in cc)
      ] in
      let reads = head-reads h o k v of kept (puts-possible k kept puts) bytes in
      let is_next = kept_same_tracked o s.log s.history m s.marked s.flights (call_id i p) a n q pr v next keeps reads (head-geometry h o k of)
      (next-generation k.way k.header recycle ∙ ap (λ (x : ℕ). x + 1) (sym mirrors.generation)) (next-tracked k.way k.header mirrors.same_tracked ∙ sym mirrors.tracked) paged in
      let here : t.first ≡ o.layout.header_at = at ∙ header-at h o k of in
      let stage : Stage = Puts_head (call_id i p) a n q pr (length s.log) v next (ticket_id t) in
      let after = primitive_keeps o (state s.log s.history m s.marked s.flights (Working (call_id i p) a n q pr)) (state (s.log ++ entry v ∷ []) s.history (with_index m false m.index.tried m.index.cursor) s.marked s.flights stage)
      (Puts_header s.log s.history m s.marked s.flights (call_id i p) (ticket_id t) a n q pr (entry v) v next m.index.tried fresh-ticket refl
      (one-writes (ticket_id t) t.first o.layout.header_at v here) (one-covers (ticket_id t) t.first o.layout.header_at v here) is_next) keeps in
      let so_far : IsProgressOf k' pr Nowhere Nowhere = record {
        snapshot = progress.snapshot;
        recorded = progress.recorded;
        paged = progress.paged;
        written_unmarked = progress.written_unmarked;
        in_page = progress.in_page;
        caught_up = progress.caught_up;
      } in
      let begun = begun-put k k' now.0 puts puts (λ e. absurd (plain-recycle k e recycle)) refl refl refl (λ e. unput) in
      let mine = moved o table fresh k (Some i) passes history log s mirrors i p p' there k' (Some i) (log ++ entry v ∷ []) (s.log ++ entry v ∷ []) false m.index.cursor s.marked stage bare
      (ap (λ (l : List Entry). l ++ entry v ∷ []) mirrors.log_is) (record { header = refl; stale = refl; owed = refl }) refl mirrors.cursor mirrors.same_tracked mirrors.marked
      (flights-after o table fresh k (Some i) passes history log s mirrors i p p' there bare refl)
      (stage-by Puts true (Some t) i p p' o k' passes stage there puts refl refl begun (a, n, q, pr, length s.log, v, so_far, refl)) in
      record { state = _; keeps = after; mirrors = mine }

  -- ---- each of them

  put-any : (what : put.Put) (k' : KeeperState) → IsNextPut table k what k' → t.first ≡ place_of_put k.header what → HasSafeMirror o (core_state table fresh k' (Some i) (slice_set passes i p') history) (log ++ entry (put_sector what) ∷ [])
  put-any what k' (Next_record v way bytes) at = put-record v way bytes at
  put-any what k' (Next_page page v recycle lowest bytes) at = put-page page v recycle lowest bytes at
  put-any what k' (Next_header v recycle empty bytes) at = put-header v recycle empty bytes at

module _ {h : Header} {o : Opening} {shape : Shape} {table : TableState} {fresh : List Bool} {k k' : KeeperState} {flusher : Option ℕ} {passes : List Pass} {history : HistoryState} {r' : RequestState} {i : ℕ} {S : Type 0} {g : store.Ghosts S} {from to : S} where
  pub put-secured : IsFlushing h o shape (core_state table fresh k flusher passes history) (g.last from) → PutsNext g table i (meta_state k (requests shape fresh passes history.log.entries)) (meta_state k' r') from to → k.stage ≡ Puts → g.tells to
      → HasSafeMirror o (core_state table fresh k flusher passes history) (g.disk from).log → HasSafeMirror o (core_state table r'.fresh k' flusher r'.passes history) (g.disk to).log
  put-secured around step puts told was =
      let p : Pass = step.sends.pass in
      let t : Ticket = step.sends.ticket in
      let flush : flusher ≡ Some i = flusher-is around i p step.sends.there step.under_way in
      let mine : IsFlushing h o shape (core_state table fresh k (Some i) passes history) (g.last from) = subst (λ (f : Option ℕ). IsFlushing h o shape (core_state table fresh k f passes history) (g.last from)) flush around in
      let secured : HasSafeMirror o (core_state table fresh k (Some i) passes history) (g.disk from).log = subst (λ (f : Option ℕ). HasSafeMirror o (core_state table fresh k f passes history) (g.disk from).log) flush was in
      let done = put-any h o shape table fresh k passes history (g.disk from).log secured.state (g.last from) i p t mine secured.keeps secured.mirrors step.sends.there step.under_way step.sends.none puts (step.sends.call.rises told) step.put k' step.next step.at in
      flusher-as flusher (Some i) flush
      (secured-on k' k' r' (with_pass i (after_meta p t) (requests shape fresh passes history.log.entries)) (g.disk to).log ((g.disk from).log ++ Issue (ticket_id t) t.first (put_sector step.put ∷ []) ∷ []) refl step.sends.after
      ((step.sends.call.takes.told told).log ∙ ap (λ (kind : Kind). (g.disk from).log ++ meta_entry kind t (put_sector step.put ∷ []) ∷ []) step.kind) done)
