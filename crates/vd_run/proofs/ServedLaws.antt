-- A trace that a core has served is a run.
use Rattle.std.proofs.Common.{ℕ, ◌≡◌, ◌*◌, ◌<◌, ◌≤◌, inl, inr, List, ◌++◌, length, refl, ap, sym, ◌∙◌, subst, arith, append_assoc, length-append}
use Rattle.std.proofs.Math.Nat.{div-add-mod}
use Rattle.std.proofs.lemmas.Option.{slice_get_within}
use Rattle.vd_law.specs.declared.entry.Sector.{Sector}
use Rattle.vd_law.specs.declared.entry.Room.{Room}
use Rattle.vd_law.specs.declared.entry.CallId.{CallId}
use Rattle.vd_law.specs.declared.entry.Answer.{Answer}
use Rattle.vd_law.specs.Entries as law
use Rattle.vd_law.specs.Entries.{Asked, Entry, call_of}
use Rattle.vd_law.specs.Histories.{HistoryState}
use Rattle.vd_law.specs.Rules.{IsRegular}
use Rattle.vd_device.specs.declared.store.Store as store
use Rattle.vd_device.specs.declared.base.Base as base
use Rattle.vd_device.specs.declared.patient.Patient.{Patient}
use Rattle.vd_device.specs.Disks.{Disk, StoppedSince, IsHonest, IsRunning}
use Rattle.vd_device.specs.Stores.{IsTold, KeepsStore}
use Rattle.vd_format.specs.declared.header.Header.{Header}
use Rattle.vd_format.specs.declared.map.Entry.{Entry as MapEntry}
use Rattle.vd_format.specs.Headers.{IsValid}
use Rattle.vd_format.specs.Layouts.{blocks_of, chunks_of}
use Rattle.vd_device.specs.Quiet.{AddsNoWrite}
use Rattle.vd_image.specs.Layouts.{layout_of}
use Rattle.vd_image.specs.Decoders.{format_of}
use Rattle.vd_image.specs.Image.{Format, Layout}
use Rattle.vd_crash.specs.facts.CrashSafe.{IsCrashSafe}
use Rattle.vd_safety.specs.Held.{IsOpenAgain}
use Rattle.vd_replay.specs.Images.{image_of}
use Rattle.vd_replay.specs.States.{IsSized, IsEntryOf, StateSays}
use Rattle.vd_replay.specs.declared.state.State.{State}
use Rattle.vd_trace.specs.Traces.{Asking, Script, script, works_asked}
use Rattle.vd_table.specs.Tables.{TableState}
use Rattle.vd_passes.specs.declared.shape.Shape.{Shape}
use Rattle.vd_passes.specs.Causes.{Device, OfStore, OfBase, AreCaused}
use Rattle.vd_passes.specs.Tracing.{AreTraced, IsTicketOf, FailsBetween}
use Rattle.vd_machine.specs.Views.{Fixed, View}
use Rattle.vd_machine.specs.Start.{WasSafe}
use Rattle.vd_machine.specs.Telling.{opening_of, base_then, IsStartOf}
use Rattle.vd_causes.specs.Storing.{AreFullsCaused}
use Rattle.vd_causes.specs.Wearing.{AreWornsCaused}
use Rattle.vd_core.specs.Showing.{EndsFlushed, MayHold, ShowsCould}
use Rattle.vd_core.specs.Opening.{disk_shape, fixed_for, IsNewCore}
use Rattle.vd_core.specs.History.{IsHistoryOf, HasEnded}
use Rattle.vd_run.specs.Serving.{IsUnused, IsServed, Closes}
use Rattle.vd_run.specs.Driving.{IsSameDisk, with_flush}
use Rattle.vd_device.specs.Patients.{patient_store, patient_base}
use Rattle.vd_report.specs.declared.line.Line.{Line}
use Rattle.vd_report.specs.declared.line.Line.TheVariants as lines
use Rattle.vd_device.specs.Devices.{Devices, devices, AreReadOnly, Leaves}
use Rattle.vd_run.specs.Orders.{IsOpenedFrom, OpensQuietly, Opened_within, Had_stopped}
use Rattle.vd_run.specs.Running.{IsDisk, HadDisk, WasGood, IsRun, RunsTrace, closing_line}
use Rattle.vd_run.proofs.ClosingLaws.{closed_ok, ends_flushed}
use Rattle.vd_run.proofs.StartLaws.{start_is, clean_later}
use Rattle.vd_run.proofs.SafeLaws.{flush_reads, was_safe}
use Rattle.vd_run.proofs.LaterLaws.{safe_later}
use Rattle.vd_run.proofs.Guest.Leaving.{disk-then}
use Rattle.vd_format.specs.Background.{zero_sector, base_at}
use Rattle.vd_machine.specs.Asking.{Suffices}
use Rattle.vd_law.specs.Needs.{requests_room}
use Rattle.vd_lists.proofs.Places.{slice_get_front}

-- a valid disk is whole blocks
pub whole_disk : (h : Header) → IsValid h → h.block * blocks_of h ≡ h.size
whole_disk h valid = let parts = div-add-mod h.size h.block in let rest = valid.whole_blocks in omega arith

module _ {S B : Type 0} {g : store.Ghosts S} {h : base.Ghosts B} {s : State} {room : Room} {store : S} {base : B} {core : View S B} where
  pub opened_unused : IsNewCore g h s 2 room store base core → IsUnused core.passes core.flusher core.history.log.entries
  opened_unused opened = record {
    resting = record {
      two = opened.passes_are.many;
      idle = λ i p there. let new = opened.passes_are.each i p there in new.phase;
      free = opened.flusher_is;
    };
    empty = ap (λ (n : HistoryState). n.log.entries) opened.history_is;
  }

  -- the size of an opened disk
  pub opened_size : IsValid s.header → IsNewCore g h s 2 room store base core → core.shape.block * core.shape.blocks ≡ s.header.size
  opened_size valid opened = ap (λ (x : Shape). x.block * x.blocks) opened.shape_is ∙ whole_disk s.header valid

suffices_all : (need left : Room) → left ≡ need → Suffices need left
suffices_all need left same = let e = ap (λ (r : Room). r.events) same in let s = ap (λ (r : Room). r.sectors) same in (omega arith, omega arith)

pub opened_room : {S B : Type 0} {g : store.Ghosts S} {h : base.Ghosts B} {s : State} {room : Room} {store : S} {base : B} {core : View S B} (asks : List Asking) → room ≡ with_flush (requests_room s.header.block (works_asked asks))
    → IsNewCore g h s 2 room store base core → Suffices (with_flush (requests_room core.shape.block (works_asked asks))) core.spare
opened_room {core = core} asks needed opened =
    suffices_all (with_flush (requests_room core.shape.block (works_asked asks))) core.spare (opened.spare_is ∙ needed ∙ ap (λ (n : ℕ). with_flush (requests_room n (works_asked asks))) (sym (ap (λ (x : Shape). x.block) opened.shape_is)))

fulls_same : (shape shape' : Shape) (had had' : List MapEntry) (chunks chunks' storage storage' : ℕ) (entries : List Entry) → shape' ≡ shape → had' ≡ had → chunks' ≡ chunks → storage' ≡ storage → AreFullsCaused shape' had' chunks' storage' entries → AreFullsCaused shape had chunks storage entries
fulls_same shape shape' had had' chunks chunks' storage storage' entries s m c t full =
    subst (λ (n : ℕ). AreFullsCaused shape had chunks n entries) t (subst (λ (n : ℕ). AreFullsCaused shape had n storage' entries) c
    (subst (λ (x : List MapEntry). AreFullsCaused shape x chunks' storage' entries) m (subst (λ (x : Shape). AreFullsCaused x had' chunks' storage' entries) s full)))

-- The store is counted from when it was handed in, and its log goes on behind the closing.

caused_wider : {device : Device} {history : List Entry} {first faults faults' last : ℕ} → first ≤ faults → faults' ≤ last → AreCaused device history faults faults' → AreCaused device history first last
caused_wider calm later caused = record { once = caused.once; counted = (let c = caused.counted in omega arith) }

fails_later : {log : List Entry} {ticket from to : ℕ} (more : List Entry) → FailsBetween log ticket from to → FailsBetween (log ++ more) ticket from to
fails_later {log = log} more fails = record {
  at = fails.at;
  entry = fails.entry;
  there = slice_get_front log more fails.at (slice_get_within log fails.at fails.entry fails.there) ∙ fails.there;
  fails = fails.fails;
  after = fails.after;
  before = fails.before;
}

ticket_later : (request : Asked) (log more history : List Entry) (numbers : List ℕ) (id : CallId) (ticket to : ℕ) → IsTicketOf request log history numbers id ticket to → IsTicketOf request (log ++ more) history numbers id ticket to
ticket_later (law.Read first count) log more history numbers id ticket to (at, begins, many, there) = (at, begins, many, slice_get_front log more at (slice_get_within log at _ there) ∙ there)
ticket_later (law.Write first content) log more history numbers id ticket to (at, number, last, numbered, (begins, written, there)) = (at, number, last, numbered, (begins, written, slice_get_front log more number (slice_get_within log number _ there) ∙ there))
ticket_later law.Flush log more history numbers id ticket to is = tt

traced_later : {log history : List Entry} {numbers : List ℕ} (more : List Entry) → AreTraced log history numbers → AreTraced (log ++ more) history numbers
traced_later {log = log} {history = history} {numbers = numbers} more traced to id ticket done now there numbered =
    let one = traced to id ticket done now there numbered in
    record {
      at = one.at;
      request = one.request;
      asked = one.asked;
      number = one.number;
      numbered = one.numbered;
      failed = fails_later more one.failed;
      ticket_is = ticket_later one.request log more history numbers id ticket to one.ticket_is;
    }

traced_on : {history : List Entry} {numbers : List ℕ} (old new : Disk) → AddsNoWrite old new → AreTraced old.log history numbers → AreTraced new.log history numbers
traced_on {history = history} {numbers = numbers} old new adds traced = subst (λ (l : List Entry). AreTraced l history numbers) (sym adds.log) (traced_later adds.more traced)

-- ---- the moments of a run

-- a history that was opened behind the log's end has no moment in it
no_moment : {f : Format} {l : Layout} {under : ℕ → Sector} {zeros : Sector} {start disk : List Sector} (log : List Entry) (history : HistoryState) → length log < history.opened → IsCrashSafe f l under zeros start log disk history
no_moment log history past = record {
  sound = λ k image since until crash. absurd (omega (arith, past, since, until));
  allowed = λ k image since until crash s v less has. absurd (omega (arith, past, since, until));
}

-- a store that took nothing more
stood_adds : {old mid new : Disk} {events : ℕ} → AddsNoWrite old mid → StoppedSince events mid new → AddsNoWrite old new
stood_adds adds stood = record { start = stood.start ∙ adds.start; more = adds.more; none = adds.none; log = stood.log ∙ adds.log }

-- ---- the serving

-- A core that was opened over this store and base, that has then served the trace, and that is closed.
module _ {S B : Type 0} (g : store.Ghosts S) (h : base.Ghosts B) (s : State) (room : Room) (store : S) (base : B) (core core' core'' : View (Patient S) (Patient B)) (trace : Script) (answer : Answer)
    (sized : IsSized s) (two : s.header.version ≡ 2) (says : g.tells store → StateSays (g.disk store).held s) (told : IsTold g store) (runs : g.tells store → IsRunning (g.events store) (g.disk store)) (honest : g.tells store → IsHonest (g.disk store))
    (opened : IsNewCore (patient_store g) (patient_base h) s 2 room (record { inner = store }) (record { inner = base }) core)
    (served : IsServed (script trace 1) core'.passes core'.history.log.entries) (first_same : IsSameDisk core core') (closed : Closes answer core'.history.log.entries core''.history.log.entries) (second_same : IsSameDisk core' core'')
    (known : IsHistoryOf (patient_store g) (patient_base h) core'') (ended : HasEnded (patient_store g) (patient_base h) core'')
    (recorded : g.tells core''.store.inner → g.records core''.store.inner) (holds : g.tells core''.store.inner → MayHold (g.disk core''.store.inner) (g.disk core''.store.inner).held) where
  disk_same : IsSameDisk core core''
  disk_same = disk-then first_same second_same

  -- what the devices were, and the header and the entries, when the core was made
  abbrev at_first : Fixed (Patient S) (Patient B)
  at_first = fixed_for s room (record { inner = store }) (record { inner = base })

  fixed_is : core''.fixed ≡ at_first
  fixed_is = disk_same.fixed ∙ opened.fixed_is

  kept : KeepsStore (patient_store g) (record { inner = store }) core''.store
  kept = subst (λ (f : Fixed (Patient S) (Patient B)). KeepsStore (patient_store g) f.store core''.store) fixed_is known.opening.since.store

  shaped : core''.shape ≡ disk_shape s.header (h.sectors base)
  shaped = disk_same.shape ∙ opened.shape_is

  opened_is : core''.history.opened ≡ g.events store
  opened_is = known.opening.since.opened ∙ ap (λ (f : Fixed (Patient S) (Patient B)). g.events f.store.inner) fixed_is

  flushed_ok : closing_line answer ≡ lines.Ok → EndsFlushed core''.history.log.entries
  flushed_ok said = ends_flushed answer (closed_ok answer known.regular closed said) closed

  module _ (first : S) (from : IsOpenedFrom g first store) where
    begins : g.tells store → (start : List Sector) → HadDisk g h s.header start (devices first base) → IsStartOf (patient_store g) (patient_base h) core''.fixed start
    begins t start had =
        let since = from.since t in
        subst (λ (f : Fixed (Patient S) (Patient B)). IsStartOf (patient_store g) (patient_base h) f start) (sym fixed_is)
        (start_is (g.disk store) (g.events store) s.header s (h.content base) start (runs t) (honest t) (clean_later (g.disk first) (g.disk store) (flush_reads (g.disk first) (g.disk store) since.flushed) had.clean) ((says t).current two)
        (subst (λ (xs : List Sector). IsDisk s.header xs (h.content base) start) (sym since.held) had.disk))

    safely : g.tells store → (start : List Sector) → WasGood g h s.header start (devices first base) → WasSafe (opening_of (patient_store g) core''.fixed) core''.fixed.header
    safely t start good =
        let state = (says t).current two in
        subst (λ (f : Fixed (Patient S) (Patient B)). WasSafe (opening_of (patient_store g) f) f.header) (sym fixed_is)
        (was_safe (g.disk first) (g.disk store) (g.events store) s.header (from.since t) (runs t) (honest t) good.had.clean state.opens good.no_later)

    safe_at : g.records core''.store.inner → h.tells core''.base.inner → (start : List Sector) → WasGood g h s.header start (devices first base)
        → IsCrashSafe (format_of s.header) (layout_of s.header) (base_at zero_sector (h.content base)) zero_sector (g.disk core''.store.inner).start (g.disk core''.store.inner).log start core''.history
    safe_at r b start good = elim (told (kept.telling.recorded_before r)) [
      | inl t ↦ subst (λ (f : Fixed (Patient S) (Patient B)). IsCrashSafe (format_of f.header) (layout_of f.header) (base_at zero_sector (base_then (patient_base h) f)) zero_sector
          (g.disk core''.store.inner).start (g.disk core''.store.inner).log start core''.history) fixed_is (known.safe r b start (begins t start good.had) (safely t start good))
      | inr stopped ↦ (let stood = kept.telling.stood r stopped in no_moment (g.disk core''.store.inner).log core''.history (let long = ap length stood.log in omega (arith, stopped, long, opened_is)))
    ]

    opens_at : g.records core''.store.inner → OpensQuietly (g.disk first) (g.disk core''.store.inner) core''.history.opened
    opens_at r =
        let before = kept.telling.recorded_before r in
        let adds = from.reads.recorded before in
        elim (told before) [
          | inl t ↦ (let on = kept.telling.goes_on r in
              Opened_within adds.more on.more (on.start ∙ adds.start) adds.none (on.log ∙ ap (λ (l : List Entry). l ++ on.more) adds.log ∙ append_assoc (g.disk first).log adds.more on.more)
              (opened_is ∙ runs t ∙ ap length adds.log ∙ length-append (g.disk first).log adds.more))
          | inr stopped ↦ (let stood = kept.telling.stood r stopped in Had_stopped (stood_adds adds stood) (let long = ap length stood.log in omega (arith, stopped, long, opened_is)))
        ]

    pub served_run : RunsTrace g h trace s.header (devices first base) (devices core''.store.inner core''.base.inner) core''.history (closing_line answer)
    served_run = record {
      run = record {
        served = core'.history.log.entries;
        asked = served.asked;
        alone = served.alone;
        answer = answer;
        closed = closed;
        closing_is = refl;
        replied = ended.replied;
        regular = subst (λ (n : ℕ). IsRegular n core''.history.log.entries) (ap (λ (x : Shape). x.block * x.blocks) shaped ∙ whole_disk s.header sized.valid) known.regular;
        legal = λ both start had. known.legal both.0 both.1 start (begins (kept.telling.told_before both.0) start had);
        opening = opens_at;
        safe = safe_at;
        store_caused = caused_wider from.reads.keeps.counts.faults (omega arith)
            (subst (λ (f : Fixed (Patient S) (Patient B)). AreCaused OfStore core''.history.log.entries (g.faults f.store.inner) (g.faults core''.store.inner)) fixed_is known.store_faults);
        base_caused = subst (λ (f : Fixed (Patient S) (Patient B)). AreCaused OfBase core''.history.log.entries (h.faults f.base.inner) (h.faults core''.base.inner)) fixed_is known.base_faults;
        traced = known.traced;
        had = s.map;
        had_is = λ t chunk within. (
            let before = kept.telling.told_before t in let state = (says before).current two in
            subst (λ (xs : List Sector). IsEntryOf s.header (image_of xs) s.map chunk) (from.since before).held (state.entries chunk within));
        full = fulls_same (disk_shape s.header (h.sectors base)) core''.shape s.map core''.fixed.entries (chunks_of s.header) (length core''.table.chunks) s.header.storage core''.table.storage core''.history.log.entries shaped
            (ap (λ (f : Fixed (Patient S) (Patient B)). f.entries) fixed_is)
            (disk_same.chunks ∙ ap (λ (t : TableState). length t.chunks) opened.table_is ∙ sized.table) (disk_same.storage ∙ ap (λ (t : TableState). t.storage) opened.table_is ∙ sized.storage) known.full;
        worn = subst (λ (f : Fixed (Patient S) (Patient B)). AreWornsCaused f.header.generation core''.history.log.entries) fixed_is known.worn;
      };
      numbered = ended.numbers;
      again = λ both start good.
          let t = both.0 in let b = both.1 in let before = kept.telling.told_before t in
          let is = begins before start good.had in
          let safe = safely before start good in
          let held = (g.disk core''.store.inner).held in (
            subst (λ (f : Fixed (Patient S) (Patient B)). IsOpenAgain f.header (base_then (patient_base h) f) start core''.history.log.entries held) fixed_is (ended.reopens t b start is safe held (holds t).left),
            λ said. subst (λ (f : Fixed (Patient S) (Patient B)). ShowsCould f.header (base_then (patient_base h) f) start core''.history.log.entries held) fixed_is
                (ended.settled t b start is safe (flushed_ok said) held (holds t)),
          );
    }

-- ---- until the devices are handed out

-- A run until the devices are handed out, which behind the serving are only read.
module _ {S B : Type 0} {g : store.Ghosts S} {h : base.Ghosts B} {trace : Script} {kept : Header} {d mid d' : Devices S B} {history : HistoryState} {closing : Line}
    (leaves : Leaves g h d mid) (reads : AreReadOnly g h mid d') (runs : RunsTrace g h trace kept d mid history closing) where
  opens_on : g.records d'.store → OpensQuietly (g.disk d.store) (g.disk d'.store) history.opened
  opens_on r =
      let before = reads.store.keeps.telling.recorded_before r in
      let adds = reads.store.recorded r in
      elim (runs.run.opening before) [
        | Opened_within first more start none log is ↦
            Opened_within first (more ++ adds.more) (adds.start ∙ start) none
            (adds.log ∙ ap (λ (l : List Entry). l ++ adds.more) log ∙ append_assoc (g.disk d.store).log (first ++ more) adds.more ∙ ap (λ (l : List Entry). (g.disk d.store).log ++ l) (append_assoc first more adds.more)) is
        | Had_stopped none past ↦ elim (leaves.store.telling.state before) [
          | inl t ↦ absurd (let within = (runs.numbered t).opened in omega (arith, within, past))
          | inr stopped ↦ (let stood = reads.store.keeps.telling.stood r stopped in Had_stopped (stood_adds none stood) (let long = ap length stood.log in omega (arith, past, long)))
        ]
      ]

  safe_on : g.records d'.store → h.tells d'.base → (start : List Sector) → WasGood g h kept start d
      → IsCrashSafe (format_of kept) (layout_of kept) (base_at zero_sector (h.content d.base)) zero_sector (g.disk d'.store).start (g.disk d'.store).log start history
  safe_on r b start good =
      let before = reads.store.keeps.telling.recorded_before r in
      let safe = runs.run.safe before (reads.base.keeps.telling.told_before b) start good in
      elim (leaves.store.telling.state before) [
        | inl t ↦ safe_later (format_of kept) (layout_of kept) (base_at zero_sector (h.content d.base)) zero_sector (g.disk mid.store) (g.disk d'.store) start history (reads.store.recorded r) (runs.numbered t) safe
        | inr stopped ↦ (let stood = reads.store.keeps.telling.stood r stopped in
            subst (λ (xs : List Sector). IsCrashSafe (format_of kept) (layout_of kept) (base_at zero_sector (h.content d.base)) zero_sector xs (g.disk d'.store).log start history) (sym stood.start)
            (subst (λ (es : List Entry). IsCrashSafe (format_of kept) (layout_of kept) (base_at zero_sector (h.content d.base)) zero_sector (g.disk mid.store).start es start history) (sym stood.log) safe))
      ]

  pub run_wider : IsRun g h trace kept d d' history closing
  run_wider =
      let run = runs.run in let told = reads.store.keeps.telling.told_before in record {
        served = run.served;
        asked = run.asked;
        alone = run.alone;
        answer = run.answer;
        closed = run.closed;
        closing_is = run.closing_is;
        replied = run.replied;
        regular = run.regular;
        legal = λ both start had. run.legal (told both.0, reads.base.keeps.telling.told_before both.1) start had;
        opening = opens_on;
        safe = safe_on;
        store_caused = caused_wider (omega arith) reads.store.keeps.counts.faults run.store_caused;
        base_caused = caused_wider (omega arith) reads.base.keeps.counts.faults run.base_caused;
        traced = λ t. traced_on (g.disk mid.store) (g.disk d'.store) (reads.store.added t) (run.traced (told t));
        had = run.had;
        had_is = λ t. run.had_is (told t);
        full = run.full;
        worn = run.worn;
      }
