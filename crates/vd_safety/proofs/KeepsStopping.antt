-- What is kept of a store that has stopped goes on with the core: its log stands, and each further entry of the history is harmless.
use Rattle.std.proofs.Common.{◌≡◌, ℕ, ◌-◌, ◌<◌, ◌≤◌, ◌⊎◌, inl, inr, Bool, List, [], ◌∷◌, ◌++◌, length, take, replicate, Contains, refl, sym, ◌∙◌, ap, subst, arith, Option}
use Rattle.std.proofs.lemmas.List.{append_assoc, append-nil, length_push}
use Rattle.vd_device.specs.declared.store.Store as store
use Rattle.vd_device.specs.declared.base.Base as base
use Rattle.vd_device.specs.Stores.{IsTold, StoreTakes}
use Rattle.vd_law.specs.declared.entry.Sector.{Sector}
use Rattle.vd_law.specs.declared.entry.Answer.{Answer}
use Rattle.vd_law.specs.declared.entry.Room.{Room}
use Rattle.vd_law.specs.Contents.{may}
use Rattle.vd_law.specs.Entries.{Asked, Entry}
use Rattle.vd_law.specs.Histories.{HistoryState, IsRising, last_number, count_up_to, entries_up_to}
use Rattle.vd_law.proofs.Numbers.{rising-push, last_number-push}
use Rattle.vd_device.specs.declared.settled.Settled.{Settled}
use Rattle.vd_device.specs.declared.settled.Settled.TheVariants.{Done, NotYet, Failed}
use Rattle.vd_device.specs.declared.ticket.Ticket.{Ticket}
use Rattle.vd_device.specs.Disks.{Disk, StoppedSince}
use Rattle.vd_format.specs.declared.header.Header.{Header}
use Rattle.vd_image.specs.Layouts.{layout_of}
use Rattle.vd_image.specs.Decoders.{format_of}
use Rattle.vd_crash.specs.facts.CrashSafe.{IsCrashSafe}
use Rattle.vd_table.specs.Tables.{TableState}
use Rattle.vd_keeper.specs.Keeping.{KeeperState}
use Rattle.vd_passes.specs.declared.shape.Shape.{Shape}
use Rattle.vd_passes.specs.declared.pass.Pass.{Pass}
use Rattle.vd_passes.specs.declared.pass.Fault.{Fault}
use Rattle.vd_passes.specs.declared.pass.Fault.TheVariants as fault
use Rattle.vd_passes.specs.Requests.{RequestState, requests}
use Rattle.vd_passes.specs.Steps.{Issues, after_write, WriteSettled, EndsRead, LookSettled, BaseLookSettled}
use Rattle.vd_passes.proofs.Stopping.{takes-stood}
use Rattle.vd_safety.specs.Safely.{opening_from, IsSafelyKept, IsSafelyStopped, IsStillSafe}
use Rattle.vd_safety.proofs.Words.{IsHarmless, secured-rising, stopped-crash-safe}
use Rattle.vd_safety.proofs.KeepsWords.{safely-words}
use Rattle.vd_machine.specs.Adding.{AddsEntries}
use Rattle.vd_machine.specs.Asking.{ask_state, AskEnds}
use Rattle.vd_machine.specs.Outcomes.{numbers_of, read_numbers_of}
use Rattle.vd_machine.specs.Start.{WasSafe}
use Rattle.vd_machine.specs.Views.{View}
use Rattle.vd_machine.specs.Sound.{IsSound}
use Rattle.vd_machine.specs.Telling.{opening_of, base_then, IsStartOf}
use Rattle.vd_format.specs.Background.{zero_sector, base_at}

pub entries-as : {r r' : RequestState} → r ≡ r' → r.entries ≡ r'.entries
entries-as same = ap (λ (x : RequestState). x.entries) same

-- ---- the history grows

module _ {h : Header} {behind start : List Sector} {disk : Disk} where
  -- by one harmless entry
  pub one-more : {history history' : HistoryState} {e : Entry} {n : ℕ} → IsHarmless disk.log e n → history'.log.entries ≡ history.log.entries ++ e ∷ []
      → history'.numbers ≡ history.numbers ++ n ∷ [] → history'.opened ≡ history.opened
      → last_number history.opened history.numbers ≤ n → IsStillSafe h behind start disk history → IsStillSafe h behind start disk history'
  one-more {history} {history'} {e} {n} harmless entries numbers opened later was = record {
    each = let a = ap length numbers in let b = ap length entries in let c = length_push history.numbers n in let d = length_push history.log.entries e in
        let w = was.each in omega (arith, a, b, c, d, w);
    rising = subst (λ (o : ℕ). IsRising o history'.numbers) (sym opened)
        (subst (IsRising history.opened) (sym numbers) (rising-push history.opened history.numbers n was.rising later));
    crash_safe = stopped-crash-safe (format_of h) (layout_of h)
        (base_at zero_sector behind) zero_sector disk.start disk.log start history history' e n harmless entries numbers opened was.each was.rising later
        was.crash_safe;
  }

  -- by one entry that is numbered above the log's length
  pub late-one : {history history' : HistoryState} {n sectors : ℕ} (e : Entry) → AddsEntries (n ∷ []) sectors history history'
      → history'.log.entries ≡ history.log.entries ++ e ∷ [] → last_number history.opened history.numbers ≤ n
      → length disk.log < n → IsStillSafe h behind start disk history → IsStillSafe h behind start disk history'
  late-one e extends entries later late was = one-more (inl late) entries extends.numbers extends.opened later was

  -- by two such entries
  pub late-two : {history history' : HistoryState} {n sectors : ℕ} (a b : Entry) → AddsEntries (n ∷ n ∷ []) sectors history history'
      → history'.log.entries ≡ history.log.entries ++ a ∷ b ∷ [] → last_number history.opened history.numbers ≤ n
      → length disk.log < n → IsStillSafe h behind start disk history → IsStillSafe h behind start disk history'
  late-two {history} {history'} {n} a b extends entries later late was =
      let mid : HistoryState = record {
        log = record { entries = history.log.entries ++ a ∷ []; left = history.log.left; room = history.log.room };
        numbers =
            history.numbers ++ n ∷ [];
        opened = history.opened;
      } in
      let last = last_number-push history.opened history.numbers n in
      one-more {history = mid} (inl late) (entries ∙ sym (append_assoc history.log.entries (a ∷ []) (b ∷ [])))
      (extends.numbers ∙ sym (append_assoc history.numbers (n ∷ []) (n ∷ []))) extends.opened (omega (arith, last))
      (one-more {history = history} {history' = mid} (inl late) refl refl refl later was)

  -- by none
  pub none-more : {history history' : HistoryState} {sectors : ℕ} → AddsEntries [] sectors history history' → history'.log.entries ≡ history.log.entries
      → IsStillSafe h behind start disk history → IsStillSafe h behind start disk history'
  none-more {history} {history'} extends entries was =
      let numbers : history'.numbers ≡ history.numbers = extends.numbers ∙ append-nil history.numbers in
      let moments : (k : ℕ) → entries_up_to k history' ≡ entries_up_to k history =
      λ k. ap (λ (ns : List ℕ). take (count_up_to k ns) history'.log.entries) numbers ∙ ap (take (count_up_to k history.numbers)) entries in
      let opened = extends.opened in
      record {
        each = ap length numbers ∙ was.each ∙ sym (ap length entries);
        rising = subst (λ (o : ℕ). IsRising o history'.numbers) (sym opened) (subst (IsRising history.opened) (sym numbers) was.rising);
        crash_safe = record {
          sound = λ k image low within left. was.crash_safe.sound k image (omega (arith, low, opened)) within left;
          allowed = λ k image low within left s v inside has. subst (λ (es : List Entry). Contains (may start es s) v) (sym (moments k))
              (was.crash_safe.allowed k image (omega (arith, low, opened)) within left s v inside has);
        };
      }

  -- as the write ends
  write-ends : {n sectors : ℕ} {history history' : HistoryState} (i : ℕ) (shape : Shape) (fresh : List Bool) (passes : List Pass) (answer : Settled)
      (pass : Pass) (ticket : Ticket)
      → history'.log.entries ≡ (after_write answer pass ticket i (requests shape fresh passes history.log.entries)).entries
      → AddsEntries (numbers_of answer n) sectors history history'
      → last_number history.opened history.numbers ≤ n → length disk.log < n → IsStillSafe h behind start disk history
      → IsStillSafe h behind start disk history'
  write-ends i shape fresh passes Done pass ticket entries extends later late was = late-one _ extends entries later late was
  write-ends i shape fresh passes (NotYet same) pass ticket entries extends later late was = none-more extends entries was
  write-ends i shape fresh passes (Failed number) pass ticket entries extends later late was = late-one _ extends entries later late was

  -- as a read ends
  read-ends : {n sectors : ℕ} {history history' : HistoryState} (i : ℕ) (shape shape' : Shape) (fresh fresh' : List Bool) (passes passes' : List Pass)
      (answer : Settled) (content : List Sector) (why : Fault) (out out' : List Sector)
      → EndsRead answer content why i (requests shape fresh passes history.log.entries) (requests shape' fresh' passes' history'.log.entries) out out'
      → AddsEntries (read_numbers_of answer n) sectors history history'
      → last_number history.opened history.numbers ≤ n → length disk.log < n → IsStillSafe h behind start disk history
      → IsStillSafe h behind start disk history'
  read-ends i shape shape' fresh fresh' passes passes' Done content why out out' ends extends later late was =
      late-one _ extends (entries-as ends.after) later late was
  read-ends i shape shape' fresh fresh' passes passes' (NotYet same) content why out out' ends extends later late was =
      none-more extends (entries-as ends.0) was
  read-ends i shape shape' fresh fresh' passes passes' (Failed number) content why out out' ends extends later late was =
      none-more extends (entries-as ends.0.after) was

  module _ {i n sectors : ℕ} {shape shape' : Shape} {fresh fresh' : List Bool} {passes passes' : List Pass} {history history' : HistoryState} where
    -- as a write's piece is issued
    pub issue-still : {content : List Sector} {S : Type 0} {g : store.Ghosts S} {s s' : S}
        → Issues g content i (requests shape fresh passes history.log.entries) (requests shape' fresh' passes' history'.log.entries) s s'
        → AddsEntries (n ∷ []) sectors history history' → last_number history.opened history.numbers ≤ n → IsStillSafe h behind start disk history
        → IsStillSafe h behind start disk history'
    issue-still step extends later was = one-more (inr (λ id is. cc)) (entries-as step.after) extends.numbers extends.opened later was

    pub write-still : {answer : Settled} {S : Type 0} {g : store.Ghosts S} {s s' : S}
        → WriteSettled g answer i (requests shape fresh passes history.log.entries) (requests shape' fresh' passes' history'.log.entries) s s'
        → AddsEntries (numbers_of answer n) sectors history history' → last_number history.opened history.numbers ≤ n → length disk.log < n
        → IsStillSafe h behind start disk history → IsStillSafe h behind start disk history'
    write-still {answer} step = write-ends i shape fresh passes answer step.pass step.ticket (entries-as step.after)

    pub look-still : {answer : Settled} {S : Type 0} {g : store.Ghosts S} {s s' : S} {out out' : List Sector}
        → LookSettled g answer i (requests shape fresh passes history.log.entries) (requests shape' fresh' passes' history'.log.entries) s s' out out'
        → AddsEntries (read_numbers_of answer n) sectors history history' → last_number history.opened history.numbers ≤ n → length disk.log < n
        → IsStillSafe h behind start disk history → IsStillSafe h behind start disk history'
    look-still {answer} {out = out} {out'} step = read-ends i shape shape' fresh fresh' passes passes' answer step.content
        (fault.Store step.ticket.number) out out' step.effect

    pub base_look-still : {answer : Settled} {B : Type 0} {bg : base.Ghosts B} {b b' : B} {out out' : List Sector}
        → BaseLookSettled bg answer i (requests shape fresh passes history.log.entries) (requests shape' fresh' passes' history'.log.entries) b b' out out'
        → AddsEntries (read_numbers_of answer n) sectors history history' → last_number history.opened history.numbers ≤ n → length disk.log < n
        → IsStillSafe h behind start disk history → IsStillSafe h behind start disk history'
    base_look-still {answer} {out = out} {out'} step =
        read-ends i shape shape' fresh fresh' passes passes' answer (step.content ++ replicate (step.pass.piece - step.ticket.count) zero_sector)
        (fault.Base step.ticket.number) out out' step.effect

  -- as a request is asked, or answered at once
  pub ask-still : {result : Option Answer} {request : Asked} {shape shape' : Shape} {i events : ℕ} {table table' : TableState} {passes passes' : List Pass}
      {history history' : HistoryState} {spare spare' : Room}
      → AskEnds result request events i (ask_state shape table passes history spare) (ask_state shape' table' passes' history' spare')
      → last_number history.opened history.numbers ≤ events → length disk.log < events → IsStillSafe h behind start disk history
      → IsStillSafe h behind start disk history'
  ask-still (inl none) later late was = subst (IsStillSafe h behind start disk) (sym none.2.history_same) was
  ask-still (inr (inl full)) later late was = late-two _ _ full.3.extends (entries-as (full.3.asks []).after) later late was
  ask-still (inr (inr asked)) later late was = late-one _ asked.1.extends (entries-as (asked.1.asks []).after) later late was

-- ---- the store stands

module _ {S B : Type 0} {g : store.Ghosts S} {h : base.Ghosts B} {c : View S B} where
  -- A core is made. Where its store has stopped, no moment of the log has come since.
  pub opened-stopped : IsTold g c.store → c.history.log.entries ≡ [] → c.history.numbers ≡ [] → c.history.opened ≡ g.events c.store → g.records c.store
      → h.tells c.base → g.tells c.store ⊎ IsSafelyStopped g h c
  opened-stopped told entries numbers opened recorded base_told = elim (told recorded) [
    | inl tells ↦ inl tells
    | inr stopped ↦ inr (record {
      stopped = stopped;
      safe = λ start is safe. record {
        each = ap length numbers ∙ sym (ap length entries);
        rising = subst (IsRising c.history.opened) (sym numbers) tt;
        crash_safe = record {
          sound = λ k image low within left. absurd (omega (arith, low, within, stopped, opened));
          allowed = λ k image low within left. absurd (omega (arith, low, within, stopped, opened));
        };
      };
    })
  ]

module _ {S B : Type 0} {g : store.Ghosts S} {h : base.Ghosts B} {c : View S B} (sound : IsSound g h c)
    (safely : g.tells c.store → h.tells c.base → IsSafelyKept g h c)
    (was : g.records c.store → h.tells c.base → g.tells c.store ⊎ IsSafelyStopped g h c) where
  -- whether it tells or has stopped, the history is crash safe by the log as it stands
  pub still-safe : g.records c.store → h.tells c.base → (start : List Sector) → IsStartOf g h c.fixed start → WasSafe (opening_of g c.fixed) c.fixed.header
      → IsStillSafe c.fixed.header (base_then h c.fixed) start (g.disk c.store) c.history
  still-safe recorded base_told start is safe = elim (was recorded base_told) [
    | inl told ↦
        let here = safely told base_told in
        let secured = here.secured start is safe in
        record {
          each = secured.1.mirrors.many;
          rising = subst (λ (n : ℕ). IsRising n c.history.numbers) (sym sound.since.opened)
              (secured-rising (opening_from g h c.fixed secured.0 start) c.table c.fresh c.keeping c.flusher c.passes c.history (g.disk c.store).log secured.1);
          crash_safe = safely-words sound here recorded start is safe;
        }
    | inr stopped ↦ stopped.safe start is safe
  ]

  module _ {base' : B} {table' : TableState} {fresh' : List Bool} {keeping' : KeeperState} {flusher' : Option ℕ} {passes' : List Pass} {history' : HistoryState}
      {spare' : Room} {steps' : ℕ} where
    -- The store has had no call.
    pub stopped-here : (h.tells base' → h.tells c.base)
        → (length (g.disk c.store).log < g.events c.store → (start : List Sector)
        → IsStillSafe c.fixed.header (base_then h c.fixed) start (g.disk c.store) c.history
        → IsStillSafe c.fixed.header (base_then h c.fixed) start (g.disk c.store) history')
        → g.records c.store → h.tells base'
        → g.tells c.store ⊎ IsSafelyStopped g h (record c {
          base = base';
          table = table';
          fresh = fresh';
          keeping = keeping';
          flusher = flusher';
          passes =
              passes';
          history = history';
          spare = spare';
          steps = steps';
        })
    stopped-here told_before next recorded base_told = elim (was recorded (told_before base_told)) [
      | inl told ↦ inl told
      | inr before ↦ inr (record { stopped = before.stopped; safe = λ start is safe. next before.stopped start (before.safe start is safe) })
    ]

    -- The store has had a call. If it has stopped, in it or before, its log stands as it stood.
    pub stopped-on : {store' : S} (es : List Entry) → StoreTakes g es c.store store' → (h.tells base' → h.tells c.base)
        → (length (g.disk c.store).log < g.events store' → (start : List Sector)
        → IsStillSafe c.fixed.header (base_then h c.fixed) start (g.disk c.store) c.history
        → IsStillSafe c.fixed.header (base_then h c.fixed) start (g.disk c.store) history')
        → g.records store' → h.tells base'
        → g.tells store' ⊎ IsSafelyStopped g h (record c {
          store = store';
          base = base';
          table = table';
          fresh = fresh';
          keeping = keeping';
          flusher =
              flusher';
          passes = passes';
          history = history';
          spare = spare';
          steps = steps';
        })
    stopped-on {store'} es takes told_before next recorded base_told = elim (takes-stood g es c.store store' takes recorded) [
      | inl told ↦ inl told
      | inr stood ↦ inr (record {
        stopped = stood.stopped;
        safe = λ start is safe.
            let late : length (g.disk c.store).log < g.events store' = (let long = ap length stood.log in omega (arith, long, stood.stopped)) in
            as_before stood (next late start (still-safe (takes.keeps.recorded_before recorded) (told_before base_told) start is safe));
      })
    ]
      where
        as_before : {start : List Sector} → StoppedSince (g.events store') (g.disk c.store) (g.disk store')
            → IsStillSafe c.fixed.header (base_then h c.fixed) start (g.disk c.store) history'
            → IsStillSafe c.fixed.header (base_then h c.fixed) start (g.disk store') history'
        as_before {start} stood still = record {
          each = still.each;
          rising = still.rising;
          crash_safe = subst (λ (xs : List Sector). IsCrashSafe (format_of c.fixed.header) (layout_of c.fixed.header)
              (base_at zero_sector (base_then h c.fixed)) zero_sector xs (g.disk store').log start history') (sym stood.start)
              (subst (λ (xs : List Entry). IsCrashSafe (format_of c.fixed.header) (layout_of c.fixed.header)
              (base_at zero_sector (base_then h c.fixed)) zero_sector (g.disk c.store).start xs start history') (sym stood.log) still.crash_safe);
        }
