-- The state of a core after a step of a guest's pass: the header, the keeper's slots and its pages stay as they are.
use Rattle.std.proofs.Common.{◌≡◌, ℕ, ◌+◌, ◌++◌, [], ◌∷◌, Bool, List, length, sym, ◌∙◌, ap, Option}
use Rattle.vd_law.specs.Entries.{Entry}
use Rattle.vd_law.specs.Histories.{HistoryState}
use Rattle.vd_table.specs.Tables.{TableState}
use Rattle.vd_crash.specs.facts.Safe.{Opening, NumberedEntry, numbered}
use Rattle.vd_crash.specs.flushes.Stage.{Flight}
use Rattle.vd_crash.specs.flushes.Moves.{entry_now}
use Rattle.vd_crash.specs.primitives.Primitives.{State, state}
use Rattle.vd_keeper.specs.Keeping.{KeeperState}
use Rattle.vd_passes.specs.declared.pass.Pass.{Pass}
use Rattle.vd_safety.specs.Mirrors.{core_state, bit_of, storage_of, AreFlightsOf, IsPendingOf, IsStageOf, Mirrors}
use Rattle.vd_safety.proofs.Updates.{numbered-more, length-more}
use Rattle.vd_crash.specs.facts.Memory.{Memory}

-- the memory with other storage and other blocks
abbrev pub changed : Memory → (table : ℕ → Option ℕ) → (fresh : ℕ → Bool) → (born : ℕ → ℕ) → (owed : ℕ → Bool) → (pending : ℕ → Option ℕ) → Memory
changed m table fresh born owed pending = record {
  index = record { generation = m.index.generation; tracked = m.index.tracked; sure = m.index.sure; table = table; stale = m.index.stale; off_base = m.index.off_base; tried = m.index.tried; cursor = m.index.cursor };
  fresh = fresh;
  born = born;
  owed = owed;
  pending = pending;
  discards = m.discards;
}

-- a history that has these numbered entries
pub record IsHistory (history : HistoryState) (events : List NumberedEntry) : Type 0 where
  pub is : events ≡ numbered history.log.entries history.numbers
  pub many : length history.numbers ≡ length history.log.entries

-- one entry more
pub history-more : (history history' : HistoryState) (events : List NumberedEntry) (store log : List Entry) (e : Entry) → IsHistory history events → store ≡ log → history'.log.entries ≡ history.log.entries ++ e ∷ []
    → history'.numbers ≡ history.numbers ++ length log ∷ [] → IsHistory history' (events ++ entry_now store e ∷ [])
history-more history history' events store log e was told entries numbers = record {
  is =
      ap (λ (n : ℕ). events ++ record { event = e; number = n } ∷ []) (ap length told)
      ∙ ap (λ (xs : List NumberedEntry). xs ++ record { event = e; number = length log } ∷ []) was.is
      ∙ sym (numbered-more history.log.entries history.numbers e (length log) was.many)
      ∙ ap (λ (es : List Entry). numbered es (history.numbers ++ length log ∷ [])) (sym entries)
      ∙ ap (numbered history'.log.entries) (sym numbers);
  many = ap length numbers ∙ length-more history.numbers (length log) ∙ ap (λ (n : ℕ). n + 1) was.many ∙ sym (length-more history.log.entries e) ∙ sym (ap length entries);
}

-- the same entries
pub history-same : (history history' : HistoryState) (events : List NumberedEntry) → IsHistory history events → history'.log.entries ≡ history.log.entries → history'.numbers ≡ history.numbers → IsHistory history' events
history-same history history' events was entries numbers = record {
  is = was.is ∙ ap (λ (es : List Entry). numbered es history.numbers) (sym entries) ∙ ap (numbered history'.log.entries) (sym numbers);
  many = ap length numbers ∙ was.many ∙ sym (ap length entries);
}

module _ (o : Opening) (table : TableState) (fresh : List Bool) (k : KeeperState) (flusher : Option ℕ) (passes : List Pass) (history : HistoryState) (log : List Entry) (s : State)
    (was : Mirrors o (core_state table fresh k flusher passes history) log s) where
  pub mirrored : (table' : TableState) (fresh' owed' : List Bool) (passes' : List Pass) (history' : HistoryState) (log' store : List Entry) (events : List NumberedEntry)
      (t : ℕ → Option ℕ) (f : ℕ → Bool) (born : ℕ → ℕ) (w : ℕ → Bool) (pending : ℕ → Option ℕ) (flights : ℕ → Flight)
      → store ≡ log' → IsHistory history' events → ((c : ℕ) → t c ≡ storage_of table' c) → ((b : ℕ) → f b ≡ bit_of fresh' b) → ((b : ℕ) → w b ≡ bit_of owed' b) → ((b : ℕ) → IsPendingOf fresh' passes' b (pending b))
      → AreFlightsOf passes' flights → IsStageOf flusher o (record k { owed = owed' }) passes' s.stage
      → Mirrors o (core_state table' fresh' (record k { owed = owed' }) flusher passes' history') log' (state store events (changed s.memory t f born w pending) s.marked flights s.stage)
  mirrored table' fresh' owed' passes' history' log' store events t f born w pending flights told events_are storage fresh_is owed_is pending_is flights_are stage_is = record {
    log_is = told;
    history_is = events_are.is;
    many = events_are.many;
    generation = was.generation;
    tracked = was.tracked;
    sure = was.sure;
    storage = storage;
    stale = was.stale;
    off_base = was.off_base;
    undiscarded = was.undiscarded;
    tried = was.tried;
    same_tracked = was.same_tracked;
    cursor = was.cursor;
    fresh_is = fresh_is;
    owed = owed_is;
    pending = pending_is;
    marked = was.marked;
    flights = flights_are;
    stage = stage_is;
  }

  pub was-history : IsHistory history s.history
  was-history = record { is = was.history_is; many = was.many }
