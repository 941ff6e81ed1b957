-- The primitives of passes: what each asks of the core, and the core after it.
use Rattle.std.specs.Prelude.{ℕ, ◌≡◌, ◌⊎◌, ◌++◌, [], ◌∷◌, Bool, true, Option, Some, None, length}
use Rattle.vd_image.specs.Log.{CallId, Entry, Flush, Fine, Ask, Issue, Done, Broke, Reply, IsIssueOf}
use Rattle.vd_crash.specs.facts.Safe.{Opening}
use Rattle.vd_crash.specs.facts.Facts.{HasEntry}
use Rattle.vd_crash.specs.facts.Words.{Grows, WritesNothing, IsUpdated, with_blocks, with_table, no_write}
use Rattle.vd_crash.specs.facts.Memory.{Memory, IsTable}
use Rattle.vd_crash.specs.flushes.Blocks.{PieceWrite, issue_of, WritesLocal, WritesWhole, BecomesLocal, Owes, OwesMore, ChunkDrop, with_pending, with_owed, dropped_memory}
use Rattle.vd_crash.specs.flushes.Moves.{entry_now}
use Rattle.vd_crash.specs.flushes.Stage.{Flight, Idle, Writing, Copying, Answering, HasBlock, HasCall, IsOtherCall}
use Rattle.vd_crash.specs.primitives.Core.{Resting, StageTicket, AsksNone}
use Rattle.vd_crash.specs.primitives.States.{State, state, moved, MayIssue, MayCopy, EndsNone}

-- the store event writes nothing, ends nothing that is in flight, and asks for no flush that the stage waits for
pub record EndsNothing (s : State) (e : Entry) : Type 0 where
  pub writes_nothing : WritesNothing e
  pub passes : EndsNone s.flights e
  pub flush : (t : CallId) → StageTicket s.stage t → (Done t ≡ e) ⊎ (Broke t ≡ e) → ⊥
  pub asks_none : AsksNone s.stage e

-- the entry is no issue, no end of a write, and no good answer of a flush
pub record EndsNoCall (s : State) (event : Entry) : Type 0 where
  pub writes_nothing : WritesNothing event
  pub no_done : (id : CallId) → event ≡ Done id → ⊥
  pub no_issue : (id : CallId) → IsIssueOf event id → ⊥
  pub other_calls : (k : ℕ) (id : CallId) → HasCall (s.flights k) id → IsOtherCall (entry_now s.log event) id
  pub no_answer : (id : CallId) (a n : ℕ) → HasEntry s.history a n (Ask id Flush) → event ≡ Reply id Fine → ⊥

-- a pass owes the good answer of a flush, which is asked once, and then it has nothing in flight
pub record AnswersFlush (s : State) : Type 0 where
  pub pass : ℕ
  pub call : CallId
  pub entry : ℕ
  pub number : ℕ
  pub flights : ℕ → Flight
  pub owes : s.flights pass ≡ Answering call entry number
  pub put : IsUpdated s.flights flights pass Idle
  pub once : (b i : ℕ) → HasEntry s.history b i (Ask call Flush) → b ≡ entry

-- a pass submits a piece of its call's write to the store
pub record PieceIssue (s : State) : Type 0 where
  pub pass : ℕ
  pub ticket : CallId
  pub piece : PieceWrite
  pub flights : ℕ → Flight
  pub may : MayIssue s.flights s.stage pass piece.block piece.call ticket
  pub put : IsUpdated s.flights flights pass (Writing piece.block (length s.history) (length s.log) piece.call ticket)
  pub issues : IsIssueOf piece.event ticket

abbrev pub piece_issued : (s : State) → PieceIssue s → Memory → State
piece_issued s i m = moved s (s.log ++ i.piece.event ∷ []) (s.history ++ entry_now s.log (issue_of i.piece) ∷ []) m i.flights

-- a pass that has nothing in flight submits the copy of a block that nobody has
pub record BlockCopy (s : State) : Type 0 where
  pub pass : ℕ
  pub block : ℕ
  pub storage : ℕ
  pub ticket : CallId
  pub event : Entry
  pub flights : ℕ → Flight
  pub may : MayCopy s.flights s.stage pass block ticket
  pub put : IsUpdated s.flights flights pass (Copying block (length s.log) ticket)
  pub issues : IsIssueOf event ticket

-- a pass's piece is in flight, and then it isn't
pub record PieceEnd (s : State) : Type 0 where
  pub pass : ℕ
  pub block : ℕ
  pub entry : ℕ
  pub number : ℕ
  pub call : CallId
  pub ticket : CallId
  pub flights : ℕ → Flight
  pub in_flight : s.flights pass ≡ Writing block entry number call ticket
  pub put : IsUpdated s.flights flights pass Idle

-- it is done in the store, and then for the guest
abbrev pub piece_done : (s : State) → PieceEnd s → Memory → State
piece_done s e m = moved s (s.log ++ Done e.ticket ∷ []) (s.history ++ entry_now (s.log ++ Done e.ticket ∷ []) (Done e.call) ∷ []) m e.flights

abbrev pub piece_broke : (s : State) → PieceEnd s → Memory → State
piece_broke s e m = moved s (s.log ++ Broke e.ticket ∷ []) (s.history ++ entry_now (s.log ++ Broke e.ticket ∷ []) (Broke e.call) ∷ []) m e.flights

-- a pass's copy is in flight, and then it isn't
pub record CopyEnd (s : State) : Type 0 where
  pub pass : ℕ
  pub block : ℕ
  pub number : ℕ
  pub ticket : CallId
  pub flights : ℕ → Flight
  pub in_flight : s.flights pass ≡ Copying block number ticket
  pub put : IsUpdated s.flights flights pass Idle

-- a chunk is discarded whose blocks are no pass's, by a call that has nothing in flight. The store has no event of it
pub record FreeDrop (o : Opening) (s : State) : Type 0 where
  pub drop : ChunkDrop o s.history s.memory
  pub no_call : (k : ℕ) → HasCall (s.flights k) drop.call → ⊥
  pub no_block : (k b : ℕ) → HasBlock (s.flights k) b → o.layout.chunk_of b ≡ drop.chunk → ⊥

-- nothing is written: a store event or an entry that ends nothing, storage for chunks, blocks that are owed, marks, the reply to a flush
pub data IsQuietPrimitive (o : Opening) (s : State) : State → Type 0 where
  Tells : (e : Entry) → EndsNothing s e → IsQuietPrimitive o s (moved s (s.log ++ e ∷ []) s.history s.memory s.flights)
  Notes : (event : Entry) → EndsNoCall s event → IsQuietPrimitive o s (moved s s.log (s.history ++ entry_now s.log event ∷ []) s.memory s.flights)
  Takes : (table : ℕ → Option ℕ) → Grows s.memory.index.table table → IsTable o.layout.storage table
      → IsQuietPrimitive o s (moved s s.log s.history (with_table s.memory table) s.flights)
  Adopts : (owed : ℕ → Bool) → s.stage ≡ Resting → OwesMore s.memory owed → IsQuietPrimitive o s (moved s s.log s.history (with_owed s.memory owed) s.flights)
  Marks : (more : ℕ → Bool) → ((a : ℕ) → s.marked a ≡ true → more a ≡ true) → IsQuietPrimitive o s (state s.log s.history s.memory more s.flights s.stage)
  Answers : (h : AnswersFlush s) → IsQuietPrimitive o s (moved s s.log (s.history ++ entry_now s.log (Reply h.call Fine) ∷ []) s.memory h.flights)

-- a block is written, to its place where it is local and whole where it isn't, or copied; or a chunk is discarded
pub data IsWritePrimitive (o : Opening) (s : State) : State → Type 0 where
  Issues : (i : PieceIssue s) → WritesLocal o s.memory i.piece → IsWritePrimitive o s (piece_issued s i s.memory)
  Issues_whole : (i : PieceIssue s) → (w : WritesWhole o s.log s.memory (issue_of i.piece) i.piece.event i.piece.block i.piece.storage)
      → IsWritePrimitive o s (piece_issued s i (with_pending s.memory w.pending))
  Copies : (c : BlockCopy s) → (w : WritesWhole o s.log s.memory no_write c.event c.block c.storage)
      → IsWritePrimitive o s (moved s (s.log ++ c.event ∷ []) s.history (with_pending s.memory w.pending) c.flights)
  Drops : (h : FreeDrop o s)
      → IsWritePrimitive o s (moved s s.log ((s.history ++ entry_now s.log (Issue h.drop.call h.drop.first h.drop.content) ∷ []) ++ entry_now s.log (Done h.drop.call) ∷ []) (dropped_memory h.drop) s.flights)

-- what a pass has in flight is done, or fails: a piece in a local block, a piece that writes its block whole, a copy
pub data IsEndPrimitive (o : Opening) (s : State) : State → Type 0 where
  Ends_local : (e : PieceEnd s) (owed : ℕ → Bool) → s.memory.fresh e.block ≡ true → Owes s.memory owed e.block → IsEndPrimitive o s (piece_done s e (with_owed s.memory owed))
  Ends_whole : (e : PieceEnd s) (owed : ℕ → Bool) → s.memory.pending e.block ≡ Some e.number → Owes s.memory owed e.block
      → (l : BecomesLocal s.memory (length (s.log ++ Done e.ticket ∷ [])) e.block) → IsEndPrimitive o s (piece_done s e (with_blocks s.memory l.fresh l.born owed l.pending))
  Fails : (e : PieceEnd s) → IsEndPrimitive o s (piece_broke s e (with_pending s.memory s.memory.pending))
  Fails_whole : (e : PieceEnd s) (pending : ℕ → Option ℕ) → IsUpdated s.memory.pending pending e.block None → IsEndPrimitive o s (piece_broke s e (with_pending s.memory pending))
  Copied : (c : CopyEnd s) → (l : BecomesLocal s.memory (length (s.log ++ Done c.ticket ∷ [])) c.block)
      → IsEndPrimitive o s (moved s (s.log ++ Done c.ticket ∷ []) s.history (with_blocks s.memory l.fresh l.born s.memory.owed l.pending) c.flights)
  Copy_fails : (c : CopyEnd s) (pending : ℕ → Option ℕ) → IsUpdated s.memory.pending pending c.block None
      → IsEndPrimitive o s (moved s (s.log ++ Broke c.ticket ∷ []) s.history (with_pending s.memory pending) c.flights)
