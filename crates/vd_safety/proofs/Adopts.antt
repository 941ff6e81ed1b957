-- What was fresh at opening is owed, where no flush is under way.
use Rattle.std.proofs.Common.{◌≡◌, inl, inr, ℕ, Bool, true, not, List, Option, None, sym, refl, ◌∙◌, subst}
use Rattle.std.proofs.lemmas.Bool.{and_parts, or_cases, or_left}
use Rattle.vd_law.specs.Entries.{Entry}
use Rattle.vd_law.specs.Histories.{HistoryState}
use Rattle.vd_table.specs.Tables.{TableState}
use Rattle.vd_crash.specs.facts.Safe.{Opening}
use Rattle.vd_crash.specs.facts.Words.{with_blocks}
use Rattle.vd_crash.specs.primitives.Core.{Resting}
use Rattle.vd_crash.specs.primitives.Primitives.{State, state}
use Rattle.vd_crash.proofs.primitives.Parts.{Adopts}
use Rattle.vd_crash.specs.primitives.Keeping.{KeepsCrashSafety}
use Rattle.vd_crash.proofs.primitives.Keeping.{primitive_keeps}
use Rattle.vd_keeper.specs.Keeping.{KeeperState}
use Rattle.vd_keeper.specs.Moves.{difference_of, after_adopt}
use Rattle.vd_keeper.proofs.Rows.{get_or-either, get_or-without}
use Rattle.vd_passes.specs.declared.pass.Pass.{Pass}
use Rattle.vd_safety.specs.Mirrors.{core_state, bit_of, IsStageOf, Mirrors, HasSafeMirror}
use Rattle.vd_safety.proofs.Stepping.{keeps-at}

owed-local : (o : Opening) (s : State) → KeepsCrashSafety o s → (b : ℕ) → s.memory.owed b ≡ true → s.memory.fresh b ≡ true
unfolding KeepsCrashSafety
owed-local o s keeps = keeps.core.holds.blocks.owed_local

module _ {o : Opening} {table : TableState} {fresh : List Bool} {k : KeeperState} {flusher : Option ℕ} {passes : List Pass} {history : HistoryState} {log : List Entry} where
  pub adopt-secured : flusher ≡ None → HasSafeMirror o (core_state table fresh k flusher passes history) log → HasSafeMirror o (core_state table fresh (after_adopt fresh k) flusher passes history) log
  adopt-secured idle was =
      let s : State = was.state in
      let mirrors = was.mirrors in
      let k' : KeeperState = after_adopt fresh k in
      let owed : ℕ → Bool = λ b. bit_of k'.owed b in
      let resting : s.stage ≡ Resting = subst (λ (f : Option ℕ). IsStageOf f o k passes s.stage) idle mirrors.stage in
      let more : (c : ℕ) → s.memory.owed c ≡ true → owed c ≡ true = λ c on. get_or-either k.owed (difference_of fresh k.stale) c ∙ or_left (bit_of k.owed c) (bit_of (difference_of fresh k.stale) c) (sym (mirrors.owed c) ∙ on) in
      let local : (c : ℕ) → owed c ≡ true → s.memory.fresh c ≡ true =
      λ c on. elim (or_cases (bit_of k.owed c) (bit_of (difference_of fresh k.stale) c) (sym (get_or-either k.owed (difference_of fresh k.stale) c) ∙ on)) [
        | inl old ↦ owed-local o s was.keeps c (mirrors.owed c ∙ old)
        | inr new ↦ mirrors.fresh_is c ∙ (and_parts (bit_of fresh c) (not (bit_of k.stale c)) (sym (get_or-without fresh k.stale c) ∙ new)).0
      ] in
      let after = primitive_keeps o (state s.log s.history s.memory s.marked s.flights Resting) (state s.log s.history (with_blocks s.memory s.memory.fresh s.memory.born owed s.memory.pending) s.marked s.flights Resting)
      (Adopts s.log s.history s.memory s.marked s.flights owed more local) (keeps-at o s Resting resting was.keeps) in
      let mine : Mirrors o (core_state table fresh k' flusher passes history) log (state s.log s.history (with_blocks s.memory s.memory.fresh s.memory.born owed s.memory.pending) s.marked s.flights Resting) = record {
        log_is = mirrors.log_is;
        history_is = mirrors.history_is;
        many = mirrors.many;
        generation = mirrors.generation;
        tracked = mirrors.tracked;
        sure = mirrors.sure;
        storage = mirrors.storage;
        stale = mirrors.stale;
        off_base = mirrors.off_base;
        undiscarded = mirrors.undiscarded;
        tried = mirrors.tried;
        same_tracked = mirrors.same_tracked;
        cursor = mirrors.cursor;
        fresh_is = mirrors.fresh_is;
        owed = λ b. refl;
        pending = mirrors.pending;
        marked = mirrors.marked;
        flights = mirrors.flights;
        stage = subst (λ (f : Option ℕ). IsStageOf f o k' passes Resting) (sym idle) refl;
      } in
      record { state = _; keeps = after; mirrors = mine }
