-- One of two passes flushes.
use Rattle.std.proofs.Common.{◌≡◌, ◌≢◌, ℕ, ◌+◌, ◌<◌, ◌≤◌, true, List, [], ◌∷◌, ◌++◌, length, refl, sym, ◌∙◌, ap, subst, inl, inr, append_assoc, arith, Option, Some, None, slice_get}
use Rattle.std.proofs.lemmas.Bool.{cases_eq}
use Rattle.vd_law.specs.declared.entry.Room.{Room}
use Rattle.vd_law.specs.declared.entry.CallId.{CallId}
use Rattle.vd_law.specs.declared.entry.Answer.{Answer}
use Rattle.vd_law.specs.Entries.{Flush, Entry, Ask, Reply}
use Rattle.vd_law.specs.Histories.{HistoryState}
use Rattle.vd_table.specs.Tables.{TableState}
use Rattle.vd_keeper.specs.Keeping.{KeeperState}
use Rattle.vd_passes.specs.Requests.{RequestState}
use Rattle.vd_passes.specs.declared.shape.Shape.{Shape}
use Rattle.vd_passes.specs.declared.pass.Pass.{Pass}
use Rattle.vd_passes.specs.declared.pass.Phase.TheVariants.{Idle}
use Rattle.vd_passes.specs.Passes.{call_id, after_ask}
use Rattle.vd_machine.specs.Measures.{flush_steps}
use Rattle.vd_core.specs.declared.outcome.Step.{Step}
use Rattle.vd_core.specs.declared.outcome.Step.TheVariants.{Again, Ended}
use Rattle.vd_machine.specs.Asking.{AskEnds, Suffices, ask_state}
use Rattle.vd_drive.specs.Driving.{DrivesFlush, flush_work}
use Rattle.vd_run.specs.Serving.{IsResting, AddsAnsweredFlush}
use Rattle.vd_passes.proofs.Lists.{some-inj, get-set-same, at-set, length-set'}
use Rattle.vd_run.proofs.Guest.Asks.{too-much}
use Rattle.vd_law.specs.Needs.{request_room}

-- the pass has asked a flush, the other is idle and doesn't flush
pub record IsFlushing (pass : ℕ) (passes : List Pass) (flusher : Option ℕ) (entries entries' : List Entry) : Type 0 where
  pub two : length passes ≡ 2
  pub others : (j : ℕ) (q : Pass) → j ≢ pass → slice_get passes j ≡ Some q → q.phase ≡ Idle
  pub at : Pass
  pub there : slice_get passes pass ≡ Some at
  pub busy : at.phase ≢ Idle
  pub flush : at.flush ≡ true
  pub nobody : (j : ℕ) → j ≢ pass → flusher ≡ Some j → ⊥
  pub asked : entries' ≡ entries ++ Ask (call_id pass at) Flush ∷ []

-- how many steps the pass makes at most until its reply
abbrev pub steps_of : KeeperState → Option Pass → ℕ
steps_of k None = 0
steps_of k (Some p) = flush_steps k p

abbrev pub steps_at : KeeperState → List Pass → (pass : ℕ) → ℕ
steps_at k passes pass = steps_of k (slice_get passes pass)

-- A flush for which there is room is asked.
module _ {pass : ℕ} {passes passes' : List Pass} {shape shape' : Shape} {events : ℕ} {table table' : TableState} {history history' : HistoryState} {left left' : Room} where
  pub not-answered : (answer : Answer) → Suffices (request_room shape.block Flush) left → AskEnds (Some answer) Flush events pass (ask_state shape table passes history left) (ask_state shape' table' passes' history' left') → ⊥
  not-answered answer room (inl (exceeds, is, same)) = too-much exceeds room
  not-answered answer room (inr (inl (needed, free, is, full))) = let none = full.needed_is in let less = full.fewer in absurd (omega arith)
  not-answered answer room (inr (inr (none, asked))) = cc

  pub flush-asked : {flusher flusher' : Option ℕ} → AskEnds None Flush events pass (ask_state shape table passes history left) (ask_state shape' table' passes' history' left') → Suffices (request_room shape.block Flush) left → flusher' ≡ flusher → IsResting passes flusher
      → IsFlushing pass passes' flusher' history.log.entries history'.log.entries × (left.events ≤ left'.events + 2) × (left.sectors ≤ left'.sectors)
  flush-asked (inl (exceeds, is, same)) room still resting = too-much exceeds room
  flush-asked (inr (inl (needed, m, is, full))) room still resting = cc
  flush-asked (inr (inr (none, asked))) room still resting =
      let asks = asked.asks [] in let after = after_ask asks.pass Flush _ _ in
      let more_events = ap (λ (r : Room). r.events) asked.left_after in let more_sectors = ap (λ (r : Room). r.sectors) asked.left_after in (
        record {
          two = ap (λ (r : RequestState). length r.passes) asks.after ∙ length-set' passes pass after ∙ resting.two;
          others = λ j q other there. elim (at-set passes pass j after asks.pass q asks.there (subst (λ (ps : List Pass). slice_get ps j ≡ Some q) (ap (λ (r : RequestState). r.passes) asks.after) there)) [
            | inl own ↦ absurd (other own.0)
            | inr old ↦ resting.idle j q old.1
          ];
          at = after;
          there = subst (λ (ps : List Pass). slice_get ps pass ≡ Some after) (sym (ap (λ (r : RequestState). r.passes) asks.after)) (get-set-same passes pass after asks.pass asks.there);
          busy = λ e. cc;
          flush = refl;
          nobody = λ j other is. (let none = resting.free in cc);
          asked = ap (λ (r : RequestState). r.entries) asks.after;
        },
        omega (arith, more_events),
        omega (arith, more_sectors),
      )

module _ {pass : ℕ} {passes passes' : List Pass} {flusher flusher' : Option ℕ} {k k' : KeeperState} {entries entries' : List Entry} {left left' : Room} where
  -- While it goes on, it serves its flush, and has fewer steps left.
  pub flush-goes : {first : List Entry} → DrivesFlush Again pass (flush_work flusher k passes entries left) (flush_work flusher' k' passes' entries' left') → IsFlushing pass passes flusher first entries → IsFlushing pass passes' flusher' first entries'
  flush-goes {first} drives now =
      let moves = drives.moves in let same : now.at ≡ drives.pass = some-inj (sym now.there ∙ moves.there) in record {
        two = ap length moves.after ∙ length-set' passes pass drives.pass' ∙ now.two;
        others = λ j q other there. elim (at-set passes pass j drives.pass' drives.pass q moves.there (subst (λ (ps : List Pass). slice_get ps j ≡ Some q) moves.after there)) [
          | inl own ↦ absurd (other own.0)
          | inr old ↦ now.others j q other old.1
        ];
        at = drives.pass';
        there = subst (λ (ps : List Pass). slice_get ps pass ≡ Some drives.pass') (sym moves.after) (get-set-same passes pass drives.pass' drives.pass moves.there);
        busy = drives.tells.0;
        flush = moves.flush ∙ ap (λ (p : Pass). p.flush) (sym same) ∙ now.flush;
        nobody = λ j other is. now.nobody j other ((drives.others j other).0 is);
        asked = drives.tells.2 ∙ now.asked ∙ ap (λ (n : ℕ). first ++ Ask (record { pass = pass; call = n }) Flush ∷ []) (ap (λ (p : Pass). p.call) same ∙ sym moves.call);
      }

  pub flush-fewer : DrivesFlush Again pass (flush_work flusher k passes entries left) (flush_work flusher' k' passes' entries' left') → steps_at k' passes' pass < steps_at k passes pass
  flush-fewer drives =
      let moves = drives.moves in
      let moved : slice_get passes' pass ≡ Some drives.pass' = subst (λ (ps : List Pass). slice_get ps pass ≡ Some drives.pass') (sym moves.after) (get-set-same passes pass drives.pass' drives.pass moves.there) in
      let a = ap (steps_of k') moved in let b = ap (steps_of k) moves.there in let c = drives.tells.1 in omega (arith, a, b, c)

  -- its reply is the second entry of two
  pub flush-ended : {first : List Entry} (answer : Answer) → DrivesFlush (Ended answer) pass (flush_work flusher k passes entries left) (flush_work flusher' k' passes' entries' left') → IsFlushing pass passes flusher first entries → IsResting passes' flusher' × AddsAnsweredFlush pass answer first entries'
  flush-ended {first} answer drives now =
      let moves = drives.moves in let same : now.at ≡ drives.pass = some-inj (sym now.there ∙ moves.there) in let id : CallId = call_id pass now.at in (
        record {
          two = ap length moves.after ∙ length-set' passes pass drives.pass' ∙ now.two;
          idle = λ j q there. elim (at-set passes pass j drives.pass' drives.pass q moves.there (subst (λ (ps : List Pass). slice_get ps j ≡ Some q) moves.after there)) [
            | inl own ↦ ap (λ (p : Pass). p.phase) own.1 ∙ drives.tells.0
            | inr old ↦ now.others j q old.0 old.1
          ];
          free = nobody-left flusher' refl;
        },
        record {
          call = now.at.call;
          after = drives.tells.4 ∙ ap (λ (es : List Entry). es ++ Reply (call_id pass drives.pass) answer ∷ []) now.asked ∙ ap (λ (p : Pass). (first ++ Ask id Flush ∷ []) ++ Reply (call_id pass p) answer ∷ []) (sym same)
              ∙ append_assoc first (Ask id Flush ∷ []) (Reply id answer ∷ []);
        },
      )
    where
      nobody-left : (f : Option ℕ) → flusher' ≡ f → flusher' ≡ None
      nobody-left None is = is
      nobody-left (Some j) is = elim (cases_eq j pass) [
        | inl own ↦ (let flushing = drives.own.1 (is ∙ ap (λ (n : ℕ). Some n) own) in let idle = drives.tells.0 in cc)
        | inr other ↦ absurd (now.nobody j other ((drives.others j other).0 is))
      ]

pub flush-spends : {step : Step} {pass : ℕ} {flusher flusher' : Option ℕ} {k k' : KeeperState} {passes passes' : List Pass} {entries entries' : List Entry} {first left left' : Room} → DrivesFlush step pass (flush_work flusher k passes entries left) (flush_work flusher' k' passes' entries' left')
    → (first.events ≤ left.events + 2) × (first.sectors ≤ left.sectors) → (first.events ≤ left'.events + 2) × (first.sectors ≤ left'.sectors)
flush-spends drives (events, sectors) = let a = drives.events_left in let b = drives.sectors_left in (omega (arith, events), omega (arith, sectors))
