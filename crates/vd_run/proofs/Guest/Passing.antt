-- The two passes of a core, of which pass 1 serves a request.
use Rattle.std.proofs.Common.{◌≡◌, ◌≢◌, ◌⊎◌, ℕ, zero, suc, ◌+◌, ◌<◌, Bool, true, false, List, [], ◌∷◌, length, refl, sym, ◌∙◌, ap, subst, inl, inr, arith, Option, Some, None, slice_get, slice_set}
use Rattle.std.specs.Prelude.{is_some}
use Rattle.std.proofs.lemmas.Bool.{cases_eq}
use Rattle.vd_law.specs.declared.entry.Sector.{Sector}
use Rattle.vd_law.specs.declared.entry.Room.{Room}
use Rattle.vd_law.specs.declared.entry.Answer.{Answer}
use Rattle.vd_law.specs.Entries.{Asked, Read, Write, Entry}
use Rattle.vd_law.specs.Histories.{HistoryState}
use Rattle.vd_table.specs.Tables.{TableState}
use Rattle.vd_passes.specs.declared.shape.Shape.{Shape}
use Rattle.vd_passes.specs.declared.pass.Pass.{Pass}
use Rattle.vd_passes.specs.declared.pass.Phase.TheVariants.{Idle}
use Rattle.vd_passes.specs.Requests.{RequestState}
use Rattle.vd_passes.specs.Steps.{IsAt, HasAskedWrite}
use Rattle.vd_passes.specs.Passes.{has_region, after_ask}
use Rattle.vd_passes.proofs.Lists.{some-inj, get-set-same, at-set, length-set'}
use Rattle.vd_core.specs.declared.outcome.Step.{Step}
use Rattle.vd_core.specs.declared.outcome.Step.TheVariants.{Again, Late, Busy, Ended}
use Rattle.vd_machine.specs.Asking.{AskEnds, ask_state}
use Rattle.vd_drive.specs.Moves.{Moves, Drives, work, steps_left}
use Rattle.vd_drive.proofs.Serving.{asks-write}
use Rattle.vd_run.specs.Serving.{ArePassesIdle, IsResting}
use Rattle.vd_law.specs.Counts.{Rose}

-- pass 1 serves a read or a write of so many sectors, the other is idle, and no flush is under way
pub record IsBusy (write : Bool) (count : ℕ) (passes : List Pass) (flusher : Option ℕ) : Type 0 where
  pub two : length passes ≡ 2
  pub others : (j : ℕ) (q : Pass) → j ≢ 1 → slice_get passes j ≡ Some q → q.phase ≡ Idle
  pub busy : IsAt passes 1 (λ p. (p.phase ≢ Idle) × (p.write ≡ write) × (p.flush ≡ false) × (p.count ≡ count))
  pub free : flusher ≡ None

-- one of two passes that rest is idle
pub rests-at : {passes : List Pass} {flusher : Option ℕ} (pass : ℕ) → pass < 2 → IsResting passes flusher → IsAt passes pass (λ p. p.phase ≡ Idle)
rests-at {passes} pass below resting = by passes pass resting.two below (λ p there. resting.idle pass p there) where
  by : (ps : List Pass) (i : ℕ) → length ps ≡ 2 → i < 2 → ((p : Pass) → slice_get ps i ≡ Some p → p.phase ≡ Idle) → IsAt ps i (λ p. p.phase ≡ Idle)
  by [] i two small each = absurd (omega arith)
  by (p ∷ []) i two small each = absurd (omega arith)
  by (p ∷ q ∷ ps) zero two small each = (p, refl, each p refl)
  by (p ∷ q ∷ ps) (suc zero) two small each = (q, refl, each q refl)
  by (p ∷ q ∷ ps) (suc (suc i)) two small each = absurd (omega arith)

-- how many steps pass 1 makes at most until it is idle
abbrev pub steps_of : (block : ℕ) → Option Pass → ℕ
steps_of block None = 0
steps_of block (Some p) = steps_left block p

abbrev pub steps_at : (block : ℕ) → List Pass → ℕ
steps_at block passes = steps_of block (slice_get passes 1)

module _ {p p' : Pass} {passes passes' : List Pass} {entries entries' : List Entry} (moves : Moves 1 p p' passes passes' entries entries') where
  moved : slice_get passes' 1 ≡ Some p'
  moved = subst (λ (ps : List Pass). slice_get ps 1 ≡ Some p') (sym moves.after) (get-set-same passes 1 p' p moves.there)

  same-two : length passes ≡ 2 → length passes' ≡ 2
  same-two two = ap length moves.after ∙ length-set' passes 1 p' ∙ two

  still-others : {write : Bool} {count : ℕ} {flusher : Option ℕ} → IsBusy write count passes flusher → (j : ℕ) (q : Pass) → j ≢ 1 → slice_get passes' j ≡ Some q → q.phase ≡ Idle
  still-others busy j q other there = elim (at-set passes 1 j p' p q moves.there (subst (λ (ps : List Pass). slice_get ps j ≡ Some q) moves.after there)) [
    | inl own ↦ absurd (other own.0)
    | inr old ↦ busy.others j q other old.1
  ]

  all-idle : {write : Bool} {count : ℕ} {flusher : Option ℕ} → p'.phase ≡ Idle → IsBusy write count passes flusher → (j : ℕ) (q : Pass) → slice_get passes' j ≡ Some q → q.phase ≡ Idle
  all-idle idle busy j q there = elim (cases_eq j 1) [
    | inl own ↦ (let same : p' ≡ q = some-inj (sym moved ∙ sym (ap (slice_get passes') own) ∙ there) in ap (λ (x : Pass). x.phase) (sym same) ∙ idle)
    | inr other ↦ still-others busy j q other there
  ]

module _ {block : ℕ} {passes passes' : List Pass} {entries entries' : List Entry} {left left' : Room} where
  -- While it goes on, it serves what it served, and has fewer steps left.
  pub goes-on : {write : Bool} {count : ℕ} {flusher flusher' : Option ℕ} → Drives Again block 1 (work passes entries left) (work passes' entries' left') → flusher' ≡ flusher → IsBusy write count passes flusher → IsBusy write count passes' flusher'
  goes-on drives same_flusher busy =
      let moves = drives.moves in let at = busy.busy in let same : at.0 ≡ drives.pass = some-inj (sym at.1 ∙ moves.there) in record {
        two = same-two moves busy.two;
        others = still-others moves busy;
        busy = (drives.pass', moved moves, (drives.tells.0, moves.write ∙ ap (λ (p : Pass). p.write) (sym same) ∙ at.2.1, moves.flush ∙ ap (λ (p : Pass). p.flush) (sym same) ∙ at.2.2, moves.count ∙ ap (λ (p : Pass). p.count) (sym same) ∙ at.2.3));
        free = same_flusher ∙ busy.free;
      }

  pub fewer-left : (block' : ℕ) → block' ≡ block → Drives Again block 1 (work passes entries left) (work passes' entries' left') → steps_at block' passes' < steps_at block passes
  fewer-left block' same drives =
      let moves = drives.moves in let a = ap (λ (b : ℕ). steps_at b passes') same ∙ ap (steps_of block) (moved moves) in let b = ap (steps_of block) moves.there in let c = drives.tells.1 in omega (arith, a, b, c)

  -- Where the devices are never late and nobody else has a region, it goes on until it has its reply.
  pub ended : {write : Bool} {count : ℕ} {flusher flusher' : Option ℕ} (step : Step) → (step ≡ Again → ⊥) → Drives step block 1 (work passes entries left) (work passes' entries' left') → (step ≡ Late → Rose 0 0 ⊎ Rose 0 0)
      → ((by : ℕ) → step ≡ Busy by → (by ≢ 1) × IsAt passes by (λ q. has_region q.phase ≡ true)) → flusher' ≡ flusher → IsBusy write count passes flusher → IsResting passes' flusher'
  ended Again not drives late kept same busy = absurd (not refl)
  ended Late not drives late kept same busy = elim (late refl) [ inl rose ↦ absurd (omega (arith, rose)) | inr rose ↦ absurd (omega (arith, rose)) ]
  ended (Busy by) not drives late kept same busy =
      let out = kept by refl in let at = out.1 in let idle = busy.others by at.0 out.0 at.1 in let told = ap has_region idle in let has = at.2 in cc
  ended (Ended answer) not drives late kept same busy =
      let moves = drives.moves in record { two = same-two moves busy.two; idle = all-idle moves drives.tells.0 busy; free = same ∙ busy.free }

busy-with : {passes passes' : List Pass} {flusher flusher' : Option ℕ} (p p' : Pass) (write : Bool) (count : ℕ) → slice_get passes 1 ≡ Some p → passes' ≡ slice_set passes 1 p' → (p'.phase ≢ Idle) × (p'.write ≡ write) × (p'.flush ≡ false) × (p'.count ≡ count) → flusher' ≡ flusher → IsResting passes flusher → IsBusy write count passes' flusher'
busy-with {passes} {passes'} p p' write count there after is same resting = record {
  two = ap length after ∙ length-set' passes 1 p' ∙ resting.two;
  others = λ j q other at. elim (at-set passes 1 j p' p q there (subst (λ (ps : List Pass). slice_get ps j ≡ Some q) after at)) [
    | inl own ↦ absurd (other own.0)
    | inr old ↦ resting.idle j q old.1
  ];
  busy = (p', subst (λ (ps : List Pass). slice_get ps 1 ≡ Some p') (sym after) (get-set-same passes 1 p' p there), is);
  free = same ∙ resting.free;
}

-- A request that is answered at once leaves both passes idle, and any other is being served.
module _ {shape shape' : Shape} {events : ℕ} {table table' : TableState} {passes passes' : List Pass} {history history' : HistoryState} {left left' : Room} {flusher flusher' : Option ℕ} where
  pub answered : {request : Asked} (result : Option Answer) → is_some result ≡ true → AskEnds result request events 1 (ask_state shape table passes history left) (ask_state shape' table' passes' history' left') → flusher' ≡ flusher → IsResting passes flusher → IsResting passes' flusher'
  answered result some (inl (exceeds, is, same)) still resting = record {
    two = ap length same.passes_same ∙ resting.two;
    idle = subst ArePassesIdle (sym same.passes_same) resting.idle;
    free = still ∙ resting.free;
  }
  answered result some (inr (inl (needed, free, is, full))) still resting =
      let asks = full.asks [] in let after = record asks.pass { call = asks.pass.call + 1 } in record {
        two = ap (λ (r : RequestState). length r.passes) asks.after ∙ length-set' passes 1 after ∙ resting.two;
        idle = λ j q there. elim (at-set passes 1 j after asks.pass q asks.there (subst (λ (ps : List Pass). slice_get ps j ≡ Some q) (ap (λ (r : RequestState). r.passes) asks.after) there)) [
          | inl own ↦ ap (λ (p : Pass). p.phase) own.1 ∙ resting.idle 1 asks.pass asks.there
          | inr old ↦ resting.idle j q old.1
        ];
        free = still ∙ resting.free;
      }
  answered result some (inr (inr (none, asked))) still resting = let told = ap is_some none in cc

  pub asked-write : (result : Option Answer) (first : ℕ) (content : List Sector) → is_some result ≡ false → AskEnds result (Write first content) events 1 (ask_state shape table passes history left) (ask_state shape' table' passes' history' left') → flusher' ≡ flusher → IsResting passes flusher
      → IsBusy true (length content) passes' flusher' × HasAskedWrite history'.log.entries 1 content
  asked-write result first content none (inl (exceeds, is, same)) still resting = let told = ap is_some is in cc
  asked-write result first content none (inr (inl (needed, free, is, full))) still resting = let told = ap is_some is in cc
  asked-write result first content none (inr (inr (is, asked))) still resting =
      let asks = asked.asks [] in (busy-with asks.pass (after_ask asks.pass (Write first content) _ _) true (length content) asks.there (ap (λ (r : RequestState). r.passes) asks.after) ((λ e. cc), refl, refl, refl) still resting, asks-write asks)

  pub asked-read : (result : Option Answer) (first count : ℕ) → is_some result ≡ false → AskEnds result (Read first count) events 1 (ask_state shape table passes history left) (ask_state shape' table' passes' history' left') → flusher' ≡ flusher → IsResting passes flusher → IsBusy false count passes' flusher'
  asked-read result first count none (inl (exceeds, is, same)) still resting = let told = ap is_some is in cc
  asked-read result first count none (inr (inl (needed, free, is, full))) still resting = let told = ap is_some is in cc
  asked-read result first count none (inr (inr (is, asked))) still resting =
      let asks = asked.asks [] in busy-with asks.pass (after_ask asks.pass (Read first count) _ _) false count asks.there (ap (λ (r : RequestState). r.passes) asks.after) ((λ e. cc), refl, refl, refl) still resting
