-- What a driver of one pass knows after an ask and after each step.
use Rattle.std.proofs.Common.{◌≡◌, ◌≢◌, ◌⊎◌, ℕ, zero, suc, ◌+◌, Bool, true, false, List, [], ◌∷◌, ◌++◌, length, ◌<◌, refl, sym, ◌∙◌, ap, subst, inl, inr, append_assoc, append-nil, arith, Option, Some, slice_get}
use Rattle.std.specs.List.{AllByRecursion}
use Rattle.vd_law.specs.declared.entry.Sector.{Sector}
use Rattle.vd_law.specs.declared.entry.Room.{Room}
use Rattle.vd_law.specs.declared.entry.CallId.{CallId}
use Rattle.vd_law.specs.declared.entry.Answer.{Answer}
use Rattle.vd_law.specs.Entries.{Asked, Read, Write, Entry, Ask, Reply, IsNoAsk}
use Rattle.vd_law.specs.Histories.{HistoryState}
use Rattle.vd_table.specs.Tables.{TableState}
use Rattle.vd_passes.specs.declared.shape.Shape.{Shape}
use Rattle.vd_passes.specs.declared.pass.Pass.{Pass}
use Rattle.vd_passes.specs.declared.pass.Phase.TheVariants.{Idle, Asked as Asks_first}
use Rattle.vd_passes.specs.Requests.{RequestState}
use Rattle.vd_passes.specs.Steps.{IsAt, HasAskedWrite, Enters}
use Rattle.vd_passes.specs.Passes.{after_ask, after_enter}
use Rattle.vd_law.specs.declared.entry.Answer.TheVariants.{Full}
use Rattle.vd_passes.proofs.Lists.{some-inj, get-set-same, get-set-other, length-set'}
use Rattle.vd_core.specs.declared.outcome.Step.{Step}
use Rattle.vd_core.specs.declared.outcome.Step.TheVariants.{Again, Late, Busy, Ended}
use Rattle.vd_machine.specs.Views.{View}
use Rattle.vd_machine.specs.Asking.{AskEnds, ask_state}
use Rattle.vd_core.specs.Opening.{AreNew}
use Rattle.vd_drive.specs.Moves.{Drives, work}
use Rattle.vd_drive.proofs.Serving.{asks-write, write-stays, write-other}
use Rattle.vd_lists.proofs.Places.{some_place}

pub same-shape : {S B : Type 0} {a b : View S B} → a ≡ b → a.shape ≡ b.shape
same-shape {S} {B} {a} {b} same = ap (λ (v : View S B). v.shape) same

-- the pass serves a read or a write of this length
abbrev pub IsBusyWith : (write : Bool) (count : ℕ) → Pass → Type 0
IsBusyWith write count p = (p.phase ≢ Idle) × (p.write ≡ write) × (p.flush ≡ false) × (p.count ≡ count)

abbrev pub IsNotLast : Step → Type 0
IsNotLast Again = Unit {0}
IsNotLast Late = Unit {0}
IsNotLast (Busy by) = Unit {0}
IsNotLast (Ended answer) = ⊥

module _ {block i : ℕ} {passes passes' : List Pass} {entries entries' : List Entry} {left left' : Room} where
  pub goes-on : {write : Bool} {count : ℕ} (step : Step) → IsNotLast step → Drives step block i (work passes entries left) (work passes' entries' left') → IsAt passes i (IsBusyWith write count) → IsAt passes' i (IsBusyWith write count)
  goes-on {write} {count} Again not drives at =
      let moves = drives.moves in let same : at.0 ≡ drives.pass = some-inj (sym at.1 ∙ moves.there) in (
        drives.pass',
        subst (λ (ps : List Pass). slice_get ps i ≡ Some drives.pass') (sym moves.after) (get-set-same passes i drives.pass' drives.pass moves.there),
        (drives.tells.0, moves.write ∙ ap (λ (p : Pass). p.write) (sym same) ∙ at.2.1, moves.flush ∙ ap (λ (p : Pass). p.flush) (sym same) ∙ at.2.2, moves.count ∙ ap (λ (p : Pass). p.count) (sym same) ∙ at.2.3),
      )
  goes-on {write} {count} Late not drives at = subst (λ (ps : List Pass). IsAt ps i (IsBusyWith write count)) (sym drives.tells) at
  goes-on {write} {count} (Busy by) not drives at = subst (λ (ps : List Pass). IsAt ps i (IsBusyWith write count)) (sym drives.tells) at
  goes-on {write} {count} (Ended answer) not drives at = absurd not

  -- a step leaves the number of passes
  pub as-many : {step : Step} → Drives step block i (work passes entries left) (work passes' entries' left') → length passes' ≡ length passes
  as-many {step} drives = ap length drives.moves.after ∙ length-set' passes i drives.pass'

  pub ended : (answer : Answer) → Drives (Ended answer) block i (work passes entries left) (work passes' entries' left') → IsAt passes' i (λ p. p.phase ≡ Idle)
  ended answer drives = let moves = drives.moves in
      (drives.pass', subst (λ (ps : List Pass). slice_get ps i ≡ Some drives.pass') (sym moves.after) (get-set-same passes i drives.pass' drives.pass moves.there), drives.tells.0)

asked-after : (history more : List Entry) (i : ℕ) (content : List Sector) → AllByRecursion IsNoAsk more → HasAskedWrite history i content → HasAskedWrite (history ++ more) i content
asked-after history [] i content none asked = subst (λ (h : List Entry). HasAskedWrite h i content) (sym (append-nil history)) asked
asked-after history (e ∷ more) i content none asked =
    subst (λ (h : List Entry). HasAskedWrite h i content) (append_assoc history (e ∷ []) more) (asked-after (history ++ e ∷ []) more i content none.1 (write-stays history e i content none.0 asked))

pub still-asked : {block i : ℕ} {passes passes' : List Pass} {entries entries' : List Entry} {left left' : Room} {step : Step} (content : List Sector) → Drives step block i (work passes entries left) (work passes' entries' left') → HasAskedWrite entries i content → HasAskedWrite entries' i content
still-asked {block} {i} {passes} {passes'} {entries} {entries'} content drives asked =
    let moves = drives.moves in subst (λ (h : List Entry). HasAskedWrite h i content) (sym moves.entries_after) (asked-after entries moves.more i content moves.none_asked asked)

-- An ask that has its answer leaves its pass idle; another has asked.
module _ {shape shape' : Shape} {i events : ℕ} {table table' : TableState} {passes passes' : List Pass} {history history' : HistoryState} {left left' : Room} where
  pub answered-idle : (answer : Answer) (request : Asked) → AskEnds (Some answer) request events i (ask_state shape table passes history left) (ask_state shape' table' passes' history' left') → IsAt passes i (λ p. p.phase ≡ Idle) → IsAt passes' i (λ p. p.phase ≡ Idle)
  answered-idle answer request (inl (exceeds, is, same)) at = subst (λ (ps : List Pass). IsAt ps i (λ p. p.phase ≡ Idle)) (sym same.passes_same) at
  answered-idle answer request (inr (inl (needed, free, is, full))) at =
      let asks = full.asks [] in let same : at.0 ≡ asks.pass = some-inj (sym at.1 ∙ asks.there) in let after = record asks.pass { call = asks.pass.call + 1 } in
      (after, subst (λ (ps : List Pass). slice_get ps i ≡ Some after) (sym (ap (λ (r : RequestState). r.passes) asks.after)) (get-set-same passes i after asks.pass asks.there), ap (λ (p : Pass). p.phase) (sym same) ∙ at.2)
  answered-idle answer request (inr (inr (none, asked))) at = cc

  pub as-many-asked : (result : Option Answer) (request : Asked) → AskEnds result request events i (ask_state shape table passes history left) (ask_state shape' table' passes' history' left') → length passes' ≡ length passes
  as-many-asked result request (inl (exceeds, is, same)) = ap length same.passes_same
  as-many-asked result request (inr (inl (needed, free, is, full))) = ap (λ (r : RequestState). length r.passes) (full.asks []).after ∙ length-set' passes i _
  as-many-asked result request (inr (inr (none, asked))) = ap (λ (r : RequestState). length r.passes) (asked.asks []).after ∙ length-set' passes i _

  pub asked-write : (result : Option Answer) (first : ℕ) (content : List Sector) → ((answer : Answer) → result ≡ Some answer → ⊥) → AskEnds result (Write first content) events i (ask_state shape table passes history left) (ask_state shape' table' passes' history' left')
      → IsAt passes' i (IsBusyWith true (length content)) × HasAskedWrite history'.log.entries i content
  asked-write result first content not (inl (exceeds, is, same)) = absurd (not _ is)
  asked-write result first content not (inr (inl (needed, free, is, full))) = absurd (not _ is)
  asked-write result first content not (inr (inr (none, asked))) =
      let asks = asked.asks [] in let after = after_ask asks.pass (Write first content) _ _ in
      ((after, subst (λ (ps : List Pass). slice_get ps i ≡ Some after) (sym (ap (λ (r : RequestState). r.passes) asks.after)) (get-set-same passes i after asks.pass asks.there), ((λ e. cc), refl, refl, refl)), asks-write asks)

  pub asked-read : (result : Option Answer) (first count : ℕ) → ((answer : Answer) → result ≡ Some answer → ⊥) → AskEnds result (Read first count) events i (ask_state shape table passes history left) (ask_state shape' table' passes' history' left') → IsAt passes' i (IsBusyWith false count)
  asked-read result first count not (inl (exceeds, is, same)) = absurd (not _ is)
  asked-read result first count not (inr (inl (needed, free, is, full))) = absurd (not _ is)
  asked-read result first count not (inr (inr (none, asked))) =
      let asks = asked.asks [] in let after = after_ask asks.pass (Read first count) _ _ in
      (after, subst (λ (ps : List Pass). slice_get ps i ≡ Some after) (sym (ap (λ (r : RequestState). r.passes) asks.after)) (get-set-same passes i after asks.pass asks.there), ((λ e. cc), refl, refl, refl))

-- the step of a match's other arm isn't the last
pub other-arm : (step : Step) → (step ≡ Again) ⊎ (step ≡ Late) ⊎ ((by : ℕ) × (step ≡ Busy by)) → IsNotLast step
other-arm step (inl is) = subst IsNotLast (sym is) tt
other-arm step (inr (inl is)) = subst IsNotLast (sym is) tt
other-arm step (inr (inr (by, is))) = subst IsNotLast (sym is) tt

-- where there is one pass and it is idle, all are
pub all-idle : (passes : List Pass) → length passes ≡ 1 → IsAt passes 0 (λ p. p.phase ≡ Idle) → (i : ℕ) (p : Pass) → slice_get passes i ≡ Some p → p.phase ≡ Idle
all-idle [] one idle i p there = absurd (omega arith)
all-idle (q ∷ []) one idle zero p there = ap (λ (x : Pass). x.phase) (some-inj (sym there ∙ idle.1)) ∙ idle.2
all-idle (q ∷ []) one idle (suc i) p there = cc
all-idle (q ∷ r ∷ passes) one idle i p there = absurd (omega arith)

-- each pass of a new core is idle
pub each-idle : {count block : ℕ} (passes : List Pass) → AreNew count block passes → (i : ℕ) → i < count → IsAt passes i (λ p. p.phase ≡ Idle)
each-idle {count} {block} passes new i below =
    let many = new.many in let at = some_place passes i (omega arith) in (at.0, at.1, (new.each i at.0 at.1).phase)

-- where there are three passes and each is idle, all are
pub three-idle : (passes : List Pass) → length passes ≡ 3 → ((p : Pass) → slice_get passes 0 ≡ Some p → p.phase ≡ Idle) → ((p : Pass) → slice_get passes 1 ≡ Some p → p.phase ≡ Idle) → ((p : Pass) → slice_get passes 2 ≡ Some p → p.phase ≡ Idle)
    → (i : ℕ) (p : Pass) → slice_get passes i ≡ Some p → p.phase ≡ Idle
three-idle [] three first second third i p there = absurd (omega arith)
three-idle (a ∷ []) three first second third i p there = absurd (omega arith)
three-idle (a ∷ b ∷ []) three first second third i p there = absurd (omega arith)
three-idle (a ∷ b ∷ c ∷ []) three first second third zero p there = first p there
three-idle (a ∷ b ∷ c ∷ []) three first second third (suc zero) p there = second p there
three-idle (a ∷ b ∷ c ∷ []) three first second third (suc (suc zero)) p there = third p there
three-idle (a ∷ b ∷ c ∷ []) three first second third (suc (suc (suc i))) p there = cc
three-idle (a ∷ b ∷ c ∷ d ∷ passes) three first second third i p there = absurd (omega arith)

-- a step leaves every other pass, and what other passes have asked
module _ {block i : ℕ} {passes passes' : List Pass} {entries entries' : List Entry} {left left' : Room} {step : Step} (drives : Drives step block i (work passes entries left) (work passes' entries' left')) where
  pub others-same : (other : ℕ) → other ≢ i → slice_get passes' other ≡ slice_get passes other
  others-same other apart = ap (λ (ps : List Pass). slice_get ps other) drives.moves.after ∙ get-set-other passes i other drives.pass' apart

  pub others-asked : (other : ℕ) (content : List Sector) → HasAskedWrite entries other content → HasAskedWrite entries' other content
  others-asked other content asked =
      let moves = drives.moves in subst (λ (h : List Entry). HasAskedWrite h other content) (sym moves.entries_after) (asked-after entries moves.more other content moves.none_asked asked)

-- a pass that has asked a write has the region of a block, once it has entered it
pub entered : {places : ℕ → Option ℕ} {i : ℕ} {r r' : RequestState} → Enters places i r r' → IsAt r.passes i (λ p. (p.phase ≡ Asks_first) × (p.write ≡ true) × (p.flush ≡ false) × (p.count ≡ 1)) → IsAt r'.passes i (IsBusyWith true 1)
entered {i = i} {r = r} e at =
    let same : at.0 ≡ e.pass = some-inj (sym at.1 ∙ e.there) in
    let after = after_enter e.pass e.block e.piece e.at in
    (after, ap (λ (x : RequestState). slice_get x.passes i) e.after ∙ get-set-same r.passes i after e.pass e.there, ((λ x. cc), ap (λ (p : Pass). p.write) (sym same) ∙ at.2.1, ap (λ (p : Pass). p.flush) (sym same) ∙ at.2.2, ap (λ (p : Pass). p.count) (sym same) ∙ at.2.3))

pub entered-others : {places : ℕ → Option ℕ} {i : ℕ} {r r' : RequestState} → Enters places i r r' → (other : ℕ) → other ≢ i → slice_get r'.passes other ≡ slice_get r.passes other
entered-others {i = i} {r = r} e other apart = ap (λ (x : RequestState). slice_get x.passes other) e.after ∙ get-set-other r.passes i other _ apart

-- An ask leaves every other pass, and what other passes have asked.
module _ {shape shape' : Shape} {i events : ℕ} {table table' : TableState} {passes passes' : List Pass} {history history' : HistoryState} {left left' : Room} where
  pub asked-phase : (result : Option Answer) (first : ℕ) (content : List Sector) → ((answer : Answer) → result ≡ Some answer → ⊥) → AskEnds result (Write first content) events i (ask_state shape table passes history left) (ask_state shape' table' passes' history' left')
      → length content ≡ 1 → IsAt passes' i (λ p. (p.phase ≡ Asks_first) × (p.write ≡ true) × (p.flush ≡ false) × (p.count ≡ 1))
  asked-phase result first content not (inl (exceeds, is, same)) one = absurd (not _ is)
  asked-phase result first content not (inr (inl (needed, free, is, full))) one = absurd (not _ is)
  asked-phase result first content not (inr (inr (none, asked))) one =
      let asks = asked.asks [] in let after = after_ask asks.pass (Write first content) _ _ in
      (after, subst (λ (ps : List Pass). slice_get ps i ≡ Some after) (sym (ap (λ (r : RequestState). r.passes) asks.after)) (get-set-same passes i after asks.pass asks.there), (refl, refl, refl, one))

  pub ask-others : (result : Option Answer) (request : Asked) → AskEnds result request events i (ask_state shape table passes history left) (ask_state shape' table' passes' history' left') → (other : ℕ) → other ≢ i → slice_get passes' other ≡ slice_get passes other
  ask-others result request (inl (exceeds, is, same)) other apart = ap (λ (ps : List Pass). slice_get ps other) same.passes_same
  ask-others result request (inr (inl (needed, free, is, full))) other apart = ap (λ (r : RequestState). slice_get r.passes other) (full.asks []).after ∙ get-set-other passes i other _ apart
  ask-others result request (inr (inr (none, asked))) other apart = ap (λ (r : RequestState). slice_get r.passes other) (asked.asks []).after ∙ get-set-other passes i other _ apart

  pub ask-said : (result : Option Answer) (request : Asked) → AskEnds result request events i (ask_state shape table passes history left) (ask_state shape' table' passes' history' left') → (other : ℕ) (said : List Sector) → other ≢ i
      → HasAskedWrite history.log.entries other said → HasAskedWrite history'.log.entries other said
  ask-said result request (inl (exceeds, is, same)) other said apart asked = subst (λ (h : HistoryState). HasAskedWrite h.log.entries other said) (sym same.history_same) asked
  ask-said result request (inr (inl (needed, free, is, full))) other said apart asked =
      let id : CallId = record { pass = i; call = (full.asks []).pass.call + 1 } in
      subst (λ (h : List Entry). HasAskedWrite h other said) (append_assoc history.log.entries (Ask id request ∷ []) (Reply id (Full needed free) ∷ []) ∙ sym (ap (λ (r : RequestState). r.entries) (full.asks []).after))
      (write-other (history.log.entries ++ Ask id request ∷ []) (Reply id (Full needed free)) other said (λ same. apart (sym same)) (write-other history.log.entries (Ask id request) other said (λ same. apart (sym same)) asked))
  ask-said result request (inr (inr (none, put))) other said apart asked =
      subst (λ (h : List Entry). HasAskedWrite h other said) (sym (ap (λ (r : RequestState). r.entries) (put.asks []).after)) (write-other history.log.entries _ other said (λ same. apart (sym same)) asked)

-- a pass that hasn't changed stands as it stood
pub carried : {P : Pass → Type 0} (passes passes' : List Pass) (i : ℕ) → slice_get passes' i ≡ slice_get passes i → IsAt passes i P → IsAt passes' i P
carried passes passes' i same at = (at.0, same ∙ at.1, at.2)

pub same-said : {old new : HistoryState} (i : ℕ) (said : List Sector) → new ≡ old → HasAskedWrite old.log.entries i said → HasAskedWrite new.log.entries i said
same-said i said same asked = subst (λ (h : HistoryState). HasAskedWrite h.log.entries i said) (sym same) asked
