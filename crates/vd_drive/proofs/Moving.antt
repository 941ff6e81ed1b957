-- What each step leaves for whoever drives it.
use Rattle.std.proofs.Common.{◌≡◌, ◌≢◌, ℕ, ◌+◌, ◌-◌, ◌<◌, ◌≤◌, ◌⊎◌, Bool, true, false, List, [], ◌∷◌, ◌++◌, length, replicate, refl, sym, ◌∙◌, ap, subst, inl, inr, arith, append-nil, Option, Some, slice_get, slice_set, nat_lt}
use Rattle.std.specs.Prelude.{if◌then◌else◌}
use Rattle.std.proofs.lemmas.Bool.{ltb-true, ltb-false}
use Rattle.vd_law.specs.declared.entry.Room.{Room}
use Rattle.vd_law.specs.declared.entry.Answer.{Answer}
use Rattle.vd_law.specs.declared.entry.Sector.{Sector}
use Rattle.vd_law.specs.Entries.{Entry, Issue, Done, Broke, Seen, Reply, IsNoAsk}
use Rattle.vd_device.specs.declared.store.Store as store
use Rattle.vd_device.specs.declared.base.Base as base
use Rattle.vd_device.specs.declared.settled.Settled.{Settled}
use Rattle.vd_device.specs.declared.settled.Settled.TheVariants as settled
use Rattle.vd_passes.specs.declared.shape.Shape.{Shape}
use Rattle.vd_passes.specs.declared.pass.Pass.{Pass}
use Rattle.vd_passes.specs.declared.pass.Phase.{Phase}
use Rattle.vd_passes.specs.declared.pass.Phase.TheVariants.{Idle, Asked, Held, Fetching, Filled, Issuing, Looking, Ready}
use Rattle.vd_passes.specs.declared.pass.Fault.{Fault}
use Rattle.vd_passes.specs.declared.pass.Fault.TheVariants as fault
use Rattle.vd_passes.specs.Needs.{pieces_left}
use Rattle.vd_passes.specs.Passes.{has_region, writes_in, IsPiece, after_fetch, after_filled, after_issue, after_look, after_base_look, after_piece, after_fault, after_reply, after_spending}
use Rattle.vd_passes.specs.Requests.{RequestState, with_pass}
use Rattle.vd_passes.specs.Steps.{Enters, FetchSettled, Issues, WriteSettled, Looks, LooksAtBase, Sees, EndsRead, Replies}
use Rattle.vd_passes.proofs.Lists.{some-inj}
use Rattle.vd_passes.proofs.Needing.{pieces-left, pieces-behind, pieces-last}
use Rattle.vd_core.specs.declared.outcome.Step.{Step}
use Rattle.vd_core.specs.declared.outcome.Step.TheVariants.{Again, Late, Busy, Ended}
use Rattle.vd_machine.specs.Fetching.{FetchesBlock}
use Rattle.vd_machine.specs.Outcomes.{outcome_of}
use Rattle.vd_core.specs.Outcomes.{step_of}
pub use Rattle.vd_lists.proofs.Changes.{slice_set_unchanged}
use Rattle.vd_machine.specs.Phases.{IsInPhase}
use Rattle.vd_drive.specs.Moves.{steps_in_phase, steps_left, Moves, work, Drives}
use Rattle.vd_format.specs.Background.{zero_sector}
use Rattle.vd_law.specs.Needs.{pieces}

-- a room is as large as itself
pub same-room : (left : Room) → (left.events ≤ left.events) × (left.sectors ≤ left.sectors)
same-room left = (omega arith, omega arith)

-- A step that adds no entry, or one.
pub quiet : {i : ℕ} {p p' : Pass} {passes passes' : List Pass} (entries : List Entry) → slice_get passes i ≡ Some p → passes' ≡ slice_set passes i p' → p'.write ≡ p.write → p'.flush ≡ p.flush → p'.count ≡ p.count → p'.call ≡ p.call → Moves i p p' passes passes' entries entries
quiet entries there after write flush count call = record { there = there; after = after; write = write; flush = flush; count = count; call = call; more = []; none_asked = tt; entries_after = sym (append-nil entries) }

pub quiet-set : {i : ℕ} {p p' : Pass} (r : RequestState) {r' : RequestState} → slice_get r.passes i ≡ Some p → r' ≡ with_pass i p' r → p'.write ≡ p.write → p'.flush ≡ p.flush → p'.count ≡ p.count → p'.call ≡ p.call → Moves i p p' r.passes r'.passes r.entries r'.entries
quiet-set r there after write flush count call = rw after (quiet r.entries there refl write flush count call)

pub adds : {i : ℕ} {p p' : Pass} {passes passes' : List Pass} (entries entries' : List Entry) (e : Entry) → IsNoAsk e → slice_get passes i ≡ Some p → passes' ≡ slice_set passes i p' → p'.write ≡ p.write → p'.flush ≡ p.flush → p'.count ≡ p.count → p'.call ≡ p.call
    → entries' ≡ entries ++ e ∷ [] → Moves i p p' passes passes' entries entries'
adds entries entries' e none there after write flush count call more = record { there = there; after = after; write = write; flush = flush; count = count; call = call; more = e ∷ []; none_asked = (none, tt); entries_after = more }

-- nothing has changed, where a step was too early
unchanged : {block i : ℕ} {passes : List Pass} {entries : List Entry} {left : Room} (p : Pass) → slice_get passes i ≡ Some p → Drives Late block i (work passes entries left) (work passes entries left)
unchanged {i = i} {passes} {entries} {left} p there = record {
  pass = p;
  pass' = p;
  moves = quiet entries there (sym (slice_set_unchanged passes i p there)) refl refl refl refl;
  tells = refl;
  events_left = (same-room left).0;
  sectors_left = (same-room left).1;
}

asked-held : (write : Bool) (n : ℕ) → steps_in_phase Held write n < steps_in_phase Asked write n
asked-held true n = omega arith
asked-held false n = omega arith

-- the steps of a pass in a known phase
steps-at : (block : ℕ) (p : Pass) (phase : Phase) (write : Bool) → p.phase ≡ phase → p.write ≡ write → steps_left block p ≡ steps_in_phase phase write (pieces_left block p)
steps-at block p phase write is_phase is_write = ap (λ ph. steps_in_phase ph p.write (pieces_left block p)) is_phase ∙ ap (λ (w : Bool). steps_in_phase phase w (pieces_left block p)) is_write

module _ {i : ℕ} {r r' : RequestState} (left : Room) where
  pub enters-drives : {places : ℕ → Option ℕ} (p : Pass) → slice_get r.passes i ≡ Some p → p.phase ≡ Asked → Enters places i r r' → Drives Again r.shape.block i (work r.passes r.entries left) (work r'.passes r'.entries left)
  enters-drives {places} p there phase step =
      let same : p ≡ step.pass = some-inj (sym there ∙ step.there) in let asked : step.pass.phase ≡ Asked = ap (λ (q : Pass). q.phase) (sym same) ∙ phase in
      rw step.after (record {
        pass = step.pass;
        pass' = record step.pass { phase = Held; block = step.block; piece = step.piece; at = step.at };
        moves = quiet r.entries step.there refl refl refl refl refl;
        tells = ((λ e. cc), (let steps = steps-at r.shape.block step.pass Asked step.pass.write asked refl in let less = asked-held step.pass.write (pieces_left r.shape.block step.pass) in omega (arith, steps, less)));
        events_left = (same-room left).0;
        sectors_left = (same-room left).1;
      })

-- where a piece is there, its pass has a piece left
held-write : (n : ℕ) → 0 < n → (steps_in_phase Fetching true n < steps_in_phase Held true n) × (steps_in_phase Filled true n < steps_in_phase Held true n) × (steps_in_phase Issuing true n < steps_in_phase Held true n) × (steps_in_phase Ready true n < steps_in_phase Fetching true n)
    × (steps_in_phase Filled true n < steps_in_phase Fetching true n) × (steps_in_phase Issuing true n < steps_in_phase Filled true n) × (steps_in_phase Ready true n < steps_in_phase Issuing true n)
held-write n some = (omega arith, omega arith, omega arith, omega arith, omega arith, omega arith, omega arith)

module _ {i : ℕ} {r r' : RequestState} (left : Room) where
  pub fetches-drives : {B : Type 0} {h : base.Ghosts B} {b b' : B} (p : Pass) → slice_get r.passes i ≡ Some p → p.phase ≡ Held → p.write ≡ true → IsInPhase r.shape p → FetchesBlock h i r r' b b' → Drives Again r.shape.block i (work r.passes r.entries left) (work r'.passes r'.entries left)
  fetches-drives p there phase write stands (inl reads) =
      let step = reads.0 in let same : p ≡ step.pass = some-inj (sym there ∙ step.there) in
      let held : step.pass.phase ≡ Held = ap (λ (q : Pass). q.phase) (sym same) ∙ phase in let writes : step.pass.write ≡ true = ap (λ (q : Pass). q.write) (sym same) ∙ write in
      let piece : IsPiece r.shape step.pass = subst (IsPiece r.shape) same (stands.piece (ap has_region phase)) in
      let less = held-write (pieces_left r.shape.block step.pass) (pieces-left piece) in
      rw step.after (record {
        pass = step.pass;
        pass' = after_fetch step.pass step.ticket;
        moves = quiet r.entries step.there refl refl refl refl refl;
        tells = ((λ e. cc), (let before = steps-at r.shape.block step.pass Held true held writes in let after = steps-at r.shape.block (after_fetch step.pass step.ticket) Fetching true refl writes in omega (arith, before, after, less.0)));
        events_left = (same-room left).0;
        sectors_left = (same-room left).1;
      })
  fetches-drives p there phase write stands (inr fills) =
      let step = fills.0 in let same : p ≡ step.pass = some-inj (sym there ∙ step.there) in
      let held : step.pass.phase ≡ Held = ap (λ (q : Pass). q.phase) (sym same) ∙ phase in let writes : step.pass.write ≡ true = ap (λ (q : Pass). q.write) (sym same) ∙ write in
      let piece : IsPiece r.shape step.pass = subst (IsPiece r.shape) same (stands.piece (ap has_region phase)) in
      let less = held-write (pieces_left r.shape.block step.pass) (pieces-left piece) in
      let zeros = replicate r.shape.block zero_sector in
      rw step.after (record {
        pass = step.pass;
        pass' = after_filled step.pass zeros;
        moves = quiet r.entries step.there refl refl refl refl refl;
        tells = ((λ e. cc), (let before = steps-at r.shape.block step.pass Held true held writes in let after = steps-at r.shape.block (after_filled step.pass zeros) Filled true refl writes in omega (arith, before, after, less.1)));
        events_left = (same-room left).0;
        sectors_left = (same-room left).1;
      })

  pub fetch_settled-drives : {B : Type 0} {h : base.Ghosts B} {b b' : B} (answer : Settled) (p : Pass) → slice_get r.passes i ≡ Some p → p.phase ≡ Fetching → IsInPhase r.shape p
      → FetchSettled h answer i r r' b b' → Drives (step_of (outcome_of answer)) r.shape.block i (work r.passes r.entries left) (work r'.passes r'.entries left)
  fetch_settled-drives settled.Done p there phase stands s =
      let same : p ≡ s.pass = some-inj (sym there ∙ s.there) in
      let fetching : s.pass.phase ≡ Fetching = ap (λ (q : Pass). q.phase) (sym same) ∙ phase in let writes : s.pass.write ≡ true = ap (λ (q : Pass). q.write) (sym same) ∙ stands.write (ap writes_in phase) in
      let piece : IsPiece r.shape s.pass = subst (IsPiece r.shape) same (stands.piece (ap has_region phase)) in
      let less = held-write (pieces_left r.shape.block s.pass) (pieces-left piece) in
      let buffer = s.content ++ replicate (r.shape.block - length s.content) zero_sector in
      rw s.after (record {
        pass = s.pass;
        pass' = after_filled s.pass buffer;
        moves = quiet r.entries s.there refl refl refl refl refl;
        tells = ((λ e. cc), (let before = steps-at r.shape.block s.pass Fetching true fetching writes in let after = steps-at r.shape.block (after_filled s.pass buffer) Filled true refl writes in omega (arith, before, after, less.4)));
        events_left = (same-room left).0;
        sectors_left = (same-room left).1;
      })
  fetch_settled-drives (settled.NotYet t) p there phase stands s = rw s.after (record {
    pass = s.pass;
    pass' = s.pass;
    moves = quiet r.entries s.there refl refl refl refl refl;
    tells = slice_set_unchanged r.passes i s.pass s.there;
    events_left = (same-room left).0;
    sectors_left = (same-room left).1;
  })
  fetch_settled-drives (settled.Failed number) p there phase stands s =
      let same : p ≡ s.pass = some-inj (sym there ∙ s.there) in
      let fetching : s.pass.phase ≡ Fetching = ap (λ (q : Pass). q.phase) (sym same) ∙ phase in let writes : s.pass.write ≡ true = ap (λ (q : Pass). q.write) (sym same) ∙ stands.write (ap writes_in phase) in
      let piece : IsPiece r.shape s.pass = subst (IsPiece r.shape) same (stands.piece (ap has_region phase)) in
      let less = held-write (pieces_left r.shape.block s.pass) (pieces-left piece) in
      rw s.after (record {
        pass = s.pass;
        pass' = after_fault (fault.Base s.ticket.number) s.pass;
        moves = quiet r.entries s.there refl refl refl refl refl;
        tells = ((λ e. cc), (let before = steps-at r.shape.block s.pass Fetching true fetching writes in omega (arith, before, less.3)));
        events_left = (same-room left).0;
        sectors_left = (same-room left).1;
      })

-- A piece has ended: one piece less is left, or none.
ended-write : (p : Pass) (n : ℕ) (pl : ℕ) (b : Bool) → nat_lt (p.done + p.piece) p.count ≡ b → (p.done + p.piece < p.count → n + 1 ≡ pl) → (p.done + p.piece ≡ p.count → pl ≡ 1) → p.done + p.piece ≤ p.count → 0 < pl
    → (steps_in_phase (if b then Asked else Ready) true n < steps_in_phase Issuing true pl) × (steps_in_phase (if b then Asked else Ready) false n < steps_in_phase Looking false pl)
ended-write p n pl true is behind last most some = let one = behind (ltb-true _ _ is) in (omega (arith, one), omega (arith, one))
ended-write p n pl false is behind last most some = let one = last (let not = ltb-false _ _ is in omega (arith, not, most)) in (omega (arith, one), omega (arith, one))

goes-on : (b : Bool) → (if b then Asked else Ready) ≢ Idle
goes-on true e = cc
goes-on false e = cc

module _ {shape : Shape} {p : Pass} (piece : IsPiece shape p) where
  abbrev rest : ℕ
  rest = pieces shape.block (p.first + (p.done + p.piece)) (p.count - (p.done + p.piece))

  piece-ended : (steps_in_phase (if nat_lt (p.done + p.piece) p.count then Asked else Ready) true rest < steps_in_phase Issuing true (pieces_left shape.block p))
      × (steps_in_phase (if nat_lt (p.done + p.piece) p.count then Asked else Ready) false rest < steps_in_phase Looking false (pieces_left shape.block p))
  piece-ended = ended-write p rest (pieces_left shape.block p) (nat_lt (p.done + p.piece) p.count) refl (pieces-behind piece) (pieces-last piece) piece.no_more (pieces-left piece)

module _ {i : ℕ} {r r' : RequestState} (left : Room) where
  pub issues-drives : {content : List Sector} {S : Type 0} {g : store.Ghosts S} {s s' : S} (p : Pass) → slice_get r.passes i ≡ Some p → (p.phase ≡ Held) ⊎ (p.phase ≡ Filled) → p.write ≡ true → IsInPhase r.shape p
      → Issues g content i r r' s s' → Drives Again r.shape.block i (work r.passes r.entries left) (work r'.passes r'.entries left)
  issues-drives p there phase write stands step =
      let same : p ≡ step.pass = some-inj (sym there ∙ step.there) in let writes : step.pass.write ≡ true = ap (λ (q : Pass). q.write) (sym same) ∙ write in
      let piece : IsPiece r.shape step.pass = subst (IsPiece r.shape) same (stands.piece (holds p phase)) in
      let less = held-write (pieces_left r.shape.block step.pass) (pieces-left piece) in
      rw step.after (record {
        pass = step.pass;
        pass' = after_issue step.pass step.ticket step.buffer;
        moves = adds r.entries _ (Issue _ _ _) tt step.there refl refl refl refl refl refl;
        tells = (
          (λ e. cc),
          (let after = steps-at r.shape.block (after_issue step.pass step.ticket step.buffer) Issuing true refl writes in elim phase [
            | inl held ↦ (let before = steps-at r.shape.block step.pass Held true (ap (λ (q : Pass). q.phase) (sym same) ∙ held) writes in omega (arith, before, after, less.2))
            | inr filled ↦ (let before = steps-at r.shape.block step.pass Filled true (ap (λ (q : Pass). q.phase) (sym same) ∙ filled) writes in omega (arith, before, after, less.5))
          ]),
        );
        events_left = (same-room left).0;
        sectors_left = (same-room left).1;
      })
    where
      holds : (q : Pass) → (q.phase ≡ Held) ⊎ (q.phase ≡ Filled) → has_region q.phase ≡ true
      holds q (inl held) = ap has_region held
      holds q (inr filled) = ap has_region filled

  pub write_settled-drives : {S : Type 0} {g : store.Ghosts S} {s s' : S} (answer : Settled) (p : Pass) → slice_get r.passes i ≡ Some p → p.phase ≡ Issuing → IsInPhase r.shape p
      → WriteSettled g answer i r r' s s' → Drives (step_of (outcome_of answer)) r.shape.block i (work r.passes r.entries left) (work r'.passes r'.entries left)
  write_settled-drives settled.Done p there phase stands s =
      let same : p ≡ s.pass = some-inj (sym there ∙ s.there) in
      let issuing : s.pass.phase ≡ Issuing = ap (λ (q : Pass). q.phase) (sym same) ∙ phase in let writes : s.pass.write ≡ true = ap (λ (q : Pass). q.write) (sym same) ∙ stands.write (ap writes_in phase) in
      let piece : IsPiece r.shape s.pass = subst (IsPiece r.shape) same (stands.piece (ap has_region phase)) in
      rw s.after (record {
        pass = s.pass;
        pass' = after_spending 1 0 (after_piece s.pass);
        moves = adds r.entries _ (Done _) tt s.there refl refl refl refl refl refl;
        tells = (
          goes-on (nat_lt (s.pass.done + s.pass.piece) s.pass.count),
          (let before = steps-at r.shape.block s.pass Issuing true issuing writes in let after = steps-at r.shape.block (after_spending 1 0 (after_piece s.pass)) (if nat_lt (s.pass.done + s.pass.piece) s.pass.count then Asked else Ready) true refl writes in
              let less = (piece-ended piece).0 in omega (arith, before, after, less)),
        );
        events_left = (same-room left).0;
        sectors_left = (same-room left).1;
      })
  write_settled-drives (settled.NotYet t) p there phase stands s = rw s.after (unchanged s.pass s.there)
  write_settled-drives (settled.Failed number) p there phase stands s =
      let same : p ≡ s.pass = some-inj (sym there ∙ s.there) in
      let issuing : s.pass.phase ≡ Issuing = ap (λ (q : Pass). q.phase) (sym same) ∙ phase in let writes : s.pass.write ≡ true = ap (λ (q : Pass). q.write) (sym same) ∙ stands.write (ap writes_in phase) in
      let piece : IsPiece r.shape s.pass = subst (IsPiece r.shape) same (stands.piece (ap has_region phase)) in
      let less = held-write (pieces_left r.shape.block s.pass) (pieces-left piece) in
      rw s.after (record {
        pass = s.pass;
        pass' = after_spending 1 0 (after_fault (fault.Store s.ticket.number) s.pass);
        moves = adds r.entries _ (Broke _) tt s.there refl refl refl refl refl refl;
        tells = ((λ e. cc), (let before = steps-at r.shape.block s.pass Issuing true issuing writes in omega (arith, before, less.6)));
        events_left = (same-room left).0;
        sectors_left = (same-room left).1;
      })

module _ {i : ℕ} {r r' : RequestState} (left : Room) where
  pub replies-drives : {answer : Answer} (block : ℕ) (p : Pass) → slice_get r.passes i ≡ Some p → p.phase ≡ Ready → Replies answer i r r' → (left' : Room) → left.events ≤ left'.events → left.sectors ≤ left'.sectors
      → Drives (Ended answer) block i (work r.passes r.entries left) (work r'.passes r'.entries left')
  replies-drives {answer} block p there phase s left' events_more sectors_more =
      let same : p ≡ s.pass = some-inj (sym there ∙ s.there) in
      let ready : s.pass.phase ≡ Ready = ap (λ (q : Pass). q.phase) (sym same) ∙ phase in
      rw s.after (record {
        pass = s.pass;
        pass' = after_reply s.pass;
        moves = adds r.entries _ (Reply _ _) tt s.there refl refl refl refl refl refl;
        tells = (refl, s.is, (let before = steps-at block s.pass Ready s.pass.write ready refl in omega (arith, before)));
        events_left = events_more;
        sectors_left = sectors_more;
      })

-- The steps of a read.
held-read : (n : ℕ) → 0 < n → (steps_in_phase Looking false n < steps_in_phase Held false n) × (steps_in_phase Ready false n < steps_in_phase Looking false n)
held-read n some = (omega arith, omega arith)

module _ {i : ℕ} {r r' : RequestState} (left : Room) where
  pub looks-drives : {S : Type 0} {g : store.Ghosts S} {s s' : S} (p : Pass) → slice_get r.passes i ≡ Some p → p.phase ≡ Held → p.write ≡ false → IsInPhase r.shape p
      → Looks g i r r' s s' → Drives Again r.shape.block i (work r.passes r.entries left) (work r'.passes r'.entries left)
  looks-drives p there phase write stands step =
      let same : p ≡ step.pass = some-inj (sym there ∙ step.there) in
      let held : step.pass.phase ≡ Held = ap (λ (q : Pass). q.phase) (sym same) ∙ phase in let reads : step.pass.write ≡ false = ap (λ (q : Pass). q.write) (sym same) ∙ write in
      let piece : IsPiece r.shape step.pass = subst (IsPiece r.shape) same (stands.piece (ap has_region phase)) in
      let less = held-read (pieces_left r.shape.block step.pass) (pieces-left piece) in
      rw step.after (record {
        pass = step.pass;
        pass' = after_look step.pass step.ticket;
        moves = quiet r.entries step.there refl refl refl refl refl;
        tells = ((λ e. cc), (let before = steps-at r.shape.block step.pass Held false held reads in let after = steps-at r.shape.block (after_look step.pass step.ticket) Looking false refl reads in omega (arith, before, after, less.0)));
        events_left = (same-room left).0;
        sectors_left = (same-room left).1;
      })

  pub looks_at_base-drives : {B : Type 0} {h : base.Ghosts B} {b b' : B} (p : Pass) → slice_get r.passes i ≡ Some p → p.phase ≡ Held → p.write ≡ false → IsInPhase r.shape p
      → LooksAtBase h i r r' b b' → Drives Again r.shape.block i (work r.passes r.entries left) (work r'.passes r'.entries left)
  looks_at_base-drives p there phase write stands step =
      let same : p ≡ step.pass = some-inj (sym there ∙ step.there) in
      let held : step.pass.phase ≡ Held = ap (λ (q : Pass). q.phase) (sym same) ∙ phase in let reads : step.pass.write ≡ false = ap (λ (q : Pass). q.write) (sym same) ∙ write in
      let piece : IsPiece r.shape step.pass = subst (IsPiece r.shape) same (stands.piece (ap has_region phase)) in
      let less = held-read (pieces_left r.shape.block step.pass) (pieces-left piece) in
      rw step.after (record {
        pass = step.pass;
        pass' = after_base_look step.pass step.ticket;
        moves = quiet r.entries step.there refl refl refl refl refl;
        tells = ((λ e. cc), (let before = steps-at r.shape.block step.pass Held false held reads in let after = steps-at r.shape.block (after_base_look step.pass step.ticket) Looking false refl reads in omega (arith, before, after, less.0)));
        events_left = (same-room left).0;
        sectors_left = (same-room left).1;
      })

  pub sees-drives : {content out out' : List Sector} (p : Pass) → slice_get r.passes i ≡ Some p → (p.phase ≡ Held) ⊎ (p.phase ≡ Looking) → p.write ≡ false → IsInPhase r.shape p
      → Sees content i r r' out out' → Drives Again r.shape.block i (work r.passes r.entries left) (work r'.passes r'.entries left)
  sees-drives {content} p there phase write stands s =
      let same : p ≡ s.pass = some-inj (sym there ∙ s.there) in let reads : s.pass.write ≡ false = ap (λ (q : Pass). q.write) (sym same) ∙ write in
      let piece : IsPiece r.shape s.pass = subst (IsPiece r.shape) same (stands.piece (holds p phase)) in
      let more = held-read (pieces_left r.shape.block s.pass) (pieces-left piece) in
      rw s.after (record {
        pass = s.pass;
        pass' = after_spending 1 s.pass.piece (after_piece s.pass);
        moves = adds r.entries _ (Seen _ _ content) tt s.there refl refl refl refl refl refl;
        tells = (
          goes-on (nat_lt (s.pass.done + s.pass.piece) s.pass.count),
          (let after = steps-at r.shape.block (after_spending 1 s.pass.piece (after_piece s.pass)) (if nat_lt (s.pass.done + s.pass.piece) s.pass.count then Asked else Ready) false refl reads in
              let less = (piece-ended piece).1 in elim phase [
                | inl held ↦ (let before = steps-at r.shape.block s.pass Held false (ap (λ (q : Pass). q.phase) (sym same) ∙ held) reads in omega (arith, before, after, less, more.0))
                | inr looking ↦ (let before = steps-at r.shape.block s.pass Looking false (ap (λ (q : Pass). q.phase) (sym same) ∙ looking) reads in omega (arith, before, after, less))
              ]),
        );
        events_left = (same-room left).0;
        sectors_left = (same-room left).1;
      })
    where
      holds : (q : Pass) → (q.phase ≡ Held) ⊎ (q.phase ≡ Looking) → has_region q.phase ≡ true
      holds q (inl held) = ap has_region held
      holds q (inr looking) = ap has_region looking

-- the end of a read from either device
module _ {i : ℕ} (r r' : RequestState) (left : Room) where
  pub ends_read-drives : (content out out' : List Sector) (answer : Settled) (why : Fault) (p : Pass) → slice_get r.passes i ≡ Some p → p.phase ≡ Looking → IsInPhase r.shape p
      → EndsRead answer content why i r r' out out' → Drives (step_of (outcome_of answer)) r.shape.block i (work r.passes r.entries left) (work r'.passes r'.entries left)
  ends_read-drives content out out' settled.Done why p there phase stands e = sees-drives left p there (inr phase) (stands.read phase) stands e
  ends_read-drives content out out' (settled.NotYet t) why p there phase stands e = rw e.0 (unchanged p there)
  ends_read-drives content out out' (settled.Failed number) why p there phase stands e =
      let step = e.0 in let same : p ≡ step.pass = some-inj (sym there ∙ step.there) in
      let looking : step.pass.phase ≡ Looking = ap (λ (x : Pass). x.phase) (sym same) ∙ phase in let reads : step.pass.write ≡ false = ap (λ (x : Pass). x.write) (sym same) ∙ stands.read phase in
      let piece : IsPiece r.shape step.pass = subst (IsPiece r.shape) same (stands.piece (ap has_region phase)) in
      let less = held-read (pieces_left r.shape.block step.pass) (pieces-left piece) in
      rw step.after (record {
        pass = step.pass;
        pass' = after_fault why step.pass;
        moves = quiet r.entries step.there refl refl refl refl refl;
        tells = ((λ x. cc), (let before = steps-at r.shape.block step.pass Looking false looking reads in omega (arith, before, less.1)));
        events_left = (same-room left).0;
        sectors_left = (same-room left).1;
      })

-- nothing has changed
pub still-drives : {i : ℕ} {passes passes' : List Pass} (by block : ℕ) (entries : List Entry) (left : Room) (p : Pass) → slice_get passes i ≡ Some p → passes' ≡ passes → Drives (Busy by) block i (work passes entries left) (work passes' entries left)
still-drives {i} {passes} {passes'} by block entries left p there same = record {
  pass = p;
  pass' = p;
  moves = quiet entries there (same ∙ sym (slice_set_unchanged passes i p there)) refl refl refl refl;
  tells = same;
  events_left = (same-room left).0;
  sectors_left = (same-room left).1;
}

-- the same, of what is equal to its answer, its entries and its room
pub drives-as : {step step' : Step} {block i : ℕ} {passes passes' : List Pass} {entries entries' more : List Entry} {left left' rest : Room} → step' ≡ step → more ≡ entries' → rest ≡ left'
    → Drives step block i (work passes entries left) (work passes' entries' left') → Drives step' block i (work passes entries left) (work passes' more rest)
drives-as step_is entries_are left_is drives = rw (step_is, entries_are, left_is) drives
