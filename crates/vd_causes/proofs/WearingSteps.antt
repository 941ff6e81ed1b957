-- Each step of a core keeps that the generation rises by its flushes alone, and a Worn has found the last.
use Rattle.std.proofs.Common.{◌≡◌, ◌≢◌, ℕ, ◌+◌, ◌-◌, ◌*◌, ◌≤◌, ◌⊎◌, inl, inr, Bool, true, false, ◌&&◌, List, [], ◌∷◌, ◌++◌, replicate, refl, sym, ap, subst, ◌∙◌, arith, Option, Some, None, slice_get, count_by, zero, suc}
use Rattle.std.specs.Prelude.{cond, slice_range}
use Rattle.std.proofs.lemmas.Bool.{and_parts, cases_Bool}
use Rattle.vd_lists.proofs.Counting.{sum_at_place}
use Rattle.vd_lists.proofs.Options.{some_injective}
use Rattle.vd_lists.proofs.Places.{same_member}
use Rattle.vd_law.specs.declared.entry.CallId.{CallId}
use Rattle.vd_law.specs.declared.entry.Sector.{Sector}
use Rattle.vd_law.specs.declared.entry.Answer.{Answer}
use Rattle.vd_law.specs.declared.entry.Answer.TheVariants.{Full, Worn}
use Rattle.vd_law.specs.Entries.{Asked, Read, Write, Flush, Entry, Ask, Issue, Done, Broke, Seen, Reply}
use Rattle.vd_device.specs.declared.store.Store as store
use Rattle.vd_device.specs.declared.base.Base as base
use Rattle.vd_device.specs.declared.ticket.Ticket.{Ticket}
use Rattle.vd_device.specs.declared.settled.Settled.{Settled}
use Rattle.vd_device.specs.declared.settled.Settled.TheVariants as settled
use Rattle.vd_keeper.specs.Keeping.{KeeperState}
use Rattle.vd_keeper.specs.Flushes.{last_generation}
use Rattle.vd_format.specs.Background.{zero_sector}
use Rattle.vd_passes.specs.declared.shape.Shape.{Shape}
use Rattle.vd_passes.specs.declared.pass.Pass.{Pass}
use Rattle.vd_passes.specs.declared.pass.Phase.{Phase}
use Rattle.vd_passes.specs.declared.pass.Phase.TheVariants.{Idle, Asked as HasAsked, Held, Fetching, Filled, Issuing, Looking, Flushing, Ready}
use Rattle.vd_passes.specs.declared.pass.Fault.{Fault}
use Rattle.vd_passes.specs.declared.pass.Fault.TheVariants as fault
use Rattle.vd_passes.specs.Requests.{RequestState, with_pass, with_entry}
use Rattle.vd_passes.specs.Standings.{Standing, standing}
use Rattle.vd_passes.specs.Passes.{has_region, call_id, HasNone, HasInFlight, HasOutcome, IsAsHistorySays, after_spending, after_ask, after_enter, after_fetch, after_filled, after_issue, after_look, after_base_look, after_piece, after_fault, after_reply, answer_by}
use Rattle.vd_passes.specs.Coherent.{IsCoherent}
use Rattle.vd_passes.specs.Steps.{IsAt, Asks, AsksFull, Enters, FillsZeros, Sees, SeesZeros, Replies, EndsRead, after_write, after_base_read, Issues, WriteSettled, Looks, LookSettled, Fetches, FetchSettled, LooksAtBase, BaseLookSettled}
use Rattle.vd_passes.specs.Causes.{one_if}
use Rattle.vd_causes.specs.Wearing.{asks_other_flush, is_unsealed, is_unsealed_in, RisesAddUp}
use Rattle.vd_causes.proofs.Wearing.{one-flush, changed-rises, same-rises, no-more, HasNoMore, TellsNoWorn, stands-rises, pass-rises}

-- What a pass has of flushes after a step.

-- a pass at work has no Worn to tell, and none that isn't flushing has an open flush
pub quiet : (p p' : Pass) → is_unsealed_in p'.phase p'.fault ≡ false → HasNoMore p p'
quiet p p' none = record {
  unsealed = λ is. let h = (and_parts p'.flush (is_unsealed_in p'.phase p'.fault) is).1 in absurd cc;
  worn = λ n ready is. let e = ap (λ ph. is_unsealed_in ph p'.fault) ready in let f = ap (λ why. is_unsealed_in Ready why) is in absurd cc;
}

-- no Worn is told, and an open flush was open
pub open-before : (p p' : Pass) → ((n : ℕ) → p'.fault ≡ Some (fault.Worn n) → ⊥) → p'.flush ≡ p.flush → (p.flush ≡ false) ⊎ (is_unsealed p ≡ true) → HasNoMore p p'
open-before p p' none same before = record {
  unsealed = λ is. elim before [
    | inl guest ↦ let h = (and_parts p'.flush (is_unsealed_in p'.phase p'.fault) is).0 in absurd cc
    | inr open_flush ↦ open_flush
  ];
  worn = λ n ready is. absurd (none n is);
}

-- one that serves no flush and isn't ready
quiet-asked : (p p' : Pass) → p'.flush ≡ false → p'.phase ≡ HasAsked → HasNoMore p p'
quiet-asked p p' guest asked = record {
  unsealed = λ is. let h = (and_parts p'.flush (is_unsealed_in p'.phase p'.fault) is).0 in absurd cc;
  worn = λ n ready is. absurd cc;
}

-- the same pass
pub itself : (p : Pass) → HasNoMore p p
itself p = record { unsealed = λ is. is; worn = λ n ready is. (ready, is) }

pub flush-open : (p : Pass) → is_unsealed_in p.phase p.fault ≡ true → (p.flush ≡ false) ⊎ (is_unsealed p ≡ true)
flush-open p is = elim (cases_Bool p.flush) [
  | inl serves ↦ inr (ap (λ b. b && is_unsealed_in p.phase p.fault) serves ∙ is)
  | inr guest ↦ inl guest
]

no-worn-of : {why : Option Fault} → why ≡ None → (n : ℕ) → why ≡ Some (fault.Worn n) → ⊥
no-worn-of none n is = absurd cc

-- A pass that has asked and isn't ready has no fault, and serves no flush, or one that isn't sealed.
module _ {shape : Shape} {fresh : List Bool} {places : ℕ → Option ℕ} {t : Standing} {p : Pass} (stands : IsAsHistorySays shape fresh places t p) where
  at-work : (phase : Phase) → p.phase ≡ phase → p.phase ≢ Idle → p.phase ≢ Ready → (p.flush ≡ false) ⊎ (is_unsealed p ≡ true)
  at-work Idle is not_idle not_ready = absurd (not_idle is)
  at-work HasAsked is not_idle not_ready = flush-open p (ap (λ ph. is_unsealed_in ph p.fault) is)
  at-work Held is not_idle not_ready = inl (stands.no_flush (ap has_region is))
  at-work Fetching is not_idle not_ready = inl (stands.no_flush (ap has_region is))
  at-work Filled is not_idle not_ready = inl (stands.no_flush (ap has_region is))
  at-work Issuing is not_idle not_ready = inl (stands.no_flush (ap has_region is))
  at-work Looking is not_idle not_ready = inl (stands.no_flush (ap has_region is))
  at-work Flushing is not_idle not_ready = flush-open p (ap (λ ph. is_unsealed_in ph p.fault) is)
  at-work Ready is not_idle not_ready = absurd (not_ready is)

  flight-at : (phase : Phase) → p.phase ≡ phase → HasInFlight phase shape fresh p
  flight-at phase is = subst (λ ph. HasInFlight ph shape fresh p) is stands.ticket

  calls-store : (ticket : Ticket) → p.ticket ≡ Some ticket → (p.phase ≢ Idle) × (p.phase ≢ Ready)
  calls-store ticket has = ((λ is. let n : HasNone p = flight-at Idle is in let e = n.ticket in cc), (λ is. let n : HasNone p = flight-at Ready is in let e = n.ticket in cc))

  calls-base : (ticket : Ticket) → p.fetch ≡ Some ticket → (p.phase ≢ Idle) × (p.phase ≢ Ready)
  calls-base ticket has = ((λ is. let n : HasNone p = flight-at Idle is in let e = n.fetch in cc), (λ is. let n : HasNone p = flight-at Ready is in let e = n.fetch in cc))

  holds-region : has_region p.phase ≡ true → (p.phase ≢ Idle) × (p.phase ≢ Ready)
  holds-region holds = ((λ is. let e = ap has_region is in cc), (λ is. let e = ap has_region is in cc))

  piece-ends : (p.phase ≢ Idle) × (p.phase ≢ Ready) → (events sectors : ℕ) → HasNoMore p (after_spending events sectors (after_piece p))
  piece-ends work events sectors = open-before p (after_spending events sectors (after_piece p)) (no-worn-of (stands.whole work.0 work.1).1) refl (at-work p.phase refl work.0 work.1)

  store-fails : (p.phase ≢ Idle) × (p.phase ≢ Ready) → (events sectors ticket : ℕ) → HasNoMore p (after_spending events sectors (after_fault (fault.Store ticket) p))
  store-fails work events sectors ticket = open-before p (after_spending events sectors (after_fault (fault.Store ticket) p)) (λ n is. absurd cc) refl (at-work p.phase refl work.0 work.1)

  device-fails : (p.phase ≢ Idle) × (p.phase ≢ Ready) → (why : Fault) → ((n : ℕ) → why ≡ fault.Worn n → ⊥) → HasNoMore p (after_fault why p)
  device-fails work why none = open-before p (after_fault why p) (λ n is. none n (some_injective is)) refl (at-work p.phase refl work.0 work.1)

one-silent : (e : Entry) → ((id : CallId) (n : ℕ) → e ≡ Reply id (Worn n) → ⊥) → TellsNoWorn (e ∷ [])
one-silent e none zero id n at = none id n (some_injective at)
one-silent e none (suc to) id n at = absurd cc

-- Steps of a pass.

module _ {at_opening : ℕ} {k : KeeperState} {i : ℕ} {r r' : RequestState} (rises : RisesAddUp at_opening k r) where
  pub enters-worn : {places : ℕ → Option ℕ} → Enters places i r r' → RisesAddUp at_opening k r'
  enters-worn {places} step = let p' = after_enter step.pass step.block step.piece step.at in rw step.after (pass-rises rises refl i p' step.there (quiet step.pass p' refl))

  pub fills-worn : FillsZeros i r r' → RisesAddUp at_opening k r'
  fills-worn step = let p' = after_filled step.pass (replicate r.shape.block zero_sector) in rw step.after (pass-rises rises refl i p' step.there (quiet step.pass p' refl))

  pub asks-worn : {request : Asked} {events sectors : ℕ} → Asks request events sectors i r r' → RisesAddUp at_opening k r'
  asks-worn {request} {events} {sectors} step = rw step.after (asked request)
    where
      asked : (request : Asked) → RisesAddUp at_opening k (with_entry (Ask (call_id i (after_ask step.pass request events sectors)) request) (with_pass i (after_ask step.pass request events sectors) r))
      asked (Read first count) = let p' = after_ask step.pass (Read first count) events sectors in let e = Ask (call_id i p') (Read first count) in
          stands-rises {k' = k} rises refl i p' step.there (quiet-asked step.pass p' refl refl) (e ∷ []) (one-silent e (λ id n is. absurd cc))
      asked (Write first content) = let p' = after_ask step.pass (Write first content) events sectors in let e = Ask (call_id i p') (Write first content) in
          stands-rises {k' = k} rises refl i p' step.there (quiet-asked step.pass p' refl refl) (e ∷ []) (one-silent e (λ id n is. absurd cc))
      asked Flush = let p' = after_ask step.pass Flush events sectors in let e = Ask (call_id i p') Flush in
          changed-rises {k' = k} rises i step.pass p' step.there (e ∷ []) (omega arith) (omega arith) (λ n is. absurd cc) (λ to id n at. absurd (one-silent e (λ id n is. absurd cc) to id n at))

  pub asks_full-worn : {request : Asked} {needed free : ℕ} → AsksFull request needed free i r r' → RisesAddUp at_opening k r'
  asks_full-worn {request} {needed} {free} step =
      let p = step.pass in let p' : Pass = record p { call = p.call + 1 } in let id : CallId = record { pass = i; call = p.call + 1 } in
      rw step.after (stands-rises rises refl i p' step.there (record { unsealed = λ is. is; worn = λ n ready is. (ready, is) }) (Ask id request ∷ Reply id (Full needed free) ∷ []) (two id))
    where
      two : (id : CallId) → TellsNoWorn (Ask id request ∷ Reply id (Full needed free) ∷ [])
      two id zero other n at = absurd cc
      two id (suc zero) other n at = absurd cc
      two id (suc (suc to)) other n at = absurd cc

  module _ {S : Type 0} {g : store.Ghosts S} {s s' : S} where
    pub looks-worn : Looks g i r r' s s' → RisesAddUp at_opening k r'
    looks-worn step = let p' = after_look step.pass step.ticket in rw step.after (pass-rises rises refl i p' step.there (quiet step.pass p' refl))

    pub issues-worn : {content : List Sector} → Issues g content i r r' s s' → RisesAddUp at_opening k r'
    issues-worn {content} step = let p = step.pass in let p' = after_issue p step.ticket step.buffer in
        let e = Issue (call_id i p) (p.first + p.done) (slice_range content p.done (p.done + p.piece)) in
        rw step.after (stands-rises rises refl i p' step.there (quiet p p' refl) (e ∷ []) (one-silent e (λ id n is. absurd cc)))

  module _ {B : Type 0} {h : base.Ghosts B} {b b' : B} where
    pub fetches-worn : Fetches h i r r' b b' → RisesAddUp at_opening k r'
    fetches-worn step = let p' = after_fetch step.pass step.ticket in rw step.after (pass-rises rises refl i p' step.there (quiet step.pass p' refl))

    pub base_looks-worn : LooksAtBase h i r r' b b' → RisesAddUp at_opening k r'
    base_looks-worn step = let p' = after_base_look step.pass step.ticket in rw step.after (pass-rises rises refl i p' step.there (quiet step.pass p' refl))

-- Where each pass stands as the history says.
module _ {at_opening : ℕ} {k : KeeperState} {i : ℕ} {r r' : RequestState} {S B : Type 0} {g : store.Ghosts S} {h : base.Ghosts B} {places : ℕ → Option ℕ} {s : S} {b : B}
    (co : IsCoherent g h r places s b) (rises : RisesAddUp at_opening k r) where
  module _ {content out out' : List Sector} where
    seen : (p : Pass) → slice_get r.passes i ≡ Some p → (p.phase ≢ Idle) × (p.phase ≢ Ready) → Sees content i r r' out out' → RisesAddUp at_opening k r'
    seen p there work step =
        let q = step.pass in let same : p ≡ q = same_member r.passes i p q there step.there in
        let worked = subst (λ (x : Pass). (x.phase ≢ Idle) × (x.phase ≢ Ready)) same work in
        rw step.after (stands-rises rises refl i (after_spending 1 q.piece (after_piece q)) step.there (piece-ends (co.each i q step.there) worked 1 q.piece)
        (Seen (call_id i q) (q.first + q.done) content ∷ []) (one-silent (Seen (call_id i q) (q.first + q.done) content) (λ id n is. absurd cc)))

  pub sees_zeros-worn : {out out' : List Sector} → IsAt r.passes i (λ p. p.phase ≡ Held) → SeesZeros i r r' out out' → RisesAddUp at_opening k r'
  sees_zeros-worn at step = seen at.0 at.1 (holds-region (co.each i at.0 at.1) (ap has_region at.2)) step.sees

  read-ends : (j : ℕ) → j ≡ i → (content out out' : List Sector) (answer : Settled) (why : Fault) → ((n : ℕ) → why ≡ fault.Worn n → ⊥) → (p : Pass) → slice_get r.passes i ≡ Some p → (p.phase ≢ Idle) × (p.phase ≢ Ready)
      → EndsRead answer content why i r r' out out' → RisesAddUp at_opening k r'
  read-ends j is content out out' settled.Done why none p there work ends = seen p there work ends
  read-ends j is content out out' (settled.NotYet same) why none p there work ends = rw ends.0 rises
  read-ends j is content out out' (settled.Failed number) why none p there work ends =
      let q = ends.0.pass in let same : p ≡ q = same_member r.passes i p q there ends.0.there in
      let worked = subst (λ (x : Pass). (x.phase ≢ Idle) × (x.phase ≢ Ready)) same work in
      rw ends.0.after (pass-rises rises refl i (after_fault why q) ends.0.there (device-fails (co.each i q ends.0.there) worked why none))

  module _ {answer : Settled} {s' : S} where
    pub look_settled-worn : {out out' : List Sector} → LookSettled g answer i r r' s s' out out' → RisesAddUp at_opening k r'
    look_settled-worn {out} {out'} step = read-ends i refl step.content out out' answer (fault.Store step.ticket.number) (λ n is. absurd cc) step.pass step.there (calls-store (co.each i step.pass step.there) step.ticket step.has) step.effect

    -- a write that is done changes what is owed, and no header
    pub write_settled-worn : {k' : KeeperState} → k'.header ≡ k.header → WriteSettled g answer i r r' s s' → RisesAddUp at_opening k' r'
    write_settled-worn {k'} header step =
        let p = step.pass in rw step.after (ended answer)
      where
        work : (step.pass.phase ≢ Idle) × (step.pass.phase ≢ Ready)
        work = calls-store (co.each i step.pass step.there) step.ticket step.has

        ended : (answer : Settled) → RisesAddUp at_opening k' (after_write answer step.pass step.ticket i r)
        ended settled.Done = same-rises {k' = k'} (stands-rises {k' = k'} rises header i (after_spending 1 0 (after_piece step.pass)) step.there (piece-ends (co.each i step.pass step.there) work 1 0)
            (Done (call_id i step.pass) ∷ []) (one-silent (Done (call_id i step.pass)) (λ id n is. absurd cc))) refl refl refl
        ended (settled.NotYet same) = same-rises {k' = k'} rises (ap {B = ℕ} (λ x. x.generation) header) refl refl
        ended (settled.Failed number) = stands-rises {k' = k'} rises header i (after_spending 1 0 (after_fault (fault.Store step.ticket.number) step.pass)) step.there (store-fails (co.each i step.pass step.there) work 1 0 step.ticket.number)
            (Broke (call_id i step.pass) ∷ []) (one-silent (Broke (call_id i step.pass)) (λ id n is. absurd cc))

  module _ {answer : Settled} {b' : B} where
    pub base_look_settled-worn : {out out' : List Sector} → BaseLookSettled h answer i r r' b b' out out' → RisesAddUp at_opening k r'
    base_look_settled-worn {out} {out'} step = read-ends i refl (step.content ++ replicate (step.pass.piece - step.ticket.count) zero_sector) out out' answer (fault.Base step.ticket.number) (λ n is. absurd cc) step.pass step.there (calls-base (co.each i step.pass step.there) step.ticket step.has) step.effect

    pub fetch_settled-worn : FetchSettled h answer i r r' b b' → RisesAddUp at_opening k r'
    fetch_settled-worn step = rw step.after (pass-rises rises refl i (after_base_read answer step.pass step.ticket r.shape.block step.content) step.there (ended answer))
      where
        ended : (answer : Settled) → HasNoMore step.pass (after_base_read answer step.pass step.ticket r.shape.block step.content)
        ended settled.Done = quiet step.pass (after_base_read settled.Done step.pass step.ticket r.shape.block step.content) refl
        ended (settled.NotYet same) = itself step.pass
        ended (settled.Failed number) = device-fails (co.each i step.pass step.there) (calls-base (co.each i step.pass step.there) step.ticket step.has) (fault.Base step.ticket.number) (λ n is. absurd cc)

  -- a Worn is told: its own flush has raised nothing, so all but it have
  pub replies-worn : {answer : Answer} → IsAt r.passes i (λ p. p.phase ≡ Ready) → Replies answer i r r' → RisesAddUp at_opening k r'
  replies-worn {answer} at step = rw step.after (changed-rises rises i p (after_reply p) step.there (Reply (call_id i p) answer ∷ []) (omega arith)
      (let m = no-more (is_unsealed p) (is_unsealed (after_reply p)) (quiet p (after_reply p) refl).unsealed in omega (arith, m)) (λ n is. absurd cc) told)
    where
      p : Pass
      p = step.pass

      ready : step.pass.phase ≡ Ready
      ready = ap (λ (x : Pass). x.phase) (same_member r.passes i step.pass at.0 step.there at.1) ∙ at.2

      fault-told : (why : Option Fault) (done n : ℕ) → answer_by why done ≡ Worn n → why ≡ Some (fault.Worn n)
      fault-told None done n is = absurd cc
      fault-told (Some (fault.Store ticket)) done n is = absurd cc
      fault-told (Some (fault.Base ticket)) done n is = absurd cc
      fault-told (Some (fault.Worn generation)) done n is = cc

      reached : (n : ℕ) → step.pass.fault ≡ Some (fault.Worn n) → (n ≡ last_generation) × (last_generation ≤ at_opening + count_by (asks_other_flush (call_id i step.pass)) r.entries)
      reached n is =
          let w = rises.worn i step.pass n step.there ready is in
          let outcome = subst (λ why. HasOutcome step.pass (standing r.entries i).progress.broken why) is ((co.each i step.pass step.there).ready ready) in
          let open_flush : is_unsealed step.pass ≡ true = ap (λ f. f && is_unsealed_in step.pass.phase step.pass.fault) outcome.0 ∙ ap (λ ph. is_unsealed_in ph step.pass.fault) ready ∙ ap (λ why. is_unsealed_in Ready why) is in
          let mine = sum_at_place (λ x. cond (is_unsealed x) 1 0) r.passes i step.pass step.there in let one = ap one_if open_flush in
          let others = one-flush (r.shape.block * r.shape.blocks) r.entries co.regular (call_id i step.pass) in
          let now = rises.now in let last = w.1 in (w.0, omega (arith, mine, one, others, now, last))

      told : (to : ℕ) (id : CallId) (n : ℕ) → slice_get (Reply (call_id i step.pass) answer ∷ []) to ≡ Some (Reply id (Worn n)) → (n ≡ last_generation) × (last_generation ≤ at_opening + count_by (asks_other_flush id) r.entries)
      told zero id n at =
          let e : Reply (call_id i step.pass) answer ≡ Reply id (Worn n) = some_injective at in
          let whose : call_id i step.pass ≡ id = cc in let worn : answer ≡ Worn n = cc in
          subst (λ c. (n ≡ last_generation) × (last_generation ≤ at_opening + count_by (asks_other_flush c) r.entries)) whose (reached n (fault-told step.pass.fault step.pass.done n (sym step.is ∙ worn)))
      told (suc to) id n at = absurd cc
