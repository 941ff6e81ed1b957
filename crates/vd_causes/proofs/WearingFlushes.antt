-- Each step of a flush keeps it too, as does a core that is made.
use Rattle.std.proofs.Common.{◌≡◌, ℕ, ◌+◌, ◌≤◌, inl, inr, Bool, true, false, ◌&&◌, List, [], refl, sym, ap, ◌∙◌, arith, Some, None, slice_get}
use Rattle.std.specs.Prelude.{if◌then◌else◌, cond, ◌==◌, slice_index_or}
use Rattle.std.proofs.lemmas.Bool.{and_parts, eqb-true}
use Rattle.std.proofs.lemmas.List.{append-nil}
use Rattle.vd_lists.proofs.Counting.{sum_of_zeros}
use Rattle.vd_lists.proofs.Options.{some_injective}
use Rattle.vd_law.specs.declared.entry.Sector.{Sector}
use Rattle.vd_device.specs.declared.store.Store as store
use Rattle.vd_device.specs.declared.settled.Settled.{Settled}
use Rattle.vd_device.specs.declared.settled.Settled.TheVariants as settled
use Rattle.vd_format.specs.declared.header.Header.{Header}
use Rattle.vd_table.specs.Tables.{TableState}
use Rattle.vd_keeper.specs.declared.stage.Route.{Route}
use Rattle.vd_keeper.specs.declared.stage.Stage.{Stage}
use Rattle.vd_keeper.specs.declared.stage.Stage.TheVariants.{Rest, DataFlush, Puts, Syncs, Seals, Broken}
use Rattle.vd_keeper.specs.declared.stage.Way.{Way}
use Rattle.vd_keeper.specs.declared.stage.Way.TheVariants as ways
use Rattle.vd_keeper.specs.declared.stage.Put.{Put}
use Rattle.vd_keeper.specs.Keeping.{KeeperState}
use Rattle.vd_keeper.specs.Flushes.{last_generation, is_recycle}
use Rattle.vd_keeper.specs.Moves.{after_adopt, after_call, next_header, way_of, IsNextPut, Next_record, Next_page, Next_header}
use Rattle.vd_passes.specs.declared.pass.Pass.{Pass}
use Rattle.vd_passes.specs.declared.pass.Phase.TheVariants.{Idle, Ready}
use Rattle.vd_passes.specs.declared.pass.Fault.TheVariants as fault
use Rattle.vd_passes.specs.Requests.{RequestState, with_pass}
use Rattle.vd_passes.specs.Passes.{after_fault, after_meta, after_flush}
use Rattle.vd_passes.specs.Causes.{one_if}
use Rattle.vd_passes.specs.Steps.{SubmitsMeta, meta_settled}
use Rattle.vd_machine.specs.Issuing.{keeper_after_write}
use Rattle.vd_machine.specs.Flushing.{meta_state, keeper_after, BeginsFlush, IsWornOut, PutsNext, SyncsPuts, SettlesMeta, SealsFlush}
use Rattle.vd_causes.specs.Wearing.{is_unsealed, is_unsealed_in, RisesAddUp}
use Rattle.vd_causes.proofs.Wearing.{changed-rises, same-rises, no-more, HasNoMore, pass-rises}
use Rattle.vd_causes.proofs.WearingSteps.{open-before, flush-open, itself}

-- No header changes but by a seal.

owe-header : (stale : Bool) (k : KeeperState) (owed : List Bool) → (if stale then k else record k { owed = owed }).header ≡ k.header
owe-header true k owed = refl
owe-header false k owed = refl

pub write-header : (answer : Settled) (block : ℕ) (k : KeeperState) → (keeper_after_write answer block k).header ≡ k.header
write-header settled.Done block k = owe-header (slice_index_or k.stale block false) k _
write-header (settled.NotYet same) block k = refl
write-header (settled.Failed number) block k = refl

put-header : {table : TableState} {k k' : KeeperState} {put : Put} → IsNextPut table k put k' → k'.header ≡ k.header
put-header (Next_record sector way bytes) = refl
put-header (Next_page page sector way lowest bytes) = refl
put-header (Next_header sector way none bytes) = refl

call-header : (stage : Stage) (k : KeeperState) → (after_call stage k).header ≡ k.header
unfolding after_call
call-header Rest k = refl
call-header DataFlush k = refl
call-header Puts k = refl
call-header Syncs k = refl
call-header Seals k = refl
call-header Broken k = refl

settled-header : (answer : Settled) (k : KeeperState) → (keeper_after answer k).header ≡ k.header
settled-header settled.Done k = call-header k.stage k
settled-header (settled.NotYet same) k = refl
settled-header (settled.Failed number) k = refl

sealed-later : (way : Way) (h : Header) → h.generation ≤ (next_header way h).generation
sealed-later ways.Nothing h = omega arith
sealed-later ways.Records h = omega arith
sealed-later (ways.Recycle tracked) h = omega arith

sealed-once : (way : Way) (h : Header) → (next_header way h).generation ≤ h.generation + 1
sealed-once ways.Nothing h = omega arith
sealed-once ways.Records h = omega arith
sealed-once (ways.Recycle tracked) h = omega arith

-- a flush that was asked or is under way isn't sealed
unsealed-at : (p : Pass) → p.flush ≡ true → is_unsealed_in p.phase p.fault ≡ true → is_unsealed p ≡ true
unsealed-at p serves is = ap (λ b. b && is_unsealed_in p.phase p.fault) serves ∙ is

module _ {at_opening : ℕ} {k k' : KeeperState} {i : ℕ} {r r' : RequestState} {S : Type 0} {g : store.Ghosts S} {s s' : S} (rises : RisesAddUp at_opening k r) where
  sent : {content : List Sector} → k'.header ≡ k.header → SubmitsMeta g content i r r' s s' → RisesAddUp at_opening k' r'
  sent {content} header step = let p = step.pass in let p' = after_meta p step.ticket in
      rw step.after (pass-rises {k' = k'} rises header i p' step.there (record {
        unsealed = λ is. elim step.phase [
          | inl asked ↦ unsealed-at p step.serves (ap (λ ph. is_unsealed_in ph p.fault) asked)
          | inr flushing ↦ unsealed-at p step.serves (ap (λ ph. is_unsealed_in ph p.fault) flushing)
        ];
        worn = λ n ready is. absurd cc;
      }))

  pub begin-worn : {route : Route} → BeginsFlush g route i (meta_state k r) (meta_state k' r') s s' → RisesAddUp at_opening k' r'
  begin-worn {route} step = sent (ap (λ (x : KeeperState). x.header) step.after) step.sends

  pub put-worn : {table : TableState} → PutsNext g table i (meta_state k r) (meta_state k' r') s s' → RisesAddUp at_opening k' r'
  put-worn {table} step = sent (put-header step.next) step.sends

  pub settled-worn : {answer : Settled} → SettlesMeta g answer i (meta_state k r) (meta_state k' r') s s' → RisesAddUp at_opening k' r'
  settled-worn {answer} step = rw step.settles.after (pass-rises {k' = k'} rises (ap (λ (x : KeeperState). x.header) step.after ∙ settled-header answer k) i (meta_settled answer step.settles.pass step.settles.ticket) step.settles.there (ended answer))
    where
      ended : (answer : Settled) → HasNoMore step.settles.pass (meta_settled answer step.settles.pass step.settles.ticket)
      ended settled.Done = record { unsealed = λ is. is; worn = λ n ready is. (ready, is) }
      ended (settled.NotYet same) = itself step.settles.pass
      ended (settled.Failed number) = open-before step.settles.pass (after_fault (fault.Store step.settles.ticket.number) step.settles.pass) (λ n is. absurd cc) refl
          (flush-open step.settles.pass (ap (λ ph. is_unsealed_in ph step.settles.pass.fault) step.settles.phase))

  pub sync-worn : SyncsPuts g i r r' s s' → k'.header ≡ k.header → RisesAddUp at_opening k' r'
  sync-worn step header = sent header step.sends

-- the pass changes and no entry is told
changed : {at_opening : ℕ} {k k' : KeeperState} {r : RequestState} (rises : RisesAddUp at_opening k r) (i : ℕ) (p p' : Pass) → slice_get r.passes i ≡ Some p → k.header.generation ≤ k'.header.generation
    → k'.header.generation + one_if (is_unsealed p') ≤ k.header.generation + one_if (is_unsealed p)
    → ((n : ℕ) → p'.phase ≡ Ready → p'.fault ≡ Some (fault.Worn n) → (n ≡ last_generation) × (last_generation ≤ k'.header.generation)) → RisesAddUp at_opening k' (with_pass i p' r)
changed {at_opening} {k} {k'} {r} rises i p p' there later bound worn = same-rises {k' = k'} (changed-rises {k' = k'} rises i p p' there [] later (omega (arith, bound)) worn (λ to id n at. absurd cc)) refl refl (sym (append-nil r.entries))

-- with no call
module _ {at_opening : ℕ} {k : KeeperState} {i : ℕ} {r r' : RequestState} (rises : RisesAddUp at_opening k r) where
  -- the last generation is there
  pub worn-worn : {route : Route} → IsWornOut route i k r r' → RisesAddUp at_opening k r'
  worn-worn {route} step = let p = step.ends.pass in let p' = after_flush p (Some (fault.Worn last_generation)) in
      rw step.ends.after (changed {k' = k} rises i p p' step.ends.there (omega arith) (let m = no-more (is_unsealed p) (is_unsealed p') (λ is. open_flush) in omega (arith, m))
      (λ n ready is. (told n is, let e = last in omega (arith, e))))
    where
      last : k.header.generation ≡ last_generation
      last = eqb-true k.header.generation last_generation (and_parts (is_recycle (way_of route k)) (k.header.generation == last_generation) step.worn).1

      told : (n : ℕ) → Some (fault.Worn last_generation) ≡ Some (fault.Worn n) → n ≡ last_generation
      told n is = let e : fault.Worn last_generation ≡ fault.Worn n = some_injective is in cc

      open_flush : is_unsealed step.ends.pass ≡ true
      open_flush = elim step.ends.cause [
        | inl over ↦ absurd (let e = over.0 in cc)
        | inr kept ↦ unsealed-at step.ends.pass step.ends.serves (ap (λ ph. is_unsealed_in ph step.ends.pass.fault) kept.2)
      ]

  -- the flush is over, and has raised the generation by one at most
  pub seal-worn : {k' : KeeperState} → SealsFlush i (meta_state k r) (meta_state k' r') → RisesAddUp at_opening k' r'
  seal-worn {k'} step = let p = step.ends.pass in let p' = after_flush p None in
      rw step.ends.after (changed {k' = k'} rises i p p' step.ends.there
      (let a = sealed-later k.way k.header in omega (arith, a, header))
      (let a = sealed-once k.way k.header in let b = ap one_if open_flush in let c = ap one_if (no-flush p.flush) in omega (arith, a, b, c, header))
      (λ n ready is. absurd cc))
    where
      header : k'.header.generation ≡ (next_header k.way k.header).generation
      header = ap (λ (x : KeeperState). x.header.generation) step.after

      no-flush : (serves : Bool) → (serves && false) ≡ false
      no-flush true = refl
      no-flush false = refl

      open_flush : is_unsealed step.ends.pass ≡ true
      open_flush = elim step.ends.cause [
        | inl over ↦ unsealed-at step.ends.pass step.ends.serves (ap (λ ph. is_unsealed_in ph step.ends.pass.fault) over.1)
        | inr kept ↦ absurd (let e = kept.1 in cc)
      ]

pub adopt-worn : {at_opening : ℕ} {k : KeeperState} {r : RequestState} (fresh : List Bool) → RisesAddUp at_opening k r → RisesAddUp at_opening (after_adopt fresh k) r
adopt-worn {at_opening} {k} {r} fresh rises = same-rises {k' = after_adopt fresh k} rises refl refl refl

-- a new core
pub new-worn : {k : KeeperState} {r : RequestState} → r.entries ≡ [] → ((i : ℕ) (p : Pass) → slice_get r.passes i ≡ Some p → p.phase ≡ Idle) → RisesAddUp k.header.generation k r
new-worn {k} {r} empty idle = record {
  caused = λ to id n at. let e = ap (λ es. slice_get es to) empty in absurd cc;
  now = let a = sum_of_zeros (λ p. cond (is_unsealed p) 1 0) r.passes none in omega (arith, a);
  worn = λ i p n at ready. let e = idle i p at in absurd cc;
}
  where
    no-flush : (serves : Bool) → one_if (serves && false) ≡ 0
    no-flush true = refl
    no-flush false = refl

    none : (i : ℕ) (p : Pass) → slice_get r.passes i ≡ Some p → one_if (is_unsealed p) ≡ 0
    none i p at = ap (λ ph. one_if (p.flush && is_unsealed_in ph p.fault)) (idle i p at) ∙ no-flush p.flush
