-- What each step of a flush leaves for whoever drives it.
use Rattle.std.proofs.Common.{◌≡◌, ◌≢◌, ℕ, ◌<◌, ◌≤◌, ◌↔◌, List, refl, sym, ◌∙◌, ap, subst, Option, Some, None, slice_get}
use Rattle.vd_law.specs.declared.entry.Room.{Room}
use Rattle.vd_law.specs.declared.entry.Answer.{Answer}
use Rattle.vd_law.specs.Entries.{Entry, Reply}
use Rattle.vd_device.specs.declared.store.Store as store
use Rattle.vd_device.specs.declared.settled.Settled.{Settled}
use Rattle.vd_device.specs.declared.settled.Settled.TheVariants as settled
use Rattle.vd_table.specs.Tables.{TableState}
use Rattle.vd_keeper.specs.declared.stage.Stage.TheVariants.{Puts, Syncs, Seals}
use Rattle.vd_keeper.specs.declared.stage.Route.TheVariants.{Owed}
use Rattle.vd_keeper.specs.Keeping.{KeeperState}
use Rattle.vd_keeper.specs.Flushes.{last_generation}
use Rattle.vd_passes.specs.declared.pass.Pass.{Pass}
use Rattle.vd_passes.specs.declared.pass.Phase.TheVariants.{Asked, Ready}
use Rattle.vd_passes.specs.declared.pass.Fault.TheVariants as fault
use Rattle.vd_passes.specs.Passes.{after_meta, after_fault, after_flush, after_reply}
use Rattle.vd_passes.specs.Requests.{RequestState, with_pass}
use Rattle.vd_passes.specs.Steps.{Replies}
use Rattle.vd_machine.specs.Attending.{KeeperAgrees}
use Rattle.vd_machine.specs.Flushing.{meta_state, BeginsFlush, IsWornOut, PutsNext, SyncsPuts, SettlesMeta, SealsFlush, outcome_of}
use Rattle.vd_machine.specs.Measures.{flush_steps}
use Rattle.vd_machine.proofs.Members.{same-member, set-here}
use Rattle.vd_machine.proofs.Attended.{is-flusher, sealed-flushing}
use Rattle.vd_machine.proofs.Measuring.{begin-lowers, worn-lowers, put-lowers, sync-lowers, done-lowers, failed-lowers, seal-lowers}
use Rattle.vd_core.specs.declared.outcome.Step.{Step}
use Rattle.vd_core.specs.declared.outcome.Step.TheVariants.{Again, Busy, Ended}
use Rattle.vd_machine.specs.FlushSteps.{flusher_after}
use Rattle.vd_core.specs.Outcomes.{step_of}
use Rattle.vd_drive.specs.Driving.{DrivesFlush, flush_work}
use Rattle.vd_drive.proofs.Moving.{quiet, quiet-set, adds, same-room, slice_set_unchanged}

module _ {i : ℕ} {flusher flusher' : Option ℕ} where
  -- no other flush began or ended where this pass's began, went on, or ended
  others-begun : flusher ≡ None → flusher' ≡ Some i → (j : ℕ) → j ≢ i → (flusher' ≡ Some j) ↔ (flusher ≡ Some j)
  others-begun none mine j other = (λ e. absurd (other (let same : i ≡ j = cc in sym same)), λ e. cc)

  others-same : flusher' ≡ flusher → (j : ℕ) → j ≢ i → (flusher' ≡ Some j) ↔ (flusher ≡ Some j)
  others-same same j other = (λ e. sym same ∙ e, λ e. same ∙ e)

  others-ended : flusher ≡ Some i → flusher' ≡ None → (j : ℕ) → j ≢ i → (flusher' ≡ Some j) ↔ (flusher ≡ Some j)
  others-ended mine none j other = (λ e. cc, λ e. absurd (other (let same : i ≡ j = cc in sym same)))

-- what stands in the place of a pass that was changed
changed : (r : RequestState) {r' : RequestState} (i : ℕ) {p : Pass} (p' : Pass) → slice_get r.passes i ≡ Some p → r' ≡ with_pass i p' r → slice_get r'.passes i ≡ Some p'
changed r i {p} p' there after = ap (λ (x : RequestState). slice_get x.passes i) after ∙ set-here r.passes i p' p there

module _ {i : ℕ} {flusher flusher' : Option ℕ} {k k' : KeeperState} {r r' : RequestState} (left : Room) where
  module _ {S : Type 0} {g : store.Ghosts S} {s s' : S} where
    pub begins-drives : flusher ≡ None → flusher' ≡ Some i → BeginsFlush g Owed i (meta_state k r) (meta_state k' r') s s' → DrivesFlush Again i (flush_work flusher k r.passes r.entries left) (flush_work flusher' k' r'.passes r'.entries left)
    begins-drives none mine step =
        let s = step.sends in let p' = after_meta s.pass s.ticket in record {
          pass = s.pass;
          pass' = p';
          moves = quiet-set r s.there s.after refl refl refl refl;
          tells = ((λ e. cc), begin-lowers s.pass p' step s.there (changed r i p' s.there s.after), ap (λ (x : RequestState). x.entries) s.after, (λ e. none));
          own = (λ e. mine, λ e. refl);
          others = others-begun none mine;
          events_left = (same-room left).0;
          sectors_left = (same-room left).1;
        }

    module _ {table : TableState} (attended : KeeperAgrees r.shape table r.fresh r.passes flusher k) where
      pub puts-drives : k.stage ≡ Puts → flusher' ≡ flusher → PutsNext g table i (meta_state k r) (meta_state k' r') s s' → DrivesFlush Again i (flush_work flusher k r.passes r.entries left) (flush_work flusher' k' r'.passes r'.entries left)
      puts-drives stage same step =
          let s = step.sends in let p' = after_meta s.pass s.ticket in record {
            pass = s.pass;
            pass' = p';
            moves = quiet-set r s.there s.after refl refl refl refl;
            tells = ((λ e. cc), put-lowers s.pass p' attended stage step s.there (changed r i p' s.there s.after), ap (λ (x : RequestState). x.entries) s.after, (λ e. (let flushes = step.under_way in cc)));
            own = (λ e. same ∙ is-flusher attended i s.pass s.there step.under_way, λ e. refl);
            others = others-same same;
            events_left = (same-room left).0;
            sectors_left = (same-room left).1;
          }

      pub syncs-drives : k.stage ≡ Syncs → k' ≡ k → flusher' ≡ flusher → SyncsPuts g i r r' s s' → DrivesFlush Again i (flush_work flusher k r.passes r.entries left) (flush_work flusher' k' r'.passes r'.entries left)
      syncs-drives stage kept same step =
          let s = step.sends in let p' = after_meta s.pass s.ticket in record {
            pass = s.pass;
            pass' = p';
            moves = quiet-set r s.there s.after refl refl refl refl;
            tells = (
              (λ e. cc),
              subst (λ (x : KeeperState). flush_steps x p' < flush_steps k s.pass) (sym kept) (sync-lowers k s.pass p' stage step s.there (changed r i p' s.there s.after)),
              ap (λ (x : RequestState). x.entries) s.after,
              (λ e. (let flushes = step.under_way in cc)),
            );
            own = (λ e. same ∙ is-flusher attended i s.pass s.there step.under_way, λ e. refl);
            others = others-same same;
            events_left = (same-room left).0;
            sectors_left = (same-room left).1;
          }

      pub settles-drives : (answer : Settled) → flusher' ≡ flusher_after answer flusher → SettlesMeta g answer i (meta_state k r) (meta_state k' r') s s' → DrivesFlush (step_of (outcome_of answer)) i (flush_work flusher k r.passes r.entries left) (flush_work flusher' k' r'.passes r'.entries left)
      settles-drives settled.Done same step =
          let s = step.settles in let p' = record s.pass { ticket = None } in record {
            pass = s.pass;
            pass' = p';
            moves = quiet-set r s.there s.after refl refl refl refl;
            tells = ((λ e. (let flushes = s.phase in cc)), done-lowers s.pass p' attended step s.there (changed r i p' s.there s.after), ap (λ (x : RequestState). x.entries) s.after, (λ e. (let flushes = s.phase in cc)));
            own = (λ e. same ∙ is-flusher attended i s.pass s.there s.phase, λ e. s.phase);
            others = others-same same;
            events_left = (same-room left).0;
            sectors_left = (same-room left).1;
          }
      settles-drives (settled.NotYet t) same step =
          let s = step.settles in record {
            pass = s.pass;
            pass' = s.pass;
            moves = quiet-set r s.there s.after refl refl refl refl;
            tells = (ap (λ (x : RequestState). x.passes) s.after ∙ slice_set_unchanged r.passes i s.pass s.there, step.after, ap (λ (x : RequestState). x.entries) s.after, s.phase);
            own = (λ e. same ∙ is-flusher attended i s.pass s.there s.phase, λ e. s.phase);
            others = others-same same;
            events_left = (same-room left).0;
            sectors_left = (same-room left).1;
          }
      settles-drives (settled.Failed number) same step =
          let s = step.settles in let p' = after_fault (fault.Store s.ticket.number) s.pass in record {
            pass = s.pass;
            pass' = p';
            moves = quiet-set r s.there s.after refl refl refl refl;
            tells = ((λ e. cc), failed-lowers s.pass p' attended step s.there (changed r i p' s.there s.after), ap (λ (x : RequestState). x.entries) s.after, (λ e. (let flushes = s.phase in cc)));
            own = (λ e. cc, λ e. cc);
            others = others-ended (is-flusher attended i s.pass s.there s.phase) same;
            events_left = (same-room left).0;
            sectors_left = (same-room left).1;
          }

  -- at the last generation no flush begins
  pub worn-drives : flusher ≡ None → flusher' ≡ flusher → k' ≡ k → IsWornOut Owed i k r r' → DrivesFlush Again i (flush_work flusher k r.passes r.entries left) (flush_work flusher' k' r'.passes r'.entries left)
  worn-drives none same kept step =
      let e = step.ends in let p' = after_flush e.pass (Some (fault.Worn last_generation)) in record {
        pass = e.pass;
        pass' = p';
        moves = quiet-set r e.there e.after refl refl refl refl;
        tells = ((λ x. cc), subst (λ (x : KeeperState). flush_steps x p' < flush_steps k e.pass) (sym kept) (worn-lowers e.pass p' step e.there (changed r i p' e.there e.after)), ap (λ (x : RequestState). x.entries) e.after, (λ x. none));
        own = (λ x. cc, λ x. cc);
        others = others-same same;
        events_left = (same-room left).0;
        sectors_left = (same-room left).1;
      }

  pub seals-drives : {table : TableState} → KeeperAgrees r.shape table r.fresh r.passes flusher k → k.stage ≡ Seals → flusher' ≡ None → SealsFlush i (meta_state k r) (meta_state k' r') → DrivesFlush Again i (flush_work flusher k r.passes r.entries left) (flush_work flusher' k' r'.passes r'.entries left)
  seals-drives attended stage none step =
      let e = step.ends in let p' = after_flush e.pass None in let flushes = sealed-flushing e in record {
        pass = e.pass;
        pass' = p';
        moves = quiet-set r e.there e.after refl refl refl refl;
        tells = ((λ x. cc), seal-lowers e.pass p' stage step e.there (changed r i p' e.there e.after), ap (λ (x : RequestState). x.entries) e.after, (λ x. cc));
        own = (λ x. cc, λ x. cc);
        others = others-ended (is-flusher attended i e.pass e.there flushes) none;
        events_left = (same-room left).0;
        sectors_left = (same-room left).1;
      }

-- another pass's flush is under way
module _ {i : ℕ} {flusher flusher' : Option ℕ} {k k' : KeeperState} {passes passes' : List Pass} (entries : List Entry) (left : Room) where
  pub kept_out-drives : (by : ℕ) (p : Pass) → slice_get passes i ≡ Some p → p.phase ≡ Asked → flusher ≡ Some by → by ≢ i → flusher' ≡ flusher → k' ≡ k → passes' ≡ passes → DrivesFlush (Busy by) i (flush_work flusher k passes entries left) (flush_work flusher' k' passes' entries left)
  kept_out-drives by p there phase theirs other same kept stays = record {
    pass = p;
    pass' = p;
    moves = quiet entries there (stays ∙ sym (slice_set_unchanged passes i p there)) refl refl refl refl;
    tells = (stays, kept, refl, phase, theirs, other);
    own = (λ e. cc, λ e. absurd (other (let own : by ≡ i = cc in own)));
    others = others-same same;
    events_left = (same-room left).0;
    sectors_left = (same-room left).1;
  }

-- what is replied is the one entry that a flush adds
pub replies-drives : {table : TableState} {i : ℕ} {flusher flusher' : Option ℕ} {k k' : KeeperState} {r r' : RequestState} {answer : Answer} (left left' : Room) (p : Pass)
    → KeeperAgrees r.shape table r.fresh r.passes flusher k → slice_get r.passes i ≡ Some p → p.phase ≡ Ready → flusher' ≡ flusher → k' ≡ k → left.events ≤ left'.events → left.sectors ≤ left'.sectors
    → Replies answer i r r' → DrivesFlush (Ended answer) i (flush_work flusher k r.passes r.entries left) (flush_work flusher' k' r'.passes r'.entries left')
replies-drives {i = i} {r = r} {r' = r'} left left' p attended there phase same kept events_more sectors_more s =
    let is = same-member r.passes i p s.pass there s.there in let ready = ap (λ (q : Pass). q.phase) (sym is) ∙ phase in
    let event = ap (λ (x : RequestState). x.entries) s.after in record {
      pass = s.pass;
      pass' = after_reply s.pass;
      moves = adds r.entries r'.entries (Reply _ _) tt s.there (ap (λ (x : RequestState). x.passes) s.after) refl refl refl refl event;
      tells = (refl, s.is, kept, ready, event);
      own = (λ e. cc, λ e. (let flushes = (attended.flushing i s.pass s.there).1 (sym same ∙ e) in cc));
      others = others-same same;
      events_left = events_more;
      sectors_left = sectors_more;
    }

-- the same, of what is equal to its answer, its entries and its room
pub drives-as : {step step' : Step} {i : ℕ} {flusher flusher' : Option ℕ} {k k' : KeeperState} {passes passes' : List Pass} {entries entries' more : List Entry} {left left' rest : Room} → step' ≡ step → more ≡ entries' → rest ≡ left'
    → DrivesFlush step i (flush_work flusher k passes entries left) (flush_work flusher' k' passes' entries' left') → DrivesFlush step' i (flush_work flusher k passes entries left) (flush_work flusher' k' passes' more rest)
drives-as step_is entries_are left_is drives = rw (step_is, entries_are, left_is) drives
