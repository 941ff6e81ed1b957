-- Each step of a flush keeps what holds of the keeper and the passes.
use Rattle.std.proofs.Common.{◌≡◌, ◌⊎◌, inl, inr, ℕ, ◌-◌, Bool, true, false, not, cond, List, length, sym, refl, ap, ◌∙◌, arith, subst, Option, Some, None, slice_get}
use Rattle.std.specs.Prelude.{◌||◌, nat_lt}
use Rattle.vd_device.specs.declared.ticket.Ticket.{Ticket}
use Rattle.vd_device.specs.declared.ticket.Kind.TheVariants.{Write, Flush}
use Rattle.vd_device.specs.declared.settled.Settled.TheVariants as settled
use Rattle.vd_device.specs.declared.store.Store as store
use Rattle.vd_format.specs.Layouts.{blocks_of, chunks_of, storage_start}
use Rattle.vd_format.specs.declared.header.Header.{Header}
use Rattle.vd_table.specs.Tables.{TableState}
use Rattle.vd_keeper.specs.declared.stage.Stage.{Stage}
use Rattle.vd_keeper.specs.declared.stage.Stage.TheVariants.{DataFlush, Puts, Syncs, Seals}
use Rattle.vd_keeper.specs.declared.stage.Way as way
use Rattle.vd_keeper.specs.declared.stage.Way.TheVariants as ways
use Rattle.vd_keeper.specs.declared.stage.Route.{Route}
use Rattle.vd_keeper.specs.declared.stage.Route.TheVariants as routes
use Rattle.vd_keeper.specs.Keeping.{KeeperState, no_marks}
use Rattle.vd_keeper.specs.Entries.{chunks_with}
use Rattle.vd_keeper.specs.Flushes.{IsKeeping, records_for, last_generation}
use Rattle.vd_keeper.specs.Moves.{HasPutDue, none_of, after_begin, after_break, after_call, is_settling, after_seal, next_header, way_of}
use Rattle.vd_keeper.proofs.Owed.{either-cases, without-parts}
use Rattle.vd_keeper.proofs.Flushed.{begun-kept, is-possible}
use Rattle.vd_keeper.proofs.Begun.{seals-onward}
use Rattle.vd_keeper.proofs.Ended.{broken-kept, sealed-kept, next-same, next-blocks, next-pages, next-chunks}
use Rattle.vd_keeper.proofs.Laws.{puts-leave}
use Rattle.vd_passes.specs.declared.shape.Shape.{Shape}
use Rattle.vd_passes.specs.declared.pass.Pass.{Pass}
use Rattle.vd_passes.specs.declared.pass.Phase.TheVariants.{Asked, Flushing}
use Rattle.vd_passes.specs.declared.pass.Fault.TheVariants as fault
use Rattle.vd_passes.specs.Passes.{after_meta, after_fault, after_flush}
use Rattle.vd_passes.specs.Requests.{RequestState}
use Rattle.vd_passes.specs.Steps.{EndsFlush}
use Rattle.vd_machine.specs.Flushing.{meta_state, BeginsFlush, IsWornOut, PutsNext, SyncsPuts, SettlesMeta, SealsFlush}
use Rattle.vd_machine.specs.Attending.{IsAtStage, KeeperAgrees}
use Rattle.vd_lists.proofs.Places.{same_member}
use Rattle.vd_machine.proofs.Due.{begun-due}
use Rattle.vd_machine.proofs.Kept.{put-kept}
use Rattle.vd_machine.proofs.Stages.{IsPutInStage, no-ticket, put-out, done-stage, out-stage, none-stage, gone-left, gone-kept, gone-in-stage, still-none-put}
use Rattle.vd_machine.proofs.Followed.{IsFollowed, not-asked, not-ready, goes-on, ends, passed}
use Rattle.vd_lists.proofs.Changes.{slice_set_unchanged}

-- ---- the pass whose flush is under way

module _ {shape : Shape} {table : TableState} {fresh : List Bool} {passes : List Pass} {flusher : Option ℕ} {k : KeeperState} (a : KeeperAgrees shape table fresh passes flusher k) (i : ℕ) (p : Pass) (there : slice_get passes i ≡ Some p) where
  pub is-flusher : p.phase ≡ Flushing → flusher ≡ Some i
  is-flusher flushing = (a.flushing i p there).0 flushing

  pub at-stage : p.phase ≡ Flushing → IsAtStage k.stage k p
  at-stage flushing =
      let w = a.working i (is-flusher flushing) in
      subst (λ (q : Pass). IsAtStage k.stage k q) (same_member passes i w.0 p w.1 there) w.2

  pub at-stage-of : (s : Stage) → k.stage ≡ s → p.phase ≡ Flushing → IsAtStage s k p
  at-stage-of s stage flushing = subst (λ (x : Stage). IsAtStage x k p) stage (at-stage flushing)

  -- where nothing is in flight in the stage Puts, there is something to put
  pub due-at : k.stage ≡ Puts → p.phase ≡ Flushing → p.ticket ≡ None → HasPutDue k
  due-at stage flushing none = elim (at-stage-of Puts stage flushing) [ inl due ↦ due.1 | inr out ↦ no-ticket p out.0.0 none out.0.1 ]

  -- a call that is in flight is one of a flush, and can be settled
  pub out-at : p.phase ≡ Flushing → (t : Ticket) → p.ticket ≡ Some t → (is_settling k.stage ≡ true) × ((t.kind ≡ Write) ⊎ (t.kind ≡ Flush))
  out-at flushing t out = out-stage k k.stage p t out (at-stage flushing)

  -- and where none is, the flush puts, makes durable what it put, or is over
  pub none-at : p.phase ≡ Flushing → p.ticket ≡ None → (k.stage ≡ Puts) ⊎ (k.stage ≡ Syncs) ⊎ (k.stage ≡ Seals)
  none-at flushing none = none-stage k k.stage p none (at-stage flushing)

-- ---- the keeper of the same disk

-- a step that leaves the header and the blocks
pub attended : {shape : Shape} {table : TableState} {fresh : List Bool} {passes passes' : List Pass} {flusher flusher' : Option ℕ} {k : KeeperState} (k' : KeeperState) → KeeperAgrees shape table fresh passes flusher k
    → k'.header ≡ k.header → k'.stale ≡ k.stale → k'.owed ≡ k.owed → IsKeeping k' → ((t : ℕ) → k'.way ≡ ways.Recycle t → t ≡ k.header.tracked) → IsPutInStage k' → IsFollowed passes' flusher' k'
    → KeeperAgrees shape table fresh passes' flusher' k'
attended {shape} {table} {fresh} k' a header stale owed kept tracked put_in_stage follows = record {
  keeping = kept;
  block = a.block ∙ ap (λ (h : Header). h.block) (sym header);
  chunk = a.chunk ∙ ap (λ (h : Header). h.chunk) (sym header);
  blocks = a.blocks ∙ ap blocks_of (sym header);
  storage_at = a.storage_at ∙ ap storage_start (sym header);
  tracked = a.tracked ∙ ap (λ (h : Header). h.tracked) (sym header);
  chunks = a.chunks ∙ ap chunks_of (sym header);
  storage = a.storage ∙ ap (λ (h : Header). h.storage) (sym header);
  stale_fresh = λ b is. a.stale_fresh b (ap (λ (xs : List Bool). slice_get xs b) (sym stale) ∙ is);
  owed_fresh = λ b is. a.owed_fresh b (ap (λ (xs : List Bool). slice_get xs b) (sym owed) ∙ is);
  same_tracked = λ t is. tracked t is ∙ ap (λ (h : Header). h.tracked) (sym header);
  put_in_stage = put_in_stage;
  flushing = follows.flushing;
  resting = follows.resting;
  working = follows.working;
}

-- ---- a flush begins

chosen-tracked : (big none : Bool) (t u : ℕ) → cond {A = way.Way} big (ways.Recycle t) (cond {A = way.Way} none ways.Nothing ways.Records) ≡ ways.Recycle u → u ≡ t
chosen-tracked true none t u e = cc
chosen-tracked false true t u e = absurd cc
chosen-tracked false false t u e = absurd cc

way-tracked : (route : Route) (k : KeeperState) (u : ℕ) → ((t : ℕ) → route ≡ routes.Recycle t → t ≡ k.header.tracked) → way_of route k ≡ ways.Recycle u → u ≡ k.header.tracked
unfolding way_of
way-tracked (routes.Recycle t) k u tracked e = let same : u ≡ t = cc in same ∙ tracked t refl
way-tracked routes.Owed k u tracked e = chosen-tracked (not k.sure || nat_lt (k.header.slots - k.next) (records_for (length (chunks_with k.header k.owed)))) (none_of k.owed) k.header.tracked u e

pub begin-attended : {route : Route} {r r' : RequestState} {table : TableState} {i : ℕ} {k k' : KeeperState} {S : Type 0} {g : store.Ghosts S} {s s' : S}
    → KeeperAgrees r.shape table r.fresh r.passes None k → ((t : ℕ) → route ≡ routes.Recycle t → t ≡ k.header.tracked) → BeginsFlush g route i (meta_state k r) (meta_state k' r') s s' → KeeperAgrees r'.shape table r'.fresh r'.passes (Some i) k'
begin-attended {route} {r} {r'} {table} {i} {k} {k'} a tracked b =
    let put = (a.keeping.at_rest (a.resting refl)).1 in
    let kept = begun-kept route k a.keeping (λ t e. let same = tracked t e in omega (arith, same)) b.not_worn put in
    let at : IsAtStage DataFlush (after_begin route k) (after_meta b.sends.pass b.sends.ticket) = ((b.sends.ticket, refl, b.kind), begun-due route k a.keeping) in
    let done = attended (after_begin route k) a refl refl refl kept (λ t e. way-tracked route k t tracked e) (inr (inr put))
    (goes-on r.passes i b.sends.pass (after_meta b.sends.pass b.sends.ticket) None (after_begin route k) b.sends.there a.flushing (inl refl) refl at) in
    subst (λ (x : KeeperState). KeeperAgrees r'.shape table r'.fresh r'.passes (Some i) x) (sym b.after) (subst (λ (x : RequestState). KeeperAgrees x.shape table x.fresh x.passes (Some i) (after_begin route k)) (sym b.sends.after) done)

-- or it can't: the pass was asked, and is ready
pub worn-asked : {generation : ℕ} {i : ℕ} {r r' : RequestState} (e : EndsFlush (Some (fault.Worn generation)) i r r') → e.pass.phase ≡ Asked
worn-asked {generation} e = elim e.cause [ inl none ↦ absurd (let is : Some (fault.Worn generation) ≡ None = none.0 in cc) | inr asked ↦ asked.2 ]

pub worn-attended : {route : Route} {r r' : RequestState} {table : TableState} {i : ℕ} {k : KeeperState} {flusher : Option ℕ}
    → KeeperAgrees r.shape table r.fresh r.passes flusher k → IsWornOut route i k r r' → KeeperAgrees r'.shape table r'.fresh r'.passes flusher k
worn-attended {route} {r} {r'} {table} {i} {k} {flusher} a w =
    let new = after_flush w.ends.pass (Some (fault.Worn last_generation)) in
    let f = passed r.passes i w.ends.pass new flusher k w.ends.there a.flushing a.resting a.working (not-asked w.ends.pass (worn-asked w.ends)) (not-ready new refl) in
    subst (λ (x : RequestState). KeeperAgrees x.shape table x.fresh x.passes flusher k) (sym w.ends.after) (attended k a refl refl refl a.keeping a.same_tracked a.put_in_stage f)

-- ---- a call is submitted

pub put-attended : {r r' : RequestState} {table : TableState} {i : ℕ} {k k' : KeeperState} {flusher : Option ℕ} {S : Type 0} {g : store.Ghosts S} {s s' : S}
    → KeeperAgrees r.shape table r.fresh r.passes flusher k → k.stage ≡ Puts → PutsNext g table i (meta_state k r) (meta_state k' r') s s' → KeeperAgrees r'.shape table r'.fresh r'.passes flusher k'
put-attended {r} {r'} {table} {i} {k} {k'} {flusher} a stage n =
    let p = n.sends.pass in let new = after_meta n.sends.pass n.sends.ticket in
    let due = due-at a i p n.sends.there stage n.under_way n.sends.none in
    let left = puts-leave table k k' n.put n.next in
    let mine = is-flusher a i p n.sends.there n.under_way in
    let at : IsAtStage Puts k' new = inr ((n.sends.ticket, refl, n.kind), put-out table k k' n.put a.keeping due n.next) in
    let at' = subst (λ (s : Stage). IsAtStage s k' new) (sym (left.stage ∙ stage)) at in
    let done = attended k' a left.header left.stale left.owed (put-kept table k k' n.put a.keeping stage due n.next) (λ t e. a.same_tracked t (sym left.way ∙ e)) (inl (left.stage ∙ stage))
    (goes-on r.passes i p new flusher k' n.sends.there a.flushing (inr mine) refl at') in
    subst (λ (f : Option ℕ). KeeperAgrees r'.shape table r'.fresh r'.passes f k') (sym mine) (subst (λ (x : RequestState). KeeperAgrees x.shape table x.fresh x.passes (Some i) k') (sym n.sends.after) done)

pub sync-attended : {r r' : RequestState} {table : TableState} {i : ℕ} {k : KeeperState} {flusher : Option ℕ} {S : Type 0} {g : store.Ghosts S} {s s' : S}
    → KeeperAgrees r.shape table r.fresh r.passes flusher k → k.stage ≡ Syncs → SyncsPuts g i r r' s s' → KeeperAgrees r'.shape table r'.fresh r'.passes flusher k
sync-attended {r} {r'} {table} {i} {k} {flusher} a stage s =
    let p = s.sends.pass in let new = after_meta s.sends.pass s.sends.ticket in
    let mine = is-flusher a i p s.sends.there s.under_way in
    let was = at-stage-of a i p s.sends.there Syncs stage s.under_way in
    let at : IsAtStage Syncs k new = (was.0, was.1, inr (s.sends.ticket, refl, s.kind)) in
    let at' = subst (λ (s : Stage). IsAtStage s k new) (sym stage) at in
    let done = attended k a refl refl refl a.keeping a.same_tracked a.put_in_stage (goes-on r.passes i p new flusher k s.sends.there a.flushing (inr mine) refl at') in
    subst (λ (f : Option ℕ). KeeperAgrees r'.shape table r'.fresh r'.passes f k) (sym mine) (subst (λ (x : RequestState). KeeperAgrees x.shape table x.fresh x.passes (Some i) k) (sym s.sends.after) done)

-- ---- a call is settled

pub done-attended : {r r' : RequestState} {table : TableState} {i : ℕ} {k k' : KeeperState} {flusher : Option ℕ} {S : Type 0} {g : store.Ghosts S} {s s' : S}
    → KeeperAgrees r.shape table r.fresh r.passes flusher k → SettlesMeta g settled.Done i (meta_state k r) (meta_state k' r') s s' → KeeperAgrees r'.shape table r'.fresh r'.passes flusher k'
done-attended {r} {r'} {table} {i} {k} {k'} {flusher} a m =
    let s = m.settles in let p = s.pass in let new = record p { ticket = None } in let next = after_call k.stage k in
    let mine = is-flusher a i p s.there s.phase in
    let left = gone-left k k.stage in
    let at = done-stage k k.stage p s.ticket s.has (at-stage a i p s.there s.phase) in
    let done = attended next a left.header left.stale left.owed (gone-kept k k.stage a.keeping refl) (λ t e. a.same_tracked t (sym left.way ∙ e)) (gone-in-stage k k.stage a.put_in_stage refl)
    (goes-on r.passes i p new flusher next s.there a.flushing (inr mine) s.phase at) in
    subst (λ (x : KeeperState). KeeperAgrees r'.shape table r'.fresh r'.passes flusher x) (sym m.after)
    (subst (λ (f : Option ℕ). KeeperAgrees r'.shape table r'.fresh r'.passes f next) (sym mine) (subst (λ (x : RequestState). KeeperAgrees x.shape table x.fresh x.passes (Some i) next) (sym s.after) done))

pub late-attended : {same : Ticket} {r r' : RequestState} {table : TableState} {i : ℕ} {k k' : KeeperState} {flusher : Option ℕ} {S : Type 0} {g : store.Ghosts S} {s s' : S}
    → KeeperAgrees r.shape table r.fresh r.passes flusher k → SettlesMeta g (settled.NotYet same) i (meta_state k r) (meta_state k' r') s s' → KeeperAgrees r'.shape table r'.fresh r'.passes flusher k'
late-attended {same} {r} {r'} {table} {i} {k} {k'} {flusher} a m =
    let s = m.settles in
    let is : r' ≡ r = s.after ∙ ap (λ (ps : List Pass). record r { passes = ps }) (slice_set_unchanged r.passes i s.pass s.there) in
    subst (λ (x : KeeperState). KeeperAgrees r'.shape table r'.fresh r'.passes flusher x) (sym m.after) (subst (λ (x : RequestState). KeeperAgrees x.shape table x.fresh x.passes flusher k) (sym is) a)

pub failed-attended : {number : ℕ} {r r' : RequestState} {table : TableState} {i : ℕ} {k k' : KeeperState} {flusher : Option ℕ} {S : Type 0} {g : store.Ghosts S} {s s' : S}
    → KeeperAgrees r.shape table r.fresh r.passes flusher k → SettlesMeta g (settled.Failed number) i (meta_state k r) (meta_state k' r') s s' → KeeperAgrees r'.shape table r'.fresh r'.passes None k'
failed-attended {number} {r} {r'} {table} {i} {k} {k'} {flusher} a m =
    let s = m.settles in let p = s.pass in let new = after_fault (fault.Store s.ticket.number) p in
    let mine = is-flusher a i p s.there s.phase in
    let done = attended (after_break k) a refl refl refl (broken-kept k a.keeping) a.same_tracked (inr (inr refl)) (ends r.passes i p new flusher (after_break k) s.there a.flushing mine (not-ready new refl) (inr refl)) in
    subst (λ (x : KeeperState). KeeperAgrees r'.shape table r'.fresh r'.passes None x) (sym m.after) (subst (λ (x : RequestState). KeeperAgrees x.shape table x.fresh x.passes None (after_break k)) (sym s.after) done)

-- ---- the flush is over

next-block : (w : way.Way) (h : Header) → (next_header w h).block ≡ h.block
next-block w h = (next-same w h).block

next-storage_at : (w : way.Way) (h : Header) → storage_start (next_header w h) ≡ storage_start h
next-storage_at ways.Nothing h = refl
next-storage_at ways.Records h = refl
next-storage_at (ways.Recycle t) h = refl

next-storage : (w : way.Way) (h : Header) → (next_header w h).storage ≡ h.storage
next-storage ways.Nothing h = refl
next-storage ways.Records h = refl
next-storage (ways.Recycle t) h = refl

next-tracked : (w : way.Way) (h : Header) → ((t : ℕ) → w ≡ ways.Recycle t → t ≡ h.tracked) → (next_header w h).tracked ≡ h.tracked
next-tracked ways.Nothing h tracked = refl
next-tracked ways.Records h tracked = refl
next-tracked (ways.Recycle t) h tracked = tracked t refl

seals-puts : Seals ≡ Puts → ⊥
seals-puts e = absurd cc

seals-syncs : Seals ≡ Syncs → ⊥
seals-syncs e = absurd cc

seal-keeps : {shape : Shape} {table : TableState} {fresh : List Bool} {passes passes' : List Pass} {flusher : Option ℕ} (k : KeeperState) → KeeperAgrees shape table fresh passes flusher k → k.stage ≡ Seals → IsFollowed passes' None (after_seal k) → KeeperAgrees shape table fresh passes' None (after_seal k)
seal-keeps {shape} {table} {fresh} k a stage follows =
    let possible = is-possible k a.keeping (λ r. seals-onward.rest (sym stage ∙ r)) (λ b. seals-onward.broken (sym stage ∙ b)) in
    let none = still-none-put k Seals a.put_in_stage stage seals-puts seals-syncs in
    let same = next-tracked k.way k.header a.same_tracked in
    record {
      keeping = sealed-kept k a.keeping possible none;
      block = a.block ∙ sym (next-same k.way k.header).block;
      chunk = a.chunk ∙ sym (next-same k.way k.header).chunk;
      blocks = a.blocks ∙ sym (next-blocks k.way k.header);
      storage_at = a.storage_at ∙ sym (next-storage_at k.way k.header);
      tracked = a.tracked ∙ sym same;
      chunks = a.chunks ∙ sym (next-chunks k.way k.header);
      storage = a.storage ∙ sym (next-storage k.way k.header);
      stale_fresh = λ b is. elim (either-cases k.stale k.snapshot b is) [ inl was ↦ a.stale_fresh b was | inr logged ↦ a.owed_fresh b (a.keeping.part b logged) ];
      owed_fresh = λ b is. a.owed_fresh b (without-parts k.owed k.snapshot b is).0;
      same_tracked = λ t is. a.same_tracked t is ∙ sym same;
      put_in_stage = inr (inr (none ∙ ap (λ (n : ℕ). no_marks n) (sym (next-pages k.way k.header))));
      flushing = follows.flushing;
      resting = follows.resting;
      working = follows.working;
    }

pub sealed-flushing : {i : ℕ} {r r' : RequestState} (e : EndsFlush None i r r') → e.pass.phase ≡ Flushing
sealed-flushing e = elim e.cause [ inl under_way ↦ under_way.1 | inr worn ↦ absurd (let is : None ≡ Some (fault.Worn worn.0) = worn.1 in cc) ]

pub seal-attended : {r r' : RequestState} {table : TableState} {i : ℕ} {k k' : KeeperState} {flusher : Option ℕ}
    → KeeperAgrees r.shape table r.fresh r.passes flusher k → k.stage ≡ Seals → SealsFlush i (meta_state k r) (meta_state k' r') → KeeperAgrees r'.shape table r'.fresh r'.passes None k'
seal-attended {r} {r'} {table} {i} {k} {k'} {flusher} a stage s =
    let p = s.ends.pass in let new = after_flush s.ends.pass None in
    let mine = is-flusher a i p s.ends.there (sealed-flushing s.ends) in
    let done = seal-keeps k a stage (ends r.passes i p new flusher (after_seal k) s.ends.there a.flushing mine (not-ready new refl) (inl refl)) in
    subst (λ (x : KeeperState). KeeperAgrees r'.shape table r'.fresh r'.passes None x) (sym s.after) (subst (λ (x : RequestState). KeeperAgrees x.shape table x.fresh x.passes None (after_seal k)) (sym s.ends.after) done)
