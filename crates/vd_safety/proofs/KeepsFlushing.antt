-- The steps of a flush keep a core so that every image is safe.
use Rattle.std.proofs.Common.{◌≡◌, ℕ, ◌+◌, ◌<◌, ◌≤◌, ◌⊎◌, List, [], ◌∷◌, length, refl, sym, ◌∙◌, inl, inr, arith, Option, Some, None, slice_get}
use Rattle.vd_device.specs.declared.store.Store as store
use Rattle.vd_device.specs.declared.base.Base as base
use Rattle.vd_law.specs.declared.entry.Sector.{Sector}
use Rattle.vd_device.specs.declared.ticket.Ticket.{Ticket}
use Rattle.vd_device.specs.declared.ticket.Kind.{Kind}
use Rattle.vd_device.specs.declared.ticket.Kind.TheVariants.{Read, Write, Flush}
use Rattle.vd_device.specs.declared.settled.Settled.{Settled}
use Rattle.vd_device.specs.Calls.{ask_read_entry, ask_flush_entry}
use Rattle.vd_image.specs.Log.{Writes}
use Rattle.vd_keeper.specs.declared.stage.Route.{Route}
use Rattle.vd_keeper.specs.Keeping.{KeeperState}
use Rattle.vd_keeper.specs.Moves.{after_adopt}
use Rattle.vd_passes.specs.declared.pass.Pass.{Pass}
use Rattle.vd_passes.specs.declared.pass.Phase.TheVariants.{Idle}
use Rattle.vd_passes.specs.Requests.{RequestState}
use Rattle.vd_passes.specs.Steps.{SubmitsMeta, meta_entry}
use Rattle.vd_safety.proofs.Begins.{begin-secured, worn-secured}
use Rattle.vd_safety.proofs.Puts.{put-secured}
use Rattle.vd_safety.proofs.Syncs.{sync-secured}
use Rattle.vd_safety.proofs.Settles.{settle_meta-secured}
use Rattle.vd_safety.proofs.Seals.{seal-secured}
use Rattle.vd_safety.proofs.Adopts.{adopt-secured}
use Rattle.vd_safety.proofs.Supplied.{flushing-of, flush-asked}
use Rattle.vd_machine.specs.FlushSteps.{flusher_after, BeginFlushStep, WearStep, PutStep, SyncStep, SettleMetaStep, SealStep, AdoptStep}
use Rattle.vd_machine.specs.Views.{View}
use Rattle.vd_machine.specs.Sound.{IsSound}
use Rattle.vd_machine.specs.Telling.{IsFaithfullyKept}
use Rattle.vd_safety.specs.Safely.{IsSafelyKept}
use Rattle.vd_safety.proofs.KeepsCarrying.{safely-on, safely-here, around}
use Rattle.vd_safety.proofs.KeepsIssuing.{range-inside, none-written, settled-inside}

low : {S B : Type 0} {g : store.Ghosts S} {h : base.Ghosts B} {c : View S B} → IsSound g h c → c.shape.storage_at ≤ g.sectors c.store
low sound = let inside = sound.storage.inside in omega (arith, inside)

-- what a call of a flush writes lies below the storage
meta-inside : (kind : Kind) (t : Ticket) (content : List Sector) (low sectors : ℕ) → (kind ≡ Flush) ⊎ ((kind ≡ Write) × (t.first + length content ≤ low))
    → low ≤ sectors → (j a : ℕ) (v : Sector) → Writes (meta_entry kind t content ∷ []) j a v → a < sectors
meta-inside Read t content low sectors is fits j a v w = absurd (none-written (ask_read_entry t) (λ b u covers. covers) j a v w)
meta-inside Flush t content low sectors is fits j a v w = absurd (none-written (ask_flush_entry t) (λ b u covers. covers) j a v w)
meta-inside Write t content low sectors (inl flush) fits j a v w = absurd cc
meta-inside Write t content low sectors (inr write) fits j a v w = range-inside t content sectors (let within = write.1 in omega (arith, within, fits)) j a v w

-- so does all of a submitted call
submit-inside : {content : List Sector} {i : ℕ} {r r' : RequestState} {S : Type 0} {g : store.Ghosts S} {s s' : S} {sectors : ℕ} → r.shape.storage_at ≤ sectors
    → (step : SubmitsMeta g content i r r' s s') → (j a : ℕ) (v : Sector) → Writes (meta_entry step.ticket.kind step.ticket content ∷ []) j a v → a < sectors
submit-inside {content} {r = r} {sectors = sectors} low step = meta-inside step.ticket.kind step.ticket content r.shape.storage_at sectors
    (elim step.is_meta [
      | inl flush ↦ inl flush
      | inr write ↦ inr
          (write.0, (let within = write.1 in let count = step.count write.0 in omega (arith, within, count)))
    ]) low

module _ {S B : Type 0} {g : store.Ghosts S} {h : base.Ghosts B} {c : View S B} (sound : IsSound g h c)
    (told : g.tells c.store → h.tells c.base → IsFaithfullyKept g h c)
    (was : g.tells c.store → h.tells c.base → IsSafelyKept g h c) {i steps' : ℕ} {passes' : List Pass} where
  -- A flush isn't begun, at the last generation.
  pub worn-safely : {route : Route} → WearStep route i c (record c { passes = passes'; steps = steps' }) → g.tells c.store → h.tells c.base
      → IsSafelyKept g h (record c { passes = passes'; steps = steps' })
  worn-safely step now base_now = safely-here (was now base_now) (λ start held is secured. worn-secured step.wears step.free secured)

  -- It is over.
  pub seal-safely : {keeping' : KeeperState} → SealStep i c (record c { keeping = keeping'; flusher = None; passes = passes'; steps = steps' })
      → g.tells c.store → h.tells c.base → IsSafelyKept g h (record c { keeping = keeping'; flusher = None; passes = passes'; steps = steps' })
  seal-safely step now base_now =
      safely-here (was now base_now) (λ start held is secured. seal-secured
      (flushing-of (around sound (told now base_now) start held is) secured) step.seals step.stage secured)

  -- its calls
  module _ {store' : S} where
    -- A flush is begun.
    pub begin-safely : {route : Route} {keeping' : KeeperState}
        → BeginFlushStep g route i c (record c { store = store'; keeping = keeping'; flusher = Some i; passes = passes'; steps = steps' })
        → g.tells store' → h.tells c.base → IsSafelyKept g h
        (record c { store = store'; keeping = keeping'; flusher = Some i; passes = passes'; steps = steps' })
    begin-safely step now base_now =
        let sends = step.begins.sends in let before = sends.call.takes.keeps.told_before now in
        safely-on (was before base_now) (_, sends.call.takes.told now) (submit-inside (low sound) sends) sends.call.counts.sectors
        (λ start held is secured. begin-secured (flushing-of (around sound (told before base_now) start held is) secured) step.begins step.free step.tracked
        (λ p there asked flush. flush-asked c.history.log.entries i p (sound.coherent.each i p there) asked flush) now secured)

    -- The next record, sector of the map or header is put.
    pub put-safely : {keeping' : KeeperState} → PutStep g i c (record c { store = store'; keeping = keeping'; passes = passes'; steps = steps' })
        → g.tells store' → h.tells c.base → IsSafelyKept g h (record c { store = store'; keeping = keeping'; passes = passes'; steps = steps' })
    put-safely step now base_now =
        let sends = step.puts.sends in let before = sends.call.takes.keeps.told_before now in
        safely-on (was before base_now) (_, sends.call.takes.told now) (submit-inside (low sound) sends) sends.call.counts.sectors
        (λ start held is secured. put-secured (flushing-of (around sound (told before base_now) start held is) secured) step.puts step.stage now secured)

    -- What was put is flushed.
    pub sync-safely : SyncStep g i c (record c { store = store'; passes = passes'; steps = steps' }) → g.tells store' → h.tells c.base
        → IsSafelyKept g h (record c { store = store'; passes = passes'; steps = steps' })
    sync-safely step now base_now =
        let sends = step.syncs.sends in let before = sends.call.takes.keeps.told_before now in
        safely-on (was before base_now) (_, sends.call.takes.told now) (submit-inside (low sound) sends) sends.call.counts.sectors
        (λ start held is secured. sync-secured (flushing-of (around sound (told before base_now) start held is) secured) step.syncs step.stage now secured)

    -- A call of it is settled.
    pub settle_meta-safely : {answer : Settled} {keeping' : KeeperState}
        → SettleMetaStep g answer i c (record c {
          store = store';
          keeping = keeping';
          flusher = flusher_after answer c.flusher;
          passes = passes';
          steps =
              steps';
        })
        → g.tells store' → h.tells c.base → IsSafelyKept g h
        (record c { store = store'; keeping = keeping'; flusher = flusher_after answer c.flusher; passes = passes'; steps = steps' })
    settle_meta-safely {answer} step now base_now =
        let settles = step.settles.settles in let before = settles.call.takes.keeps.told_before now in
        safely-on (was before base_now) (_, settles.call.takes.told now)
        (settled-inside answer settles.ticket _ (g.sectors c.store)) settles.call.counts.sectors
        (λ start held is secured. settle_meta-secured (flushing-of (around sound (told before base_now) start held is) secured) step.settles now secured)

-- where all passes are idle no flush is under way
idle-flusher : {S B : Type 0} {g : store.Ghosts S} {h : base.Ghosts B} {c : View S B} → IsSound g h c
    → ((i : ℕ) (p : Pass) → slice_get c.passes i ≡ Some p → p.phase ≡ Idle) → (f : Option ℕ) → c.flusher ≡ f → c.flusher ≡ None
idle-flusher sound idle None none = none
idle-flusher sound idle (Some i) mine =
    absurd (let attended = sound.metadata.attended in let w = attended.working i mine in let flushing = (attended.flushing i w.0 w.1).1 mine in let e =
    sym (idle i w.0 w.1) ∙ flushing in cc)

-- All local blocks are owed that not every image has.
pub adopt-safely : {S B : Type 0} {g : store.Ghosts S} {h : base.Ghosts B} {c : View S B} → IsSound g h c
    → (g.tells c.store → h.tells c.base → IsSafelyKept g h c) → {steps' : ℕ}
    → AdoptStep c (record c { keeping = after_adopt c.fresh c.keeping; steps = steps' }) → g.tells c.store → h.tells c.base
    → IsSafelyKept g h (record c { keeping = after_adopt c.fresh c.keeping; steps = steps' })
adopt-safely {c = c} sound was step now base_now = safely-here (was now base_now)
    (λ start held is secured. adopt-secured (idle-flusher sound step.idle c.flusher refl) secured)
