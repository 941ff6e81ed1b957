-- What each driver tells its caller follows from the step that its pass's phase calls for.
use Rattle.std.proofs.Common.{◌≡◌, ◌⊎◌, ℕ, ◌-◌, ◌++◌, true, false, List, length, replicate, refl, sym, ap, ◌∙◌, inl, inr, arith, Some, slice_get}
use Rattle.vd_law.specs.Counts.{Rose}
use Rattle.vd_law.specs.declared.entry.Room.{Room}
use Rattle.vd_law.specs.declared.entry.Sector.{Sector}
use Rattle.vd_device.specs.declared.store.Store as store
use Rattle.vd_device.specs.declared.base.Base as base
use Rattle.vd_device.specs.declared.settled.Settled.{Settled}
use Rattle.vd_device.specs.declared.settled.Settled.TheVariants as settled
use Rattle.vd_device.specs.Calls.{IsCaused}
use Rattle.vd_format.specs.Background.{zero_sector}
use Rattle.vd_passes.specs.declared.pass.Pass.{Pass}
use Rattle.vd_passes.specs.declared.pass.Phase.{Phase}
use Rattle.vd_passes.specs.declared.pass.Phase.TheVariants.{Idle, Asked, Held, Fetching, Filled, Issuing, Looking, Flushing, Ready}
use Rattle.vd_passes.specs.declared.pass.Fault.{Fault}
use Rattle.vd_passes.specs.declared.pass.Fault.TheVariants as fault
use Rattle.vd_passes.specs.Passes.{has_region, IsPiece}
use Rattle.vd_passes.specs.Requests.{RequestState}
use Rattle.vd_passes.specs.Steps.{Sees, EndsRead}
use Rattle.vd_passes.proofs.Laying.{length-laid}
use Rattle.vd_machine.specs.Attending.{KeeperAgrees}
use Rattle.vd_machine.specs.Phases.{IsInPhase}
use Rattle.vd_machine.specs.Outcomes.{outcome_of}
use Rattle.vd_machine.specs.Views.{View, view_requests}
use Rattle.vd_machine.proofs.Members.{same-member}
use Rattle.vd_core.specs.declared.outcome.Step.{Step}
use Rattle.vd_core.specs.declared.outcome.Step.TheVariants.{Again, Late, Busy, Ended}
use Rattle.vd_core.specs.Outcomes.{step_of}
use Rattle.vd_drive.specs.Drivers.{TriesToEnter, EndsCall, WriterStep, ReaderStep, GoesOnWithFlush, FlusherStep}
use Rattle.vd_drive.specs.Driving.{DrivesFlush, flush_work_of}
use Rattle.vd_drive.specs.Moves.{Drives, core_work}
use Rattle.vd_drive.proofs.Moving.{still-drives, drives-as, enters-drives, fetches-drives, fetch_settled-drives, issues-drives, write_settled-drives, replies-drives, looks-drives, looks_at_base-drives, sees-drives, ends_read-drives}
use Rattle.vd_drive.proofs.FlushSteps as flushes

module _ {S B : Type 0} (g : store.Ghosts S) (h : base.Ghosts B) (i : ℕ) (c c' : View S B) (p : Pass) (there : slice_get c.passes i ≡ Some p) where
  tried-drives : (result : Step) → p.phase ≡ Asked → TriesToEnter result i c c' → Drives result c.shape.block i (core_work c) (core_work c')
  tried-drives result phase (inl (again, s)) = let is = s.others in
      drives-as again refl (ap (λ (v : View S B). v.spare) is) (enters-drives c.spare p there phase s.enters.enters)
  tried-drives result phase (inr (by, busy, s)) = let is = s.others in
      drives-as busy (ap (λ (v : View S B). v.history.log.entries) is) (ap (λ (v : View S B). v.spare) is)
      (still-drives by c.shape.block c.history.log.entries c.spare p there (ap (λ (v : View S B). v.passes) is))

  ended-drives : (result : Step) → p.phase ≡ Ready → EndsCall g result i c c' → Drives result c.shape.block i (core_work c) (core_work c')
  ended-drives result phase (answer, ended, s) =
      let more = ap (λ (r : Room). r.events) s.left.2 in let more_sectors = ap (λ (r : Room). r.sectors) s.left.2 in
      drives-as ended refl refl (replies-drives c.spare c.shape.block p there phase s.replies c'.spare (omega (arith, more)) (omega (arith, more_sectors)))

  pub writer-drives : (phase : Phase) (content : List Sector) (result : Step) → p.phase ≡ phase → p.write ≡ true → IsInPhase c.shape p
      → WriterStep g h phase content result i c c' → Drives result c.shape.block i (core_work c) (core_work c')
  writer-drives Asked content result phase write stands made = tried-drives result phase made
  writer-drives Held content result phase write stands (again, inl s) =
      drives-as again refl (ap (λ (v : View S B). v.spare) s.others) (issues-drives c.spare p there (inl phase) write stands s.issues)
  writer-drives Held content result phase write stands (again, inr s) =
      drives-as again refl (ap (λ (v : View S B). v.spare) s.others) (fetches-drives c.spare p there phase write stands s.fetches)
  writer-drives Fetching content result phase write stands (answer, settled, s) =
      drives-as settled refl (ap (λ (v : View S B). v.spare) s.others) (fetch_settled-drives c.spare answer p there phase stands s.settles)
  writer-drives Filled content result phase write stands (again, s) =
      drives-as again refl (ap (λ (v : View S B). v.spare) s.others) (issues-drives c.spare p there (inr phase) write stands s.issues)
  writer-drives Issuing content result phase write stands (answer, settled, s) =
      drives-as settled refl (ap (λ (v : View S B). v.spare) s.others) (write_settled-drives c.spare answer p there phase stands s.settles)
  writer-drives Ready content result phase write stands made = ended-drives result phase made
  writer-drives Idle content result phase write stands made = absurd made
  writer-drives Looking content result phase write stands made = absurd made
  writer-drives Flushing content result phase write stands made = absurd made

  pub reader-drives : (phase : Phase) (out out' : List Sector) (result : Step) → p.phase ≡ phase → p.write ≡ false → IsInPhase c.shape p
      → ReaderStep g h phase out out' result i c c' → Drives result c.shape.block i (core_work c) (core_work c')
  reader-drives Asked out out' result phase write stands (made, same) = tried-drives result phase made
  reader-drives Held out out' result phase write stands (again, inl (s, same)) =
      drives-as again refl (ap (λ (v : View S B). v.spare) s.others) (looks-drives c.spare p there phase write stands s.looks)
  reader-drives Held out out' result phase write stands (again, inr (inl (s, same))) =
      drives-as again refl (ap (λ (v : View S B). v.spare) s.others) (looks_at_base-drives c.spare p there phase write stands s.looks)
  reader-drives Held out out' result phase write stands (again, inr (inr s)) =
      drives-as again refl (ap (λ (v : View S B). v.spare) s.others) (sees-drives c.spare p there (inl phase) write stands s.sees.sees)
  reader-drives Looking out out' result phase write stands (answer, settled, inl s) = let look = s.settles in
      drives-as settled refl (ap (λ (v : View S B). v.spare) s.others)
      (ends_read-drives (view_requests c) (view_requests c') c.spare look.content out out' answer (fault.Store look.ticket.number) p there phase stands
      look.effect)
  reader-drives Looking out out' result phase write stands (answer, settled, inr s) = let look = s.settles in
      drives-as settled refl (ap (λ (v : View S B). v.spare) s.others)
      (ends_read-drives (view_requests c) (view_requests c') c.spare (look.content ++ replicate (look.pass.piece - look.ticket.count) zero_sector) out out'
      answer (fault.Base look.ticket.number) p there phase stands look.effect)
  reader-drives Ready out out' result phase write stands (made, same) = ended-drives result phase made
  reader-drives Idle out out' result phase write stands made = absurd made
  reader-drives Fetching out out' result phase write stands made = absurd made
  reader-drives Filled out out' result phase write stands made = absurd made
  reader-drives Issuing out out' result phase write stands made = absurd made
  reader-drives Flushing out out' result phase write stands made = absurd made

-- Late comes only where a device's count of late settles rose.
late-rose : (answer : Settled) (f f' l l' : ℕ) → step_of (outcome_of answer) ≡ Late → IsCaused answer f f' l l' → Rose l l'
late-rose settled.Done f f' l l' late cause = absurd (let e = late in cc)
late-rose (settled.NotYet t) f f' l l' late cause = cause.1
late-rose (settled.Failed number) f f' l l' late cause = absurd (let e = late in cc)

again-late : {A : Type 0} {result : Step} → result ≡ Again → result ≡ Late → A
again-late again late = absurd (let e : Again ≡ Late = sym again ∙ late in cc)

busy-late : {A : Type 0} {result : Step} (by : ℕ) → result ≡ Busy by → result ≡ Late → A
busy-late by busy late = absurd (let e : Busy by ≡ Late = sym busy ∙ late in cc)

module _ {S B : Type 0} (g : store.Ghosts S) (h : base.Ghosts B) (i : ℕ) (c c' : View S B) where
  tried-late : {A : Type 0} (result : Step) → TriesToEnter result i c c' → result ≡ Late → A
  tried-late result (inl (again, s)) late = again-late again late
  tried-late result (inr (by, busy, s)) late = busy-late by busy late

  ended-late : {A : Type 0} (result : Step) → EndsCall g result i c c' → result ≡ Late → A
  ended-late result (answer, ended, s) late = absurd (let e : Ended answer ≡ Late = sym ended ∙ late in cc)

  pub writer-late : (phase : Phase) (content : List Sector) (result : Step) → WriterStep g h phase content result i c c' → result ≡ Late
      → Rose (g.late c.store) (g.late c'.store) ⊎ Rose (h.late c.base) (h.late c'.base)
  writer-late Asked content result made late = tried-late result made late
  writer-late Held content result (again, made) late = again-late again late
  writer-late Fetching content result (answer, settled, s) late =
      inr (late-rose answer (h.faults c.base) (h.faults c'.base) (h.late c.base) (h.late c'.base) (sym settled ∙ late) s.settles.call.cause)
  writer-late Filled content result (again, made) late = again-late again late
  writer-late Issuing content result (answer, settled, s) late =
      inl (late-rose answer (g.faults c.store) (g.faults c'.store) (g.late c.store) (g.late c'.store) (sym settled ∙ late) s.settles.call.cause)
  writer-late Ready content result made late = ended-late result made late
  writer-late Idle content result made late = absurd made
  writer-late Looking content result made late = absurd made
  writer-late Flushing content result made late = absurd made

  pub reader-late : (phase : Phase) (out out' : List Sector) (result : Step) → ReaderStep g h phase out out' result i c c' → result ≡ Late
      → Rose (g.late c.store) (g.late c'.store) ⊎ Rose (h.late c.base) (h.late c'.base)
  reader-late Asked out out' result (made, same) late = tried-late result made late
  reader-late Held out out' result (again, made) late = again-late again late
  reader-late Looking out out' result (answer, settled, inl s) late =
      inl (late-rose answer (g.faults c.store) (g.faults c'.store) (g.late c.store) (g.late c'.store) (sym settled ∙ late) s.settles.call.cause)
  reader-late Looking out out' result (answer, settled, inr s) late =
      inr (late-rose answer (h.faults c.base) (h.faults c'.base) (h.late c.base) (h.late c'.base) (sym settled ∙ late) s.settles.call.cause)
  reader-late Ready out out' result (made, same) late = ended-late result made late
  reader-late Idle out out' result made late = absurd made
  reader-late Fetching out out' result made late = absurd made
  reader-late Filled out out' result made late = absurd made
  reader-late Issuing out out' result made late = absurd made
  reader-late Flushing out out' result made late = absurd made

  pub going-late : (result : Step) → GoesOnWithFlush g result i c c' → result ≡ Late → Rose (g.late c.store) (g.late c'.store)
  going-late result (inl (answer, settled, s)) late =
      late-rose answer (g.faults c.store) (g.faults c'.store) (g.late c.store) (g.late c'.store) (sym settled ∙ late) s.settles.settles.call.cause
  going-late result (inr (again, made)) late = again-late again late

  pub flusher-late : (phase : Phase) (result : Step) → FlusherStep g phase result i c c' → result ≡ Late → Rose (g.late c.store) (g.late c'.store)
  flusher-late Asked result (inl (again, made)) late = again-late again late
  flusher-late Asked result (inr (by, busy, s)) late = busy-late by busy late
  flusher-late Flushing result made late = going-late result made late
  flusher-late Ready result made late = ended-late result made late
  flusher-late Idle result made late = absurd made
  flusher-late Held result made late = absurd made
  flusher-late Fetching result made late = absurd made
  flusher-late Filled result made late = absurd made
  flusher-late Issuing result made late = absurd made
  flusher-late Looking result made late = absurd made

-- A read leaves `out` as long as it was: a piece lies in it.
module _ (i : ℕ) (r r' : RequestState) (p : Pass) (out out' : List Sector) (there : slice_get r.passes i ≡ Some p) (count : p.count ≡ length out)
    (piece : IsPiece r.shape p) where
  seen-room : (content : List Sector) → Sees content i r r' out out' → length out' ≡ length out
  seen-room content s =
      let same = same-member r.passes i p s.pass there s.there in let fits = piece.no_more in
      let done = ap (λ (q : Pass). q.done) same in let long : length content ≡ p.piece = s.long ∙ sym (ap (λ (q : Pass). q.piece) same) in
      ap length s.filled ∙ length-laid s.pass.done content out (omega (arith, fits, done, long, count))

  ends-room : (content : List Sector) (why : Fault) (answer : Settled) → EndsRead answer content why i r r' out out' → length out' ≡ length out
  ends-room content why settled.Done e = seen-room content e
  ends-room content why (settled.NotYet t) e = ap length e.1
  ends-room content why (settled.Failed number) e = ap length e.1

module _ {S B : Type 0} (g : store.Ghosts S) (h : base.Ghosts B) (i : ℕ) (c c' : View S B) (p : Pass) (there : slice_get c.passes i ≡ Some p) where
  pub reader-room : (phase : Phase) (out out' : List Sector) (result : Step) → p.phase ≡ phase → p.count ≡ length out → IsInPhase c.shape p
      → ReaderStep g h phase out out' result i c c' → length out' ≡ length out
  reader-room Asked out out' result phase count stands (made, same) = ap length same
  reader-room Held out out' result phase count stands (again, inl (s, same)) = ap length same
  reader-room Held out out' result phase count stands (again, inr (inl (s, same))) = ap length same
  reader-room Held out out' result phase count stands (again, inr (inr s)) = let z = s.sees in
      seen-room i (view_requests c) (view_requests c') p out out' there count (stands.piece (ap has_region phase)) (replicate z.pass.piece zero_sector) z.sees
  reader-room Looking out out' result phase count stands (answer, settled, inl s) = let look = s.settles in
      ends-room i (view_requests c) (view_requests c') p out out' there count (stands.piece (ap has_region phase))
      look.content (fault.Store look.ticket.number) answer look.effect
  reader-room Looking out out' result phase count stands (answer, settled, inr s) = let look = s.settles in
      ends-room i (view_requests c) (view_requests c') p out out' there count (stands.piece (ap has_region phase))
      (look.content ++ replicate (look.pass.piece - look.ticket.count) zero_sector) (fault.Base look.ticket.number) answer look.effect
  reader-room Ready out out' result phase count stands (made, same) = ap length same
  reader-room Idle out out' result phase count stands made = absurd made
  reader-room Fetching out out' result phase count stands made = absurd made
  reader-room Filled out out' result phase count stands made = absurd made
  reader-room Issuing out out' result phase count stands made = absurd made
  reader-room Flushing out out' result phase count stands made = absurd made

-- the flushes
module _ {S B : Type 0} (g : store.Ghosts S) (i : ℕ) (c c' : View S B) (attended : KeeperAgrees c.shape c.table c.fresh c.passes c.flusher c.keeping) where
  pub going-drives : (result : Step) → GoesOnWithFlush g result i c c' → DrivesFlush result i (flush_work_of c) (flush_work_of c')
  going-drives result (inl (answer, settled, s)) = let is = s.others in
      flushes.drives-as settled refl (ap (λ (v : View S B). v.spare) is)
      (flushes.settles-drives c.spare attended answer (ap (λ (v : View S B). v.flusher) is) s.settles)
  going-drives result (inr (again, inl s)) = let is = s.others in
      flushes.drives-as again refl (ap (λ (v : View S B). v.spare) is)
      (flushes.puts-drives c.spare attended s.stage (ap (λ (v : View S B). v.flusher) is) s.puts)
  going-drives result (inr (again, inr (inl s))) = let is = s.others in
      flushes.drives-as again refl (ap (λ (v : View S B). v.spare) is)
      (flushes.syncs-drives c.spare attended s.stage (ap (λ (v : View S B). v.keeping) is) (ap (λ (v : View S B). v.flusher) is) s.syncs)
  going-drives result (inr (again, inr (inr s))) = let is = s.others in
      flushes.drives-as again refl (ap (λ (v : View S B). v.spare) is)
      (flushes.seals-drives c.spare attended s.stage (ap (λ (v : View S B). v.flusher) is) s.seals)

  pub flusher-drives : (p : Pass) → slice_get c.passes i ≡ Some p → (phase : Phase) (result : Step) → p.phase ≡ phase
      → FlusherStep g phase result i c c' → DrivesFlush result i (flush_work_of c) (flush_work_of c')
  flusher-drives p there Asked result phase (inl (again, inl s)) = let is = s.others in
      flushes.drives-as again refl (ap (λ (v : View S B). v.spare) is)
      (flushes.begins-drives c.spare s.free (ap (λ (v : View S B). v.flusher) is) s.begins)
  flusher-drives p there Asked result phase (inl (again, inr s)) = let is = s.others in
      flushes.drives-as again refl (ap (λ (v : View S B). v.spare) is)
      (flushes.worn-drives c.spare s.free (ap (λ (v : View S B). v.flusher) is) (ap (λ (v : View S B). v.keeping) is) s.wears)
  flusher-drives p there Asked result phase (inr (by, busy, s)) = let is = s.others in
      flushes.drives-as busy (ap (λ (v : View S B). v.history.log.entries) is) (ap (λ (v : View S B). v.spare) is)
      (flushes.kept_out-drives c.history.log.entries c.spare by p there phase s.flusher s.other (ap (λ (v : View S B). v.flusher) is)
      (ap (λ (v : View S B). v.keeping) is) (ap (λ (v : View S B). v.passes) is))
  flusher-drives p there Flushing result phase made = going-drives result made
  flusher-drives p there Ready result phase (answer, ended, s) =
      let is = s.others in let more = ap (λ (r : Room). r.events) s.left.2 in let more_sectors = ap (λ (r : Room). r.sectors) s.left.2 in
      flushes.drives-as ended refl refl
      (flushes.replies-drives c.spare c'.spare p attended there phase (ap (λ (v : View S B). v.flusher) is) (ap (λ (v : View S B). v.keeping) is)
      (omega (arith, more)) (omega (arith, more_sectors)) s.replies)
  flusher-drives p there Idle result phase made = absurd made
  flusher-drives p there Held result phase made = absurd made
  flusher-drives p there Fetching result phase made = absurd made
  flusher-drives p there Filled result phase made = absurd made
  flusher-drives p there Issuing result phase made = absurd made
  flusher-drives p there Looking result phase made = absurd made
