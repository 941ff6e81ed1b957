-- A driver is busy only where another pass has a region.
use Rattle.std.proofs.Common.{◌≡◌, ◌≢◌, ℕ, Bool, true, false, List, refl, ap, sym, ◌∙◌, inl, inr, Option, Some, None, slice_get}
use Rattle.std.specs.Prelude.{is_some, if◌then◌else◌}
use Rattle.std.specs.Option.{option_map}
use Rattle.std.proofs.lemmas.Option.{slice_get-map}
use Rattle.vd_law.specs.declared.entry.Sector.{Sector}
use Rattle.vd_device.specs.declared.store.Store as store
use Rattle.vd_device.specs.declared.base.Base as base
use Rattle.vd_device.specs.declared.settled.Settled.{Settled}
use Rattle.vd_device.specs.declared.settled.Settled.TheVariants as settled
use Rattle.vd_passes.specs.declared.pass.Pass.{Pass}
use Rattle.vd_passes.specs.declared.pass.Phase.{Phase}
use Rattle.vd_passes.specs.declared.pass.Phase.TheVariants.{Idle, Asked, Held, Fetching, Filled, Issuing, Looking, Flushing, Ready}
use Rattle.vd_passes.specs.Passes.{has_region, region_of}
use Rattle.vd_passes.specs.Steps.{IsAt}
use Rattle.vd_passes.proofs.Lists.{some-inj}
use Rattle.vd_machine.specs.Outcomes.{outcome_of}
use Rattle.vd_machine.specs.Views.{View}
use Rattle.vd_core.specs.declared.outcome.Step.{Step}
use Rattle.vd_core.specs.declared.outcome.Step.TheVariants.{Again, Busy, Ended}
use Rattle.vd_core.specs.Outcomes.{step_of}
use Rattle.vd_drive.specs.Drivers.{TriesToEnter, EndsCall, WriterStep, ReaderStep}

is-where : {R : Type 0} (has : Bool) (r : R) → is_some (if has then Some r else None) ≡ has
is-where true r = refl
is-where false r = refl

held-by : {R : Type 0} (held : Pass → Option R) → ((p : Pass) → is_some (held p) ≡ has_region p.phase) → (o : Option Pass) (region : R) → option_map held o ≡ Some (Some region)
    → (q : Pass) × (o ≡ Some q) × (has_region q.phase ≡ true)
held-by held where-it-has None region is = absurd (let e = is in cc)
held-by held where-it-has (Some q) region is = (q, refl, sym (where-it-has q) ∙ ap is_some (some-inj is))

again-busy : {A : Type 0} {result : Step} (by : ℕ) → result ≡ Again → result ≡ Busy by → A
again-busy by again busy = absurd (let e : Again ≡ Busy by = sym again ∙ busy in cc)

settled-busy : {A : Type 0} {result : Step} (answer : Settled) (by : ℕ) → result ≡ step_of (outcome_of answer) → result ≡ Busy by → A
settled-busy settled.Done by is busy = absurd (let e = sym is ∙ busy in cc)
settled-busy (settled.NotYet t) by is busy = absurd (let e = sym is ∙ busy in cc)
settled-busy (settled.Failed number) by is busy = absurd (let e = sym is ∙ busy in cc)

-- it is another pass, and holds a region
abbrev pub KeepsOut : {S B : Type 0} → View S B → (i by : ℕ) → Type 0
KeepsOut c i by = (by ≢ i) × IsAt c.passes by (λ q. has_region q.phase ≡ true)

tried-out : {S B : Type 0} {i : ℕ} {c c' : View S B} {result : Step} (by : ℕ) → result ≡ Busy by → TriesToEnter result i c c' → KeepsOut c i by
tried-out by busy (inl (again, s)) = again-busy by again busy
tried-out {c = c} by busy (inr (at, is, s)) =
    let same : at ≡ by = (let e = sym is ∙ busy in cc) in let hinders = s.kept_out.hindrance.hinders in
    rw (sym same) (hinders.other, held-by region_of (λ p. is-where (has_region p.phase) _) (slice_get c.passes at) hinders.region (sym (slice_get-map region_of c.passes at) ∙ hinders.holds))

ended-out : {S B : Type 0} {g : store.Ghosts S} {A : Type 0} {i : ℕ} {c c' : View S B} {result : Step} (by : ℕ) → result ≡ Busy by → EndsCall g result i c c' → A
ended-out by busy (answer, ended, s) = absurd (let e : Ended answer ≡ Busy by = sym ended ∙ busy in cc)

module _ {S B : Type 0} (g : store.Ghosts S) (h : base.Ghosts B) (i : ℕ) (c c' : View S B) {result : Step} (by : ℕ) (busy : result ≡ Busy by) where
  writer-by : (phase : Phase) (content : List Sector) → WriterStep g h phase content result i c c' → KeepsOut c i by
  writer-by Asked content made = tried-out by busy made
  writer-by Held content (again, made) = again-busy by again busy
  writer-by Fetching content (answer, is, s) = settled-busy answer by is busy
  writer-by Filled content (again, made) = again-busy by again busy
  writer-by Issuing content (answer, is, s) = settled-busy answer by is busy
  writer-by Ready content made = ended-out by busy made
  writer-by Idle content made = absurd made
  writer-by Looking content made = absurd made
  writer-by Flushing content made = absurd made

  reader-by : (phase : Phase) (out out' : List Sector) → ReaderStep g h phase out out' result i c c' → KeepsOut c i by
  reader-by Asked out out' (made, same) = tried-out by busy made
  reader-by Held out out' (again, made) = again-busy by again busy
  reader-by Looking out out' (answer, is, s) = settled-busy answer by is busy
  reader-by Ready out out' (made, same) = ended-out by busy made
  reader-by Idle out out' made = absurd made
  reader-by Fetching out out' made = absurd made
  reader-by Filled out out' made = absurd made
  reader-by Issuing out out' made = absurd made
  reader-by Flushing out out' made = absurd made

  pub writer-out : (content : List Sector) → IsAt c.passes i (λ p. WriterStep g h p.phase content result i c c') → KeepsOut c i by
  writer-out content at = writer-by at.0.phase content at.2

  pub reader-out : (out out' : List Sector) → IsAt c.passes i (λ p. ReaderStep g h p.phase out out' result i c c') → KeepsOut c i by
  reader-out out out' at = reader-by at.0.phase out out' at.2
