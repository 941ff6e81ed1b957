-- After each step the regions belong to the passes again, and the state can be read again.
use Rattle.std.proofs.Common.{◌≡◌, ◌≢◌, ℕ, Bool, true, false, List, [], length, map, refl, sym, ◌∙◌, ap, subst, inl, inr, Option, Some, None, slice_get, slice_set}
use Rattle.std.specs.Prelude.{Result, Ok, Err, IfErr, OnOk}
use Rattle.vd_law.specs.declared.entry.Answer.{Answer}
use Rattle.vd_law.specs.Entries.{Asked, Entry}
use Rattle.vd_device.specs.declared.store.Store as store
use Rattle.vd_device.specs.declared.base.Base as base
use Rattle.vd_device.specs.declared.settled.Settled.{Settled}
use Rattle.vd_device.specs.declared.settled.Settled.TheVariants as settled
use Rattle.vd_bits.specs.Blocks.{Blocks}
use Rattle.vd_regions.specs.declared.regions.Region.{Region}
use Rattle.vd_regions.specs.declared.regions.Busy.{Busy}
use Rattle.vd_table.specs.Tables.{TableState}
use Rattle.vd_replay.specs.declared.state.State.{State}
use Rattle.vd_replay.specs.States.{IsSized}
use Rattle.vd_passes.specs.declared.pass.Pass.{Pass}
use Rattle.vd_passes.specs.declared.pass.Phase.TheVariants.{Idle, Asked as HasAsked}
use Rattle.vd_passes.specs.Passes.{has_region, region_of}
use Rattle.vd_passes.specs.Requests.{RequestState, requests}
use Rattle.vd_passes.specs.Steps.{IsAt}
use Rattle.vd_passes.proofs.Lists.{some-inj}
use Rattle.vd_passes.proofs.Holding.{phase-at, region-there, region-none, regions_fetched, regions_ended, asks-regions, asks_full-regions, fetches-regions, fills_zeros-regions}
use Rattle.vd_passes.proofs.Entering.{enters-regions}
use Rattle.vd_machine.specs.Asking.{AskState, AskEnds}
use Rattle.vd_machine.specs.Entering.{EntersBlock, IsKeptOut}
use Rattle.vd_machine.specs.Fetching.{FetchesBlock}
use Rattle.vd_machine.specs.FlushSteps.{HasAskedFlush}
use Rattle.vd_machine.specs.Outcomes.{outcome_of}
use Rattle.vd_machine.specs.Views.{View, one_step_more, view_requests}
use Rattle.vd_machine.specs.Sound.{MetadataAgrees, IsSound}
use Rattle.vd_machine.specs.Steps.{IsStep, By_enter, By_refusal}
use Rattle.vd_machine.specs.WriteSteps.{HasPieces, EnterStep, KeptOutStep}
use Rattle.vd_core.specs.Outcomes.{regions_after_end, regions_after_failure}

-- the step is counted
pub counted : {S B : Type 0} (c : View S B) {n : ℕ} → n ≡ one_step_more c.steps → record c { steps = n } ≡ record c { steps = one_step_more c.steps }
counted c e = ap (λ m. record c { steps = m }) e

ended-same : (answer : Settled) (i : ℕ) (regions : List (Option Region)) → regions_after_end (outcome_of answer) i regions ≡ regions_ended answer i regions
ended-same settled.Done i regions = refl
ended-same (settled.NotYet same) i regions = refl
ended-same (settled.Failed number) i regions = refl

failed-same : (answer : Settled) (i : ℕ) (regions : List (Option Region))
    → regions_after_failure (outcome_of answer) i regions ≡ regions_fetched answer i regions
failed-same settled.Done i regions = refl
failed-same (settled.NotYet same) i regions = refl
failed-same (settled.Failed number) i regions = refl

-- after a settle
module _ (answer : Settled) (i : ℕ) {regions regions' : List (Option Region)} (passes passes' : List Pass) (held : regions ≡ map region_of passes) where
  pub ended-held : regions' ≡ regions_after_end (outcome_of answer) i regions → map region_of passes' ≡ regions_ended answer i (map region_of passes)
      → regions' ≡ map region_of passes'
  ended-held after ended = after ∙ ended-same answer i regions ∙ ap (regions_ended answer i) held ∙ sym ended

  pub fetched-held : regions' ≡ regions_after_failure (outcome_of answer) i regions → map region_of passes' ≡ regions_fetched answer i (map region_of passes)
      → regions' ≡ map region_of passes'
  fetched-held after fetched = after ∙ failed-same answer i regions ∙ ap (regions_fetched answer i) held ∙ sym fetched

-- after a base read is submitted, or zeros were filled in
pub fetch-regions : {B : Type 0} {h : base.Ghosts B} {i : ℕ} {r r' : RequestState} {b b' : B} → IsAt r.passes i (λ p. has_region p.phase ≡ true)
    → FetchesBlock h i r r' b b' → map region_of r'.passes ≡ map region_of r.passes
fetch-regions at step = elim step [
  | inl f ↦ fetches-regions at f.0
  | inr z ↦ fills_zeros-regions at z.0
]

-- after an ask
module _ {result : Option Answer} {request : Asked} {events i : ℕ} {a a' : AskState} (at : IsAt a.passes i (λ p. p.phase ≡ Idle))
    (ends : AskEnds result request events i a a') where
  pub ask-regions : map region_of a'.passes ≡ map region_of a.passes
  ask-regions = elim ends [
    | inl none ↦ ap (λ (ps : List Pass). map region_of ps) none.2.passes_same
    | inr more ↦ elim more [
      | inl full ↦ asks_full-regions (phase-at false Idle a.passes i refl at) (full.3.asks [])
      | inr asked ↦ asks-regions (phase-at false Idle a.passes i refl at) (asked.1.asks [])
    ]
  ]

  pub ask-table : (length a'.table.chunks ≡ length a.table.chunks) × (a'.table.storage ≡ a.table.storage)
  ask-table = elim ends [
    | inl none ↦ (ap (λ (t : TableState). length t.chunks) none.2.table_same, ap (λ (t : TableState). t.storage) none.2.table_same)
    | inr more ↦ elim more [
      | inl full ↦ (ap (λ (t : TableState). length t.chunks) full.3.table_same, ap (λ (t : TableState). t.storage) full.3.table_same)
      | inr asked ↦ (asked.1.claims.chunks, asked.1.claims.storage)
    ]
  ]

-- a request gives chunks storage: the state's table is another, of the same size
pub tabled : (state : State) (table' : TableState) → IsSized state → length table'.chunks ≡ length state.table.chunks → table'.storage ≡ state.table.storage
    → IsSized (record state { table = table' })
tabled state table' sized chunks storage = record {
  valid = sized.valid;
  map = sized.map;
  pages = sized.pages;
  table = chunks ∙ sized.table;
  storage = storage ∙ sized.storage;
  chunk = sized.chunk;
  fresh = sized.fresh;
  more = sized.more;
  slots = sized.slots;
}

-- a write that is done makes its block local
pub marked-sized : (state : State) (fresh' : Blocks) → IsSized state → fresh'.chunk ≡ state.fresh.chunk → length fresh'.bits ≡ length state.fresh.bits
    → IsSized (record state { fresh = fresh' })
marked-sized state fresh' sized chunk many = record {
  valid = sized.valid;
  map = sized.map;
  pages = sized.pages;
  table = sized.table;
  storage = sized.storage;
  chunk = chunk ∙ sized.chunk;
  fresh = many ∙ sized.fresh;
  more = sized.more;
  slots = sized.slots;
}

-- a pass has entered the block of its next piece, or was kept out
module _ {S B : Type 0} {g : store.Ghosts S} {h : base.Ghosts B} {c : View S B} (sound : IsSound g h c) (i : ℕ) (at : IsAt c.passes i HasPieces)
    (regions regions' : List (Option Region)) (passes' : List Pass) (held : regions ≡ map region_of c.passes) {n : ℕ} (counts : n ≡ one_step_more c.steps) where
  in-held : EntersBlock c.table.chunks regions regions' i (view_requests c) (view_requests (record c { passes = passes' })) → regions' ≡ map region_of passes'
  in-held step = step.regions_after ∙ sym (enters-regions sound.coherent (at.0, at.1, at.2.asked) step.enters regions held step.free)

  out-held : {by : ℕ} → IsKeptOut regions regions' i by (view_requests c) (view_requests (record c { passes = passes' })) → regions' ≡ map region_of passes'
  out-held out = out.regions_same ∙ held ∙ sym (ap (λ (r : RequestState). map region_of r.passes) out.same)

  pub enter-held : (result : Result Unit Busy)
      → IfErr result (λ busy. (fresh : List Bool) (entries : List Entry)
      → IsKeptOut regions regions' i busy.by (requests c.shape fresh c.passes entries) (requests c.shape fresh passes' entries))
      → OnOk result ((fresh : List Bool) (entries : List Entry) → EntersBlock c.table.chunks regions regions' i (requests c.shape fresh c.passes entries)
      (requests c.shape fresh passes' entries))
      → regions' ≡ map region_of passes'
  enter-held (Ok v) out enters = in-held (enters c.fresh c.history.log.entries)
  enter-held (Err busy) out enters = out-held (out c.fresh c.history.log.entries)

  pub enter-step : (result : Result Unit Busy)
      → OnOk result ((fresh : List Bool) (entries : List Entry) → EntersBlock c.table.chunks regions regions' i (requests c.shape fresh c.passes entries)
      (requests c.shape fresh passes' entries))
      → OnOk result (EnterStep i c (record c { passes = passes'; steps = n }))
  enter-step (Ok v) enters = let step = enters c.fresh c.history.log.entries in record {
    asked = at;
    enters = subst (λ rs. EntersBlock c.table.chunks rs (map region_of passes') i (view_requests c) (view_requests (record c { passes = passes' }))) held
        (subst (λ rs. EntersBlock c.table.chunks regions rs i (view_requests c) (view_requests (record c { passes = passes' }))) (in-held step) step);
    others = counted (record c { passes = passes' }) counts;
  }
  enter-step (Err busy) enters = enters

  pub kept_out-step : (result : Result Unit Busy)
      → IfErr result (λ busy. (fresh : List Bool) (entries : List Entry)
      → IsKeptOut regions regions' i busy.by (requests c.shape fresh c.passes entries) (requests c.shape fresh passes' entries))
      → IfErr result (λ busy. KeptOutStep busy.by i c (record c { passes = passes'; steps = n }))
  kept_out-step (Ok v) out = out
  kept_out-step (Err busy) out = let step = out c.fresh c.history.log.entries in record {
    asked = at;
    kept_out = subst (λ rs. IsKeptOut rs (map region_of passes') i busy.by (view_requests c) (view_requests (record c { passes = passes' }))) held
        (subst (λ rs. IsKeptOut regions rs i busy.by (view_requests c) (view_requests (record c { passes = passes' }))) (out-held step) step);
    others = counted (record c { passes = passes' }) counts ∙ ap (λ (r : RequestState). record c { passes = r.passes; steps = one_step_more c.steps }) step.same;
  }

pub entered : {S B : Type 0} {g : store.Ghosts S} {h : base.Ghosts B} {i : ℕ} {c c' : View S B} (result : Result Unit Busy)
    → IfErr result (λ busy. KeptOutStep busy.by i c c') → OnOk result (EnterStep i c c') → IsStep g h i c c'
entered (Ok v) out enters = By_enter enters
entered (Err busy) out enters = By_refusal out.others

-- a pass that has asked holds no region
pub holds-nothing : {regions : List (Option Region)} (passes : List Pass) (i : ℕ) → regions ≡ map region_of passes → IsAt passes i HasPieces
    → slice_get regions i ≡ Some None
holds-nothing passes i held at =
    ap (λ (rs : List (Option Region)). slice_get rs i) held ∙ region-there passes i at.0 at.1 ∙ ap Some (region-none at.0 (ap has_region at.2.asked))

-- a pass that has asked its flush isn't the one whose flush is under way
pub other-flusher : {S B : Type 0} {c : View S B} → MetadataAgrees c → (i by : ℕ) → IsAt c.passes i HasAskedFlush → c.flusher ≡ Some by → by ≢ i
other-flusher {c = c} metadata i by at mine same =
    let w = metadata.attended.working by mine in let flushing = (metadata.attended.flushing by w.0 w.1).1 mine in
    let there = subst (λ j. slice_get c.passes j ≡ Some w.0) same w.1 in
    absurd (let e = sym at.2.phase ∙ ap (λ (p : Pass). p.phase) (some-inj (sym at.1 ∙ there)) ∙ flushing in cc)
