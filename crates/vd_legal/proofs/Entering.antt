-- Entering a block keeps a core.
use Rattle.std.proofs.Common.{◌≡◌, ℕ, ◌+◌, ◌*◌, ◌<◌, ◌≤◌, Bool, false, List, [], ◌∷◌, zero, suc, map, refl, sym, ◌∙◌, ap, subst, inl, inr, arith, Option, Some, None, slice_get}
use Rattle.std.specs.Prelude.{if◌then◌else◌, Result, Ok, Err, IfErr, OnOk}
use Rattle.std.proofs.Math.Nat.{mul-le-mul_left}
use Rattle.std.proofs.lemmas.Bool.{cases_lt}
use Rattle.vd_device.specs.declared.store.Store as store
use Rattle.vd_device.specs.declared.base.Base as base
use Rattle.vd_law.specs.Entries.{Entry}
use Rattle.vd_regions.specs.declared.regions.Region.{Region}
use Rattle.vd_regions.specs.declared.regions.Busy.{Busy}
use Rattle.vd_passes.specs.declared.shape.Shape.{Shape}
use Rattle.vd_passes.specs.declared.pass.Pass.{Pass}
use Rattle.vd_passes.specs.declared.pass.Phase.TheVariants.{Asked as HasAsked}
use Rattle.vd_passes.specs.Passes.{has_region, region_of}
use Rattle.vd_passes.specs.Requests.{RequestState, requests}
use Rattle.vd_passes.specs.Steps.{IsAt}
use Rattle.vd_passes.proofs.Lists.{some-inj}
use Rattle.vd_passes.proofs.Needing.{is_before_event, room-entered}
use Rattle.vd_passes.proofs.Holding.{region_on}
use Rattle.vd_passes.proofs.Entering.{enters-coherent, enters-faithful, enters-regions}
use Rattle.vd_machine.specs.Entering.{CanEnter, EntersBlock, IsKeptOut}
use Rattle.vd_legal.proofs.Rooming.{room-same}
use Rattle.vd_machine.specs.Views.{View, view_requests, view_places}
use Rattle.vd_machine.specs.Sound.{RoomIsReserved, IsSound}
use Rattle.vd_machine.specs.Telling.{IsFaithfullyKept}
use Rattle.vd_legal.proofs.Framing.{framed, in-place, told-by}
use Rattle.vd_machine.specs.WriteSteps.{EnterStep}
use Rattle.vd_passes.specs.Coherent.{IsCoherent}

below-blocks : (block b blocks s : ℕ) → block * b ≤ s → s < block * blocks → b < blocks
below-blocks block b blocks s from to = elim (cases_lt b blocks) [
  | inl less ↦ less
  | inr more ↦ absurd (let h : block * blocks ≤ block * b = mul-le-mul_left block more in omega arith)
]

-- a pass with no region holds nothing
map-there : (passes : List Pass) (i : ℕ) (p : Pass) → slice_get passes i ≡ Some p → slice_get (map region_of passes) i ≡ Some (region_of p)
map-there [] i p there = cc
map-there (q ∷ qs) zero p there = ap (λ (x : Pass). Some (region_of x)) (some-inj there)
map-there (q ∷ qs) (suc i) p there = map-there qs i p there

none-held : (p : Pass) → p.phase ≡ HasAsked → region_of p ≡ None
none-held p is = ap (λ ph. if has_region ph then Some (region_on p.block p.write) else None) is

module _ {S B : Type 0} {g : store.Ghosts S} {h : base.Ghosts B} {c : View S B}
    (kept : IsSound g h c) (i : ℕ) (at : IsAt c.passes i (λ p. (p.phase ≡ HasAsked) × (p.flush ≡ false))) where
  pub can-enter : IsAt c.passes i (CanEnter c.shape c.table.chunks)
  can-enter =
      let p = at.0 in let co = kept.coherent in let stands = co.each i p at.1 in let is = at.2.0 in
      let range = stands.range (λ e. absurd (cc)) in let left = stands.left is at.2.1 in (
        p,
        at.1,
        record {
          some = co.shaped.some;
          small = co.shaped.small;
          chunk = co.shaped.some_blocks;
          left = left;
          fits = let r = range.0 in let s = co.shaped.size in omega (arith, r, s);
          few = kept.storage.few;
          inside = λ b from. kept.storage.chunks b
              (below-blocks c.shape.block b c.shape.blocks (p.first + p.done) from (let r = range.0 in omega (arith, r, left)));
          places = λ b x placed. let h = (co.placed.inside b x placed).1 in let n = co.shaped.bounded in omega (arith, h, n);
        },
      )

  pub holds-nothing : (regions : List (Option Region)) → regions ≡ map region_of c.passes → slice_get regions i ≡ Some None
  holds-nothing regions held = ap (λ (rs : List (Option Region)). slice_get rs i) held ∙ map-there c.passes i at.0 at.1 ∙ ap Some (none-held at.0 at.2.0)

  -- the regions stay those of the passes
  pub entered-held : {regions regions' : List (Option Region)} {r' : RequestState} → regions ≡ map region_of c.passes
      → EntersBlock c.table.chunks regions regions' i (view_requests c) r' → regions' ≡ map region_of r'.passes
  entered-held {regions} held step = step.regions_after ∙ sym (enters-regions kept.coherent (at.0, at.1, at.2.0) step.enters regions held step.free)

module _ {S B : Type 0} {g : store.Ghosts S} {h : base.Ghosts B} {c c' : View S B} (kept : IsSound g h c) {i : ℕ} (step : EnterStep i c c') where
  asked-at : IsAt c.passes i (λ p. p.phase ≡ HasAsked)
  asked-at = (step.asked.0, step.asked.1, step.asked.2.asked)

  pub enter-coherent : IsCoherent g h (view_requests c') (view_places c') c'.store c'.base
  enter-coherent = in-place (framed c step.others) (ap (λ v. v.store) step.others) (ap (λ v. v.base) step.others)
      (enters-coherent kept.coherent asked-at step.enters.enters (map region_of c.passes) refl step.enters.free)

  pub enter-room : RoomIsReserved g c'
  enter-room =
      let e = step.enters.enters in let p = e.pass in let is = ap (λ (x : Pass). x.phase) (some-inj (sym e.there ∙ step.asked.1)) ∙ step.asked.2.asked in
      room-same kept.roomy (ap (λ v. v.shape) step.others) (ap (λ v. v.spare) step.others) i e.there (ap (λ (r : RequestState). r.passes) e.after)
      (ap (λ v. v.history) step.others) (room-entered (kept.roomy.reserved i p e.there) (ap is_before_event is) e.block e.piece e.at) refl refl refl
      (let e = ap (λ v. g.events v.store) step.others in omega (arith, e))

  pub enter-told : IsFaithfullyKept g h c → g.tells c'.store → h.tells c'.base → IsFaithfullyKept g h c'
  enter-told was told base_told = told-by (framed c step.others) (ap (λ v. h.sectors v.base) step.others) (ap (λ v. v.store) step.others) was
      (λ start faithful. enters-faithful kept.coherent asked-at step.enters.enters (map region_of c.passes) refl step.enters.free faithful)

-- the regions are those of the passes, before and after
pub enters-mapped : (chunks : List (Option ℕ)) {regions regions' : List (Option Region)} (i : ℕ) (r r' : RequestState) (result : Result Unit Busy)
    → regions ≡ map region_of r.passes → regions' ≡ map region_of r'.passes
    → OnOk result (EntersBlock chunks regions regions' i r r') → OnOk result (EntersBlock chunks (map region_of r.passes) (map region_of r'.passes) i r r')
enters-mapped chunks {regions} {regions'} i r r' result held held' enters =
    subst (λ rs. OnOk result (EntersBlock chunks rs (map region_of r'.passes) i r r')) held
    (subst (λ rs. OnOk result (EntersBlock chunks regions rs i r r')) held' enters)

pub out-mapped : {regions regions' : List (Option Region)} (i : ℕ) (r r' : RequestState) (result : Result Unit Busy) → regions ≡ map region_of r.passes
    → regions' ≡ map region_of r'.passes
    → IfErr result (λ busy. IsKeptOut regions regions' i busy.by r r')
    → IfErr result (λ busy. IsKeptOut (map region_of r.passes) (map region_of r'.passes) i busy.by r r')
out-mapped {regions} {regions'} i r r' result held held' out =
    subst (λ rs. IfErr result (λ busy. IsKeptOut rs (map region_of r'.passes) i busy.by r r')) held
    (subst (λ rs. IfErr result (λ busy. IsKeptOut regions rs i busy.by r r')) held' out)

-- What is known whatever else the passes work on, at these blocks and entries.
module _ (shape : Shape) (regions regions' : List (Option Region)) (i : ℕ) (passes passes' : List Pass) (fresh : List Bool) (entries : List Entry) where
  pub busy-at : (result : Result Unit Busy)
      → IfErr result (λ busy. (fresh : List Bool) (entries : List Entry)
      → IsKeptOut regions regions' i busy.by (requests shape fresh passes entries) (requests shape fresh passes' entries))
      → IfErr result (λ busy. IsKeptOut regions regions' i busy.by (requests shape fresh passes entries) (requests shape fresh passes' entries))
  busy-at (Ok v) out = out
  busy-at (Err busy) out = out fresh entries

  pub entered-at : (chunks : List (Option ℕ)) (result : Result Unit Busy)
      → OnOk result ((fresh : List Bool) (entries : List Entry)
      → EntersBlock chunks regions regions' i (requests shape fresh passes entries) (requests shape fresh passes' entries))
      → OnOk result (EntersBlock chunks regions regions' i (requests shape fresh passes entries) (requests shape fresh passes' entries))
  entered-at chunks (Ok v) enters = enters fresh entries
  entered-at chunks (Err busy) enters = enters
