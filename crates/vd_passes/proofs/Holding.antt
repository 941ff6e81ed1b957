-- The regions that the passes hold, after each step of a pass.
use Rattle.std.proofs.Common.{◌≡◌, ◌≢◌, ℕ, zero, suc, ◌+◌, ◌⊎◌, Bool, true, false, List, [], ◌∷◌, map, refl, sym, ◌∙◌, ap, inl, inr, arith, Option, Some, None, slice_get, slice_set}
use Rattle.std.specs.Prelude.{if◌then◌else◌, nat_lt}
use Rattle.std.specs.Option.{option_map}
use Rattle.std.proofs.lemmas.Option.{slice_get-map}
use Rattle.vd_regions.specs.declared.regions.Region.{Region}
use Rattle.vd_regions.specs.declared.regions.Mode.TheVariants.{Shared, Own}
use Rattle.vd_regions.specs.Holding.{Hinders}
use Rattle.vd_passes.specs.Requests.{RequestState}
use Rattle.vd_passes.specs.declared.pass.Pass.{Pass}
use Rattle.vd_passes.specs.declared.pass.Phase.{Phase}
use Rattle.vd_passes.specs.declared.pass.Phase.TheVariants.{Asked as HasAsked, Ready}
use Rattle.vd_law.specs.declared.entry.Sector.{Sector}
use Rattle.vd_law.specs.declared.entry.Answer.{Answer}
use Rattle.vd_law.specs.Entries.{Asked, Read, Write, Flush}
use Rattle.vd_device.specs.declared.store.Store as store
use Rattle.vd_device.specs.declared.base.Base as base
use Rattle.vd_device.specs.declared.ticket.Ticket.{Ticket}
use Rattle.vd_device.specs.declared.settled.Settled.{Settled}
use Rattle.vd_device.specs.declared.settled.Settled.TheVariants as settled
use Rattle.vd_passes.specs.declared.pass.Fault.{Fault}
use Rattle.vd_passes.specs.Passes.{has_region, region_of, after_ask, after_piece, after_spending}
use Rattle.vd_passes.specs.Coherent.{ArePassesApart}
use Rattle.vd_passes.specs.Steps.{IsAt, Asks, AsksFull, Fetches, FillsZeros, FetchSettled, after_base_read, Issues, after_write, WriteSettled, Looks, LooksAtBase, Sees, EndsRead, LookSettled, BaseLookSettled, Replies}
use Rattle.vd_passes.proofs.Lists.{some-inj}

-- the region that a pass wants, or holds
abbrev pub region_on : (block : ℕ) (write : Bool) → Region
region_on block write = record { first = block; last = block; mode = if write then Own else Shared }

map-set : {X Y : Type 0} (f : X → Y) (xs : List X) (i : ℕ) (x : X) → map f (slice_set xs i x) ≡ slice_set (map f xs) i (f x)
map-set f [] i x = refl
map-set f (y ∷ xs) zero x = refl
map-set f (y ∷ xs) (suc i) x = ap (λ ys. f y ∷ ys) (map-set f xs i x)

set-same : {X : Type 0} (xs : List X) (i : ℕ) (x : X) → slice_get xs i ≡ Some x → slice_set xs i x ≡ xs
set-same [] i x there = refl
set-same (y ∷ xs) zero x there = let e : y ≡ x = cc in ap (λ z. z ∷ xs) (sym e)
set-same (y ∷ xs) (suc i) x there = ap (λ ys. y ∷ ys) (set-same xs i x there)

pub region-held : (p : Pass) → has_region p.phase ≡ true → region_of p ≡ Some (region_on p.block p.write)
region-held p has = ap (λ (b : Bool). if b then Some (region_on p.block p.write) else None) has

pub region-none : (p : Pass) → has_region p.phase ≡ false → region_of p ≡ None
region-none p has = ap (λ (b : Bool). if b then Some (region_on p.block p.write) else None) has

pub region-there : (passes : List Pass) (i : ℕ) (p : Pass) → slice_get passes i ≡ Some p → slice_get (map region_of passes) i ≡ Some (region_of p)
region-there passes i p there = slice_get-map region_of passes i ∙ ap (option_map region_of) there

-- What the passes hold where one of them changes.
module _ (passes : List Pass) (i : ℕ) (p' : Pass) where
  pub regions-set : map region_of (slice_set passes i p') ≡ slice_set (map region_of passes) i (region_of p')
  regions-set = map-set region_of passes i p'

  -- it holds what it held
  pub regions-kept : (p : Pass) → slice_get passes i ≡ Some p → region_of p' ≡ region_of p → map region_of (slice_set passes i p') ≡ map region_of passes
  regions-kept p there same = regions-set ∙ ap (slice_set (map region_of passes) i) same ∙ set-same (map region_of passes) i (region_of p) (region-there passes i p there)

  -- it took the region of its block
  pub regions-taken : has_region p'.phase ≡ true → map region_of (slice_set passes i p') ≡ slice_set (map region_of passes) i (Some (region_on p'.block p'.write))
  regions-taken has = regions-set ∙ ap (slice_set (map region_of passes) i) (region-held p' has)

  -- it let it go
  pub regions-freed : has_region p'.phase ≡ false → map region_of (slice_set passes i p') ≡ slice_set (map region_of passes) i None
  regions-freed has = regions-set ∙ ap (slice_set (map region_of passes) i) (region-none p' has)

-- Where no other pass keeps a pass from a block, it may hold the block's region beside them.
both-read : (a b : Bool) → (a ≡ true → ⊥) → (b ≡ true → ⊥) → (a ≡ false) × (b ≡ false)
both-read true b h k = absurd (h refl)
both-read false true h k = absurd (k refl)
both-read false false h k = (refl, refl)

own-mode : (write : Bool) → write ≡ true → (if write then Own else Shared) ≡ Own
own-mode write is = ap (λ (b : Bool). if b then Own else Shared) is

pub apart-entered : (passes : List Pass) (i block : ℕ) (p : Pass) → ((by : ℕ) → Hinders (map region_of passes) i (region_on block p.write) by → ⊥) → p.block ≡ block
    → (k : ℕ) (r : Pass) → slice_get passes k ≡ Some r → i ≢ k → ArePassesApart p r
apart-entered passes i block p free own k r there ne has_p has_r same = both-read p.write r.write
    (λ w. free k (hinders (inr (own-mode p.write w)))) (λ w. free k (hinders (inl (own-mode r.write w))))
  where
    hinders : ((region_on r.block r.write).mode ≡ Own) ⊎ ((region_on block p.write).mode ≡ Own) → Hinders (map region_of passes) i (region_on block p.write) k
    hinders mode = record {
      other = λ e. ne (sym e);
      region = region_on r.block r.write;
      holds = region-there passes k r there ∙ ap Some (region-held r has_r);
      clash = record { reaches = omega arith; reached = omega arith; own = mode };
    }

-- The regions after each step.

-- the pass is in a phase in which it holds a region, or none
pub phase-at : (holds : Bool) (phase : Phase) (passes : List Pass) (i : ℕ) → has_region phase ≡ holds → IsAt passes i (λ p. p.phase ≡ phase) → IsAt passes i (λ p. has_region p.phase ≡ holds)
phase-at holds phase passes i has at = (at.0, at.1, ap has_region at.2 ∙ has)

this-holds : (holds : Bool) (passes : List Pass) (i : ℕ) (p : Pass) → slice_get passes i ≡ Some p → IsAt passes i (λ p. has_region p.phase ≡ holds) → has_region p.phase ≡ holds
this-holds holds passes i p there at = ap (λ (x : Pass). has_region x.phase) (some-inj (sym there ∙ at.1)) ∙ at.2

-- a step after which the pass holds what it held,
keeps : (passes : List Pass) (i : ℕ) (p p' : Pass) → slice_get passes i ≡ Some p → IsAt passes i (λ p. has_region p.phase ≡ true) → has_region p'.phase ≡ true → p'.block ≡ p.block → p'.write ≡ p.write → map region_of (slice_set passes i p') ≡ map region_of passes
keeps passes i p p' there at has block write = regions-kept passes i p' p there
    (region-held p' has ∙ ap (λ (b : ℕ). Some (region_on b p'.write)) block ∙ ap (λ (w : Bool). Some (region_on p.block w)) write ∙ sym (region-held p (this-holds true passes i p there at)))

-- and one before and after which it holds none
holds-none : (passes : List Pass) (i : ℕ) (p p' : Pass) → slice_get passes i ≡ Some p → IsAt passes i (λ p. has_region p.phase ≡ false) → has_region p'.phase ≡ false → map region_of (slice_set passes i p') ≡ map region_of passes
holds-none passes i p p' there at none = regions-kept passes i p' p there (region-none p' none ∙ sym (region-none p (this-holds false passes i p there at)))

piece-frees : (p : Pass) → has_region (after_piece p).phase ≡ false
piece-frees p = elim (nat_lt (p.done + p.piece) p.count) as (λ b. has_region (if b then HasAsked else Ready) ≡ false) [ true ↦ refl | false ↦ refl ]

asked-holds : (p : Pass) (r : Asked) (events sectors : ℕ) → has_region (after_ask p r events sectors).phase ≡ false
asked-holds p (Read first count) events sectors = refl
asked-holds p (Write first content) events sectors = refl
asked-holds p Flush events sectors = refl

pub asks-regions : {request : Asked} {events sectors i : ℕ} {r r' : RequestState} → IsAt r.passes i (λ p. has_region p.phase ≡ false) → Asks request events sectors i r r' → map region_of r'.passes ≡ map region_of r.passes
asks-regions {request} {events} {sectors} {i} {r} {r'} at step =
    rw step.after (holds-none r.passes i step.pass _ step.there at (asked-holds step.pass request events sectors))

pub asks_full-regions : {request : Asked} {needed free i : ℕ} {r r' : RequestState} → IsAt r.passes i (λ p. has_region p.phase ≡ false) → AsksFull request needed free i r r' → map region_of r'.passes ≡ map region_of r.passes
asks_full-regions {request} {needed} {free} {i} {r} {r'} at step =
    rw step.after (holds-none r.passes i step.pass _ step.there at (this-holds false r.passes i step.pass step.there at))

pub replies-regions : {answer : Answer} {i : ℕ} {r r' : RequestState} → IsAt r.passes i (λ p. has_region p.phase ≡ false) → Replies answer i r r' → map region_of r'.passes ≡ map region_of r.passes
replies-regions {answer} {i} {r} {r'} at step = rw step.after (holds-none r.passes i step.pass _ step.there at refl)

pub fills_zeros-regions : {i : ℕ} {r r' : RequestState} → IsAt r.passes i (λ p. has_region p.phase ≡ true) → FillsZeros i r r' → map region_of r'.passes ≡ map region_of r.passes
fills_zeros-regions {i} {r} {r'} at step = rw step.after (keeps r.passes i step.pass _ step.there at refl refl refl)

pub sees-regions : {content : List Sector} {i : ℕ} {r r' : RequestState} {out out' : List Sector} → Sees content i r r' out out' → map region_of r'.passes ≡ slice_set (map region_of r.passes) i None
sees-regions {content} {i} {r} {r'} {out} {out'} step = rw step.after (regions-freed r.passes i (after_spending 1 step.pass.piece (after_piece step.pass)) (piece-frees step.pass))

module _ {S : Type 0} {g : store.Ghosts S} {i : ℕ} {r r' : RequestState} {s s' : S} where
  pub issues-regions : {content : List Sector} → IsAt r.passes i (λ p. has_region p.phase ≡ true) → Issues g content i r r' s s' → map region_of r'.passes ≡ map region_of r.passes
  issues-regions {content} at step = rw step.after (keeps r.passes i step.pass _ step.there at refl refl refl)

  pub looks-regions : IsAt r.passes i (λ p. has_region p.phase ≡ true) → Looks g i r r' s s' → map region_of r'.passes ≡ map region_of r.passes
  looks-regions at step = rw step.after (keeps r.passes i step.pass _ step.there at refl refl refl)

module _ {B : Type 0} {h : base.Ghosts B} {i : ℕ} {r r' : RequestState} {b b' : B} where
  pub fetches-regions : IsAt r.passes i (λ p. has_region p.phase ≡ true) → Fetches h i r r' b b' → map region_of r'.passes ≡ map region_of r.passes
  fetches-regions at step = rw step.after (keeps r.passes i step.pass _ step.there at refl refl refl)

  pub looks_at_base-regions : IsAt r.passes i (λ p. has_region p.phase ≡ true) → LooksAtBase h i r r' b b' → map region_of r'.passes ≡ map region_of r.passes
  looks_at_base-regions at step = rw step.after (keeps r.passes i step.pass _ step.there at refl refl refl)

-- The regions after a settle: of a base read for a block, and of the write or the read of a piece.
abbrev pub regions_fetched : Settled → ℕ → List (Option Region) → List (Option Region)
regions_fetched settled.Done i regions = regions
regions_fetched (settled.NotYet same) i regions = regions
regions_fetched (settled.Failed number) i regions = slice_set regions i None

abbrev pub regions_ended : Settled → ℕ → List (Option Region) → List (Option Region)
regions_ended settled.Done i regions = slice_set regions i None
regions_ended (settled.NotYet same) i regions = regions
regions_ended (settled.Failed number) i regions = slice_set regions i None

fetched-regions : (answer : Settled) (block i : ℕ) (passes : List Pass) (p : Pass) (ticket : Ticket) (content : List Sector) → slice_get passes i ≡ Some p → IsAt passes i (λ p. has_region p.phase ≡ true)
    → map region_of (slice_set passes i (after_base_read answer p ticket block content)) ≡ regions_fetched answer i (map region_of passes)
fetched-regions settled.Done block i passes p ticket content there at = keeps passes i p _ there at refl refl refl
fetched-regions (settled.NotYet same) block i passes p ticket content there at = keeps passes i p p there at (this-holds true passes i p there at) refl refl
fetched-regions (settled.Failed number) block i passes p ticket content there at = regions-freed passes i _ refl

written-regions : (answer : Settled) (pass : Pass) (ticket : Ticket) (i : ℕ) (r r' : RequestState) → r' ≡ after_write answer pass ticket i r → map region_of r'.passes ≡ regions_ended answer i (map region_of r.passes)
written-regions settled.Done pass ticket i r r' after = rw after (regions-freed r.passes i (after_spending 1 0 (after_piece pass)) (piece-frees pass))
written-regions (settled.NotYet same) pass ticket i r r' after = rw after refl
written-regions (settled.Failed number) pass ticket i r r' after = rw after (regions-freed r.passes i _ refl)

read-regions : (answer : Settled) (why : Fault) (content : List Sector) (i : ℕ) (r r' : RequestState) (out out' : List Sector) → EndsRead answer content why i r r' out out' → map region_of r'.passes ≡ regions_ended answer i (map region_of r.passes)
read-regions settled.Done why content i r r' out out' ends = sees-regions ends
read-regions (settled.NotYet same) why content i r r' out out' ends = rw ends.0 refl
read-regions (settled.Failed number) why content i r r' out out' ends = rw ends.0.after (regions-freed r.passes i _ refl)

module _ {answer : Settled} {i : ℕ} {r r' : RequestState} where
  module _ {S : Type 0} {g : store.Ghosts S} {s s' : S} where
    pub write_settled-regions : WriteSettled g answer i r r' s s' → map region_of r'.passes ≡ regions_ended answer i (map region_of r.passes)
    write_settled-regions step = written-regions answer step.pass step.ticket i r r' step.after

    pub look_settled-regions : {out out' : List Sector} → LookSettled g answer i r r' s s' out out' → map region_of r'.passes ≡ regions_ended answer i (map region_of r.passes)
    look_settled-regions {out} {out'} step = read-regions answer _ step.content i r r' out out' step.effect

  module _ {B : Type 0} {h : base.Ghosts B} {b b' : B} where
    pub fetch_settled-regions : IsAt r.passes i (λ p. has_region p.phase ≡ true) → FetchSettled h answer i r r' b b' → map region_of r'.passes ≡ regions_fetched answer i (map region_of r.passes)
    fetch_settled-regions at step = rw step.after (fetched-regions answer r.shape.block i r.passes step.pass step.ticket step.content step.there at)

    pub base_look_settled-regions : {out out' : List Sector} → BaseLookSettled h answer i r r' b b' out out' → map region_of r'.passes ≡ regions_ended answer i (map region_of r.passes)
    base_look_settled-regions {out} {out'} step = read-regions answer _ _ i r r' out out' step.effect
