-- A pass that takes the region of its next piece's block keeps a core coherent, and true to its devices.
use Rattle.std.proofs.Common.{◌≡◌, ◌≢◌, ℕ, ◌+◌, ◌*◌, ◌<◌, ◌≤◌, ◌⊎◌, Bool, true, false, List, map, refl, sym, ◌∙◌, ap, subst, inl, inr, arith, Option, Some, slice_get, slice_set}
use Rattle.vd_lists.proofs.Numbers.{block_below_end}
use Rattle.vd_law.specs.declared.entry.Sector.{Sector}
use Rattle.vd_law.specs.Entries.{Asked, Read, Write, Flush, Entry}
use Rattle.vd_regions.specs.declared.regions.Region.{Region}
use Rattle.vd_regions.specs.Holding.{Hinders}
use Rattle.vd_passes.specs.declared.shape.Shape.{Shape}
use Rattle.vd_passes.specs.declared.pass.Pass.{Pass}
use Rattle.vd_passes.specs.declared.pass.Phase.TheVariants.{Idle, Asked as HasAsked, Issuing, Ready}
use Rattle.vd_passes.specs.Standings.{Standing, standing}
use Rattle.vd_passes.specs.Passes.{region_of, IsRequestOf, IsPiece, HasNone, HasInFlight, pending_of, IsAsHistorySays, after_enter}
use Rattle.vd_passes.specs.Coherent.{IsCoherent, IsFaithful}
use Rattle.vd_passes.specs.Steps.{IsAt, IsPieceToEnter, Enters}
use Rattle.vd_passes.proofs.Lists.{some-inj, tickets-same, fetches-same}
use Rattle.vd_passes.proofs.Regions.{request-kept}
use Rattle.vd_passes.proofs.NotIssuing.{quiet-coherent, still-faithful}
use Rattle.vd_passes.proofs.Holding.{region_on, apart-entered, regions-taken}
use Rattle.vd_device.specs.declared.store.Store.{Ghosts as StoreGhosts}
use Rattle.vd_device.specs.declared.base.Base.{Ghosts as BaseGhosts}
use Rattle.vd_passes.specs.Requests.{RequestState, requests}
use Rattle.vd_passes.proofs.Growing.{alike-same}

-- a request of some sectors is no flush
pub served : (p : Pass) (r : Asked) → IsRequestOf p r → 0 < p.count → p.flush ≡ false
served p (Read first count) is some = is.3
served p (Write first content) is some = is.3
served p Flush is some = absurd (let none = is.2 in omega arith)

pub next-piece : {shape : Shape} {fresh : List Bool} {places : ℕ → Option ℕ} {t : Standing} {p : Pass} {block piece : ℕ} (at : ℕ) → IsAsHistorySays shape fresh places t p → p.phase ≡ HasAsked → IsPieceToEnter shape p block piece → IsPiece shape (after_enter p block piece at)
next-piece {shape} {fresh} {places} {t} {p} {block} {piece} at stands was next = record {
  some = next.some;
  no_more = next.no_more;
  from = next.from;
  to = next.inside;
  in_disk = let range = stands.range (λ e. absurd (cc)) in block_below_end shape.block block shape.blocks (p.first + p.done) next.from (let r = range.0 in let some = next.some in let no_more = next.no_more in omega arith);
  ends = next.ends;
}

module _ {shape : Shape} {fresh : List Bool} {places : ℕ → Option ℕ} {passes : List Pass} {history : List Entry} {r' : RequestState} {i : ℕ} {S B : Type 0} {g : StoreGhosts S} {h : BaseGhosts B} {store : S} {base : B}
    (co : IsCoherent g h (requests shape fresh passes history) places store base) (was : IsAt passes i (λ p. p.phase ≡ HasAsked))
    (step : Enters places i (requests shape fresh passes history) r')
    (regions : List (Option Region)) (held : regions ≡ map region_of passes)
    (free : (by : ℕ) → Hinders regions i (region_on step.block step.pass.write) by → ⊥) where
  abbrev entering : Pass
  entering = step.pass

  abbrev entered : Pass
  entered = after_enter entering step.block step.piece step.at

  was-asked : entering.phase ≡ HasAsked
  was-asked = ap (λ (x : Pass). x.phase) (some-inj (sym step.there ∙ was.1)) ∙ was.2

  entering-stands : IsAsHistorySays shape fresh places (standing history i) entering
  entering-stands = co.each i entering step.there

  entering-none : HasNone entering
  entering-none = subst (λ ph. HasInFlight ph shape fresh entering) was-asked entering-stands.ticket

  entering-not : entering.phase ≢ Issuing
  entering-not e = let a = was-asked in cc

  entering-busy : entering.phase ≢ Idle
  entering-busy e = let a = was-asked in cc

  entering-unready : entering.phase ≢ Ready
  entering-unready e = let a = was-asked in cc

  -- a flush has no piece
  entering-serves : entering.flush ≡ false
  entering-serves = let b = entering-stands.busy entering-busy in served entering b.0 b.2 (let some = step.is_next.some in let no_more = step.is_next.no_more in omega arith)

  -- the block has its place where it is written or fresh
  entered-at : (entering.write ≡ true) ⊎ (slice_get fresh step.block ≡ Some true) → places step.block ≡ Some step.at
  entered-at (inl write) =
      let next = step.is_next in let some = next.some in let no_more = next.no_more in let from = next.from in let to = next.to in
      let had = entering-stands.placed entering-busy write step.block (omega arith) (omega arith) in had.1 ∙ ap Some (sym (step.place had.0 had.1))
  entered-at (inr is) = let had = co.fresh_placed step.block is in had.1 ∙ ap Some (sym (step.place had.0 had.1))

  stands-entered : IsAsHistorySays shape fresh places (standing history i) entered
  stands-entered = record {
    call = entering-stands.call;
    idle = λ e. absurd (cc);
    busy = λ e. let b = entering-stands.busy entering-busy in (b.0, b.1, request-kept entering entered b.0 refl refl refl refl b.2);
    unanswered = λ e. entering-stands.unanswered entering-busy;
    done = λ e. entering-stands.done entering-busy;
    range = λ e. entering-stands.range entering-busy;
    pending = λ e. entering-stands.pending entering-busy ∙ ap (λ ph. pending_of ph entering.piece) was-asked;
    whole = λ e f. entering-stands.whole entering-busy entering-unready;
    ready = λ e. absurd (cc);
    write = λ e. absurd (cc);
    read = λ e. absurd (cc);
    left = λ e. absurd (cc);
    flush = λ e. absurd (cc);
    no_flush = λ e. entering-serves;
    unstarted = λ e f. absurd (let n = entering-serves in cc);
    placed = λ e. entering-stands.placed entering-busy;
    piece = λ e. next-piece step.at entering-stands was-asked step.is_next;
    at = λ e. entered-at;
    ticket = record { ticket = entering-none.ticket; fetch = entering-none.fetch };
    buffer = entering-stands.buffer;
  }

  pub enters-coherent : IsCoherent g h r' places store base
  enters-coherent = rw step.after
      (quiet-coherent co i entering step.there entering-not entered (λ e. absurd (cc)) store base alike-same stands-entered
      (apart-entered passes i step.block entered (λ by h. free by (subst (λ rs. Hinders rs i (region_on step.block entering.write) by) (sym held) h)) refl)
      (subst (g.flight store) (sym (tickets-same passes i entering entered step.there refl)) co.flight)
      (subst (h.flight base) (sym (fetches-same passes i entering entered step.there refl)) co.base_flight))

  pub enters-faithful : {start : List Sector} {rest : ℕ → Sector} → IsFaithful g start rest (requests shape fresh passes history) places store → IsFaithful g start rest r' places store
  enters-faithful {start} {rest} fa = rw step.after
      (still-faithful co i entering step.there entering-not entered (λ e. absurd (cc)) fa (λ t is. is) (λ e. absurd (cc)))

  -- the pass has the region from now on
  pub enters-regions : map region_of r'.passes ≡ slice_set regions i (Some (region_on step.block step.pass.write))
  enters-regions = rw (step.after, held) (regions-taken passes i entered refl)
