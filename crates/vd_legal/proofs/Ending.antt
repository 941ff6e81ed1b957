-- A core whose passes are idle has nothing in flight.
use Rattle.std.proofs.Common.{◌≡◌, ℕ, List, [], ◌∷◌, ◌++◌, suc, refl, ap, ◌∙◌, Option, Some, None, slice_get, subst}
use Rattle.vd_device.specs.declared.store.Store as store
use Rattle.vd_device.specs.declared.base.Base as base
use Rattle.vd_passes.specs.declared.pass.Pass.{Pass}
use Rattle.vd_passes.specs.declared.pass.Phase.TheVariants.{Idle}
use Rattle.vd_passes.specs.Passes.{HasNone, HasInFlight, ticket_of, tickets_of, fetches_of}
use Rattle.vd_passes.specs.Requests.{RequestState}
use Rattle.vd_passes.specs.Coherent.{IsCoherent}
use Rattle.vd_device.specs.declared.ticket.Ticket.{Ticket}

no-tickets : (passes : List Pass) → ((i : ℕ) (p : Pass) → slice_get passes i ≡ Some p → p.ticket ≡ None) → tickets_of passes ≡ []
no-tickets [] none = refl
no-tickets (p ∷ passes) none = ap (λ (o : Option Ticket). ticket_of o ++ tickets_of passes) (none 0 p refl) ∙ no-tickets passes (λ i. none (suc i))

no-fetches : (passes : List Pass) → ((i : ℕ) (p : Pass) → slice_get passes i ≡ Some p → p.fetch ≡ None) → fetches_of passes ≡ []
no-fetches [] none = refl
no-fetches (p ∷ passes) none = ap (λ (o : Option Ticket). ticket_of o ++ fetches_of passes) (none 0 p refl) ∙ no-fetches passes (λ i. none (suc i))

module _ {r : RequestState} {places : ℕ → Option ℕ} {S B : Type 0} {g : store.Ghosts S} {h : base.Ghosts B} {s : S} {b : B}
    (co : IsCoherent g h r places s b) (idle : (i : ℕ) (p : Pass) → slice_get r.passes i ≡ Some p → p.phase ≡ Idle) where
  none : (i : ℕ) (p : Pass) → slice_get r.passes i ≡ Some p → HasNone p
  none i p there = subst (λ ph. HasInFlight ph r.shape r.fresh p) (idle i p there) (co.each i p there).ticket

  pub none-in-flight : g.flight s []
  none-in-flight = subst (g.flight s) (no-tickets r.passes (λ i p there. (none i p there).ticket)) co.flight

  pub none-in-base-flight : h.flight b []
  none-in-base-flight = subst (h.flight b) (no-fetches r.passes (λ i p there. (none i p there).fetch)) co.base_flight
