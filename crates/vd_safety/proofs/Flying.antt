-- What the passes have in flight, where one of them changes.
use Rattle.std.proofs.Common.{◌≡◌, ℕ, Bool, true, false, List, refl, sym, ◌∙◌, ap, subst, inl, inr, Option, Some, None, slice_get, slice_set}
use Rattle.std.proofs.lemmas.Bool.{cases_eq}
use Rattle.vd_law.specs.declared.entry.CallId.{CallId}
use Rattle.vd_device.specs.declared.ticket.Ticket.{Ticket}
use Rattle.vd_device.specs.Tickets.{ticket_id}
use Rattle.vd_crash.specs.facts.Words.{IsUpdated}
use Rattle.vd_crash.specs.flushes.Stage.{Flight, Idle as NoFlight, Writing, Answering}
use Rattle.vd_passes.specs.declared.pass.Pass.{Pass}
use Rattle.vd_passes.specs.declared.pass.Phase.{Phase}
use Rattle.vd_passes.specs.declared.pass.Phase.TheVariants.{Idle, Asked, Held, Fetching, Filled, Issuing, Looking, Flushing, Ready}
use Rattle.vd_passes.specs.declared.pass.Fault.{Fault}
use Rattle.vd_passes.specs.Passes.{call_id}
use Rattle.vd_safety.specs.Mirrors.{bit_of, IsFlightOf, AreFlightsOf, IsPendingOf}
use Rattle.vd_safety.proofs.Updates.{some-inj, get-set-other, get-set-same, at-set, none-set}

-- the phases in which a pass has no write of a piece in flight and owes no reply
abbrev pub is_bare : Phase → Bool
is_bare Idle = true
is_bare Asked = true
is_bare Held = true
is_bare Fetching = true
is_bare Filled = true
is_bare Issuing = false
is_bare Looking = true
is_bare Flushing = true
is_bare Ready = false

pub bare-flight : (phase : Phase) (fault : Option Fault) (i : ℕ) (p : Pass) (f : Flight) → is_bare phase ≡ true → IsFlightOf phase fault i p f → f ≡ NoFlight
bare-flight Idle fault i p f bare is = is
bare-flight Asked fault i p f bare is = is
bare-flight Held fault i p f bare is = is
bare-flight Fetching fault i p f bare is = is
bare-flight Filled fault i p f bare is = is
bare-flight Issuing fault i p f bare is = absurd (cc)
bare-flight Looking fault i p f bare is = is
bare-flight Flushing fault i p f bare is = is
bare-flight Ready fault i p f bare is = absurd (cc)

pub flight-bare : (phase : Phase) (fault : Option Fault) (i : ℕ) (p : Pass) (f : Flight) → is_bare phase ≡ true → f ≡ NoFlight → IsFlightOf phase fault i p f
flight-bare Idle fault i p f bare is = is
flight-bare Asked fault i p f bare is = is
flight-bare Held fault i p f bare is = is
flight-bare Fetching fault i p f bare is = is
flight-bare Filled fault i p f bare is = is
flight-bare Issuing fault i p f bare is = absurd (cc)
flight-bare Looking fault i p f bare is = is
flight-bare Flushing fault i p f bare is = is
flight-bare Ready fault i p f bare is = absurd (cc)

-- A pass that is ready and serves no flush, or that has failed, has none either.
pub flight-ready : (fault : Option Fault) (i : ℕ) (p : Pass) → p.flush ≡ false → IsFlightOf Ready fault i p NoFlight
flight-ready None i p none = inr (none, refl)
flight-ready (Some why) i p none = refl

pub ready-flight : (fault : Option Fault) (i : ℕ) (p : Pass) (f : Flight) → p.flush ≡ false → IsFlightOf Ready fault i p f → f ≡ NoFlight
ready-flight None i p f none (inl answers) = absurd (let e = answers.0 in cc)
ready-flight None i p f none (inr rests) = rests.1
ready-flight (Some why) i p f none is = is

-- the flight of a pass that issues
abbrev pub IsWritingOf : (i : ℕ) → Pass → Flight → Type 0
IsWritingOf i p f = (t : Ticket) × (j : ℕ) × (n : ℕ) × (p.ticket ≡ Some t) × (f ≡ Writing p.block j n (call_id i p) (ticket_id t))

pub flight-of : (passes : List Pass) (flights : ℕ → Flight) (i : ℕ) (p : Pass) (phase : Phase) → AreFlightsOf passes flights → slice_get passes i ≡ Some p → p.phase ≡ phase → IsFlightOf phase p.fault i p (flights i)
flight-of passes flights i p phase are there is = subst (λ (x : Phase). IsFlightOf x p.fault i p (flights i)) is (are.each i p there)

pub idle-flight : (passes : List Pass) (flights : ℕ → Flight) (i : ℕ) (p : Pass) → AreFlightsOf passes flights → slice_get passes i ≡ Some p → is_bare p.phase ≡ true → flights i ≡ NoFlight
idle-flight passes flights i p are there bare = bare-flight p.phase p.fault i p (flights i) bare (are.each i p there)

-- What only a write in flight has, a pass that issues has.
module _ (Has : Flight → Type 0) (rests : Has NoFlight → ⊥) (answers : (c : CallId) (a n : ℕ) → Has (Answering c a n) → ⊥) where
  none : (f : Flight) → f ≡ NoFlight → Has f → ⊥
  none f is has = rests (subst Has is has)

  writing-in : (phase : Phase) (fault : Option Fault) (i : ℕ) (p : Pass) (f : Flight) → IsFlightOf phase fault i p f → Has f → (phase ≡ Issuing) × IsWritingOf i p f
  writing-in Idle fault i p f is has = absurd (none f is has)
  writing-in Asked fault i p f is has = absurd (none f is has)
  writing-in Held fault i p f is has = absurd (none f is has)
  writing-in Fetching fault i p f is has = absurd (none f is has)
  writing-in Filled fault i p f is has = absurd (none f is has)
  writing-in Issuing fault i p f is has = (refl, is)
  writing-in Looking fault i p f is has = absurd (none f is has)
  writing-in Flushing fault i p f is has = absurd (none f is has)
  writing-in Ready None i p f (inl a) has = absurd (answers (call_id i p) a.1.0 a.1.1 (subst Has a.1.2 has))
  writing-in Ready None i p f (inr r) has = absurd (none f r.1 has)
  writing-in Ready (Some why) i p f is has = absurd (none f is has)

  flying-by : (passes : List Pass) (flights : ℕ → Flight) (l : ℕ) (q : Option Pass) → slice_get passes l ≡ q → AreFlightsOf passes flights → Has (flights l)
      → (p : Pass) × (slice_get passes l ≡ Some p) × (p.phase ≡ Issuing) × IsWritingOf l p (flights l)
  flying-by passes flights l None there are has = absurd (none (flights l) (are.beyond l there) has)
  flying-by passes flights l (Some p) there are has = let w = writing-in p.phase p.fault l p (flights l) (are.each l p there) has in (p, there, w.0, w.1)

  pub flying : (passes : List Pass) (flights : ℕ → Flight) (l : ℕ) → AreFlightsOf passes flights → Has (flights l)
      → (p : Pass) × (slice_get passes l ≡ Some p) × (p.phase ≡ Issuing) × IsWritingOf l p (flights l)
  flying passes flights l are has = flying-by passes flights l (slice_get passes l) refl are has

-- The flights after a pass has changed.
pub flights-set : (passes : List Pass) (i : ℕ) (p p' : Pass) (flights new : ℕ → Flight) (f : Flight) → slice_get passes i ≡ Some p → AreFlightsOf passes flights → IsUpdated flights new i f
    → IsFlightOf p'.phase p'.fault i p' f → AreFlightsOf (slice_set passes i p') new
flights-set passes i p p' flights new f there are put is = record {
  each = λ j q at. elim (at-set passes i j p' p q there at) [
    | inl own ↦ subst (λ (g : Flight). IsFlightOf q.phase q.fault j q g) (sym put.same ∙ ap new (sym own.0)) (rw (own.0, own.1) is)
    | inr other ↦ subst (λ (g : Flight). IsFlightOf q.phase q.fault j q g) (sym (put.other j other.0)) (are.each j q other.1)
  ];
  beyond = λ j at. put.other j (λ e. none-here j e at) ∙ are.beyond j (none-set passes i j p' at);
}
  where
    none-here : (j : ℕ) → j ≡ i → slice_get (slice_set passes i p') j ≡ None → ⊥
    none-here j e at = let g = get-set-same passes i p' p there in let k = ap (slice_get (slice_set passes i p')) e in cc

-- The blocks that are being written whole, after a pass has changed.
module _ (fresh fresh' : List Bool) (passes : List Pass) (i : ℕ) (p p' : Pass) (there : slice_get passes i ≡ Some p) where
  -- by another pass
  pub pending-other : (b : ℕ) (pending : Option ℕ) → (p.phase ≡ Issuing → p.block ≡ b → ⊥) → bit_of fresh' b ≡ bit_of fresh b → IsPendingOf fresh passes b pending → IsPendingOf fresh' (slice_set passes i p') b pending
  pending-other b pending none same (inl is) = inl is
  pending-other b pending none same (inr w) = elim (cases_eq w.0 i) [
    | inl e ↦ absurd (let f : w.1 ≡ p = some-inj (sym w.2 ∙ ap (slice_get passes) e ∙ there) in none (ap (λ (x : Pass). x.phase) (sym f) ∙ w.3) (ap (λ (x : Pass). x.block) (sym f) ∙ w.4))
    | inr ne ↦ inr (w.0, w.1, get-set-other passes i w.0 p' ne ∙ w.2, w.3, w.4, same ∙ w.5)
  ]

  -- by this one
  pub pending-own : (b n : ℕ) → p'.phase ≡ Issuing → p'.block ≡ b → bit_of fresh' b ≡ false → IsPendingOf fresh' (slice_set passes i p') b (Some n)
  pending-own b n issuing block not_fresh = inr (i, p', get-set-same passes i p' p there, issuing, block, not_fresh)

-- none is where no pass issues the block, or it is fresh
pub pending-none : (fresh : List Bool) (passes : List Pass) (b : ℕ) (pending : Option ℕ) → ((i : ℕ) (p : Pass) → slice_get passes i ≡ Some p → p.phase ≡ Issuing → p.block ≡ b → bit_of fresh b ≡ false → ⊥)
    → IsPendingOf fresh passes b pending → pending ≡ None
pending-none fresh passes b pending nobody (inl is) = is
pending-none fresh passes b pending nobody (inr w) = absurd (nobody w.0 w.1 w.2 w.3 w.4 w.5)

-- The blocks that are being written whole, after one has changed.
pub pending-put : (fresh : List Bool) (passes : List Pass) (old new : ℕ → Option ℕ) (b : ℕ) (y : Option ℕ) → IsUpdated old new b y → IsPendingOf fresh passes b y
    → ((c : ℕ) → (c ≡ b → ⊥) → IsPendingOf fresh passes c (old c)) → (c : ℕ) → IsPendingOf fresh passes c (new c)
pending-put fresh passes old new b y put here others c = elim (cases_eq c b) [
  | inl e ↦ subst (λ (d : ℕ). IsPendingOf fresh passes d (new d)) (sym e) (subst (IsPendingOf fresh passes b) (sym put.same) here)
  | inr ne ↦ subst (IsPendingOf fresh passes c) (sym (put.other c ne)) (others c ne)
]
