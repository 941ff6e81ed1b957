-- Lists with one member changed, and the tickets of a list of passes.
use Rattle.std.proofs.Common.{◌≡◌, ℕ, zero, suc, ◌≤◌, List, [], ◌∷◌, ◌++◌, length, refl, sym, ◌∙◌, ap, append_assoc, arith, Option, Some, None, slice_get, slice_set}
use Rattle.std.specs.List.{AllByRecursion}
pub use Rattle.vd_lists.proofs.Options.{some_injective as some-inj}
pub use Rattle.vd_lists.proofs.Changes.{slice_set_here as get-set-same, slice_set_other as get-set-other, slice_set_either as at-set}
use Rattle.vd_device.specs.declared.ticket.Ticket.{Ticket}
use Rattle.vd_device.specs.Tickets.{HasAmong}
use Rattle.vd_passes.specs.declared.pass.Pass.{Pass}
use Rattle.vd_passes.specs.Passes.{ticket_of, tickets_of, fetches_of}

pub length-set' : {X : Type 0} (xs : List X) (i : ℕ) (x : X) → length (slice_set xs i x) ≡ length xs
length-set' [] i x = refl
length-set' (z ∷ xs) zero x = refl
length-set' (z ∷ xs) (suc i) x = ap suc (length-set' xs i x)

-- a ticket among those of the passes behind the first
behind : (t : Ticket) (o : Option Ticket) (others all : List Ticket) → HasAmong t others all → HasAmong t (ticket_of o ++ others) (ticket_of o ++ all)
behind t o others all h = record {
  before = ticket_of o ++ h.before;
  after = h.after;
  without = ap (λ ts. ticket_of o ++ ts) h.without ∙ sym (append_assoc (ticket_of o) h.before h.after);
  with_it = ap (λ ts. ticket_of o ++ ts) h.with_it ∙ sym (append_assoc (ticket_of o) h.before (t ∷ h.after));
}

-- a pass got a ticket
pub tickets-put : (ps : List Pass) (i : ℕ) (p p' : Pass) (t : Ticket) → slice_get ps i ≡ Some p → p.ticket ≡ None → p'.ticket ≡ Some t → HasAmong t (tickets_of ps) (tickets_of (slice_set ps i p'))
tickets-put [] i p p' t there none some = cc
tickets-put (q ∷ ps) zero p p' t there none some = record {
  before = [];
  after = tickets_of ps;
  without = ap (λ o. ticket_of o ++ tickets_of ps) (ap (λ (x : Pass). x.ticket) (some-inj there) ∙ none);
  with_it = ap (λ o. ticket_of o ++ tickets_of ps) some;
}
tickets-put (q ∷ ps) (suc i) p p' t there none some = behind t q.ticket _ _ (tickets-put ps i p p' t there none some)

-- a pass gave its ticket back
pub tickets-taken : (ps : List Pass) (i : ℕ) (p p' : Pass) (t : Ticket) → slice_get ps i ≡ Some p → p.ticket ≡ Some t → p'.ticket ≡ None → HasAmong t (tickets_of (slice_set ps i p')) (tickets_of ps)
tickets-taken [] i p p' t there some none = cc
tickets-taken (q ∷ ps) zero p p' t there some none = record {
  before = [];
  after = tickets_of ps;
  without = ap (λ o. ticket_of o ++ tickets_of ps) none;
  with_it = ap (λ o. ticket_of o ++ tickets_of ps) (ap (λ (x : Pass). x.ticket) (some-inj there) ∙ some);
}
tickets-taken (q ∷ ps) (suc i) p p' t there some none = behind t q.ticket _ _ (tickets-taken ps i p p' t there some none)

pub tickets-same : (ps : List Pass) (i : ℕ) (p p' : Pass) → slice_get ps i ≡ Some p → p'.ticket ≡ p.ticket → tickets_of (slice_set ps i p') ≡ tickets_of ps
tickets-same [] i p p' there same = refl
tickets-same (q ∷ ps) zero p p' there same = ap (λ o. ticket_of o ++ tickets_of ps) (same ∙ sym (ap (λ (x : Pass). x.ticket) (some-inj there)))
tickets-same (q ∷ ps) (suc i) p p' there same = ap (λ ts. ticket_of q.ticket ++ ts) (tickets-same ps i p p' there same)

all-here : (P : Ticket → Type 0) (o : Option Ticket) (ts : List Ticket) → ((t : Ticket) → o ≡ Some t → P t) → AllByRecursion P ts → AllByRecursion P (ticket_of o ++ ts)
all-here P None ts here rest = rest
all-here P (Some t) ts here rest = (here t refl, rest)

-- what holds of the ticket of each pass holds of their tickets
pub all-tickets : (P : Ticket → Type 0) (ps : List Pass) → ((i : ℕ) (p : Pass) (t : Ticket) → slice_get ps i ≡ Some p → p.ticket ≡ Some t → P t) → AllByRecursion P (tickets_of ps)
all-tickets P [] each = tt
all-tickets P (q ∷ ps) each = all-here P q.ticket (tickets_of ps) (λ t e. each 0 q t refl e) (all-tickets P ps (λ i. each (suc i)))

few-here : (o : Option Ticket) (ts : List Ticket) → length (ticket_of o ++ ts) ≤ suc (length ts)
few-here None ts = omega arith
few-here (Some t) ts = omega arith

-- each pass has one ticket at most
pub few-tickets : (ps : List Pass) → length (tickets_of ps) ≤ length ps
few-tickets [] = omega arith
few-tickets (q ∷ ps) = omega (arith, few-here q.ticket (tickets_of ps), few-tickets ps)

-- The same of the base: a pass got a ticket
pub fetches-put : (ps : List Pass) (i : ℕ) (p p' : Pass) (t : Ticket) → slice_get ps i ≡ Some p → p.fetch ≡ None → p'.fetch ≡ Some t → HasAmong t (fetches_of ps) (fetches_of (slice_set ps i p'))
fetches-put [] i p p' t there none some = cc
fetches-put (q ∷ ps) zero p p' t there none some = record {
  before = [];
  after = fetches_of ps;
  without = ap (λ o. ticket_of o ++ fetches_of ps) (ap (λ (x : Pass). x.fetch) (some-inj there) ∙ none);
  with_it = ap (λ o. ticket_of o ++ fetches_of ps) some;
}
fetches-put (q ∷ ps) (suc i) p p' t there none some = behind t q.fetch _ _ (fetches-put ps i p p' t there none some)

-- a pass gave its ticket back
pub fetches-taken : (ps : List Pass) (i : ℕ) (p p' : Pass) (t : Ticket) → slice_get ps i ≡ Some p → p.fetch ≡ Some t → p'.fetch ≡ None → HasAmong t (fetches_of (slice_set ps i p')) (fetches_of ps)
fetches-taken [] i p p' t there some none = cc
fetches-taken (q ∷ ps) zero p p' t there some none = record {
  before = [];
  after = fetches_of ps;
  without = ap (λ o. ticket_of o ++ fetches_of ps) none;
  with_it = ap (λ o. ticket_of o ++ fetches_of ps) (ap (λ (x : Pass). x.fetch) (some-inj there) ∙ some);
}
fetches-taken (q ∷ ps) (suc i) p p' t there some none = behind t q.fetch _ _ (fetches-taken ps i p p' t there some none)

pub fetches-same : (ps : List Pass) (i : ℕ) (p p' : Pass) → slice_get ps i ≡ Some p → p'.fetch ≡ p.fetch → fetches_of (slice_set ps i p') ≡ fetches_of ps
fetches-same [] i p p' there same = refl
fetches-same (q ∷ ps) zero p p' there same = ap (λ o. ticket_of o ++ fetches_of ps) (same ∙ sym (ap (λ (x : Pass). x.fetch) (some-inj there)))
fetches-same (q ∷ ps) (suc i) p p' there same = ap (λ ts. ticket_of q.fetch ++ ts) (fetches-same ps i p p' there same)

-- what holds of the base's ticket of each pass holds of these tickets
pub all-fetches : (P : Ticket → Type 0) (ps : List Pass) → ((i : ℕ) (p : Pass) (t : Ticket) → slice_get ps i ≡ Some p → p.fetch ≡ Some t → P t) → AllByRecursion P (fetches_of ps)
all-fetches P [] each = tt
all-fetches P (q ∷ ps) each = all-here P q.fetch (fetches_of ps) (λ t e. each 0 q t refl e) (all-fetches P ps (λ i. each (suc i)))

-- each pass has one of them at most
pub few-fetches : (ps : List Pass) → length (fetches_of ps) ≤ length ps
few-fetches [] = omega arith
few-fetches (q ∷ ps) = omega (arith, few-here q.fetch (fetches_of ps), few-fetches ps)
