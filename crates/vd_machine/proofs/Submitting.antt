-- A pass whose flush has submitted a call.
use Rattle.std.proofs.Common.{◌≡◌, ℕ, List, [], ◌∷◌, sym, ap, subst, ◌∙◌, inr, Some, None, slice_get, slice_set}
use Rattle.vd_law.specs.declared.entry.Sector.{Sector}
use Rattle.vd_device.specs.declared.store.Store as store
use Rattle.vd_device.specs.declared.ticket.Ticket.{Ticket}
use Rattle.vd_device.specs.declared.ticket.Kind.TheVariants.{Write, Flush}
use Rattle.vd_device.specs.Calls.{next_number, ask_flush_entry, issue_entry}
use Rattle.vd_device.specs.Stores.{Submits, SettlesCall}
use Rattle.vd_device.specs.declared.settled.Settled.{Settled}
use Rattle.vd_passes.specs.declared.pass.Pass.{Pass}
use Rattle.vd_passes.specs.declared.pass.Fault.TheVariants as fault
use Rattle.vd_passes.specs.Causes.{OfStore, HasNextTicket, flying_of}
use Rattle.vd_passes.specs.Passes.{after_meta, after_fault}
use Rattle.vd_passes.specs.Steps.{IsAt, meta_entry}
use Rattle.vd_lists.proofs.Changes.{slice_set_here}

pub numbered : (passes : List Pass) (i : ℕ) (q p : Pass) (t : Ticket) (last last' : ℕ) → slice_get passes i ≡ Some q → p ≡ after_meta q t → t.number ≡ next_number last → last' ≡ t.number → IsAt (slice_set passes i p) i (HasNextTicket OfStore last last')
numbered passes i q p t last last' there after number next = (p, slice_set_here passes i p q there, inr (ap (flying_of OfStore) after ∙ ap Some number, next ∙ number))

-- no flush is a write
pub flush-no-write : {A : Type 0} (t : Ticket) → t.kind ≡ Flush → t.kind ≡ Write → A
flush-no-write t flush write = absurd (let e : Flush ≡ Write = sym flush ∙ write in cc)

-- the call by its entry
pub flush-submits : {S : Type 0} (g : store.Ghosts S) (t : Ticket) (s s' : S) → t.kind ≡ Flush → Submits g t (ask_flush_entry t) s s' → Submits g t (meta_entry t.kind t []) s s'
flush-submits g t s s' kind submits = subst (λ k. Submits g t (meta_entry k t []) s s') (sym kind) submits

pub write-submits : {S : Type 0} (g : store.Ghosts S) (t : Ticket) (content content' : Sector) (s s' : S) → t.kind ≡ Write → content ≡ content' → Submits g t (issue_entry t (content ∷ [])) s s'
    → Submits g t (meta_entry t.kind t (content' ∷ [])) s s'
write-submits g t content content' s s' kind same submits =
    subst (λ k. Submits g t (meta_entry k t (content' ∷ [])) s s') (sym kind) (subst (λ (x : Sector). Submits g t (issue_entry t (x ∷ [])) s s') same submits)

-- neither a write nor a flush reads
pub settles-nothing : {S : Type 0} {g : store.Ghosts S} {answer : Settled} {t : Ticket} {out : List Sector} {s s' : S} → out ≡ [] → SettlesCall g answer t [] out s s' → SettlesCall g answer t [] [] s s'
settles-nothing {g = g} {answer} {t} {s = s} {s'} none call = subst (λ (xs : List Sector). SettlesCall g answer t [] xs s s') none call

-- the ticket was put back
pub put-back : (q r s : Pass) (t same : Ticket) → r ≡ record q { ticket = None } → q.ticket ≡ Some t → same ≡ t → s ≡ record r { ticket = Some same } → s ≡ q
put-back q r s t same took has is after =
    after ∙ ap (λ (x : Pass). record x { ticket = Some same }) took ∙ ap (λ (u : Ticket). record q { ticket = Some u }) is ∙ ap (λ o. record q { ticket = o }) (sym has)

-- the store has failed the call
pub call-failed : (q r f : Pass) (number n : ℕ) → r ≡ record q { ticket = None } → n ≡ number → f ≡ after_fault (fault.Store n) r → f ≡ after_fault (fault.Store number) q
call-failed q r f number n took is failed = failed ∙ ap (λ (x : Pass). after_fault (fault.Store n) x) took ∙ ap (λ (m : ℕ). after_fault (fault.Store m) q) is
