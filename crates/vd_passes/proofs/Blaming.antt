-- What the step of one pass makes of a device's tickets and failures, in flight, to be told and told.
use Rattle.std.proofs.Common.{◌≡◌, ℕ, suc, ◌+◌, ◌≤◌, ◌⊎◌, Bool, true, false, List, [], ◌∷◌, ◌++◌, refl, ap, subst, inl, inr, arith, Option, Some, None, slice_get, slice_set}
use Rattle.std.specs.Prelude.{cond, is_some}
use Rattle.std.specs.List.{AllByRecursion, sum_by}
use Rattle.std.proofs.lemmas.Bool.Decides.{eqb_tells}
use Rattle.std.proofs.lemmas.List.{append-nil}
use Rattle.std.proofs.lemmas.List.Sums.{sum_by-cons, sum_by-append}
use Rattle.vd_law.specs.declared.entry.CallId.{CallId}
use Rattle.vd_law.specs.declared.entry.Answer.{Answer}
use Rattle.vd_law.specs.declared.entry.Sector.{Sector}
use Rattle.vd_law.specs.Entries.{Entry, Reply}
use Rattle.vd_device.specs.Calls.{next_number}
use Rattle.vd_passes.specs.declared.pass.Pass.{Pass}
use Rattle.vd_passes.specs.Passes.{IsNew}
use Rattle.vd_passes.specs.Causes.{Device, OfStore, OfBase, named_in, named_by, is_number, times_named, faults_named, one_if, to_name, ticket_number, flying_of, held_count, owed_count, AreCaused, AreTickets, AreCounted, FaultsAddUp, HasNextTicket}
use Rattle.vd_passes.proofs.Needing.{sum-set}
use Rattle.vd_law.specs.Counts.{Rose}

pub times-more : (device : Device) (number : ℕ) (history more : List Entry) → times_named device number (history ++ more) ≡ times_named device number history + times_named device number more
times-more device number history more = sum_by-append (λ e. cond (is_number number (named_in device e)) 1 0) history more

pub faults-more : (device : Device) (history more : List Entry) → faults_named device (history ++ more) ≡ faults_named device history + faults_named device more
faults-more device history more = sum_by-append (λ e. cond (is_some (named_in device e)) 1 0) history more

-- The pass i of a list changes, and further entries are told.
module _ (device : Device) (passes : List Pass) (history : List Entry) (i : ℕ) (p p' : Pass) (there : slice_get passes i ≡ Some p) (more : List Entry) where
  tickets-gained : (number room : ℕ) → times_named device number more + held_count device number p' ≤ held_count device number p + room
      → times_named device number (history ++ more) + sum_by (held_count device number) (slice_set passes i p') ≤ times_named device number history + sum_by (held_count device number) passes + room
  tickets-gained number room most = let a = times-more device number history more in let b = sum-set (held_count device number) passes i p p' there in omega (arith, a, b, most)

  faults-gained : (room : ℕ) → faults_named device more + owed_count device p' ≤ owed_count device p + room
      → faults_named device (history ++ more) + sum_by (owed_count device) (slice_set passes i p') ≤ faults_named device history + sum_by (owed_count device) passes + room
  faults-gained room most = let a = faults-more device history more in let b = sum-set (owed_count device) passes i p p' there in omega (arith, a, b, most)

  -- no ticket is counted that wasn't
  pub tickets-kept : (last last' : ℕ) → AreTickets device passes history last → last ≤ last' → ((number : ℕ) → times_named device number more + held_count device number p' ≤ held_count device number p)
      → AreTickets device (slice_set passes i p') (history ++ more) last'
  tickets-kept last last' tickets later most = record {
    once = λ number small. let a = tickets.once number small in let b = tickets-gained number 0 (let m = most number in omega arith) in omega (arith, a, b);
    none = λ number above small. let a = tickets.none number (omega arith) small in let b = tickets-gained number 0 (let m = most number in omega arith) in omega (arith, a, b);
  }

  -- the next one alone is counted once more
  pub tickets-next : (last last' : ℕ) → AreTickets device passes history last → last' ≡ next_number last
      → ((number : ℕ) → times_named device number more + held_count device number p' ≤ held_count device number p + one_if (is_number number (Some (next_number last))))
      → AreTickets device (slice_set passes i p') (history ++ more) last'
  tickets-next last last' tickets next most = record {
    once = λ number small. let b = tickets-gained number (one_if (is_number number (Some (next_number last)))) (most number) in elim (eqb_tells (next_number last) number) [
      | inl is ↦ let a = tickets.none number (let e = is.1 in omega arith) small in let c = ap one_if is.0 in omega (arith, a, b, c)
      | inr not ↦ let a = tickets.once number small in let c = ap one_if not.0 in omega (arith, a, b, c)
    ];
    none = λ number above small. let b = tickets-gained number (one_if (is_number number (Some (next_number last)))) (most number) in let a = tickets.none number (omega arith) small in elim (eqb_tells (next_number last) number) [
      | inl is ↦ absurd (let e = is.1 in omega arith)
      | inr not ↦ let c = ap one_if not.0 in omega (arith, a, b, c)
    ];
  }

  -- no failure is counted that wasn't
  pub failures-kept : (faults_at_opening faults faults' : ℕ) → AreCounted device passes history faults_at_opening faults → faults ≤ faults' → faults_named device more + owed_count device p' ≤ owed_count device p
      → AreCounted device (slice_set passes i p') (history ++ more) faults_at_opening faults'
  failures-kept faults_at_opening faults faults' counted rise most = record { counted = let a = counted.counted in let b = faults-gained 0 (omega arith) in omega (arith, a, b) }

  -- the device has counted one more
  pub failures-next : (faults_at_opening faults faults' : ℕ) → AreCounted device passes history faults_at_opening faults → Rose faults faults' → faults_named device more + owed_count device p' ≤ owed_count device p + 1
      → AreCounted device (slice_set passes i p') (history ++ more) faults_at_opening faults'
  failures-next faults_at_opening faults faults' counted rose most = record { counted = let a = counted.counted in let b = faults-gained 1 most in omega (arith, a, b, rose) }

-- What of a number is left: it, or nothing.
abbrev pub IsLeft : (old new : Option ℕ) → Type 0
IsLeft old new = (new ≡ old) ⊎ (new ≡ None)

left-number : (number : ℕ) (old new : Option ℕ) → IsLeft old new → one_if (is_number number new) ≤ one_if (is_number number old)
left-number number old new (inl same) = let e = ap (λ o. one_if (is_number number o)) same in omega arith
left-number number old new (inr none) = let e = ap (λ o. one_if (is_number number o)) none in omega arith

left-some : (old new : Option ℕ) → IsLeft old new → one_if (is_some new) ≤ one_if (is_some old)
left-some old new (inl same) = let e = ap (λ o. one_if (is_some o)) same in omega arith
left-some old new (inr none) = let e = ap (λ o. one_if (is_some o)) none in omega arith

most-one : (b : Bool) → one_if b ≤ 1
most-one true = omega arith
most-one false = omega arith

-- entries that name no ticket of the device
abbrev pub IsSilent : Device → List Entry → Type 0
IsSilent device more = AllByRecursion (λ e. named_in device e ≡ None) more

silent-times : (device : Device) (number : ℕ) (more : List Entry) → IsSilent device more → times_named device number more ≡ 0
silent-times device number [] silent = refl
silent-times device number (e ∷ es) silent =
    let a = sum_by-cons (λ x. cond (is_number number (named_in device x)) 1 0) e es in let b = ap {B = ℕ} (λ o. cond (is_number number o) 1 0) silent.0 in let c = silent-times device number es silent.1 in omega (arith, a, b, c)

silent-faults : (device : Device) (more : List Entry) → IsSilent device more → faults_named device more ≡ 0
silent-faults device [] silent = refl
silent-faults device (e ∷ es) silent =
    let a = sum_by-cons (λ x. cond (is_some (named_in device x)) 1 0) e es in let b = ap {B = ℕ} (λ o. cond (is_some o) 1 0) silent.0 in let c = silent-faults device es silent.1 in omega (arith, a, b, c)

-- the ticket that the pass is to name
abbrev pub to_name_of : Device → Pass → Option ℕ
to_name_of device p = to_name device p.phase p.fault

-- The pass i of a list changes, and further entries are told.
module _ {device : Device} {passes : List Pass} {history : List Entry} {last faults_at_opening faults : ℕ} {p : Pass} (blamed : FaultsAddUp device passes history last faults_at_opening faults) (i : ℕ) (there : slice_get passes i ≡ Some p) (p' : Pass) where
  -- nothing is told, and the pass has what it had or less
  pub kept-blamed : (more : List Entry) {last' faults' : ℕ} → IsLeft (flying_of device p) (flying_of device p') → IsLeft (to_name_of device p) (to_name_of device p') → IsSilent device more → last ≤ last' → faults ≤ faults'
      → FaultsAddUp device (slice_set passes i p') (history ++ more) last' faults_at_opening faults'
  kept-blamed more {last'} {faults'} flying naming silent later rise = record {
    tickets = tickets-kept device passes history i p p' there more last last' blamed.tickets later (λ number.
        let a = left-number number (flying_of device p) (flying_of device p') flying in let b = left-number number (to_name_of device p) (to_name_of device p') naming in let c = silent-times device number more silent in omega (arith, a, b, c));
    failures = failures-kept device passes history i p p' there more faults_at_opening faults faults' blamed.failures rise (let b = left-some (to_name_of device p) (to_name_of device p') naming in let c = silent-faults device more silent in omega (arith, b, c));
  }

  -- the pass has the next ticket in flight, or none
  pub numbered-blamed : (more : List Entry) {last' faults' : ℕ} → HasNextTicket device last last' p' → to_name_of device p' ≡ None → IsSilent device more → faults ≤ faults'
      → FaultsAddUp device (slice_set passes i p') (history ++ more) last' faults_at_opening faults'
  numbered-blamed more {last'} {faults'} (inl none) naming silent rise = kept-blamed more (inr none.0) (inr naming) silent (let e = none.1 in omega arith) rise
  numbered-blamed more {last'} {faults'} (inr next) naming silent rise = record {
    tickets = tickets-next device passes history i p p' there more last last' blamed.tickets next.1 (λ number.
        let a = ap (λ o. one_if (is_number number o)) next.0 in let b = ap (λ o. one_if (is_number number o)) naming in let c = silent-times device number more silent in omega (arith, a, b, c));
    failures = failures-kept device passes history i p p' there more faults_at_opening faults faults' blamed.failures rise (let b = ap (λ o. one_if (is_some o)) naming in let c = silent-faults device more silent in omega (arith, b, c));
  }

  -- the ticket that it had in flight is to be named, and the device has counted it
  pub failed-blamed : (more : List Entry) {faults' : ℕ} → to_name_of device p' ≡ flying_of device p → flying_of device p' ≡ None → IsSilent device more → Rose faults faults'
      → FaultsAddUp device (slice_set passes i p') (history ++ more) last faults_at_opening faults'
  failed-blamed more {faults'} naming none silent rose = record {
    tickets = tickets-kept device passes history i p p' there more last last blamed.tickets (omega arith) (λ number.
        let a = ap (λ o. one_if (is_number number o)) naming in let b = ap (λ o. one_if (is_number number o)) none in let c = silent-times device number more silent in omega (arith, a, b, c));
    failures = failures-next device passes history i p p' there more faults_at_opening faults faults' blamed.failures rose (let a = most-one (is_some (to_name_of device p')) in let c = silent-faults device more silent in omega (arith, a, c));
  }

  -- it has named the ticket that it was to name
  pub told-blamed : (id : CallId) (answer : Answer) → named_by device answer ≡ to_name_of device p → flying_of device p' ≡ flying_of device p → to_name_of device p' ≡ None
      → FaultsAddUp device (slice_set passes i p') (history ++ Reply id answer ∷ []) last faults_at_opening faults
  told-blamed id answer names flying naming = record {
    tickets = tickets-kept device passes history i p p' there (Reply id answer ∷ []) last last blamed.tickets (omega arith) (λ number.
        let a = ap (λ o. one_if (is_number number o)) flying in let b = ap (λ o. one_if (is_number number o)) naming in let c = ap (λ o. one_if (is_number number o)) names in omega (arith, a, b, c));
    failures = failures-kept device passes history i p p' there (Reply id answer ∷ []) faults_at_opening faults faults blamed.failures (omega arith) (
        let b = ap (λ o. one_if (is_some o)) naming in let c = ap (λ o. one_if (is_some o)) names in omega (arith, b, c));
  }

  -- The same where no entry is told.
  module _ {last' faults' : ℕ} where
    untold : FaultsAddUp device (slice_set passes i p') (history ++ []) last' faults_at_opening faults' → FaultsAddUp device (slice_set passes i p') history last' faults_at_opening faults'
    untold after = subst (λ h. FaultsAddUp device (slice_set passes i p') h last' faults_at_opening faults') (append-nil history) after

    pub kept-untold : IsLeft (flying_of device p) (flying_of device p') → IsLeft (to_name_of device p) (to_name_of device p') → last ≤ last' → faults ≤ faults' → FaultsAddUp device (slice_set passes i p') history last' faults_at_opening faults'
    kept-untold flying naming later rise = untold (kept-blamed [] flying naming tt later rise)

    pub numbered-untold : HasNextTicket device last last' p' → to_name_of device p' ≡ None → faults ≤ faults' → FaultsAddUp device (slice_set passes i p') history last' faults_at_opening faults'
    numbered-untold number naming rise = untold (numbered-blamed [] number naming tt rise)

  pub failed-untold : {faults' : ℕ} → to_name_of device p' ≡ flying_of device p → flying_of device p' ≡ None → Rose faults faults' → FaultsAddUp device (slice_set passes i p') history last faults_at_opening faults'
  failed-untold naming none rose = untold (failed-blamed [] naming none tt rose)

-- nothing is told, and the device has counted no fewer
pub later-blamed : {device : Device} {passes : List Pass} {history : List Entry} {last last' faults_at_opening faults faults' : ℕ} → FaultsAddUp device passes history last faults_at_opening faults → last ≤ last' → faults ≤ faults' → FaultsAddUp device passes history last' faults_at_opening faults'
later-blamed {device} {passes} {history} {last} {last'} {faults_at_opening} {faults} {faults'} blamed later rise = record {
  tickets = record { once = blamed.tickets.once; none = λ number above. blamed.tickets.none number (omega arith) };
  failures = record { counted = let a = blamed.failures.counted in omega arith };
}

-- what is told has its cause
pub blamed-caused : {device : Device} {passes : List Pass} {history : List Entry} {last faults_at_opening faults : ℕ} → FaultsAddUp device passes history last faults_at_opening faults → AreCaused device history faults_at_opening faults
blamed-caused {device} {passes} {history} {last} {faults_at_opening} {faults} blamed = record {
  once = λ number small. let a = blamed.tickets.once number small in omega arith;
  counted = let a = blamed.failures.counted in omega arith;
}

sum-none : (f : Pass → ℕ) (passes : List Pass) → ((i : ℕ) (p : Pass) → slice_get passes i ≡ Some p → f p ≡ 0) → sum_by f passes ≡ 0
sum-none f [] none = refl
sum-none f (p ∷ ps) none = let a = sum_by-cons f p ps in let b = none 0 p refl in let c = sum-none f ps (λ i. none (suc i)) in omega arith

-- what a pass has in flight on a device
pub flying-same : (device : Device) (p p' : Pass) → p'.ticket ≡ p.ticket → p'.fetch ≡ p.fetch → flying_of device p' ≡ flying_of device p
flying-same OfStore p p' ticket fetch = ap ticket_number ticket
flying-same OfBase p p' ticket fetch = ap ticket_number fetch

pub flying-none : (device : Device) (p : Pass) → p.ticket ≡ None → p.fetch ≡ None → flying_of device p ≡ None
flying-none OfStore p ticket fetch = ap ticket_number ticket
flying-none OfBase p ticket fetch = ap ticket_number fetch

-- new passes have nothing in flight or to name
pub new-blamed : {device : Device} {passes : List Pass} {last faults : ℕ} (buffer : List Sector) → ((i : ℕ) (p : Pass) → slice_get passes i ≡ Some p → IsNew buffer p) → FaultsAddUp device passes [] last faults faults
new-blamed {device} {passes} {last} {faults} buffer new =
    let holds-none = λ (number : ℕ). sum-none (held_count device number) passes (λ i p there. let n = new i p there in
    let a = ap (λ o. one_if (is_number number o)) (flying-none device p n.ticket n.fetch) in let b = ap (λ ph. one_if (is_number number (to_name device ph p.fault))) n.phase in omega (arith, a, b)) in
    let owes-none = sum-none (owed_count device) passes (λ i p there. ap (λ ph. one_if (is_some (to_name device ph p.fault))) (new i p there).phase) in
    record {
      tickets = record { once = λ number small. let a = holds-none number in omega arith; none = λ number above small. let a = holds-none number in omega arith };
      failures = record { counted = omega (arith, owes-none) };
    }
