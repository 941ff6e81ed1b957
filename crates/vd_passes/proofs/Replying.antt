-- What a pass that is ready replies answers its request.
use Rattle.std.proofs.Common.{◌≡◌, ℕ, ◌<◌, ◌⊎◌, ◌==◌, true, false, List, length, refl, sym, ◌∙◌, inl, inr, arith, Option, Some, None}
use Rattle.std.proofs.lemmas.Bool.{eq-eqb, eqb-true, cases_Bool}
use Rattle.vd_law.specs.declared.entry.Sector.{Sector}
use Rattle.vd_law.specs.declared.entry.Answer.TheVariants.{Full}
use Rattle.vd_law.specs.Entries.{Asked, Read, Write, Flush}
use Rattle.vd_law.specs.Calls.{Progress, no_progress}
use Rattle.vd_law.specs.Rules.{IsReply}
use Rattle.vd_passes.specs.declared.pass.Pass.{Pass}
use Rattle.vd_passes.specs.declared.pass.Fault.{Fault}
use Rattle.vd_passes.specs.declared.pass.Fault.TheVariants as fault
use Rattle.vd_passes.specs.Passes.{IsRequestOf, HasOutcome, answer_by}

equal : (a b : ℕ) → a ≡ b → (a == b) ≡ true
equal a b same = eq-eqb a b same

unequal : (a b : ℕ) → a < b → (a == b) ≡ false
unequal a b less = elim (cases_Bool (a == b)) [ inl h ↦ absurd (let e = eqb-true a b h in omega arith) | inr h ↦ h ]

-- a read or a write that failed has not done all
short : (p : Pass) → p.flush ≡ false → (p.flush ≡ true) ⊎ (p.done < p.count) → p.done < p.count
short p serves (inl flush) = absurd (cc)
short p serves (inr less) = less

pub answers : (p : Pass) (r : Asked) (c : Progress) (f : Option Fault) → IsRequestOf p r → c.done ≡ p.done → c.pending ≡ 0 → (p.flush ≡ true → c.started ≡ false) → HasOutcome p c.broken f → IsReply r c (answer_by f p.done)
answers p (Read first count) c None is done none unstarted outcome = record { none_open = none; all_done = sym (equal c.done count (done ∙ outcome.0 ∙ sym is.2)); broken = tt; fits = tt }
answers p (Read first count) c (Some (fault.Store ticket)) is done none unstarted outcome = record { none_open = none; all_done = sym (unequal c.done count (let less = short p is.3 outcome.0 in let e = is.2 in omega arith)); broken = tt; fits = sym done }
answers p (Read first count) c (Some (fault.Base ticket)) is done none unstarted outcome = record { none_open = none; all_done = sym (unequal c.done count (let less = outcome.0 in let e = is.2 in omega arith)); broken = tt; fits = sym done }
answers p (Read first count) c (Some (fault.Worn generation)) is done none unstarted outcome = absurd (let f = is.3 in let g = outcome.0 in cc)
answers p (Write first content) c None is done none unstarted outcome = record { none_open = none; all_done = sym (equal c.done (length content) (done ∙ outcome.0 ∙ sym is.2)); broken = sym outcome.1; fits = tt }
answers p (Write first content) c (Some (fault.Store ticket)) is done none unstarted outcome = record { none_open = none; all_done = sym (unequal c.done (length content) (let less = short p is.3 outcome.0 in let e = is.2 in omega arith)); broken = sym (outcome.1 ∙ is.0); fits = sym done }
answers p (Write first content) c (Some (fault.Base ticket)) is done none unstarted outcome = record { none_open = none; all_done = sym (unequal c.done (length content) (let less = outcome.0 in let e = is.2 in omega arith)); broken = sym outcome.1; fits = sym done }
answers p (Write first content) c (Some (fault.Worn generation)) is done none unstarted outcome = absurd (let f = is.3 in let g = outcome.0 in cc)
answers p Flush c None is done none unstarted outcome = record { none_open = none; all_done = tt; broken = tt; fits = tt }
answers p Flush c (Some (fault.Store ticket)) is done none unstarted outcome = record { none_open = none; all_done = tt; broken = tt; fits = sym done }
answers p Flush c (Some (fault.Base ticket)) is done none unstarted outcome = absurd (let less = outcome.0 in let e = is.2 in omega arith)
answers p Flush c (Some (fault.Worn generation)) is done none unstarted outcome = record { none_open = none; all_done = tt; broken = tt; fits = unstarted outcome.0 }

-- and that its store is too full answers a write that has done nothing
pub answers-full : (first : ℕ) (content : List Sector) (needed free : ℕ) → 0 < length content → IsReply (Write first content) (record no_progress { asked = Some (Write first content) }) (Full needed free)
answers-full first content needed free some = record { none_open = refl; all_done = sym (unequal 0 (length content) some); broken = refl; fits = refl }
