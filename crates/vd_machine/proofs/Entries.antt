-- Entries that are added one after the other.
use Rattle.std.proofs.Common.{◌≡◌, ℕ, ◌<◌, List, [], ◌∷◌, ◌++◌, refl, ◌∙◌, ap, arith, append_assoc}
use Rattle.vd_law.specs.declared.entry.CallId.{CallId}
use Rattle.vd_law.specs.declared.entry.Answer.{Answer}
use Rattle.vd_law.specs.Entries.{Asked, Entry, Ask, Reply}
use Rattle.vd_law.specs.Histories.{HistoryState, last_number}
use Rattle.vd_machine.specs.Adding.{CanAdd, AddsEntries}

pub last_number-append : (from : ℕ) (ns more : List ℕ) → last_number from (ns ++ more) ≡ last_number (last_number from ns) more
last_number-append from [] more = refl
last_number-append from (n ∷ ns) more = last_number-append n ns more

-- the last number after a step
pub last-extended : {more : List ℕ} {sectors : ℕ} {history history' : HistoryState} → AddsEntries more sectors history history' → last_number history'.opened history'.numbers ≡ last_number (last_number history.opened history.numbers) more
last-extended {more} {sectors} {history} {history'} extends =
    ap (λ (o : ℕ). last_number o history'.numbers) extends.opened ∙ ap (last_number history.opened) extends.numbers ∙ last_number-append history.opened history.numbers more

-- after an entry another can be added
pub can-add-next : {events sectors : ℕ} {old new : HistoryState} → AddsEntries (events ∷ []) sectors old new → 1 < old.log.left.events → CanAdd 0 new events
can-add-next {events} {sectors} {old} {new} extends left = record {
  event = let used = extends.events_left in omega arith;
  sectors_fit = omega arith;
  short = omega arith;
  later = let last = last-extended extends in omega arith;
}

pub extends-twice : {events sectors : ℕ} {old between new : HistoryState} → AddsEntries (events ∷ []) sectors old between → AddsEntries (events ∷ []) 0 between new → AddsEntries (events ∷ events ∷ []) sectors old new
extends-twice {events} {sectors} {old} {between} {new} first second = record {
  numbers = second.numbers ∙ ap (λ (n : List ℕ). n ++ events ∷ []) first.numbers ∙ append_assoc old.numbers (events ∷ []) (events ∷ []);
  opened = second.opened ∙ first.opened;
  room = second.room ∙ first.room;
  events_left = let a = first.events_left in let b = second.events_left in omega arith;
  sectors_left = let a = first.sectors_left in let b = second.sectors_left in omega arith;
}

pub id-is : (id : CallId) (pass call : ℕ) → id.pass ≡ pass → id.call ≡ call → id ≡ record { pass = pass; call = call }
id-is id pass call by number = ap (λ (n : ℕ). record { pass = n; call = id.call }) by ∙ ap (λ (n : ℕ). record { pass = pass; call = n }) number

-- an Ask and its Reply, added one after the other
pub asked-replied : (id : CallId) (pass call : ℕ) (request : Asked) (answer : Answer) (old between new : List Entry) → id.pass ≡ pass → id.call ≡ call
    → between ≡ old ++ Ask id request ∷ [] → new ≡ between ++ Reply id answer ∷ [] → new ≡ old ++ Ask (record { pass = pass; call = call }) request ∷ Reply (record { pass = pass; call = call }) answer ∷ []
asked-replied id pass call request answer old between new by number asked replied =
    replied ∙ ap (λ (h : List Entry). h ++ Reply id answer ∷ []) asked ∙ append_assoc old (Ask id request ∷ []) (Reply id answer ∷ [])
    ∙ ap (λ (c : CallId). old ++ Ask c request ∷ Reply c answer ∷ []) (id-is id pass call by number)
