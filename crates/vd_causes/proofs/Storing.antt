-- Each step keeps it that the chunks with storage are those that had some and those for which writes have taken it.
use Rattle.std.proofs.Common.{◌≡◌, ◌⊎◌, ℕ, suc, ◌+◌, ◌<◌, ◌≤◌, Bool, true, false, not, ◌&&◌, ◌||◌, List, [], ◌∷◌, ◌++◌, length, refl, sym, ◌∙◌, ap, subst, inl, inr, arith, Option, Some, None, slice_get}
use Rattle.std.specs.Prelude.{◌↔◌, nat_lt}
use Rattle.std.specs.List.{AllByRecursion}
use Rattle.std.proofs.Math.Bool.{or-false, or-true, and-true}
use Rattle.std.proofs.lemmas.Bool.Decides.{leb_tells}
use Rattle.std.proofs.lemmas.Option.{slice_get_cases}
use Rattle.vd_law.specs.declared.entry.CallId.{CallId}
use Rattle.vd_law.specs.declared.entry.Answer.TheVariants.{Full}
use Rattle.vd_format.specs.declared.map.Entry.{Entry as MapEntry}
use Rattle.vd_law.specs.Entries.{Asked, Entry, Ask, Reply}
use Rattle.vd_law.specs.Rules.{IsRegular}
use Rattle.vd_table.specs.Tables.{TableState}
use Rattle.vd_table.proofs.RunLaws.{run-others}
use Rattle.vd_passes.specs.declared.shape.Shape.{Shape}
use Rattle.vd_passes.specs.declared.pass.Pass.{Pass}
use Rattle.vd_passes.specs.Standings.{standing}
use Rattle.vd_passes.specs.declared.pass.Fault.{Fault}
use Rattle.vd_passes.specs.declared.pass.Fault.TheVariants as fault
use Rattle.vd_passes.specs.Passes.{answer_by, answer_of}
use Rattle.vd_passes.proofs.Answered.{fresh-entries}
use Rattle.vd_machine.specs.Asking.{run_from, run_count, Claims}
use Rattle.vd_causes.specs.Storing.{touches, is_answered_full, gives_storage, is_counted, AreFullsCaused, IsStoredBy}
use Rattle.vd_causes.proofs.StoringCounts.{none-full, full-same, SameFull, all-where-none, is_touched, counted-is, touched-same, touched-more, fulls-one}

-- One more entry that is neither an Ask nor a Reply with Full.
abbrev pub LeavesStorage : Entry → Type 0
LeavesStorage (Ask id request) = ⊥
LeavesStorage (Reply id (Full needed free)) = ⊥
LeavesStorage e = Unit {0}

leaves-full : (e : Entry) → LeavesStorage e → (id : CallId) → is_answered_full (e ∷ []) id ≡ false
leaves-full (Ask c request) leaves id = absurd leaves
leaves-full (Reply c (Full needed free)) leaves id = absurd leaves
leaves-full e leaves id = refl

leaves-count : (shape : Shape) (history : List Entry) (e : Entry) (chunk : ℕ) → LeavesStorage e → is_touched shape history (e ∷ []) chunk ≡ false
leaves-count shape history (Ask c request) chunk leaves = absurd leaves
leaves-count shape history e chunk leaves = refl

pub kept-count : (shape : Shape) (had : List MapEntry) (old more : List Entry) (chunk : ℕ) → AllByRecursion (SameFull old (old ++ more)) old → is_touched shape (old ++ more) more chunk ≡ false
    → is_counted shape had (old ++ more) (old ++ more) chunk ≡ is_counted shape had old old chunk
kept-count shape had old more chunk same none =
    counted-is shape had (old ++ more) (old ++ more) chunk
    ∙ ap (λ (b : Bool). gives_storage (slice_get had chunk) || b) (touched-more shape (old ++ more) old more chunk
    ∙ ap (λ (b : Bool). is_touched shape (old ++ more) old chunk || b) none
    ∙ or-false (is_touched shape (old ++ more) old chunk)
    ∙ touched-same shape old (old ++ more) old chunk same)
    ∙ sym (counted-is shape had old old chunk)

pub same-where : {A : Type 0} {a b : Bool} → b ≡ a → A ↔ (a ≡ false) → A ↔ (b ≡ false)
same-where same h = (λ x. same ∙ h.0 x, λ none. h.1 (sym same ∙ none))

pub entry-stored : {shape : Shape} {had : List MapEntry} {table : TableState} {history history' : List Entry} (e : Entry) → LeavesStorage e → history' ≡ history ++ e ∷ [] → IsStoredBy shape had table history → IsStoredBy shape had table history'
entry-stored {shape} {had} {table} {history} {history'} e leaves more stored =
    let same = all-where-none history (e ∷ []) (leaves-full e leaves) history in
    subst (IsStoredBy shape had table) (sym more) (record {
      counted = λ chunk within. same-where (kept-count shape had history (e ∷ []) chunk same (leaves-count shape (history ++ e ∷ []) e chunk leaves)) (stored.counted chunk within);
      fulls = fulls-one had history e same (λ id needed free is. subst LeavesStorage is leaves) stored.fulls;
    })

pub answer-leaves : (id : CallId) (f : Option Fault) (done : ℕ) → LeavesStorage (Reply id (answer_by f done))
answer-leaves id None done = tt
answer-leaves id (Some (fault.Store ticket)) done = tt
answer-leaves id (Some (fault.Base ticket)) done = tt
answer-leaves id (Some (fault.Worn generation)) done = tt

-- A core in which nothing was asked: the chunks with storage are those whose entries give it.
storage-given : (o : Option MapEntry) (c : Option (Option ℕ)) → ((e : MapEntry) → o ≡ Some e → (c ≡ Some None) ↔ (e.storage ≡ 0)) → (o ≡ None → ⊥) → (c ≡ Some None) ↔ (gives_storage o ≡ false)
storage-given None c given there = absurd (there refl)
storage-given (Some e) c given there = let h = given e refl in elim (leb_tells 1 e.storage) [
  | inl some ↦ (λ none. absurd (let z = h.0 none in let p = some.1 in omega arith), λ none. absurd (let e = sym some.0 ∙ none in cc))
  | inr nought ↦ (λ none. nought.0, λ none. h.1 (let z = nought.1 in omega arith))
]

pub new-stored : (shape : Shape) (had : List MapEntry) (table : TableState) → ((c : ℕ) (e : MapEntry) → slice_get had c ≡ Some e → (slice_get table.chunks c ≡ Some None) ↔ (e.storage ≡ 0)) → length had ≡ length table.chunks → IsStoredBy shape had table []
new-stored shape had table given many = record {
  counted = λ chunk within.
      let same = counted-is shape had [] [] chunk ∙ or-false (gives_storage (slice_get had chunk)) in
      same-where same (storage-given (slice_get had chunk) (slice_get table.chunks chunk) (given chunk) (λ none. let held = (slice_get_cases had chunk).1 in elim held [
        | inl h ↦ (let some = h.2 in cc)
        | inr past_it ↦ (let p = past_it.0 in omega arith)
      ]));
  fulls = λ at id needed free is. absurd (cc);
}

pub stored-fulls : {shape : Shape} {had : List MapEntry} {table : TableState} {history : List Entry} → IsStoredBy shape had table history → AreFullsCaused shape had (length table.chunks) table.storage history
stored-fulls stored = stored.fulls

-- A request is asked: each chunk of its run has storage.

touches-cases : (shape : Shape) (request : Asked) (chunk : ℕ) → ((touches shape request chunk ≡ true) × (run_from shape request ≤ chunk) × (chunk < run_from shape request + run_count shape request))
    ⊎ ((touches shape request chunk ≡ false) × ((chunk < run_from shape request) ⊎ (run_from shape request + run_count shape request ≤ chunk)))
touches-cases shape request chunk =
    let below = nat_lt chunk (run_from shape request + run_count shape request) in
    elim (leb_tells (run_from shape request) chunk) [
      | inl from ↦ elim (leb_tells (suc chunk) (run_from shape request + run_count shape request)) [
        | inl to ↦ inl (ap (λ (b : Bool). b && below) from.0 ∙ to.0, from.1, omega (arith, to.1))
        | inr past_it ↦ inr (ap (λ (b : Bool). b && below) from.0 ∙ past_it.0, inr (omega (arith, past_it.1)))
      ]
      | inr before ↦ inr (ap (λ (b : Bool). b && below) before.0, inl before.1)
    ]

or-or : (a b c : Bool) → (a || (b || c)) ≡ ((a || b) || c)
or-or true b c = refl
or-or false b c = refl

module _ {size : ℕ} {shape : Shape} {had : List MapEntry} {table table' : TableState} {history : List Entry} (id : CallId) (request : Asked) (regular : IsRegular size history) (later : (standing history id.pass).call < id.call)
    (claims : Claims table table' (run_from shape request) (run_count shape request)) (stored : IsStoredBy shape had table history) where
  abbrev asked : List Entry
  asked = history ++ Ask id request ∷ []

  asked-same : AllByRecursion (SameFull history asked) history
  asked-same = all-where-none history (Ask id request ∷ []) (λ c. refl) history

  asked-unanswered : is_answered_full asked id ≡ false
  asked-unanswered = full-same history (Ask id request ∷ []) id refl ∙ none-full id history (fresh-entries regular id later)

  asked-count : (chunk : ℕ) → is_counted shape had asked asked chunk ≡ (is_counted shape had history history chunk || touches shape request chunk)
  asked-count chunk = let given = gives_storage (slice_get had chunk) in let old = is_touched shape history history chunk in
      counted-is shape had asked asked chunk
      ∙ ap (λ (b : Bool). given || b) (touched-more shape asked history (Ask id request ∷ []) chunk
      ∙ ap (λ (b : Bool). b || is_touched shape asked (Ask id request ∷ []) chunk) (touched-same shape history asked history chunk asked-same)
      ∙ ap (λ (b : Bool). old || ((touches shape request chunk && not b) || false)) asked-unanswered
      ∙ ap (λ (b : Bool). old || b) (or-false (touches shape request chunk && true) ∙ and-true (touches shape request chunk)))
      ∙ or-or given old (touches shape request chunk)
      ∙ ap (λ (b : Bool). b || touches shape request chunk) (sym (counted-is shape had history history chunk))

  asked-counted : (chunk : ℕ) → chunk < length table.chunks → (slice_get table'.chunks chunk ≡ Some None) ↔ (is_counted shape had asked asked chunk ≡ false)
  asked-counted chunk within = elim (touches-cases shape request chunk) [
    | inl here ↦ (let has = claims.all chunk here.1 here.2 in
        let yes : is_counted shape had asked asked chunk ≡ true = asked-count chunk ∙ ap (λ (b : Bool). is_counted shape had history history chunk || b) here.0 ∙ or-true (is_counted shape had history history chunk) in
        (λ none. absurd (let e = sym has.1 ∙ none in cc), λ none. absurd (let e = sym yes ∙ none in cc)))
    | inr elsewhere ↦
        (let place = run-others table (run_from shape request) (run_count shape request) table' claims.takes chunk elsewhere.1 in
        let same : is_counted shape had asked asked chunk ≡ is_counted shape had history history chunk = asked-count chunk ∙ ap (λ (b : Bool). is_counted shape had history history chunk || b) elsewhere.0 ∙ or-false (is_counted shape had history history chunk) in
        let before = stored.counted chunk within in
        (λ none. same ∙ before.0 (sym place ∙ none), λ none. place ∙ before.1 (sym same ∙ none)))
  ]

  asked-stored : IsStoredBy shape had table' asked
  asked-stored = record {
    counted = λ chunk within. asked-counted chunk (let long = claims.chunks in omega arith);
    fulls = rw (claims.chunks, claims.storage) (fulls-one had history (Ask id request) asked-same (λ c needed free is. absurd (cc)) stored.fulls);
  }

pub ask-stored : {size : ℕ} {shape : Shape} {had : List MapEntry} {table table' : TableState} {history history' : List Entry} (id : CallId) (request : Asked) → IsRegular size history → (standing history id.pass).call < id.call
    → Claims table table' (run_from shape request) (run_count shape request) → history' ≡ history ++ Ask id request ∷ [] → IsStoredBy shape had table history → IsStoredBy shape had table' history'
ask-stored {size} {shape} {had} {table} {table'} id request regular later claims more stored = subst (IsStoredBy shape had table') (sym more) (asked-stored id request regular later claims stored)
