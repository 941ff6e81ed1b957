-- The slots of the journal, fact by fact and slot by slot.
use Rattle.std.proofs.Common.{ℕ, zero, suc, ◌≡◌, ◌+◌, ◌-◌, ◌<◌, ◌≤◌, inl, inr, List, [], ◌∷◌, ◌++◌, length, take, Some, refl, ap, sym, ◌∙◌, subst, arith}
use Rattle.std.specs.Prelude.{slice_get, slice_set}
use Rattle.std.proofs.lemmas.Bool.{cases_lt, cases_eq}
use Rattle.std.proofs.lemmas.List.{length-set, append-nil}
use Rattle.vd_law.specs.declared.entry.Sector.{Sector}
use Rattle.vd_format.specs.declared.map.Entry.{Entry}
use Rattle.vd_format.specs.declared.journal.Fact2.{Fact2}
use Rattle.vd_format.specs.declared.map.Shape2.{Shape2}
use Rattle.vd_format.specs.Entries.{IsEntry}
use Rattle.vd_format.specs.Records.{Said, Nothing, Facts, Outside, slot_of}
use Rattle.vd_format.specs.declared.journal.facts.Slot2.TheVariants.{Other, Counts, Bad}
use Rattle.vd_format.specs.SlotReading.{slot_for}
use Rattle.vd_replay.specs.Pages.{AreEntries}
use Rattle.vd_replay.specs.Journal.{facts_said, facts_to, put_facts, AreReplayed, IsFirstOutside}
use Rattle.vd_lists.proofs.Changes.{slice_set_inside, slice_set_other}

-- ---- facts

pub put-append : (es : List Entry) (xs ys : List Fact2) → put_facts es (xs ++ ys) ≡ put_facts (put_facts es xs) ys
put-append es [] ys = refl
put-append es (x ∷ xs) ys = put-append (slice_set es x.chunk x.entry) xs ys

pub length-put : (es : List Entry) (xs : List Fact2) → length (put_facts es xs) ≡ length es
length-put es [] = refl
length-put es (x ∷ xs) = length-put (slice_set es x.chunk x.entry) xs ∙ length-set es x.chunk x.entry

-- one fact more
pub put_next : (es : List Entry) (xs : List Fact2) (i : ℕ) (f : Fact2) → slice_get xs i ≡ Some f → put_facts es (take (i + 1) xs) ≡ slice_set (put_facts es (take i xs)) f.chunk f.entry
put_next es [] i f at = absurd cc
put_next es (x ∷ xs) zero f at = let same : x ≡ f = cc in ap (λ (y : Fact2). slice_set es y.chunk y.entry) same
put_next es (x ∷ xs) (suc i) f at =
    let e : suc i + 1 ≡ suc (i + 1) = omega arith in
    ap (λ (n : ℕ). put_facts es (take n (x ∷ xs))) e ∙ put_next (slice_set es x.chunk x.entry) xs i f at

-- an entry of the grammar in place of another
pub entries_put : (shape : Shape2) (n : ℕ) (entries : List Entry) (c : ℕ) (e : Entry) → c < length entries → IsEntry shape c e → AreEntries shape n entries → AreEntries shape n (slice_set entries c e)
entries_put shape n entries c e within is before = record { each = each }
  where
    each : (d : ℕ) (x : Entry) → d < n → slice_get (slice_set entries c e) d ≡ Some x → IsEntry shape d x
    each d x less at = elim (cases_eq d c) [
      | inl same ↦ (let there = slice_set_inside entries c e within in let k : slice_get (slice_set entries c e) c ≡ Some x = subst (λ (i : ℕ). slice_get (slice_set entries c e) i ≡ Some x) same at in
          let eq : e ≡ x = cc in subst (λ (i : ℕ). IsEntry shape i x) (sym same) (subst (λ (y : Entry). IsEntry shape c y) eq is))
      | inr other ↦ before.each d x less (sym (slice_set_other entries c d e other) ∙ at)
    ]

-- ---- slots

pub said_other : (said : Said) → slot_for said ≡ Other → said ≡ Nothing
said_other Nothing is = refl
said_other (Facts facts) is = absurd cc
said_other Outside is = absurd cc

pub said_facts : (said : Said) (facts : List Fact2) → slot_for said ≡ Counts facts → said ≡ Facts facts
said_facts Nothing facts is = absurd cc
said_facts (Facts others) facts is = let same : others ≡ facts = cc in ap Facts same
said_facts Outside facts is = absurd cc

pub said_bad : (said : Said) → slot_for said ≡ Bad → said ≡ Outside
said_bad Nothing is = absurd cc
said_bad (Facts facts) is = absurd cc
said_bad Outside is = refl

facts_more : (shape : Shape2) (at : ℕ → Sector) (n : ℕ) (said : Said) → slot_of shape (at n) ≡ said → facts_to shape at (n + 1) ≡ facts_to shape at n ++ facts_said said
facts_more shape at n said is = let e : n + 1 ≡ suc n = omega arith in ap (facts_to shape at) e ∙ ap (λ (s : Said). facts_to shape at n ++ facts_said s) is

good_more : (shape : Shape2) (at : ℕ → Sector) (n : ℕ) → ((k : ℕ) → k < n → slot_of shape (at k) ≡ Outside → ⊥) → (slot_of shape (at n) ≡ Outside → ⊥) → (k : ℕ) → k < n + 1 → slot_of shape (at k) ≡ Outside → ⊥
good_more shape at n before here k less = elim (cases_lt k n) [
  | inl below ↦ before k below
  | inr above ↦ (let same : n ≡ k = omega arith in subst (λ (i : ℕ). slot_of shape (at i) ≡ Outside → ⊥) same here)
]

-- a slot that doesn't count
pub replay_other : (shape : Shape2) (at : ℕ → Sector) (n : ℕ) (pages entries : List Entry) (next : ℕ) → slot_of shape (at n) ≡ Nothing → AreReplayed shape at n pages entries next → AreReplayed shape at (n + 1) pages entries next
replay_other shape at n pages entries next nothing before = record {
  good = good_more shape at n before.good (λ bad. absurd cc);
  entries_are = before.entries_are ∙ ap (put_facts pages) (sym (facts_more shape at n Nothing nothing ∙ append-nil (facts_to shape at n)));
  next_is = record {
    within = (let w = before.next_is.within in omega arith);
    counts = before.next_is.counts;
    none_later = λ k low less counts. elim (cases_lt k n) [
      | inl below ↦ before.next_is.none_later k low below counts
      | inr above ↦ (let same : k ≡ n = omega arith in absurd (counts (ap (λ (i : ℕ). slot_of shape (at i)) same ∙ nothing)))
    ];
  };
}

-- a slot with these facts
pub replay_facts : (shape : Shape2) (at : ℕ → Sector) (n : ℕ) (pages entries entries' : List Entry) (next : ℕ) (facts : List Fact2) → slot_of shape (at n) ≡ Facts facts → entries' ≡ put_facts entries facts → AreReplayed shape at n pages entries next
    → AreReplayed shape at (n + 1) pages entries' (n + 1)
replay_facts shape at n pages entries entries' next facts says put before = record {
  good = good_more shape at n before.good (λ bad. absurd cc);
  entries_are =
      put ∙ ap (λ (es : List Entry). put_facts es facts) before.entries_are ∙ sym (put-append pages (facts_to shape at n) facts)
      ∙ ap (put_facts pages) (sym (facts_more shape at n (Facts facts) says));
  next_is = record {
    within = omega arith;
    counts = λ some nothing. (let same : n + 1 - 1 ≡ n = omega arith in let k : slot_of shape (at n) ≡ Nothing = ap (λ (i : ℕ). slot_of shape (at i)) (sym same) ∙ nothing in absurd cc);
    none_later = λ k low less counts. absurd (omega arith);
  };
}

-- a slot that is bad
pub replay_bad : (shape : Shape2) (at : ℕ → Sector) (n : ℕ) (pages entries : List Entry) (next : ℕ) → slot_of shape (at n) ≡ Outside → AreReplayed shape at n pages entries next → IsFirstOutside shape at (n + 1) n
replay_bad shape at n pages entries next bad before = record { within = omega arith; bad = bad; before = before.good }

pub outside_further : (shape : Shape2) (at : ℕ → Sector) (n m slot : ℕ) → n ≤ m → IsFirstOutside shape at n slot → IsFirstOutside shape at m slot
outside_further shape at n m slot more is = record { within = (let w = is.within in omega arith); bad = is.bad; before = is.before }
