-- The map, entry by entry.
use Rattle.std.proofs.Common.{ℕ, ◌≡◌, ◌+◌, ◌/◌, ◌%◌, ◌<◌, ◌≤◌, ◌⊎◌, inl, inr, Bool, true, false, if◌then◌else◌, List, length, drop, Some, Result, Ok, Err, refl, ap, sym, ◌∙◌, subst, arith}
use Rattle.std.specs.Prelude.{slice_get, slice_set, slice_index_or}
use Rattle.std.proofs.lemmas.List.{get_or-take, get_or-drop}
use Rattle.std.proofs.lemmas.Bool.{cases_lt, cases_eq}
use Rattle.vd_lists.proofs.Changes.{slice_set_inside, slice_set_other}
use Rattle.vd_law.specs.declared.entry.Sector.{Sector}
use Rattle.vd_format.specs.declared.map.Entry.{Entry}
use Rattle.vd_format.specs.declared.map.Shape2.{Shape2}
use Rattle.vd_format.specs.Entries.{IsEntry, entry_at, has_entry, entry_or_storage}
use Rattle.vd_device.specs.Quiet.{sectors_from}
use Rattle.vd_replay.specs.declared.pages.BadEntry.{BadEntry}
use Rattle.vd_replay.specs.Pages.{area_at, chunk_entry, IsEntryInGrammar, AreRead, IsFirstBadEntry, Judged, AreEntries}
use Rattle.vd_format.specs.Background.{zero_sector}

by_test : {A B : Type 0} (a : A) (b : B) (r : Result A B) (test : Bool) → r ≡ (if test then Ok a else Err b) → ((test ≡ true) × (r ≡ Ok a)) ⊎ ((test ≡ false) × (r ≡ Err b))
by_test a b r true is = inl (refl, is)
by_test a b r false is = inr (refl, is)

-- an entry that is read is in the grammar, and is the one that stands there
pub entry_ok : (shape : Shape2) (chunk : ℕ) (sector : Sector) (place : ℕ) (e : Entry) → Ok e ≡ entry_or_storage shape chunk sector place → (has_entry shape chunk sector place ≡ true) × (e ≡ entry_at sector place)
unfolding entry_or_storage
entry_ok shape chunk sector place e is = elim (by_test (entry_at sector place) (entry_at sector place).storage (Ok e) (has_entry shape chunk sector place) is) [
  | inl good ↦ (good.0, cc)
  | inr bad ↦ absurd (let k = bad.1 in cc)
]

-- one that isn't read is outside of it
pub entry_err : (shape : Shape2) (chunk : ℕ) (sector : Sector) (place value : ℕ) → Err value ≡ entry_or_storage shape chunk sector place → (has_entry shape chunk sector place ≡ true → ⊥) × (value ≡ (entry_at sector place).storage)
unfolding entry_or_storage
entry_err shape chunk sector place value is = elim (by_test (entry_at sector place) (entry_at sector place).storage (Err value) (has_entry shape chunk sector place) is) [
  | inl good ↦ absurd (let k = good.1 in cc)
  | inr bad ↦ ((λ good. absurd (let k = bad.0 in cc)), (let k = bad.1 in cc))
]

-- what holds below n, and of n, holds below n + 1
one_more : (P : ℕ → Type 0) (n : ℕ) → ((c : ℕ) → c < n → P c) → P n → (c : ℕ) → c < n + 1 → P c
one_more P n before here c less = elim (cases_lt c n) [ inl below ↦ before c below | inr above ↦ (let same : n ≡ c = omega arith in subst P same here) ]

-- the entry of one more chunk
pub read_more : (shape : Shape2) (at : ℕ → Sector) (n page place : ℕ) (entries : List Entry) (sector : Sector) (e : Entry) → n < length entries → page ≡ n / 32 → place ≡ n % 32 → at page ≡ sector → Ok e ≡ entry_or_storage shape n sector place
    → AreRead shape at n entries → AreRead shape at (n + 1) (slice_set entries n e)
read_more shape at n page place entries sector e within on_page in_place is ok read = record {
  good = one_more (IsEntryInGrammar shape at) n read.good good;
  entry = one_more (λ (c : ℕ). slice_get (slice_set entries n e) c ≡ Some (chunk_entry at c)) n
      (λ c less. slice_set_other entries n c e (λ (same : c ≡ n). omega arith) ∙ read.entry c less)
      (slice_set_inside entries n e within ∙ ap Some (right.1 ∙ there));
}
  where
    right : (has_entry shape n sector place ≡ true) × (e ≡ entry_at sector place)
    right = entry_ok shape n sector place e ok

    there : entry_at sector place ≡ chunk_entry at n
    there = ap (λ (s : Sector). entry_at s place) (sym is) ∙ ap (λ (p : ℕ). entry_at (at p) place) on_page ∙ ap (λ (p : ℕ). entry_at (at (n / 32)) p) in_place

    good : IsEntryInGrammar shape at n
    good =
        let a : has_entry shape n (at page) place ≡ true = ap (λ (s : Sector). has_entry shape n s place) is ∙ right.0 in
        let b : has_entry shape n (at (n / 32)) place ≡ true = subst (λ (p : ℕ). has_entry shape n (at p) place ≡ true) on_page a in
        subst (λ (p : ℕ). has_entry shape n (at (n / 32)) p ≡ true) in_place b

-- it is the first one that is bad
pub read_bad : (shape : Shape2) (at : ℕ → Sector) (n top page place value : ℕ) (entries : List Entry) (sector : Sector) → n < top → page ≡ n / 32 → place ≡ n % 32 → at page ≡ sector → Err value ≡ entry_or_storage shape n sector place
    → AreRead shape at n entries → IsFirstBadEntry shape at top n value
read_bad shape at n top page place value entries sector within on_page in_place is err read = record {
  within = within;
  bad = λ good. wrong.0 (back good);
  before = read.good;
  value_is = wrong.1 ∙ ap (λ (e : Entry). e.storage) there;
}
  where
    wrong : (has_entry shape n sector place ≡ true → ⊥) × (value ≡ (entry_at sector place).storage)
    wrong = entry_err shape n sector place value err

    there : entry_at sector place ≡ chunk_entry at n
    there = ap (λ (s : Sector). entry_at s place) (sym is) ∙ ap (λ (p : ℕ). entry_at (at p) place) on_page ∙ ap (λ (p : ℕ). entry_at (at (n / 32)) p) in_place

    back : IsEntryInGrammar shape at n → has_entry shape n sector place ≡ true
    back good =
        let a : has_entry shape n (at (n / 32)) place ≡ true = subst (λ (p : ℕ). has_entry shape n (at (n / 32)) p ≡ true) (sym in_place) good in
        let b : has_entry shape n (at page) place ≡ true = subst (λ (p : ℕ). has_entry shape n (at p) place ≡ true) (sym on_page) a in
        ap (λ (s : Sector). has_entry shape n s place) (sym is) ∙ b

-- one more entry of the grammar
pub entries_more : (shape : Shape2) (n : ℕ) (entries : List Entry) (e : Entry) → n < length entries → IsEntry shape n e → AreEntries shape n entries → AreEntries shape (n + 1) (slice_set entries n e)
entries_more shape n entries e within is before = record { each = each }
  where
    each : (c : ℕ) (x : Entry) → c < n + 1 → slice_get (slice_set entries n e) c ≡ Some x → IsEntry shape c x
    each c x less at = elim (cases_eq c n) [
      | inl same ↦ (let there = slice_set_inside entries n e within in let k : slice_get (slice_set entries n e) n ≡ Some x = subst (λ (i : ℕ). slice_get (slice_set entries n e) i ≡ Some x) same at in
          let eq : e ≡ x = cc in subst (λ (i : ℕ). IsEntry shape i x) (sym same) (subst (λ (y : Entry). IsEntry shape n y) eq is))
      | inr other ↦ before.each c x (omega arith) (sym (slice_set_other entries n c e other) ∙ at)
    ]

pub none_read : (shape : Shape2) (at : ℕ → Sector) (entries : List Entry) → AreRead shape at 0 entries
none_read shape at entries = record { good = λ c less. absurd (omega (arith, less)); entry = λ c less. absurd (omega (arith, less)) }

-- a bad entry stays the first one
pub bad_further : (shape : Shape2) (at : ℕ → Sector) (n m chunk value : ℕ) → n ≤ m → IsFirstBadEntry shape at n chunk value → IsFirstBadEntry shape at m chunk value
bad_further shape at n m chunk value more is = record { within = (let w = is.within in omega arith); bad = is.bad; before = is.before; value_is = is.value_is }

pub judged_further : (shape : Shape2) (at : ℕ → Sector) (n m : ℕ) (entries entries' : List Entry) (bad : BadEntry) → n ≤ m → Judged shape at n entries (Err bad) → Judged shape at m entries' (Err bad)
judged_further shape at n m entries entries' bad more is = bad_further shape at n m bad.chunk bad.value more is

-- sectors that were read are those of the area
pub piece_at : (held : List Sector) (from n count : ℕ) (out : List Sector) → out ≡ sectors_from held (from + n) count → length out ≡ count → (i : ℕ) → i < length out → area_at held from (n + i) ≡ slice_index_or out i zero_sector
piece_at held from n count out is size i within =
    let e : from + (n + i) ≡ from + n + i = omega arith in
    sym (ap (λ (xs : List Sector). slice_index_or xs i zero_sector) is ∙ get_or-take count (drop (from + n) held) i zero_sector (omega arith) ∙ get_or-drop (from + n) held i zero_sector ∙ ap (λ (k : ℕ). slice_index_or held k zero_sector) (sym e))
