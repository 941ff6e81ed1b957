-- What a chooser chose is what the image has.
use Rattle.std.proofs.Common.{◌≡◌, ℕ, zero, suc, ◌+◌, ◌-◌, ◌^◌, ◌<◌, ◌≤◌, min, inl, inr, Bool, List, Option, Some, None, length, set, refl, add-one, ap, sym, ◌∙◌, arith, length-append, length-drop}
use Rattle.std.specs.Prelude.{slice_get, ◌≢◌, nat_lt, if◌then◌else◌}
use Rattle.std.specs.Option.{option_to_list, option_map_or}
use Rattle.std.specs.List.{Contains}
use Rattle.std.proofs.lemmas.Bool.{cases_eq, cases_lt, lt-ltb, le-ltb}
use Rattle.std.proofs.lemmas.Option.{slice_get_cases, slice_get_within, get_or_from_slice_get}
use Rattle.vd_lists.proofs.Changes.{slice_set_inside, slice_set_other}
use Rattle.vd_lists.proofs.Places.{slice_get_drop}
use Rattle.vd_law.specs.declared.entry.Sector.{Sector}
use Rattle.vd_law.specs.Entries.{past}
use Rattle.vd_law.specs.Contents.{issued_contents, versions, firm_after, may}
use Rattle.vd_law.proofs.Appending.{firm-le}
use Rattle.vd_device.specs.Disks.{Disk}
use Rattle.vd_faults.specs.declared.versions.Versions.{Versions}
use Rattle.vd_faults.specs.Choices.{asked, answer_at, member, contents_at, IsChosen}
use Rattle.vd_faults.specs.Versions.{count_of, counts_in, after_choice}
use Rattle.vd_faults.proofs.Counting.{written-le}

-- a chooser that is told the same numbers is in the same state
pub asked-same : {C : Type 0} (choice : C → ℕ → ℕ → ℕ × C) (chooser : C) (counts counts' : ℕ → ℕ) (s : ℕ) → ((k : ℕ) → k < s → counts k ≡ counts' k) → asked choice chooser counts s ≡ asked choice chooser counts' s
asked-same {C} choice chooser counts counts' zero same = refl
asked-same {C} choice chooser counts counts' (suc s) same =
    ap (λ (n : ℕ). (choice (asked choice chooser counts s) s n).1) (same s (omega arith))
    ∙ ap (λ (c : C). (choice c s (counts' s)).1) (asked-same choice chooser counts counts' s (λ k below. same k (omega arith)))

pub answer-same : {C : Type 0} (choice : C → ℕ → ℕ → ℕ × C) (chooser : C) (counts counts' : ℕ → ℕ) (s : ℕ) → ((k : ℕ) → k < s + 1 → counts k ≡ counts' k) → answer_at choice chooser counts s ≡ answer_at choice chooser counts' s
answer-same {C} choice chooser counts counts' s same =
    ap (λ (n : ℕ). (choice (asked choice chooser counts s) s n).0) (same s (omega arith))
    ∙ ap (λ (c : C). (choice c s (counts' s)).0) (asked-same choice chooser counts counts' s (λ k below. same k (omega arith)))

abbrev left_with : ℕ → Versions
left_with n = record { written = 0; chosen = n }

-- The chooser is asked for one more sector.
module _ {C : Type 0} (choice : C → ℕ → ℕ → ℕ × C) (first now : C) (init all : List Versions) (s : ℕ) (x : Versions) (read : slice_get all s ≡ Some x) (within : s < length init)
    (state : now ≡ asked choice first (counts_in init) s)
    (so_far : (k : ℕ) (v : Versions) → slice_get init k ≡ Some v → slice_get all k ≡ Some (if nat_lt k s then after_choice v (answer_at choice first (counts_in init) k) else v)) where
  same_versions : (a b : Versions) → Some a ≡ Some b → a ≡ b
  same_versions a b same = cc

  -- it was not chosen yet
  pub choose-read : slice_get init s ≡ Some x
  choose-read =
      elim (slice_get_cases init s).1 [
        | inl some ↦
            let chosen : Versions = after_choice some.0 (answer_at choice first (counts_in init) s) in
            let there : slice_get all s ≡ Some some.0 = so_far s some.0 some.2 ∙ ap (λ (b : Bool). Some (if b then chosen else some.0)) (le-ltb s s (omega arith)) in
            some.2 ∙ ap (λ (v : Versions). Some v) (same_versions some.0 x (sym there ∙ read))
        | inr past ↦ absurd (omega (arith, past.0, within))
      ]

  counted : count_of x ≡ counts_in init s
  counted = sym (ap (λ (o : Option Versions). option_map_or count_of o 0) choose-read)

  pub choose-state : (choice now s (count_of x)).1 ≡ asked choice first (counts_in init) (s + 1)
  choose-state =
      ap (λ (c : C). (choice c s (count_of x)).1) state ∙ ap (λ (n : ℕ). (choice (asked choice first (counts_in init) s) s n).1) counted
      ∙ ap (asked choice first (counts_in init)) (sym (add-one s))

  pub choose-more : (y : Versions) → y ≡ after_choice x (choice now s (count_of x)).0 → (k : ℕ) (v : Versions) → slice_get init k ≡ Some v
      → slice_get (set all s y) k ≡ Some (if nat_lt k (s + 1) then after_choice v (answer_at choice first (counts_in init) k) else v)
  choose-more y is k v at =
      elim (cases_eq k s) [
        | inl here ↦
            let v_is : x ≡ v = same_versions x v (sym choose-read ∙ ap (slice_get init) (sym here) ∙ at) in
            rw here (slice_set_inside all s y (slice_get_within all s x read) ∙ ap (λ (z : Versions). Some z) (is ∙ answered v v_is)
            ∙ sym (ap (λ (b : Bool). Some (if b then after_choice v (answer_at choice first (counts_in init) s) else v)) (lt-ltb s (s + 1) (omega arith))))
        | inr apart ↦ slice_set_other all s k y apart ∙ so_far k v at ∙ ap (λ (b : Bool). Some (if b then after_choice v (answer_at choice first (counts_in init) k) else v)) (same_test apart)
      ]
    where
      answered : (v : Versions) → x ≡ v → after_choice x (choice now s (count_of x)).0 ≡ after_choice v (answer_at choice first (counts_in init) s)
      answered v v_is =
          ap (λ (c : C). after_choice x (choice c s (count_of x)).0) state ∙ ap (λ (n : ℕ). after_choice x (choice (asked choice first (counts_in init) s) s n).0) counted
          ∙ ap (λ (z : Versions). after_choice z (answer_at choice first (counts_in init) s)) v_is

      same_test : k ≢ s → nat_lt k s ≡ nat_lt k (s + 1)
      same_test apart = elim (cases_lt k s) [
        | inl less ↦ lt-ltb k s less ∙ sym (lt-ltb k (s + 1) (omega (arith, less)))
        | inr more ↦ le-ltb k s more ∙ sym (le-ltb k (s + 1) (omega (arith, more, apart)))
      ]

-- the whole list
pub choose-all : {C : Type 0} (choice : C → ℕ → ℕ → ℕ × C) (first : C) (init : List Versions) (n s : ℕ) (v : Versions) → length init ≤ n → slice_get init s ≡ Some v
    → Some (if nat_lt s n then after_choice v (answer_at choice first (counts_in init) s) else v) ≡ Some (after_choice v (answer_at choice first (counts_in init) s))
choose-all choice first init n s v all at =
    ap (λ (b : Bool). Some (if b then after_choice v (answer_at choice first (counts_in init) s) else v)) (lt-ltb s n (omega (arith, slice_get_within init s v at, all)))

-- Where the versions of each sector were counted.
module _ (d : Disk) (all : List Versions) (size : length all ≡ length d.start)
    (writes : (s : ℕ) (v : Versions) → slice_get all s ≡ Some v → v.written ≡ length (issued_contents (past d.log) s))
    (firm : (s : ℕ) (v : Versions) → slice_get all s ≡ Some v → v.chosen ≡ firm_after (past d.log) s) where
  abbrev firms : ℕ → ℕ
  firms s = firm_after (past d.log) s

  abbrev writtens : ℕ → ℕ
  writtens s = length (issued_contents (past d.log) s)

  pub counted-fit : length d.log < 2 ^ 63 → (s : ℕ) (v : Versions) → slice_get all s ≡ Some v → (v.chosen ≤ v.written) × (v.written < 2 ^ 63)
  counted-fit short s v at = (omega (arith, writes s v at, firm s v at, firm-le (past d.log) s), omega (arith, writes s v at, written-le d.log s, short))

  one-start : (o : Option Sector) (k : ℕ) (xs : List Sector) → slice_get xs k ≡ o → k < length xs → length (option_to_list o) ≡ 1
  one-start (Some v) k xs is within = refl
  one-start None k xs is within = elim (slice_get_cases xs k).1 [ inl some ↦ (let e = sym is ∙ some.2 in cc) | inr past ↦ absurd (omega (arith, past.0, within)) ]

  -- how many contents there are
  pub may-length : (s : ℕ) → s < length d.start → length (may d.start d.log s) ≡ (writtens s - firms s) + 1
  may-length s within =
      omega (
        arith,
        length-drop {A = Sector} (firms s) (versions d.start (past d.log) s),
        length-append (option_to_list (slice_get d.start s)) (issued_contents (past d.log) s),
        one-start (slice_get d.start s) s d.start refl within,
        firm-le (past d.log) s,
      )

  count-same : (k : ℕ) (v : Versions) → slice_get all k ≡ Some v → counts_in all k ≡ contents_at d k
  count-same k v at =
      ap (λ (o : Option Versions). option_map_or count_of o 0) at
      ∙ (let same : count_of v ≡ length (may d.start d.log k) = omega (arith, writes k v at, firm k v at, may-length k (omega (arith, slice_get_within all k v at, size))) in same)

  pub counts-same : (n : ℕ) → n ≤ length d.start → (k : ℕ) → k < n → counts_in all k ≡ contents_at d k
  counts-same n within k below =
      elim (slice_get_cases all k).1 [
        | inl some ↦ count-same k some.0 some.2
        | inr past ↦ absurd (omega (arith, past.0, size, within, below))
      ]

  -- which version a sector is to get
  abbrev pub target : {C : Type 0} → (C → ℕ → ℕ → ℕ × C) → C → ℕ → ℕ
  target choice chooser s = firms s + min (answer_at choice chooser (contents_at d) s) (writtens s - firms s)

  pub target-within : {C : Type 0} (choice : C → ℕ → ℕ → ℕ × C) (chooser : C) (s : ℕ) → target choice chooser s ≤ writtens s
  target-within choice chooser s = omega (arith, firm-le (past d.log) s)

  pub after-target : {C : Type 0} (choice : C → ℕ → ℕ → ℕ × C) (chooser : C) (s : ℕ) (v : Versions) → slice_get all s ≡ Some v → after_choice v (answer_at choice chooser (counts_in all) s) ≡ record { written = 0; chosen = target choice chooser s }
  after-target {C} choice chooser s v at =
      let within = slice_get_within all s v at in
      let same = answer-same choice chooser (counts_in all) (contents_at d) s (counts-same (s + 1) (omega (arith, within, size))) in
      ap (λ (a : ℕ). after_choice v a) same ∙ chosen_is (omega (arith, writes s v at, firm s v at))
    where
      chosen_is : v.chosen + min (answer_at choice chooser (contents_at d) s) (v.written - v.chosen) ≡ target choice chooser s → after_choice v (answer_at choice chooser (contents_at d) s) ≡ record { written = 0; chosen = target choice chooser s }
      chosen_is is = ap (λ (n : ℕ). left_with n) is

  pub target-member : {C : Type 0} (choice : C → ℕ → ℕ → ℕ × C) (chooser : C) (s : ℕ) → s < length d.start → slice_get (versions d.start (past d.log) s) (target choice chooser s) ≡ member (may d.start d.log s) (answer_at choice chooser (contents_at d) s)
  target-member choice chooser s within =
      let a = answer_at choice chooser (contents_at d) s in let vs = versions d.start (past d.log) s in
      let place : firms s + min a (length (may d.start d.log s) - 1) ≡ target choice chooser s = omega (arith, may-length s within) in
      sym (slice_get_drop (firms s) vs (min a (length (may d.start d.log s) - 1)) ∙ ap (slice_get vs) place)

  -- the whole image
  pub image-chosen : {C : Type 0} (choice : C → ℕ → ℕ → ℕ × C) (chooser : C) (image : List Sector) → length image ≡ length d.start
      → ((s : ℕ) → s < length d.start → target choice chooser s ≤ writtens s → slice_get image s ≡ slice_get (versions d.start (past d.log) s) (target choice chooser s)) → IsChosen choice chooser d image
  image-chosen choice chooser image same so = record {
    size = same;
    each = λ s v at. let within : s < length d.start = omega (arith, slice_get_within image s v at, same) in
        sym (target-member choice chooser s within) ∙ sym (so s within (target-within choice chooser s)) ∙ at;
  }

-- each is one of the contents that a crash may leave
pub chosen-allowed : {C : Type 0} (choice : C → ℕ → ℕ → ℕ × C) (chooser : C) (d : Disk) (image : List Sector) → IsChosen choice chooser d image → (s : ℕ) (v : Sector) → slice_get image s ≡ Some v → Contains (may d.start d.log s) v
chosen-allowed choice chooser d image chosen s v at =
    let contents = may d.start d.log s in let k = min (answer_at choice chooser (contents_at d) s) (length contents - 1) in let is = chosen.each s v at in
    (k, slice_get_within contents k v is, get_or_from_slice_get contents k v v is)

-- what a list of versions holds after each was chosen
pub chosen-each : {C : Type 0} (choice : C → ℕ → ℕ → ℕ × C) (chooser : C) (all new : List Versions) (target : ℕ → ℕ) → length new ≡ length all
    → ((s : ℕ) (v : Versions) → slice_get all s ≡ Some v → slice_get new s ≡ Some (after_choice v (answer_at choice chooser (counts_in all) s)))
    → ((s : ℕ) (v : Versions) → slice_get all s ≡ Some v → after_choice v (answer_at choice chooser (counts_in all) s) ≡ record { written = 0; chosen = target s })
    → (s : ℕ) (v : Versions) → slice_get new s ≡ Some v → v ≡ record { written = 0; chosen = target s }
chosen-each choice chooser all new target size each after s v at =
    elim (slice_get_cases all s).1 [
      | inl some ↦ same_one (sym (each s some.0 some.2) ∙ at) ∙ after s some.0 some.2
      | inr past ↦ absurd (omega (arith, past.0, size, slice_get_within new s v at))
    ]
  where
    same_one : {a b : Versions} → Some a ≡ Some b → b ≡ a
    same_one same = cc
