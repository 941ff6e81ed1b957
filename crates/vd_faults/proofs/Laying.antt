-- A crash image is laid, entry by entry.
use Rattle.std.proofs.Common.{◌≡◌, ◌≢◌, ℕ, zero, suc, ◌+◌, ◌-◌, ◌^◌, ◌<◌, ◌≤◌, inl, inr, Bool, true, false, List, [], ◌∷◌, ◌++◌, Option, Some, None, length, take, set, refl, ap, sym, ◌∙◌, subst, arith, length-append}
use Rattle.std.specs.Prelude.{slice_get, ◌==◌, if◌then◌else◌}
use Rattle.std.specs.Option.{option_to_list, option_map}
use Rattle.std.proofs.lemmas.Bool.{cases_lt, cases_eq}
use Rattle.std.proofs.lemmas.Bool.Decides.{leb_tells, eqb_tells}
use Rattle.std.proofs.lemmas.List.{length-set, append-nil, append_assoc, length-take, length-take-le, take_all}
use Rattle.std.proofs.lemmas.Option.{slice_get_past, slice_get_within}
use Rattle.vd_lists.proofs.Places.{slice_get_front, slice_get_last, slice_get_take}
use Rattle.vd_lists.proofs.Options.{cases_option}
use Rattle.vd_lists.proofs.Changes.{slice_set_inside, slice_set_other}
use Rattle.vd_law.specs.declared.entry.Sector.{Sector}
use Rattle.vd_law.specs.declared.entry.CallId.{CallId}
use Rattle.vd_law.specs.Entries.{Entry, Issue, Past, nothing, ◌▸◌, past}
use Rattle.vd_law.specs.Contents.{sector_in, issued_contents, versions}
use Rattle.vd_law.proofs.Going.{past-more}
use Rattle.vd_law.proofs.Sectors.{sector_in-at}
use Rattle.vd_device.specs.Calls.{next_number}
use Rattle.vd_faults.specs.declared.versions.Versions.{Versions}
use Rattle.vd_faults.specs.Versions.{changed_if, one_more, laid, shown, HasLaidVersion}
use Rattle.vd_faults.proofs.Counting.{change-none, change-some, written-le}

-- A list with one element set.

-- One more of the first sectors of a content.

now : (first k : ℕ) (content : List Sector) (c : Sector) → slice_get content k ≡ Some c → sector_in first (take (k + 1) content) (first + k) ≡ Some c
now first k content c at = sector_in-at first k (take (k + 1) content) ∙ slice_get_take (k + 1) content k (omega arith) ∙ at

not-yet : (first k : ℕ) (content : List Sector) → sector_in first (take k content) (first + k) ≡ None
not-yet first k content = sector_in-at first k (take k content) ∙ slice_get_past (take k content) k (omega (arith, length-take {A = Sector} k content))

other-place : (j k : ℕ) (content : List Sector) → j ≢ k → slice_get (take (k + 1) content) j ≡ slice_get (take k content) j
other-place j k content apart =
    elim (cases_lt j k) [
      | inl less ↦ slice_get_take (k + 1) content j (omega (arith, less)) ∙ sym (slice_get_take k content j less)
      | inr more ↦ slice_get_past (take (k + 1) content) j (omega (arith, length-take {A = Sector} (k + 1) content, more, apart))
          ∙ sym (slice_get_past (take k content) j (omega (arith, length-take {A = Sector} k content, more)))
    ]

elsewhere : (first k : ℕ) (content : List Sector) (s : ℕ) → s ≢ first + k → sector_in first (take (k + 1) content) s ≡ sector_in first (take k content) s
elsewhere first k content s apart =
    elim (leb_tells first s) [
      | inl inside ↦ ap (λ (b : Bool). if b then slice_get (take (k + 1) content) (s - first) else None) inside.0
          ∙ other-place (s - first) k content (λ same. apart (omega (arith, same, inside.1)))
          ∙ sym (ap (λ (b : Bool). if b then slice_get (take k content) (s - first) else None) inside.0)
      | inr before ↦ ap (λ (b : Bool). if b then slice_get (take (k + 1) content) (s - first) else None) before.0
          ∙ sym (ap (λ (b : Bool). if b then slice_get (take k content) (s - first) else None) before.0)
    ]

module _ (first k : ℕ) (content : List Sector) (c : Sector) (at : slice_get content k ≡ Some c) (init all : List Versions) (x : Versions) (read : slice_get all (first + k) ≡ Some x)
    (so_far : (s : ℕ) → slice_get all s ≡ changed_if one_more (sector_in first (take k content) s) (slice_get init s)) where
  -- it has not been changed yet
  unchanged : slice_get init (first + k) ≡ Some x
  unchanged = sym (so_far (first + k) ∙ ap (λ (o : Option Sector). changed_if one_more o (slice_get init (first + k))) (not-yet first k content)) ∙ read

  pub versions-more : (s : ℕ) → slice_get (set all (first + k) (one_more x)) s ≡ changed_if one_more (sector_in first (take (k + 1) content) s) (slice_get init s)
  versions-more s =
      elim (cases_eq s (first + k)) [
        | inl here ↦ rw here (slice_set_inside all (first + k) (one_more x) (slice_get_within all (first + k) x read)
            ∙ sym (ap (λ (o : Option Sector). changed_if one_more o (slice_get init (first + k))) (now first k content c at) ∙ ap (option_map one_more) unchanged))
        | inr apart ↦ slice_set_other all (first + k) s (one_more x) apart ∙ so_far s
            ∙ sym (ap (λ (o : Option Sector). changed_if one_more o (slice_get init s)) (elsewhere first k content s apart))
      ]

  pub image-more : (before image : List Sector) → first + k < length image → ((s : ℕ) → slice_get image s ≡ laid (slice_get init s) (sector_in first (take k content) s) (slice_get before s))
      → (s : ℕ) → slice_get (if next_number x.written == x.chosen then set image (first + k) c else image) s ≡ laid (slice_get init s) (sector_in first (take (k + 1) content) s) (slice_get before s)
  image-more before image within so s =
      elim (cases_eq s (first + k)) [
        | inl here ↦ rw here (at_it ∙ sym (ap (λ (o : Option Sector). laid (slice_get init (first + k)) o (slice_get before (first + k))) (now first k content c at) ∙ ap (λ (o : Option Versions). laid o (Some c) (slice_get before (first + k))) unchanged))
        | inr apart ↦ off_it apart ∙ so s ∙ sym (ap (λ (o : Option Sector). laid (slice_get init s) o (slice_get before s)) (elsewhere first k content s apart))
      ]
    where
      untouched : slice_get image (first + k) ≡ slice_get before (first + k)
      untouched = so (first + k) ∙ ap (λ (o : Option Sector). laid (slice_get init (first + k)) o (slice_get before (first + k))) (not-yet first k content)
          ∙ ap (λ (o : Option Versions). laid o None (slice_get before (first + k))) unchanged

      at_it : slice_get (if next_number x.written == x.chosen then set image (first + k) c else image) (first + k) ≡ (if next_number x.written == x.chosen then Some c else slice_get before (first + k))
      at_it = elim (next_number x.written == x.chosen) as (λ b. slice_get (if b then set image (first + k) c else image) (first + k) ≡ (if b then Some c else slice_get before (first + k))) [
        | true ↦ slice_set_inside image (first + k) c within
        | false ↦ untouched
      ]

      off_it : s ≢ first + k → slice_get (if next_number x.written == x.chosen then set image (first + k) c else image) s ≡ slice_get image s
      off_it apart = elim (next_number x.written == x.chosen) as (λ b. slice_get (if b then set image (first + k) c else image) s ≡ slice_get image s) [
        | true ↦ slice_set_other image (first + k) s c apart
        | false ↦ refl
      ]

-- The image after one more entry.

-- an entry that begins no write
pub laid-same : (start : List Sector) (target : ℕ → ℕ) (log : List Entry) (i : ℕ) (e : Entry) (s : ℕ) (v : Versions) (image : List Sector) → slice_get log i ≡ Some e → issued_contents (past (take i log) ▸ e) s ≡ issued_contents (past (take i log)) s
    → HasLaidVersion start target (past (take i log)) s v image → HasLaidVersion start target (past (take (i + 1) log)) s v image
laid-same start target log i e s v image at same l =
    subst (λ (p : Past). HasLaidVersion start target p s v image) (sym (past-more log i e at)) (record {
      writes = l.writes ∙ ap length (sym same);
      chosen = l.chosen;
      holds = l.holds ∙ ap (λ (w : List Sector). slice_get (option_to_list (slice_get start s) ++ w) (shown v)) (sym same);
    })

-- which version is shown, when one more was written
shown-more : (v : Versions) (vs : List Sector) (c : Sector) (before after : Option Sector) → length vs ≡ v.written + 1 → v.written + 1 < 2 ^ 64 → before ≡ slice_get vs (shown v)
    → after ≡ (if next_number v.written == v.chosen then Some c else before) → after ≡ slice_get (vs ++ c ∷ []) (shown (one_more v))
shown-more v vs c before after long short was is =
    let more : next_number v.written ≡ v.written + 1 = omega (arith, short) in
    elim (eqb_tells (next_number v.written) v.chosen) [
      | inl chosen ↦ is ∙ ap (λ (b : Bool). if b then Some c else before) chosen.0
          ∙ sym (ap (slice_get (vs ++ c ∷ [])) (shown_now chosen.1 ∙ sym chosen.1 ∙ more ∙ sym long) ∙ slice_get_last vs c)
      | inr apart ↦ is ∙ ap (λ (b : Bool). if b then Some c else before) apart.0 ∙ was
          ∙ sym (ap (slice_get (vs ++ c ∷ [])) (shown_still more apart.1) ∙ slice_get_front vs (c ∷ []) (shown v) (omega (arith, shown_within, long)))
    ]
  where
    shown_now : next_number v.written ≡ v.chosen → shown (one_more v) ≡ v.chosen
    shown_now same = elim (leb_tells v.chosen (next_number v.written)) [
      | inl le ↦ ap (λ (b : Bool). if b then v.chosen else 0) le.0
      | inr gt ↦ absurd (omega (arith, gt.1, same))
    ]

    shown_still : next_number v.written ≡ v.written + 1 → (next_number v.written ≢ v.chosen) → shown (one_more v) ≡ shown v
    shown_still more apart = elim (leb_tells v.chosen v.written) [
      | inl le ↦ elim (leb_tells v.chosen (next_number v.written)) [
        | inl le2 ↦ ap (λ (b : Bool). if b then v.chosen else 0) le2.0 ∙ sym (ap (λ (b : Bool). if b then v.chosen else 0) le.0)
        | inr gt2 ↦ absurd (omega (arith, gt2.1, le.1, more))
      ]
      | inr gt ↦ elim (leb_tells v.chosen (next_number v.written)) [
        | inl le2 ↦ absurd (apart (omega (arith, le2.1, gt.1, more)))
        | inr gt2 ↦ ap (λ (b : Bool). if b then v.chosen else 0) gt2.0 ∙ sym (ap (λ (b : Bool). if b then v.chosen else 0) gt.0)
      ]
    ]

    shown_within : shown v ≤ v.written
    shown_within = elim (leb_tells v.chosen v.written) [
      | inl le ↦ omega (arith, le.1, ap (λ (b : Bool). if b then v.chosen else 0) le.0)
      | inr gt ↦ omega (arith, ap (λ (b : Bool). if b then v.chosen else 0) gt.0)
    ]

pub laid-issue : (start : List Sector) (target : ℕ → ℕ) (log : List Entry) (i : ℕ) (id : CallId) (first : ℕ) (content : List Sector) (s : ℕ) (x : Option Versions) (v : Versions) (image image' : List Sector)
    → slice_get log i ≡ Some (Issue id first content) → length log < 2 ^ 64 → i < length log → s < length start
    → ((u : Versions) → x ≡ Some u → HasLaidVersion start target (past (take i log)) s u image)
    → changed_if one_more (sector_in first content s) x ≡ Some v → slice_get image' s ≡ laid x (sector_in first content s) (slice_get image s)
    → HasLaidVersion start target (past (take (i + 1) log)) s v image'
laid-issue start target log i id first content s x v image image' at short within inside before versions_now image_now =
    let p = past (take i log) in let old = issued_contents p s in let x0 = option_to_list (slice_get start s) in
    let few = written-le (take i log) s in let long = length-take-le i log (omega (arith, within)) in
    subst (λ (q : Past). HasLaidVersion start target q s v image') (sym (past-more log i (Issue id first content) at))
    (elim (cases_option (sector_in first content s)) [
      | inl none ↦
          let was = change-none one_more (sector_in first content s) x v none versions_now in let l = before v was in
          let same : old ++ option_to_list (sector_in first content s) ≡ old = ap (λ (o : Option Sector). old ++ option_to_list o) none ∙ append-nil old in
          record {
            writes = l.writes ∙ ap length (sym same);
            chosen = l.chosen;
            holds = image_now ∙ ap (λ (o : Option Sector). laid x o (slice_get image s)) none ∙ laid_none x (slice_get image s) ∙ l.holds
                ∙ ap (λ (w : List Sector). slice_get (x0 ++ w) (shown v)) (sym same);
          }
      | inr some ↦
          let u = change-some one_more (sector_in first content s) some.0 x v some.1 versions_now in let l = before u.0 u.1 in
          let grown : old ++ option_to_list (sector_in first content s) ≡ old ++ some.0 ∷ [] = ap (λ (o : Option Sector). old ++ option_to_list o) some.1 in
          let one : length x0 ≡ 1 = start_one (slice_get start s) s start inside refl in
          record {
            writes = ap (λ (w : Versions). w.written) u.2 ∙ (let next : next_number u.0.written ≡ length (old ++ some.0 ∷ []) = omega (arith, l.writes, few, long, short, within, length-append old (some.0 ∷ [])) in next) ∙ ap length (sym grown);
            chosen = ap (λ (w : Versions). w.chosen) u.2 ∙ l.chosen;
            holds = shown-more u.0 (x0 ++ old) some.0 (slice_get image s) (slice_get image' s) (omega (arith, length-append x0 old, one, l.writes)) (omega (arith, l.writes, few, long, short, within)) l.holds
                (image_now ∙ ap (λ (o : Option Sector). laid x o (slice_get image s)) some.1 ∙ ap (λ (y : Option Versions). laid y (Some some.0) (slice_get image s)) u.1)
                ∙ ap (λ (w : List Sector). slice_get w (shown (one_more u.0))) (append_assoc x0 old (some.0 ∷ []))
                ∙ ap (λ (w : List Sector). slice_get (x0 ++ w) (shown (one_more u.0))) (sym grown)
                ∙ ap (λ (y : Versions). slice_get (x0 ++ (old ++ option_to_list (sector_in first content s))) (shown y)) (sym u.2);
          }
    ])
  where
    laid_none : (x : Option Versions) (b : Option Sector) → laid x None b ≡ b
    laid_none None b = refl
    laid_none (Some v) b = refl

    start_one : (o : Option Sector) (s : ℕ) (start : List Sector) → s < length start → slice_get start s ≡ o → length (option_to_list o) ≡ 1
    start_one (Some v) s start inside is = refl
    start_one None s start inside is = absurd (beyond start s inside is)
      where
        beyond : (xs : List Sector) (k : ℕ) → k < length xs → slice_get xs k ≡ None → ⊥
        beyond [] k within none = omega (arith, within)
        beyond (x ∷ xs) zero within none = cc
        beyond (x ∷ xs) (suc k) within none = beyond xs k (omega arith) none

-- before the first entry, and after the last
pub laid-first : (start : List Sector) (target : ℕ → ℕ) (s : ℕ) (v : Versions) → v ≡ record { written = 0; chosen = target s } → HasLaidVersion start target nothing s v start
laid-first start target s v is = record {
  writes = ap (λ (w : Versions). w.written) is;
  chosen = ap (λ (w : Versions). w.chosen) is;
  holds = first_one (slice_get start s) ∙ ap (slice_get (option_to_list (slice_get start s) ++ [])) (sym (none_shown (target s)) ∙ ap shown (sym is));
}
  where
    first_one : (o : Option Sector) → o ≡ slice_get (option_to_list o ++ []) 0
    first_one None = refl
    first_one (Some x) = refl

    none_shown : (k : ℕ) → shown (record { written = 0; chosen = k }) ≡ 0
    none_shown k = elim (leb_tells k 0) [
      | inl le ↦ ap (λ (b : Bool). if b then k else 0) le.0 ∙ (omega (arith, le.1))
      | inr gt ↦ ap (λ (b : Bool). if b then k else 0) gt.0
    ]

pub laid-last : (start : List Sector) (target : ℕ → ℕ) (log : List Entry) (s : ℕ) (v : Versions) (image : List Sector) → target s ≤ length (issued_contents (past log) s) → HasLaidVersion start target (past (take (length log) log)) s v image
    → slice_get image s ≡ slice_get (versions start (past log) s) (target s)
laid-last start target log s v image within l =
    let all : take (length log) log ≡ log = take_all (length log) log (omega arith) in
    l.holds ∙ ap (λ (es : List Entry). slice_get (versions start (past es) s) (shown v)) all
    ∙ ap (slice_get (versions start (past log) s)) (last_shown (omega (arith, l.writes, l.chosen, within, ap (λ (es : List Entry). length (issued_contents (past es) s)) all)) ∙ l.chosen)
  where
    last_shown : v.chosen ≤ v.written → shown v ≡ v.chosen
    last_shown le = elim (leb_tells v.chosen v.written) [
      | inl fits ↦ ap (λ (b : Bool). if b then v.chosen else 0) fits.0
      | inr gt ↦ absurd (omega (arith, gt.1, le))
    ]

pub put-length : (chosen : Bool) (image : List Sector) (i : ℕ) (c : Sector) → length (if chosen then set image i c else image) ≡ length image
put-length true image i c = length-set image i c
put-length false image i c = refl
