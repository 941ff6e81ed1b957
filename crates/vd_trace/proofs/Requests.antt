-- The requests of a guest, found by their places.
use Rattle.std.proofs.Common.{◌≡◌, ℕ, zero, suc, ◌+◌, ◌-◌, ◌<◌, ◌≤◌, ◌⊎◌, inl, inr, Bool, true, false, List, [], ◌∷◌, ◌++◌, length, take, get_or, Option, Some, None, eqb, ap, refl, sym, ◌∙◌, arith, Vec}
use Rattle.std.proofs.lemmas.Bool.{cases_lt, eqb-true, false_from_ne_true}
use Rattle.std.proofs.lemmas.List.{length-take-le, length-replicate, length-map, get_or-map}
use Rattle.std.proofs.Math.Seq.{take-append_seam}
use Rattle.std.proofs.lemmas.List.Elements.{All-head, All-tail}
use Rattle.std.specs.Prelude.{slice_get, slice_set, map, filter, find, nat_lt, replicate, if◌then◌else◌}
use Rattle.std.specs.List.{All}
use Rattle.std.specs.Option.{option_map}
use Rattle.std.specs.declared.alloc.Global.{Global}
use Rattle.vd_law.specs.declared.entry.Sector.{Sector}
use Rattle.vd_law.specs.Entries as law
use Rattle.vd_trace.specs.declared.kept.Item.{Item}
use Rattle.vd_trace.specs.declared.kept.Shown.{Shown}
use Rattle.vd_trace.specs.declared.kept.Stored.{Stored}
use Rattle.vd_trace.specs.declared.kept.Stored.TheVariants.{Read, Fill, Put, Flush}
use Rattle.vd_trace.specs.Traces.{Asking, work_asked, requests_of}
use Rattle.vd_trace.specs.Scripts.{end_of, asks_past, shows_past}
use Rattle.vd_trace.specs.Keeping.{work_of, asking_of, showing_of, end_in, positions, lists, HasItems}

-- a guest has as many places as requests
own-length : (sectors : List Sector) (guest from : ℕ) (items : List Item) (item : Item) (own : Bool) → length (positions guest (from + 1) items) ≡ length (requests_of guest (map (asking_of sectors) items)) →
    length (if own then from ∷ positions guest (from + 1) items else positions guest (from + 1) items)
    ≡ length (map (λ a. work_asked a.work) (if own then asking_of sectors item ∷ filter (λ a. eqb a.guest guest) (map (asking_of sectors) items) else filter (λ a. eqb a.guest guest) (map (asking_of sectors) items)))
own-length sectors guest from items item true rest = ap (λ (n : ℕ). suc n) rest
own-length sectors guest from items item false rest = rest

pub length-positions : (sectors : List Sector) (guest from : ℕ) (items : List Item) → length (positions guest from items) ≡ length (requests_of guest (map (asking_of sectors) items))
length-positions sectors guest from [] = refl
length-positions sectors guest from (item ∷ items) = own-length sectors guest from items item (eqb item.guest guest) (length-positions sectors guest (from + 1) items)

-- the place of a request, with what is asked there
pub record IsPlaced (sectors : List Sector) (items : List Item) (place : ℕ) (asked : Option law.Asked) : Type 0 where
  pub inside : place < length items
  pub told : (d : Item) → asked ≡ Some (work_asked (work_of sectors (get_or items place d).work))

-- where it stands first, or where the others stand
placed-here : (sectors : List Sector) (item : Item) (items : List Item) (from : ℕ) → IsPlaced sectors (item ∷ items) (from - from) (Some (work_asked (work_of sectors item.work)))
placed-here sectors item items from =
    let zero-th : from - from ≡ zero = omega arith in
    record { inside = omega arith; told = λ d. rw zero-th refl }

placed-there : (sectors : List Sector) (item : Item) (items : List Item) (place from : ℕ) (asked : Option law.Asked) → from + 1 ≤ place → IsPlaced sectors items (place - (from + 1)) asked → IsPlaced sectors (item ∷ items) (place - from) asked
placed-there sectors item items place from asked later placed =
    let next : place - from ≡ suc (place - (from + 1)) = omega arith in
    record { inside = omega (arith, placed.inside); told = λ d. rw next (placed.told d) }

-- the place of a guest's request, counted from `from`
pub positions-at : (sectors : List Sector) (guest from : ℕ) (items : List Item) (k : ℕ) → k < length (positions guest from items) →
    (from ≤ get_or (positions guest from items) k 0) × IsPlaced sectors items (get_or (positions guest from items) k 0 - from) (slice_get (requests_of guest (map (asking_of sectors) items)) k)
positions-at sectors guest from [] k inside = absurd (omega arith)
positions-at sectors guest from (item ∷ items) k inside = by (eqb item.guest guest) k inside (λ j within. positions-at sectors guest (from + 1) items j within) where
  by : (own : Bool) (k : ℕ) → k < length (if own then from ∷ positions guest (from + 1) items else positions guest (from + 1) items) →
      ((j : ℕ) → j < length (positions guest (from + 1) items) → (from + 1 ≤ get_or (positions guest (from + 1) items) j 0)
      × IsPlaced sectors items (get_or (positions guest (from + 1) items) j 0 - (from + 1)) (slice_get (requests_of guest (map (asking_of sectors) items)) j)) →
      (from ≤ get_or (if own then from ∷ positions guest (from + 1) items else positions guest (from + 1) items) k 0)
      × IsPlaced sectors (item ∷ items) (get_or (if own then from ∷ positions guest (from + 1) items else positions guest (from + 1) items) k 0 - from)
      (slice_get (map (λ a. work_asked a.work) (if own then asking_of sectors item ∷ filter (λ a. eqb a.guest guest) (map (asking_of sectors) items) else filter (λ a. eqb a.guest guest) (map (asking_of sectors) items))) k)
  by true zero inside rest = (omega arith, placed-here sectors item items from)
  by true (suc k) inside rest = let there = rest k (omega arith) in (omega (arith, there.0), placed-there sectors item items _ from _ there.0 there.1)
  by false k inside rest = let there = rest k inside in (omega (arith, there.0), placed-there sectors item items _ from _ there.0 there.1)

-- a guest that the trace isn't for has no requests
pub none-outside : (sectors : List Sector) (guests guest : ℕ) (items : List Item) → All (λ item. (1 ≤ item.guest) × (item.guest ≤ guests)) items → ((1 ≤ guest) → (guest ≤ guests) → ⊥) →
    length (requests_of guest (map (asking_of sectors) items)) ≡ 0
none-outside sectors guests guest [] all outside = refl
none-outside sectors guests guest (item ∷ items) all outside =
    let P : Item → Type 0 = λ (i : Item). (1 ≤ i.guest) × (i.guest ≤ guests) in
    let here = All-head P item items all in
    let other : eqb item.guest guest ≡ false = false_from_ne_true _ (λ e. let same : item.guest ≡ guest = eqb-true _ _ e in outside (omega (arith, here.0, same)) (omega (arith, here.1, same))) in
    rw other (none-outside sectors guests guest items (All-tail P item items all) outside)

-- the places of one guest, among those of all
pub own-places : (guests : ℕ) (sectors : List Sector) (items : List Item) (places : List (Vec ℕ Global)) (asks : List Asking) → HasItems guests sectors items (lists places) asks → (guest : ℕ) → 1 ≤ guest → guest ≤ guests →
    (d : Vec ℕ Global) → (get_or places (guest - 1) d).items ≡ positions guest 0 items
own-places guests sectors items places asks has guest low high d =
    let inside : guest - 1 < length places = omega (arith, has.many, length-map places (λ (v : Vec ℕ Global). v.items)) in
    let same : guest - 1 + 1 ≡ guest = omega arith in
    sym (get_or-map (λ (v : Vec ℕ Global). v.items) places (guest - 1) d [] inside) ∙ has.placed (guest - 1) (omega arith) ∙ ap (λ (g : ℕ). positions g 0 items) same

-- a guest with requests is one that the trace is for
pub inside-where-some : (sectors : List Sector) (guests guest at : ℕ) (items : List Item) → All (λ item. (1 ≤ item.guest) × (item.guest ≤ guests)) items → at < length (requests_of guest (map (asking_of sectors) items)) →
    (1 ≤ guest) × (guest ≤ guests)
inside-where-some sectors guests guest at items all some = by (cases_lt 0 guest) (cases_lt guests guest) where
  by : (0 < guest) ⊎ (guest ≤ 0) → (guests < guest) ⊎ (guest ≤ guests) → (1 ≤ guest) × (guest ≤ guests)
  by (inl low) (inr high) = (low, high)
  by (inr less) _ = absurd (omega (arith, some, less, none-outside sectors guests guest items all (λ low high. omega (arith, low, less))))
  by (inl low) (inl more) = absurd (omega (arith, some, more, none-outside sectors guests guest items all (λ low high. omega (arith, high, more))))

-- a list that is searched behind a view
find-viewed : {X Y : Type 0} (view : X → Y) (p : X → Bool) (q : Y → Bool) (xs : List X) → ((x : X) → q (view x) ≡ p x) → find q (map view xs) ≡ option_map view (find p xs)
find-viewed view p q [] same = refl
find-viewed {X = X} {Y = Y} view p q (x ∷ xs) same = rw (same x) (by (p x) (find-viewed view p q xs same)) where
  by : (b : Bool) → find q (map view xs) ≡ option_map view (find p xs) → (if b then Some (view x) else find q (map view xs)) ≡ option_map view (if b then Some x else find p xs)
  by true rest = refl
  by false rest = rest

end_of-work_of : (sectors : List Sector) (work : Stored) → end_of (work_of sectors work) ≡ end_in work
end_of-work_of sectors (Read f c) = refl
end_of-work_of sectors (Fill f c b) = refl
end_of-work_of sectors (Put f place) = refl
end_of-work_of sectors Flush = refl

-- the first line past a disk, by what is kept of it
number_of-viewed : {X Y : Type 0} (view : X → Y) (number : Y → ℕ) (own : X → ℕ) (found : Option X) → ((x : X) → number (view x) ≡ own x) → option_map number (option_map view found) ≡ option_map own found
number_of-viewed view number own None same = refl
number_of-viewed view number own (Some x) same = ap Some (same x)

pub items-past : (sectors : List Sector) (items : List Item) (size : ℕ) → asks_past size (map (asking_of sectors) items) ≡ option_map (λ i. i.number) (find (λ i. nat_lt size (end_in i.work)) items)
items-past sectors items size =
    ap (option_map (λ a. a.number)) (find-viewed (asking_of sectors) (λ i. nat_lt size (end_in i.work)) (λ a. nat_lt size (end_of a.work)) items (λ i. ap (nat_lt size) (end_of-work_of sectors i.work)))
    ∙ number_of-viewed (asking_of sectors) (λ a. a.number) (λ i. i.number) (find (λ i. nat_lt size (end_in i.work)) items) (λ i. refl)

pub lines-past : (shows : List Shown) (size : ℕ) → shows_past size (map showing_of shows) ≡ option_map (λ s. s.number) (find (λ s. nat_lt size (s.first + s.count)) shows)
lines-past shows size =
    ap (option_map (λ s. s.number)) (find-viewed showing_of (λ s. nat_lt size (s.first + s.count)) (λ s. nat_lt size (s.first + s.count)) shows (λ s. refl))
    ∙ number_of-viewed showing_of (λ s. s.number) (λ s. s.number) (find (λ s. nat_lt size (s.first + s.count)) shows) (λ s. refl)

-- what is handed out

pub filled-front : (content new rest : List Sector) (count n byte : ℕ) (s : Sector) → count ≤ length content → n ≡ count → new ≡ replicate (length (take count content)) s → s.bytes ≡ replicate 512 byte →
    take n (new ++ rest) ≡ replicate count (record { bytes = replicate 512 byte })
filled-front content new rest count n byte s room is filled bytes =
    let size : length (take count content) ≡ count = length-take-le count content room in
    let all : new ≡ replicate count s = filled ∙ ap (λ (m : ℕ). replicate m s) size in
    let many : length new ≡ n = ap length all ∙ length-replicate count s ∙ sym is in
    ap (λ (m : ℕ). take m (new ++ rest)) (sym many) ∙ take-append_seam new rest ∙ all ∙ ap (λ (b : List ℕ). let t : Sector = record { bytes = b } in replicate count t) bytes

pub put-front : (content : List Sector) (s : Sector) → 1 ≤ length content → take 1 (slice_set content 0 s) ≡ s ∷ []
put-front [] s some = absurd (omega arith)
put-front (x ∷ content) s some = refl
