-- Where the items of each guest stand.
use Rattle.std.proofs.Common.{◌≡◌, ℕ, ◌+◌, ◌-◌, ◌<◌, ◌≤◌, ◌⊎◌, inl, inr, Bool, true, false, List, [], ◌∷◌, ◌++◌, length, get_or, eqb, ap, refl, sym, ◌∙◌, arith, Vec, append-nil, length-append, length-set}
use Rattle.std.proofs.lemmas.Bool.{cases_eq, eq-eqb, eqb-true, false_from_ne_true}
use Rattle.std.proofs.lemmas.List.{map-set, get_or-map, map-append, get_or_append_left, get_or-set_same, get_or-set_other}
use Rattle.std.proofs.lemmas.List.Elements.{All-head, All-tail, All-append, All-cons, All-nil, All-weaker}
use Rattle.std.specs.Prelude.{slice_set, map, if◌then◌else◌}
use Rattle.std.specs.List.{All}
use Rattle.std.specs.declared.alloc.Global.{Global}
use Rattle.vd_law.specs.declared.entry.Sector.{Sector}
use Rattle.vd_trace.specs.declared.kept.Stored.{Stored}
use Rattle.vd_trace.specs.declared.kept.Stored.TheVariants.{Read, Fill, Put, Flush}
use Rattle.vd_trace.specs.declared.kept.Item.{Item}
use Rattle.vd_trace.specs.declared.line.Work.TheVariants as work
use Rattle.vd_trace.specs.Traces.{Asking}
use Rattle.vd_trace.specs.Keeping.{lists, PutsAt, positions, work_of, HasSectorAmong, sectors_in, asking_of, HasItems}

pub puts-at : (index at : ℕ) (old : List (Vec ℕ Global)) (own own' : Vec ℕ Global) → index < length old → own ≡ get_or old index own → own'.items ≡ own.items ++ at ∷ [] → PutsAt index at old (slice_set old index own')
puts-at index at old own own' inside is pushed =
    map-set (λ (v : Vec ℕ Global). v.items) old index own'
    ∙ ap (λ (items : List ℕ). slice_set (lists old) index items) (pushed ∙ ap (λ (items : List ℕ). items ++ at ∷ []) (ap (λ (v : Vec ℕ Global). v.items) is ∙ sym (get_or-map (λ (v : Vec ℕ Global). v.items) old index own [] inside)))

-- the place of one more item, where it is the guest's
abbrev pub place_if : Bool → ℕ → List ℕ
place_if own at = if own then at ∷ [] else []

pub positions-push : (guest from : ℕ) (items : List Item) (item : Item) → positions guest from (items ++ item ∷ []) ≡ positions guest from items ++ place_if (eqb item.guest guest) (from + length items)
positions-push guest from [] item = by (eqb item.guest guest) where
  by : (own : Bool) → (if own then from ∷ [] else []) ≡ place_if own (from + 0)
  by true = ap (λ (n : ℕ). n ∷ []) (omega arith)
  by false = refl
positions-push guest from (x ∷ items) item =
    let more = positions-push guest (from + 1) items item in
    let place : from + 1 + length items ≡ from + length (x ∷ items) = omega arith in
    by (eqb x.guest guest) (more ∙ ap (λ (n : ℕ). positions guest (from + 1) items ++ place_if (eqb item.guest guest) n) place)
  where
    by : (own : Bool) → positions guest (from + 1) (items ++ item ∷ []) ≡ positions guest (from + 1) items ++ place_if (eqb item.guest guest) (from + length (x ∷ items)) →
        (if own then from ∷ positions guest (from + 1) (items ++ item ∷ []) else positions guest (from + 1) (items ++ item ∷ []))
        ≡ (if own then from ∷ positions guest (from + 1) items else positions guest (from + 1) items) ++ place_if (eqb item.guest guest) (from + length (x ∷ items))
    by true more = ap (λ (rest : List ℕ). from ∷ rest) more
    by false more = more

-- more sectors at the end change nothing that is stored
work_of-more : (sectors more : List Sector) (stored : Stored) → HasSectorAmong (length sectors) stored → work_of (sectors ++ more) stored ≡ work_of sectors stored
work_of-more sectors more (Read f c) is = refl
work_of-more sectors more (Fill f c b) is = refl
work_of-more sectors more (Put f place) is = ap (λ (s : Sector). work.Put f s) (get_or_append_left sectors more _ place is)
work_of-more sectors more Flush is = refl

asking-more : (sectors more : List Sector) (items : List Item) → All (λ item. HasSectorAmong (length sectors) item.work) items → map (asking_of (sectors ++ more)) items ≡ map (asking_of sectors) items
asking-more sectors more [] all = refl
asking-more sectors more (item ∷ items) all =
    let P : Item → Type 0 = λ (i : Item). HasSectorAmong (length sectors) i.work in
    let first = work_of-more sectors more item.work (All-head P item items all) in
    let rest = asking-more sectors more items (All-tail P item items all) in cc

stored-more : (many many' : ℕ) (stored : Stored) → many ≤ many' → HasSectorAmong many stored → HasSectorAmong many' stored
stored-more many many' (Read f c) le is = tt
stored-more many many' (Fill f c b) le is = tt
stored-more many many' (Put f place) le is = omega arith
stored-more many many' Flush le is = tt

all-one : {A : Type 0} (P : A → Type 0) (x : A) → P x → All P (x ∷ [])
all-one P x is = All-cons P x [] is (All-nil P)

-- the places, with that of one more item
placed-push : (guests : ℕ) (items : List Item) (item : Item) (old new : List (List ℕ)) → length old ≡ guests → 1 ≤ item.guest → item.guest ≤ guests →
    ((k : ℕ) → k < guests → get_or old k [] ≡ positions (k + 1) 0 items) →
    new ≡ slice_set old (item.guest - 1) (get_or old (item.guest - 1) [] ++ length items ∷ []) →
    (k : ℕ) → k < guests → get_or new k [] ≡ positions (k + 1) 0 (items ++ item ∷ [])
placed-push guests items item old new many low high placed is k inside =
    rw (is, positions-push (k + 1) 0 items item) (by (cases_eq k (item.guest - 1)))
  where
    by : (k ≡ item.guest - 1) ⊎ (k ≡ item.guest - 1 → ⊥) → get_or (slice_set old (item.guest - 1) (get_or old (item.guest - 1) [] ++ length items ∷ [])) k [] ≡ positions (k + 1) 0 items ++ place_if (eqb item.guest (k + 1)) (0 + length items)
    by (inl same) =
        let own : item.guest ≡ k + 1 = omega arith in
        let there : item.guest - 1 < length old = omega arith in
        let at : length items ≡ 0 + length items = omega arith in
        rw (eq-eqb item.guest (k + 1) own, ← at, same, get_or-set_same old (item.guest - 1) (get_or old (item.guest - 1) [] ++ length items ∷ []) [] there)
        (ap (λ (places : List ℕ). places ++ length items ∷ []) (placed (item.guest - 1) (omega arith)))
    by (inr other) =
        let not_own : eqb item.guest (k + 1) ≡ false = false_from_ne_true _ (λ e. other (let same : item.guest ≡ k + 1 = eqb-true _ _ e in omega arith)) in
        rw (not_own, append-nil (positions (k + 1) 0 items), get_or-set_other old (item.guest - 1) k (get_or old (item.guest - 1) [] ++ length items ∷ []) [] other) (placed k inside)

pub items-push : (guests : ℕ) (sectors sectors' : List Sector) (items : List Item) (item : Item) (places places' : List (List ℕ)) (asks : List Asking) →
    HasItems guests sectors items places asks → (more : List Sector) → sectors' ≡ sectors ++ more → HasSectorAmong (length sectors') item.work → 1 ≤ item.guest → item.guest ≤ guests → sectors_in item.work ≤ 2048 →
    places' ≡ slice_set places (item.guest - 1) (get_or places (item.guest - 1) [] ++ length items ∷ []) →
    HasItems guests sectors' (items ++ item ∷ []) places' (asks ++ asking_of sectors' item ∷ [])
items-push guests sectors sectors' items item places places' asks has more grown inside low high size put =
    let longer : length sectors ≤ length sectors' = omega (arith, ap length grown, length-append sectors more) in
    let InOld : Item → Type 0 = λ (i : Item). HasSectorAmong (length sectors) i.work in
    let InNew : Item → Type 0 = λ (i : Item). HasSectorAmong (length sectors') i.work in
    let InRange : Item → Type 0 = λ (i : Item). (1 ≤ i.guest) × (i.guest ≤ guests) in
    record {
      told = map-append (asking_of sectors') items (item ∷ [])
          ∙ ap (λ (front : List Asking). front ++ asking_of sectors' item ∷ []) (rw grown (asking-more sectors more items has.stored) ∙ has.told);
      stored = All-append InNew items (item ∷ []) (All-weaker InOld InNew (λ i is. stored-more (length sectors) (length sectors') i.work longer is) items has.stored) (all-one InNew item inside);
      guests_in = All-append InRange items (item ∷ []) has.guests_in (all-one InRange item (low, high));
      sized = All-append (λ (i : Item). sectors_in i.work ≤ 2048) items (item ∷ []) has.sized (all-one (λ (i : Item). sectors_in i.work ≤ 2048) item size);
      many = ap length put ∙ length-set places (item.guest - 1) (get_or places (item.guest - 1) [] ++ length items ∷ []) ∙ has.many;
      placed = placed-push guests items item places places' has.many low high has.placed put;
    }
