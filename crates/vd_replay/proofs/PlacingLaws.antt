-- Storage and blocks, chunk by chunk.
use Rattle.std.proofs.Common.{ℕ, ◌≡◌, ◌≢◌, ◌+◌, ◌-◌, ◌*◌, ◌/◌, ◌%◌, ◌^◌, ◌==◌, ◌<◌, ◌⊎◌, inl, inr, Bool, true, false, if◌then◌else◌, List, ◌++◌, length, take, drop, replicate, Some, None, refl, ap, sym, ◌∙◌, subst, arith}
use Rattle.std.specs.Prelude.{slice_get, slice_set, min}
use Rattle.std.specs.Int.{bit_at}
use Rattle.std.specs.List.{range_with_len}
use Rattle.std.proofs.lemmas.Bool.{cases_lt, cases_eq, eq-eqb, ne_eqb}
use Rattle.std.proofs.lemmas.List.{length-set, length-append, length-take, length-drop, length-map}
use Rattle.std.proofs.lemmas.List.FromFn.{length-range_with_len}
use Rattle.std.proofs.lemmas.Option.{slice_get_within}
use Rattle.std.proofs.lemmas.Nat.{div-mul-add, mod-mul-add, mod_below, div-add-mod'}
use Rattle.vd_format.specs.declared.map.Entry.{Entry}
use Rattle.vd_format.specs.declared.map.Shape2.{Shape2}
use Rattle.vd_format.specs.Entries.{IsEntry}
use Rattle.vd_format.proofs.Bits.{below_from_bits}
use Rattle.vd_bits.specs.Masks.{bits_of}
use Rattle.vd_bits.specs.Blocks.{Blocks, bits_in, with_mask}
use Rattle.vd_table.specs.Tables.{TableState, Has, with_storage}
use Rattle.vd_table.proofs.Links.{same_some, cases_place}
use Rattle.vd_replay.specs.Placing.{Places, IsTwin, IsPlaced, IsSpread, AreTwins}
use Rattle.vd_lists.proofs.Changes.{slice_set_inside, slice_set_other}
use Rattle.vd_lists.proofs.Places.{slice_get_take, slice_get_drop, slice_get_copied, slice_get_run, slice_get_front, slice_get_back}
use Rattle.vd_lists.proofs.Options.{same_option}

-- ---- storage

pub none_placed : (entries : List Entry) (chunks storage : ℕ) → IsPlaced entries 0 (record { chunks = replicate chunks None; storage = storage })
none_placed entries chunks storage = record {
  given = λ c p has. absurd (none c p has);
  has = λ c p less. absurd (omega (arith, less));
  apart = λ a b p has. absurd (none a p has);
}
  where
    none : (c p : ℕ) → Has (record { chunks = replicate chunks None; storage = storage }) c p → ⊥
    none c p has = let k : None ≡ Some p = slice_get_copied chunks None (Some p) c has in absurd cc

-- a chunk that is not placed has no storage
pub none_yet : (entries : List Entry) (n : ℕ) (table : TableState) → n < length table.chunks → IsPlaced entries n table → slice_get table.chunks n ≡ Some None
none_yet entries n table within placed = elim (cases_place table.chunks n within) [ inl none ↦ none | inr some ↦ absurd (let k = (placed.given n some.0 some.1).0 in omega arith) ]

-- the entry's storage is given to the next chunk
pub placed_more : (entries : List Entry) (n : ℕ) (e : Entry) (table table' : TableState) (fresh fresh' : Blocks) → n < length table.chunks → slice_get entries n ≡ Some e → IsPlaced entries n table → Places e n table fresh table' fresh' → IsPlaced entries (n + 1) table'
placed_more entries n e table table' fresh fresh' within at placed places = elim (cases_eq e.storage 0) [
  | inl none ↦ (let same : table' ≡ table = places.storage ∙ ap (λ (b : Bool). if b then table else with_storage table n (e.storage - 1)) (eq-eqb e.storage 0 none) in
      subst (λ (t : TableState). IsPlaced entries (n + 1) t) (sym same) (without none))
  | inr some ↦ (let same : table' ≡ with_storage table n (e.storage - 1) = places.storage ∙ ap (λ (b : Bool). if b then table else with_storage table n (e.storage - 1)) (ne_eqb e.storage 0 some) in
      subst (λ (t : TableState). IsPlaced entries (n + 1) t) (sym same) (given_one some))
]
  where
    without : e.storage ≡ 0 → IsPlaced entries (n + 1) table
    without none = record {
      given = λ c p has. let g = placed.given c p has in let less = g.0 in (omega arith, g.1);
      has = λ c p less h. elim (cases_lt c n) [
        | inl below ↦ placed.has c p below h
        | inr above ↦ (let same : c ≡ n = omega arith in let there : slice_get entries n ≡ Some h.0 = ap (slice_get entries) (sym same) ∙ h.1 in
            let k : e ≡ h.0 = same_option e h.0 (slice_get entries n) at there in let s : e.storage ≡ p + 1 = ap (λ (x : Entry). x.storage) k ∙ h.2 in absurd (omega arith))
      ];
      apart = placed.apart;
    }

    q : ℕ
    q = e.storage - 1

    more : TableState
    more = with_storage table n q

    free : (by : ℕ) → (e.storage ≡ 0 → ⊥) → Has table by q → ⊥
    free by some has = places.alone by q (omega (arith, some)) has

    new : (c p : ℕ) → Has more c p → ((c ≡ n) × (q ≡ p)) ⊎ ((c ≡ n → ⊥) × Has table c p)
    new c p has = elim (cases_eq c n) [
      | inl same ↦ (let k : slice_get (slice_set table.chunks n (Some q)) n ≡ Some (Some p) = subst (λ (i : ℕ). slice_get (slice_set table.chunks n (Some q)) i ≡ Some (Some p)) same has in
          inl (same, same_some (sym (slice_set_inside table.chunks n (Some q) within) ∙ k)))
      | inr other ↦ inr (other, sym (slice_set_other table.chunks n c (Some q) other) ∙ has)
    ]

    given_one : (e.storage ≡ 0 → ⊥) → IsPlaced entries (n + 1) more
    given_one some = record {
      given = λ c p has. elim (new c p has) [
        | inl here ↦ (omega (arith, here.0), (e, ap (slice_get entries) here.0 ∙ at, (let k = here.1 in omega (arith, some, k))))
        | inr there ↦ (let g = placed.given c p there.1 in let less = g.0 in (omega arith, g.1))
      ];
      has = λ c p less h. elim (cases_lt c n) [
        | inl below ↦ slice_set_other table.chunks n c (Some q) (λ (same : c ≡ n). omega arith) ∙ placed.has c p below h
        | inr above ↦ (let same : c ≡ n = omega arith in let there : slice_get entries n ≡ Some h.0 = ap (slice_get entries) (sym same) ∙ h.1 in
            let k : e ≡ h.0 = same_option e h.0 (slice_get entries n) at there in let s : e.storage ≡ p + 1 = ap (λ (x : Entry). x.storage) k ∙ h.2 in
            let r : q ≡ p = omega arith in
            ap (λ (i : ℕ). slice_get (slice_set table.chunks n (Some q)) i) same ∙ slice_set_inside table.chunks n (Some q) within ∙ ap (λ (x : ℕ). Some (Some x)) r)
      ];
      apart = λ a b p has also. elim (new a p has) [
        | inl here ↦ elim (new b p also) [
          | inl same ↦ here.0 ∙ sym same.0
          | inr other ↦ absurd (free b some (subst (λ (x : ℕ). Has table b x) (sym here.1) other.1))
        ]
        | inr there ↦ elim (new b p also) [
          | inl same ↦ absurd (free a some (subst (λ (x : ℕ). Has table a x) (sym same.1) there.1))
          | inr other ↦ placed.apart a b p there.1 other.1
        ]
      ];
    }

-- two chunks with one storage, the second of which comes next
pub twins_found : (entries : List Entry) (n by : ℕ) (e : Entry) (table : TableState) → slice_get entries n ≡ Some e → IsPlaced entries n table → IsTwin e n table by → AreTwins entries by n
twins_found entries n by e table at placed twin = let g = placed.given by twin.0 twin.2 in record {
  within = slice_get_within entries n e at;
  before = g.0;
  storage = twin.0;
  first_has = g.1;
  second_has = (e, at, twin.1);
  lowest = λ a b p less below has also. let k = placed.apart a b p (placed.has a p (omega (arith, less, below)) has) (placed.has b p below also) in omega (arith, less, k);
}

-- ---- blocks

bits_count : (fresh : Blocks) (n : ℕ) → length (bits_in fresh n) ≡ min fresh.chunk (length fresh.bits - n * fresh.chunk)
bits_count fresh n = length-take fresh.chunk (drop (n * fresh.chunk) fresh.bits) ∙ ap (min fresh.chunk) (length-drop (n * fresh.chunk) fresh.bits)

-- the mask of an entry of the grammar has blocks that exist alone
pub mask_fits : (shape : Shape2) (n : ℕ) (e : Entry) (fresh : Blocks) → fresh.chunk ≡ shape.chunk → length fresh.bits ≡ shape.blocks → IsEntry shape n e → e.mask < 2 ^ length (bits_in fresh n)
mask_fits shape n e fresh chunk blocks is = below_from_bits e.mask (length (bits_in fresh n)) (λ i bit. let k = is.blocks i bit in let inner = k.0 in let all = k.1 in
    let count = bits_count fresh n in let row : n * fresh.chunk ≡ n * shape.chunk = ap (λ (c : ℕ). n * c) chunk in omega arith)

-- a block's bit after a chunk got a mask
masked : (fresh : Blocks) (n mask b : ℕ) → 0 < fresh.chunk → n * fresh.chunk < length fresh.bits → b < length fresh.bits
    → ((b / fresh.chunk ≡ n) × (slice_get (with_mask fresh n mask).bits b ≡ Some (bit_at mask (b % fresh.chunk) == 1))) ⊎ ((b / fresh.chunk ≢ n) × (slice_get (with_mask fresh n mask).bits b ≡ slice_get fresh.bits b))
masked fresh n mask b some starts within = elim (cases_lt b start) [
  | inl low ↦ inr (
    (λ (same : b / fresh.chunk ≡ n). (let row : b / fresh.chunk * fresh.chunk ≡ start = ap (λ (k : ℕ). k * fresh.chunk) same in let r = rest in let s = rest_below in omega arith)),
    slice_get_front (front ++ middle) back b (let k = length-append front middle in let f = front_size in let m = middle_size in omega arith) ∙ slice_get_front front middle b (let f = front_size in omega arith) ∙ slice_get_take start fresh.bits b low,
  )
  | inr from_start ↦ elim (cases_lt b (start + fresh.chunk)) [
    | inl inside ↦ (let place : b - start < count = (let k = bits_count fresh n in omega arith) in
        let e : b ≡ n * fresh.chunk + (b - start) = omega arith in
        let small : b - start < fresh.chunk = omega arith in
        let d : b / fresh.chunk ≡ n = ap (λ (k : ℕ). k / fresh.chunk) e ∙ div-mul-add n fresh.chunk (b - start) small in
        let m : b % fresh.chunk ≡ b - start = ap (λ (k : ℕ). k % fresh.chunk) e ∙ mod-mul-add n fresh.chunk (b - start) small in
        inl (
          d,
          slice_get_front (front ++ middle) back b (let k = length-append front middle in let f = front_size in let m = middle_size in omega arith) ∙ slice_get_back front middle b (let f = front_size in omega arith) ∙ ap (slice_get middle) (let k = front_size in omega arith)
              ∙ in_middle (b - start) place ∙ ap (λ (k : ℕ). Some (bit_at mask k == 1)) (sym m),
        ))
    | inr past ↦ inr (
      (λ (same : b / fresh.chunk ≡ n). (let row : b / fresh.chunk * fresh.chunk ≡ start = ap (λ (k : ℕ). k * fresh.chunk) same in let r = rest in let s = rest_below in omega arith)),
      slice_get_back (front ++ middle) back b (let k = length-append front middle in let f = front_size in let m = middle_size in let c = bits_count fresh n in omega arith)
          ∙ slice_get_drop (start + fresh.chunk) fresh.bits (b - length (front ++ middle)) ∙ ap (slice_get fresh.bits) (let k = length-append front middle in let f = front_size in let m = middle_size in let c = bits_count fresh n in omega arith),
    )
  ]
]
  where
    start : ℕ
    start = n * fresh.chunk

    count : ℕ
    count = length (bits_in fresh n)

    front : List Bool
    front = take start fresh.bits

    middle : List Bool
    middle = bits_of count mask

    back : List Bool
    back = drop (start + fresh.chunk) fresh.bits

    front_size : length front ≡ start
    front_size = length-take start fresh.bits ∙ omega arith

    middle_size : length middle ≡ count
    middle_size = length-map (range_with_len 0 count) (λ (i : ℕ). bit_at mask i == 1) ∙ length-range_with_len 0 count

    rest : b / fresh.chunk * fresh.chunk + b % fresh.chunk ≡ b
    rest = div-add-mod' b fresh.chunk

    rest_below : b % fresh.chunk < fresh.chunk
    rest_below = mod_below b fresh.chunk some

    in_middle : (i : ℕ) → i < count → slice_get middle i ≡ Some (bit_at mask i == 1)
    in_middle i less = slice_get_run (λ (k : ℕ). bit_at mask k == 1) 0 count i less ∙ ap (λ (k : ℕ). Some (bit_at mask k == 1)) (omega arith)

pub none_spread : (entries : List Entry) (fresh : Blocks) → IsSpread entries 0 fresh
none_spread entries fresh = record { bit = λ b e within less. absurd (omega (arith, less)) }

pub spread_more : (entries : List Entry) (n : ℕ) (e : Entry) (fresh fresh' : Blocks) → 0 < fresh.chunk → n * fresh.chunk < length fresh.bits → length fresh'.bits ≡ length fresh.bits → slice_get entries n ≡ Some e → fresh' ≡ with_mask fresh n e.mask
    → IsSpread entries n fresh → IsSpread entries (n + 1) fresh'
spread_more entries n e fresh fresh' some starts size at is before = subst (λ (f : Blocks). IsSpread entries (n + 1) f) (sym is) (record { bit = bits })
  where
    sizes : length (with_mask fresh n e.mask).bits ≡ length fresh.bits
    sizes = ap (λ (f : Blocks). length f.bits) (sym is) ∙ size

    bits : (b : ℕ) (x : Entry) → b < length (with_mask fresh n e.mask).bits → b / fresh.chunk < n + 1 → slice_get entries (b / fresh.chunk) ≡ Some x → slice_get (with_mask fresh n e.mask).bits b ≡ Some (bit_at x.mask (b % fresh.chunk) == 1)
    bits b x within less there = let inside : b < length fresh.bits = (let s = sizes in omega arith) in elim (masked fresh n e.mask b some starts inside) [
      | inl here ↦ (let k : slice_get entries n ≡ Some x = subst (λ (i : ℕ). slice_get entries i ≡ Some x) here.0 there in
          let same : e ≡ x = same_option e x (slice_get entries n) at k in here.1 ∙ ap (λ (y : Entry). Some (bit_at y.mask (b % fresh.chunk) == 1)) same)
      | inr other ↦ other.1 ∙ before.bit b x inside (let no = other.0 in omega (arith, no, less)) there
    ]

-- the sizes after a mask
pub masked_size : (fresh : Blocks) (n mask : ℕ) → n * fresh.chunk < length fresh.bits → length (with_mask fresh n mask).bits ≡ length fresh.bits
masked_size fresh n mask starts =
    length-append (take (n * fresh.chunk) fresh.bits ++ bits_of (length (bits_in fresh n)) mask) (drop (n * fresh.chunk + fresh.chunk) fresh.bits)
    ∙ (let a = length-append (take (n * fresh.chunk) fresh.bits) (bits_of (length (bits_in fresh n)) mask) in
    let b = length-take (n * fresh.chunk) fresh.bits in
    let c = length-map (range_with_len 0 (length (bits_in fresh n))) (λ (i : ℕ). bit_at mask i == 1) ∙ length-range_with_len 0 (length (bits_in fresh n)) in
    let d = length-drop (n * fresh.chunk + fresh.chunk) fresh.bits in
    let k = bits_count fresh n in omega arith)

-- the sizes after a chunk was placed
pub placed_sizes : (n : ℕ) (e : Entry) (table table' : TableState) (fresh fresh' : Blocks) → Places e n table fresh table' fresh' → (length table'.chunks ≡ length table.chunks) × (table'.storage ≡ table.storage)
placed_sizes n e table table' fresh fresh' places = by_test (e.storage == 0) refl
  where
    by_test : (b : Bool) → (e.storage == 0) ≡ b → (length table'.chunks ≡ length table.chunks) × (table'.storage ≡ table.storage)
    by_test true is = let k : table' ≡ table = places.storage ∙ ap (λ (b : Bool). if b then table else with_storage table n (e.storage - 1)) is in (ap (λ (t : TableState). length t.chunks) k, ap (λ (t : TableState). t.storage) k)
    by_test false is =
        let k : table' ≡ with_storage table n (e.storage - 1) = places.storage ∙ ap (λ (b : Bool). if b then table else with_storage table n (e.storage - 1)) is in
        (ap (λ (t : TableState). length t.chunks) k ∙ length-set table.chunks n (Some (e.storage - 1)), ap (λ (t : TableState). t.storage) k)
