-- The grammar of the bytes is that of the laws.
use Rattle.std.proofs.Common.{ℕ, zero, suc, ◌≡◌, ◌+◌, ◌-◌, ◌*◌, ◌/◌, ◌^◌, ◌==◌, ◌&&◌, ◌<◌, ◌≤◌, ◌↔◌, inl, inr, Bool, true, false, Some, None, nat_le, if◌then◌else◌, lit<, arith, refl, ap, sym, ◌∙◌}
use Rattle.std.specs.Int.{bit_at}
use Rattle.std.proofs.lemmas.Bool.{cases_lt, cases_eq, eqb-true, eq-eqb, ne_eqb, leb-true, le-leb}
use Rattle.std.proofs.lemmas.Nat.{div-mul-add, mod_below, div-add-mod'}
use Rattle.std.proofs.lemmas.Nat.Bits.{bit_at-lt, bit_at-zero, bit_at_above, same_from_bits}
use Rattle.vd_format.specs.Headers.{IsValid}
use Rattle.vd_format.proofs.Rules.{chunk_within}
use Rattle.vd_format.proofs.Bits.{below_from_bits}
use Rattle.vd_image.specs.Image.{Header, IsMapping}
use Rattle.vd_image.specs.Layouts.{layout_of}
use Rattle.vd_image.specs.Decoders.{Entry, IsEntry, shape_of, storage_in, mask_has, mapping_in}
use Rattle.vd_image.proofs.Refusals.{some_below}

-- the mask has the block exactly where the block's bit is set
has_bit : (first mask b : ℕ) → mask_has first mask b ≡ true → (first ≤ b) × (bit_at mask (b - first) ≡ 1)
has_bit first mask b h = go (nat_le first b) refl (bit_at mask (b - first) == 1) refl h
  where
    go : (x : Bool) → nat_le first b ≡ x → (y : Bool) → (bit_at mask (b - first) == 1) ≡ y → (x && y) ≡ true → (first ≤ b) × (bit_at mask (b - first) ≡ 1)
    go true e true f k = (leb-true first b e, eqb-true (bit_at mask (b - first)) 1 f)
    go true e false f k = absurd cc
    go false e y f k = absurd cc

bit_has : (first mask i : ℕ) → bit_at mask i ≡ 1 → mask_has first mask (first + i) ≡ true
bit_has first mask i h =
    let low : nat_le first (first + i) ≡ true = le-leb first (first + i) (omega arith) in
    let high : (bit_at mask (first + i - first) == 1) ≡ true = (let e : first + i - first ≡ i = omega arith in eq-eqb (bit_at mask (first + i - first)) 1 (ap (λ (n : ℕ). bit_at mask n) e ∙ h)) in
    ap (λ (x : Bool). x && (bit_at mask (first + i - first) == 1)) low ∙ high

-- a number is below the power of two that it is the exponent of
pub below_power : (n : ℕ) → n < 2 ^ n
below_power zero = lit< tt
below_power (suc n) = let k = below_power n in let e : 2 ^ suc n ≡ 2 ^ n * 2 = grind arith in omega arith

-- a number that isn't 0 has a bit
some_bit : (mask : ℕ) → (mask ≡ 0 → ⊥) → (i : ℕ) × (bit_at mask i ≡ 1)
some_bit mask not = elim (some_below (λ i. bit_at mask i ≡ 1) mask (λ i less. cases_eq (bit_at mask i) 1)) [
  | inl found ↦ (found.0, found.2)
  | inr none ↦ absurd (not (same_from_bits mask 0 (λ i. all i none ∙ sym (bit_at-zero i))))
]
  where
    all : (i : ℕ) → ((i : ℕ) → i < mask → bit_at mask i ≡ 1 → ⊥) → bit_at mask i ≡ 0
    all i none = elim (cases_lt i mask) [
      | inl less ↦ (let k = bit_at-lt mask i in elim (cases_eq (bit_at mask i) 1) [ inl is ↦ absurd (none i less is) | inr other ↦ omega (arith, k, other) ])
      | inr more ↦ bit_at_above mask mask i (below_power mask) more
    ]

no_storage : (n : ℕ) → n ≡ 0 → storage_in n ≡ None
no_storage n e = ap (λ (x : Bool). if x then None else Some (n - 1)) (eq-eqb n 0 e)

some_storage : (n : ℕ) → (n ≡ 0 → ⊥) → storage_in n ≡ Some (n - 1)
some_storage n not = ap (λ (x : Bool). if x then None else Some (n - 1)) (ne_eqb n 0 not)

storage_is : (n p : ℕ) → storage_in n ≡ Some p → n ≡ p + 1
storage_is n p e = elim (cases_eq n 0) [
  | inl none ↦ absurd (let k = no_storage n none in cc)
  | inr some ↦ (let k = some_storage n some in let same : n - 1 ≡ p = cc in omega (arith, same, some))
]

-- an entry of the grammar is a mapping of the grammar
entry_mapping : (h : Header) (chunk : ℕ) (e : Entry) → IsEntry (shape_of h) chunk e → IsMapping (layout_of h) chunk (mapping_in h chunk e)
entry_mapping h chunk e is = record {
  within = λ p given. let n = storage_is e.storage p given in let k = is.storage in omega arith;
  kind = λ none. is.kind;
  blocks = λ b has.
      let bit = has_bit (chunk * h.chunk) e.mask b has in
      let k = is.blocks (b - chunk * h.chunk) bit.1 in
      let sum : b ≡ chunk * h.chunk + (b - chunk * h.chunk) = omega (arith, bit.0) in
      (omega (arith, k.1, sum), ap (λ (n : ℕ). n / h.chunk) sum ∙ div-mul-add chunk h.chunk (b - chunk * h.chunk) k.0);
  has_storage = λ b has. (e.storage - 1, some_storage e.storage (λ none. let bit = has_bit (chunk * h.chunk) e.mask b has in no_bit (b - chunk * h.chunk) (is.empty.1 none) bit.1));
  has_block = λ p given.
      let bit = some_bit e.mask (λ none. let n = storage_is e.storage p given in let k = is.empty.0 none in omega arith) in
      (chunk * h.chunk + bit.0, bit_has (chunk * h.chunk) e.mask bit.0 bit.1);
}
  where
    no_bit : (i : ℕ) → e.mask ≡ 0 → bit_at e.mask i ≡ 1 → ⊥
    no_bit i none bit = let k : bit_at e.mask i ≡ 0 = ap (λ (n : ℕ). bit_at n i) none ∙ bit_at-zero i in omega arith

-- and the other way
mapping_entry : (h : Header) (chunk : ℕ) (e : Entry) → IsValid h → IsMapping (layout_of h) chunk (mapping_in h chunk e) → IsEntry (shape_of h) chunk e
mapping_entry h chunk e valid is = record {
  storage = elim (cases_eq e.storage 0) [ inl none ↦ omega arith | inr some ↦ (let k = is.within (e.storage - 1) (some_storage e.storage some) in omega (arith, some, k)) ];
  kind = is.kind refl;
  mask = below_from_bits e.mask 64 (λ i bit. let b = of_chunk i bit in let k = (chunk_within h valid).1 in omega arith);
  blocks = λ i bit. (of_chunk i bit, (is.blocks (chunk * h.chunk + i) (bit_has (chunk * h.chunk) e.mask i bit)).0);
  empty = (
    λ none. elim (cases_eq e.storage 0) [
      | inl zero_storage ↦ zero_storage
      | inr some ↦ (let b = is.has_block (e.storage - 1) (some_storage e.storage some) in let bit = has_bit (chunk * h.chunk) e.mask b.0 b.1 in absurd (no_bit (b.0 - chunk * h.chunk) none bit.1))
    ],
    λ none. elim (cases_eq e.mask 0) [
      | inl zero_mask ↦ zero_mask
      | inr some ↦ (let bit = some_bit e.mask some in let p = is.has_storage (chunk * h.chunk + bit.0) (bit_has (chunk * h.chunk) e.mask bit.0 bit.1) in absurd (let k = no_storage e.storage none in let q = p.1 in cc))
    ],
  );
}
  where
    -- a bit is of a block of the chunk
    of_chunk : (i : ℕ) → bit_at e.mask i ≡ 1 → i < h.chunk
    of_chunk i bit =
        let k = is.blocks (chunk * h.chunk + i) (bit_has (chunk * h.chunk) e.mask i bit) in
        let whole = div-add-mod' (chunk * h.chunk + i) h.chunk in
        let rest = mod_below (chunk * h.chunk + i) h.chunk (chunk_within h valid).0 in
        let row : (chunk * h.chunk + i) / h.chunk * h.chunk ≡ chunk * h.chunk = ap (λ (n : ℕ). n * h.chunk) k.1 in
        omega (arith, whole, rest, row)

    no_bit : (i : ℕ) → e.mask ≡ 0 → bit_at e.mask i ≡ 1 → ⊥
    no_bit i none bit = let k : bit_at e.mask i ≡ 0 = ap (λ (n : ℕ). bit_at n i) none ∙ bit_at-zero i in omega arith

pub entry_is_mapping : (h : Header) (chunk : ℕ) (e : Entry) → IsValid h → IsEntry (shape_of h) chunk e ↔ IsMapping (layout_of h) chunk (mapping_in h chunk e)
entry_is_mapping h chunk e valid = (entry_mapping h chunk e, mapping_entry h chunk e valid)
