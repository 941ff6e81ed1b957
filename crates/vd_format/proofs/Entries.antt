-- An entry that is written is read again, and the bytes from which an entry was read are its spelling.
use Rattle.std.proofs.Common.{◌≡◌, ℕ, zero, suc, ◌+◌, ◌*◌, ◌^◌, ◌<◌, ◌≤◌, ◌↔◌, Bool, true, false, not, cond, Result, Ok, Err, List, [], ◌++◌, length, take, drop, refl, sym, ap, ◌∙◌, arith, inl, inr}
use Rattle.std.specs.Prelude.{◌&&◌, ◌==◌, nat_le, nat_lt}
use Rattle.std.proofs.lemmas.Bool.{and_parts, and_from, cases_Bool, eqb-true, eq-eqb, eqb-false, ne_eqb, leb-true, le-leb, ltb-true, lt-ltb, not-true, not_from_false, cond-true, cond-false, both_ways}
use Rattle.std.proofs.lemmas.Bool.Decides.{eqb_tells}
use Rattle.std.proofs.lemmas.List.{drop-drop, drop_at, take-append-drop}
use Rattle.byteorder.specs.Endian.{little_number}
use Rattle.byteorder.specs.Numbers.{little_number-reads_back}
use Rattle.vd_law.specs.declared.entry.Sector.{Sector}
use Rattle.vd_format.specs.declared.map.Entry.{Entry}
use Rattle.vd_format.specs.declared.map.Shape2.{Shape2}
use Rattle.vd_format.specs.Numbers.{IsBytes, u32_at, u64_at, u32_bytes, u64_bytes}
use Rattle.vd_format.specs.Entries.{Fits, IsEntry, kind_of, entry_bytes, entry_from, has_kind, blocks_in, is_entry, entry_at, has_entry, entry_or_storage, bytes_at, SpellsEntry, IsBadEntry}
use Rattle.vd_format.proofs.Bytes.{take-then, take-u32_at, take-u64_at}
use Rattle.vd_format.proofs.Bits.{below_from_bits, bits_below}

-- ---- bytes both ways

pub u32_at-drop : (bytes : List ℕ) (at k : ℕ) → u32_at bytes (at + k) ≡ u32_at (drop at bytes) k
unfolding u32_at
u32_at-drop bytes at k = ap (little_number 4) (sym (drop-drop k at bytes))

pub u64_at-drop : (bytes : List ℕ) (at k : ℕ) → u64_at bytes (at + k) ≡ u64_at (drop at bytes) k
unfolding u64_at
u64_at-drop bytes at k = ap (little_number 8) (sym (drop-drop k at bytes))

u32_at-front : (bytes : List ℕ) (at : ℕ) → u32_at bytes at ≡ u32_at (drop at bytes) 0
unfolding u32_at
u32_at-front bytes at = refl

pub length-entry_bytes : (e : Entry) → length (entry_bytes e) ≡ 16
unfolding entry_bytes
length-entry_bytes e = refl

kind-le : (e : Entry) → kind_of e ≤ 1
kind-le e = elim e.zeros as (λ (b : Bool). cond b 1 0 ≤ 1) [ true ↦ omega arith | false ↦ omega arith ]

zeros-kind : (zeros : Bool) → not (cond zeros 1 0 == 0) ≡ zeros
zeros-kind true = refl
zeros-kind false = refl

kind-zeros : (kind : ℕ) → kind ≤ 1 → cond (not (kind == 0)) 1 0 ≡ kind
kind-zeros zero low = refl
kind-zeros (suc zero) low = refl
kind-zeros (suc (suc k)) low = absurd (omega arith)

-- what stands from a place on is read there
entry_from-drop : (bytes : List ℕ) (at : ℕ) → entry_from bytes at ≡ entry_from (drop at bytes) 0
unfolding entry_from
entry_from-drop bytes at = rw (u32_at-front bytes at, u32_at-drop bytes at 4, u64_at-drop bytes at 8) refl

has_kind-drop : (bytes : List ℕ) (at : ℕ) → has_kind bytes at ≡ has_kind (drop at bytes) 0
unfolding has_kind
has_kind-drop bytes at = rw (u32_at-drop bytes at 4) refl

entry_from-bytes : (e : Entry) (rest : List ℕ) → Fits e → entry_from (entry_bytes e ++ rest) 0 ≡ e
unfolding entry_from entry_bytes u32_at u64_at
entry_from-bytes e rest fits =
    let kind : kind_of e < 2 ^ 32 = omega (arith, kind-le e) in
    rw (little_number-reads_back 4 e.storage [] fits.storage, little_number-reads_back 4 (kind_of e) [] kind, little_number-reads_back 8 e.mask [] fits.mask, zeros-kind e.zeros) refl

has_kind-bytes : (e : Entry) (rest : List ℕ) → has_kind (entry_bytes e ++ rest) 0 ≡ true
unfolding has_kind entry_bytes u32_at
has_kind-bytes e rest =
    let kind : kind_of e < 2 ^ 32 = omega (arith, kind-le e) in
    rw (little_number-reads_back 4 (kind_of e) [] kind) (le-leb (kind_of e) 1 (kind-le e))

-- an entry that is spelled from a place on is read there
pub entry_from-append : (front rest : List ℕ) (at : ℕ) (e : Entry) → length front ≡ at → Fits e → entry_from (front ++ (entry_bytes e ++ rest)) at ≡ e
entry_from-append front rest at e len fits =
    entry_from-drop (front ++ (entry_bytes e ++ rest)) at ∙ ap (λ (bytes : List ℕ). entry_from bytes 0) (drop_at front (entry_bytes e ++ rest) at len) ∙ entry_from-bytes e rest fits

pub has_kind-append : (front rest : List ℕ) (at : ℕ) (e : Entry) → length front ≡ at → has_kind (front ++ (entry_bytes e ++ rest)) at ≡ true
has_kind-append front rest at e len =
    has_kind-drop (front ++ (entry_bytes e ++ rest)) at ∙ ap (λ (bytes : List ℕ). has_kind bytes 0) (drop_at front (entry_bytes e ++ rest) at len) ∙ has_kind-bytes e rest

-- the bytes from which an entry was read
pub take-entry_from : (bytes : List ℕ) (at : ℕ) → IsBytes bytes → at + 16 ≤ length bytes → has_kind bytes at ≡ true → take 16 (drop at bytes) ≡ entry_bytes (entry_from bytes at)
unfolding entry_from has_kind entry_bytes
take-entry_from bytes at fits inside kind =
    let here : List ℕ = drop at bytes in
    let storage : take 4 here ≡ u32_bytes (u32_at bytes at) = take-u32_at bytes at fits (omega arith) in
    let middle : take 4 (drop 4 here) ≡ u32_bytes (kind_of (entry_from bytes at)) =
    ap (take 4) (drop-drop 4 at bytes) ∙ take-u32_at bytes (at + 4) fits (omega arith) ∙ ap u32_bytes (sym (kind-zeros (u32_at bytes (at + 4)) (leb-true (u32_at bytes (at + 4)) 1 kind))) in
    let mask : take 8 (drop 8 here) ≡ u64_bytes (u64_at bytes (at + 8)) = ap (take 8) (drop-drop 8 at bytes) ∙ take-u64_at bytes (at + 8) fits (omega arith) in
    let first = take-then here (u32_bytes (u32_at bytes at)) (u32_bytes (kind_of (entry_from bytes at))) 4 4 storage middle in
    take-then here (u32_bytes (u32_at bytes at) ++ u32_bytes (kind_of (entry_from bytes at))) (u64_bytes (u64_at bytes (at + 8))) 8 8 first mask

-- ---- the grammar and its test say the same

same_when : (a b : ℕ) → (cond (a == 0) (b == 0) (not (b == 0)) ≡ true) → (a ≡ 0) ↔ (b ≡ 0)
same_when a b told =
    elim (eqb_tells a 0) [
      | inl none ↦ (let other : (b == 0) ≡ true = sym (cond-true (a == 0) (b == 0) (not (b == 0)) none.0) ∙ told in (λ _. eqb-true b 0 other, λ _. none.1))
      | inr some ↦ (let other : not (b == 0) ≡ true = sym (cond-false (a == 0) (b == 0) (not (b == 0)) some.0) ∙ told in
          (λ same. absurd (some.1 same), λ same. absurd (eqb-false b 0 (not-true (b == 0) other) same)))
    ]

when_same : (a b : ℕ) → ((a ≡ 0) ↔ (b ≡ 0)) → cond (a == 0) (b == 0) (not (b == 0)) ≡ true
when_same a b same =
    elim (eqb_tells a 0) [
      | inl none ↦ cond-true (a == 0) (b == 0) (not (b == 0)) none.0 ∙ eq-eqb b 0 (same.0 none.1)
      | inr some ↦ cond-false (a == 0) (b == 0) (not (b == 0)) some.0 ∙ not_from_false (b == 0) (ne_eqb b 0 (λ other. some.1 (same.1 other)))
    ]

block_exists : (shape : Shape2) (chunk i : ℕ) → i < blocks_in shape chunk → (i < shape.chunk) × (chunk * shape.chunk + i < shape.blocks)
block_exists shape chunk i below = (omega arith, omega arith)

exists_block : (shape : Shape2) (chunk i : ℕ) → i < 64 → (i < shape.chunk) × (chunk * shape.chunk + i < shape.blocks) → i < blocks_in shape chunk
exists_block shape chunk i low here = omega (arith, here.0, here.1)

pub entry_grammar : (shape : Shape2) (chunk : ℕ) (e : Entry) → is_entry shape chunk e ≡ true → IsEntry shape chunk e
unfolding is_entry
entry_grammar shape chunk e told =
    let last = and_parts (nat_le e.storage shape.storage && not e.zeros && nat_lt e.mask (2 ^ blocks_in shape chunk)) (cond (e.mask == 0) (e.storage == 0) (not (e.storage == 0))) told in
    let mask = and_parts (nat_le e.storage shape.storage && not e.zeros) (nat_lt e.mask (2 ^ blocks_in shape chunk)) last.0 in
    let first = and_parts (nat_le e.storage shape.storage) (not e.zeros) mask.0 in
    let below : e.mask < 2 ^ blocks_in shape chunk = ltb-true e.mask (2 ^ blocks_in shape chunk) mask.1 in
    record {
      storage = leb-true e.storage shape.storage first.0;
      kind = not-true e.zeros first.1;
      mask = below_from_bits e.mask 64 (λ i set. (let low = bits_below e.mask (blocks_in shape chunk) i below set in omega (arith, low)));
      blocks = λ i set. block_exists shape chunk i (bits_below e.mask (blocks_in shape chunk) i below set);
      empty = same_when e.mask e.storage last.1;
    }

pub grammar_entry : (shape : Shape2) (chunk : ℕ) (e : Entry) → IsEntry shape chunk e → is_entry shape chunk e ≡ true
unfolding is_entry
grammar_entry shape chunk e is =
    let below : e.mask < 2 ^ blocks_in shape chunk = below_from_bits e.mask (blocks_in shape chunk) (λ i set. exists_block shape chunk i (bits_below e.mask 64 i is.mask set) (is.blocks i set)) in
    and_from (nat_le e.storage shape.storage && not e.zeros && nat_lt e.mask (2 ^ blocks_in shape chunk)) (cond (e.mask == 0) (e.storage == 0) (not (e.storage == 0)))
    (and_from (nat_le e.storage shape.storage && not e.zeros) (nat_lt e.mask (2 ^ blocks_in shape chunk))
    (and_from (nat_le e.storage shape.storage) (not e.zeros) (le-leb e.storage shape.storage is.storage) (not_from_false e.zeros is.kind))
    (lt-ltb e.mask (2 ^ blocks_in shape chunk) below))
    (when_same e.mask e.storage is.empty)

-- what is in the grammar has room in its bytes
pub fits_grammar : (shape : Shape2) (chunk : ℕ) (e : Entry) → shape.storage < 2 ^ 32 → IsEntry shape chunk e → Fits e
fits_grammar shape chunk e small is = record { storage = omega (arith, small, is.storage); mask = is.mask }

-- ---- an entry at a place of a sector

-- bytes that begin with an entry's are read as it
front_bytes : (e : Entry) (bytes : List ℕ) → take 16 bytes ≡ entry_bytes e → bytes ≡ entry_bytes e ++ drop 16 bytes
front_bytes e bytes is = sym (take-append-drop 16 bytes) ∙ ap (λ (front : List ℕ). front ++ drop 16 bytes) is

pub entry_at-bytes : (sector : Sector) (place : ℕ) (e : Entry) → Fits e → bytes_at sector place ≡ entry_bytes e → entry_at sector place ≡ e
entry_at-bytes sector place e fits is =
    entry_from-drop sector.bytes (16 * place) ∙ ap (λ (bytes : List ℕ). entry_from bytes 0) (front_bytes e (drop (16 * place) sector.bytes) is) ∙ entry_from-bytes e (drop 16 (drop (16 * place) sector.bytes)) fits

pub has_kind-at : (sector : Sector) (place : ℕ) (e : Entry) → bytes_at sector place ≡ entry_bytes e → has_kind sector.bytes (16 * place) ≡ true
has_kind-at sector place e is =
    has_kind-drop sector.bytes (16 * place) ∙ ap (λ (bytes : List ℕ). has_kind bytes 0) (front_bytes e (drop (16 * place) sector.bytes) is) ∙ has_kind-bytes e (drop 16 (drop (16 * place) sector.bytes))

spelled_has : (shape : Shape2) (chunk : ℕ) (sector : Sector) (place : ℕ) (e : Entry) → shape.storage < 2 ^ 32 → SpellsEntry shape chunk sector place e → has_entry shape chunk sector place ≡ true
spelled_has shape chunk sector place e small spells =
    let at = entry_at-bytes sector place e (fits_grammar shape chunk e small spells.grammar) spells.bytes in
    and_from (is_entry shape chunk (entry_at sector place)) (has_kind sector.bytes (16 * place)) (ap (is_entry shape chunk) at ∙ grammar_entry shape chunk e spells.grammar) (has_kind-at sector place e spells.bytes)

has_spelled : (shape : Shape2) (chunk : ℕ) (sector : Sector) (place : ℕ) → IsBytes sector.bytes → length sector.bytes ≡ 512 → place < 32 → has_entry shape chunk sector place ≡ true → SpellsEntry shape chunk sector place (entry_at sector place)
has_spelled shape chunk sector place fits len inside has =
    let both = and_parts (is_entry shape chunk (entry_at sector place)) (has_kind sector.bytes (16 * place)) has in
    record { grammar = entry_grammar shape chunk (entry_at sector place) both.0; bytes = take-entry_from sector.bytes (16 * place) fits (omega arith) both.1 }

storage-at : (sector : Sector) (place : ℕ) → (entry_at sector place).storage ≡ u32_at sector.bytes (16 * place)
unfolding entry_from
storage-at sector place = refl

abbrev ok_entry : Entry → Result Entry ℕ
ok_entry e = Ok e

abbrev err_entry : ℕ → Result Entry ℕ
err_entry storage = Err storage

entry_is : (a b : Entry) → ok_entry a ≡ ok_entry b → a ≡ b
entry_is a b told = cc

-- an entry is read exactly where the sector spells it
pub entry_of-ok : (shape : Shape2) (chunk : ℕ) (sector : Sector) (place : ℕ) (e : Entry) → shape.storage < 2 ^ 32 → IsBytes sector.bytes → length sector.bytes ≡ 512 → place < 32 → (entry_or_storage shape chunk sector place ≡ Ok e) ↔ SpellsEntry shape chunk sector place e
unfolding entry_or_storage
entry_of-ok shape chunk sector place e small fits len inside = (
  λ told. elim (cases_Bool (has_entry shape chunk sector place)) [
    | inl has ↦ rw (← entry_is (entry_at sector place) e (sym (cond-true (has_entry shape chunk sector place) (ok_entry (entry_at sector place)) (Err (entry_at sector place).storage) has) ∙ told)) (has_spelled shape chunk sector place fits len inside has)
    | inr none ↦ absurd (let bad = sym (cond-false (has_entry shape chunk sector place) (ok_entry (entry_at sector place)) (Err (entry_at sector place).storage) none) ∙ told in cc)
  ],
  λ spells. cond-true (has_entry shape chunk sector place) (ok_entry (entry_at sector place)) (Err (entry_at sector place).storage) (spelled_has shape chunk sector place e small spells)
      ∙ ap ok_entry (entry_at-bytes sector place e (fits_grammar shape chunk e small spells.grammar) spells.bytes),
)

-- and refused exactly where it spells none
pub entry_of-err : (shape : Shape2) (chunk : ℕ) (sector : Sector) (place storage : ℕ) → shape.storage < 2 ^ 32 → IsBytes sector.bytes → length sector.bytes ≡ 512 → place < 32 → (entry_or_storage shape chunk sector place ≡ Err storage) ↔ IsBadEntry shape chunk sector place storage
unfolding entry_or_storage
entry_of-err shape chunk sector place storage small fits len inside =
    let at = storage-at sector place in (
      λ told. elim (cases_Bool (has_entry shape chunk sector place)) [
        | inl has ↦ absurd (let good = sym (cond-true (has_entry shape chunk sector place) (ok_entry (entry_at sector place)) (Err (entry_at sector place).storage) has) ∙ told in cc)
        | inr none ↦ (let bad = sym (cond-false (has_entry shape chunk sector place) (ok_entry (entry_at sector place)) (Err (entry_at sector place).storage) none) ∙ told in
            record { says = cc; unspelled = λ e spells. both_ways (has_entry shape chunk sector place) none (spelled_has shape chunk sector place e small spells) })
      ],
      λ bad. elim (cases_Bool (has_entry shape chunk sector place)) [
        | inl has ↦ absurd (bad.unspelled (entry_at sector place) (has_spelled shape chunk sector place fits len inside has))
        | inr none ↦ cond-false (has_entry shape chunk sector place) (ok_entry (entry_at sector place)) (Err (entry_at sector place).storage) none ∙ ap err_entry (at ∙ bad.says)
      ],
    )
