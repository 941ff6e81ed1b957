-- A header that is spelled is read, and a sector from which a header is read spells it.
use Rattle.std.proofs.Common.{◌≡◌, ◌≢◌, ℕ, ◌^◌, ◌<◌, ◌↔◌, true, false, List, [], length, take, drop, replicate, Option, Some, None, Result, Ok, Err, refl, sym, ap, ◌∙◌, arith, inl, inr}
use Rattle.std.specs.Prelude.{slice_range}
use Rattle.std.proofs.lemmas.Bool.{and_parts, cases_Bool}
use Rattle.std.proofs.lemmas.List.{take_all, length-take, length-drop}
use Rattle.byteorder.specs.Numbers.{little_number-reads_back}
use Rattle.vd_law.specs.declared.entry.Sector.{Sector}
use Rattle.vd_format.specs.declared.header.Header.{Header}
use Rattle.vd_format.specs.declared.header.HeaderError.{HeaderError}
use Rattle.vd_format.specs.declared.header.HeaderError.TheVariants.{NotImage, Version, Field}
use Rattle.vd_format.specs.Numbers.{IsBytes, u32_at, u64_at, u32_bytes, u64_bytes, put_at, are_zeros, has_magic}
use Rattle.vd_format.specs.Headers.{IsValid, SpellsHeader, HasHeaderMagic, HasOtherVersion, HasWrongField, header_magic, spelling, fields_in, zeros_in, is_version, judged_fields, first_wrong, unless_wrong, header_of}
use Rattle.vd_format.proofs.Bytes.{take-then, take-magic, magic-take, take-u32_at, take-u64_at, zeros-are, IsWritten, written-part, written-zeros}
use Rattle.vd_format.proofs.Rules.{none_wrong, wrong_none, valid_from, passes_from, known_version, version_known, block_within, chunk_within, size_within, storage_within}

zeros-part : (bytes : List ℕ) (n : ℕ) → length bytes ≡ n → are_zeros bytes ≡ true → bytes ≡ replicate n 0
zeros-part bytes n len told = zeros-are bytes told ∙ ap (λ (k : ℕ). replicate k 0) len

-- bytes with the magic and the zeros are the spelling of their fields
pub spelled : (bytes : List ℕ) → IsBytes bytes → length bytes ≡ 512 → has_magic header_magic bytes ≡ true → zeros_in bytes ≡ true → bytes ≡ spelling (fields_in bytes)
unfolding fields_in spelling
spelled bytes fits len magic zeros =
    let both = and_parts (are_zeros (slice_range bytes 28 32)) (are_zeros (drop 56 bytes)) zeros in
    let inner : take 4 (drop 28 bytes) ≡ replicate 4 0 = zeros-part (slice_range bytes 28 32) 4 (omega (arith, length-take 4 (drop 28 bytes), length-drop 28 bytes)) both.0 in
    let outer : drop 56 bytes ≡ replicate 456 0 = zeros-part (drop 56 bytes) 456 (omega (arith, length-drop 56 bytes)) both.1 in
    let last : take 456 (drop 56 bytes) ≡ replicate 456 0 = take_all 456 (drop 56 bytes) (omega (arith, length-drop 56 bytes)) ∙ outer in
    let t8 = take-magic header_magic bytes magic in
    let t12 = take-then bytes header_magic (u32_bytes (u32_at bytes 8)) 8 4 t8 (take-u32_at bytes 8 fits (omega arith)) in
    let t16 = take-then bytes _ (u32_bytes (u32_at bytes 12)) 12 4 t12 (take-u32_at bytes 12 fits (omega arith)) in
    let t20 = take-then bytes _ (u32_bytes (u32_at bytes 16)) 16 4 t16 (take-u32_at bytes 16 fits (omega arith)) in
    let t24 = take-then bytes _ (u32_bytes (u32_at bytes 20)) 20 4 t20 (take-u32_at bytes 20 fits (omega arith)) in
    let t28 = take-then bytes _ (u32_bytes (u32_at bytes 24)) 24 4 t24 (take-u32_at bytes 24 fits (omega arith)) in
    let t32 = take-then bytes _ (replicate 4 0) 28 4 t28 inner in
    let t40 = take-then bytes _ (u64_bytes (u64_at bytes 32)) 32 8 t32 (take-u64_at bytes 32 fits (omega arith)) in
    let t48 = take-then bytes _ (u64_bytes (u64_at bytes 40)) 40 8 t40 (take-u64_at bytes 40 fits (omega arith)) in
    let t56 = take-then bytes _ (u64_bytes (u64_at bytes 48)) 48 8 t48 (take-u64_at bytes 48 fits (omega arith)) in
    let t512 = take-then bytes _ (replicate 456 0) 56 456 t56 last in
    sym (take_all 512 bytes (omega arith)) ∙ t512

-- the fields of the spelling of a valid header are the header's
pub fields_in-spelling : (h : Header) → IsValid h → fields_in (spelling h) ≡ h
unfolding fields_in spelling u32_at u64_at
fields_in-spelling h valid =
    let version : h.version < 2 ^ 32 = elim valid.version [ inl one ↦ omega (arith, one) | inr two ↦ omega (arith, two) ] in
    let block : h.block < 2 ^ 32 = omega (arith, (block_within h valid).1) in
    let chunk : h.chunk < 2 ^ 32 = omega (arith, (chunk_within h valid).1) in
    let storage : h.storage < 2 ^ 32 = omega (arith, storage_within h valid) in
    let slots : h.slots < 2 ^ 32 = omega (arith, valid.slots) in
    let size : h.size < 2 ^ 64 = omega (arith, size_within h valid) in
    let tracked : h.tracked < 2 ^ 64 = omega (arith, valid.tracked, size) in
    let generation : h.generation < 2 ^ 64 = omega (arith, valid.generation) in
    rw (
      little_number-reads_back 4 h.version [] version,
      little_number-reads_back 4 h.block [] block,
      little_number-reads_back 4 h.chunk [] chunk,
      little_number-reads_back 4 h.storage [] storage,
      little_number-reads_back 4 h.slots [] slots,
      little_number-reads_back 8 h.size [] size,
      little_number-reads_back 8 h.tracked [] tracked,
      little_number-reads_back 8 h.generation [] generation,
    ) refl

magic-spelling : (h : Header) → has_magic header_magic (spelling h) ≡ true
unfolding has_magic spelling
magic-spelling h = refl

zeros_in-spelling : (h : Header) → zeros_in (spelling h) ≡ true
unfolding are_zeros spelling
zeros_in-spelling h = refl

-- the header that is spelled is read
pub header_of-spelling : (sector : Sector) (h : Header) → SpellsHeader sector h → header_of sector ≡ Ok h
unfolding header_of
header_of-spelling sector h spells =
    let magic : has_magic header_magic sector.bytes ≡ true = ap (has_magic header_magic) spells.bytes ∙ magic-spelling h in
    let zeros : zeros_in sector.bytes ≡ true = ap zeros_in spells.bytes ∙ zeros_in-spelling h in
    let fields : fields_in sector.bytes ≡ h = ap fields_in spells.bytes ∙ fields_in-spelling h spells.valid in
    rw (magic, fields, zeros, known_version h.version spells.valid.version, wrong_none h true (passes_from h spells.valid)) refl

-- what is read of a sector: each of the three ways, in order
pub data Reads (sector : Sector) (read : Result Header HeaderError) : Type 0 where
  No_image : has_magic header_magic sector.bytes ≡ false → read ≡ Err NotImage → Reads sector read
  Other_version : has_magic header_magic sector.bytes ≡ true → is_version (fields_in sector.bytes).version ≡ false → read ≡ Err (Version (fields_in sector.bytes).version) → Reads sector read
  Judged : has_magic header_magic sector.bytes ≡ true → is_version (fields_in sector.bytes).version ≡ true
      → read ≡ unless_wrong (fields_in sector.bytes) (first_wrong (judged_fields (fields_in sector.bytes) (zeros_in sector.bytes))) → Reads sector read

pub reads : (sector : Sector) → Reads sector (header_of sector)
unfolding header_of
reads sector =
    elim (cases_Bool (has_magic header_magic sector.bytes)) [
      | inr none ↦ No_image none (rw none refl)
      | inl magic ↦ elim (cases_Bool (is_version (fields_in sector.bytes).version)) [
        | inr other ↦ Other_version magic other (rw (magic, other) refl)
        | inl version ↦ Judged magic version (rw (magic, version) refl)
      ]
    ]

-- ---- each answer exactly where its sentence says

unless_wrong-ok : (h g : Header) (wrong : Option ℕ) → unless_wrong h wrong ≡ Ok g → (wrong ≡ None) × (h ≡ g)
unless_wrong-ok h g None told = (refl, cc)
unless_wrong-ok h g (Some n) told = absurd cc

unless_wrong-field : (h : Header) (n : ℕ) (wrong : Option ℕ) → unless_wrong h wrong ≡ Err (Field n) → wrong ≡ Some n
unless_wrong-field h n None told = absurd cc
unless_wrong-field h n (Some m) told = cc

unless_wrong-other : (h : Header) (wrong : Option ℕ) (e : HeaderError) → ((n : ℕ) → e ≡ Field n → ⊥) → unless_wrong h wrong ≡ Err e → ⊥
unless_wrong-other h None e other told = cc
unless_wrong-other h (Some n) e other told = other n cc

read_spells : (sector : Sector) (h : Header) (read : Result Header HeaderError) → IsBytes sector.bytes → length sector.bytes ≡ 512 → Reads sector read → read ≡ Ok h → SpellsHeader sector h
read_spells sector h read fits len (No_image magic none) told = absurd cc
read_spells sector h read fits len (Other_version magic version other) told = absurd cc
read_spells sector h read fits len (Judged magic version answer) told =
    let right = unless_wrong-ok (fields_in sector.bytes) h (first_wrong (judged_fields (fields_in sector.bytes) (zeros_in sector.bytes))) (sym answer ∙ told) in
    let all = none_wrong (fields_in sector.bytes) (zeros_in sector.bytes) right.0 in
    rw (← right.1) (record { valid = valid_from (fields_in sector.bytes) (zeros_in sector.bytes) version all; bytes = spelled sector.bytes fits len magic all.zeros_are })

-- a header is read exactly where the sector spells it
pub header_of-ok : (sector : Sector) (h : Header) → IsBytes sector.bytes → length sector.bytes ≡ 512 → (header_of sector ≡ Ok h) ↔ SpellsHeader sector h
header_of-ok sector h fits len = (read_spells sector h (header_of sector) fits len (reads sector), header_of-spelling sector h)

is_image : (sector : Sector) → has_magic header_magic sector.bytes ≡ true → HasHeaderMagic sector
is_image sector magic = take-magic header_magic sector.bytes magic

no_image : (sector : Sector) → has_magic header_magic sector.bytes ≡ false → HasHeaderMagic sector → ⊥
no_image sector none image = let magic = magic-take header_magic sector.bytes image in cc

read_not_image : (sector : Sector) (read : Result Header HeaderError) → Reads sector read → (read ≡ Err NotImage) ↔ (HasHeaderMagic sector → ⊥)
read_not_image sector read (No_image magic none) = (λ told image. no_image sector magic image, λ _. none)
read_not_image sector read (Other_version magic version other) = (λ told image. cc, λ none. absurd (none (is_image sector magic)))
read_not_image sector read (Judged magic version answer) =
    (λ told image. unless_wrong-other (fields_in sector.bytes) (first_wrong (judged_fields (fields_in sector.bytes) (zeros_in sector.bytes))) NotImage (λ n same. cc) (sym answer ∙ told), λ none. absurd (none (is_image sector magic)))

pub header_of-not_image : (sector : Sector) → (header_of sector ≡ Err NotImage) ↔ (HasHeaderMagic sector → ⊥)
header_of-not_image sector = read_not_image sector (header_of sector) (reads sector)

version-is : (sector : Sector) → (fields_in sector.bytes).version ≡ u32_at sector.bytes 8
unfolding fields_in
version-is sector = refl

unknown-version : (version : ℕ) → is_version version ≡ false → (version ≢ 1) × (version ≢ 2)
unknown-version version told =
    (λ one. (let known = known_version version (inl one) in cc), λ two. (let known = known_version version (inr two) in cc))

read_version : (sector : Sector) (v : ℕ) (read : Result Header HeaderError) → Reads sector read → (read ≡ Err (Version v)) ↔ HasOtherVersion sector v
read_version sector v read (No_image magic none) = (λ told. absurd cc, λ other. absurd (no_image sector magic other.image))
read_version sector v read (Other_version magic version other) =
    let same = version-is sector in (
      λ told. (let says : u32_at sector.bytes 8 ≡ v = cc in record { image = is_image sector magic; says = says; unknown = rw (← says, ← same) (unknown-version (fields_in sector.bytes).version version) }),
      λ has. (let says = has.says in cc),
    )
read_version sector v read (Judged magic version answer) =
    let same = version-is sector in (
      λ told. absurd (unless_wrong-other (fields_in sector.bytes) (first_wrong (judged_fields (fields_in sector.bytes) (zeros_in sector.bytes))) (Version v) (λ n same. cc) (sym answer ∙ told)),
      λ has. absurd (elim (version_known (fields_in sector.bytes).version version) [
        | inl one ↦ has.unknown.0 (sym has.says ∙ sym same ∙ one)
        | inr two ↦ has.unknown.1 (sym has.says ∙ sym same ∙ two)
      ]),
    )

pub header_of-version : (sector : Sector) (v : ℕ) → (header_of sector ≡ Err (Version v)) ↔ HasOtherVersion sector v
header_of-version sector v = read_version sector v (header_of sector) (reads sector)

read_field : (sector : Sector) (n : ℕ) (read : Result Header HeaderError) → Reads sector read → (read ≡ Err (Field n)) ↔ HasWrongField sector n
read_field sector n read (No_image magic none) = (λ told. absurd cc, λ has. absurd (no_image sector magic has.image))
read_field sector n read (Other_version magic version other) =
    let same = version-is sector in
    let unknown = unknown-version (fields_in sector.bytes).version version in
    (λ told. absurd cc, λ has. absurd (elim has.version [ inl one ↦ unknown.0 (same ∙ one) | inr two ↦ unknown.1 (same ∙ two) ]))
read_field sector n read (Judged magic version answer) =
    let same = version-is sector in
    let wrong : Option ℕ = first_wrong (judged_fields (fields_in sector.bytes) (zeros_in sector.bytes)) in (
      λ told. record {
        image = is_image sector magic;
        version = rw (← same) (version_known (fields_in sector.bytes).version version);
        wrong = unless_wrong-field (fields_in sector.bytes) n (first_wrong (judged_fields (fields_in sector.bytes) (zeros_in sector.bytes))) (sym answer ∙ told);
      },
      λ has. answer ∙ ap (unless_wrong (fields_in sector.bytes)) has.wrong,
    )

pub header_of-field : (sector : Sector) (n : ℕ) → (header_of sector ≡ Err (Field n)) ↔ HasWrongField sector n
header_of-field sector n = read_field sector n (header_of sector) (reads sector)

-- ---- writing

-- what is written field after field over zeros is the spelling
pub put_fields : (h : Header) (b0 b1 b2 b3 b4 b5 b6 b7 b8 b9 : List ℕ) → b0 ≡ replicate 512 0 → b1 ≡ put_at b0 0 header_magic → b2 ≡ put_at b1 8 (u32_bytes h.version) → b3 ≡ put_at b2 12 (u32_bytes h.block) → b4 ≡ put_at b3 16 (u32_bytes h.chunk)
    → b5 ≡ put_at b4 20 (u32_bytes h.storage) → b6 ≡ put_at b5 24 (u32_bytes h.slots) → b7 ≡ put_at b6 32 (u64_bytes h.size) → b8 ≡ put_at b7 40 (u64_bytes h.tracked) → b9 ≡ put_at b8 48 (u64_bytes h.generation) → b9 ≡ spelling h
unfolding spelling
put_fields h b0 b1 b2 b3 b4 b5 b6 b7 b8 b9 e0 e1 e2 e3 e4 e5 e6 e7 e8 e9 =
    let none : IsWritten b0 [] 512 = record { are = e0 } in
    let magic = written-part b1 header_magic 0 504 none e1 refl refl in
    let version = written-part b2 (u32_bytes h.version) 8 500 magic e2 refl refl in
    let block = written-part b3 (u32_bytes h.block) 12 496 version e3 refl refl in
    let chunk = written-part b4 (u32_bytes h.chunk) 16 492 block e4 refl refl in
    let storage = written-part b5 (u32_bytes h.storage) 20 488 chunk e5 refl refl in
    let slots = written-part b6 (u32_bytes h.slots) 24 484 storage e6 refl refl in
    let zeros = written-zeros 4 480 slots refl in
    let size = written-part b7 (u64_bytes h.size) 32 472 zeros e7 refl refl in
    let tracked = written-part b8 (u64_bytes h.tracked) 40 464 size e8 refl refl in
    (written-part b9 (u64_bytes h.generation) 48 456 tracked e9 refl refl).are
