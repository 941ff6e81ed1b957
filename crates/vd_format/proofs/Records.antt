-- A record that is written is read again, and a sector from which facts in the grammar were read is their spelling.
use Rattle.std.proofs.Common.{◌≡◌, ℕ, zero, suc, ◌+◌, ◌-◌, ◌*◌, ◌^◌, ◌<◌, ◌≤◌, true, false, List, [], ◌∷◌, ◌++◌, length, take, drop, replicate, refl, sym, ap, ◌∙◌, append_assoc, arith, inl, inr}
use Rattle.std.specs.Prelude.{◌&&◌, ◌==◌, slice_range}
use Rattle.std.specs.List.{All, flat_map}
use Rattle.std.proofs.lemmas.Bool.{and_parts, cases_Bool, le-leb}
use Rattle.std.proofs.lemmas.List.{drop-drop, drop_at, length-append}
use Rattle.std.proofs.lemmas.List.Concat.{flat_map-cons}
use Rattle.std.proofs.lemmas.List.Elements.{All-head, All-tail}
use Rattle.byteorder.specs.Numbers.{little_number-reads_back}
use Rattle.vd_law.specs.declared.entry.Sector.{Sector}
use Rattle.vd_format.specs.declared.journal.Fact2.{Fact2}
use Rattle.vd_format.specs.declared.map.Shape2.{Shape2}
use Rattle.vd_format.specs.Numbers.{IsBytes, u32_at, u64_at, u32_bytes, u64_bytes, are_zeros, has_magic}
use Rattle.vd_format.specs.Entries.{Fits, entry_bytes, entry_from, has_kind}
use Rattle.vd_format.specs.Records.{ShapeFits, AreFacts, Said, Nothing, Facts, Outside, record_magic, old_record_magic, most_facts, fact_bytes, record_bytes, fact_from, facts_from, have_kinds, count_in, is_well_formed, record_of, are_facts, slot_of}
use Rattle.vd_format.proofs.Bytes.{take-then, u32_at-append, take-u32_at, are_zeros-replicate}
use Rattle.vd_format.proofs.Entries.{entry_from-append, has_kind-append, take-entry_from, length-entry_bytes, fits_grammar}

-- the numbers of a fact have room in their bytes
pub record FactFits (f : Fact2) : Type 0 where
  pub chunk : f.chunk < 2 ^ 32
  pub entry : Fits f.entry

-- ---- one fact

pub length-fact_bytes : (f : Fact2) → length (fact_bytes f) ≡ 20
unfolding fact_bytes
length-fact_bytes f = omega (arith, length-append (u32_bytes f.chunk) (entry_bytes f.entry), length-entry_bytes f.entry)

pub length-facts_bytes : (facts : List Fact2) → length (flat_map fact_bytes facts) ≡ 20 * length facts
length-facts_bytes [] = refl
length-facts_bytes (f ∷ facts) =
    let bytes = length-append (fact_bytes f) (flat_map fact_bytes facts) in
    ap length (flat_map-cons fact_bytes f facts) ∙ omega (arith, bytes, length-fact_bytes f, length-facts_bytes facts)

regroup : (front rest : List ℕ) (f : Fact2) → front ++ (fact_bytes f ++ rest) ≡ front ++ (u32_bytes f.chunk ++ (entry_bytes f.entry ++ rest))
unfolding fact_bytes
regroup front rest f = ap (λ (bytes : List ℕ). front ++ bytes) (append_assoc (u32_bytes f.chunk) (entry_bytes f.entry) rest)

split_chunk : (front rest : List ℕ) (f : Fact2) → front ++ (fact_bytes f ++ rest) ≡ (front ++ u32_bytes f.chunk) ++ (entry_bytes f.entry ++ rest)
split_chunk front rest f = regroup front rest f ∙ sym (append_assoc front (u32_bytes f.chunk) (entry_bytes f.entry ++ rest))

length-chunk : (front : List ℕ) (at n : ℕ) → length front ≡ at → length (front ++ u32_bytes n) ≡ at + 4
length-chunk front at n len = omega (arith, length-append front (u32_bytes n), len)

-- a fact that is spelled from a place on is read there
pub fact_from-append : (front rest : List ℕ) (at : ℕ) (f : Fact2) → length front ≡ at → FactFits f → fact_from (front ++ (fact_bytes f ++ rest)) at ≡ f
unfolding fact_from
fact_from-append front rest at f len fits =
    let chunk : u32_at (front ++ (fact_bytes f ++ rest)) at ≡ f.chunk = ap (λ (bytes : List ℕ). u32_at bytes at) (regroup front rest f) ∙ u32_at-append front (entry_bytes f.entry ++ rest) at f.chunk len fits.chunk in
    let entry : entry_from (front ++ (fact_bytes f ++ rest)) (at + 4) ≡ f.entry =
    ap (λ (bytes : List ℕ). entry_from bytes (at + 4)) (split_chunk front rest f) ∙ entry_from-append (front ++ u32_bytes f.chunk) rest (at + 4) f.entry (length-chunk front at f.chunk len) fits.entry in
    rw (chunk, entry) refl

kind-append : (front rest : List ℕ) (at : ℕ) (f : Fact2) → length front ≡ at → has_kind (front ++ (fact_bytes f ++ rest)) (at + 4) ≡ true
kind-append front rest at f len =
    ap (λ (bytes : List ℕ). has_kind bytes (at + 4)) (split_chunk front rest f) ∙ has_kind-append (front ++ u32_bytes f.chunk) rest (at + 4) f.entry (length-chunk front at f.chunk len)

-- the bytes from which a fact was read
pub take-fact_from : (bytes : List ℕ) (at : ℕ) → IsBytes bytes → at + 20 ≤ length bytes → has_kind bytes (at + 4) ≡ true → take 20 (drop at bytes) ≡ fact_bytes (fact_from bytes at)
unfolding fact_from fact_bytes
take-fact_from bytes at fits inside kind =
    let entry : take 16 (drop 4 (drop at bytes)) ≡ entry_bytes (entry_from bytes (at + 4)) = ap (take 16) (drop-drop 4 at bytes) ∙ take-entry_from bytes (at + 4) fits (omega arith) kind in
    take-then (drop at bytes) (u32_bytes (u32_at bytes at)) (entry_bytes (entry_from bytes (at + 4))) 4 16 (take-u32_at bytes at fits (omega arith)) entry

-- ---- all facts

pub length-facts_from : (bytes : List ℕ) (at n : ℕ) → length (facts_from bytes at n) ≡ n
unfolding facts_from
length-facts_from bytes at zero = refl
length-facts_from bytes at (suc n) = ap suc (length-facts_from bytes (at + 20) n)

next_facts : (front rest : List ℕ) (f : Fact2) (facts : List Fact2) → front ++ (flat_map fact_bytes (f ∷ facts) ++ rest) ≡ (front ++ fact_bytes f) ++ (flat_map fact_bytes facts ++ rest)
next_facts front rest f facts =
    ap (λ (bytes : List ℕ). front ++ (bytes ++ rest)) (flat_map-cons fact_bytes f facts)
    ∙ ap (λ (bytes : List ℕ). front ++ bytes) (append_assoc (fact_bytes f) (flat_map fact_bytes facts) rest) ∙ sym (append_assoc front (fact_bytes f) (flat_map fact_bytes facts ++ rest))

first_fact : (front rest : List ℕ) (f : Fact2) (facts : List Fact2) → front ++ (flat_map fact_bytes (f ∷ facts) ++ rest) ≡ front ++ (fact_bytes f ++ (flat_map fact_bytes facts ++ rest))
first_fact front rest f facts =
    ap (λ (bytes : List ℕ). front ++ (bytes ++ rest)) (flat_map-cons fact_bytes f facts) ∙ ap (λ (bytes : List ℕ). front ++ bytes) (append_assoc (fact_bytes f) (flat_map fact_bytes facts) rest)

length-next : (front : List ℕ) (at : ℕ) (f : Fact2) → length front ≡ at → length (front ++ fact_bytes f) ≡ at + 20
length-next front at f len = omega (arith, length-append front (fact_bytes f), length-fact_bytes f, len)

pub facts_from-append : (front rest : List ℕ) (at : ℕ) (facts : List Fact2) → length front ≡ at → All FactFits facts → facts_from (front ++ (flat_map fact_bytes facts ++ rest)) at (length facts) ≡ facts
unfolding facts_from
facts_from-append front rest at [] len fits = refl
facts_from-append front rest at (f ∷ facts) len fits =
    let first : fact_from (front ++ (flat_map fact_bytes (f ∷ facts) ++ rest)) at ≡ f =
    ap (λ (bytes : List ℕ). fact_from bytes at) (first_fact front rest f facts) ∙ fact_from-append front (flat_map fact_bytes facts ++ rest) at f len (All-head FactFits f facts fits) in
    let later : facts_from (front ++ (flat_map fact_bytes (f ∷ facts) ++ rest)) (at + 20) (length facts) ≡ facts =
    ap (λ (bytes : List ℕ). facts_from bytes (at + 20) (length facts)) (next_facts front rest f facts) ∙ facts_from-append (front ++ fact_bytes f) rest (at + 20) facts (length-next front at f len) (All-tail FactFits f facts fits) in
    rw (first, later) refl

have_kinds-append : (front rest : List ℕ) (at : ℕ) (facts : List Fact2) → length front ≡ at → have_kinds (front ++ (flat_map fact_bytes facts ++ rest)) at (length facts) ≡ true
unfolding have_kinds
have_kinds-append front rest at [] len = refl
have_kinds-append front rest at (f ∷ facts) len =
    let first : has_kind (front ++ (flat_map fact_bytes (f ∷ facts) ++ rest)) (at + 4) ≡ true =
    ap (λ (bytes : List ℕ). has_kind bytes (at + 4)) (first_fact front rest f facts) ∙ kind-append front (flat_map fact_bytes facts ++ rest) at f len in
    let later : have_kinds (front ++ (flat_map fact_bytes (f ∷ facts) ++ rest)) (at + 20) (length facts) ≡ true =
    ap (λ (bytes : List ℕ). have_kinds bytes (at + 20) (length facts)) (next_facts front rest f facts) ∙ have_kinds-append (front ++ fact_bytes f) rest (at + 20) facts (length-next front at f len) in
    rw (first, later) refl

-- the bytes from which facts were read
pub take-facts_from : (bytes : List ℕ) (at n : ℕ) → IsBytes bytes → at + 20 * n ≤ length bytes → have_kinds bytes at n ≡ true → take (20 * n) (drop at bytes) ≡ flat_map fact_bytes (facts_from bytes at n)
unfolding facts_from have_kinds
take-facts_from bytes at zero fits inside kinds = refl
take-facts_from bytes at (suc n) fits inside kinds =
    let both = and_parts (has_kind bytes (at + 4)) (have_kinds bytes (at + 20) n) kinds in
    let first = take-fact_from bytes at fits (omega arith) both.0 in
    let later = ap (take (20 * n)) (drop-drop 20 at bytes) ∙ take-facts_from bytes (at + 20) n fits (omega arith) both.1 in
    let more : 20 * suc n ≡ 20 + 20 * n = omega arith in
    rw more (take-then (drop at bytes) (fact_bytes (fact_from bytes at)) (flat_map fact_bytes (facts_from bytes (at + 20) n)) 20 (20 * n) first later ∙ sym (flat_map-cons fact_bytes (fact_from bytes at) (facts_from bytes (at + 20) n)))

-- ---- a whole record

pub facts_fit : (shape : Shape2) (facts : List Fact2) → ShapeFits shape → AreFacts shape facts → All FactFits facts
facts_fit shape facts small are k d inside =
    let chunk = are.chunks k d inside in
    record { chunk = omega (arith, chunk, small.chunks); entry = fits_grammar shape _ _ small.storage (are.entries k d inside) }

-- the bytes before the facts
head : ℕ → ℕ → List ℕ
head generation count = record_magic ++ u64_bytes generation ++ u32_bytes count ++ replicate 4 0

left_after : List Fact2 → List ℕ
left_after facts = replicate (488 - 20 * length facts) 0

parts : (generation : ℕ) (facts : List Fact2) → record_bytes generation facts ≡ head generation (length facts) ++ (flat_map fact_bytes facts ++ left_after facts)
unfolding record_bytes head left_after
parts generation facts = append_assoc (record_magic ++ u64_bytes generation ++ u32_bytes (length facts) ++ replicate 4 0) (flat_map fact_bytes facts) (replicate (488 - 20 * length facts) 0)

length-head : (generation count : ℕ) → length (head generation count) ≡ 24
unfolding head
length-head generation count = refl

pub magic-record : (generation : ℕ) (facts : List Fact2) → has_magic record_magic (record_bytes generation facts) ≡ true
unfolding has_magic record_bytes
magic-record generation facts = refl

pub generation-record : (generation : ℕ) (facts : List Fact2) → generation < 2 ^ 64 → u64_at (record_bytes generation facts) 8 ≡ generation
unfolding u64_at record_bytes
generation-record generation facts fits = little_number-reads_back 8 generation [] fits

count-record : (generation : ℕ) (facts : List Fact2) → length facts < 2 ^ 32 → count_in (record_bytes generation facts) ≡ length facts
unfolding u32_at record_bytes
count-record generation facts fits = little_number-reads_back 4 (length facts) [] fits

zeros-record : (generation : ℕ) (facts : List Fact2) → are_zeros (slice_range (record_bytes generation facts) 20 24) ≡ true
unfolding are_zeros record_bytes
zeros-record generation facts = refl

rest-record : (generation : ℕ) (facts : List Fact2) → drop (24 + 20 * length facts) (record_bytes generation facts) ≡ left_after facts
rest-record generation facts =
    let front : List ℕ = head generation (length facts) ++ flat_map fact_bytes facts in
    let len : length front ≡ 24 + 20 * length facts = omega (arith, length-append (head generation (length facts)) (flat_map fact_bytes facts), length-head generation (length facts), length-facts_bytes facts) in
    ap (drop (24 + 20 * length facts)) (parts generation facts ∙ sym (append_assoc (head generation (length facts)) (flat_map fact_bytes facts) (left_after facts))) ∙ drop_at front (left_after facts) (24 + 20 * length facts) len

well_formed_from : (bytes : List ℕ) (n : ℕ) → count_in bytes ≡ n → 1 ≤ n → n ≤ most_facts → are_zeros (slice_range bytes 20 24) ≡ true → are_zeros (drop (24 + 20 * n) bytes) ≡ true → have_kinds bytes 24 n ≡ true → is_well_formed bytes ≡ true
unfolding is_well_formed
well_formed_from bytes n count some most inner outer kinds = rw (count, inner, outer, kinds, le-leb 1 n some, le-leb n most_facts most) refl

pub record-well_formed : (generation : ℕ) (facts : List Fact2) → 1 ≤ length facts → length facts ≤ most_facts → is_well_formed (record_bytes generation facts) ≡ true
unfolding left_after
record-well_formed generation facts some most =
    let outer : are_zeros (drop (24 + 20 * length facts) (record_bytes generation facts)) ≡ true = ap are_zeros (rest-record generation facts) ∙ are_zeros-replicate (488 - 20 * length facts) in
    let kinds : have_kinds (record_bytes generation facts) 24 (length facts) ≡ true =
    ap (λ (bytes : List ℕ). have_kinds bytes 24 (length facts)) (parts generation facts) ∙ have_kinds-append (head generation (length facts)) (left_after facts) 24 facts (length-head generation (length facts)) in
    well_formed_from (record_bytes generation facts) (length facts) (count-record generation facts (omega arith)) some most (zeros-record generation facts) outer kinds

pub record-facts : (generation : ℕ) (facts : List Fact2) → length facts ≤ most_facts → All FactFits facts → facts_from (record_bytes generation facts) 24 (count_in (record_bytes generation facts)) ≡ facts
record-facts generation facts most fits =
    ap (facts_from (record_bytes generation facts) 24) (count-record generation facts (omega arith))
    ∙ ap (λ (bytes : List ℕ). facts_from bytes 24 (length facts)) (parts generation facts) ∙ facts_from-append (head generation (length facts)) (left_after facts) 24 facts (length-head generation (length facts)) fits

-- ---- what a slot says, by cases

pub data Says (shape : Shape2) (sector : Sector) (said : Said) : Type 0 where
  No_magic : has_magic record_magic sector.bytes ≡ false → said ≡ Nothing → Says shape sector said
  Other_generation : has_magic record_magic sector.bytes ≡ true → (u64_at sector.bytes 8 == shape.generation) ≡ false → said ≡ Nothing → Says shape sector said
  In_grammar : has_magic record_magic sector.bytes ≡ true → (u64_at sector.bytes 8 == shape.generation) ≡ true
      → (is_well_formed sector.bytes && are_facts shape 0 (facts_from sector.bytes 24 (count_in sector.bytes))) ≡ true → said ≡ Facts (facts_from sector.bytes 24 (count_in sector.bytes)) → Says shape sector said
  Not_in_grammar : has_magic record_magic sector.bytes ≡ true → (u64_at sector.bytes 8 == shape.generation) ≡ true
      → (is_well_formed sector.bytes && are_facts shape 0 (facts_from sector.bytes 24 (count_in sector.bytes))) ≡ false → said ≡ Outside → Says shape sector said

pub says : (shape : Shape2) (sector : Sector) → Says shape sector (slot_of shape sector)
unfolding slot_of record_of
says shape sector =
    elim (cases_Bool (has_magic record_magic sector.bytes)) [
      | inr none ↦ No_magic none (elim (cases_Bool (has_magic old_record_magic sector.bytes)) [
        | inl old ↦ rw (none, old) refl
        | inr other ↦ rw (none, other) refl
      ])
      | inl magic ↦ elim (cases_Bool (u64_at sector.bytes 8 == shape.generation)) [
        | inr other ↦ Other_generation magic other (rw (magic, other) refl)
        | inl same ↦ elim (cases_Bool (is_well_formed sector.bytes && are_facts shape 0 (facts_from sector.bytes 24 (count_in sector.bytes)))) [
          | inl good ↦ In_grammar magic same good (rw (magic, same, good) refl)
          | inr bad ↦ Not_in_grammar magic same bad (rw (magic, same, bad) refl)
        ]
      ]
    ]
