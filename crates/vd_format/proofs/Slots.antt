-- Each thing that a slot says, exactly where its sentence says.
use Rattle.std.proofs.Common.{◌≡◌, ℕ, ◌+◌, ◌-◌, ◌*◌, ◌≤◌, ◌↔◌, true, false, List, ◌++◌, length, take, drop, replicate, sym, ap, ◌∙◌, arith}
use Rattle.std.specs.Prelude.{◌&&◌, ◌==◌, nat_le, slice_range}
use Rattle.std.specs.List.{flat_map}
use Rattle.std.proofs.lemmas.Bool.{and_parts, and_from, both_ways, eqb-true, leb-true, eqb-false}
use Rattle.std.proofs.lemmas.List.{take_all, length-drop, length-take}
use Rattle.vd_law.specs.declared.entry.Sector.{Sector}
use Rattle.vd_format.specs.declared.journal.Fact2.{Fact2}
use Rattle.vd_format.specs.declared.map.Shape2.{Shape2}
use Rattle.vd_format.specs.Numbers.{IsBytes, u64_at, u32_bytes, u64_bytes, are_zeros, has_magic}
use Rattle.vd_format.specs.Records.{ShapeFits, Said, Nothing, Facts, Outside, HasRecord, SpellsRecord, IsOutsideGrammar, record_magic, most_facts, fact_bytes, record_bytes, facts_from, have_kinds, count_in, is_well_formed, are_facts, slot_of}
use Rattle.vd_format.proofs.Bytes.{take-then, take-magic, magic-take, take-u32_at, take-u64_at, zeros-are}
use Rattle.vd_format.proofs.Facts.{facts_grammar, grammar_facts}
use Rattle.vd_format.proofs.Records.{Says, No_magic, Other_generation, In_grammar, Not_in_grammar, says, facts_fit, length-facts_from, take-facts_from, magic-record, generation-record, record-well_formed, record-facts}

zeros-part : (bytes : List ℕ) (n : ℕ) → length bytes ≡ n → are_zeros bytes ≡ true → bytes ≡ replicate n 0
zeros-part bytes n len told = zeros-are bytes told ∙ ap (λ (k : ℕ). replicate k 0) len

-- what is well formed, part by part
record WellFormed (bytes : List ℕ) : Type 0 where
  some : 1 ≤ count_in bytes
  most : count_in bytes ≤ most_facts
  inner : are_zeros (slice_range bytes 20 24) ≡ true
  outer : are_zeros (drop (24 + 20 * count_in bytes) bytes) ≡ true
  kinds : have_kinds bytes 24 (count_in bytes) ≡ true

well_formed : (bytes : List ℕ) → is_well_formed bytes ≡ true → WellFormed bytes
unfolding is_well_formed
well_formed bytes told =
    let n : ℕ = count_in bytes in
    let kinds = and_parts (nat_le 1 n && nat_le n most_facts && are_zeros (slice_range bytes 20 24) && are_zeros (drop (24 + 20 * n) bytes)) (have_kinds bytes 24 n) told in
    let outer = and_parts (nat_le 1 n && nat_le n most_facts && are_zeros (slice_range bytes 20 24)) (are_zeros (drop (24 + 20 * n) bytes)) kinds.0 in
    let inner = and_parts (nat_le 1 n && nat_le n most_facts) (are_zeros (slice_range bytes 20 24)) outer.0 in
    let count = and_parts (nat_le 1 n) (nat_le n most_facts) inner.0 in
    record { some = leb-true 1 n count.0; most = leb-true n most_facts count.1; inner = inner.1; outer = outer.1; kinds = kinds.1 }

-- a well formed sector is the spelling of its facts
spelled : (bytes : List ℕ) → IsBytes bytes → length bytes ≡ 512 → has_magic record_magic bytes ≡ true → WellFormed bytes → bytes ≡ record_bytes (u64_at bytes 8) (facts_from bytes 24 (count_in bytes))
unfolding record_bytes
spelled bytes fits len magic formed =
    let n : ℕ = count_in bytes in
    let facts : List Fact2 = facts_from bytes 24 n in
    let inner : take 4 (drop 20 bytes) ≡ replicate 4 0 = zeros-part (slice_range bytes 20 24) 4 (omega (arith, length-take 4 (drop 20 bytes), length-drop 20 bytes)) formed.inner in
    let behind : length (drop (24 + 20 * n) bytes) ≡ 488 - 20 * n = omega (arith, length-drop (24 + 20 * n) bytes) in
    let outer : take (488 - 20 * n) (drop (24 + 20 * n) bytes) ≡ replicate (488 - 20 * n) 0 =
    take_all (488 - 20 * n) (drop (24 + 20 * n) bytes) (omega (arith, behind)) ∙ zeros-part (drop (24 + 20 * n) bytes) (488 - 20 * n) behind formed.outer in
    let t8 = take-magic record_magic bytes magic in
    let t16 = take-then bytes record_magic (u64_bytes (u64_at bytes 8)) 8 8 t8 (take-u64_at bytes 8 fits (omega arith)) in
    let t20 = take-then bytes (record_magic ++ u64_bytes (u64_at bytes 8)) (u32_bytes n) 16 4 t16 (take-u32_at bytes 16 fits (omega arith)) in
    let t24 = take-then bytes (record_magic ++ u64_bytes (u64_at bytes 8) ++ u32_bytes n) (replicate 4 0) 20 4 t20 inner in
    let after = take-then bytes (record_magic ++ u64_bytes (u64_at bytes 8) ++ u32_bytes n ++ replicate 4 0) (flat_map fact_bytes facts) 24 (20 * n) t24 (take-facts_from bytes 24 n fits (omega (arith, formed.most)) formed.kinds) in
    let whole = take-then bytes (record_magic ++ u64_bytes (u64_at bytes 8) ++ u32_bytes n ++ replicate 4 0 ++ flat_map fact_bytes facts) (replicate (488 - 20 * n) 0) (24 + 20 * n) (488 - 20 * n) after outer in
    let all : 24 + 20 * n + (488 - 20 * n) ≡ 512 = omega (arith, formed.most) in
    let count : length facts ≡ n = length-facts_from bytes 24 n in
    rw count (sym (take_all 512 bytes (omega arith)) ∙ ap (λ (k : ℕ). take k bytes) (sym all) ∙ whole)

-- ---- facts

same_facts : (a b : List Fact2) → Facts a ≡ Facts b → a ≡ b
same_facts a b told = cc

says_spelled : (shape : Shape2) (sector : Sector) (facts : List Fact2) (said : Said) → IsBytes sector.bytes → length sector.bytes ≡ 512 → Says shape sector said → said ≡ Facts facts → SpellsRecord sector shape facts
says_spelled shape sector facts said fits len (No_magic none says) told = absurd cc
says_spelled shape sector facts said fits len (Other_generation magic other says) told = absurd cc
says_spelled shape sector facts said fits len (Not_in_grammar magic same bad says) told = absurd cc
says_spelled shape sector facts said fits len (In_grammar magic same good says) told =
    let bytes : List ℕ = sector.bytes in
    let both = and_parts (is_well_formed bytes) (are_facts shape 0 (facts_from bytes 24 (count_in bytes))) good in
    let formed = well_formed bytes both.0 in
    let count = length-facts_from bytes 24 (count_in bytes) in
    let generation : u64_at bytes 8 ≡ shape.generation = eqb-true (u64_at bytes 8) shape.generation same in
    rw (← same_facts (facts_from bytes 24 (count_in bytes)) facts (sym says ∙ told)) (record {
      grammar = facts_grammar shape (facts_from bytes 24 (count_in bytes)) (omega (arith, count, formed.some)) (omega (arith, count, formed.most)) both.1;
      bytes = spelled bytes fits len magic formed ∙ ap (λ (g : ℕ). record_bytes g (facts_from bytes 24 (count_in bytes))) generation;
    })

-- a spelled record is read whole
record Again (shape : Shape2) (bytes : List ℕ) (facts : List Fact2) : Type 0 where
  good : (is_well_formed bytes && are_facts shape 0 (facts_from bytes 24 (count_in bytes))) ≡ true
  read : facts_from bytes 24 (count_in bytes) ≡ facts

again : (shape : Shape2) (sector : Sector) (facts : List Fact2) → ShapeFits shape → SpellsRecord sector shape facts → Again shape sector.bytes facts
again shape sector facts small spells =
    let grammar = spells.grammar in
    let formed : is_well_formed sector.bytes ≡ true = ap is_well_formed spells.bytes ∙ record-well_formed shape.generation facts grammar.some_fact grammar.most in
    let read : facts_from sector.bytes 24 (count_in sector.bytes) ≡ facts =
    ap (λ (bytes : List ℕ). facts_from bytes 24 (count_in bytes)) spells.bytes ∙ record-facts shape.generation facts grammar.most (facts_fit shape facts small grammar) in
    record { good = and_from (is_well_formed sector.bytes) (are_facts shape 0 (facts_from sector.bytes 24 (count_in sector.bytes))) formed (ap (are_facts shape 0) read ∙ grammar_facts shape facts grammar); read = read }

record_said : (shape : Shape2) (sector : Sector) (facts : List Fact2) (said : Said) → ShapeFits shape → Says shape sector said → SpellsRecord sector shape facts → said ≡ Facts facts
record_said shape sector facts said small (No_magic none says) spells = absurd (let magic = ap (has_magic record_magic) spells.bytes ∙ magic-record shape.generation facts in cc)
record_said shape sector facts said small (Other_generation magic other says) spells =
    let generation : u64_at sector.bytes 8 ≡ shape.generation = ap (λ (bytes : List ℕ). u64_at bytes 8) spells.bytes ∙ generation-record shape.generation facts small.generation in
    absurd (eqb-false (u64_at sector.bytes 8) shape.generation other generation)
record_said shape sector facts said small (Not_in_grammar magic same bad says) spells =
    absurd (both_ways (is_well_formed sector.bytes && are_facts shape 0 (facts_from sector.bytes 24 (count_in sector.bytes))) bad (again shape sector facts small spells).good)
record_said shape sector facts said small (In_grammar magic same good says) spells = says ∙ ap Facts (again shape sector facts small spells).read

-- facts that are spelled are read
pub slot_of-spelling : (shape : Shape2) (sector : Sector) (facts : List Fact2) → ShapeFits shape → SpellsRecord sector shape facts → slot_of shape sector ≡ Facts facts
slot_of-spelling shape sector facts small spells = record_said shape sector facts (slot_of shape sector) small (says shape sector) spells

-- a slot has these facts exactly where it spells them
pub slot_of-facts : (shape : Shape2) (sector : Sector) (facts : List Fact2) → ShapeFits shape → IsBytes sector.bytes → length sector.bytes ≡ 512 → (slot_of shape sector ≡ Facts facts) ↔ SpellsRecord sector shape facts
slot_of-facts shape sector facts small fits len =
    (says_spelled shape sector facts (slot_of shape sector) fits len (says shape sector), record_said shape sector facts (slot_of shape sector) small (says shape sector))

-- ---- nothing

has_record : (shape : Shape2) (sector : Sector) → has_magic record_magic sector.bytes ≡ true → (u64_at sector.bytes 8 == shape.generation) ≡ true → HasRecord sector shape.generation
has_record shape sector magic same = record { magic = take-magic record_magic sector.bytes magic; generation_is = eqb-true (u64_at sector.bytes 8) shape.generation same }

no_magic : (shape : Shape2) (sector : Sector) → has_magic record_magic sector.bytes ≡ false → HasRecord sector shape.generation → ⊥
no_magic shape sector none has = both_ways (has_magic record_magic sector.bytes) none (magic-take record_magic sector.bytes has.magic)

no_generation : (shape : Shape2) (sector : Sector) → (u64_at sector.bytes 8 == shape.generation) ≡ false → HasRecord sector shape.generation → ⊥
no_generation shape sector other has = eqb-false (u64_at sector.bytes 8) shape.generation other has.generation_is

says_nothing : (shape : Shape2) (sector : Sector) (said : Said) → Says shape sector said → (said ≡ Nothing) ↔ (HasRecord sector shape.generation → ⊥)
says_nothing shape sector said (No_magic none says) = (λ _. no_magic shape sector none, λ _. says)
says_nothing shape sector said (Other_generation magic other says) = (λ _. no_generation shape sector other, λ _. says)
says_nothing shape sector said (In_grammar magic same good says) = (λ told. absurd cc, λ none. absurd (none (has_record shape sector magic same)))
says_nothing shape sector said (Not_in_grammar magic same bad says) = (λ told. absurd cc, λ none. absurd (none (has_record shape sector magic same)))

-- a slot is passed over exactly where it doesn't count
pub slot_of-nothing : (shape : Shape2) (sector : Sector) → (slot_of shape sector ≡ Nothing) ↔ (HasRecord sector shape.generation → ⊥)
slot_of-nothing shape sector = says_nothing shape sector (slot_of shape sector) (says shape sector)

-- ---- outside

says_outside : (shape : Shape2) (sector : Sector) (said : Said) → ShapeFits shape → IsBytes sector.bytes → length sector.bytes ≡ 512 → Says shape sector said → (said ≡ Outside) ↔ IsOutsideGrammar sector shape
says_outside shape sector said small fits len (No_magic none says) = (λ told. absurd cc, λ out. absurd (no_magic shape sector none out.counts))
says_outside shape sector said small fits len (Other_generation magic other says) = (λ told. absurd cc, λ out. absurd (no_generation shape sector other out.counts))
says_outside shape sector said small fits len (In_grammar magic same good says) =
    (λ told. absurd cc, λ out. absurd (out.unspelled (facts_from sector.bytes 24 (count_in sector.bytes)) (says_spelled shape sector (facts_from sector.bytes 24 (count_in sector.bytes)) said fits len (In_grammar magic same good says) says)))
says_outside shape sector said small fits len (Not_in_grammar magic same bad says) =
    (λ told. record { counts = has_record shape sector magic same; unspelled = λ facts spells. (let read = record_said shape sector facts said small (Not_in_grammar magic same bad says) spells in cc) }, λ out. says)

-- a slot is outside the grammar exactly where it counts and spells no facts
pub slot_of-outside : (shape : Shape2) (sector : Sector) → ShapeFits shape → IsBytes sector.bytes → length sector.bytes ≡ 512 → (slot_of shape sector ≡ Outside) ↔ IsOutsideGrammar sector shape
slot_of-outside shape sector small fits len = says_outside shape sector (slot_of shape sector) small fits len (says shape sector)
