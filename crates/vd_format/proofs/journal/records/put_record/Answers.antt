use Rattle.std.proofs.Common.{◌≡◌, ℕ, ◌-◌, ◌*◌, ◌+◌, ◌++◌, List, [], length, take, replicate, ap, ◌∙◌, refl, arith}
use Rattle.std.specs.List.{flat_map}
use Rattle.std.proofs.lemmas.List.{take_all}
use Rattle.vd_format.specs.declared.journal.Fact2.{Fact2}
use Rattle.vd_format.specs.Numbers.{u32_bytes, u64_bytes, put_at}
use Rattle.vd_format.specs.Records.{record_magic, fact_bytes, record_bytes}
use Rattle.vd_format.proofs.Bytes.{IsWritten, written-part, written-zeros}
use Rattle.vd_format.proofs.Records.{length-fact_bytes}
use Rattle.vd_format.proofs.Writing.{written-item}
use Rattle.vd_format.proofs.journal.records.put_record.Goals as goal

pub loop-place-init : goal.loop-place-init
loop-place-init c =
    let none : IsWritten c.args.bytes.now [] 512 = record { are = c.requires } in
    let magic = written-part c.put.new.bytes record_magic 0 504 none c.put.ensures refl refl in
    let generation = written-part c.put_u64.new.bytes (u64_bytes c.args.generation) 8 496 magic c.put_u64.ensures refl refl in
    let count = written-part c.put_u32.new.bytes (u32_bytes (length c.args.facts.now)) 16 492 generation (c.put_u32.ensures ∙ ap (λ (n : ℕ). put_at c.put_u64.new.bytes 16 (u32_bytes n)) c.len.ensures.len) refl refl in
    written-zeros 4 488 count refl

pub loop-place-preserved : goal.loop-place-preserved
loop-place-preserved c =
    let facts = c.args.facts.now in
    let place = c.loop-place.place in
    written-item fact_bytes 20 length-fact_bytes (record_magic ++ u64_bytes c.args.generation ++ u32_bytes (length facts) ++ replicate 4 0) 24 refl facts place c.get.result c.loop-place.bytes c.put_fact.new.bytes (488 - 20 * place) (488 - 20 * (place + 1))
    c.get.ensures c.loop-place.invariant c.put_fact.ensures (omega arith)

all_written : (generation : ℕ) (facts : List Fact2) (place : ℕ) → place ≡ length facts
    → record_magic ++ u64_bytes generation ++ u32_bytes (length facts) ++ replicate 4 0 ++ flat_map fact_bytes (take place facts) ++ replicate (488 - 20 * place) 0 ≡ record_bytes generation facts
unfolding record_bytes
all_written generation facts place all = rw (take_all place facts (omega arith), all) refl

pub returns : goal.returns
returns c = c.loop-place.invariant.are ∙ all_written c.args.generation c.args.facts.now c.loop-place.place (omega arith)
