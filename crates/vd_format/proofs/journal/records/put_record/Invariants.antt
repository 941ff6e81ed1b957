use Rattle.std.proofs.Common.{◌-◌, ◌*◌, ◌++◌, length, take, replicate}
use Rattle.std.specs.List.{flat_map}
use Rattle.vd_format.specs.Numbers.{u32_bytes, u64_bytes}
use Rattle.vd_format.specs.Records.{record_magic, fact_bytes}
use Rattle.vd_format.proofs.Bytes.{IsWritten}
use Rattle.vd_format.proofs.journal.records.put_record.Given as goal

abbrev pub invariant-loop-place : goal.invariant-loop-place
invariant-loop-place l =
    IsWritten l.bytes (record_magic ++ u64_bytes l.generation ++ u32_bytes (length l.facts) ++ replicate 4 0 ++ flat_map fact_bytes (take l.place l.facts)) (488 - 20 * l.place)
