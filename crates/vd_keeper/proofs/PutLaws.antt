-- What a put makes of what a keeper keeps.
use Rattle.std.proofs.Common.{◌≡◌, ◌⊎◌, ⊎_elim, inr, ℕ, ◌+◌, ◌-◌, ◌<◌, ◌≤◌, List, length, map, take, drop, sym, ap, ◌∙◌, arith, subst, length-take, length-drop}
use Rattle.std.specs.Prelude.{min}
use Rattle.std.proofs.lemmas.Bool.{cases_lt}
use Rattle.std.proofs.lemmas.List.{drop-drop, drop_all}
use Rattle.vd_law.specs.declared.entry.Sector.{Sector}
use Rattle.vd_bits.proofs.SetLaws.{count-le-length}
use Rattle.vd_format.specs.Layouts.{chunks_of}
use Rattle.vd_format.specs.Records.{record_bytes}
use Rattle.vd_table.specs.Tables.{TableState}
use Rattle.vd_keeper.specs.declared.keeper.Keeper.TheInside.{Inside}
use Rattle.vd_keeper.specs.declared.stage.Stage.TheVariants.{Rest, Puts, Broken}
use Rattle.vd_keeper.specs.declared.stage.Way.TheVariants as ways
use Rattle.vd_keeper.specs.declared.stage.Put.TheVariants as puts
use Rattle.vd_keeper.specs.Entries.{union_of, chunks_with, fact_of, next_chunks}
use Rattle.vd_keeper.specs.Flushes.{IsPossible, records_for}
use Rattle.vd_keeper.specs.Moves.{IsNextPut, Next_record}
use Rattle.vd_keeper.specs.Sets.{chunks_from, marks_of}
use Rattle.vd_keeper.specs.KeeperFields.{keeper_state, IsKeeper}
use Rattle.vd_keeper.proofs.NextChunks.{count-marks_of, length-marks_of}
use Rattle.vd_keeper.proofs.Flushed.{chunks-with, count-is, is-possible}

puts-rest : Puts ≡ Rest → ⊥
puts-rest e = absurd cc

puts-broken : Puts ≡ Broken → ⊥
puts-broken e = absurd cc

-- a record fewer is needed after one
fewer-records : (left : ℕ) → 0 < left → records_for (left - min 24 left) + 1 ≤ records_for left
fewer-records left some = omega arith

-- dropping the chunks of a record
drop-record : (xs : List ℕ) (logged : ℕ) → drop 24 (drop logged xs) ≡ drop (logged + length (take 24 (drop logged xs))) xs
drop-record xs logged =
    let len = length-take 24 (drop logged xs) in
    let left = length-drop logged xs in
    drop-drop 24 logged xs
    ∙ ⊎_elim
    (λ (short : length xs - logged < 24). drop_all (logged + 24) xs (omega arith) ∙ sym (drop_all (logged + length (take 24 (drop logged xs))) xs (omega arith)))
    (λ (long : 24 ≤ length xs - logged). (let e : logged + 24 ≡ logged + length (take 24 (drop logged xs)) = omega arith in ap (λ (n : ℕ). drop n xs) e))
    (cases_lt (length xs - logged) 24)

module _ (i : Inside) (kept : IsKeeper i) where
  -- the chunks of the next record
  pub next-taken : take 24 (chunks_from i.snapshot i.from) ≡ next_chunks (keeper_state i)
  next-taken = ap (λ (cs : List ℕ). take 24 cs) kept.rest

  few-chunks : length (chunks_with i.header i.snapshot.bits) ≤ chunks_of i.header
  few-chunks =
      let same : length (chunks_from i.snapshot 0) ≡ length (chunks_with i.header i.snapshot.bits) = ap (λ (cs : List ℕ). length cs) (chunks-with i.header i.snapshot kept.snapshot_chunk kept.keeping.snapshot_size) in
      omega (arith, same, count-marks_of i.snapshot, count-le-length (marks_of i.snapshot), length-marks_of i.snapshot, count-is i.header i.snapshot kept.snapshot_chunk kept.keeping.snapshot_size)

  module _ (count from : ℕ) (records : i.way ≡ ways.Records) (at_puts : i.stage ≡ Puts) (due : i.logged < length (chunks_with i.header i.snapshot.bits)) (counted : count ≡ length (take 24 (chunks_from i.snapshot i.from)))
      (after : chunks_from i.snapshot from ≡ drop 24 (chunks_from i.snapshot i.from)) where
    possible : IsPossible (keeper_state i)
    possible = is-possible (keeper_state i) kept.keeping (λ r. puts-rest (sym at_puts ∙ r)) (λ b. puts-broken (sym at_puts ∙ b))

    count-is-min : count ≡ min 24 (length (chunks_with i.header i.snapshot.bits) - i.logged)
    count-is-min = counted ∙ ap (λ (cs : List ℕ). length cs) next-taken ∙ length-take 24 (drop i.logged (chunks_with i.header i.snapshot.bits)) ∙ ap (λ (n : ℕ). min 24 n) (length-drop i.logged (chunks_with i.header i.snapshot.bits))

    slots-left : i.next + 1 + records_for (length (chunks_with i.header i.snapshot.bits) - (i.logged + count)) ≤ i.header.slots
    slots-left =
        let n : ℕ = length (chunks_with i.header i.snapshot.bits) in
        let fits = possible.slots records in
        let same : length (chunks_with i.header i.snapshot.bits) - (i.logged + count) ≡ length (chunks_with i.header i.snapshot.bits) - i.logged - min 24 (length (chunks_with i.header i.snapshot.bits) - i.logged) = omega (arith, count-is-min) in
        let moved : records_for (length (chunks_with i.header i.snapshot.bits) - (i.logged + count)) ≡ records_for (length (chunks_with i.header i.snapshot.bits) - i.logged - min 24 (length (chunks_with i.header i.snapshot.bits) - i.logged)) = ap records_for same in
        let fewer = fewer-records (length (chunks_with i.header i.snapshot.bits) - i.logged) (omega arith) in
        omega (arith, fits, moved, fewer)

    pub record-keeper : IsKeeper (record i { next = i.next + 1; from = from; logged = i.logged + count })
    record-keeper =
        let k = kept.keeping in
        record {
          keeping = record {
            valid = k.valid;
            version = k.version;
            slots = omega (arith, slots-left);
            stale_size = k.stale_size;
            owed_size = k.owed_size;
            snapshot_size = k.snapshot_size;
            marked_size = k.marked_size;
            put_size = k.put_size;
            apart = k.apart;
            part = k.part;
            at_rest = k.at_rest;
            under_way = inr (inr (record { slots = λ e. slots-left; generation = possible.generation; tracked = possible.tracked }));
          };
          stale_chunk = kept.stale_chunk;
          later_chunk = kept.later_chunk;
          snapshot_chunk = kept.snapshot_chunk;
          later_size = kept.later_size;
          apart = kept.apart;
          put_in_stage = kept.put_in_stage;
          logged = omega (arith, count-is-min, few-chunks, due);
          rest =
              after
              ∙ ap (λ (cs : List ℕ). drop 24 cs) kept.rest
              ∙ drop-record (chunks_with i.header i.snapshot.bits) i.logged
              ∙ ap (λ (n : ℕ). drop (i.logged + n) (chunks_with i.header i.snapshot.bits)) (sym (counted ∙ ap (λ (cs : List ℕ). length cs) next-taken));
        }

    pub record-put : (table : TableState) (sector : Sector) → sector.bytes ≡ record_bytes i.header.generation (map (fact_of i.header table (union_of i.stale.bits i.snapshot.bits)) (take 24 (chunks_from i.snapshot i.from)))
        → IsNextPut table (keeper_state i) (puts.Record i.next sector) (keeper_state (record i { next = i.next + 1; from = from; logged = i.logged + count }))
    record-put table sector bytes =
        subst (λ (n : ℕ). IsNextPut table (keeper_state i) (puts.Record i.next sector) (record (keeper_state i) { next = i.next + 1; logged = i.logged + n })) (sym (counted ∙ ap (λ (cs : List ℕ). length cs) next-taken))
        (Next_record sector records (bytes ∙ ap (λ (cs : List ℕ). record_bytes i.header.generation (map (fact_of i.header table (union_of i.stale.bits i.snapshot.bits)) cs)) next-taken))
