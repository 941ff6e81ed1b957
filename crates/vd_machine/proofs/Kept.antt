-- A keeper that has put.
use Rattle.std.proofs.Common.{◌≡◌, ◌⊎◌, inl, inr, ℕ, ◌+◌, ◌-◌, ◌<◌, ◌≤◌, true, false, length, drop, sym, ap, ◌∙◌, arith, length-take, length-drop, length-set}
use Rattle.std.specs.Prelude.{min}
use Rattle.vd_table.specs.Tables.{TableState}
use Rattle.vd_keeper.specs.declared.stage.Stage.TheVariants.{Rest, Puts, Broken}
use Rattle.vd_keeper.specs.declared.stage.Put.{Put}
use Rattle.vd_keeper.specs.Keeping.{KeeperState}
use Rattle.vd_keeper.specs.Entries.{chunks_with, next_chunks}
use Rattle.vd_keeper.specs.Flushes.{IsKeeping, records_for}
use Rattle.vd_keeper.specs.Moves.{HasPutDue, IsNextPut, Next_record, Next_page, Next_header}
use Rattle.vd_machine.proofs.Places.{puts-possible}

fewer : (left : ℕ) → 0 < left → records_for (left - min 24 left) + 1 ≤ records_for left
fewer left some = omega arith

-- after a record a record fewer is to be put
pub record-less : (k : KeeperState) → k.logged < length (chunks_with k.header k.snapshot)
    → records_for (length (chunks_with k.header k.snapshot) - (k.logged + length (next_chunks k))) + 1 ≤ records_for (length (chunks_with k.header k.snapshot) - k.logged)
record-less k more =
    let n : ℕ = length (chunks_with k.header k.snapshot) in
    let left = length-drop k.logged (chunks_with k.header k.snapshot) in
    let taken : length (next_chunks k) ≡ min 24 (n - k.logged) = length-take 24 (drop k.logged (chunks_with k.header k.snapshot)) ∙ ap (λ (x : ℕ). min 24 x) left in
    let rest : n - (k.logged + length (next_chunks k)) ≡ n - k.logged - min 24 (n - k.logged) = omega (arith, taken) in
    let less = fewer (n - k.logged) (omega (arith, more)) in
    omega (arith, less, ap records_for rest)

puts-no-rest : (Puts ≡ Rest) ⊎ (Puts ≡ Broken) → ⊥
puts-no-rest e = elim e [ inl rest ↦ absurd cc | inr broken ↦ absurd cc ]

no-rest : (k : KeeperState) → k.stage ≡ Puts → (k.stage ≡ Rest) ⊎ (k.stage ≡ Broken) → ⊥
no-rest k stage e = puts-no-rest (elim e [ inl rest ↦ inl (sym stage ∙ rest) | inr broken ↦ inr (sym stage ∙ broken) ])

pub put-kept : (table : TableState) (k k' : KeeperState) (put : Put) → IsKeeping k → k.stage ≡ Puts → HasPutDue k → IsNextPut table k put k' → IsKeeping k'
put-kept table k k' put kept stage due (Next_record sector way bytes) =
    let possible = puts-possible k kept stage in
    let less = record-less k (due.records way) in
    let fits = possible.slots way in
    record {
      valid = kept.valid;
      version = kept.version;
      slots = omega (arith, less, fits);
      stale_size = kept.stale_size;
      owed_size = kept.owed_size;
      snapshot_size = kept.snapshot_size;
      marked_size = kept.marked_size;
      put_size = kept.put_size;
      apart = kept.apart;
      part = kept.part;
      at_rest = kept.at_rest;
      under_way = inr (inr (record { slots = λ records. omega (arith, less, fits); generation = possible.generation; tracked = possible.tracked }));
    }
put-kept table k k' put kept stage due (Next_page page sector way lowest bytes) =
    let possible = puts-possible k kept stage in
    record {
      valid = kept.valid;
      version = kept.version;
      slots = kept.slots;
      stale_size = kept.stale_size;
      owed_size = kept.owed_size;
      snapshot_size = kept.snapshot_size;
      marked_size = length-set k.marked page false ∙ kept.marked_size;
      put_size = length-set k.put page true ∙ kept.put_size;
      apart = kept.apart;
      part = kept.part;
      at_rest = λ e. absurd (no-rest k stage e);
      under_way = inr (inr (record { slots = possible.slots; generation = possible.generation; tracked = possible.tracked }));
    }
put-kept table k k' put kept stage due (Next_header sector way none bytes) =
    let possible = puts-possible k kept stage in
    record {
      valid = kept.valid;
      version = kept.version;
      slots = kept.slots;
      stale_size = kept.stale_size;
      owed_size = kept.owed_size;
      snapshot_size = kept.snapshot_size;
      marked_size = kept.marked_size;
      put_size = kept.put_size;
      apart = kept.apart;
      part = kept.part;
      at_rest = kept.at_rest;
      under_way = inr (inr (record { slots = possible.slots; generation = possible.generation; tracked = possible.tracked }));
    }
