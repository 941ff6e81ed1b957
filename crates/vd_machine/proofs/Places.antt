-- Where a put lies in the store.
use Rattle.std.proofs.Common.{◌≡◌, ℕ, ◌+◌, ◌-◌, ◌*◌, ◌/◌, ◌<◌, ◌≤◌, length, sym, ◌∙◌, arith}
use Rattle.vd_format.specs.Layouts.{chunks_of, map_start, slots_start, storage_start, sectors_for_bytes}
use Rattle.vd_table.specs.Tables.{TableState}
use Rattle.vd_keeper.specs.declared.stage.Stage.TheVariants.{Rest, Puts, Broken}
use Rattle.vd_keeper.specs.declared.stage.Put.{Put}
use Rattle.vd_keeper.specs.Keeping.{KeeperState}
use Rattle.vd_keeper.specs.Entries.{chunks_with}
use Rattle.vd_keeper.specs.Flushes.{IsKeeping, IsPossible, records_for}
use Rattle.vd_keeper.specs.Moves.{HasPutDue, IsNextPut, Next_record, Next_page, Next_header}
use Rattle.vd_keeper.proofs.Flushed.{is-possible}
use Rattle.vd_keeper.proofs.Moving.{lowest-inside}
use Rattle.vd_machine.specs.Flushing.{place_of_put}

puts-rest : Puts ≡ Rest → ⊥
puts-rest e = absurd cc

puts-broken : Puts ≡ Broken → ⊥
puts-broken e = absurd cc

pub puts-possible : (k : KeeperState) → IsKeeping k → k.stage ≡ Puts → IsPossible k
puts-possible k kept stage = is-possible k kept (λ r. puts-rest (sym stage ∙ r)) (λ b. puts-broken (sym stage ∙ b))

-- the map has a sector for each page
page-inside : (start chunks slots page : ℕ) → page < (chunks + 31) / 32 → start + page < start + sectors_for_bytes (16 * chunks) + slots
page-inside start chunks slots page less = omega arith

slot-inside : (start slots next left : ℕ) → next + records_for left ≤ slots → 0 < left → start + next < start + slots
slot-inside start slots next left fits some = omega arith

-- a put is of one sector below the storage
pub put-inside : (table : TableState) (k k' : KeeperState) (put : Put) → IsKeeping k → k.stage ≡ Puts → HasPutDue k → IsNextPut table k put k' → place_of_put k.header put < storage_start k.header
put-inside table k k' put kept stage due (Next_record sector way bytes) =
    let more = due.records way in
    slot-inside (slots_start k.header) k.header.slots k.next (length (chunks_with k.header k.snapshot) - k.logged) ((puts-possible k kept stage).slots way) (omega (arith, more))
put-inside table k k' put kept stage due (Next_page page sector way lowest bytes) =
    page-inside (map_start k.header) (chunks_of k.header) k.header.slots page (omega (arith, lowest-inside k.marked 0 page lowest, kept.marked_size))
put-inside table k k' put kept stage due (Next_header sector way none bytes) = omega arith
