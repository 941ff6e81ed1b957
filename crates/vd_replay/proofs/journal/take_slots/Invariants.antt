use Rattle.std.proofs.Common.{ℕ, ◌≡◌, ◌+◌, List, length}
use Rattle.vd_law.specs.declared.entry.Sector.{Sector}
use Rattle.vd_format.specs.declared.map.Entry.{Entry}
use Rattle.vd_replay.specs.Pages.{AreAt}
use Rattle.vd_replay.specs.Journal.{AreReplayed, AreTaken, Replayed}
use Rattle.vd_replay.proofs.journal.take_slots.Given as goal

abbrev pub invariant-loop-sector : goal.invariant-loop-sector
invariant-loop-sector l = record {
  number : l.number ≡ l.slot + l.sector-index;
  size : length l.map ≡ length l.fn.map;
  taken : AreTaken l.shape (l.slot + l.sector-index) l.next l.map;
  replayed : (at : ℕ → Sector) (pages : List Entry) → AreAt at l.slot l.sectors → Replayed l.shape at l.slot pages l.fn.map l.fn.so_far → AreReplayed l.shape at (l.slot + l.sector-index) pages l.map l.next;
}
