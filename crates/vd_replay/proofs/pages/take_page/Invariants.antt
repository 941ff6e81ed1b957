use Rattle.std.proofs.Common.{ℕ, ◌≡◌, ◌/◌, length}
use Rattle.vd_law.specs.declared.entry.Sector.{Sector}
use Rattle.vd_replay.specs.Pages.{AreRead, AreEntries}
use Rattle.vd_replay.proofs.pages.take_page.Given as goal

abbrev pub invariant-loop-chunk : goal.invariant-loop-chunk
invariant-loop-chunk l = record {
  size : length l.pages ≡ length l.fn.pages;
  grammar : AreEntries l.shape l.first l.fn.pages → AreEntries l.shape l.chunk l.pages;
  read : (at : ℕ → Sector) → at (l.first / 32) ≡ l.sector → AreRead l.shape at l.first l.fn.pages → AreRead l.shape at l.chunk l.pages;
}
