use Rattle.std.proofs.Common.{ℕ, ◌≡◌, ◌+◌, ◌*◌, length}
use Rattle.vd_law.specs.declared.entry.Sector.{Sector}
use Rattle.vd_replay.specs.Pages.{chunks_in, AreAt, AreRead, AreEntries, Judged}
use Rattle.vd_replay.proofs.pages.take_pages.Given as goal

abbrev pub invariant-loop-sector : goal.invariant-loop-sector
invariant-loop-sector l = record {
  first : l.first ≡ 32 * (l.page + l.sector-index);
  size : length l.pages ≡ length l.fn.pages;
  grammar : AreEntries l.shape (chunks_in l.shape (l.page + l.sector-index)) l.pages;
  read : (at : ℕ → Sector) → AreAt at l.page l.sectors → Judged l.shape at (chunks_in l.shape l.page) l.fn.pages l.fn.judged → AreRead l.shape at (chunks_in l.shape (l.page + l.sector-index)) l.pages;
}
