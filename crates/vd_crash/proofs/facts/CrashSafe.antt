-- What is safe is so in the words of the law.
use Rattle.std.proofs.Common.{ℕ, ◌≤◌, List, take, length, arith, subst}
use Rattle.vd_law.specs.Histories.{HistoryState, entries_up_to}
use Rattle.vd_image.specs.Log.{Sector, Entry, May, IsImage}
use Rattle.vd_image.specs.CrashImages.{sectors_or, IsCrashImage}
use Rattle.vd_image.proofs.Exact.{may_is_exact}
use Rattle.vd_image.proofs.CrashImages.{list_is_left, writes_whole}
use Rattle.vd_crash.specs.facts.Safe.{Opening, events_up_to, numbered, IsSafeImage, IsSafe}
use Rattle.vd_crash.specs.facts.CrashSafe.{IsCrashSafe, IsRunOf}
use Rattle.vd_crash.proofs.facts.Histories.{up_to_first}

pub crash_safe : (o : Opening) (start : List Sector) (log : List Entry) (disk : List Sector) (history : HistoryState) → IsRunOf o start log disk history → IsSafe o log (numbered history.log.entries history.numbers)
    → IsCrashSafe o.format o.layout o.base o.zeros start log disk history
crash_safe o start log disk history run safe = record {
  sound = λ k image opened within left. (now k image opened within left).sound;
  allowed = λ k image opened within left s v inside has.
      let allowed : May o.disk (entries_up_to k history) s v = subst (λ (h : List Entry). May o.disk h s v) (up_to_first history.log.entries history.numbers history.opened k run.rising run.each) ((now k image opened within left).allowed s v inside has) in
      (may_is_exact disk o.disk (entries_up_to k history) s v (run.guest_disk s inside)).1 allowed;
}
  where
    left_now : (k : ℕ) (image : List Sector) → IsCrashImage start (take k log) image → IsImage o.before (take k log) (sectors_or o.zeros image)
    left_now k image left = list_is_left start o.before (take k log) image o.zeros run.before (λ i s v w. run.inside i s v (writes_whole log k i s v w)) left

    now : (k : ℕ) (image : List Sector) → history.opened ≤ k → k ≤ length log → IsCrashImage start (take k log) image → IsSafeImage o (events_up_to (numbered history.log.entries history.numbers) k) (sectors_or o.zeros image)
    now k image opened within left = safe k (let e = run.opened in omega arith) within (sectors_or o.zeros image) (left_now k image left)
