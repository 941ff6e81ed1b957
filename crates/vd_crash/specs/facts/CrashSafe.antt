-- Crash safety in the words of the law: of what a store tells, the guest's disk when it was opened, and the kept history.
use Rattle.std.specs.Prelude.{ℕ, ◌≡◌, ◌<◌, ◌≤◌, List, length, take}
use Rattle.std.specs.List.{Contains}
use Rattle.vd_law.specs.Contents.{may}
use Rattle.vd_law.specs.Histories.{HistoryState, IsRising, entries_up_to}
use Rattle.vd_image.specs.Log.{Sector, Entry, At, Writes}
use Rattle.vd_image.specs.Image.{Format, Layout, IsSound, DiskHas}
use Rattle.vd_image.specs.CrashImages.{sectors_or, IsCrashImage}
use Rattle.vd_crash.specs.facts.Safe.{Opening}

-- At each moment since opening each image that a crash may leave is sound, and each sector of its disk has a content that
-- the history up to that moment allows: that of the last write before a flush that was answered well, or of a later one.
pub record IsCrashSafe (f : Format) (l : Layout) (base : ℕ → Sector) (zeros : Sector) (start : List Sector) (log : List Entry) (disk : List Sector) (history : HistoryState) : Type 0 where
  pub sound : (k : ℕ) (image : List Sector) → history.opened ≤ k → k ≤ length log → IsCrashImage start (take k log) image → IsSound f l (sectors_or zeros image)
  pub allowed : (k : ℕ) (image : List Sector) → history.opened ≤ k → k ≤ length log → IsCrashImage start (take k log) image
      → (s : ℕ) (v : Sector) → s < l.size → DiskHas f l base zeros (sectors_or zeros image) s v → Contains (may disk (entries_up_to k history) s) v

-- what the store tells and what is kept are an opening's
pub record IsRunOf (o : Opening) (start : List Sector) (log : List Entry) (disk : List Sector) (history : HistoryState) : Type 0 where
  pub opened : o.opened ≡ history.opened
  pub before : (s : ℕ) → o.before s ≡ sectors_or o.zeros start s
  pub guest_disk : (s : ℕ) → s < o.layout.size → At disk s (o.disk s)
  pub inside : (i s : ℕ) (v : Sector) → Writes log i s v → s < length start
  pub each : length history.numbers ≡ length history.log.entries
  pub rising : IsRising history.opened history.numbers
