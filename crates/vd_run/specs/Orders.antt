-- What is known of a store that was handed in and then opened.
use Rattle.std.specs.Prelude.{ℕ, ◌≡◌, ◌+◌, ◌<◌, List, ◌++◌, length}
use Rattle.std.specs.List.{AllByRecursion}
use Rattle.vd_law.specs.Entries.{Entry}
use Rattle.vd_device.specs.declared.store.Store as store
use Rattle.vd_device.specs.Disks.{Disk, IsHonest}
use Rattle.vd_device.specs.Orders.{IsInOrder}
use Rattle.vd_device.specs.Quiet.{IsNoWrite, AddsNoWrite, AddsFlush, OnlyReads}

-- An honest store that told `old`, its log in order, told `new` after it was opened: it was flushed, and then only read.
pub record IsReadSince (old new : Disk) : Type 0 where
  pub flushed : AddsFlush old new
  pub held : new.held ≡ old.held
  pub honest : IsHonest old
  pub order : IsInOrder old
  pub size : length old.held ≡ length old.start

-- The store was opened, and is as the opening has left it.
pub record IsOpenedFrom {S : Type 0} (g : store.Ghosts S) (s s' : S) : Type 0 where
  pub reads : OnlyReads g s s'
  pub since : g.tells s' → IsReadSince (g.disk s) (g.disk s')

-- No write was begun before a history was opened with this number: it is the log's length at some moment until which only entries had come
-- that begin none. Or the store had stopped by then, so that the number is above the log's length, and no such entry has come at all.
pub data OpensQuietly (old new : Disk) (opened : ℕ) : Type 0 where
  Opened_within : (first more : List Entry) → new.start ≡ old.start → AllByRecursion IsNoWrite first → new.log ≡ old.log ++ (first ++ more)
      → opened ≡ length old.log + length first → OpensQuietly old new opened
  Had_stopped : AddsNoWrite old new → length new.log < opened → OpensQuietly old new opened
