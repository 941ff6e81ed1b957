-- What one call of a store in memory takes.
use Rattle.std.proofs.Common.{◌≡◌, ◌^◌, ◌<◌, ◌≤◌, ◌⊎◌, inl, inr, List, length, ap, arith, length-append}
use Rattle.vd_law.specs.Entries.{Entry}
use Rattle.vd_device.specs.Calls.{next_number}
use Rattle.vd_device.specs.Disks.{GrowsBy, Records, TellsOrStopped}
use Rattle.vd_device.specs.Stores.{StoreTakes}
use Rattle.vd_device.proofs.Stopping.{recorded-goes-on, recorded-stood}
use Rattle.vd_faults.specs.Tapes.{events_told}
use Rattle.vd_mem.specs.StoreState.{MemStoreState, StillRuns, disk_of}
use Rattle.vd_mem.specs.Devices.{mem_store}

-- the store took these entries and runs on
pub record Added (es : List Entry) (m m' : MemStoreState) : Type 0 where
  pub before : StillRuns m
  pub after : StillRuns m'
  pub grows : GrowsBy es (disk_of m) (disk_of m')

-- it stopped in this call, or had stopped before
pub record Stopped (m m' : MemStoreState) : Type 0 where
  pub start : m'.start ≡ m.start
  pub log : m'.log.entries ≡ m.log.entries
  pub over : m'.over ≡ next_number m.over

abbrev pub Took : List Entry → MemStoreState → MemStoreState → Type 0
Took es m m' = Added es m m' ⊎ Stopped m m'

module _ (es : List Entry) (m m' : MemStoreState) (few : length es ≤ 1) (short : length m.log.entries < 2 ^ 63) where
  rises : Took es m m' → events_told m.log m.over ≤ events_told m'.log m'.over
  rises (inl a) = let before = a.before in let log = ap length a.grows.log in omega (arith, length-append m.log.entries es)
  rises (inr s) = let over = s.over in let log = ap length s.log in omega arith

  told-before : Took es m m' → StillRuns m' → StillRuns m
  told-before (inl a) runs = a.before
  told-before (inr s) runs = let over = s.over in absurd (omega arith)

  told : Took es m m' → StillRuns m' → GrowsBy es (disk_of m) (disk_of m')
  told (inl a) runs = a.grows
  told (inr s) runs = let over = s.over in absurd (omega arith)

  state : Took es m m' → TellsOrStopped (StillRuns m') (events_told m'.log m'.over) (disk_of m')
  state (inl a) = inl a.after
  state (inr s) = let over = s.over in let log = ap length s.log in inr (omega arith)

  recorded : Took es m m' → Records es (events_told m.log m.over) (events_told m'.log m'.over) (disk_of m) (disk_of m')
  recorded (inl a) =
      let before = a.before in let after = a.after in let log = ap length a.grows.log in
      record { start = a.grows.start; goes_on = inl (omega arith, omega (arith, length-append m.log.entries es), a.grows.log) }
  recorded (inr s) =
      let over = s.over in let log = ap length s.log in
      record { start = s.start; goes_on = inr (omega arith, s.log) }

  pub takes : Took es m m' → StoreTakes mem_store es m m'
  takes took = record {
    keeps = record {
      events = rises took;
      told_before = told-before took;
      recorded_before = λ h. h;
      goes_on = λ h. recorded-goes-on _ _ _ _ _ (recorded took);
      state = λ h. state took;
      stood = λ h stopped. recorded-stood _ _ _ _ _ (recorded took) stopped;
    };
    told = told took;
    recorded = λ h. recorded took;
  }
