-- A store that took a call's events tells all, or has stopped and stands as it stood.
use Rattle.std.proofs.Common.{List, inl, inr, arith}
use Rattle.vd_law.specs.Entries.{Entry}
use Rattle.vd_device.specs.declared.store.Store as store
use Rattle.vd_device.specs.Disks.{TellsOrStoppedSince}
use Rattle.vd_device.specs.Stores.{StoreTakes}

pub takes-stood : {S : Type 0} (g : store.Ghosts S) (es : List Entry) (s s' : S) → StoreTakes g es s s' → g.records s' → TellsOrStoppedSince (g.tells s') (g.events s') (g.disk s) (g.disk s')
takes-stood g es s s' takes records = let r = takes.recorded records in elim (takes.keeps.state records) [
  | inl tells ↦ inl tells
  | inr stopped ↦ elim r.goes_on [
    | inl runs ↦ absurd (omega (arith, runs.1, stopped))
    | inr stands ↦ inr (record { stopped = stands.0; start = r.start; log = stands.1 })
  ]
]
