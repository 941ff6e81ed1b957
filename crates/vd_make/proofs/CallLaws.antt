-- What calls that write leave of a store, one after another.
use Rattle.std.proofs.Common.{ℕ, ◌≡◌, ◌≤◌, List, [], Result, Ok, Err, arith}
use Rattle.std.specs.Prelude.{⊤, IfErr}
use Rattle.vd_law.specs.Entries.{Entry}
use Rattle.vd_device.specs.declared.store.Store as store
use Rattle.vd_device.specs.Stores.{CallsStore, KeepsStore}
use Rattle.vd_device.specs.Quiet.{IsReady, IsCallFault, IsAtRest}

module _ {S : Type 0} {g : store.Ghosts S} where
  -- it is ready again
  pub ready_after : {s s' : S} → IsReady g s → g.flight s' [] → KeepsStore g s s' → (g.tells s' → IsAtRest (g.disk s')) → IsReady g s'
  ready_after ready idle keeps rest = record {
    idle_is = idle;
    deep = (let d = ready.deep in let same = keeps.counts.depth in omega arith);
    rest = rest;
    told = keeps.telling.state;
  }

  -- a call that was waited for has failed
  pub call_failed : {es : List Entry} {s s' : S} (result : Result ⊤ ℕ) → CallsStore g es result s s' → IfErr result (IsCallFault g s s')
  call_failed (Ok done) calls = tt
  call_failed (Err number) calls = record { ticket = calls.fault; since = (let n = calls.number in let f = calls.fault in omega arith); rose = calls.cause }

  -- a failure is one of a longer work too
  pub fault_earlier : {r s t : S} {number : ℕ} → KeepsStore g r s → IsCallFault g s t number → IsCallFault g r t number
  fault_earlier keeps fault = record { ticket = fault.ticket; since = (let r = fault.since in let calm = keeps.counts.last in omega arith); rose = (let r = fault.rose in let calm = keeps.counts.faults in omega arith) }
