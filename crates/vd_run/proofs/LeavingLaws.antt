-- What is known of a store that was opened.
use Rattle.std.proofs.Common.{◌≡◌, length, [], refl, sym, append-nil}
use Rattle.vd_device.specs.declared.store.Store as store
use Rattle.vd_device.specs.Stores.{IsTold}
use Rattle.vd_device.specs.Disks.{IsHonest}
use Rattle.vd_device.specs.Orders.{IsInOrder}
use Rattle.vd_device.proofs.Keeping.{keeps-same}
use Rattle.vd_device.specs.Quiet.{AddsFlush, OnlyReads}
use Rattle.vd_run.specs.Orders.{IsOpenedFrom}

module _ {S : Type 0} {g : store.Ghosts S} where
  -- a store with nothing in flight is only read by no call
  pub reads_idle : {s : S} → IsTold g s → g.flight s [] → OnlyReads g s s
  reads_idle {s} told idle = record {
    keeps = keeps-same g s told;
    idle = idle;
    held = λ t. refl;
    rest = λ r. r;
    added = λ t. record { start = refl; more = []; none = tt; log = sym (append-nil (g.disk s).log) };
    recorded = λ r. record { start = refl; more = []; none = tt; log = sym (append-nil (g.disk s).log) };
  }

-- A store that was opened, by what it told before.
pub opened_from : {S : Type 0} {g : store.Ghosts S} {s s' : S} → OnlyReads g s s' → (g.tells s' → AddsFlush (g.disk s) (g.disk s')) → (g.tells s → IsHonest (g.disk s)) → (g.tells s → IsInOrder (g.disk s))
    → (g.tells s → length (g.disk s).held ≡ length (g.disk s).start) → IsOpenedFrom g s s'
opened_from reads flushed honest order size = record {
  reads = reads;
  since = λ t. (let before = reads.keeps.telling.told_before t in record { flushed = flushed t; held = reads.held t; honest = honest before; order = order before; size = size before });
}
