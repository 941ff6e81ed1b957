-- One call after another leaves of a device what both leave.
use Rattle.std.proofs.Common.{ℕ, ◌∙◌, List, ◌++◌, [], ap, refl, sym, arith}
use Rattle.std.proofs.lemmas.List.{append_assoc, append-nil}
use Rattle.vd_law.specs.declared.entry.Sector.{Sector}
use Rattle.vd_device.specs.declared.store.Store as store
use Rattle.vd_device.specs.declared.base.Base as base
use Rattle.vd_device.specs.Disks.{Disk, StoppedSince}
use Rattle.vd_device.specs.Frames.{GoesOn, CountsStand, TellingStands, ContentStands}
use Rattle.vd_device.specs.Stores.{IsTold, KeepsStore}
use Rattle.vd_device.specs.Bases.{KeepsBase}

pub goes-on-twice : (a b c : Disk) → GoesOn a b → GoesOn b c → GoesOn a c
goes-on-twice a b c x y = record {
  start = y.start ∙ x.start;
  more = x.more ++ y.more;
  log = y.log ∙ ap (λ l. l ++ y.more) x.log ∙ append_assoc a.log x.more y.more;
}

stood-twice : (m n : ℕ) (a b c : Disk) → StoppedSince m a b → StoppedSince n b c → StoppedSince n a c
stood-twice m n a b c x y = record { stopped = y.stopped; start = y.start ∙ x.start; log = y.log ∙ x.log }

pub counts-on : {S : Type 0} (sectors_of depth_of faults_of late_of last_of : S → ℕ) (r s t : S) → CountsStand sectors_of depth_of faults_of late_of last_of r s
    → CountsStand sectors_of depth_of faults_of late_of last_of s t → CountsStand sectors_of depth_of faults_of late_of last_of r t
counts-on sectors_of depth_of faults_of late_of last_of r s t a b = record {
  sectors = b.sectors ∙ a.sectors;
  depth = b.depth ∙ a.depth;
  faults = let x = a.faults in let y = b.faults in omega arith;
  late = let x = a.late in let y = b.late in omega arith;
  last = let x = a.last in let y = b.last in omega arith;
}

pub telling-on : {S : Type 0} (tells_of logs_of : S → Type 0) (disk_of : S → Disk) (events_of : S → ℕ) (r s t : S) → TellingStands tells_of logs_of disk_of events_of r s
    → TellingStands tells_of logs_of disk_of events_of s t → TellingStands tells_of logs_of disk_of events_of r t
telling-on tells_of logs_of disk_of events_of r s t a b = record {
  events = let x = a.events in let y = b.events in omega arith;
  told_before = λ h. a.told_before (b.told_before h);
  recorded_before = λ h. a.recorded_before (b.recorded_before h);
  goes_on = λ h. goes-on-twice (disk_of r) (disk_of s) (disk_of t) (a.goes_on (b.recorded_before h)) (b.goes_on h);
  state = b.state;
  stood = λ h stopped. (let first = a.stood (b.recorded_before h) stopped in
      stood-twice (events_of s) (events_of t) (disk_of r) (disk_of s) (disk_of t) first (b.stood h first.stopped));
}

pub keeps-on : {S : Type 0} (g : store.Ghosts S) (r s t : S) → KeepsStore g r s → KeepsStore g s t → KeepsStore g r t
keeps-on g r s t a b = record {
  counts = counts-on g.sectors g.depth g.faults g.late g.last r s t a.counts b.counts;
  telling = telling-on g.tells g.records g.disk g.events r s t a.telling b.telling;
}

-- what is left untouched
pub keeps-same : {S : Type 0} (g : store.Ghosts S) (s : S) → IsTold g s → KeepsStore g s s
keeps-same g s told = record {
  counts = record { sectors = refl; depth = refl; faults = omega arith; late = omega arith; last = omega arith };
  telling = record {
    events = omega arith;
    told_before = λ h. h;
    recorded_before = λ h. h;
    goes_on = λ h. record { start = refl; more = []; log = sym (append-nil (g.disk s).log) };
    state = told;
    stood = λ h stopped. record { stopped = stopped; start = refl; log = refl };
  };
}

pub content-on : {B : Type 0} (tells_of : B → Type 0) (content_of : B → List Sector) (a b c : B) → ContentStands tells_of content_of a b
    → ContentStands tells_of content_of b c → ContentStands tells_of content_of a c
content-on tells_of content_of a b c x y = record {
  told_before = λ h. x.told_before (y.told_before h);
  content = λ h. y.content h ∙ x.content (y.told_before h);
}

pub base-keeps-on : {B : Type 0} (h : base.Ghosts B) (a b c : B) → KeepsBase h a b → KeepsBase h b c → KeepsBase h a c
base-keeps-on h a b c x y = record {
  counts = counts-on h.sectors h.depth h.faults h.late h.last a b c x.counts y.counts;
  telling = content-on h.tells h.content a b c x.telling y.telling;
}

pub base-keeps-same : {B : Type 0} (h : base.Ghosts B) (b : B) → KeepsBase h b b
base-keeps-same h b = record {
  counts = record { sectors = refl; depth = refl; faults = omega arith; late = omega arith; last = omega arith };
  telling = record { told_before = λ t. t; content = λ t. refl };
}
