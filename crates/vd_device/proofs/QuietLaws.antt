-- Calls that write nothing.
use Rattle.std.proofs.Common.{ℕ, zero, suc, ◌≡◌, ◌≤◌, length-append, List, [], ◌∷◌, ◌++◌, length, take, Result, Ok, Err, inl, inr, refl, ap, sym, ◌∙◌, subst, arith}
use Rattle.std.specs.Prelude.{slice_get, ⊤, OnOk, IfErr}
use Rattle.std.specs.List.{All, AllByRecursion, fold}
use Rattle.std.proofs.lemmas.List.Elements.{All-head}
use Rattle.std.proofs.lemmas.List.{append_assoc, append-nil}
use Rattle.vd_law.specs.declared.entry.Sector.{Sector}
use Rattle.vd_law.specs.declared.entry.Answer.TheVariants.{StoreFault}
use Rattle.vd_law.specs.Entries.{Read, Flush, Entry, Ask, Issue, Done, Broke, Seen, Reply, Past, nothing, ◌▸◌, past}
use Rattle.vd_law.specs.Contents.{Open, open_writes}
use Rattle.vd_lists.proofs.Lists.{same_list}
use Rattle.vd_law.proofs.RuleLaws.{past-append}
use Rattle.vd_device.specs.declared.store.Store as store
use Rattle.vd_device.specs.declared.base.Base as base
use Rattle.vd_device.specs.Disks.{Disk, GrowsBy, RecordsSome, IsOneOf}
use Rattle.vd_device.specs.Now.{call_number, read_entries, flush_entries}
use Rattle.vd_device.specs.Stores.{CallsStore}
use Rattle.vd_device.specs.Bases.{CallsBase}
use Rattle.vd_device.proofs.Keeping.{keeps-on, keeps-same, base-keeps-on, base-keeps-same}
use Rattle.vd_device.specs.Quiet.{IsAtRest, IsNoWrite, AddsNoWrite, AddsFlush, IsReady, OnlyReads, EndsBadly, IsCallFault, IsStoreFault, OnlyReadsBase, IsFault}
use Rattle.vd_lists.proofs.Places.{slice_get_second_last, slice_get_longer}

-- the entry opens and ends no write
abbrev pub IsIdle : Entry → Type 0
IsIdle (Issue id first content) = ⊥
IsIdle (Done id) = ⊥
IsIdle (Broke id) = ⊥
IsIdle _ = Unit {0}

idle_writes : (es : List Entry) (p : Past) (s : ℕ) → AllByRecursion IsIdle es → open_writes (fold ◌▸◌ p es) s ≡ open_writes p s
idle_writes [] p s idle = refl
idle_writes (Ask id request ∷ es) p s idle = idle_writes es (p ▸ Ask id request) s idle.1
idle_writes (Issue id first content ∷ es) p s idle = absurd idle.0
idle_writes (Done id ∷ es) p s idle = absurd idle.0
idle_writes (Broke id ∷ es) p s idle = absurd idle.0
idle_writes (Seen id first content ∷ es) p s idle = idle_writes es (p ▸ Seen id first content) s idle.1
idle_writes (Reply id answer ∷ es) p s idle = idle_writes es (p ▸ Reply id answer) s idle.1

-- where no write is open, such entries open none
pub rest_after : (es : List Entry) (old new : Disk) → AllByRecursion IsIdle es → new.log ≡ old.log ++ es → IsAtRest old → IsAtRest new
rest_after es old new idle log rest s =
    ap (λ (l : List Entry). open_writes (past l) s) log
    ∙ ap (λ (p : Past). open_writes p s) (past-append old.log es nothing)
    ∙ idle_writes es (past old.log) s idle ∙ rest s

-- and what is held stays
pub held_after : (es : List Entry) (old new : Disk) → AllByRecursion IsIdle es → GrowsBy es old new → IsAtRest old → new.held ≡ old.held
held_after es old new idle grows rest =
    same_list new.held old.held grows.size (λ s. grows.others s (rest s) (rest_after es old new idle grows.log rest s))

no_write : (es : List Entry) → AllByRecursion IsIdle es → AllByRecursion IsNoWrite es
no_write [] idle = tt
no_write (Ask id request ∷ es) idle = (tt, no_write es idle.1)
no_write (Issue id first content ∷ es) idle = absurd idle.0
no_write (Done id ∷ es) idle = absurd idle.0
no_write (Broke id ∷ es) idle = absurd idle.0
no_write (Seen id first content ∷ es) idle = (tt, no_write es idle.1)
no_write (Reply id answer ∷ es) idle = (tt, no_write es idle.1)

no_write_take : (n : ℕ) (es : List Entry) → AllByRecursion IsNoWrite es → AllByRecursion IsNoWrite (take n es)
no_write_take zero es none = tt
no_write_take (suc n) [] none = tt
no_write_take (suc n) (e ∷ es) none = (none.0, no_write_take n es none.1)

pub recorded_after : (es : List Entry) (before after : ℕ) (old new : Disk) → AllByRecursion IsIdle es → RecordsSome es before after old new → AddsNoWrite old new
recorded_after es before after old new idle r = elim r.goes_on [
  | inl runs ↦ record { start = r.start; more = es; none = no_write es idle; log = runs.2 }
  | inr stops ↦ record { start = r.start; more = take stops.1 es; none = no_write_take stops.1 es (no_write es idle); log = stops.2 }
]

pub read_idle : (number first count : ℕ) (out : List Sector) (result : Result ⊤ ℕ) → AllByRecursion IsIdle (read_entries number first count out result)
read_idle number first count out (Ok done) = (tt, (tt, tt))
read_idle number first count out (Err failed) = (tt, (tt, tt))

pub flush_idle : (number : ℕ) (result : Result ⊤ ℕ) → AllByRecursion IsIdle (flush_entries number result)
flush_idle number (Ok done) = (tt, (tt, tt))
flush_idle number (Err failed) = (tt, (tt, tt))

-- a call that adds such entries only reads
pub only_reads : {S : Type 0} {g : store.Ghosts S} {s s' : S} (es : List Entry) {result : Result ⊤ ℕ} → AllByRecursion IsIdle es → IsReady g s
    → CallsStore g es result s s' → (g.tells s' → GrowsBy es (g.disk s) (g.disk s')) → OnlyReads g s s'
only_reads {g = g} {s} {s'} es only_idle ready calls told = record {
  keeps = calls.keeps;
  idle = calls.flight [] ready.idle_is;
  held = λ t. held_after es (g.disk s) (g.disk s') only_idle (told t) (ready.rest (calls.keeps.telling.told_before t));
  rest = λ r t. rest_after es (g.disk s) (g.disk s') only_idle (told t).log (r (calls.keeps.telling.told_before t));
  added = λ t. record { start = (told t).start; more = es; none = no_write es only_idle; log = (told t).log };
  recorded = λ r. recorded_after es (g.events s) (g.events s') (g.disk s) (g.disk s') only_idle (calls.recorded r);
}

no_write_append : (xs ys : List Entry) → AllByRecursion IsNoWrite xs → AllByRecursion IsNoWrite ys → AllByRecursion IsNoWrite (xs ++ ys)
no_write_append [] ys p q = q
no_write_append (e ∷ xs) ys p q = (p.0, no_write_append xs ys p.1 q)

-- one such call after another
pub adds_twice : (a b c : Disk) → AddsNoWrite a b → AddsNoWrite b c → AddsNoWrite a c
adds_twice a b c x y = record {
  start = y.start ∙ x.start;
  more = x.more ++ y.more;
  none = no_write_append x.more y.more x.none y.none;
  log = y.log ∙ ap (λ l. l ++ y.more) x.log ∙ append_assoc a.log x.more y.more;
}

pub reads_twice : {S : Type 0} {g : store.Ghosts S} {r s t : S} → OnlyReads g r s → OnlyReads g s t → OnlyReads g r t
reads_twice {g = g} {r} {s} {t} x y = record {
  keeps = keeps-on g r s t x.keeps y.keeps;
  idle = y.idle;
  held = λ h. y.held h ∙ x.held (y.keeps.telling.told_before h);
  rest = λ q. y.rest (x.rest q);
  added = λ h. adds_twice (g.disk r) (g.disk s) (g.disk t) (x.added (y.keeps.telling.told_before h)) (y.added h);
  recorded = λ h. adds_twice (g.disk r) (g.disk s) (g.disk t) (x.recorded (y.keeps.telling.recorded_before h)) (y.recorded h);
}

-- a store that does nothing only reads
pub reads_nothing : {S : Type 0} {g : store.Ghosts S} {s : S} → IsReady g s → OnlyReads g s s
reads_nothing {g = g} {s} ready = record {
  keeps = keeps-same g s ready.told;
  idle = ready.idle_is;
  held = λ t. refl;
  rest = λ r. r;
  added = λ t. record { start = refl; more = []; none = tt; log = sym (append-nil _) };
  recorded = λ r. record { start = refl; more = []; none = tt; log = sym (append-nil _) };
}

-- it is ready after such calls
pub ready_again : {S : Type 0} {g : store.Ghosts S} {s s' : S} → IsReady g s → OnlyReads g s s' → IsReady g s'
ready_again ready reads = record {
  idle_is = reads.idle;
  deep = (let e = reads.keeps.counts.depth in let d = ready.deep in omega arith);
  rest = reads.rest ready.rest;
  told = reads.keeps.telling.state;
}

-- the same of a base
pub base_reads_twice : {B : Type 0} {h : base.Ghosts B} {a b c : B} → OnlyReadsBase h a b → OnlyReadsBase h b c → OnlyReadsBase h a c
base_reads_twice {h = h} {a} {b} {c} x y = record { keeps = base-keeps-on h a b c x.keeps y.keeps; idle = y.idle }

pub base_reads_nothing : {B : Type 0} {h : base.Ghosts B} {b : B} → h.flight b [] → OnlyReadsBase h b b
base_reads_nothing {h = h} {b} idle = record { keeps = base-keeps-same h b; idle = idle }

pub base_only_reads : {B : Type 0} {h : base.Ghosts B} {b b' : B} {result : Result ⊤ ℕ} → h.flight b [] → CallsBase h result b b' → OnlyReadsBase h b b'
base_only_reads idle calls = record { keeps = calls.keeps; idle = calls.flight [] idle }

pub on_ok : {T E : Type 0} {P Q : Type 0} (r : Result T E) → (P → Q) → OnOk r P → OnOk r Q
on_ok (Ok t) f p = f p
on_ok (Err e) f p = tt

-- where no ticket is in flight, no write is open
pub none_open : (s : ℕ) (ws : List Open) → All (IsOneOf [] s) ws → ws ≡ []
none_open s [] all = refl
none_open s (w ∷ ws) all = let one = All-head (IsOneOf [] s) w ws all in let place = one.among in absurd (omega (arith, place.1))

-- A flush that succeeded, and then calls that begin no write.
pub flush_first : {old mid new : Disk} (number : ℕ) → mid.start ≡ old.start → mid.log ≡ old.log ++ flush_entries number (Ok tt) → AddsNoWrite mid new → AddsFlush old new
flush_first {old} {mid} {new} number start log adds = record {
  start = adds.start ∙ start;
  number = number;
  more = adds.more;
  none = adds.none;
  log = adds.log ∙ ap (λ (l : List Entry). l ++ adds.more) log ∙ append_assoc old.log (flush_entries number (Ok tt)) adds.more;
}

pub flush_before : {old mid new : Disk} → AddsFlush old mid → AddsNoWrite mid new → AddsFlush old new
flush_before {old} {mid} {new} flushed adds = record {
  start = adds.start ∙ flushed.start;
  number = flushed.number;
  more = flushed.more ++ adds.more;
  none = no_write_append flushed.more adds.more flushed.none adds.none;
  log = adds.log ∙ ap (λ (l : List Entry). l ++ adds.more) flushed.log ∙ append_assoc old.log (flush_entries flushed.number (Ok tt) ++ flushed.more) adds.more
      ∙ ap (λ (l : List Entry). old.log ++ l) (append_assoc (flush_entries flushed.number (Ok tt)) flushed.more adds.more);
}

-- ---- calls that failed

-- the log has got the two entries of a call that failed
ended_badly : (ticket : ℕ) (asked : Entry) (old new : List Entry) → new ≡ old ++ asked ∷ Reply (call_number ticket) (StoreFault ticket 0) ∷ [] → EndsBadly ticket (length old) new
ended_badly ticket asked old new grown = record {
  at = suc (length old);
  reply = ap (λ (l : List Entry). slice_get l (suc (length old))) grown ∙ slice_get_second_last old asked (Reply (call_number ticket) (StoreFault ticket 0));
  after = omega arith;
}

pub read_failed : {S : Type 0} {g : store.Ghosts S} {s s' : S} (first count : ℕ) (out : List Sector) (result : Result ⊤ ℕ) → CallsStore g (read_entries (g.last s') first count out result) result s s'
    → (g.tells s' → GrowsBy (read_entries (g.last s') first count out result) (g.disk s) (g.disk s')) → IfErr result (IsStoreFault g s s')
read_failed first count out (Ok done) calls told = tt
read_failed {g = g} {s} {s'} first count out (Err number) calls told = record {
  ticket = calls.fault;
  since = (let n = calls.number in let f = calls.fault in omega arith);
  rose = calls.cause;
  logged = λ t. subst (λ (n : ℕ). EndsBadly n (length (g.disk s).log) (g.disk s').log) (sym calls.fault) (ended_badly (g.last s') (Ask (call_number (g.last s')) (Read first count)) (g.disk s).log (g.disk s').log (told t).log);
}

pub flush_failed : {S : Type 0} {g : store.Ghosts S} {s s' : S} (result : Result ⊤ ℕ) → CallsStore g (flush_entries (g.last s') result) result s s'
    → (g.tells s' → GrowsBy (flush_entries (g.last s') result) (g.disk s) (g.disk s')) → IfErr result (IsStoreFault g s s')
flush_failed (Ok done) calls told = tt
flush_failed {g = g} {s} {s'} (Err number) calls told = record {
  ticket = calls.fault;
  since = (let n = calls.number in let f = calls.fault in omega arith);
  rose = calls.cause;
  logged = λ t. subst (λ (n : ℕ). EndsBadly n (length (g.disk s).log) (g.disk s').log) (sym calls.fault) (ended_badly (g.last s') (Ask (call_number (g.last s')) Flush) (g.disk s).log (g.disk s').log (told t).log);
}

pub base_failed : {B : Type 0} {h : base.Ghosts B} {b b' : B} (result : Result ⊤ ℕ) → CallsBase h result b b' → IfErr result (IsFault h b b')
base_failed (Ok done) calls = tt
base_failed (Err number) calls = record { ticket = calls.fault; since = (let n = calls.number in let f = calls.fault in omega arith); rose = calls.cause }

pub ends_earlier : {ticket from from' : ℕ} {log : List Entry} → from ≤ from' → EndsBadly ticket from' log → EndsBadly ticket from log
ends_earlier less ends = record { at = ends.at; reply = ends.reply; after = (let a = ends.after in omega arith) }

pub log_longer : {old new : Disk} → AddsNoWrite old new → length old.log ≤ length new.log
log_longer {old = old} adds = let e = ap length adds.log in let n = length-append old.log adds.more in omega arith

-- a failure is one of a longer work, which had only read before
pub fault_of_longer : {S : Type 0} {g : store.Ghosts S} {r s t : S} {number : ℕ} → OnlyReads g r s → OnlyReads g s t → IsStoreFault g s t number → IsStoreFault g r t number
fault_of_longer before reads fault = record {
  ticket = fault.ticket;
  since = (let r = fault.since in let p = before.keeps.counts.last in omega arith);
  rose = (let r = fault.rose in let p = before.keeps.counts.faults in omega arith);
  logged = λ t. ends_earlier (log_longer (before.added (reads.keeps.telling.told_before t))) (fault.logged t);
}

pub fault_of : {S : Type 0} {g : store.Ghosts S} {s s' : S} {number : ℕ} → IsStoreFault g s s' number → IsCallFault g s s' number
fault_of fault = record { ticket = fault.ticket; since = fault.since; rose = fault.rose }

pub base_fault_of_longer : {B : Type 0} {h : base.Ghosts B} {a b c : B} {number : ℕ} → OnlyReadsBase h a b → IsFault h b c number → IsFault h a c number
base_fault_of_longer before fault = record {
  ticket = fault.ticket;
  since = (let r = fault.since in let p = before.keeps.counts.last in omega arith);
  rose = (let r = fault.rose in let p = before.keeps.counts.faults in omega arith);
}
