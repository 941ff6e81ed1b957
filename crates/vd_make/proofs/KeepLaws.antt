-- A range that was written, and then flushed.
use Rattle.std.proofs.Common.{ℕ, ◌≡◌, List, [], ◌∷◌, ◌++◌, length, Result, Ok, Err, ap, sym, ◌∙◌, subst}
use Rattle.std.specs.Prelude.{slice_get, ⊤}
use Rattle.std.specs.List.{AllByRecursion}
use Rattle.std.proofs.lemmas.List.{append_assoc}
use Rattle.vd_lists.proofs.Elements.{each_append}
use Rattle.vd_law.specs.declared.entry.Sector.{Sector}
use Rattle.vd_law.specs.declared.entry.Answer.TheVariants as answers
use Rattle.vd_law.specs.Entries.{Flush, Entry, Ask, Reply, Past, ◌▸◌, past}
use Rattle.vd_device.specs.Disks.{Disk}
use Rattle.vd_device.specs.Now.{call_number, flush_entries}
use Rattle.vd_make.specs.Putting.{IsPut, IsNoSuccess, PutsRange, MayHave, IsRangeWritten, TriesWrites, Syncs, KeptBy, Fills}
use Rattle.vd_make.proofs.VersionLaws.{Since, Left, left_flushed}
use Rattle.vd_make.proofs.PutLaws.{two_events, puts_twice}

only_flush : (v : Sector) (from to number : ℕ) (result : Result ⊤ ℕ) → AllByRecursion (IsPut v from to) (flush_entries number result)
only_flush v from to number (Ok done) = (tt, (tt, tt))
only_flush v from to number (Err failed) = (tt, (tt, tt))

puts_sync : (v : Sector) (from to number : ℕ) (result : Result ⊤ ℕ) (old new : Disk) → Syncs (flush_entries number result) old new → PutsRange v from to (flush_entries number result) old new
puts_sync v from to number result old new s = record {
  start = s.start;
  log = s.log;
  only = only_flush v from to number result;
  size = ap length s.held;
  others = λ k apart. ap (λ (h : List Sector). slice_get h k) s.held;
  rest = s.rest;
}

-- the range was not written whole
pub keeps_none : (v : Sector) (from to number : ℕ) (old new : Disk) → TriesWrites v from to old new → Fills (Err number) v from to old new
keeps_none v from to number old new lays = record { more = lays.more; puts = lays.puts; kept = lays.quiet }

-- a flush that succeeds makes what was written all that a crash may leave
firm_now : (v : Sector) (number s : ℕ) (mid new : Disk) → Syncs (flush_entries number (Ok tt)) mid new → Since (λ x. x ≡ v) mid.start (past mid.log) s → MayHave v new s
firm_now v number s mid new sync since =
    let id = call_number number in
    let log : past new.log ≡ past mid.log ▸ Ask id Flush ▸ Reply id answers.Ok = ap past sync.log ∙ two_events mid.log (Ask id Flush) (Reply id answers.Ok) in
    let there : Since (λ x. x ≡ v) new.start (past mid.log) s = subst (λ (start : List Sector). Since (λ x. x ≡ v) start (past mid.log) s) (sym sync.start) since in
    subst (λ (q : Past). Left (λ x. x ≡ v) new.start q s) (sym log) (left_flushed (λ x. x ≡ v) new.start (past mid.log) id s there)

kept_by : (v : Sector) (from to number : ℕ) (result : Result ⊤ ℕ) (old mid new : Disk) (first : List Entry) → AllByRecursion IsNoSuccess first → IsRangeWritten v from to mid → Syncs (flush_entries number result) mid new
    → KeptBy result v from to (first ++ flush_entries number result) new
kept_by v from to number (Ok done) old mid new first quiet laid sync = record {
  before = first ++ Ask (call_number number) Flush ∷ [];
  id = call_number number;
  ends = sym (append_assoc first (Ask (call_number number) Flush ∷ []) (Reply (call_number number) answers.Ok ∷ []));
  quiet = each_append IsNoSuccess first (Ask (call_number number) Flush ∷ []) quiet (tt, tt);
  firm = λ s low high. firm_now v number s mid new sync (laid.done s low high);
  held = λ s low high x is. laid.held s low high x (ap (λ (h : List Sector). slice_get h s) (sym sync.held) ∙ is);
}
kept_by v from to number (Err failed) old mid new first quiet laid sync = each_append IsNoSuccess first (flush_entries number (Err failed)) quiet (tt, (tt, tt))

-- the range was written, and a flush was tried
pub keeps_one : (v : Sector) (from to number : ℕ) (result : Result ⊤ ℕ) (old mid new : Disk) → TriesWrites v from to old mid → IsRangeWritten v from to mid → Syncs (flush_entries number result) mid new → Fills result v from to old new
keeps_one v from to number result old mid new lays laid sync = record {
  more = lays.more ++ flush_entries number result;
  puts = puts_twice v from to lays.more (flush_entries number result) old mid new lays.puts (puts_sync v from to number result mid new sync);
  kept = kept_by v from to number result old mid new lays.more lays.quiet laid sync;
}
