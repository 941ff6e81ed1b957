-- Why a run's report ends with status 5: a device has failed.
use Rattle.std.proofs.Common.{ℕ, suc, ◌≡◌, ◌+◌, ◌≤◌, ◌⊎◌, inl, inr, Bool, true, false, List, [], ◌∷◌, ◌++◌, length, Option, Some, refl, ap, ◌∙◌, arith, eqb-true}
use Rattle.std.specs.Prelude.{slice_get, is_some, ◌||◌, if◌then◌else◌}
use Rattle.std.specs.List.{list_any}
use Rattle.std.proofs.lemmas.List.{length-append, take_all}
use Rattle.std.proofs.lemmas.List.Sums.{count_by_more_yes}
use Rattle.std.proofs.lemmas.Option.{slice_get_within, get_or_from_slice_get}
use Rattle.vd_law.specs.declared.entry.Answer.{Answer}
use Rattle.vd_law.specs.declared.entry.Answer.TheVariants as answers
use Rattle.vd_law.specs.Entries.{Flush, Entry, Ask, Reply}
use Rattle.vd_format.specs.declared.header.Header.{Header}
use Rattle.vd_device.specs.declared.store.Store as store
use Rattle.vd_device.specs.declared.base.Base as base
use Rattle.vd_passes.specs.Causes.{Device, OfStore, OfBase, named_by, named_in, faults_named, AreCaused}
use Rattle.vd_run.specs.Serving.{Closes}
use Rattle.vd_trace.specs.Traces.{Showing}
use Rattle.vd_report.specs.declared.line.Line.{Line}
use Rattle.vd_report.specs.Statuses.{status_of_line}
use Rattle.vd_device.specs.Devices.{Devices}
use Rattle.vd_report.specs.Outcomes.{ShownLine, Reopened, Refused, Opened}
use Rattle.vd_report.specs.Ending.{is_device_fault, has_failed, reopened_status}
use Rattle.vd_show.specs.Showing.{show_line}
use Rattle.vd_run.specs.Running.{closing_line}
use Rattle.vd_run.specs.Reopening.{IsShownBy, Is_read, Store_failed, Base_failed, AreShownBy, Reopens, Reopening_failed, Is_refused_again, Opens_again}
use Rattle.vd_law.specs.Counts.{Rose}
use Rattle.vd_lists.proofs.Places.{some_place, slice_get_second_last}

-- the flush that closes a run has failed only where its device has
named_last : (device : Device) (served : List Entry) (first last : Entry) (ticket : ℕ) → named_in device last ≡ Some ticket → 1 ≤ faults_named device (served ++ first ∷ last ∷ [])
named_last device served first last ticket names =
    let all : List Entry = served ++ first ∷ last ∷ [] in
    let there = slice_get_second_last served first last in
    let inside = slice_get_within all (suc (length served)) last there in
    let long = length-append served (first ∷ last ∷ []) in
    let counts = count_by_more_yes (λ e. is_some (named_in device e)) all (suc (length served)) first inside (ap (λ (e : Entry). is_some (named_in device e)) (get_or_from_slice_get all (suc (length served)) last first there) ∙ ap (λ (o : Option ℕ). is_some o) names) in
    let whole = ap (faults_named device) (take_all (suc (length served) + 1) all (omega (arith, long))) in
    omega (arith, counts, whole)

closing_named : {device : Device} {answer : Answer} {served entries : List Entry} {faults faults' : ℕ} (ticket : ℕ) → Closes answer served entries → named_by device answer ≡ Some ticket → AreCaused device entries faults faults' → Rose faults faults'
closing_named {device = device} {answer = answer} {served = served} ticket closes names caused =
    let least = named_last device served (Ask (record { pass = 0; call = closes.call }) Flush) (Reply (record { pass = 0; call = closes.call }) answer) ticket names in
    let same = ap (faults_named device) closes.after in
    let counted = caused.counted in omega (arith, least, same, counted)

pub closing_cause : {served entries : List Entry} {sf sf' bf bf' : ℕ} (answer : Answer) → Closes answer served entries → AreCaused OfStore entries sf sf' → AreCaused OfBase entries bf bf' → is_device_fault (closing_line answer) ≡ true → Rose sf sf' ⊎ Rose bf bf'
closing_cause answers.Ok closes store base fault = absurd cc
closing_cause (answers.Full needed free) closes store base fault = absurd cc
closing_cause (answers.StoreFault ticket done) closes store base fault = inl (closing_named ticket closes refl store)
closing_cause (answers.BaseFault ticket done) closes store base fault = inr (closing_named ticket closes refl base)
closing_cause (answers.NoRoom events sectors) closes store base fault = absurd cc
closing_cause (answers.Worn generation) closes store base fault = absurd cc

-- so has a line that shows sectors
shown_cause : {S B : Type 0} {g : store.Ghosts S} {h : base.Ghosts B} {header : Header} {d d' : Devices S B} {line : Showing} (shows : ShownLine) → IsShownBy g h header d d' line shows → has_failed shows ≡ true
    → Rose (g.faults d.store) (g.faults d'.store) ⊎ Rose (h.faults d.base) (h.faults d'.base)
shown_cause shows (Is_read sectors size right) failed = absurd cc
shown_cause shows (Store_failed ticket fails) failed = inl (let rose = fails.fault.rose in let calm = fails.more.keeps.counts.faults in omega arith)
shown_cause shows (Base_failed ticket fails) failed = inr (let rose = fails.fault.rose in let calm = fails.more.keeps.counts.faults in omega arith)

abbrev Failing : List ShownLine → Type 0
Failing shown = (i : ℕ) × ((shows : ShownLine) × (slice_get shown i ≡ Some shows) × (has_failed shows ≡ true))

failing_by : (s : ShownLine) (shown : List ShownLine) (b : Bool) → has_failed s ≡ b → (b || list_any has_failed shown) ≡ true → (list_any has_failed shown ≡ true → Failing shown) → Failing (s ∷ shown)
failing_by s shown true is any rest = (0, (s, refl, is))
failing_by s shown false is any rest = let f = rest any in (suc f.0, (f.1.0, f.1.1, f.1.2))

first_failed : (shown : List ShownLine) → list_any has_failed shown ≡ true → Failing shown
first_failed [] any = absurd cc
first_failed (s ∷ shown) any = failing_by s shown (has_failed s) refl any (first_failed shown)

shows_cause : {S B : Type 0} {g : store.Ghosts S} {h : base.Ghosts B} {header : Header} {d d' : Devices S B} (trace_lines : List Showing) (shown : List ShownLine) → AreShownBy g h header d d' trace_lines shown
    → list_any has_failed shown ≡ true → Rose (g.faults d.store) (g.faults d'.store) ⊎ Rose (h.faults d.base) (h.faults d'.base)
shows_cause trace_lines shown all any =
    let failed = first_failed shown any in
    let line = some_place trace_lines failed.0 (let k = slice_get_within shown failed.0 failed.1.0 failed.1.1 in let m = all.many in omega arith) in
    shown_cause failed.1.0 (all.each failed.0 line.0 failed.1.0 line.1 failed.1.1) failed.1.2

if_five : (b : Bool) (other : ℕ) → (other ≡ 5 → ⊥) → (if b then 5 else other) ≡ 5 → b ≡ true
if_five true other not_five is = refl
if_five false other not_five is = absurd (not_five is)

if_not : (b : Bool) (other n : ℕ) → (5 ≡ n → ⊥) → (other ≡ n → ⊥) → (if b then 5 else other) ≡ n → ⊥
if_not true other n five differs is = five is
if_not false other n five differs is = differs is

no_fault : (line : Line) → (status_of_line line ≡ 3) ⊎ (status_of_line line ≡ 8) → is_device_fault line ≡ true → ⊥
no_fault line (inl three) fault = let n = eqb-true (status_of_line line) 5 fault in omega (arith, n, three)
no_fault line (inr eight) fault = let n = eqb-true (status_of_line line) 5 fault in omega (arith, n, eight)

pub reopened_cause : {S B : Type 0} {g : store.Ghosts S} {h : base.Ghosts B} {kept : Header} {shows : List Showing} {d d' : Devices S B} (reopened : Reopened) → Reopens g h kept shows d d' reopened → reopened_status reopened ≡ 5
    → Rose (g.faults d.store) (g.faults d'.store) ⊎ Rose (h.faults d.base) (h.faults d'.base)
reopened_cause reopened (Reopening_failed ticket fault) five = inl fault.rose
reopened_cause reopened (Is_refused_again e judged right) five = absurd (no_fault (show_line e) judged (if_five (is_device_fault (show_line e)) 3 (λ e. cc) five))
reopened_cause {shows = shows} reopened (Opens_again header shown local of same opens all are) five = shows_cause shows shown all (if_five (list_any has_failed shown) 0 (λ e. cc) five)

pub reopened_not : (reopened : Reopened) (n : ℕ) → (5 ≡ n → ⊥) → (3 ≡ n → ⊥) → (0 ≡ n → ⊥) → reopened_status reopened ≡ n → ⊥
reopened_not (Refused line) n five three zero_not is = if_not (is_device_fault line) 3 n five three is
reopened_not (Opened shown local of) n five three zero_not is = if_not (list_any has_failed shown) 0 n five zero_not is
