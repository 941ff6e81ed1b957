-- What a command answers, and the causes of its status.
use Rattle.std.proofs.Common.{ℕ, zero, suc, ◌≡◌, ◌≤◌, ◌⊎◌, min, inl, inr, Bool, true, false, List, Some, refl, sym, ◌∙◌, ap, subst, arith}
use Rattle.std.specs.Prelude.{◌↔◌, ◌==◌, IsTrue, if◌then◌else◌}
use Rattle.vd_device.specs.declared.store.Store as store
use Rattle.vd_device.specs.declared.base.Base as base
use Rattle.vd_format.specs.Headers.{IsValid}
use Rattle.vd_format.specs.declared.header.Header.{Header}
use Rattle.vd_command.specs.declared.command.Command.{Command}
use Rattle.vd_command.specs.declared.command.Command.TheVariants.{Show, Make, Run}
use Rattle.vd_command.specs.Words.{Spells, made_header}
use Rattle.vd_io.specs.declared.sink.Sink as sink
use Rattle.vd_io.specs.declared.source.Source as source
use Rattle.vd_trace.specs.Traces.{Script}
use Rattle.vd_replay.specs.declared.error.OpenError.{OpenError as Refusal}
use Rattle.vd_report.specs.declared.line.Line.{Line}
use Rattle.vd_report.specs.Statuses.{status_of_line}
use Rattle.vd_run.specs.declared.ending.End.{End}
use Rattle.vd_device.specs.Devices.{Devices, devices, HaveFailed}
use Rattle.vd_report.specs.Outcomes.{Outcome}
use Rattle.vd_show.specs.Showing.{show_line, IsJudged, Without_memory, Store_failed, Base_failed, Image_refused, Past_the_disk, Is_shown}
use Rattle.vd_make.specs.Making.{MakingEnds, Too_few, Lacks_memory, Write_failed, Is_made}
use Rattle.vd_top.specs.Tasks.{IsMaking}
use Rattle.vd_top.specs.Commands.{Answers, Outside, Shows, Is_made_for}
use Rattle.vd_run.specs.Running.{IsReadLine, Source_failed, Read_without_memory, Is_bad, Is_too_much, IsOpenLine, Opened_without_memory, Open_failed, Is_refused, Is_past, RunEnds, Is_unread, Is_unopened, Ran_without_memory, Has_run}
use Rattle.vd_report.specs.Ending.{is_device_fault, are_ok, reopened_status, run_status, status_of, status_unwritten, PrintsOutcome}
use Rattle.vd_run.proofs.RunCauses.{closing_cause, reopened_cause, reopened_not}
use Rattle.vd_top.specs.Asks.{new_header, AsksFor, IsNoShow, IsNoMake, AsksRun, IsNoRun, IsNoCommand}
use Rattle.vd_law.specs.Counts.{Rose}

-- the header of a `make` is valid
pub new_valid : (size block chunk storage slots base_sectors : ℕ) → IsValid (made_header size block chunk storage slots) → IsValid (new_header size block chunk storage slots base_sectors)
new_valid size block chunk storage slots base_sectors v = record {
  version = v.version;
  block = v.block;
  chunk = v.chunk;
  whole_blocks = v.whole_blocks;
  some_block = v.some_block;
  size = v.size;
  some_storage = v.some_storage;
  storage = v.storage;
  some_slot = v.some_slot;
  slots = v.slots;
  tracked = omega arith;
  some_generation = v.some_generation;
  generation = v.generation;
}

-- one spelling has one header
one_header : (words : List (List ℕ)) (size block chunk storage slots base_sectors : ℕ) → ((command : Command) → Spells words command → Make size block chunk storage slots ≡ command) → (other : Header) → AsksFor words base_sectors other
    → other ≡ new_header size block chunk storage slots base_sectors
one_header words size block chunk storage slots base_sectors unique other asks =
    let same : Make size block chunk storage slots ≡ Make asks.size asks.block asks.chunk asks.storage asks.slots = unique (Make asks.size asks.block asks.chunk asks.storage asks.slots) asks.spells in
    let a : asks.size ≡ size = cc in
    let b : asks.block ≡ block = cc in
    let c : asks.chunk ≡ chunk = cc in
    let d : asks.storage ≡ storage = cc in
    let e : asks.slots ≡ slots = cc in
    asks.header
    ∙ ap (λ (n : ℕ). new_header n asks.block asks.chunk asks.storage asks.slots base_sectors) a
    ∙ ap (λ (n : ℕ). new_header size n asks.chunk asks.storage asks.slots base_sectors) b
    ∙ ap (λ (n : ℕ). new_header size block n asks.storage asks.slots base_sectors) c
    ∙ ap (λ (n : ℕ). new_header size block chunk n asks.slots base_sectors) d
    ∙ ap (λ (n : ℕ). new_header size block chunk storage n base_sectors) e

-- where the words spell one command, they ask for nothing else
pub no_show : {words : List (List ℕ)} (is : Command) → ((command : Command) → Spells words command → is ≡ command) → ((first count : ℕ) → is ≡ Show first count → ⊥) → IsNoShow words
no_show is unique other first count spells = other first count (unique (Show first count) spells)

pub no_make : {words : List (List ℕ)} (is : Command) → ((command : Command) → Spells words command → is ≡ command) → ((size block chunk storage slots : ℕ) → is ≡ Make size block chunk storage slots → ⊥) → IsNoMake words
no_make is unique other size block chunk storage slots spells = other size block chunk storage slots (unique (Make size block chunk storage slots) spells)

pub no_run : {words : List (List ℕ)} (is : Command) → ((command : Command) → Spells words command → is ≡ command) → (is ≡ Run 1 0 false 0 → ⊥) → IsNoRun words
no_run is unique other spells = other (unique (Run 1 0 false 0) spells)

-- over a base of so many sectors these words ask for this header
pub asks_for : (words : List (List ℕ)) (size block chunk storage slots base_sectors tracked : ℕ) → tracked ≡ min base_sectors size → Spells words (Make size block chunk storage slots)
    → ((command : Command) → Spells words command → Make size block chunk storage slots ≡ command) → IsMaking words base_sectors (record (made_header size block chunk storage slots) { tracked = tracked })
asks_for words size block chunk storage slots base_sectors tracked is spells unique =
    let same : record (made_header size block chunk storage slots) { tracked = tracked } ≡ new_header size block chunk storage slots base_sectors =
    ap (λ (n : ℕ). let h : Header = record (made_header size block chunk storage slots) { tracked = n } in h) is in
    record {
      asks = record { size = size; block = block; chunk = chunk; storage = storage; slots = slots; spells = spells; header = same };
      one = λ other asks. one_header words size block chunk storage slots base_sectors unique other asks ∙ sym same;
      valid = subst IsValid (sym same) (new_valid size block chunk storage slots base_sectors spells.allowed);
      version = refl;
      no_run = no_run (Make size block chunk storage slots) unique (λ e. cc);
    }

pub over_base : {words : List (List ℕ)} {n m : ℕ} {h : Header} → n ≡ m → IsMaking words n h → IsMaking words m h
over_base {words = words} {h = h} same making = subst (λ (k : ℕ). IsMaking words k h) same making

-- what was parsed is the one command that is spelled
pub one_command : (words : List (List ℕ)) (found is : Command) → found ≡ is → ((command : Command) → (Some found ≡ Some command) ↔ Spells words command) → (command : Command) → Spells words command → is ≡ command
one_command words found is same exact command spells = let e = (exact command).1 spells in cc

-- the words ask for a run exactly where the one that they spell has these numbers
pub run_exact : (words : List (List ℕ)) (found : Command) (guests workers : ℕ) (copying : Bool) (limit : ℕ) (result : Bool) → found ≡ Run guests workers copying limit → ((command : Command) → (Some found ≡ Some command) ↔ Spells words command)
    → (IsTrue result ↔ (guests ≡ 1) × (workers ≡ 0) × (copying ≡ false) × (limit ≡ 0)) → IsTrue result ↔ AsksRun words
run_exact words found guests workers copying limit result is exact alone = (
  (λ yes. (let n = alone.0 yes in (exact (Run 1 0 false 0)).0 (same found n.0 n.1 n.2 n.3 is))),
  (λ run. (let e = (exact (Run 1 0 false 0)).1 run in alone.1 (numbers found e is))),
) where
  same : (x : Command) {g w : ℕ} {c : Bool} {l : ℕ} → g ≡ 1 → w ≡ 0 → c ≡ false → l ≡ 0 → x ≡ Run g w c l → Some x ≡ Some (Run 1 0 false 0)
  same x a b d e f = cc

  numbers : (x : Command) {g w : ℕ} {c : Bool} {l : ℕ} → Some x ≡ Some (Run 1 0 false 0) → x ≡ Run g w c l → (g ≡ 1) × (w ≡ 0) × (c ≡ false) × (l ≡ 0)
  numbers x e f = (cc, cc, cc, cc)

-- which status an outcome has: that of words outside the grammar, of a device or a source that failed with its cause, or another
pub record HasCause (words : List (List ℕ)) (Device Source : Type 0) (status : ℕ) : Type 0 where
  pub outside : status ≡ 2 → IsNoCommand words
  pub inside : IsNoCommand words → status ≡ 2
  pub device : status ≡ 5 → Device
  pub source : status ≡ 6 → Source

-- the words are a command, and the status is none of 2 and 6
known : {words : List (List ℕ)} {Device Source : Type 0} {status : ℕ} → (IsNoCommand words → ⊥) → (status ≡ 2 → ⊥) → (status ≡ 6 → ⊥) → (status ≡ 5 → Device) → HasCause words Device Source status
known command not_two not_six device = record {
  outside = λ two. absurd (not_two two);
  inside = λ none. absurd (command none);
  device = device;
  source = λ six. absurd (not_six six);
}

is_show : {words : List (List ℕ)} (first count : ℕ) → Spells words (Show first count) → IsNoCommand words → ⊥
is_show first count spells none = none.0 first count spells

is_make : {words : List (List ℕ)} {base_sectors : ℕ} {h : Header} → AsksFor words base_sectors h → IsNoCommand words → ⊥
is_make asks none = none.1 asks.size asks.block asks.chunk asks.storage asks.slots asks.spells

differs : (status n m : ℕ) → status ≡ n → (n ≡ m → ⊥) → status ≡ m → ⊥
differs status n m is other now = other (sym is ∙ now)

judged_cause : {words : List (List ℕ)} {Device Source : Type 0} (first count : ℕ) (e : Refusal) → Spells words (Show first count) → IsJudged e → HasCause words Device Source (status_of_line (show_line e))
judged_cause first count refusal spells (inl three) = known (is_show first count spells) (differs _ 3 2 three (λ e. cc)) (differs _ 3 6 three (λ e. cc)) (λ e. absurd (differs _ 3 5 three (λ d. cc) e))
judged_cause first count refusal spells (inr eight) = known (is_show first count spells) (differs _ 8 2 eight (λ e. cc)) (differs _ 8 6 eight (λ e. cc)) (λ e. absurd (differs _ 8 5 eight (λ d. cc) e))

module _ {S B : Type 0} (g : store.Ghosts S) (h : base.Ghosts B) {words : List (List ℕ)} (d d' : Devices S B) {Source : Type 0} where
  making_cause : (header : Header) (outcome : Outcome) → AsksFor words (h.sectors d.base) header → MakingEnds g header d.store d'.store outcome → HasCause words (HaveFailed g h d d') Source (status_of outcome)
  making_cause header outcome asks (Too_few small reads) = known (is_make asks) (λ e. cc) (λ e. cc) (λ e. absurd cc)
  making_cause header outcome asks (Lacks_memory room reads) = known (is_make asks) (λ e. cc) (λ e. cc) (λ e. absurd cc)
  making_cause header outcome asks (Write_failed ticket room fault) = known (is_make asks) (λ e. cc) (λ e. cc) (λ e. inl fault.rose)
  making_cause header outcome asks (Is_made room) = known (is_make asks) (λ e. cc) (λ e. cc) (λ e. absurd cc)

  -- each outcome has its cause
  pub outcome_cause : (outcome : Outcome) → Answers g h words d d' outcome → HasCause words (HaveFailed g h d d') Source (status_of outcome)
  outcome_cause outcome (Outside none) = record { outside = λ two. none; inside = λ no_command. refl; device = λ five. absurd cc; source = λ six. absurd cc }
  outcome_cause outcome (Shows first count o spells Without_memory) = known (is_show first count spells) (λ e. cc) (λ e. cc) (λ e. absurd cc)
  outcome_cause outcome (Shows first count o spells (Store_failed ticket fault)) = known (is_show first count spells) (λ e. cc) (λ e. cc) (λ e. inl fault.rose)
  outcome_cause outcome (Shows first count o spells (Base_failed ticket fault)) = known (is_show first count spells) (λ e. cc) (λ e. cc) (λ e. inr fault.rose)
  outcome_cause outcome (Shows first count o spells (Image_refused refusal judged right)) = judged_cause first count refusal spells judged
  outcome_cause outcome (Shows first count o spells (Past_the_disk past)) = known (is_show first count spells) (λ e. cc) (λ e. cc) (λ e. absurd cc)
  outcome_cause outcome (Shows first count o spells (Is_shown sectors size right)) = known (is_show first count spells) (λ e. cc) (λ e. cc) (λ e. absurd cc)
  outcome_cause outcome (Is_made_for header o asks ends) = making_cause header o asks ends

-- The words are a run's, and the status isn't 2.
of_run : {words : List (List ℕ)} {Device Source : Type 0} {status : ℕ} → AsksRun words → (status ≡ 2 → ⊥) → (status ≡ 5 → Device) → (status ≡ 6 → Source) → HasCause words Device Source status
of_run run not_two device source = record {
  outside = λ two. absurd (not_two two);
  inside = λ none. absurd (none.2 run);
  device = device;
  source = source;
}

read_cause : {I : Type 0} {i : source.Ghosts I} {source source' : I} {words : List (List ℕ)} {Device : Type 0} {line : Line} → AsksRun words → IsReadLine i source source' line → HasCause words Device (Rose (i.faults source) (i.faults source')) (status_of_line line)
read_cause run (Source_failed failed) = of_run run (λ e. cc) (λ e. absurd cc) (λ e. failed)
read_cause run Read_without_memory = of_run run (λ e. cc) (λ e. absurd cc) (λ e. absurd cc)
read_cause run (Is_bad number bad) = of_run run (λ e. cc) (λ e. absurd cc) (λ e. absurd cc)
read_cause run (Is_too_much number much) = of_run run (λ e. cc) (λ e. absurd cc) (λ e. absurd cc)

open_cause : {S : Type 0} {g : store.Ghosts S} {s s' : S} {words : List (List ℕ)} {trace : Script} {Base_cause Source : Type 0} {line : Line} → AsksRun words → IsOpenLine g trace s s' line
    → HasCause words (Rose (g.faults s) (g.faults s') ⊎ Base_cause) Source (status_of_line line)
open_cause run Opened_without_memory = of_run run (λ e. cc) (λ e. absurd cc) (λ e. absurd cc)
open_cause run (Open_failed ticket fault) = of_run run (λ e. cc) (λ e. inl fault.rose) (λ e. absurd cc)
open_cause run (Is_refused e (inl three) right) = of_run run (differs _ 3 2 three (λ d. cc)) (λ f. absurd (differs _ 3 5 three (λ d. cc) f)) (λ f. absurd (differs _ 3 6 three (λ d. cc) f))
open_cause run (Is_refused e (inr eight) right) = of_run run (differs _ 8 2 eight (λ d. cc)) (λ f. absurd (differs _ 8 5 eight (λ d. cc) f)) (λ f. absurd (differs _ 8 6 eight (λ d. cc) f))
open_cause run (Is_past header number right past) = of_run run (λ e. cc) (λ e. absurd cc) (λ e. absurd cc)

report_cause : {words : List (List ℕ)} {Device Source : Type 0} (closing_failed : Bool) (reopened : ℕ) (ok : Bool) → AsksRun words → (closing_failed ≡ true → Device) → (reopened ≡ 5 → Device) → (reopened ≡ 2 → ⊥) → (reopened ≡ 6 → ⊥)
    → HasCause words Device Source (run_status closing_failed reopened ok)
report_cause true reopened ok run closing five two six = of_run run (λ e. cc) (λ e. closing refl) (λ e. absurd cc)
report_cause {words = words} {Device = Device} {Source = Source} false reopened ok run closing five two six = by (reopened == 0) ok
  where
    by : (none : Bool) (ok : Bool) → HasCause words Device Source (if none then (if ok then 0 else 1) else reopened)
    by true true = of_run run (λ e. cc) (λ e. absurd cc) (λ e. absurd cc)
    by true false = of_run run (λ e. cc) (λ e. absurd cc) (λ e. absurd cc)
    by false ok = of_run run two five (λ e. absurd (six e))

-- a device that failed since later has failed since earlier
failed_earlier : (sf sf' sf'' bf bf' bf'' : ℕ) → sf ≤ sf' → bf ≤ bf' → Rose sf' sf'' ⊎ Rose bf' bf'' → Rose sf sf'' ⊎ Rose bf bf''
failed_earlier sf sf' sf'' bf bf' bf'' store base (inl rose) = inl (omega arith)
failed_earlier sf sf' sf'' bf bf' bf'' store base (inr rose) = inr (omega arith)

module _ {S B I : Type 0} {g : store.Ghosts S} {h : base.Ghosts B} {i : source.Ghosts I} {words : List (List ℕ)} {d : Devices S B} {end : End S B} {source source' : I} where
  -- each outcome of a run has its cause
  pub run_cause : (outcome : Outcome) → AsksRun words → RunEnds g h i d end source source' outcome → HasCause words (HaveFailed g h d (devices end.store end.base)) (Rose (i.faults source) (i.faults source')) (status_of outcome)
  run_cause outcome run (Is_unread line none unread) = read_cause run unread
  run_cause outcome run (Is_unopened trace line none read unopened) = open_cause run unopened
  run_cause outcome run (Ran_without_memory none) = of_run run (λ e. cc) (λ e. absurd cc) (λ e. absurd cc)
  run_cause outcome run (Has_run trace kept history closing reopened closed handed read opens is leaves behind again allowed) =
      report_cause (is_device_fault closing) (reopened_status reopened) (are_ok history.log.entries) run
      (λ failed. closing_cause is.answer is.closed is.store_caused is.base_caused (ap is_device_fault (sym is.closing_is) ∙ failed))
      (λ five. failed_earlier (g.faults d.store) (g.faults closed.store) (g.faults end.store) (h.faults d.base) (h.faults closed.base) (h.faults end.base)
      leaves.store.counts.faults leaves.base.keeps.counts.faults (reopened_cause reopened again five))
      (reopened_not reopened 2 (λ e. cc) (λ e. cc) (λ e. cc)) (reopened_not reopened 6 (λ e. cc) (λ e. cc) (λ e. cc))

cause_unwritten : {words : List (List ℕ)} {Device Source : Type 0} (status : ℕ) → HasCause words Device Source status → (status_unwritten status ≡ 2 → IsNoCommand words) × (IsNoCommand words → status_unwritten status ≡ 2) × (status_unwritten status ≡ 5 → Device)
cause_unwritten zero cause = ((λ e. absurd cc), (λ none. absurd (let e = cause.inside none in cc)), (λ e. absurd cc))
cause_unwritten (suc zero) cause = ((λ e. absurd cc), (λ none. absurd (let e = cause.inside none in cc)), (λ e. absurd cc))
cause_unwritten (suc (suc n)) cause = (cause.outside, cause.inside, cause.device)

-- The causes of statuses: 2 is for words that are no command, 5 for a device that failed, 6 for a source or a sink that did.
pub record IsCaused (words : List (List ℕ)) (Device Source Sink_failed : Type 0) (status : ℕ) : Type 0 where
  pub outside : (status ≡ 2) ↔ IsNoCommand words
  pub device : status ≡ 5 → Device
  pub streams : status ≡ 6 → Source ⊎ Sink_failed

pub ends_caused : {O : Type 0} {o : sink.Ghosts O} {out out' : O} {words : List (List ℕ)} {Device Source : Type 0} {status : ℕ} (outcome : Outcome) → HasCause words Device Source (status_of outcome) → PrintsOutcome o outcome status out out'
    → IsCaused words Device Source (Rose (o.faults out) (o.faults out')) status
ends_caused outcome cause ends = elim ends.printed [
  | inl whole ↦ record {
    outside = ((λ two. cause.outside (sym whole.0 ∙ two)), (λ none. whole.0 ∙ cause.inside none));
    device = λ five. cause.device (sym whole.0 ∙ five);
    streams = λ six. inl (cause.source (sym whole.0 ∙ six));
  }
  | inr cut ↦ (let u = cause_unwritten (status_of outcome) cause in record {
    outside = ((λ two. u.0 (sym cut.0 ∙ two)), (λ none. cut.0 ∙ u.1 none));
    device = λ five. u.2 (sym cut.0 ∙ five);
    streams = λ six. inr cut.1;
  })
]

-- so has the status of an answer that was printed
module _ {S B O : Type 0} {g : store.Ghosts S} {h : base.Ghosts B} {o : sink.Ghosts O} {words : List (List ℕ)} {d : Devices S B} {out out' : O} where
  pub answer_caused : {d' : Devices S B} {Source : Type 0} {status : ℕ} (outcome : Outcome) → Answers g h words d d' outcome → PrintsOutcome o outcome status out out' → IsCaused words (HaveFailed g h d d') Source (Rose (o.faults out) (o.faults out')) status
  answer_caused {d'} outcome answers ends = ends_caused outcome (outcome_cause g h d d' outcome answers) ends

  pub run_caused : {I : Type 0} {i : source.Ghosts I} {end : End S B} {source source' : I} (outcome : Outcome) → AsksRun words → RunEnds g h i d end source source' outcome → PrintsOutcome o outcome end.status out out'
      → IsCaused words (HaveFailed g h d (devices end.store end.base)) (Rose (i.faults source) (i.faults source')) (Rose (o.faults out) (o.faults out')) end.status
  run_caused outcome run ran ends = ends_caused outcome (run_cause outcome run ran) ends
