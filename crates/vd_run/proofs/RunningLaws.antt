-- How `run` reads its trace, opens its image and prints its report.
use Rattle.std.proofs.Common.{ℕ, zero, suc, ◌≡◌, ◌+◌, ◌≤◌, inl, inr, Bool, true, false, cond, List, [], ◌∷◌, length, take, find, map, replicate, Option, None, Some, Err, refl, ap, sym, ◌∙◌, subst, arith}
use Rattle.std.specs.Prelude.{nat_lt, ◌==◌, ◌&&◌, slice_get}
use Rattle.std.specs.List.{All, filter, fold}
use Rattle.std.specs.Option.{option_map, option_or}
use Rattle.std.proofs.lemmas.Bool.{ltb-false}
use Rattle.std.proofs.lemmas.List.{length-replicate}
use Rattle.std.proofs.lemmas.List.Elements.{All-nil, All-cons}
use Rattle.std.proofs.lemmas.List.Folds.{list_all_more}
use Rattle.std.proofs.lemmas.Option.{slice_get_within, get_or_from_slice_get}
use Rattle.vd_law.specs.declared.entry.Sector.{Sector}
use Rattle.vd_law.specs.declared.entry.Answer.{Answer}
use Rattle.vd_law.specs.declared.entry.Answer.TheVariants as answers
use Rattle.vd_law.specs.Entries as law
use Rattle.vd_law.specs.Entries.{Asked, Entry, Ask, Issue, Done, Broke, Seen, Reply, Past, nothing, ◌▸◌, past}
use Rattle.vd_law.specs.Calls.{Progress, progress}
use Rattle.vd_law.specs.Rules.{Each, IsAnswerTo, ReplyFits, IsAnswered, IsRegular, is_ok}
use Rattle.vd_device.specs.declared.store.Store as store
use Rattle.vd_io.specs.declared.source.Source as source
use Rattle.vd_device.specs.Quiet.{OnlyReads, AddsFlush, IsStoreFault}
use Rattle.vd_format.specs.declared.header.Header.{Header}
use Rattle.vd_format.specs.declared.header.HeaderError.TheVariants as header_errors
use Rattle.vd_format.specs.Headers.{IsValid}
use Rattle.vd_trace.specs.declared.line.Work.{Work}
use Rattle.vd_trace.specs.declared.line.Work.TheVariants.{Read, Fill, Put, Flush}
use Rattle.vd_trace.specs.declared.error.TraceError.{TraceError}
use Rattle.vd_trace.specs.declared.error.TraceError.TheVariants as trace_errors
use Rattle.vd_trace.specs.Traces.{Asking, Showing, Script, script, work_asked, requests_of}
use Rattle.vd_trace.specs.Scripts.{ReadsTrace, end_of, asks_past, shows_past}
use Rattle.vd_report.specs.Replies.{IsPrinted, HasText}
use Rattle.vd_run.specs.Serving.{IsServable}
use Rattle.vd_report.specs.declared.line.Line.{Line}
use Rattle.vd_report.specs.declared.line.Line.TheVariants as lines
use Rattle.vd_image.specs.Openings.{Opens}
use Rattle.vd_replay.specs.Images.{image_of}
use Rattle.vd_replay.specs.States.{IsOpenedState, StateSays}
use Rattle.vd_replay.specs.Finding.{ForStore}
use Rattle.vd_replay.specs.Refusals.{Refused}
use Rattle.vd_replay.specs.declared.state.State.{State}
use Rattle.vd_replay.specs.declared.error.OpenError.{OpenError}
use Rattle.vd_replay.specs.declared.error.OpenError.TheVariants as refusals
use Rattle.vd_show.specs.Showing.{show_line, IsJudged}
use Rattle.vd_report.specs.Ending.{are_ok, is_ok_reply}
use Rattle.vd_run.specs.Running.{trace_line, first_past as past_of, IsReadLine, Source_failed, Read_without_memory, Is_bad, Is_too_much, OpensFor, IsOpenedFor, IsOpenLine, Opened_without_memory, Open_failed, Is_refused, Is_past}
use Rattle.vd_law.specs.Counts.{Rose}

-- The trace.

module _ {I : Type 0} {i : source.Ghosts I} {source source' : I} where
  unread_by : (e : TraceError) → (i.tells source' → ReadsTrace 1 (i.rest source) (Err e)) → (e ≡ trace_errors.Source → Rose (i.faults source) (i.faults source')) → IsReadLine i source source' (trace_line e)
  unread_by (trace_errors.Bad number) reads cause = Is_bad number reads
  unread_by (trace_errors.TooMuch number) reads cause = Is_too_much number reads
  unread_by trace_errors.Source reads cause = Source_failed (cause refl)
  unread_by trace_errors.NoMemory reads cause = Read_without_memory

  pub unread : (e : TraceError) (line : Line) → line ≡ trace_line e → (i.tells source' → ReadsTrace 1 (i.rest source) (Err e)) → (e ≡ trace_errors.Source → Rose (i.faults source) (i.faults source')) → IsReadLine i source source' line
  unread e line is reads cause = subst (λ (l : Line). IsReadLine i source source' l) (sym is) (unread_by e reads cause)

-- The image.

-- a valid header is of version 2 where it is of no earlier one
pub version_two : (h : Header) → IsValid h → 2 ≤ h.version → h.version ≡ 2
version_two h valid least = elim valid.version [ inl one ↦ omega arith | inr two ↦ two ]

-- what a state says comes from an image that opens by its header
opens_by : (held held' : List Sector) (s : State) → s.header.version ≡ 2 → held' ≡ held → StateSays held' s → Opens (length held) (image_of held) s.header
opens_by held held' s two same says = subst (λ (x : List Sector). Opens (length x) (image_of x) s.header) same (says.current two).opens

module _ {S : Type 0} {g : store.Ghosts S} {s s' : S} (trace : Script) where
  refused : (e : OpenError) → IsJudged e → OnlyReads g s s' → (g.tells s' → Refused 2 (g.disk s').held e) → IsOpenLine g trace s s' (show_line e)
  refused e judged reads right = Is_refused e judged (λ t. subst (λ (x : List Sector). Refused 2 x e) (reads.held t) (right t))

  not_opened_by : (e : OpenError) → OnlyReads g s s' → ForStore (IsStoreFault g s s') e → (g.tells s' → Refused 2 (g.disk s').held e) → IsOpenLine g trace s s' (show_line e)
  not_opened_by (refusals.Store ticket) reads fault right = Open_failed ticket fault
  not_opened_by refusals.NoMemory reads fault right = Opened_without_memory
  not_opened_by (refusals.Header header_errors.NotImage) reads fault right = refused (refusals.Header header_errors.NotImage) (inl refl) reads right
  not_opened_by (refusals.Header (header_errors.Version version)) reads fault right = refused (refusals.Header (header_errors.Version version)) (inl refl) reads right
  not_opened_by (refusals.Header (header_errors.Field field)) reads fault right = refused (refusals.Header (header_errors.Field field)) (inl refl) reads right
  not_opened_by (refusals.TooSmall need have) reads fault right = refused (refusals.TooSmall need have) (inl refl) reads right
  not_opened_by refusals.OldVersion reads fault right = refused refusals.OldVersion (inl refl) reads right
  not_opened_by (refusals.BadEntry chunk value) reads fault right = refused (refusals.BadEntry chunk value) (inl refl) reads right
  not_opened_by (refusals.BadRecord slot) reads fault right = refused (refusals.BadRecord slot) (inl refl) reads right
  not_opened_by (refusals.DoubleChunk a b) reads fault right = refused (refusals.DoubleChunk a b) (inl refl) reads right
  not_opened_by (refusals.Changed field) reads fault right = refused (refusals.Changed field) (inl refl) reads right
  not_opened_by refusals.NotBuilt reads fault right = refused refusals.NotBuilt (inr refl) reads right

  pub not_opened_for : (e : OpenError) (line : Line) → line ≡ show_line e → OnlyReads g s s' → ForStore (IsStoreFault g s s') e → (g.tells s' → Refused 2 (g.disk s').held e) → IsOpenLine g trace s s' line
  not_opened_for e line is reads fault right = subst (λ (l : Line). IsOpenLine g trace s s' l) (sym is) (not_opened_by e reads fault right)

  module _ (state : State) (opened : IsOpenedState (g.sectors s') state) (least : 2 ≤ state.header.version) (reads : OnlyReads g s s') (says : g.tells s' → StateSays (g.disk s').held state) where
    two : state.header.version ≡ 2
    two = version_two state.header opened.readable.sized.valid least

    pub line_past : (number : ℕ) → Some number ≡ past_of state.header.size trace → IsOpenLine g trace s s' (lines.LinePastTheDisk number)
    line_past number at = Is_past state.header number (λ t. opens_by (g.disk s).held (g.disk s').held state two (reads.held t) (says t)) (sym at)

    pub opens_for : None ≡ past_of state.header.size trace → OpensFor g trace state.header s s'
    opens_for at = record {
      valid = opened.readable.sized.valid;
      version = two;
      inside = sym at;
      opens = λ t. opens_by (g.disk s).held (g.disk s').held state two (reads.held t) (says t);
    }

    pub is_open : None ≡ past_of state.header.size trace → (g.tells s' → AddsFlush (g.disk s) (g.disk s')) → IsOpenedFor g trace state s'
    is_open at flushed = record {
      opens = record { valid = opened.readable.sized.valid; version = two; inside = sym at; opens = λ t. opens_by (g.disk s').held (g.disk s').held state two refl (says t) };
      opened = opened;
      flushed = λ t. (g.disk s, flushed t);
      says = says;
    }

-- it was told so before
pub opens_told : {S : Type 0} {g : store.Ghosts S} {s s' s'' : S} {trace : Script} {h : Header} → (g.tells s'' → g.tells s') → OpensFor g trace h s s' → OpensFor g trace h s s''
opens_told before opens = record { valid = opens.valid; version = opens.version; inside = opens.inside; opens = λ t. opens.opens (before t) }

-- All requests of a trace with no range past the disk are served, and its lines show sectors of the disk.

none_first : {X : Type 0} (b : Bool) (x : X) (o : Option X) → cond b (Some x) o ≡ None → (b ≡ false) × (o ≡ None)
none_first true x o e = absurd cc
none_first false x o e = (refl, e)

none_of_or : (o p : Option ℕ) → option_or o p ≡ None → o ≡ None
none_of_or None p e = refl
none_of_or (Some x) p e = absurd cc

none_mapped : {X : Type 0} (f : X → ℕ) (o : Option X) → option_map f o ≡ None → o ≡ None
none_mapped f None e = refl
none_mapped f (Some x) e = absurd cc

abbrev filled : ℕ → Sector
filled byte = record { bytes = replicate 512 byte }

none_of_both : (o p : Option ℕ) → option_or o p ≡ None → p ≡ None
none_of_both None p e = e
none_of_both (Some x) p e = absurd cc

work_served : (size : ℕ) (work : Work) → nat_lt size (end_of work) ≡ false → IsServable size (work_asked work)
work_served size (Read first count) inside = ltb-false size (first + count) inside
work_served size (Fill first count byte) inside =
    let within = ltb-false size (first + count) inside in let long = length-replicate count (filled byte) in omega arith
work_served size (Put first sector) inside = ltb-false size (first + 1) inside
work_served size Flush inside = tt

kept : (size : ℕ) (b : Bool) (a : Asking) (rest : List Asking) → IsServable size (work_asked a.work) → All (IsServable size) (map (λ x. work_asked x.work) rest) → All (IsServable size) (map (λ x. work_asked x.work) (cond b (a ∷ rest) rest))
kept size true a rest here more = All-cons (IsServable size) (work_asked a.work) (map (λ x. work_asked x.work) rest) here more
kept size false a rest here more = more

asks_served : (size : ℕ) (asks : List Asking) → find (λ a. nat_lt size (end_of a.work)) asks ≡ None → All (IsServable size) (requests_of 1 asks)
asks_served size [] inside = All-nil (IsServable size)
asks_served size (a ∷ asks) inside =
    let i = none_first (nat_lt size (end_of a.work)) a (find (λ x. nat_lt size (end_of x.work)) asks) inside in
    kept size (a.guest == 1) a (filter (λ x. x.guest == 1) asks) (work_served size a.work i.0) (asks_served size asks i.1)

pub script_served : (size size' : ℕ) (trace : Script) → past_of size trace ≡ None → size' ≡ size → All (IsServable size') (script trace 1)
script_served size size' trace inside same =
    let p = none_mapped (λ a. a.number) (find (λ a. nat_lt size (end_of a.work)) trace.asks) (none_of_or (asks_past size trace.asks) (shows_past size trace.shows) inside) in
    subst (λ (n : ℕ). All (IsServable n) (script trace 1)) (sym same) (asks_served size trace.asks p)

shows_within : (size : ℕ) (shows : List Showing) → find (λ s. nat_lt size (s.first + s.count)) shows ≡ None → (i : ℕ) (line : Showing) → slice_get shows i ≡ Some line → line.first + line.count ≤ size
shows_within size [] inside i line at = absurd cc
shows_within size (s ∷ shows) inside zero line at =
    let n = none_first (nat_lt size (s.first + s.count)) s (find (λ x. nat_lt size (x.first + x.count)) shows) inside in
    let e : s ≡ line = cc in
    subst (λ (x : Showing). x.first + x.count ≤ size) e (ltb-false size (s.first + s.count) n.0)
shows_within size (s ∷ shows) inside (suc i) line at =
    let n = none_first (nat_lt size (s.first + s.count)) s (find (λ x. nat_lt size (x.first + x.count)) shows) inside in
    shows_within size shows n.1 i line at

pub line_within : (size : ℕ) (trace : Script) → past_of size trace ≡ None → (i : ℕ) (line : Showing) → slice_get trace.shows i ≡ Some line → line.first + line.count ≤ size
line_within size trace inside =
    shows_within size trace.shows (none_mapped (λ s. s.number) (find (λ s. nat_lt size (s.first + s.count)) trace.shows) (none_of_both (asks_past size trace.asks) (shows_past size trace.shows) inside))

-- Each reply of a regular history has a text.

printed : (request : Asked) (c : Progress) (answer : Answer) → IsAnswerTo request c answer → IsPrinted answer
printed request c answers.Ok fits = tt
printed request c (answers.Full needed free) fits = tt
printed request c (answers.StoreFault ticket done) fits = tt
printed request c (answers.BaseFault ticket done) fits = tt
printed (law.Read first count) c (answers.NoRoom events sectors) fits = fits
printed (law.Write first content) c (answers.NoRoom events sectors) fits = fits
printed law.Flush c (answers.NoRoom events sectors) fits = fits
printed request c (answers.Worn generation) fits = tt

reply_printed : (o : Option Asked) (c : Progress) (answer : Answer) → ReplyFits o c answer → IsPrinted answer
reply_printed None c answer fits = absurd fits
reply_printed (Some request) c answer fits = printed request c answer fits.fits

answered_text : (p : Past) (e : Entry) → IsAnswered p e → HasText e
answered_text p (Ask id request) fits = tt
answered_text p (Issue id first content) fits = tt
answered_text p (Done id) fits = tt
answered_text p (Broke id) fits = tt
answered_text p (Seen id first content) fits = tt
answered_text p (Reply id answer) fits = reply_printed (progress p id).asked (progress p id) answer fits

each_before : (P : Past → Entry → Type 0) (more : List Entry) (p : Past) → Each P (fold ◌▸◌ p more) → Each P p
each_before P [] p all = all
each_before P (e ∷ more) p all = let front = each_before P more (p ▸ e) all in front.0

each_text : (log : List Entry) (p : Past) → Each IsAnswered (fold ◌▸◌ p log) → All HasText log
each_text [] p all = All-nil HasText
each_text (e ∷ log) p all = let here = each_before IsAnswered log (p ▸ e) all in All-cons HasText e log (answered_text p e here.1) (each_text log (p ▸ e) all)

pub regular_text : {size : ℕ} (log : List Entry) → IsRegular size log → All HasText log
regular_text log regular = each_text log nothing regular.answered

-- The statuses of the report.

pub not_ok : (answer : Answer) → (answer ≡ answers.Ok → ⊥) → is_ok answer ≡ false
not_ok answers.Ok other = absurd (other refl)
not_ok (answers.Full needed free) other = refl
not_ok (answers.StoreFault ticket done) other = refl
not_ok (answers.BaseFault ticket done) other = refl
not_ok (answers.NoRoom events sectors) other = refl
not_ok (answers.Worn generation) other = refl

-- whether the replies are Ok, one entry further on
pub ok_more : (entries : List Entry) (at : ℕ) (e : Entry) → slice_get entries at ≡ Some e → are_ok (take (at + 1) entries) ≡ (are_ok (take at entries) && is_ok_reply e)
ok_more entries at e there =
    let inside = slice_get_within entries at e there in
    list_all_more is_ok_reply entries at e inside ∙ ap (λ (x : Entry). are_ok (take at entries) && is_ok_reply x) (get_or_from_slice_get entries at e e there)
