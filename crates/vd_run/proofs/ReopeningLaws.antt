-- What is shown of the image that a run has left.
use Rattle.std.proofs.Common.{ℕ, ◌≡◌, ◌+◌, ◌<◌, ◌≤◌, inl, inr, Bool, List, [], ◌∷◌, ◌++◌, length, take, Some, refl, ap, sym, ◌∙◌, subst, arith}
use Rattle.std.specs.Prelude.{slice_get, ◌||◌}
use Rattle.std.specs.List.{list_any, flat_map}
use Rattle.std.proofs.lemmas.Bool.{cases_lt}
use Rattle.std.proofs.lemmas.List.{length_push, length-take, take_all, append-nil}
use Rattle.std.proofs.lemmas.List.Folds.{list_any-append}
use Rattle.std.proofs.lemmas.List.Concat.{flat_map-append}
use Rattle.std.proofs.lemmas.Option.{slice_get_within}
use Rattle.vd_law.specs.declared.entry.Sector.{Sector}
use Rattle.vd_format.specs.declared.header.Header.{Header}
use Rattle.vd_format.specs.declared.header.HeaderError.TheVariants as header_errors
use Rattle.vd_device.specs.declared.store.Store as store
use Rattle.vd_device.specs.declared.base.Base as base
use Rattle.vd_device.specs.Quiet.{IsFault, IsStoreFault}
use Rattle.vd_device.proofs.QuietLaws.{reads_twice, base_reads_twice, base_reads_nothing, fault_of_longer, base_fault_of_longer}
use Rattle.vd_image.specs.Image.{geometry_of, Geometry}
use Rattle.vd_replay.specs.Images.{image_of}
use Rattle.vd_replay.specs.States.{IsState, StateSays}
use Rattle.vd_replay.specs.Disks.{AreDiskSectors, ForDevice}
use Rattle.vd_replay.specs.Refusals.{RefusedAgain, IsOfReload}
use Rattle.vd_replay.specs.declared.state.State.{State}
use Rattle.vd_replay.specs.declared.error.OpenError.{OpenError}
use Rattle.vd_replay.specs.declared.error.OpenError.TheVariants as refusals
use Rattle.vd_replay.specs.declared.disk.DiskFault.{DiskFault}
use Rattle.vd_replay.specs.declared.disk.DiskFault.TheVariants as faults
use Rattle.vd_trace.specs.Traces.{Showing}
use Rattle.vd_report.specs.declared.line.Line.{Line}
use Rattle.vd_report.specs.declared.line.Line.TheVariants as lines
use Rattle.vd_device.specs.Devices.{Devices, AreReadOnly}
use Rattle.vd_report.specs.Outcomes.{ShownLine, Sectors, Failed, Refused, Opened}
use Rattle.vd_report.specs.Ending.{has_failed, shown_text}
use Rattle.vd_show.specs.Showing.{show_line, fault_line, ShowsDisk}
use Rattle.vd_run.specs.Reopening.{IsShownBy, Is_read, Store_failed, Base_failed, AreShownBy, AreLocal, Reopens, Reopening_failed, Is_refused_again, Opens_again}
use Rattle.vd_run.proofs.LeavingLaws.{reads_idle}
use Rattle.vd_show.proofs.ShowLaws.{disk_shown}
use Rattle.std.proofs.Math.Bool.{or-false}
use Rattle.vd_lists.proofs.Places.{slice_get_take, slice_get_last, slice_get_front}

-- ---- one line

module _ {S B : Type 0} {g : store.Ghosts S} {h : base.Ghosts B} {header : Header} where
  -- the same of what is held later, when more was only read
  pub shown_later : {d d' d'' : Devices S B} {line : Showing} (shows : ShownLine) → AreReadOnly g h d' d'' → IsShownBy g h header d d' line shows → IsShownBy g h header d d'' line shows
  shown_later {d' = d'} {d''} {line} shows reads (Is_read sectors size right) = Is_read sectors size (λ t.
      let before = right (reads.store.keeps.telling.told_before t.0, reads.base.keeps.telling.told_before t.1) in
      let held = subst (λ (x : List Sector). ShowsDisk x (h.content d'.base) header line.first sectors) (sym (reads.store.held t.0)) before in
      subst (λ (x : List Sector). ShowsDisk (g.disk d''.store).held x header line.first sectors) (sym (reads.base.keeps.telling.content t.1)) held)
  shown_later shows reads (Store_failed ticket failed) = Store_failed ticket (record { moment = failed.moment; reads = failed.reads; fault = failed.fault; more = reads_twice failed.more reads.store })
  shown_later shows reads (Base_failed ticket failed) = Base_failed ticket (record { moment = failed.moment; reads = failed.reads; fault = failed.fault; more = base_reads_twice failed.more reads.base })

  -- and of a longer work
  pub shown_earlier : {d d' d'' : Devices S B} {line : Showing} (shows : ShownLine) → AreReadOnly g h d d' → IsShownBy g h header d' d'' line shows → IsShownBy g h header d d'' line shows
  shown_earlier shows before (Is_read sectors size right) = Is_read sectors size right
  shown_earlier shows before (Store_failed ticket failed) =
      Store_failed ticket (record { moment = failed.moment; reads = reads_twice before.store failed.reads; fault = fault_of_longer before.store failed.reads failed.fault; more = failed.more })
  shown_earlier shows before (Base_failed ticket failed) =
      Base_failed ticket (record { moment = failed.moment; reads = base_reads_twice before.base failed.reads; fault = base_fault_of_longer before.base failed.fault; more = failed.more })

module _ {S B : Type 0} {g : store.Ghosts S} {h : base.Ghosts B} {d d' : Devices S B} where
  -- the sectors that were read
  pub read_shows : (s : State) (first count : ℕ) (sectors : List Sector) → length sectors ≡ count → AreReadOnly g h d d' → (g.tells d.store → StateSays (g.disk d.store).held s)
      → (g.tells d'.store → h.tells d'.base → StateSays (g.disk d'.store).held s → AreDiskSectors (g.disk d'.store).held (h.content d'.base) s first sectors)
      → (line : Showing) → line.first ≡ first → line.count ≡ count → IsShownBy g h s.header d d' line (Sectors first sectors)
  read_shows s first count sectors size reads says disk line at many =
      subst (λ (n : ℕ). IsShownBy g h s.header d d' line (Sectors n sectors)) at (Is_read sectors (size ∙ sym many) (λ t. subst (λ (n : ℕ). ShowsDisk (g.disk d'.store).held (h.content d'.base) s.header n sectors) (sym at)
      (let there = subst (λ (x : List Sector). StateSays x s) (sym (reads.store.held t.0)) (says (reads.store.keeps.telling.told_before t.0)) in
      disk_shown (g.disk d'.store).held (h.content d'.base) s first sectors (disk t.0 t.1 there))))

  -- the device that failed
  fault_by : {header : Header} (first : ℕ) (fault : DiskFault) → AreReadOnly g h d d' → ForDevice (IsStoreFault g d.store d'.store) (IsFault h d.base d'.base) fault → (line : Showing) → line.first ≡ first
      → IsShownBy g h header d d' line (Failed first (fault_line fault))
  fault_by {header} first (faults.Store ticket) reads failed line at = subst (λ (n : ℕ). IsShownBy g h header d d' line (Failed n (lines.StoreFault ticket))) at
      (Store_failed ticket (record { moment = d'.store; reads = reads.store; fault = failed; more = reads_idle reads.store.keeps.telling.state reads.store.idle }))
  fault_by {header} first (faults.Base ticket) reads failed line at = subst (λ (n : ℕ). IsShownBy g h header d d' line (Failed n (lines.BaseFault ticket))) at
      (Base_failed ticket (record { moment = d'.base; reads = reads.base; fault = failed; more = base_reads_nothing reads.base.idle }))

  pub fault_shows : {header : Header} (first : ℕ) (fault : DiskFault) (says : Line) → says ≡ fault_line fault → AreReadOnly g h d d' → ForDevice (IsStoreFault g d.store d'.store) (IsFault h d.base d'.base) fault
      → (line : Showing) → line.first ≡ first → IsShownBy g h header d d' line (Failed first says)
  fault_shows {header} first fault says is reads failed line at = subst (λ (l : Line). IsShownBy g h header d d' line (Failed first l)) (sym is) (fault_by first fault reads failed line at)

-- ---- all lines

module _ {S B : Type 0} {g : store.Ghosts S} {h : base.Ghosts B} {header : Header} where
  pub none_shown : {d d' : Devices S B} (trace_lines : List Showing) → AreShownBy g h header d d' (take 0 trace_lines) []
  none_shown [] = record { many = refl; each = λ i line shows at none. absurd cc }
  none_shown (l ∷ trace_lines) = record { many = refl; each = λ i line shows at none. absurd cc }

  pub all_later : {d d' d'' : Devices S B} {trace_lines : List Showing} {shown : List ShownLine} → AreReadOnly g h d' d'' → AreShownBy g h header d d' trace_lines shown → AreShownBy g h header d d'' trace_lines shown
  all_later reads all = record { many = all.many; each = λ i line shows at there. shown_later shows reads (all.each i line shows at there) }

  pub all_earlier : {d d' d'' : Devices S B} {trace_lines : List Showing} {shown : List ShownLine} → AreReadOnly g h d d' → AreShownBy g h header d' d'' trace_lines shown → AreShownBy g h header d d'' trace_lines shown
  all_earlier before all = record { many = all.many; each = λ i line shows at there. shown_earlier shows before (all.each i line shows at there) }

  module _ {d d' : Devices S B} where
    -- one more line
    pub one_step_more : (trace_lines : List Showing) (n : ℕ) (line : Showing) (shown : List ShownLine) (shows : ShownLine) → slice_get trace_lines n ≡ Some line
        → AreShownBy g h header d d' (take n trace_lines) shown → IsShownBy g h header d d' line shows → AreShownBy g h header d d' (take (n + 1) trace_lines) (shown ++ shows ∷ [])
    one_step_more trace_lines n line shown shows there all here = record {
      many = length_push shown shows ∙ (let m = all.many in let a = length-take n trace_lines in let b = length-take (n + 1) trace_lines in omega (arith, inside, m, a, b));
      each = each;
    }
      where
        inside : n < length trace_lines
        inside = slice_get_within trace_lines n line there

        many : length shown ≡ n
        many = all.many ∙ length-take n trace_lines ∙ omega (arith, inside)

        each : (i : ℕ) (l : Showing) (s : ShownLine) → slice_get (take (n + 1) trace_lines) i ≡ Some l → slice_get (shown ++ shows ∷ []) i ≡ Some s → IsShownBy g h header d d' l s
        each i l s at is = elim (cases_lt i n) [
          | inl below ↦ (
              let line_at : slice_get (take n trace_lines) i ≡ Some l = slice_get_take n trace_lines i below ∙ sym (slice_get_take (n + 1) trace_lines i (omega (arith, below))) ∙ at in
              let shows_at : slice_get shown i ≡ Some s = sym (slice_get_front shown (shows ∷ []) i (omega (arith, below, many))) ∙ is in
              all.each i l s line_at shows_at
              )
          | inr above ↦ (
              let last = slice_get_within (shown ++ shows ∷ []) i s is in
              let same : i ≡ n = (let k = length_push shown shows in omega (arith, last, above, many, k)) in
              let line_is : Some line ≡ Some l = sym there ∙ ap (slice_get trace_lines) (sym same) ∙ sym (slice_get_take (n + 1) trace_lines i (omega (arith, same))) ∙ at in
              let shows_is : Some shows ≡ Some s = sym (slice_get_last shown shows) ∙ ap (slice_get (shown ++ shows ∷ [])) (many ∙ sym same) ∙ is in
              let e : line ≡ l = cc in
              let f : shows ≡ s = cc in
              subst (λ (x : Showing). IsShownBy g h header d d' x s) e (subst (λ (x : ShownLine). IsShownBy g h header d d' line x) f here)
              )
        ]

    -- all of them are shown
    pub all_shown : (trace_lines : List Showing) (n : ℕ) (shown : List ShownLine) → length trace_lines ≤ n → AreShownBy g h header d d' (take n trace_lines) shown → AreShownBy g h header d d' trace_lines shown
    all_shown trace_lines n shown most all = subst (λ (ls : List Showing). AreShownBy g h header d d' ls shown) (take_all n trace_lines most) all

pub failed_more : (shown : List ShownLine) (shows : ShownLine) → list_any has_failed (shown ++ shows ∷ []) ≡ (list_any has_failed shown || has_failed shows)
failed_more shown shows = list_any-append has_failed shown (shows ∷ []) ∙ ap (λ (b : Bool). list_any has_failed shown || b) (or-false (has_failed shows))

-- the text of one more line
pub text_more : (shown : List ShownLine) (shows : ShownLine) → flat_map shown_text shown ++ shown_text shows ≡ flat_map shown_text (shown ++ shows ∷ [])
text_more shown shows = sym (flat_map-append shown_text shown (shows ∷ []) ∙ ap (λ (t : List ℕ). flat_map shown_text shown ++ t) (append-nil (shown_text shows)))

-- ---- the reopening

module _ {S B : Type 0} {g : store.Ghosts S} {h : base.Ghosts B} {shows : List Showing} {d d' : Devices S B} where
  refused_by : (kept : Header) (e : OpenError) → IsOfReload (IsStoreFault g d.store d'.store) e → (g.tells d'.store → RefusedAgain kept (g.disk d'.store).held e) → Reopens g h kept shows d d' (Refused (show_line e))
  refused_by kept (refusals.Store ticket) of_reload right = Reopening_failed ticket of_reload
  refused_by kept refusals.NoMemory of_reload right = absurd of_reload
  refused_by kept refusals.OldVersion of_reload right = absurd of_reload
  refused_by kept (refusals.Header header_errors.NotImage) of_reload right = Is_refused_again (refusals.Header header_errors.NotImage) (inl refl) right
  refused_by kept (refusals.Header (header_errors.Version version)) of_reload right = Is_refused_again (refusals.Header (header_errors.Version version)) (inl refl) right
  refused_by kept (refusals.Header (header_errors.Field field)) of_reload right = Is_refused_again (refusals.Header (header_errors.Field field)) (inl refl) right
  refused_by kept (refusals.TooSmall need have) of_reload right = Is_refused_again (refusals.TooSmall need have) (inl refl) right
  refused_by kept (refusals.BadEntry chunk value) of_reload right = Is_refused_again (refusals.BadEntry chunk value) (inl refl) right
  refused_by kept (refusals.BadRecord slot) of_reload right = Is_refused_again (refusals.BadRecord slot) (inl refl) right
  refused_by kept (refusals.DoubleChunk a b) of_reload right = Is_refused_again (refusals.DoubleChunk a b) (inl refl) right
  refused_by kept (refusals.Changed field) of_reload right = Is_refused_again (refusals.Changed field) (inl refl) right
  refused_by kept refusals.NotBuilt of_reload right = Is_refused_again refusals.NotBuilt (inr refl) right

  pub refused_again : (kept : Header) (e : OpenError) (line : Line) → line ≡ show_line e → IsOfReload (IsStoreFault g d.store d'.store) e → (g.tells d'.store → RefusedAgain kept (g.disk d'.store).held e)
      → Reopens g h kept shows d d' (Refused line)
  refused_again kept e line is of_reload right = subst (λ (l : Line). Reopens g h kept shows d d' (Refused l)) (sym is) (refused_by kept e of_reload right)

  pub opens_again : (kept : Header) (s : State) (shown : List ShownLine) (local of : ℕ) → geometry_of s.header ≡ geometry_of kept
      → (g.tells d'.store → IsState (length (g.disk d'.store).held) (image_of (g.disk d'.store).held) s.header s) → AreShownBy g h s.header d d' shows shown → AreLocal g s.header d'.store local of
      → Reopens g h kept shows d d' (Opened shown local of)
  opens_again kept s shown local of same says all are = Opens_again s.header shown local of same (λ t. let state = says t in state.opens) all are

-- the version never changes
pub version_kept : (h kept : Header) → geometry_of h ≡ geometry_of kept → kept.version ≡ 2 → h.version ≡ 2
version_kept h kept same two = ap (λ (g : Geometry). g.version) same ∙ two

-- what the state says that was read again
pub says_state : (held held' : List Sector) (s : State) → s.header.version ≡ 2 → held ≡ held' → StateSays held s → IsState (length held') (image_of held') s.header s
says_state held held' s two same says = subst (λ (x : List Sector). IsState (length x) (image_of x) s.header s) same (says.current two)
