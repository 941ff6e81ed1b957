-- The image that a crash safe run has left opens again, and shows what the history allows.
use Rattle.std.proofs.Common.{ℕ, ◌≡◌, ◌+◌, ◌<◌, ◌≤◌, inl, inr, List, length, Some, None, refl, ap, sym, ◌∙◌, arith}
use Rattle.std.specs.Prelude.{slice_get}
use Rattle.std.proofs.lemmas.Bool.{eq-eqb}
use Rattle.std.proofs.lemmas.Option.{slice_get_within}
use Rattle.vd_law.specs.declared.entry.Sector.{Sector}
use Rattle.vd_law.specs.Entries.{Entry, past}
use Rattle.vd_device.specs.declared.store.Store as store
use Rattle.vd_device.specs.declared.base.Base as base
use Rattle.vd_device.specs.Disks.{Disk, IsHonest}
use Rattle.vd_device.specs.Orders.{IsInOrder}
use Rattle.vd_format.specs.declared.header.Header.{Header}
use Rattle.vd_image.specs.Image.{geometry_of, Geometry}
use Rattle.vd_image.specs.Openings.{Opens}
use Rattle.vd_image.proofs.Openings.{opens_not_refused}
use Rattle.vd_replay.specs.Headers.{first_changed}
use Rattle.vd_replay.specs.Images.{image_of}
use Rattle.vd_replay.specs.Refusals.{RefusedAgain}
use Rattle.vd_replay.specs.declared.error.OpenError.{OpenError}
use Rattle.vd_replay.specs.declared.error.OpenError.TheVariants as refusals
use Rattle.vd_core.specs.Showing.{MayHold, ShowsCould}
use Rattle.vd_safety.specs.Held.{IsOpenAgain}
use Rattle.vd_safety.proofs.Clean.{honest-left}
use Rattle.vd_trace.specs.Traces.{Script, Showing}
use Rattle.vd_device.specs.Devices.{Devices}
use Rattle.vd_report.specs.Outcomes.{ShownLine, Reopened}
use Rattle.vd_show.specs.Showing.{IsJudged}
use Rattle.vd_run.specs.Reopening.{IsShownBy, Is_read, Store_failed, Base_failed, IsAllowedLine, IsAllowed, Device_failed, Shows_allowed, Reopens, Reopening_failed, Is_refused_again, Opens_again}
use Rattle.vd_run.specs.Running.{first_past as range_past}
use Rattle.vd_run.proofs.RunningLaws.{line_within}
use Rattle.vd_run.proofs.SafeLaws.{orderly_past}
use Rattle.vd_lists.proofs.Places.{some_place}

-- what an honest store holds whose log is in order may be left by a crash
pub may_hold : (d : Disk) → IsHonest d → IsInOrder d → length d.held ≡ length d.start → MayHold d d.held
may_hold d honest order size = record { now = honest; left = record { size = size; sectors = honest-left d honest (orderly_past d.start (past d.log) order.alone order.shown) size } }

-- ---- nothing is refused

nothing_changed : (kept h : Header) → geometry_of h ≡ geometry_of kept → first_changed kept h ≡ None
unfolding first_changed
nothing_changed kept h same =
    let version = eq-eqb h.version kept.version (ap (λ (g : Geometry). g.version) same) in
    let block = eq-eqb h.block kept.block (ap (λ (g : Geometry). g.block) same) in
    let chunk = eq-eqb h.chunk kept.chunk (ap (λ (g : Geometry). g.chunk) same) in
    let size = eq-eqb h.size kept.size (ap (λ (g : Geometry). g.size) same) in
    let storage = eq-eqb h.storage kept.storage (ap (λ (g : Geometry). g.storage) same) in
    let slots = eq-eqb h.slots kept.slots (ap (λ (g : Geometry). g.slots) same) in
    rw (version, block, chunk, size, storage, slots) refl

one_header : (held : List Sector) (h g : Header) → Opens (length held) (image_of held) h → Opens (length held) (image_of held) g → h ≡ g
one_header held h g a b = let same = sym a.reads ∙ b.reads in cc

not_refused : (kept h : Header) (held : List Sector) (e : OpenError) → Opens (length held) (image_of held) h → geometry_of h ≡ geometry_of kept → IsJudged e → RefusedAgain kept held e → ⊥
not_refused kept h held (refusals.Store ticket) opens same (inl judged) refused = absurd cc
not_refused kept h held (refusals.Store ticket) opens same (inr judged) refused = absurd cc
not_refused kept h held (refusals.Header e) opens same judged refused = opens_not_refused (length held) (image_of held) h _ opens refused.0
not_refused kept h held (refusals.TooSmall need have) opens same judged refused = opens_not_refused (length held) (image_of held) h _ opens refused.0
not_refused kept h held refusals.OldVersion opens same judged refused = refused
not_refused kept h held (refusals.BadEntry chunk value) opens same judged refused = opens_not_refused (length held) (image_of held) h _ opens refused.0.0
not_refused kept h held (refusals.BadRecord slot) opens same judged refused = opens_not_refused (length held) (image_of held) h _ opens refused.0
not_refused kept h held (refusals.DoubleChunk a b) opens same judged refused = opens_not_refused (length held) (image_of held) h _ opens refused.0
not_refused kept h held (refusals.Changed field) opens same judged refused =
    let header : refused.0 ≡ h = (let e = sym refused.2 ∙ opens.reads in cc) in
    let none = ap (first_changed kept) header ∙ nothing_changed kept h same in
    let some = sym refused.3 ∙ none in absurd cc
not_refused kept h held refusals.NotBuilt opens same judged refused =
    let found = refused.0.1 in
    let header : found.0 ≡ h = (let e = sym found.1.reads ∙ opens.reads in cc) in
    let version = sym found.2 ∙ ap (λ (x : Header). x.version) header ∙ opens.version in absurd cc
not_refused kept h held refusals.NoMemory opens same judged refused = refused

-- ---- what is shown is allowed

line_allowed : {S B : Type 0} {g : store.Ghosts S} {h : base.Ghosts B} {d d' : Devices S B} {closed : Type 0} {kept header : Header} {start : List Sector} {entries : List Entry} {line : Showing} (shows : ShownLine)
    → g.tells d'.store → h.tells d'.base → geometry_of header ≡ geometry_of kept → Opens (length (g.disk d'.store).held) (image_of (g.disk d'.store).held) header
    → IsOpenAgain kept (h.content d'.base) start entries (g.disk d'.store).held → (closed → ShowsCould kept (h.content d'.base) start entries (g.disk d'.store).held)
    → line.first + line.count ≤ header.size → IsShownBy g h header d d' line shows → IsAllowedLine start entries closed shows
line_allowed {g = g} {d' = d'} {header = header} {line = line} shows t b geometry opens again could within (Is_read sectors size right) = λ i v at.
    let same = one_header (g.disk d'.store).held again.header header again.opens opens in
    let inside : line.first + i < header.size = (let k = slice_get_within sectors i v at in omega (arith, k, size, within)) in
    let there = (right (t, b)).current opens.version i v at in (
      again.allowed_again (line.first + i) v (let e = ap (λ (x : Header). x.size) same in omega (arith, inside, e)) (rw same there),
      λ closed. (could closed).each header geometry (line.first + i) v inside there,
    )
line_allowed shows t b geometry opens again could within (Store_failed ticket failed) = tt
line_allowed shows t b geometry opens again could within (Base_failed ticket failed) = tt

pub allowed_again : {S B : Type 0} {g : store.Ghosts S} {h : base.Ghosts B} {d d' : Devices S B} {closed : Type 0} {kept : Header} {start : List Sector} {entries : List Entry} (trace : Script) (reopened : Reopened) → range_past kept.size trace ≡ None
    → Reopens g h kept trace.shows d d' reopened → g.tells d'.store → h.tells d'.base → IsOpenAgain kept (h.content d'.base) start entries (g.disk d'.store).held
    → (closed → ShowsCould kept (h.content d'.base) start entries (g.disk d'.store).held) → IsAllowed start entries closed reopened
allowed_again trace reopened inside (Reopening_failed ticket fault) t b again could = Device_failed ticket
allowed_again {g = g} {d' = d'} {kept = kept} trace reopened inside (Is_refused_again e judged refused) t b again could =
    absurd (not_refused kept again.header (g.disk d'.store).held e again.opens again.geometry judged (refused t))
allowed_again {closed = closed} {kept = kept} {start = start} {entries = entries} trace reopened inside (Opens_again header shown local of geometry opens all are) t b again could = Shows_allowed shown local of each
  where
    each : (i : ℕ) (line : ShownLine) → slice_get shown i ≡ Some line → IsAllowedLine start entries closed line
    each i line at =
        let asked = some_place trace.shows i (let k = slice_get_within shown i line at in let m = all.many in omega (arith, k, m)) in
        let within = line_within kept.size trace inside i asked.0 asked.1 in
        line_allowed line t b geometry (opens t) again could (let same = ap (λ (g : Geometry). g.size) geometry in omega (arith, within, same)) (all.each i asked.0 line asked.1 at)
