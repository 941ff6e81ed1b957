-- A core as it is made is one of which every image is safe.
use Rattle.std.proofs.Common.{◌≡◌, ℕ, ◌<◌, ◌≤◌, inl, inr, List, length, refl, sym, ◌∙◌, ap, subst, arith, Contains, Some, None, slice_get}
use Rattle.std.proofs.lemmas.Bool.{cases_lt}
use Rattle.std.proofs.lemmas.Option.{slice_get_within}
use Rattle.vd_lists.proofs.Places.{some_place}
use Rattle.vd_law.specs.declared.entry.Sector.{Sector}
use Rattle.vd_law.specs.declared.entry.Room.{Room}
use Rattle.vd_law.specs.Entries.{Entry}
use Rattle.vd_law.specs.Contents.{may}
use Rattle.vd_law.specs.Histories.{HistoryState}
use Rattle.vd_device.specs.declared.store.Store as store
use Rattle.vd_device.specs.declared.base.Base as base
use Rattle.vd_device.specs.Disks.{Disk, IsHonest}
use Rattle.vd_format.specs.declared.header.Header.{Header}
use Rattle.vd_image.specs.Log.{Writes, May}
use Rattle.vd_image.specs.Image.{HasNoLater, DiskHas}
use Rattle.vd_image.specs.Layouts.{layout_of}
use Rattle.vd_image.specs.Decoders.{format_of}
use Rattle.vd_image.specs.CrashImages.{sectors_or}
use Rattle.vd_image.proofs.CrashImages.{at_inside, past_end}
use Rattle.vd_image.proofs.Exact.{may_is_exact}
use Rattle.vd_image.proofs.Layouts.{parts_inside}
use Rattle.vd_image.proofs.Logs.{writes_below}
use Rattle.vd_device.specs.Quiet.{AddsFlush}
use Rattle.vd_replay.specs.declared.state.State.{State}
use Rattle.vd_replay.specs.Images.{image_of}
use Rattle.vd_replay.specs.States.{IsState, IsWholeState, StateSays}
use Rattle.vd_keeper.specs.Keeping.{KeeperState}
use Rattle.vd_passes.specs.declared.shape.Shape.{Shape}
use Rattle.vd_passes.specs.declared.pass.Pass.{Pass}
use Rattle.vd_safety.specs.Mirrors.{core_state, opening_for, HasSafeMirror}
use Rattle.vd_safety.proofs.Opening.{IsStart as IsMadeFrom, opened-secured}
use Rattle.vd_machine.specs.Start.{opening_at, IsStart, WasSafe, image_at}
use Rattle.vd_safety.specs.Safely.{IsSafelyKept}
use Rattle.vd_safety.proofs.KeepsClean.{flush-stands}
use Rattle.vd_core.specs.Opening.{AreNew, disk_shape, empty_history, new_keeping}
use Rattle.vd_core.specs.Kept.{IsWellKept}
use Rattle.vd_core.proofs.OpeningParts.{new_view}
use Rattle.vd_machine.proofs.Starting.{all-told, clean-held}
use Rattle.vd_core.proofs.StartingDisk.{disk-over}
use Rattle.vd_format.specs.Background.{base_at, zero_sector}

module _ (s : State) (whole : IsWholeState s) (version : s.header.version ≡ 2) (disk : Disk) (opened : ℕ) (all : opened ≡ length disk.log)
    (honest : IsHonest disk) (says : StateSays disk.held s)
    (base start : List Sector) (is : IsStart (opening_at opened disk) base s.header start) (safe : WasSafe (opening_at opened disk) s.header)
    (size : length disk.held ≡ length disk.start) where
  abbrev h : Header
  h = s.header

  state : IsState (length disk.held) (image_of disk.held) h s
  state = says.current version

  same : (a : ℕ) → a < length disk.held → image_at (opening_at opened disk) a ≡ image_of disk.held a
  same a inside = clean-held disk opened a zero_sector all honest is.clean inside

  no-later : HasNoLater (format_of h) (layout_of h) (image_of disk.held) h.generation
  no-later k r within reads =
      let room = state.opens.room in let inside = (parts_inside h whole.sized.valid).slots k within in
      safe.no_later k r within (ap (format_of h).record_of (same ((layout_of h).slot_at k) (omega (arith, room, inside))) ∙ reads)

  has : (x : ℕ) (v : Sector) → slice_get start x ≡ Some v → DiskHas (format_of h) (layout_of h) (base_at zero_sector base) zero_sector (image_of disk.held) x v
  has x v at = disk-over (length disk.held) (image_at (opening_at opened disk)) (image_of disk.held) h s state state.opens.room same
      (base_at zero_sector base) zero_sector x v (is.disk x v at)
      (let within = slice_get_within start x v at in let long = is.size in omega arith)

  -- nothing but what is held is left by a crash
  left : (a : ℕ) (v : Sector) → May (sectors_or zero_sector disk.start) disk.log a v → v ≡ image_of disk.held a
  left a v may_be = elim (cases_lt a (length disk.start)) [
    | inl within ↦
        let log = all-told disk opened all in
        let x = some_place disk.start a within in
        let listed : Contains (may disk.start disk.log a) v =
        (may_is_exact disk.start (sectors_or zero_sector disk.start) disk.log a v (at_inside zero_sector disk.start a within)).1 may_be in
        safe.durable a v within (subst (λ (l : List Entry). Contains (may disk.start l a) v) (sym log) listed) ∙ same a (omega (arith, within, size))
    | inr past ↦ beyond past may_be
  ]
    where
      beyond : length disk.start ≤ a → May (sectors_or zero_sector disk.start) disk.log a v → v ≡ image_of disk.held a
      beyond past (inl untouched) = untouched.value ∙ past_end zero_sector disk.start a past ∙ sym
          (past_end zero_sector disk.held a (omega (arith, past, size)))
      beyond past (inr written) =
          let inside = safe.inside written.at a v (subst (λ (l : List Entry). Writes l written.at a v) (sym (all-told disk opened all)) written.writes) in
          absurd (omega (arith, past, inside))

  made-from : (old : Disk) → AddsFlush old disk → IsMadeFrom s disk.start disk.held base start disk.log
  made-from old adds = record {
    whole = whole;
    state = state;
    no_later = no-later;
    left = left;
    flush = length old.log;
    flushes = flush-stands old disk adds;
    size = is.size;
    shows = has;
  }

-- nothing was written since it was made
pub opened-safely : {S B : Type 0} (g : store.Ghosts S) (h : base.Ghosts B) (x : S) (y : B) (s : State) → IsWholeState s → s.header.version ≡ 2
    → {passes : List Pass} {count block : ℕ} (room : Room) → AreNew count block passes
    → g.events x ≡ length (g.disk x).log → IsHonest (g.disk x) → StateSays (g.disk x).held s → length (g.disk x).start ≡ g.sectors x → length
    (g.disk x).held ≡ g.sectors x → (old : Disk) × AddsFlush old (g.disk x)
    → IsSafelyKept g h (new_view h (g.events x) s passes room x y)
opened-safely g h x y s whole version {passes} {count} {block} room new all honest says long held_long flushed = let disk = g.disk x in record {
  size = long;
  inside = λ i a v since w. absurd (let below = writes_below disk.log i a v w in omega (arith, since, below, all));
  secured = λ start is safe. (
    image_of disk.held,
    subst (λ (n : ℕ). HasSafeMirror (opening_for s.header s.map disk.start (image_of disk.held) (h.content y) start n)
        (core_state s.table s.fresh.bits (new_keeping s) None passes (empty_history room (g.events x))) disk.log) (sym all)
        (opened-secured s disk.start disk.held (h.content y) start disk.log passes (empty_history room (g.events x))
        (made-from s whole version disk (g.events x) all honest says (h.content y) start is safe (held_long ∙ sym long) flushed.0 flushed.1)
        (λ i p there. (new.each i p there).phase) refl refl),
  );
}

-- What the type keeps of a core with these parts, in which nothing was asked.
module _ {S B : Type 0} (g : store.Ghosts S) (h : base.Ghosts B) (x : S) (y : B) (s : State) (passes : List Pass) (room : Room) where
  abbrev pub KeptWith : S → B → Shape → KeeperState → HistoryState → Room → Type 0
  KeptWith begun_store begun_base shape k history spare = IsWellKept g h (record {
    fixed = record { store = begun_store; base = begun_base; header = s.header; entries = s.map; room = room };
    store = x;
    base = y;
    shape = shape;
    table = s.table;
    fresh = s.fresh.bits;
    keeping = k;
    flusher = None;
    passes = passes;
    history = history;
    spare = spare;
    steps = 0;
  })

  pub opened-parts : {begun_store : S} {begun_base : B} {shape : Shape} {k : KeeperState} {history : HistoryState} {spare : Room} → begun_store ≡ x
      → begun_base ≡ y → shape ≡ disk_shape s.header (h.sectors y)
      → k ≡ new_keeping s → history ≡ empty_history room (g.events x) → spare ≡ room → IsWellKept g h (new_view h (g.events x) s passes room x y)
      → KeptWith begun_store begun_base shape k history spare
  opened-parts {begun_store} {begun_base} {shape} {k} {history} {spare} store_is base_is shape_is keeper empty spare_is parts = let made = disk_shape s.header
      (h.sectors y) in
      subst (λ (z : S). KeptWith z begun_base shape k history spare) (sym store_is)
      (subst (λ (z : B). KeptWith x z shape k history spare) (sym base_is)
      (subst (λ (z : Shape). KeptWith x y z k history spare) (sym shape_is)
      (subst (λ (z : KeeperState). KeptWith x y made z history spare) (sym keeper)
      (subst (λ (z : HistoryState). KeptWith x y made (new_keeping s) z spare) (sym empty)
      (subst (λ (z : Room). KeptWith x y made (new_keeping s) (empty_history room (g.events x)) z) (sym spare_is) parts)))))
