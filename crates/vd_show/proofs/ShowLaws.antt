-- What `show` finds, by how far it came.
use Rattle.std.proofs.Common.{ℕ, ◌≡◌, ◌+◌, ◌≤◌, inl, inr, true, false, List, ◌++◌, length, take, drop, refl, ap, sym, ◌∙◌, subst, arith, ltb-true, ltb-false}
use Rattle.std.proofs.Math.Seq.{take-append_seam}
use Rattle.std.specs.Prelude.{nat_lt}
use Rattle.vd_law.specs.declared.entry.Sector.{Sector}
use Rattle.vd_device.specs.declared.store.Store as store
use Rattle.vd_device.specs.declared.base.Base as base
use Rattle.vd_device.specs.Quiet.{OnlyReads, IsStoreFault, IsCallFault}
use Rattle.vd_device.proofs.QuietLaws.{fault_of}
use Rattle.vd_format.specs.declared.header.HeaderError.TheVariants as header_errors
use Rattle.vd_io.specs.declared.sink.Sink as sink
use Rattle.vd_replay.specs.Finding.{ForStore}
use Rattle.vd_replay.specs.Refusals.{Refused}
use Rattle.vd_replay.specs.States.{IsSized, StateSays}
use Rattle.vd_replay.specs.Disks.{AreDiskSectors}
use Rattle.vd_replay.specs.declared.state.State.{State}
use Rattle.vd_replay.specs.declared.error.OpenError.{OpenError}
use Rattle.vd_replay.specs.declared.error.OpenError.TheVariants as refusals
use Rattle.vd_report.specs.declared.line.Line.{Line}
use Rattle.vd_report.specs.declared.line.Line.TheVariants as lines
use Rattle.vd_device.specs.Devices.{Devices, AreReadOnly}
use Rattle.vd_report.specs.Ending.{PrintsOutcome}
use Rattle.vd_report.specs.Outcomes.{Outcome, Says, Shown}
use Rattle.vd_show.specs.Showing.{show_line, OpensAs, ShowsDisk, IsInDisk, IsJudged, Finds, Without_memory, Store_failed, Image_refused, Past_the_disk, Is_shown}

-- what a state says comes from an image that opens by its header
opens_as : (held : List Sector) (s : State) → IsSized s → StateSays held s → OpensAs held s.header
opens_as held s sized says = elim sized.valid.version [
  | inl one ↦ (let old = says.old one in inr (record { reads = old.reads; version = one; room = old.room; fresh = old.is_fresh }))
  | inr two ↦ inl (says.current two).opens
]

-- the disk that is read by a state is the image's
pub disk_shown : (held base : List Sector) (s : State) (first : ℕ) (sectors : List Sector) → AreDiskSectors held base s first sectors → ShowsDisk held base s.header first sectors
disk_shown held base s first sectors disk = record { current = disk.current; old = disk.old }

in_disk : (held mid after base base' : List Sector) (s : State) (first count : ℕ) (sectors : List Sector) → mid ≡ held → after ≡ mid → base' ≡ base → IsSized s → StateSays mid s → (StateSays after s → AreDiskSectors after base' s first sectors) → first + count ≤ s.header.size
    → IsInDisk held base first count sectors
in_disk held mid after base base' s first count sectors same stays same_base sized says disk within = record {
  header = s.header;
  opens = subst (λ (x : List Sector). OpensAs x s.header) same (opens_as mid s sized says);
  within = within;
  disk =
      let there : StateSays after s = subst (λ (x : List Sector). StateSays x s) (sym stays) says in
      let over_it : ShowsDisk held base' s.header first sectors = subst (λ (x : List Sector). ShowsDisk x base' s.header first sectors) (stays ∙ same) (disk_shown after base' s first sectors (disk there)) in
      subst (λ (x : List Sector). ShowsDisk held x s.header first sectors) same_base over_it;
}

module _ {S B : Type 0} {g : store.Ghosts S} {h : base.Ghosts B} {first count : ℕ} {d d' : Devices S B} where
  -- the image itself was refused
  refused : (e : OpenError) → IsJudged e → OnlyReads g d.store d'.store → (g.tells d'.store → Refused 1 (g.disk d'.store).held e) → Finds g h first count d d' (Says (show_line e))
  refused e judged reads right = Image_refused e judged (λ t. subst (λ (x : List Sector). Refused 1 x e) (reads.held t.0) (right t.0))

  not_opened : (e : OpenError) → OnlyReads g d.store d'.store → ForStore (IsStoreFault g d.store d'.store) e → (g.tells d'.store → Refused 1 (g.disk d'.store).held e) → Finds g h first count d d' (Says (show_line e))
  not_opened (refusals.Store ticket) reads fault right = Store_failed ticket (fault_of fault)
  not_opened refusals.NoMemory reads fault right = Without_memory
  not_opened (refusals.Header header_errors.NotImage) reads fault right = refused (refusals.Header header_errors.NotImage) (inl refl) reads right
  not_opened (refusals.Header (header_errors.Version version)) reads fault right = refused (refusals.Header (header_errors.Version version)) (inl refl) reads right
  not_opened (refusals.Header (header_errors.Field field)) reads fault right = refused (refusals.Header (header_errors.Field field)) (inl refl) reads right
  not_opened (refusals.TooSmall need have) reads fault right = refused (refusals.TooSmall need have) (inl refl) reads right
  not_opened refusals.OldVersion reads fault right = refused refusals.OldVersion (inl refl) reads right
  not_opened (refusals.BadEntry chunk value) reads fault right = refused (refusals.BadEntry chunk value) (inl refl) reads right
  not_opened (refusals.BadRecord slot) reads fault right = refused (refusals.BadRecord slot) (inl refl) reads right
  not_opened (refusals.DoubleChunk a b) reads fault right = refused (refusals.DoubleChunk a b) (inl refl) reads right
  not_opened (refusals.Changed field) reads fault right = refused (refusals.Changed field) (inl refl) reads right
  not_opened refusals.NotBuilt reads fault right = refused refusals.NotBuilt (inr refl) reads right

  pub not_opened_line : (e : OpenError) (line : Line) → line ≡ show_line e → OnlyReads g d.store d'.store → ForStore (IsStoreFault g d.store d'.store) e → (g.tells d'.store → Refused 1 (g.disk d'.store).held e)
      → Finds g h first count d d' (Says line)
  not_opened_line e line is reads fault right = subst (λ (l : Line). Finds g h first count d d' (Says l)) (sym is) (not_opened e reads fault right)

  pub past_it : (s : State) → IsSized s → OnlyReads g d.store d'.store → (g.tells d'.store → StateSays (g.disk d'.store).held s) → nat_lt s.header.size (first + count) ≡ true → Finds g h first count d d' (Says lines.PastTheDisk)
  past_it s sized reads says past =
      Past_the_disk (λ t. record { header = s.header; opens = subst (λ (x : List Sector). OpensAs x s.header) (reads.held t.0) (opens_as _ s sized (says t.0)); past = ltb-true s.header.size (first + count) past })

  -- the image was opened, and then its sectors were read
  pub found_it : (mid : S) (s : State) (sectors : List Sector) → IsSized s → length sectors ≡ count → OnlyReads g d.store mid → AreReadOnly g h (record { store = mid; base = d.base }) d' → (g.tells mid → StateSays (g.disk mid).held s)
      → (g.tells d'.store → h.tells d'.base → StateSays (g.disk d'.store).held s → AreDiskSectors (g.disk d'.store).held (h.content d'.base) s first sectors) → nat_lt s.header.size (first + count) ≡ false
      → Finds g h first count d d' (Shown first sectors)
  found_it mid s sectors sized size opening reads says disk within =
      Is_shown sectors size (λ t. (let before = reads.store.keeps.telling.told_before t.0 in in_disk (g.disk d.store).held (g.disk mid).held (g.disk d'.store).held (h.content d.base) (h.content d'.base) s first count sectors
      (opening.held before) (reads.store.held t.0) (reads.base.keeps.telling.content t.1) sized (says before) (disk t.0 t.1) (ltb-false s.header.size (first + count) within)))

-- the image was opened, and then the store failed
pub failed_reading : {S : Type 0} {g : store.Ghosts S} {s mid s' : S} {ticket : ℕ} → OnlyReads g s mid → IsStoreFault g mid s' ticket → IsCallFault g s s' ticket
failed_reading opening fault = record { ticket = fault.ticket; since = (let r = fault.since in let calm = opening.keeps.counts.last in omega arith); rose = (let r = fault.rose in let calm = opening.keeps.counts.faults in omega arith) }

pub ends_shown : {O : Type 0} {o : sink.Ghosts O} {out out' : O} {status : ℕ} (first : ℕ) (sectors room : List Sector) → sectors ≡ room → PrintsOutcome o (Shown first sectors) status out out' → PrintsOutcome o (Shown first room) status out out'
ends_shown {o = o} {out} {out'} {status} first sectors room same ends = subst (λ (xs : List Sector). PrintsOutcome o (Shown first xs) status out out') same ends

-- as many were asked for
pub found_many : {S B : Type 0} {g : store.Ghosts S} {h : base.Ghosts B} {first n m : ℕ} {d d' : Devices S B} {outcome : Outcome} → n ≡ m → Finds g h first n d d' outcome → Finds g h first m d d' outcome
found_many {g = g} {h} {first} {d = d} {d'} {outcome} same found = subst (λ (k : ℕ). Finds g h first k d d' outcome) same found

-- a list whose front was replaced by one as long as it
pub whole_room : {X : Type 0} (size : ℕ) (new old : List X) → length new ≡ length old → size ≡ length old → take size (new ++ drop (length new) old) ≡ new
whole_room size new old same is = ap (λ (n : ℕ). take n (new ++ drop (length new) old)) (is ∙ sym same) ∙ take-append_seam new (drop (length new) old)
