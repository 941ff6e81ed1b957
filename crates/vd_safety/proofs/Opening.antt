-- A core as it is made is secured.
use Rattle.std.proofs.Common.{ℕ, zero, suc, ◌≡◌, ◌+◌, ◌-◌, ◌*◌, ◌/◌, ◌<◌, ◌⊎◌, ◌||◌, inl, inr, Bool, true, false, if◌then◌else◌, List, [], length, replicate, Some, None, refl, ap, sym, ◌∙◌, subst, arith}
use Rattle.std.specs.Prelude.{◌≢◌, slice_get}
use Rattle.std.proofs.lemmas.Bool.{cases_lt, cases_eq}
use Rattle.std.proofs.lemmas.Option.{slice_get_within, get_or_from_slice_get}
use Rattle.vd_law.specs.declared.entry.Sector.{Sector}
use Rattle.vd_law.specs.Entries.{Entry as Event}
use Rattle.vd_law.specs.Histories.{HistoryState}
use Rattle.vd_format.specs.declared.header.Header.{Header}
use Rattle.vd_format.specs.Layouts.{blocks_of, chunks_of, map_start, sectors_for_bytes}
use Rattle.vd_format.specs.Entries.{has_kind, entry_at}
use Rattle.vd_image.specs.Log.{May, Flushes}
use Rattle.vd_image.specs.Image.{Mapping, Image, Maps, IsMapping, HasNoLater, DiskHas}
use Rattle.vd_image.specs.Layouts.{layout_of}
use Rattle.vd_image.specs.Decoders.{Entry, mapping_in, entry_place, entry_byte, format_of}
use Rattle.vd_image.specs.CrashImages.{sectors_or}
use Rattle.vd_image.proofs.CrashImages.{past_end}
use Rattle.vd_image.proofs.Deciding.{maps_one, disk_one}
use Rattle.vd_image.proofs.Layouts.{parts_apart}
use Rattle.vd_crash.specs.facts.Safe.{numbered}
use Rattle.vd_crash.specs.facts.Memory.{Memory}
use Rattle.vd_crash.specs.facts.Opened.{IsAtOpening}
use Rattle.vd_crash.specs.flushes.Flushing.{IsWantedMapping, nothing_new, AreOpeningMarks}
use Rattle.vd_crash.specs.flushes.Stage.{Idle as NoFlight}
use Rattle.vd_crash.specs.primitives.Primitives.{at_rest}
use Rattle.vd_crash.proofs.primitives.Keeping.{opening_keeps_all}
use Rattle.vd_replay.specs.Images.{image_of}
use Rattle.vd_replay.specs.States.{IsWholeState, IsState}
use Rattle.vd_replay.specs.declared.state.State.{State}
use Rattle.vd_keeper.specs.declared.stage.Stage.TheVariants as stage
use Rattle.vd_keeper.specs.declared.stage.Way.TheVariants as ways
use Rattle.vd_keeper.specs.Keeping.{KeeperState, pages_of, no_marks}
use Rattle.vd_passes.specs.declared.pass.Pass.{Pass}
use Rattle.vd_passes.specs.declared.pass.Phase.{Phase}
use Rattle.vd_passes.specs.declared.pass.Phase.TheVariants.{Idle}
use Rattle.vd_safety.specs.Mirrors.{core_state, bit_of, storage_of, opening_for, IsFlightOf, HasSafeMirror}
use Rattle.vd_safety.proofs.Stated.{maps_grammar, up_there, down_there, stored_has, has_stored, has_gives, gives_has, up_mask, up_local, local_up, below_next, disk_past}
use Rattle.vd_format.specs.Background.{zero_sector, base_at}
use Rattle.vd_lists.proofs.Places.{some_place}

-- what a core is made from: a state that was read from what the store holds now, after a log that leaves no other content
-- in any sector, and has a flush that succeeded; and the disk that the held image stands for
pub record IsStart (s : State) (before held base disk : List Sector) (log : List Event) : Type 0 where
  pub whole : IsWholeState s
  pub state : IsState (length held) (image_of held) s.header s
  pub no_later : HasNoLater (format_of s.header) (layout_of s.header) (image_of held) s.header.generation
  pub left : (a : ℕ) (v : Sector) → May (sectors_or zero_sector before) log a v → v ≡ image_of held a
  pub flush : ℕ
  pub flushes : Flushes log flush
  pub size : length disk ≡ s.header.size
  pub shows : (x : ℕ) (v : Sector) → slice_get disk x ≡ Some v → DiskHas (format_of s.header) (layout_of s.header) (base_at zero_sector base) zero_sector (image_of held) x v

-- the keeper of such a core
abbrev pub keeper_of : State → KeeperState
keeper_of s = record {
  header = s.header;
  sure = true;
  next = s.cursor.next;
  stage = stage.Rest;
  way = ways.Nothing;
  stale = s.fresh.bits;
  owed = no_marks (blocks_of s.header);
  snapshot = no_marks (blocks_of s.header);
  marked = s.more;
  put = no_marks (pages_of s.header);
  logged = 0;
  head = false;
}

-- its memory, as the laws see it
abbrev pub memory_of : State → Memory
memory_of s = record {
  index = record { generation = s.header.generation; tracked = s.header.tracked; sure = true; table = storage_of s.table; stale = bit_of s.fresh.bits; off_base = bit_of s.fresh.bits; tried = λ b. false; cursor = s.cursor.next };
  fresh = bit_of s.fresh.bits;
  born = λ b. 0;
  owed = λ b. false;
  pending = λ b. None;
  discards = record { drops = λ j. None; zeros = λ c. false; lost = λ c. false; reach = 0 };
}

-- its marked sectors of the map
abbrev pub marked_of : State → ℕ → Bool
marked_of s a = bit_of s.more (a - map_start s.header)

disk_is : (s : State) (before held base disk : List Sector) (log : List Event) → IsStart s before held base disk log
    → (x : ℕ) (v : Sector) → DiskHas (format_of s.header) (layout_of s.header) (base_at zero_sector base) zero_sector (image_of held) x v → v ≡ sectors_or zero_sector disk x
disk_is s before held base disk log start x v has = elim (cases_lt x s.header.size) [
  | inl within ↦
      let there = some_place disk x (let n = start.size in omega arith) in
      disk_one (format_of s.header) (layout_of s.header) (base_at zero_sector base) zero_sector (image_of held) x v there.0 has (start.shows x there.0 there.1)
      ∙ sym (get_or_from_slice_get disk x there.0 zero_sector there.1)
  | inr past ↦
      disk_past (image_of held) s.header (base_at zero_sector base) x v start.state.opens.reads start.state.opens.consistent has past
      ∙ sym (past_end zero_sector disk x (let n = start.size in omega arith))
]

at_opening : (s : State) (before held base disk : List Sector) (log : List Event) → IsStart s before held base disk log
    → IsAtOpening (opening_for s.header s.map before (image_of held) base disk (length log)) log (memory_of s)
at_opening s before held base disk log start = record {
  apart = parts_apart s.header start.whole.sized.valid;
  opened = refl;
  left = start.left;
  flush = start.flush;
  flushes = start.flushes;
  sound = record { header = s.header; reads = start.state.opens.reads; geometry = refl; consistent = start.state.opens.consistent; no_later = start.no_later };
  disk = disk_is s before held base disk log start;
  sure = refl;
  generation = refl;
  tracked = refl;
  table = λ c p. (
    (λ is. has_gives (length held) (image_of held) s.header s c p start.state start.whole.sized.map (stored_has s.table c p is)),
    (λ gives. has_stored s.table c p (gives_has (length held) (image_of held) s.header s c p start.state gives)),
  );
  fresh = λ b. (
    up_local (length held) (image_of held) s.header s b start.state start.whole.sized.fresh,
    (λ w. local_up (length held) (image_of held) s.header s b w.0 start.state start.whole.sized.fresh w.1),
  );
  in_range = λ b up. (let k = slice_get_within s.fresh.bits b true (up_there s.fresh.bits b up) in let n = start.whole.sized.fresh in omega arith);
  was_local = λ b up. up_mask (length held) (image_of held) s.header s b start.state up;
  stale = λ b. refl;
  cursor = λ k r within reads current. below_next (length held) (image_of held) s.header s k r start.state within reads current;
  owed = λ b. refl;
  zeros = λ c. (λ is. absurd cc, λ w. absurd (let g = (maps_grammar (format_of s.header) (layout_of s.header) (image_of held) s.header.generation c w.0 start.state.opens.consistent w.1).1 in let base = g.kind refl in let zeros = w.2 in cc));
  off_base = λ b. (λ is. inl is, λ known. elim known [ inl is ↦ is | inr zeros ↦ absurd cc ]);
  drops = λ j. refl;
  lost = λ c. refl;
  reach = refl;
  tried = λ b. refl;
  pending = λ b. refl;
  born = λ b. refl;
}

-- ---- the marks of the map

same_or_not : (a b : Entry) → (a ≡ b) ⊎ (a ≢ b)
same_or_not a b = by_kind (same_kind a.zeros b.zeros) (cases_eq a.storage b.storage) (cases_eq a.mask b.mask)
  where
    same_kind : (x y : Bool) → (x ≡ y) ⊎ (x ≢ y)
    same_kind true true = inl refl
    same_kind true false = inr (λ h. absurd cc)
    same_kind false true = inr (λ h. absurd cc)
    same_kind false false = inl refl

    by_kind : (a.zeros ≡ b.zeros) ⊎ (a.zeros ≢ b.zeros) → (a.storage ≡ b.storage) ⊎ (a.storage ≢ b.storage) → (a.mask ≡ b.mask) ⊎ (a.mask ≢ b.mask) → (a ≡ b) ⊎ (a ≢ b)
    by_kind (inl zeros) (inl storage) (inl mask) =
        inl (ap (λ (n : ℕ). record { storage = n; zeros = a.zeros; mask = a.mask }) storage
        ∙ ap (λ (z : Bool). record { storage = b.storage; zeros = z; mask = a.mask }) zeros
        ∙ ap (λ (n : ℕ). record { storage = b.storage; zeros = b.zeros; mask = n }) mask)
    by_kind (inr zeros) storage mask = inr (λ same. zeros (ap (λ (e : Entry). e.zeros) same))
    by_kind zeros (inr storage) mask = inr (λ same. storage (ap (λ (e : Entry). e.storage) same))
    by_kind zeros storage (inr mask) = inr (λ same. mask (ap (λ (e : Entry). e.mask) same))

if_some : (b : Bool) (x m : Mapping) → (if b then Some x else None) ≡ Some m → x ≡ m
if_some true x m h = cc
if_some false x m h = absurd cc

page_inside : (chunks c : ℕ) → c < chunks → c / 32 < (16 * chunks + 511) / 512
page_inside chunks c less = omega arith

-- the entry of a chunk whose sector of the map isn't marked stands in that sector
unmarked_entry : (sectors : ℕ) (image : Image) (h : Header) (s : State) (c : ℕ) (e : Entry) → IsState sectors image h s → length s.more ≡ sectors_for_bytes (16 * chunks_of h) → c < chunks_of h → slice_get s.map c ≡ Some e
    → bit_of s.more (c / 32) ≡ false → e ≡ entry_at (image ((layout_of h).map_at c)) (entry_place c)
unmarked_entry sectors image h s c e is size within at down = elim (same_or_not e (entry_at (image ((layout_of h).map_at c)) (entry_place c))) [
  | inl same ↦ same
  | inr other ↦
      let there = down_there s.more (c / 32) (let k = page_inside (chunks_of h) c within in omega (arith, k, size)) down in
      let up = (is.more (c / 32) false there).1 (record { chunk = c; on_page = refl; entry = e; stands = at; other = other }) in
      absurd cc
]

-- and so its mapping is read there
unmarked_read : (sectors : ℕ) (image : Image) (h : Header) (s : State) (c : ℕ) → IsState sectors image h s → length s.more ≡ sectors_for_bytes (16 * chunks_of h) → c < chunks_of h → bit_of s.more (c / 32) ≡ false
    → (m : Mapping) × ((format_of h).mapping_of (image ((layout_of h).map_at c)) c ≡ Some m) × IsMapping (layout_of h) c m × Maps (format_of h) (layout_of h) image h.generation c m
unmarked_read sectors image h s c is size within down =
    let page = is.opens.consistent.mappings c within in
    let w = is.entries c within in
    let same = unmarked_entry sectors image h s c w.entry is size within w.stands down in
    let v = image ((layout_of h).map_at c) in
    let read : mapping_in h c (entry_at v (entry_place c)) ≡ page.0 = if_some (has_kind v.bytes (entry_byte c)) (mapping_in h c (entry_at v (entry_place c))) page.0 page.1 in
    let mapping : mapping_in h c w.entry ≡ page.0 = ap (mapping_in h c) same ∙ read in
    (page.0, page.1, page.2, subst (λ (m : Mapping). Maps (format_of h) (layout_of h) image h.generation c m) mapping w.maps)

opening_marks : (s : State) (before held base disk : List Sector) (log : List Event) → IsStart s before held base disk log
    → AreOpeningMarks (opening_for s.header s.map before (image_of held) base disk (length log)) (memory_of s) (marked_of s)
opening_marks s before held base disk log start c within unmarked = record { mapping = page.0; reads = page.1; wanted = wanted }
  where
    h : Header
    h = s.header

    down : bit_of s.more (c / 32) ≡ false
    down = let e : map_start s.header + c / 32 - map_start s.header ≡ c / 32 = omega arith in subst (λ (k : ℕ). bit_of s.more k ≡ false) e unmarked

    page : (m : Mapping) × ((format_of s.header).mapping_of (image_of held ((layout_of s.header).map_at c)) c ≡ Some m) × IsMapping (layout_of s.header) c m × Maps (format_of s.header) (layout_of s.header) (image_of held) s.header.generation c m
    page = unmarked_read (length held) (image_of held) s.header s c start.state start.whole.sized.more within down

    fresh_has : (b : ℕ) → b / s.header.chunk ≡ c → bit_of s.fresh.bits b ≡ true → page.0.has b ≡ true
    fresh_has b of_chunk up =
        let w = up_local (length held) (image_of held) s.header s b start.state start.whole.sized.fresh up in
        let maps : Maps (format_of s.header) (layout_of s.header) (image_of held) s.header.generation c w.1.0 = subst (λ (d : ℕ). Maps (format_of s.header) (layout_of s.header) (image_of held) s.header.generation d w.1.0) of_chunk w.1.1 in
        ap (λ (m : Mapping). m.has b) (maps_one (format_of s.header) (layout_of s.header) (image_of held) s.header.generation c page.0 w.1.0 page.3 maps) ∙ w.1.2.1

    wanted : IsWantedMapping (opening_for s.header s.map before (image_of held) base disk (length log)) (memory_of s) (nothing_new (memory_of s)) c page.0
    wanted = record {
      kind = page.2.kind refl;
      in_grammar = page.2.kind;
      blocks = λ b. (
        (λ has.
            let k = page.2.blocks b has in
            let p = page.2.has_storage b has in
            let maps : Maps (format_of s.header) (layout_of s.header) (image_of held) s.header.generation (b / s.header.chunk) page.0 = subst (λ (d : ℕ). Maps (format_of s.header) (layout_of s.header) (image_of held) s.header.generation d page.0) (sym k.1) page.3 in
            (k.1, local_up (length held) (image_of held) s.header s b p.0 start.state start.whole.sized.fresh (page.0, maps, (p.1, has)))),
        (λ w. fresh_has b w.0 w.1),
      );
      storage = λ p. (
        (λ is. (has_stored s.table c p (gives_has (length held) (image_of held) s.header s c p start.state (page.0, page.3, is)), page.2.has_block p is)),
        (λ w.
            let gives = has_gives (length held) (image_of held) s.header s c p start.state start.whole.sized.map (stored_has s.table c p w.0) in
            ap (λ (m : Mapping). m.storage) (maps_one (format_of s.header) (layout_of s.header) (image_of held) s.header.generation c page.0 gives.0 page.3 gives.1) ∙ gives.2),
      );
    }

-- ---- the core

none_of : (n i : ℕ) → bit_of (replicate n false) i ≡ false
none_of zero i = refl
none_of (suc n) zero = refl
none_of (suc n) (suc i) = none_of n i

or_none : (a b : Bool) → b ≡ false → a ≡ (a || b)
or_none true b h = refl
or_none false b h = sym h

idle_flight : (phase : Phase) (i : ℕ) (p : Pass) → phase ≡ Idle → IsFlightOf phase p.fault i p NoFlight
idle_flight phase i p idle = subst (λ (x : Phase). IsFlightOf x p.fault i p NoFlight) (sym idle) refl

-- A core as it is made, of passes that have asked nothing yet, is secured.
pub opened-secured : (s : State) (before held base disk : List Sector) (log : List Event) (passes : List Pass) (history : HistoryState) → IsStart s before held base disk log
    → ((i : ℕ) (p : Pass) → slice_get passes i ≡ Some p → p.phase ≡ Idle) → history.log.entries ≡ [] → history.numbers ≡ []
    → HasSafeMirror (opening_for s.header s.map before (image_of held) base disk (length log)) (core_state s.table s.fresh.bits (keeper_of s) None passes history) log
opened-secured s before held base disk log passes history start idle no_entry no_number = record {
  state = at_rest log (memory_of s) (marked_of s);
  keeps = opening_keeps_all (opening_for s.header s.map before (image_of held) base disk (length log)) log (memory_of s) (marked_of s)
      (at_opening s before held base disk log start)
      (opening_marks s before held base disk log start);
  mirrors = record {
    log_is = refl;
    history_is = sym (ap (λ (es : List Event). numbered es history.numbers) no_entry);
    many = ap length no_number ∙ sym (ap length no_entry);
    generation = refl;
    tracked = refl;
    sure = refl;
    storage = λ c. refl;
    stale = λ b. refl;
    off_base = λ b. refl;
    undiscarded = record { drops = λ j. refl; zeros = λ c. refl; lost = λ c. refl };
    tried = λ b. refl;
    same_tracked = λ t way. absurd cc;
    cursor = refl;
    fresh_is = λ b. refl;
    owed = λ b. sym (none_of (blocks_of s.header) b);
    pending = λ b. inl refl;
    marked = λ c within. (let e : map_start s.header + c / 32 - map_start s.header ≡ c / 32 = omega arith in
        ap (bit_of s.more) e ∙ or_none (bit_of s.more (c / 32)) (bit_of (no_marks (pages_of s.header)) (c / 32)) (none_of (pages_of s.header) (c / 32)));
    flights = record { each = λ i p at. idle_flight p.phase i p (idle i p at); beyond = λ i none. refl };
    stage = refl;
  };
}
