-- The guest's disk at opening: a clean store's log says what the store holds.
use Rattle.std.proofs.Common.{ℕ, ◌≡◌, ◌/◌, max, ◌<◌, ◌≤◌, inl, inr, Bool, true, false, List, [], ◌∷◌, ◌++◌, length, map, take, Option, Some, None, refl, ap, sym, ◌∙◌, subst, arith}
use Rattle.std.specs.Prelude.{slice_get}
use Rattle.std.specs.Option.{option_to_list}
use Rattle.std.specs.List.{AllByRecursion, Contains, fold, list_any, filter, find}
use Rattle.std.proofs.lemmas.Option.{slice_get_within}
use Rattle.std.proofs.lemmas.List.{take_all, append-nil, length_push}
use Rattle.vd_law.specs.declared.entry.Sector.{Sector}
use Rattle.vd_law.specs.Entries.{Entry, Ask, Issue, Done, Broke, Seen, Reply, Past, nothing, ◌▸◌, past}
use Rattle.vd_law.specs.Contents.{Open, sector_in, issued_contents, open_writes, open_write, is_of, contents_after_done, contents_after_seen, is_of_another, could_after, could, issue_number, last_done}
use Rattle.vd_law.proofs.Appending.{last_done-le}
use Rattle.vd_law.proofs.RuleLaws.{past-append}
use Rattle.vd_device.specs.Disks.{Disk, IsHonest, IsRunning, IsClean}
use Rattle.vd_device.specs.Quiet.{IsNoWrite, AddsNoWrite}
use Rattle.vd_format.specs.declared.header.Header.{Header}
use Rattle.vd_format.specs.Headers.{IsValid, header_of}
use Rattle.vd_format.specs.Layouts.{store_need}
use Rattle.vd_image.specs.Image.{Image, Mapping, Fact, Format, Layout, Counts, IsLastNamed, Maps, IsMapping, DiskHas}
use Rattle.vd_image.specs.Layouts.{layout_of, FitsInStore}
use Rattle.vd_image.specs.Decoders.{format_of, mapping_in}
use Rattle.vd_image.specs.CrashImages.{sectors_or}
use Rattle.vd_image.proofs.CrashImages.{at_inside}
use Rattle.vd_image.proofs.Deciding.{maps_one}
use Rattle.vd_image.proofs.Decoders.{entry_is_mapping}
use Rattle.vd_image.proofs.Layouts.{parts_apart, parts_inside}
use Rattle.vd_image.proofs.Openings.{header_valid}
use Rattle.vd_replay.specs.Images.{image_of}
use Rattle.vd_replay.specs.States.{IsState}
use Rattle.vd_replay.specs.declared.state.State.{State}
use Rattle.vd_passes.specs.Tracks.{track, writes, content_by}
use Rattle.vd_machine.specs.Start.{opening_at, HasOneContent, WasClean, first_or_zeros, image_at, IsStart}
use Rattle.vd_run.specs.Running.{IsDisk}
use Rattle.vd_format.specs.Background.{zero_sector, base_at}
use Rattle.vd_law.proofs.CleanLaws.{contains_one}

-- ---- one content

abbrev IsOne : List Sector → Type 0
IsOne xs = (v w : Sector) → Contains xs v → Contains xs w → v ≡ w

one_alone : (x : Sector) → IsOne (x ∷ [])
one_alone x v w a b = contains_one x v a ∙ sym (contains_one x w b)

one_option : (o : Option Sector) → IsOne (option_to_list o)
one_option None v w a b = absurd (let less = a.1 in omega arith)
one_option (Some x) v w a b = one_alone x v w a b

issued_one : (held issued : List Sector) (last : ℕ) (o : Option Sector) → (last ≡ length issued → IsOne held) → last ≤ length issued → last ≡ length (issued ++ option_to_list o) → IsOne (held ++ option_to_list o)
issued_one held issued last None one least all = subst IsOne (sym (append-nil held)) (one (all ∙ ap length (append-nil issued)))
issued_one held issued last (Some v) one least all = absurd (let n = length_push issued v in omega (arith, all, n, least))

done_one : (held : List Sector) (last n : ℕ) (o : Option Open) → (last ≡ n → IsOne held) → max last (issue_number o) ≡ n → IsOne (contents_after_done o held)
done_one held last n None one all = one (omega arith)
done_one held last n (Some w) one all = one_alone w.content

seen_one : (held : List Sector) (o : Option Sector) (others : Bool) → IsOne held → IsOne (contents_after_seen o others held)
seen_one held None others one = one
seen_one held (Some v) true one = one
seen_one held (Some v) false one = one_alone v

-- where the last write of a sector is done, one content alone may be there
one_left : (start : List Sector) (p : Past) (s : ℕ) → last_done p s ≡ length (issued_contents p s) → IsOne (could_after start p s)
one_left start nothing s all = one_option (slice_get start s)
one_left start (p ▸ Ask id request) s all = one_left start p s all
one_left start (p ▸ Issue id first content) s all = issued_one (could_after start p s) (issued_contents p s) (last_done p s) (sector_in first content s) (one_left start p s) (last_done-le p s) all
one_left start (p ▸ Done id) s all = done_one (could_after start p s) (last_done p s) (length (issued_contents p s)) (open_write p id s) (one_left start p s) all
one_left start (p ▸ Broke id) s all = one_left start p s all
one_left start (p ▸ Seen id first content) s all = seen_one (could_after start p s) (sector_in first content s) (list_any (is_of_another id) (open_writes p s)) (one_left start p s all)
one_left start (p ▸ Reply id answer) s all = one_left start p s all

-- ---- a clean store

whole_log : (d : Disk) (events : ℕ) → IsRunning events d → take events d.log ≡ d.log
whole_log d events runs = take_all events d.log (omega arith)

contents_are : (start : List Sector) (log : List Entry) (a : ℕ) → (track start log a).contents ≡ could start log a
unfolding track
contents_are start log a = refl

no_writes : (start : List Sector) (log : List Entry) (a : ℕ) → open_writes (past log) a ≡ [] → (track start log a).writes ≡ []
unfolding track writes
no_writes start log a none = ap (λ (ws : List Open). map content_by ws) none

settled_at : (d : Disk) → IsClean d → (a : ℕ) → HasOneContent (track d.start d.log a)
settled_at d clean a =
    record { none = no_writes d.start d.log a (clean a).0; one = subst IsOne (sym (contents_are d.start d.log a)) (one_left d.start (past d.log) a (clean a).1) }

pub was_clean : (d : Disk) (events : ℕ) → IsRunning events d → IsClean d → WasClean (opening_at events d)
was_clean d events runs clean a = subst (λ (log : List Entry). HasOneContent (track d.start log a)) (sym (whole_log d events runs)) (settled_at d clean a)

first_is : (xs : List Sector) (v : Sector) → IsOne xs → Contains xs v → first_or_zeros xs ≡ v
first_is [] v one there = absurd (let less = there.1 in omega arith)
first_is (x ∷ xs) v one there = one x v (0, omega arith, refl) there

-- its image is what it holds
held_at : (d : Disk) (events a : ℕ) → IsRunning events d → IsClean d → IsHonest d → a < length d.held → image_at (opening_at events d) a ≡ image_of d.held a
unfolding image_at
held_at d events a runs clean honest less =
    let settles = settled_at d clean a in
    let v = sectors_or zero_sector d.held a in
    let could_be : Contains (could d.start d.log a) v = honest a v (at_inside zero_sector d.held a less) in
    let here : Contains (track d.start d.log a).contents v = subst (λ (xs : List Sector). Contains xs v) (sym (contents_are d.start d.log a)) could_be in
    ap (λ (log : List Entry). first_or_zeros (track d.start log a).contents) (whole_log d events runs) ∙ first_is (track d.start d.log a).contents v settles.one here

-- ---- one disk over both

-- Two images that have the same map and slots say the same of each chunk.
module _ (f : Format) (l : Layout) where
  abbrev HaveSame : Image → Image → Type 0
  HaveSame a b = ((c : ℕ) → c < l.chunks → a (l.map_at c) ≡ b (l.map_at c)) × ((k : ℕ) → k < l.slots → a (l.slot_at k) ≡ b (l.slot_at k))

  turned : (a b : Image) → HaveSame a b → HaveSame b a
  turned a b same = (λ c within. sym (same.0 c within), λ k within. sym (same.1 k within))

  counts_over : {a b : Image} {generation slot place : ℕ} {fact : Fact} → HaveSame a b → Counts f l a generation slot place fact → Counts f l b generation slot place fact
  counts_over same counts = record {
    item = counts.item;
    within = counts.within;
    reads = ap f.record_of (sym (same.1 _ counts.within)) ∙ counts.reads;
    current = counts.current;
    stands = counts.stands;
  }

  named_over : (a b : Image) {generation chunk : ℕ} {m : Mapping} → HaveSame a b → IsLastNamed f l a generation chunk m → IsLastNamed f l b generation chunk m
  named_over a b same last = record {
    slot = last.slot;
    place = last.place;
    fact = last.fact;
    counts = counts_over same last.counts;
    names = last.names;
    mapping = last.mapping;
    last = λ k j other counts. last.last k j other (counts_over (turned a b same) counts);
  }

  maps_over : (a b : Image) (generation chunk : ℕ) (m : Mapping) → HaveSame a b → Maps f l a generation chunk m → Maps f l b generation chunk m
  maps_over a b generation chunk m same (inl last) = inl (named_over a b same last)
  maps_over a b generation chunk m same (inr other) =
      inr ((λ slot place fact counts. other.0 slot place fact (counts_over (turned a b same) counts)), other.1, ap (λ v. f.mapping_of v chunk) (sym (same.0 chunk other.1)) ∙ other.2)

-- An image that has in a store's sectors what the held one has, which a state was read from, stands for the same disk.
module _ (sectors : ℕ) (held image : Image) (h : Header) (s : State) (is : IsState sectors held h s) (same : (a : ℕ) → a < sectors → image a ≡ held a) where
  valid : IsValid h
  valid = header_valid (held 0) h is.opens.reads

  inside : FitsInStore (layout_of h) (store_need h)
  inside = parts_inside h valid

  have_same : HaveSame (format_of h) (layout_of h) held image
  have_same = (
    (λ c within. sym (same ((layout_of h).map_at c) (let k = inside.map c within in let room = is.opens.room in omega arith))),
    (λ k within. sym (same ((layout_of h).slot_at k) (let n = inside.slots k within in let room = is.opens.room in omega arith))),
  )

  module _ (base : ℕ → Sector) (zeros : Sector) (x : ℕ) (v : Sector) (disk : DiskHas (format_of h) (layout_of h) base zeros held x v) (less : x < h.size) where
    abbrev chunk : ℕ
    chunk = x / h.block / h.chunk

    header_is : disk.header ≡ h
    header_is = let a = disk.reads in let b = is.opens.reads in cc

    mapped : Maps (format_of h) (layout_of h) held h.generation chunk disk.mapping
    mapped = subst (λ (g : Header). Maps (format_of h) (layout_of h) held g.generation chunk disk.mapping) header_is disk.maps

    -- its mapping is one of the grammar
    grammar : IsMapping (layout_of h) chunk disk.mapping
    grammar =
        let apart = parts_apart h valid in let e = is.entries chunk (apart.chunks (x / h.block) (apart.blocks x less)) in
        let same_mapping = maps_one (format_of h) (layout_of h) held h.generation chunk disk.mapping (mapping_in h chunk e.entry) mapped e.maps in
        subst (λ (m : Mapping). IsMapping (layout_of h) chunk m) (sym same_mapping) ((entry_is_mapping h chunk e.entry valid).0 e.grammar)

    place_in : (p : ℕ) → disk.mapping.storage ≡ Some p → (layout_of h).place p x < sectors
    place_in p given = let n = inside.places p x (grammar.within p given) in let room = is.opens.room in omega arith

    pub disk_over : DiskHas (format_of h) (layout_of h) base zeros image x v
    disk_over = record {
      header = disk.header;
      reads = ap header_of (same 0 (let n = inside.header in let room = is.opens.room in omega arith)) ∙ disk.reads;
      mapping = disk.mapping;
      maps = maps_over (format_of h) (layout_of h) held image disk.header.generation chunk disk.mapping have_same disk.maps;
      has = elim disk.has [
        | inl (p, local, there) ↦ inl (p, local, there ∙ sym (same ((layout_of h).place p x) (place_in p local.0)))
        | inr other ↦ inr other
      ];
    }

-- The disk that a clean store's image stands for is the one from which a core begins.
pub start_is : (d : Disk) (events : ℕ) (h : Header) (s : State) (base start : List Sector) → IsRunning events d → IsHonest d → IsClean d → IsState (length d.held) (image_of d.held) h s → IsDisk h d.held base start
    → IsStart (opening_at events d) base h start
start_is d events h s base start runs honest clean state disk = record {
  clean = was_clean d events runs clean;
  size = disk.size;
  disk = λ x v at. (
      let less : x < h.size = (let k = slice_get_within start x v at in let n = disk.size in omega arith) in
      disk_over (length d.held) (image_of d.held) (image_at (opening_at events d)) h s state (λ a within. held_at d events a runs clean honest within) (base_at zero_sector base) zero_sector x v (disk.sectors x v at) less
      );
}

-- ---- events that write nothing

quiet_after : (es : List Entry) (p : Past) (s : ℕ) → AllByRecursion IsNoWrite es → open_writes p s ≡ [] → (open_writes (fold ◌▸◌ p es) s ≡ []) × (last_done (fold ◌▸◌ p es) s ≡ last_done p s) × (issued_contents (fold ◌▸◌ p es) s ≡ issued_contents p s)
quiet_after [] p s none calm = (calm, refl, refl)
quiet_after (Ask id request ∷ es) p s none calm = quiet_after es (p ▸ Ask id request) s none.1 calm
quiet_after (Issue id first content ∷ es) p s none calm = absurd none.0
quiet_after (Done id ∷ es) p s none calm =
    let still : open_writes (p ▸ Done id) s ≡ [] = ap (filter (is_of_another id)) calm in
    let nothing_done : last_done (p ▸ Done id) s ≡ last_done p s = ap (λ (ws : List Open). max (last_done p s) (issue_number (find (is_of id) ws))) calm ∙ omega arith in
    let more = quiet_after es (p ▸ Done id) s none.1 still in (more.0, more.1 ∙ nothing_done, more.2)
quiet_after (Broke id ∷ es) p s none calm = quiet_after es (p ▸ Broke id) s none.1 (ap (filter (is_of_another id)) calm)
quiet_after (Seen id first content ∷ es) p s none calm = quiet_after es (p ▸ Seen id first content) s none.1 calm
quiet_after (Reply id answer ∷ es) p s none calm = quiet_after es (p ▸ Reply id answer) s none.1 calm

-- a clean store that is only read stays so
pub clean_later : (old new : Disk) → AddsNoWrite old new → IsClean old → IsClean new
clean_later old new adds clean s =
    let all : past new.log ≡ fold ◌▸◌ (past old.log) adds.more = ap past adds.log ∙ past-append old.log adds.more nothing in
    let q = quiet_after adds.more (past old.log) s adds.none (clean s).0 in
    let calm : open_writes (past new.log) s ≡ [] = ap (λ (p : Past). open_writes p s) all ∙ q.0 in
    let done : last_done (past new.log) s ≡ length (issued_contents (past new.log) s) =
    ap (λ (p : Past). last_done p s) all ∙ q.1 ∙ (clean s).1 ∙ ap length (sym q.2) ∙ ap (λ (p : Past). length (issued_contents p s)) (sym all) in
    (calm, done)
