-- A state that was filled says what the image says, and what was refused is refused of the image.
use Rattle.std.proofs.Common.{ℕ, ◌≡◌, ◌+◌, ◌-◌, ◌*◌, ◌/◌, ◌%◌, ◌==◌, ◌&&◌, ◌<◌, inl, inr, Bool, true, false, nat_le, if◌then◌else◌, List, length, replicate, Some, None, refl, ap, sym, ◌∙◌, subst, arith}
use Rattle.std.specs.Prelude.{slice_get}
use Rattle.std.specs.Int.{bit_at}
use Rattle.std.specs.Option.{option_map}
use Rattle.std.proofs.lemmas.Bool.{cases_eq, le-leb, eq-eqb, ne_eqb}
use Rattle.std.proofs.lemmas.Nat.{div-add-mod'}
use Rattle.std.proofs.lemmas.Nat.Bits.{bit_at-zero}
use Rattle.std.proofs.lemmas.Option.{slice_get_within}
use Rattle.vd_lists.proofs.Places.{slice_get_copied, some_place}
use Rattle.vd_lists.proofs.Options.{same_option}
use Rattle.vd_format.specs.Headers.{IsValid}
use Rattle.vd_format.specs.Layouts.{blocks_of, chunks_of}
use Rattle.vd_format.specs.Entries.{empty_entry}
use Rattle.vd_format.specs.Records.{Said as Slot, Nothing, Facts, Outside, slot_of}
use Rattle.vd_format.proofs.Rules.{chunk_within}
use Rattle.vd_bits.specs.Blocks.{Blocks}
use Rattle.vd_table.specs.Tables.{Has}
use Rattle.vd_image.specs.Log.{Sector}
use Rattle.vd_image.specs.Image.{Header, Mapping, GivesStorage, IsGoodMapping, IsGoodSlot}
use Rattle.vd_image.specs.Layouts.{layout_of}
use Rattle.vd_image.specs.Decoders.{Entry, shape_of, storage_in, mask_has, mapping_in, record_in, format_of}
use Rattle.vd_image.specs.Refusals.{BadEntry, BadRecord, DoubleChunk, Entry_bad, Record_bad, Chunk_double}
use Rattle.vd_image.specs.Openings.{RefusesOpening, BadImage, Image_bad}
use Rattle.vd_image.proofs.Deciding.{maps_one}
use Rattle.vd_image.proofs.Layouts.{parts_apart}
use Rattle.vd_replay.specs.Images.{image_of}
use Rattle.vd_replay.specs.Pages.{chunk_entry, AreRead, IsFirstBadEntry, AreEntries}
use Rattle.vd_replay.specs.Journal.{CountsAt, AreReplayed, IsFirstOutside}
use Rattle.vd_replay.specs.Placing.{EntryHasStorage, AreTwins, IsSpread, Differs}
use Rattle.vd_replay.specs.Finding.{Found}
use Rattle.vd_replay.specs.Filling.{AreApplied, AgreesWithEntries}
use Rattle.vd_replay.specs.States.{IsSized, SaysMore, HasCounting, IsState, IsOldState}
use Rattle.vd_replay.specs.Refusals.{IsValueOf}
use Rattle.vd_replay.specs.Fresh.{is_fresh}
use Rattle.vd_replay.specs.declared.state.State.{State}
use Rattle.vd_replay.proofs.ImageLaws.{map_of, slots_of, good_mapping, mapping_good, good_slot, slot_good, Views, views}
use Rattle.vd_replay.proofs.MapsLaws.{maps_entry, maps_within}

-- ---- refusals

pub bad_entry : (h : Header) (held : List Sector) (chunk value : ℕ) → IsValid h → h.version ≡ 2 → Found held h → IsFirstBadEntry (shape_of h) (map_of held h) (chunks_of h) chunk value
    → RefusesOpening (length held) (image_of held) (BadImage (BadEntry chunk)) × IsValueOf held chunk value
bad_entry h held chunk value valid version found bad = (
  Image_bad h (BadEntry chunk) found.reads version found.room (Entry_bad chunk (record {
    within = bad.within;
    fails = λ good. bad.bad (mapping_good h held chunk valid good);
    before = λ c less. good_mapping h held c valid (bad.before c less);
  })),
  (h, found.reads, bad.value_is),
)

all_good : (h : Header) (held : List Sector) (pages : List Entry) → IsValid h → AreRead (shape_of h) (map_of held h) (chunks_of h) pages → (c : ℕ) → c < chunks_of h → IsGoodMapping (format_of h) (layout_of h) (image_of held) c
all_good h held pages valid read c less = good_mapping h held c valid (read.good c less)

pub bad_record : (h : Header) (held : List Sector) (pages : List Entry) (slot : ℕ) → IsValid h → h.version ≡ 2 → Found held h → AreRead (shape_of h) (map_of held h) (chunks_of h) pages → IsFirstOutside (shape_of h) (slots_of held h) h.slots slot
    → RefusesOpening (length held) (image_of held) (BadImage (BadRecord slot))
bad_record h held pages slot valid version found read bad =
    Image_bad h (BadRecord slot) found.reads version found.room (Record_bad slot (all_good h held pages valid read) (record {
      within = bad.within;
      fails = λ good. slot_good h held slot valid good bad.bad;
      before = λ k less. good_slot h held k valid (bad.before k less);
    }))

slots_good : (h : Header) (held : List Sector) (pages entries : List Entry) (next : ℕ) → IsValid h → AreReplayed (shape_of h) (slots_of held h) h.slots pages entries next → (k : ℕ) → k < h.slots → IsGoodSlot (format_of h) (layout_of h) (image_of held) h.generation k
slots_good h held pages entries next valid replayed k less = good_slot h held k valid (replayed.good k less)

-- ---- storage

storage_none : (n : ℕ) → n ≡ 0 → storage_in n ≡ None
storage_none n e = ap (λ (x : Bool). if x then None else Some (n - 1)) (eq-eqb n 0 e)

storage_some : (n : ℕ) → (n ≡ 0 → ⊥) → storage_in n ≡ Some (n - 1)
storage_some n not = ap (λ (x : Bool). if x then None else Some (n - 1)) (ne_eqb n 0 not)

pub storage_is : (n p : ℕ) → storage_in n ≡ Some p → n ≡ p + 1
storage_is n p e = elim (cases_eq n 0) [
  | inl none ↦ absurd (let k = storage_none n none in cc)
  | inr some ↦ (let k = storage_some n some in let same : n - 1 ≡ p = cc in omega (arith, same, some))
]

pub storage_from : (n p : ℕ) → n ≡ p + 1 → storage_in n ≡ Some p
storage_from n p e = storage_some n (λ none. omega (arith, none, e)) ∙ ap Some (omega arith)

-- what was read and put, chunk by chunk
record Applied (h : Header) (held : List Sector) (pages entries : List Entry) (next : ℕ) : Type 0 where
  valid : IsValid h
  size : length entries ≡ chunks_of h
  read : AreRead (shape_of h) (map_of held h) (chunks_of h) pages
  replayed : AreReplayed (shape_of h) (slots_of held h) h.slots pages entries next

-- the entry of a chunk gives it its storage
has_gives : (h : Header) (held : List Sector) (pages entries : List Entry) (next c p : ℕ) → Applied h held pages entries next → EntryHasStorage entries c p → GivesStorage (format_of h) (layout_of h) (image_of held) h.generation c p
has_gives h held pages entries next c p a (e, at, storage) =
    let within : c < chunks_of h = (let k = slice_get_within entries c e at in let s = a.size in omega arith) in
    (mapping_in h c e, maps_entry h held pages entries next c e a.valid within a.read a.replayed at, storage_from e.storage p storage)

gives_has : (h : Header) (held : List Sector) (pages entries : List Entry) (next c p : ℕ) → Applied h held pages entries next → GivesStorage (format_of h) (layout_of h) (image_of held) h.generation c p → EntryHasStorage entries c p
gives_has h held pages entries next c p a (m, maps, storage) =
    let within = maps_within h held c m a.valid a.replayed.good maps in
    let e = some_place entries c (let s = a.size in omega (arith, within, s)) in
    let same : mapping_in h c e.0 ≡ m = maps_one (format_of h) (layout_of h) (image_of held) h.generation c (mapping_in h c e.0) m (maps_entry h held pages entries next c e.0 a.valid within a.read a.replayed e.1) maps in
    (e.0, e.1, storage_is e.0.storage p (ap (λ (n : Mapping). n.storage) same ∙ storage))

double : (h : Header) (held : List Sector) (pages entries : List Entry) (next a b : ℕ) → h.version ≡ 2 → Found held h → Applied h held pages entries next → AreTwins entries a b → RefusesOpening (length held) (image_of held) (BadImage (DoubleChunk a b))
double h held pages entries next a b version found is twins =
    Image_bad h (DoubleChunk a b) found.reads version found.room
    (Chunk_double a b twins.storage (all_good h held pages is.valid is.read) (slots_good h held pages entries next is.valid is.replayed) twins.before
    (has_gives h held pages entries next a twins.storage is twins.first_has) (has_gives h held pages entries next b twins.storage is twins.second_has)
    (record {
      within = (let k = twins.within in let s = is.size in omega arith);
      fails = λ new. new a twins.storage twins.before (has_gives h held pages entries next a twins.storage is twins.first_has) (has_gives h held pages entries next b twins.storage is twins.second_has);
      before = λ m less first p lower one two. twins.lowest first m p lower less (gives_has h held pages entries next first p is one) (gives_has h held pages entries next m p is two);
    }))

pub double_chunk : (h : Header) (held : List Sector) (pages entries : List Entry) (next a b : ℕ) → IsValid h → length entries ≡ chunks_of h → h.version ≡ 2 → Found held h → AreApplied h held pages entries next → AreTwins entries a b
    → RefusesOpening (length held) (image_of held) (BadImage (DoubleChunk a b))
double_chunk h held pages entries next a b valid size version found applied twins =
    double h held pages entries next a b version found (record { valid = valid; size = size; read = applied.read; replayed = applied.replayed }) twins

-- ---- the state

pub mask_is : (chunk mask b : ℕ) → 0 < chunk → mask_has (b / chunk * chunk) mask b ≡ (bit_at mask (b % chunk) == 1)
mask_is chunk mask b some =
    let whole = div-add-mod' b chunk in
    let low : nat_le (b / chunk * chunk) b ≡ true = le-leb (b / chunk * chunk) b (omega arith) in
    let place : b - b / chunk * chunk ≡ b % chunk = omega arith in
    ap (λ (x : Bool). x && (bit_at mask (b - b / chunk * chunk) == 1)) low ∙ ap (λ (k : ℕ). bit_at mask k == 1) place

last_block : (h : Header) (b : ℕ) → IsValid h → b < blocks_of h → b / h.chunk < chunks_of h
last_block h b valid within = let apart = parts_apart h valid in apart.chunks b within

-- the bit of a block is that of its chunk's mask
pub in_mask : (h : Header) (map : List Entry) (fresh : Blocks) (b : ℕ) (bit : Bool) → IsValid h → length map ≡ chunks_of h → fresh.chunk ≡ h.chunk → length fresh.bits ≡ blocks_of h → IsSpread map (length map) fresh
    → slice_get fresh.bits b ≡ Some bit → (e : Entry) × (slice_get map (b / h.chunk) ≡ Some e) × (bit ≡ mask_has (b / h.chunk * h.chunk) e.mask b)
in_mask h map fresh b bit valid size chunk blocks spread at =
    let some : 0 < h.chunk = (let k = (chunk_within h valid).0 in omega (arith, k)) in
    let within = slice_get_within fresh.bits b bit at in
    let below : b / h.chunk < length map = (let k = last_block h b valid (omega arith) in omega (arith, k, size)) in
    let e = some_place map (b / h.chunk) below in
    let same : b / fresh.chunk ≡ b / h.chunk = ap (λ (k : ℕ). b / k) chunk in
    let there : slice_get map (b / fresh.chunk) ≡ Some e.0 = ap (slice_get map) same ∙ e.1 in
    let k = spread.bit b e.0 within (subst (λ (n : ℕ). n < length map) (sym same) below) there in
    let rest : b % fresh.chunk ≡ b % h.chunk = ap (λ (n : ℕ). b % n) chunk in
    let is : bit ≡ (bit_at e.0.mask (b % fresh.chunk) == 1) = cc in
    (e.0, e.1, is ∙ ap (λ (n : ℕ). bit_at e.0.mask n == 1) rest ∙ sym (mask_is h.chunk e.0.mask b some))

-- a slot counts where what it says is something
counting : (h : Header) (held : List Sector) (k : ℕ) → IsValid h → k < h.slots → CountsAt (shape_of h) (slots_of held h k) → HasCounting h (image_of held) k
counting h held k valid within counts = by_said (slot_of (shape_of h) v) refl (views h v valid)
  where
    v : Sector
    v = slots_of held h k

    by_said : (said : Slot) → slot_of (shape_of h) v ≡ said → Views h v said → HasCounting h (image_of held) k
    by_said Nothing is none = absurd (counts is)
    by_said (Facts facts) is w = (within, (record_in h w.0, ap (option_map (record_in h)) w.1, w.2))
    by_said Outside is w = (within, (record_in h w.0, ap (option_map (record_in h)) w.1, w.2))

counted : (h : Header) (held : List Sector) (k : ℕ) → IsValid h → HasCounting h (image_of held) k → CountsAt (shape_of h) (slots_of held h k)
counted h held k valid (within, has) is = by_said (slot_of (shape_of h) v) is (views h v valid)
  where
    v : Sector
    v = slots_of held h k

    by_said : (said : Slot) → said ≡ Nothing → Views h v said → ⊥
    by_said Nothing same none = none has.0 has.1 has.2
    by_said (Facts facts) same w = absurd cc
    by_said Outside same w = absurd cc

pub state_is : (held : List Sector) (s : State) (next : ℕ) → IsSized s → s.header.version ≡ 2 → Found held s.header → AreApplied s.header held s.pages s.map next → AreEntries (shape_of s.header) (chunks_of s.header) s.map → AgreesWithEntries s next
    → IsState (length held) (image_of held) s.header s
state_is held s next sized version found applied grammar settled = record {
  opens = record {
    reads = found.reads;
    version = version;
    room = found.room;
    consistent = record {
      mappings = all_good h held s.pages sized.valid applied.read;
      records = slots_good h held s.pages s.map next sized.valid applied.replayed;
      one_to_one = λ c d p gives also. settled.placed.apart c d p (has c p (gives_has h held s.pages s.map next c p is gives)) (has d p (gives_has h held s.pages s.map next d p is also));
    };
  };
  header_is = refl;
  entries = λ c less. (let e = some_place s.map c (let k = sized.map in omega arith) in record {
    entry = e.0;
    stands = e.1;
    grammar = grammar.each c e.0 less e.1;
    maps = maps_entry h held s.pages s.map next c e.0 sized.valid less applied.read applied.replayed e.1;
  });
  table = λ c p. ((λ given. (settled.placed.given c p given).1), has c p);
  fresh = λ b bit at. (let m = in_mask h s.map s.fresh b bit sized.valid sized.map sized.chunk sized.fresh settled.spread at in (
    (λ up. (m.0, m.1, sym m.2 ∙ up)),
    (λ w. m.2 ∙ (let same : m.0 ≡ w.0 = same_option m.0 w.0 (slice_get s.map (b / h.chunk)) m.1 w.1 in ap (λ (e : Entry). mask_has (b / h.chunk * h.chunk) e.mask b) same ∙ w.2)),
  ));
  more = λ page mark at. (let marks = settled.marked.marks page mark (slice_get_within s.more page mark at) at in ((λ up. says (marks.0 up)), (λ w. marks.1 (said w))));
  next = λ some. (let n = settled.next_is in let w = applied.replayed.next_is.within in let up : 0 < next = omega (arith, some, n) in
      let k = counting h held (next - 1) sized.valid (omega (arith, w, up)) (applied.replayed.next_is.counts up) in subst (λ (i : ℕ). HasCounting h (image_of held) (i - 1)) (sym n) k);
  none_later = λ slot low counts. applied.replayed.next_is.none_later slot (let n = settled.next_is in omega (arith, low, n)) counts.0 (counted h held slot sized.valid counts);
}
  where
    h : Header
    h = s.header

    is : Applied s.header held s.pages s.map next
    is = record { valid = sized.valid; size = sized.map; read = applied.read; replayed = applied.replayed }

    has : (c p : ℕ) → EntryHasStorage s.map c p → Has s.table c p
    has c p w = settled.placed.has c p (slice_get_within s.map c w.0 w.1) w

    chunk_of : (c : ℕ) (e : Entry) → slice_get s.map c ≡ Some e → slice_get s.pages c ≡ Some (chunk_entry (map_of held s.header) c)
    chunk_of c e at = applied.read.entry c (let k = slice_get_within s.map c e at in let n = sized.map in omega arith)

    says : {page : ℕ} → Differs s.map s.pages page → SaysMore s.header (image_of held) s.map page
    says d = record {
      chunk = d.chunk;
      on_page = d.on_page;
      entry = d.entry;
      stands = d.is;
      other = λ same. d.other (same ∙ same_option (chunk_entry (map_of held s.header) d.chunk) d.said (slice_get s.pages d.chunk) (chunk_of d.chunk d.entry d.is) d.was);
    }

    said : {page : ℕ} → SaysMore s.header (image_of held) s.map page → Differs s.map s.pages page
    said w = record {
      chunk = w.chunk;
      on_page = w.on_page;
      entry = w.entry;
      said = chunk_entry (map_of held s.header) w.chunk;
      is = w.stands;
      was = chunk_of w.chunk w.entry w.stands;
      other = w.other;
    }

-- ---- an image of version 1 that is as it was made

no_storage : (entries : List Entry) (n c p : ℕ) → entries ≡ replicate n empty_entry → EntryHasStorage entries c p → ⊥
no_storage entries n c p is (e, at, storage) =
    let same : empty_entry ≡ e = slice_get_copied n empty_entry e c (ap (λ (es : List Entry). slice_get es c) (sym is) ∙ at) in
    let k : 0 ≡ p + 1 = ap (λ (x : Entry). x.storage) same ∙ storage in
    omega arith

pub no_twins : (entries : List Entry) (n a b : ℕ) → entries ≡ replicate n empty_entry → AreTwins entries a b → ⊥
no_twins entries n a b is twins = no_storage entries n a twins.storage is twins.first_has

pub old_state_is : (held : List Sector) (s : State) → IsSized s → Found held s.header → true ≡ is_fresh s.header held → s.map ≡ replicate (chunks_of s.header) empty_entry → s.pages ≡ replicate (chunks_of s.header) empty_entry → AgreesWithEntries s 0
    → IsOldState held s.header s
old_state_is held s sized found is_new empty also settled = record {
  reads = found.reads;
  room = found.room;
  is_fresh = sym is_new;
  header_is = refl;
  map = empty;
  table = λ c p has. no_storage s.map (chunks_of s.header) c p empty (settled.placed.given c p has).1;
  fresh = λ b bit at. (let m = in_mask s.header s.map s.fresh b bit sized.valid sized.map sized.chunk sized.fresh settled.spread at in
      let same : empty_entry ≡ m.0 = slice_get_copied (chunks_of s.header) empty_entry m.0 (b / s.header.chunk) (ap (λ (es : List Entry). slice_get es (b / s.header.chunk)) (sym empty) ∙ m.1) in
      let some : 0 < s.header.chunk = (let k = (chunk_within s.header sized.valid).0 in omega (arith, k)) in
      m.2 ∙ ap (λ (e : Entry). mask_has (b / s.header.chunk * s.header.chunk) e.mask b) (sym same) ∙ mask_is s.header.chunk 0 b some ∙ ap (λ (k : ℕ). k == 1) (bit_at-zero (b % s.header.chunk)));
  more = λ page mark at. none mark (λ up. differs ((settled.marked.marks page mark (slice_get_within s.more page mark at) at).0 up));
  next = settled.next_is;
}
  where
    none : (mark : Bool) → (mark ≡ true → ⊥) → mark ≡ false
    none true not = absurd (not refl)
    none false not = refl

    differs : {page : ℕ} → Differs s.map s.pages page → ⊥
    differs d = d.other (sym (slice_get_copied (chunks_of s.header) empty_entry d.entry d.chunk (ap (λ (es : List Entry). slice_get es d.chunk) (sym empty) ∙ d.is))
        ∙ slice_get_copied (chunks_of s.header) empty_entry d.said d.chunk (ap (λ (es : List Entry). slice_get es d.chunk) (sym also) ∙ d.was))
