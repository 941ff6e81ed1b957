-- How a state is filled from what was read.
use Rattle.std.proofs.Common.{ℕ, ◌≡◌, ◌*◌, Bool, true, ◌==◌, List, length, replicate, None, Result, Ok, Err, ap, sym, ◌∙◌, subst, arith}
use Rattle.std.specs.Prelude.{⊤, IfErr, OnOk}
use Rattle.std.proofs.lemmas.Bool.{eqb-true}
use Rattle.vd_law.specs.declared.entry.Sector.{Sector}
use Rattle.vd_format.specs.declared.map.Entry.{Entry}
use Rattle.vd_format.specs.declared.map.Shape2.{Shape2}
use Rattle.vd_format.specs.Headers.{IsValid}
use Rattle.vd_format.specs.Layouts.{blocks_of, chunks_of, map_start, slots_start, sectors_for_bytes}
use Rattle.vd_format.specs.Entries.{empty_entry}
use Rattle.vd_image.specs.Image.{Header, Geometry, geometry_of}
use Rattle.vd_image.specs.Decoders.{shape_of}
use Rattle.vd_image.specs.Refusals.{BadEntry as Entry_refused, BadRecord as Record_refused}
use Rattle.vd_image.specs.Openings.{RefusesOpening, BadImage}
use Rattle.vd_replay.specs.declared.pages.BadEntry.{BadEntry}
use Rattle.vd_replay.specs.declared.state.State.{State}
use Rattle.vd_replay.specs.declared.error.OpenError.{OpenError}
use Rattle.vd_replay.specs.declared.error.OpenError.TheVariants as error
use Rattle.vd_replay.specs.Headers.{first_changed}
use Rattle.vd_replay.specs.Images.{image_of}
use Rattle.vd_replay.specs.Pages.{area_at, Judged, AreEntries}
use Rattle.vd_replay.specs.Journal.{Replayed}
use Rattle.vd_replay.specs.Finding.{Found}
use Rattle.vd_replay.specs.Filling.{AreApplied, AgreesWithEntries, AreDouble}
use Rattle.vd_replay.specs.Fresh.{is_fresh}
use Rattle.vd_replay.specs.States.{IsSized, StateSays}
use Rattle.vd_replay.specs.Refusals.{IsValueOf, Unfilled}
use Rattle.vd_replay.proofs.StateLaws.{bad_entry, bad_record, double_chunk, state_is, old_state_is, no_twins}
use Rattle.vd_lists.proofs.Options.{test_passed}

-- ---- what was read

pub bad_entry_read : (h : Header) (held : List Sector) (shape : Shape2) (from : ℕ) (pages : List Entry) (r : Result ⊤ BadEntry) (bad : BadEntry) → shape ≡ shape_of h → from ≡ map_start h → r ≡ Err bad → Judged shape (area_at held from) shape.chunks pages r
    → IsValid h → h.version ≡ 2 → Found held h → RefusesOpening (length held) (image_of held) (BadImage (Entry_refused bad.chunk)) × IsValueOf held bad.chunk bad.value
bad_entry_read h held shape from pages r bad shape_is from_is r_is judged valid version found =
    let a = subst (λ (sh : Shape2). Judged sh (area_at held from) sh.chunks pages r) shape_is judged in
    let b = subst (λ (n : ℕ). Judged (shape_of h) (area_at held n) (chunks_of h) pages r) from_is a in
    let c = subst (λ (x : Result ⊤ BadEntry). Judged (shape_of h) (area_at held (map_start h)) (chunks_of h) pages x) r_is b in
    bad_entry h held bad.chunk bad.value valid version found c

pub bad_record_read : (h : Header) (before held : List Sector) (shape : Shape2) (from slots_at : ℕ) (pages map map' : List Entry) (read : Result ⊤ BadEntry) (all : ⊤) (r : Result ℕ ℕ) (slot : ℕ) → held ≡ before → shape ≡ shape_of h → from ≡ map_start h
    → slots_at ≡ slots_start h → read ≡ Ok all → Judged shape (area_at before from) shape.chunks pages read → r ≡ Err slot → Replayed shape (area_at held slots_at) h.slots map map' r → IsValid h → h.version ≡ 2 → Found held h
    → RefusesOpening (length held) (image_of held) (BadImage (Record_refused slot))
bad_record_read h before held shape from slots_at pages map map' read all r slot same shape_is from_is slots_is read_is judged r_is replayed valid version found =
    let a = subst (λ (sh : Shape2). Judged sh (area_at before from) sh.chunks pages read) shape_is judged in
    let b = subst (λ (n : ℕ). Judged (shape_of h) (area_at before n) (chunks_of h) pages read) from_is a in
    let c = subst (λ (x : Result ⊤ BadEntry). Judged (shape_of h) (area_at before (map_start h)) (chunks_of h) pages x) read_is b in
    let d = subst (λ (xs : List Sector). Judged (shape_of h) (area_at xs (map_start h)) (chunks_of h) pages (Ok all)) (sym same) c in
    let x = subst (λ (sh : Shape2). Replayed sh (area_at held slots_at) h.slots map map' r) shape_is replayed in
    let y = subst (λ (n : ℕ). Replayed (shape_of h) (area_at held n) h.slots map map' r) slots_is x in
    let z = subst (λ (o : Result ℕ ℕ). Replayed (shape_of h) (area_at held (slots_start h)) h.slots map map' o) r_is y in
    bad_record h held pages slot valid version found d z

-- ---- version 2

pub current_says : (T : Type 0) (r : Result ⊤ OpenError) (held : List Sector) (s : State) (h : Header) (pages map : List Entry) (next : ℕ) → s.header ≡ h → s.pages ≡ pages → s.map ≡ map → OnOk r (AgreesWithEntries s next) → IsSized s → h.version ≡ 2
    → (T → AreApplied h held pages map next) → AreEntries (shape_of h) (chunks_of h) map → OnOk r (T → Found held s.header → StateSays held s)
current_says T (Err e) held s h pages map next header pages_is map_is settled sized version applied grammar = tt
current_says T (Ok done) held s h pages map next header pages_is map_is settled sized version applied grammar = λ told found. record {
  current = λ two.
      let a = subst (λ (g : Header). AreApplied g held pages map next) (sym header) (applied told) in
      let b = subst (λ (xs : List Entry). AreApplied s.header held xs map next) (sym pages_is) a in
      let c = subst (λ (xs : List Entry). AreApplied s.header held s.pages xs next) (sym map_is) b in
      let x = subst (λ (g : Header). AreEntries (shape_of g) (chunks_of g) map) (sym header) grammar in
      let y = subst (λ (xs : List Entry). AreEntries (shape_of s.header) (chunks_of s.header) xs) (sym map_is) x in
      state_is held s next sized two found c y settled;
  old = λ one. (let k : s.header.version ≡ 2 = ap (λ (g : Header). g.version) header ∙ version in absurd (omega arith));
}

pub current_wrong : (T : Type 0) (r : Result ⊤ OpenError) (held : List Sector) (s : State) (h : Header) (pages map : List Entry) (next : ℕ) → s.header ≡ h → s.map ≡ map → IfErr r (AreDouble s.map) → IsSized s → h.version ≡ 2
    → (T → AreApplied h held pages map next) → IfErr r (λ (e : OpenError). T → Found held s.header → Unfilled held e)
current_wrong T (Ok done) held s h pages map next header map_is twins sized version applied = tt
current_wrong T (Err (error.DoubleChunk a b)) held s h pages map next header map_is twins sized version applied = λ told found.
    let x = subst (λ (g : Header). AreApplied g held pages map next) (sym header) (applied told) in
    let y = subst (λ (xs : List Entry). AreApplied s.header held pages xs next) (sym map_is) x in
    double_chunk s.header held pages s.map next a b sized.valid sized.map (ap (λ (g : Header). g.version) header ∙ version) found y twins
current_wrong T (Err (error.Store ticket)) held s h pages map next header map_is twins sized version applied = absurd twins
current_wrong T (Err (error.Header e)) held s h pages map next header map_is twins sized version applied = absurd twins
current_wrong T (Err (error.TooSmall need have)) held s h pages map next header map_is twins sized version applied = absurd twins
current_wrong T (Err error.OldVersion) held s h pages map next header map_is twins sized version applied = absurd twins
current_wrong T (Err (error.BadEntry chunk value)) held s h pages map next header map_is twins sized version applied = absurd twins
current_wrong T (Err (error.BadRecord slot)) held s h pages map next header map_is twins sized version applied = absurd twins
current_wrong T (Err (error.Changed field)) held s h pages map next header map_is twins sized version applied = absurd twins
current_wrong T (Err error.NotBuilt) held s h pages map next header map_is twins sized version applied = absurd twins
current_wrong T (Err error.NoMemory) held s h pages map next header map_is twins sized version applied = absurd twins

-- ---- version 1

pub old_says : (T : Type 0) (r : Result ⊤ OpenError) (held : List Sector) (s : State) (h : Header) (n : ℕ) (b : Bool) → s.header ≡ h → n ≡ chunks_of h → s.pages ≡ replicate n empty_entry → s.map ≡ replicate n empty_entry → OnOk r (AgreesWithEntries s 0) → IsSized s
    → h.version ≡ 1 → b ≡ true → (T → b ≡ is_fresh h held) → OnOk r (T → Found held s.header → StateSays held s)
old_says T (Err e) held s h n b header chunks pages map settled sized version is_true new = tt
old_says T (Ok done) held s h n b header chunks pages map settled sized version is_true new = λ told found. record {
  current = λ two. (let k : s.header.version ≡ 1 = ap (λ (g : Header). g.version) header ∙ version in absurd (omega arith));
  old = λ one.
      let count : n ≡ chunks_of s.header = chunks ∙ ap chunks_of (sym header) in
      old_state_is held s sized found (sym is_true ∙ new told ∙ ap (λ (g : Header). is_fresh g held) (sym header)) (map ∙ ap (λ (k : ℕ). replicate k empty_entry) count) (pages ∙ ap (λ (k : ℕ). replicate k empty_entry) count) settled;
}

pub old_fine : (T : Type 0) (r : Result ⊤ OpenError) (held : List Sector) (s : State) (n : ℕ) → s.map ≡ replicate n empty_entry → IfErr r (AreDouble s.map) → IfErr r (λ (e : OpenError). T → Found held s.header → Unfilled held e)
old_fine T (Ok done) held s n map twins = tt
old_fine T (Err (error.DoubleChunk a b)) held s n map twins = absurd (no_twins s.map n a b map twins)
old_fine T (Err (error.Store ticket)) held s n map twins = absurd twins
old_fine T (Err (error.Header e)) held s n map twins = absurd twins
old_fine T (Err (error.TooSmall need have)) held s n map twins = absurd twins
old_fine T (Err error.OldVersion) held s n map twins = absurd twins
old_fine T (Err (error.BadEntry chunk value)) held s n map twins = absurd twins
old_fine T (Err (error.BadRecord slot)) held s n map twins = absurd twins
old_fine T (Err (error.Changed field)) held s n map twins = absurd twins
old_fine T (Err error.NotBuilt) held s n map twins = absurd twins
old_fine T (Err error.NoMemory) held s n map twins = absurd twins

-- ---- whether it is void

pub says_anyway : (held : List Sector) (s : State) (b : Bool) → StateSays held s → StateSays held (record s { void = b })
says_anyway held s b says = record {
  current = λ two. (let w = says.current two in record { opens = w.opens; header_is = w.header_is; entries = w.entries; table = w.table; fresh = w.fresh; more = w.more; next = w.next; none_later = w.none_later });
  old = λ one. (let w = says.old one in record { reads = w.reads; room = w.room; is_fresh = w.is_fresh; header_is = w.header_is; map = w.map; table = w.table; fresh = w.fresh; more = w.more; next = w.next });
}

pub says_void : (T : Type 0) (r : Result ⊤ OpenError) (held : List Sector) (s : State) (b : Bool) → OnOk r (T → Found held s.header → StateSays held s) → OnOk r (T → Found held s.header → StateSays held (record s { void = b }))
says_void T (Ok done) held s b says = λ told found. says_anyway held s b (says told found)
says_void T (Err e) held s b says = tt

-- ---- a header that was read again

pub record IsSame (kept h : Header) : Type 0 where
  pub version : h.version ≡ kept.version
  pub block : h.block ≡ kept.block
  pub chunk : h.chunk ≡ kept.chunk
  pub size : h.size ≡ kept.size
  pub storage : h.storage ≡ kept.storage
  pub slots : h.slots ≡ kept.slots

pub same_fields : (kept h : Header) → first_changed kept h ≡ None → IsSame kept h
unfolding first_changed
same_fields kept h none =
    let a = test_passed (h.version == kept.version) 9 _ none in
    let b = test_passed (h.block == kept.block) 1 _ a.1 in
    let c = test_passed (h.chunk == kept.chunk) 2 _ b.1 in
    let d = test_passed (h.size == kept.size) 3 _ c.1 in
    let e = test_passed (h.storage == kept.storage) 4 _ d.1 in
    let f = test_passed (h.slots == kept.slots) 5 _ e.1 in
    record {
      version = eqb-true h.version kept.version a.0;
      block = eqb-true h.block kept.block b.0;
      chunk = eqb-true h.chunk kept.chunk c.0;
      size = eqb-true h.size kept.size d.0;
      storage = eqb-true h.storage kept.storage e.0;
      slots = eqb-true h.slots kept.slots f.0;
    }

pub same_geometry : (kept h : Header) → first_changed kept h ≡ None → geometry_of h ≡ geometry_of kept
same_geometry kept h none = let s = same_fields kept h none in cc

abbrev header_by : Geometry → Header
header_by z = record { version = z.version; block = z.block; chunk = z.chunk; storage = z.storage; slots = z.slots; size = z.size; tracked = 0; generation = 0 }

pub sized_again : (s : State) (h : Header) (b : Bool) → IsSized s → IsValid h → first_changed s.header h ≡ None → IsSized (record s { header = h; void = b })
sized_again s h b z valid none =
    let same = sym (same_geometry s.header h none) in
    let chunks : chunks_of s.header ≡ chunks_of h = ap (λ (x : Geometry). chunks_of (header_by x)) same in
    record {
      valid = valid;
      map = z.map ∙ chunks;
      pages = z.pages ∙ chunks;
      table = z.table ∙ chunks;
      storage = z.storage ∙ ap (λ (x : Geometry). x.storage) same;
      chunk = z.chunk ∙ ap (λ (x : Geometry). x.chunk) same;
      fresh = z.fresh ∙ ap (λ (x : Geometry). blocks_of (header_by x)) same;
      more = z.more ∙ ap (λ (n : ℕ). sectors_for_bytes (16 * n)) chunks;
      slots = z.slots ∙ ap (λ (x : Geometry). x.slots) same;
    }

pub found_again : (held held' : List Sector) (h g : Header) → held' ≡ held → g ≡ h → Found held h → Found held' g
found_again held held' h g same also found = subst (λ (x : Header). Found held' x) (sym also) (subst (λ (xs : List Sector). Found xs h) (sym same) found)

pub says_found : (T : Type 0) (r : Result ⊤ OpenError) (held : List Sector) (s : State) → OnOk r (T → Found held s.header → StateSays held s) → (T → Found held s.header) → OnOk r (T → StateSays held s)
says_found T (Ok done) held s says found = λ told. says told (found told)
says_found T (Err e) held s says found = tt
