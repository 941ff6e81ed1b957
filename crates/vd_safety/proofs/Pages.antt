-- The next sector of the map of a recycle, as the laws of crash safety read it.
use Rattle.std.proofs.Common.{◌≡◌, ℕ, ◌+◌, ◌-◌, ◌*◌, ◌/◌, ◌%◌, ◌<◌, Bool, true, List, length, map, take, drop, Some, None, sym, ap, ◌∙◌, arith}
use Rattle.std.specs.Prelude.{min, if◌then◌else◌}
use Rattle.std.specs.List.{slice_get, range_with_len}
use Rattle.std.proofs.lemmas.Nat.{mod_below, div-add-mod'}
use Rattle.std.proofs.lemmas.List.FromFn.{length-map-range_with_len, get_or-map-range_with_len}
use Rattle.std.proofs.lemmas.Option.{slice_get-get_or}
use Rattle.vd_law.specs.declared.entry.Sector.{Sector}
use Rattle.vd_format.specs.declared.header.Header.{Header}
use Rattle.vd_format.specs.declared.map.Entry.{Entry}
use Rattle.vd_format.specs.Entries.{entry_bytes, page_bytes, has_kind, entry_at, bytes_at, Fits}
use Rattle.vd_format.proofs.Entries.{entry_at-bytes, has_kind-at, fits_grammar}
use Rattle.vd_format.proofs.Pages.{page-at}
use Rattle.vd_format.proofs.Rules.{storage_within}
use Rattle.vd_table.specs.Tables.{TableState}
use Rattle.vd_image.specs.Layouts.{chunks_of, map_start}
use Rattle.vd_image.specs.Decoders.{format_of, shape_of, mapping_in}
use Rattle.vd_crash.specs.facts.Safe.{Opening}
use Rattle.vd_crash.specs.flushes.Flushing.{Snapshot, IsWantedPage}
use Rattle.vd_keeper.specs.Keeping.{KeeperState, pages_of}
use Rattle.vd_keeper.specs.Entries.{map_entry, HasStorage, wanted_blocks, page_entries}
use Rattle.vd_keeper.specs.Flushes.{IsKeeping}
use Rattle.vd_keeper.proofs.Laws.{wanted-grammar}
use Rattle.vd_safety.specs.Mirrors.{IsOfHeader}
use Rattle.vd_safety.proofs.Records.{with_header, by-header, IsMemoryOf, wanted-mapping}
use Rattle.vd_crash.specs.facts.Memory.{Memory}

-- a page that begins with chunk 32 * page has chunk c at its place
pub page-place : (table : TableState) (k : KeeperState) (c : ℕ) → c < chunks_of k.header → slice_get (page_entries table k (c / 32)) (c % 32) ≡ Some (map_entry k.header table (wanted_blocks k) c)
page-place table k c inside =
    let f = map_entry k.header table (wanted_blocks k) in
    let n : ℕ = min 32 (chunks_of k.header - 32 * (c / 32)) in
    let whole = div-add-mod' c 32 in
    let rest = mod_below c 32 (omega arith) in
    let less : c % 32 < n = omega arith in
    let len : length (map f (range_with_len (32 * (c / 32)) n)) ≡ n = length-map-range_with_len f (32 * (c / 32)) n in
    slice_get-get_or (map f (range_with_len (32 * (c / 32)) n)) (c % 32) (f c) (omega arith)
    ∙ ap (λ (e : Entry). Some e) (get_or-map-range_with_len f (32 * (c / 32)) n (c % 32) c (f c) less (omega arith))

module _ (o : Opening) (m : Memory) (snapshot : Snapshot) (table : TableState) (k : KeeperState) (is : IsMemoryOf m snapshot table k) (kept : IsKeeping k) (has : HasStorage table k) where
  -- the page at a chunk of it
  page-reads : (page c : ℕ) (sector : Sector) → sector.bytes ≡ page_bytes (page_entries table k page) → c < chunks_of k.header → c / 32 ≡ page
      → (format_of k.header).mapping_of sector c ≡ Some (mapping_in k.header c (map_entry k.header table (wanted_blocks k) c))
  page-reads page c sector bytes inside of_page =
      let e = map_entry k.header table (wanted_blocks k) c in
      let spelled : sector.bytes ≡ page_bytes (page_entries table k (c / 32)) = bytes ∙ ap (λ (p : ℕ). page_bytes (page_entries table k p)) (sym of_page) in
      let at : bytes_at sector (c % 32) ≡ entry_bytes e = ap (λ (b : List ℕ). take 16 (drop (16 * (c % 32)) b)) spelled ∙ page-at (page_entries table k (c / 32)) (c % 32) e (page-place table k c inside) in
      let fits : Fits e = fits_grammar (shape_of k.header) c e (omega (arith, storage_within k.header kept.valid)) (wanted-grammar table k c kept has) in
      let kind : has_kind sector.bytes (16 * (c % 32)) ≡ true = has_kind-at sector (c % 32) e at in
      let entry : entry_at sector (c % 32) ≡ e = entry_at-bytes sector (c % 32) e fits at in
      ap (λ (b : Bool). if b then Some (mapping_in k.header c (entry_at sector (c % 32))) else None) kind ∙ ap (λ (x : Entry). Some (mapping_in k.header c x)) entry

  page-there : (page c : ℕ) (sector : Sector) → sector.bytes ≡ page_bytes (page_entries table k page) → c < chunks_of k.header → c / 32 ≡ page → IsWantedPage (with_header o k.header) m snapshot c sector
  page-there page c sector bytes inside of_page = record {
    mapping = mapping_in k.header c (map_entry k.header table (wanted_blocks k) c);
    reads = page-reads page c sector bytes inside of_page;
    wanted = wanted-mapping o m snapshot table k is c kept has;
  }

-- chunks of one sector of the map
same-page : (start c d : ℕ) → start + c / 32 ≡ start + d / 32 → c / 32 ≡ d / 32
same-page start c d e = omega arith

-- The next sector of the map is one that the laws want, at each of its chunks.
pub page-wanted : (h : Header) (o : Opening) (m : Memory) (snapshot : Snapshot) (table : TableState) (k : KeeperState) (page : ℕ) (sector : Sector) → IsOfHeader h o k → IsMemoryOf m snapshot table k → IsKeeping k → HasStorage table k
    → sector.bytes ≡ page_bytes (page_entries table k page) → (c d : ℕ) → d / 32 ≡ page → c < o.layout.chunks → o.layout.map_at c ≡ o.layout.map_at d → IsWantedPage o m snapshot c sector
page-wanted h o m snapshot table k page sector of is kept has bytes c d at =
    by-header h o k of (λ p. c < p.layout.chunks → p.layout.map_at c ≡ p.layout.map_at d → IsWantedPage p m snapshot c sector)
    (λ inside same. page-there o m snapshot table k is kept has page c sector bytes inside (same-page (map_start k.header) c d same ∙ at))

-- a sector of the map has a chunk
pub page-chunk : (page : ℕ) → (32 * page) / 32 ≡ page
page-chunk page = omega arith

first-inside : (chunks page : ℕ) → page < (chunks + 31) / 32 → 32 * page < chunks
first-inside chunks page inside = omega arith

pub page-first : (h : Header) (page : ℕ) → page < pages_of h → 32 * page < chunks_of h
page-first h page inside = first-inside (chunks_of h) page inside
