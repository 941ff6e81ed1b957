-- What a flush logs in a slot is a record that the laws of crash safety want there.
use Rattle.std.proofs.Common.{◌≡◌, inl, inr, ℕ, ◌+◌, ◌-◌, ◌*◌, ◌/◌, ◌<◌, ◌≤◌, nat_eq, Bool, true, false, cond, List, get_or, Option, Some, None, sym, refl, ap, ◌∙◌, arith, subst}
use Rattle.std.specs.Prelude.{◌&&◌, if◌then◌else◌, nat_le}
use Rattle.std.specs.Int.{bit_at}
use Rattle.std.specs.List.{slice_get}
use Rattle.std.proofs.lemmas.Bool.{cases_Bool, ne_eqb, leb-true, le-leb}
use Rattle.std.proofs.lemmas.Nat.{div-mul-add, mod_below, div-add-mod'}
use Rattle.vd_bits.specs.Blocks.{Blocks, bits_in}
use Rattle.vd_bits.specs.Masks.{mask_of}
use Rattle.vd_format.specs.declared.header.Header.{Header}
use Rattle.vd_format.specs.Headers.{IsValid}
use Rattle.vd_format.proofs.Rules.{chunk_within}
use Rattle.vd_table.specs.Tables.{TableState}
use Rattle.vd_image.specs.Image.{Geometry, Format, Layout, IsMapping}
use Rattle.vd_image.specs.Layouts.{layout_of}
use Rattle.vd_image.specs.Decoders.{format_of, mapping_in, mask_has, storage_in}
use Rattle.vd_image.proofs.Decoders.{entry_is_mapping}
use Rattle.vd_crash.specs.facts.Safe.{Opening}
use Rattle.vd_crash.specs.flushes.Flushing.{Snapshot, IsWantedMapping}
use Rattle.vd_keeper.specs.Keeping.{KeeperState}
use Rattle.vd_keeper.specs.Entries.{map_entry, storage_number, HasStorage, wanted_blocks}
use Rattle.vd_keeper.specs.Flushes.{IsKeeping}
use Rattle.vd_keeper.proofs.Rows.{get_or-either, within}
use Rattle.vd_keeper.proofs.Chunked.{length-bits_in, get_or-bits_in}
use Rattle.vd_keeper.proofs.Chunked as chunked
use Rattle.vd_keeper.proofs.Laws.{wanted-grammar}
use Rattle.vd_safety.specs.Mirrors.{IsSnapshotOf, bit_of, storage_given, storage_of, IsOfHeader}
use Rattle.vd_crash.specs.facts.Memory.{Memory}

-- ---- the opening, by the keeper's header

-- a header with this geometry
abbrev header_by : Geometry → Header
header_by g = record { version = g.version; block = g.block; chunk = g.chunk; storage = g.storage; slots = g.slots; size = g.size; tracked = 0; generation = 0 }

abbrev pub with_header : Opening → Header → Opening
with_header o h = record o { format = format_of h; layout = layout_of h }

pub own-format : (h : Header) (o : Opening) (k : KeeperState) → IsOfHeader h o k → o.format ≡ format_of k.header
own-format h o k is = is.format ∙ ap (λ (g : Geometry). format_of (header_by g)) (sym is.same)

pub own-layout : (h : Header) (o : Opening) (k : KeeperState) → IsOfHeader h o k → o.layout ≡ layout_of k.header
own-layout h o k is = is.layout ∙ ap (λ (g : Geometry). layout_of (header_by g)) (sym is.same)

pub same-opening : (h : Header) (o : Opening) (k : KeeperState) → IsOfHeader h o k → with_header o k.header ≡ o
same-opening h o k is =
    ap (λ (f : Format). record o { format = f; layout = layout_of k.header }) (sym (own-format h o k is))
    ∙ ap (λ (l : Layout). record o { layout = l }) (sym (own-layout h o k is))

-- what holds by the keeper's header holds of the opening
pub by-header : (h : Header) (o : Opening) (k : KeeperState) → IsOfHeader h o k → (P : Opening → Type 0) → P (with_header o k.header) → P o
by-header h o k is P holds = subst P (same-opening h o k is) holds

-- What the memory says of a keeper and its table, and which blocks the flush under way logs.
pub record IsMemoryOf (m : Memory) (snapshot : Snapshot) (table : TableState) (k : KeeperState) : Type 0 where
  pub generation : m.index.generation ≡ k.header.generation
  pub table_is : (c : ℕ) → m.index.table c ≡ storage_of table c
  pub stale : (b : ℕ) → m.index.stale b ≡ bit_of k.stale b
  pub snapshot_is : IsSnapshotOf k.snapshot k.stale snapshot

-- ---- the mapping of a chunk

-- the mask of a chunk has the blocks of the chunk that are set
module _ (h : Header) (valid : IsValid h) (blocks : List Bool) (chunk b : ℕ) where
  abbrev set : Blocks
  set = record { chunk = h.chunk; bits = blocks }

  abbrev mask : ℕ
  mask = mask_of (bits_in set chunk)

  parts : (x y : Bool) → (x && y) ≡ true → (x ≡ true) × (y ≡ true)
  parts true true e = (refl, refl)
  parts true false e = absurd cc
  parts false y e = absurd cc

  both : (x y : Bool) → x ≡ true → y ≡ true → (x && y) ≡ true
  both true true e f = refl
  both true false e f = absurd cc
  both false y e f = absurd cc

  mask-has : mask_has (chunk * h.chunk) mask b ≡ true → (b / h.chunk ≡ chunk) × (bit_of blocks b ≡ true)
  mask-has has =
      let two = parts (nat_le (chunk * h.chunk) b) (nat_eq (bit_at mask (b - chunk * h.chunk)) 1) has in
      let from : chunk * h.chunk ≤ b = leb-true (chunk * h.chunk) b two.0 in
      let bit : get_or (bits_in set chunk) (b - chunk * h.chunk) false ≡ true = sym (chunked.bit_of (bits_in set chunk) (b - chunk * h.chunk)) ∙ two.1 in
      let inside : b - chunk * h.chunk < h.chunk = (let len = length-bits_in set chunk in let k = within (bits_in set chunk) (b - chunk * h.chunk) bit in omega arith) in
      let sum : chunk * h.chunk + (b - chunk * h.chunk) ≡ b = omega arith in (
        ap (λ (n : ℕ). n / h.chunk) (sym sum) ∙ div-mul-add chunk h.chunk (b - chunk * h.chunk) inside,
        ap (λ (n : ℕ). get_or blocks n false) (sym sum) ∙ sym (get_or-bits_in set chunk (b - chunk * h.chunk) inside) ∙ bit,
      )

  has-mask : b / h.chunk ≡ chunk → bit_of blocks b ≡ true → mask_has (chunk * h.chunk) mask b ≡ true
  has-mask at is =
      let whole = div-add-mod' b h.chunk in
      let some = (chunk_within h valid).0 in
      let rest = mod_below b h.chunk some in
      let row : b / h.chunk * h.chunk ≡ chunk * h.chunk = ap (λ (n : ℕ). n * h.chunk) at in
      let from : chunk * h.chunk ≤ b = omega arith in
      let inside : b - chunk * h.chunk < h.chunk = omega arith in
      let sum : chunk * h.chunk + (b - chunk * h.chunk) ≡ b = omega arith in
      let bit : get_or (bits_in set chunk) (b - chunk * h.chunk) false ≡ true = get_or-bits_in set chunk (b - chunk * h.chunk) inside ∙ ap (λ (n : ℕ). get_or blocks n false) sum ∙ is in
      both (nat_le (chunk * h.chunk) b) (nat_eq (bit_at mask (b - chunk * h.chunk)) 1) (le-leb (chunk * h.chunk) b from) (chunked.bit_of (bits_in set chunk) (b - chunk * h.chunk) ∙ bit)

-- the storage number gives the storage
number-given : (place : Option (Option ℕ)) (n p : ℕ) → n ≡ storage_number place → storage_in n ≡ Some p → storage_given place ≡ Some p
number-given (Some (Some q)) n p is says = (let e : storage_in (q + 1) ≡ Some p = subst (λ (x : ℕ). storage_in x ≡ Some p) is says in let same : storage_in (q + 1) ≡ Some q = from q in cc)
  where
    from : (q : ℕ) → storage_in (q + 1) ≡ Some q
    from q =
        let not : nat_eq (q + 1) 0 ≡ false = ne_eqb (q + 1) 0 (λ e. omega arith) in
        let back : q + 1 - 1 ≡ q = omega arith in
        ap (λ (x : Bool). if x then None else Some (q + 1 - 1)) not ∙ ap (λ (x : ℕ). Some x) back
number-given (Some None) n p is says = absurd (let e : storage_in 0 ≡ Some p = subst (λ (x : ℕ). storage_in x ≡ Some p) is says in cc)
number-given None n p is says = absurd (let e : storage_in 0 ≡ Some p = subst (λ (x : ℕ). storage_in x ≡ Some p) is says in cc)

-- the storage of an entry is that of the table
entry-given : (h : Header) (table : TableState) (blocks : List Bool) (chunk p : ℕ) → storage_in (map_entry h table blocks chunk).storage ≡ Some p → storage_of table chunk ≡ Some p
unfolding map_entry
entry-given h table blocks chunk p says = elim (cases_Bool (nat_eq (mask_of (bits_in (record { chunk = h.chunk; bits = blocks }) chunk)) 0)) [
  | inl none ↦ absurd (let e : storage_in 0 ≡ Some p = ap (λ (x : Bool). storage_in (cond {A = ℕ} x 0 (storage_number (slice_get table.chunks chunk)))) (sym none) ∙ says in cc)
  | inr some ↦ number-given (slice_get table.chunks chunk) (storage_number (slice_get table.chunks chunk)) p refl (ap (λ (x : Bool). storage_in (cond {A = ℕ} x 0 (storage_number (slice_get table.chunks chunk)))) (sym some) ∙ says)
]

-- the mask of an entry
entry-mask : (h : Header) (table : TableState) (blocks : List Bool) (chunk : ℕ) → (map_entry h table blocks chunk).mask ≡ mask_of (bits_in (record { chunk = h.chunk; bits = blocks }) chunk)
unfolding map_entry
entry-mask h table blocks chunk = refl

module _ (o : Opening) (m : Memory) (snapshot : Snapshot) (table : TableState) (k : KeeperState) (is : IsMemoryOf m snapshot table k) where
  -- what is wanted is what the keeper writes
  pub wanted-is : (b : ℕ) → bit_of (wanted_blocks k) b ≡ true → snapshot.wanted b ≡ true
  wanted-is b has = is.snapshot_is.wanted b ∙ sym (get_or-either k.stale k.snapshot b) ∙ has

  pub is-wanted : (b : ℕ) → snapshot.wanted b ≡ true → bit_of (wanted_blocks k) b ≡ true
  is-wanted b is_wanted = get_or-either k.stale k.snapshot b ∙ sym (is.snapshot_is.wanted b) ∙ is_wanted

  -- the mapping that a flush writes of a chunk is the wanted one
  pub wanted-mapping : (chunk : ℕ) → IsKeeping k → HasStorage table k → IsWantedMapping (with_header o k.header) m snapshot chunk (mapping_in k.header chunk (map_entry k.header table (wanted_blocks k) chunk))
  wanted-mapping chunk kept has =
      let grammar : IsMapping (layout_of k.header) chunk (mapping_in k.header chunk (map_entry k.header table (wanted_blocks k) chunk)) =
      (entry_is_mapping k.header chunk (map_entry k.header table (wanted_blocks k) chunk) kept.valid).0 (wanted-grammar table k chunk kept has) in
      let masks : (b : ℕ) → mask_has (chunk * k.header.chunk) (map_entry k.header table (wanted_blocks k) chunk).mask b ≡ mask_has (chunk * k.header.chunk) (mask_of (bits_in (record { chunk = k.header.chunk; bits = wanted_blocks k }) chunk)) b =
      λ b. ap (λ (n : ℕ). mask_has (chunk * k.header.chunk) n b) (entry-mask k.header table (wanted_blocks k) chunk) in
      let gives : (p : ℕ) → storage_in (map_entry k.header table (wanted_blocks k) chunk).storage ≡ Some p → m.index.table chunk ≡ Some p = λ p says. is.table_is chunk ∙ entry-given k.header table (wanted_blocks k) chunk p says in
      record {
        kind = grammar.kind refl ∙ sym (is.snapshot_is.zeros chunk);
        in_grammar = grammar.kind;
        blocks = λ b. (
          λ says. (let two = mask-has k.header kept.valid (wanted_blocks k) chunk b (sym (masks b) ∙ says) in (two.0, wanted-is b two.1)),
          λ two. masks b ∙ has-mask k.header kept.valid (wanted_blocks k) chunk b two.0 (is-wanted b two.1),
        );
        storage = λ p. (
          λ says. (gives p says, grammar.has_block p says),
          λ two. (let found = grammar.has_storage two.1.0 two.1.1 in let same = gives found.0 found.1 in let e : Some found.0 ≡ Some p = sym same ∙ two.0 in found.1 ∙ e),
        );
      }
