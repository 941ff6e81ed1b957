-- Each chunk that a flush writes has storage.
use Rattle.std.proofs.Common.{◌≡◌, inl, inr, ℕ, ◌+◌, ◌*◌, ◌/◌, ◌<◌, Bool, true, List, length, sym, refl, ap, ◌∙◌, arith, subst, Option, Some, slice_get}
use Rattle.std.proofs.lemmas.List.Folds.{Any-from_list_any}
use Rattle.std.proofs.lemmas.Nat.{div-mul-add}
use Rattle.std.proofs.lemmas.Option.{slice_get_read}
use Rattle.vd_bits.specs.Blocks.{Blocks, bits_in}
use Rattle.vd_format.specs.declared.header.Header.{Header}
use Rattle.vd_table.specs.Tables.{TableState, Has}
use Rattle.vd_keeper.specs.Keeping.{KeeperState}
use Rattle.vd_keeper.specs.Entries.{HasStorage, has_block, wanted_blocks}
use Rattle.vd_keeper.proofs.Chunked.{length-bits_in, get_or-bits_in}
use Rattle.vd_keeper.proofs.Owed.{there, is-true, either-cases}
use Rattle.vd_passes.specs.declared.shape.Shape.{Shape}
use Rattle.vd_passes.specs.declared.pass.Pass.{Pass}
use Rattle.vd_machine.specs.Attending.{KeeperAgrees}

-- a chunk with a block has it at some place
block-of : (h : Header) (blocks : List Bool) (chunk : ℕ) → has_block h blocks chunk ≡ true → (b : ℕ) × (b / h.chunk ≡ chunk) × (slice_get blocks b ≡ Some true)
block-of h blocks chunk has =
    let all : Blocks = record { chunk = h.chunk; bits = blocks } in
    let found = Any-from_list_any (λ (b : Bool). b) (bits_in all chunk) has in
    let j = found.0 in
    let less : j < h.chunk = omega (arith, found.2, length-bits_in all chunk) in
    let is : slice_get (bits_in all chunk) j ≡ Some true = slice_get_read (bits_in all chunk) (length (bits_in all chunk)) j found.1 refl found.2 (sym found.3) ∙ ap (λ (b : Bool). Some b) found.4 in
    (chunk * h.chunk + j, div-mul-add chunk h.chunk j less, there blocks (chunk * h.chunk + j) (sym (get_or-bits_in all chunk j less) ∙ is-true (bits_in all chunk) j is))

-- what a flush logs is local
pub wanted-fresh : {shape : Shape} {table : TableState} {fresh : List Bool} {passes : List Pass} {flusher : Option ℕ} {k : KeeperState} → KeeperAgrees shape table fresh passes flusher k → (b : ℕ) → slice_get (wanted_blocks k) b ≡ Some true → slice_get fresh b ≡ Some true
wanted-fresh {k = k} a b is = elim (either-cases k.stale k.snapshot b is) [ inl stale ↦ a.stale_fresh b stale | inr logged ↦ a.owed_fresh b (a.keeping.part b logged) ]

pub attended-storage : {shape : Shape} {table : TableState} {fresh : List Bool} {passes : List Pass} {flusher : Option ℕ} {k : KeeperState} → KeeperAgrees shape table fresh passes flusher k
    → ((b : ℕ) → slice_get fresh b ≡ Some true → (p : ℕ) × Has table (b / shape.chunk) p × (p < table.storage)) → HasStorage table k
attended-storage {shape} {table} {k = k} a places = record {
  size = a.chunks;
  storage = a.storage;
  each = λ chunk has.
      let at = block-of k.header (wanted_blocks k) chunk has in
      let place = places at.0 (wanted-fresh a at.0 at.2) in
      let same : at.0 / shape.chunk ≡ chunk = ap (λ (c : ℕ). at.0 / c) a.chunk ∙ at.1 in
      (place.0, subst (λ (n : ℕ). place.0 < n) a.storage place.2, subst (λ (c : ℕ). Has table c place.0) same place.1);
}
