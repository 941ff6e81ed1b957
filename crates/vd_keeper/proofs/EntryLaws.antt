-- The entries of a flush, and collecting the facts of a record.
use Rattle.std.proofs.Common.{◌≡◌, ℕ, zero, suc, ◌+◌, ◌-◌, ◌<◌, ◌≤◌, nat_eq, false, cond, List, [], ◌∷◌, ◌++◌, length, map, take, drop, Option, sym, refl, ap, ◌∙◌, arith, bit_or, length-append}
use Rattle.std.specs.List.{slice_get}
use Rattle.std.proofs.lemmas.Bool.{cond-false, ne_eqb}
use Rattle.std.proofs.lemmas.List.{append_assoc, append-nil, take_all, drop_all}
use Rattle.vd_bits.specs.Blocks.{Blocks, bits_in}
use Rattle.vd_bits.specs.Masks.{mask_of}
use Rattle.vd_format.specs.declared.header.Header.{Header}
use Rattle.vd_format.specs.declared.journal.Fact2.{Fact2}
use Rattle.vd_table.specs.Tables.{TableState}
use Rattle.vd_keeper.specs.Entries.{union_of, map_entry, storage_number}
use Rattle.vd_keeper.specs.Putting.{HasFittingSizes}
use Rattle.vd_keeper.specs.Sets.{IsNextChunk, chunks_from}
use Rattle.vd_keeper.proofs.Joining.{bits_in-either, mask-either}

-- the mask of a chunk
module _ (h : Header) (stale snapshot : Blocks) (table : TableState) (source : HasFittingSizes h stale snapshot table) (chunk : ℕ) where
  pub source-mask : bit_or (mask_of (bits_in stale chunk)) (mask_of (bits_in snapshot chunk)) ≡ mask_of (bits_in (record { chunk = h.chunk; bits = union_of stale.bits snapshot.bits }) chunk)
  source-mask =
      sym (mask-either (bits_in stale chunk) (bits_in snapshot chunk))
      ∙ ap mask_of (sym (bits_in-either stale snapshot (source.snapshot_chunk ∙ sym source.stale_chunk) (source.snapshot_size ∙ sym source.stale_size) chunk))
      ∙ ap (λ (c : ℕ). mask_of (bits_in (record { chunk = c; bits = union_of stale.bits snapshot.bits }) chunk)) source.stale_chunk

  -- the entry by what was read
  pub entry-is : (m : ℕ) (place : Option (Option ℕ)) → m ≡ bit_or (mask_of (bits_in stale chunk)) (mask_of (bits_in snapshot chunk)) → slice_get table.chunks chunk ≡ place
      → record { storage = cond {A = ℕ} (nat_eq m 0) 0 (storage_number place); zeros = false; mask = m } ≡ map_entry h table (union_of stale.bits snapshot.bits) chunk
  unfolding map_entry
  entry-is m place is at =
      ap (λ (o : Option (Option ℕ)). record { storage = cond {A = ℕ} (nat_eq m 0) 0 (storage_number o); zeros = false; mask = m }) (sym at)
      ∙ ap (λ (n : ℕ). record { storage = cond {A = ℕ} (nat_eq n 0) 0 (storage_number (slice_get table.chunks chunk)); zeros = false; mask = n }) (is ∙ source-mask)

  pub entry-none : (m : ℕ) → m ≡ bit_or (mask_of (bits_in stale chunk)) (mask_of (bits_in snapshot chunk)) → m ≡ 0 → record { storage = 0; zeros = false; mask = 0 } ≡ map_entry h table (union_of stale.bits snapshot.bits) chunk
  entry-none m is none = entry-is 0 (slice_get table.chunks chunk) (sym none ∙ is) refl

  pub entry-some : (m storage : ℕ) (place : Option (Option ℕ)) → m ≡ bit_or (mask_of (bits_in stale chunk)) (mask_of (bits_in snapshot chunk)) → (m ≡ 0 → ⊥) → slice_get table.chunks chunk ≡ place → storage ≡ storage_number place
      → record { storage = storage; zeros = false; mask = m } ≡ map_entry h table (union_of stale.bits snapshot.bits) chunk
  entry-some m storage place is some at e =
      ap (λ (n : ℕ). record { storage = n; zeros = false; mask = m }) (e ∙ sym (cond-false (nat_eq m 0) 0 (storage_number place) (ne_eqb m 0 some)))
      ∙ entry-is m place is at

-- ---- collecting

-- some facts, and the chunks from `at` on give the rest
pub record IsCollecting (fact : ℕ → Fact2) (b : Blocks) (from : ℕ) (facts : List Fact2) (at : ℕ) : Type 0 where
  pub most : length facts ≤ 24
  pub facts_are : facts ++ map fact (take (24 - length facts) (chunks_from b at)) ≡ map fact (take 24 (chunks_from b from))
  pub rest : drop (24 - length facts) (chunks_from b at) ≡ drop 24 (chunks_from b from)

module _ (fact : ℕ → Fact2) (b : Blocks) (from : ℕ) (facts : List Fact2) (at : ℕ) (k : IsCollecting fact b from facts at) where
  -- one more
  pub collected-one : (chunk : ℕ) → IsNextChunk b at chunk → length facts < 24 → IsCollecting fact b from (facts ++ fact chunk ∷ []) (chunk + 1)
  collected-one chunk next less =
      let n : 24 - length facts ≡ suc (24 - length (facts ++ fact chunk ∷ [])) = omega (arith, length-append facts (fact chunk ∷ [])) in
      record {
        most = omega (arith, length-append facts (fact chunk ∷ []));
        facts_are =
            append_assoc facts (fact chunk ∷ []) (map fact (take (24 - length (facts ++ fact chunk ∷ [])) (chunks_from b (chunk + 1))))
            ∙ ap (λ (cs : List ℕ). facts ++ map fact cs) (ap (λ (m : ℕ). take m (chunk ∷ chunks_from b (chunk + 1))) (sym n) ∙ ap (λ (cs : List ℕ). take (24 - length facts) cs) (sym next.rest))
            ∙ k.facts_are;
        rest =
            ap (λ (m : ℕ). drop m (chunk ∷ chunks_from b (chunk + 1))) (sym n)
            ∙ ap (λ (cs : List ℕ). drop (24 - length facts) cs) (sym next.rest)
            ∙ k.rest;
      }

  -- the record is full
  pub collected-full : 24 ≤ length facts → (facts ≡ map fact (take 24 (chunks_from b from))) × (chunks_from b at ≡ drop 24 (chunks_from b from))
  collected-full full =
      let n : 24 - length facts ≡ 0 = omega (arith, k.most) in (
        sym (append-nil facts) ∙ ap (λ (m : ℕ). facts ++ map fact (take m (chunks_from b at))) (sym n) ∙ k.facts_are,
        ap (λ (m : ℕ). drop m (chunks_from b at)) (sym n) ∙ k.rest,
      )

  -- no chunk is left
  pub collected-last : chunks_from b at ≡ [] → (facts ≡ map fact (take 24 (chunks_from b from))) × (chunks_from b at ≡ drop 24 (chunks_from b from))
  collected-last none =
      let taken : take (24 - length facts) (chunks_from b at) ≡ [] = ap (λ (cs : List ℕ). take (24 - length facts) cs) none ∙ take_all (24 - length facts) [] (omega arith) in
      let dropped : drop (24 - length facts) (chunks_from b at) ≡ [] = ap (λ (cs : List ℕ). drop (24 - length facts) cs) none ∙ drop_all (24 - length facts) [] (omega arith) in (
        sym (append-nil facts) ∙ ap (λ (cs : List ℕ). facts ++ map fact cs) (sym taken) ∙ k.facts_are,
        none ∙ sym dropped ∙ k.rest,
      )
