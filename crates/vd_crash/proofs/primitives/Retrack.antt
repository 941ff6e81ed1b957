-- The next header's background: with the same tracked part, and with a lower one.
use Rattle.std.proofs.Common.{List, suc, ℕ, ◌≡◌, ◌+◌, ◌<◌, ◌≤◌, ◌⊎◌, inl, inr, Bool, true, false, cond, arith, ap, sym, ◌∙◌, Ok}
use Rattle.std.proofs.lemmas.Bool.{cases_lt}
use Rattle.std.proofs.lemmas.Bool.Decides.{leb_tells}
use Rattle.vd_image.specs.Log.{Sector, Entry}
use Rattle.vd_image.specs.Image.{Header, geometry_of}
use Rattle.vd_crash.specs.facts.Safe.{NumberedEntry, Opening}
use Rattle.vd_crash.specs.facts.Facts.{Holds}
use Rattle.vd_crash.specs.flushes.Flushing.{IsOffAfter}
use Rattle.vd_crash.specs.flushes.Stage.{FlushProgress}
use Rattle.vd_crash.specs.primitives.Primitives.{IsNextHeader}
use Rattle.vd_crash.specs.facts.Memory.{Memory}
use Rattle.vd_format.specs.Background.{background}

below : (base : ℕ → Sector) (zeros : Sector) (tracked s : ℕ) → s < tracked → background base zeros tracked s ≡ base s
below base zeros tracked s less = elim (leb_tells (suc s) tracked) [
  | inl t ↦ ap (λ (b : Bool). cond b (base s) zeros) t.0
  | inr t ↦ absurd (let k = t.1 in omega arith)
]

above : (base : ℕ → Sector) (zeros : Sector) (tracked s : ℕ) → tracked ≤ s → background base zeros tracked s ≡ zeros
above base zeros tracked s more = elim (leb_tells (suc s) tracked) [
  | inl t ↦ absurd (let k = t.1 in omega arith)
  | inr t ↦ ap (λ (b : Bool). cond b (base s) zeros) t.0
]

-- a recycle that leaves the tracked part
pub same_tracked : (o : Opening) (log : List Entry) (history : List NumberedEntry) (m : Memory) (p : FlushProgress) (v : Sector) (next : Header) → Holds o log history m
    → o.format.header_of v ≡ Ok next → geometry_of next ≡ o.layout.geometry → next.generation ≡ m.index.generation + 1 → next.tracked ≡ m.index.tracked
    → ((b : ℕ) → m.index.tried b ≡ true → IsOffAfter o m p.snapshot b) → ((c : ℕ) → c < o.layout.chunks → p.paged c ≡ true) → IsNextHeader o m p v next m.index.tried
same_tracked o log history m p v next h reads geometry generation tracked wanted paged = record {
  reads = reads;
  geometry = geometry;
  generation = generation;
  wider = λ b t. t;
  wanted = wanted;
  paged = paged;
  background = λ s within not_off. inl (ap (λ (t : ℕ). background o.base o.zeros t s) tracked ∙ h.blocks.background_same s within not_off);
}

-- A recycle that lowers it over sectors that are zero in the base or whose block is wanted: what is tried is the snapshot and
-- what was tried before.
pub lower_tracked : (o : Opening) (log : List Entry) (history : List NumberedEntry) (m : Memory) (p : FlushProgress) (v : Sector) (next : Header) (tried : ℕ → Bool) → Holds o log history m
    → o.format.header_of v ≡ Ok next → geometry_of next ≡ o.layout.geometry → next.generation ≡ m.index.generation + 1 → next.tracked ≤ m.index.tracked
    → ((s : ℕ) → s < o.layout.size → next.tracked ≤ s → s < m.index.tracked → (o.base s ≡ o.zeros) ⊎ IsOffAfter o m p.snapshot (o.layout.block_of s))
    → ((b : ℕ) → m.index.tried b ≡ true → tried b ≡ true) → ((b : ℕ) → (p.snapshot.blocks b ≡ true) ⊎ (p.snapshot.lost (o.layout.chunk_of b) ≡ true) → tried b ≡ true) → ((b : ℕ) → tried b ≡ true → IsOffAfter o m p.snapshot b)
    → ((c : ℕ) → c < o.layout.chunks → p.paged c ≡ true) → IsNextHeader o m p v next tried
lower_tracked o log history m p v next tried h reads geometry generation lower zero wider all wanted paged = record {
  reads = reads;
  geometry = geometry;
  generation = generation;
  wider = wider;
  wanted = wanted;
  paged = paged;
  background = λ s within not_off. at s within not_off (h.blocks.background_same s within not_off);
}
  where
    from : (s : ℕ) → m.index.off_base (o.layout.block_of s) ≡ false → background o.base o.zeros m.index.tracked s ≡ o.disk s → next.tracked ≤ s → s < m.index.tracked → (o.base s ≡ o.zeros) ⊎ IsOffAfter o m p.snapshot (o.layout.block_of s)
        → (background o.base o.zeros next.tracked s ≡ o.disk s) ⊎ (tried (o.layout.block_of s) ≡ true)
    from s not_off kept more less (inl zeros) = inl (above o.base o.zeros next.tracked s more ∙ sym zeros ∙ sym (below o.base o.zeros m.index.tracked s less) ∙ kept)
    from s not_off kept more less (inr (inl off)) = absurd cc
    from s not_off kept more less (inr (inr new)) = inr (all (o.layout.block_of s) new)

    at : (s : ℕ) → s < o.layout.size → m.index.off_base (o.layout.block_of s) ≡ false → background o.base o.zeros m.index.tracked s ≡ o.disk s → (background o.base o.zeros next.tracked s ≡ o.disk s) ⊎ (tried (o.layout.block_of s) ≡ true)
    at s within not_off kept = elim (cases_lt s next.tracked) [
      | inl less ↦ inl (below o.base o.zeros next.tracked s less ∙ sym (below o.base o.zeros m.index.tracked s (omega arith)) ∙ kept)
      | inr more ↦ elim (cases_lt s m.index.tracked) [
        | inl less ↦ from s not_off kept more less (zero s within more less)
        | inr far ↦ inl (above o.base o.zeros next.tracked s more ∙ sym (above o.base o.zeros m.index.tracked s far) ∙ kept)
      ]
    ]
