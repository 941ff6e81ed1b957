-- The marks of the map's sectors.
use Rattle.std.proofs.Common.{◌≡◌, ◌⊎◌, ⊎_elim, ℕ, ◌+◌, ◌-◌, ◌*◌, ◌/◌, ◌<◌, ◌≤◌, nat_eq, Bool, true, false, List, [], ◌∷◌, length, get_or, set, sym, refl, ap, ◌∙◌, arith, length-set, get_or-set_same, get_or-set_other}
use Rattle.std.specs.Prelude.{◌||◌}
use Rattle.std.specs.List.{list_any}
use Rattle.std.proofs.lemmas.Bool.{cases_eq, eq-eqb, ne_eqb}
use Rattle.std.proofs.lemmas.List.FromFn.{length-map-range_with_len, get_or-map-range_with_len}
use Rattle.std.proofs.Math.Bool.{or-true}
use Rattle.vd_bits.specs.Blocks.{Blocks}
use Rattle.vd_keeper.specs.Entries.{union_of}
use Rattle.vd_keeper.specs.Moves.{pages_with}
use Rattle.vd_keeper.specs.Sets.{IsNextChunk, chunk_count, chunks_from}
use Rattle.vd_keeper.proofs.Rows.{get_or-either, length-either, same_rows, either-nothing, is-nothing}

-- the chunks before `at` are marked
pub record IsMarking (set : Blocks) (marked0 marked : List Bool) (at : ℕ) : Type 0 where
  pub size : length marked ≡ length marked0
  pub both : union_of marked (pages_with (length marked0) (chunks_from set at)) ≡ union_of marked0 (pages_with (length marked0) (chunks_from set 0))

pub length-pages_with : (n : ℕ) (chunks : List ℕ) → length (pages_with n chunks) ≡ n
length-pages_with n chunks = length-map-range_with_len (λ page. list_any (λ c. nat_eq (c / 32) page) chunks) 0 n

pub get_or-pages_with : (n : ℕ) (chunks : List ℕ) (page : ℕ) → page < n → get_or (pages_with n chunks) page false ≡ list_any (λ c. nat_eq (c / 32) page) chunks
get_or-pages_with n chunks page h = get_or-map-range_with_len (λ page. list_any (λ c. nat_eq (c / 32) page) chunks) 0 n page page false h (omega arith)

pub no-pages : (marked : List Bool) → union_of marked (pages_with (length marked) []) ≡ marked
no-pages marked =
    ap (λ (xs : List Bool). union_of marked xs) (is-nothing (pages_with (length marked) []) (length marked) (length-pages_with (length marked) []) (λ i h. get_or-pages_with (length marked) [] i h))
    ∙ either-nothing marked (length marked) refl

-- one chunk more
pub marked-one : (marked : List Bool) (n c : ℕ) (cs : List ℕ) → length marked ≡ n → c / 32 < n → union_of (set marked (c / 32) true) (pages_with n cs) ≡ union_of marked (pages_with n (c ∷ cs))
marked-one marked n c cs size inside =
    let q : ℕ = c / 32 in
    let sizes : length (set marked (c / 32) true) ≡ length (pages_with n cs) = omega (arith, length-set marked (c / 32) true, length-pages_with n cs) in
    let sizes' : length marked ≡ length (pages_with n (c ∷ cs)) = omega (arith, length-pages_with n (c ∷ cs)) in
    same_rows (union_of (set marked (c / 32) true) (pages_with n cs)) (union_of marked (pages_with n (c ∷ cs)))
    (length-either (set marked (c / 32) true) (pages_with n cs) sizes ∙ length-set marked (c / 32) true ∙ sym (length-either marked (pages_with n (c ∷ cs)) sizes'))
    (λ p h.
    let here : p < n = omega (arith, length-either (set marked (c / 32) true) (pages_with n cs) sizes, length-set marked (c / 32) true) in
    get_or-either (set marked (c / 32) true) (pages_with n cs) p
    ∙ ap (λ (x : Bool). get_or (set marked (c / 32) true) p false || x) (get_or-pages_with n cs p here)
    ∙ ⊎_elim
    (λ (e : p ≡ c / 32).
    ap (λ (x : Bool). x || list_any (λ c. nat_eq (c / 32) p) cs) (ap (λ (i : ℕ). get_or (set marked (c / 32) true) i false) e ∙ get_or-set_same marked (c / 32) true false (omega arith))
    ∙ sym (or-true (get_or marked p false))
    ∙ ap (λ (x : Bool). get_or marked p false || (x || list_any (λ c. nat_eq (c / 32) p) cs)) (sym (eq-eqb (c / 32) p (sym e))))
    (λ (ne : p ≡ c / 32 → ⊥).
    ap (λ (x : Bool). x || list_any (λ c. nat_eq (c / 32) p) cs) (get_or-set_other marked (c / 32) p true false ne)
    ∙ ap (λ (x : Bool). get_or marked p false || (x || list_any (λ c. nat_eq (c / 32) p) cs)) (sym (ne_eqb (c / 32) p (λ e. ne (sym e)))))
    (cases_eq p (c / 32))
    ∙ ap (λ (x : Bool). get_or marked p false || x) (sym (get_or-pages_with n (c ∷ cs) p here))
    ∙ sym (get_or-either marked (pages_with n (c ∷ cs)) p))

module _ (set0 : Blocks) (marked0 marked : List Bool) (at chunk : ℕ) (k : IsMarking set0 marked0 marked at) (next : IsNextChunk set0 at chunk) (enough : chunk_count set0 ≤ 32 * length marked0) where
  pub page-inside : chunk / 32 < length marked
  page-inside = omega (arith, k.size, next.below)

  pub marking-one : IsMarking set0 marked0 (set marked (chunk / 32) true) (chunk + 1)
  marking-one = record {
    size = length-set marked (chunk / 32) true ∙ k.size;
    both =
        marked-one marked (length marked0) chunk (chunks_from set0 (chunk + 1)) k.size (omega (arith, page-inside, k.size))
        ∙ ap (λ (cs : List ℕ). union_of marked (pages_with (length marked0) cs)) (sym next.rest)
        ∙ k.both;
  }

pub marking-all : (set0 : Blocks) (marked0 marked : List Bool) (at : ℕ) → IsMarking set0 marked0 marked at → chunks_from set0 at ≡ [] → marked ≡ union_of marked0 (pages_with (length marked0) (chunks_from set0 0))
marking-all set0 marked0 marked at k none =
    sym (no-pages marked) ∙ ap (λ (n : ℕ). union_of marked (pages_with n [])) k.size ∙ ap (λ (cs : List ℕ). union_of marked (pages_with (length marked0) cs)) (sym none) ∙ k.both
