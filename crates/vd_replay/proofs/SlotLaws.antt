-- Slots that are read in pieces.
use Rattle.std.proofs.Common.{ℕ, ◌≡◌, ◌+◌, ◌&&◌, Bool, true, List, [], ◌∷◌, ◌++◌, length, refl, ap, sym, ◌∙◌, subst, arith, length-append}
use Rattle.std.specs.Prelude.{not}
use Rattle.std.proofs.Math.Bool.{and_assoc}
use Rattle.vd_law.specs.declared.entry.Sector.{Sector}
use Rattle.vd_device.specs.Quiet.{sectors_from}
use Rattle.vd_replay.specs.Fresh.{counts, none_counts}
use Rattle.vd_replay.specs.Looking.{IsFreePiece}
use Rattle.vd_replay.proofs.AreaLaws.{split_sectors}

free-append : (version generation : ℕ) (xs ys : List Sector) → none_counts version generation (xs ++ ys) ≡ (none_counts version generation xs && none_counts version generation ys)
free-append version generation [] ys = refl
free-append version generation (x ∷ xs) ys =
    ap (λ (b : Bool). not (counts version generation x) && b) (free-append version generation xs ys)
    ∙ sym (and_assoc (not (counts version generation x)) (none_counts version generation xs) (none_counts version generation ys))

pub none_read : (held : List Sector) (from version generation : ℕ) → IsFreePiece held from 0 version generation true
none_read held from version generation = record { size = refl; free_is = refl }

-- one more piece behind those that were read
pub more_free : (held held' : List Sector) (from version generation done some k : ℕ) (free piece : Bool) → k ≡ some → held' ≡ held → IsFreePiece held from done version generation free → IsFreePiece held' (from + done) k version generation piece
    → IsFreePiece held' from (done + some) version generation (free && piece)
more_free held held' from version generation done some k free piece size same before last =
    let a = subst (λ (h : List Sector). IsFreePiece h from done version generation free) (sym same) before in
    let b = subst (λ (n : ℕ). IsFreePiece held' (from + done) n version generation piece) size last in
    let split = split_sectors held' from done some in
    record {
      size = ap length split ∙ length-append (sectors_from held' from done) (sectors_from held' (from + done) some) ∙ (let p = a.size in let q = b.size in omega arith);
      free_is =
          ap (λ (e : Bool). e && piece) a.free_is ∙ ap (λ (e : Bool). none_counts version generation (sectors_from held' from done) && e) b.free_is
          ∙ sym (ap (none_counts version generation) split ∙ free-append version generation (sectors_from held' from done) (sectors_from held' (from + done) some));
    }
