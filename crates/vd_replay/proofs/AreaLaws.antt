-- An area that is read in pieces.
use Rattle.std.proofs.Common.{ℕ, suc, ◌≡◌, ◌+◌, ◌-◌, ◌*◌, ◌<◌, ◌≤◌, ◌&&◌, Bool, true, List, [], ◌∷◌, ◌++◌, length, take, drop, refl, ap, sym, ◌∙◌, subst, arith, length-append, drop-cons}
use Rattle.std.specs.Prelude.{slice_index_or}
use Rattle.std.proofs.Math.Seq.{take-add}
use Rattle.std.proofs.Math.Bool.{and_assoc}
use Rattle.std.proofs.lemmas.List.{drop-drop, drop_all}
use Rattle.vd_law.specs.declared.entry.Sector.{Sector}
use Rattle.vd_format.specs.Numbers.{are_zeros}
use Rattle.vd_device.specs.Quiet.{sectors_from}
use Rattle.vd_replay.specs.Fresh.{are_empty}
use Rattle.vd_replay.specs.Looking.{IsEmptyPiece}

pub empty-append : (bytes : ℕ) (xs ys : List Sector) → are_empty bytes (xs ++ ys) ≡ (are_empty bytes xs && are_empty (bytes - 512 * length xs) ys)
unfolding are_empty
empty-append bytes [] ys = ap (λ (n : ℕ). are_empty n ys) (omega arith)
empty-append bytes (x ∷ xs) ys =
    ap (λ (b : Bool). are_zeros (take bytes x.bytes) && b) (empty-append (bytes - 512) xs ys ∙ ap (λ (n : ℕ). are_empty (bytes - 512) xs && are_empty n ys) (omega arith))
    ∙ sym (and_assoc (are_zeros (take bytes x.bytes)) (are_empty (bytes - 512) xs) (are_empty (bytes - 512 * length (x ∷ xs)) ys))

pub split_sectors : (held : List Sector) (from done some : ℕ) → sectors_from held from (done + some) ≡ sectors_from held from done ++ sectors_from held (from + done) some
split_sectors held from done some =
    take-add done some (drop from held) ∙ ap (λ (l : List Sector). take done (drop from held) ++ take some l) (drop-drop done from held ∙ ap (λ (n : ℕ). drop n held) (omega arith))

-- one more piece behind those that were read
pub one_more : (held : List Sector) (from bytes done some : ℕ) (empty piece : Bool) → IsEmptyPiece held from done bytes empty → IsEmptyPiece held (from + done) some (bytes - 512 * done) piece
    → IsEmptyPiece held from (done + some) bytes (empty && piece)
one_more held from bytes done some empty piece a b =
    let split = split_sectors held from done some in
    record {
      size = ap length split ∙ length-append (sectors_from held from done) (sectors_from held (from + done) some) ∙ (let p = a.size in let q = b.size in omega arith);
      empty_is =
          ap (λ (e : Bool). e && piece) a.empty_is ∙ ap (λ (e : Bool). are_empty bytes (sectors_from held from done) && e) (b.empty_is ∙ ap (λ (n : ℕ). are_empty (bytes - 512 * n) (sectors_from held (from + done) some)) (sym a.size))
          ∙ sym (ap (are_empty bytes) split ∙ empty-append bytes (sectors_from held from done) (sectors_from held (from + done) some));
    }

-- the sectors from the i-th on, one at a time
pub empty-next : (left : ℕ) (s : List Sector) (i : ℕ) (d : Sector) → i < length s → are_empty left (drop i s) ≡ (are_zeros (take left (slice_index_or s i d).bytes) && are_empty (left - 512) (drop (i + 1) s))
unfolding are_empty
empty-next left s i d h =
    let e : suc i ≡ i + 1 = omega arith in
    ap (are_empty left) (drop-cons s i d h) ∙ ap (λ (n : ℕ). are_zeros (take left (slice_index_or s i d).bytes) && are_empty (left - 512) (drop n s)) e

pub empty-all : (left : ℕ) (s : List Sector) (i : ℕ) → length s ≤ i → are_empty left (drop i s) ≡ true
unfolding are_empty
empty-all left s i h = ap (are_empty left) (drop_all i s h)

pub nothing_read : (held : List Sector) (from bytes : ℕ) → IsEmptyPiece held from 0 bytes true
unfolding are_empty
nothing_read held from bytes = record { size = refl; empty_is = refl }

pub piece_held : (held held' : List Sector) (first count bytes : ℕ) (empty : Bool) → held' ≡ held → IsEmptyPiece held first count bytes empty → IsEmptyPiece held' first count bytes empty
piece_held held held' first count bytes empty same piece = subst (λ (h : List Sector). IsEmptyPiece h first count bytes empty) (sym same) piece

-- the same, where the piece was read into so many sectors and what is held has stayed
pub more_read : (held held' : List Sector) (from bytes done some k : ℕ) (empty piece : Bool) → k ≡ some → held' ≡ held → IsEmptyPiece held from done bytes empty → IsEmptyPiece held' (from + done) k (bytes - 512 * done) piece
    → IsEmptyPiece held' from (done + some) bytes (empty && piece)
more_read held held' from bytes done some k empty piece size same before last =
    one_more held' from bytes done some empty piece (piece_held held held' from done bytes empty same before) (subst (λ (n : ℕ). IsEmptyPiece held' (from + done) n (bytes - 512 * done) piece) size last)
