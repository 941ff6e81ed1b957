-- What is written field after field, and item after item, is the spelling of the whole.
use Rattle.std.proofs.Common.{◌≡◌, ℕ, ◌+◌, ◌*◌, ◌<◌, ◌≤◌, List, [], ◌∷◌, ◌++◌, length, take, Some, sym, ap, ◌∙◌, arith, replicate}
use Rattle.std.specs.Prelude.{slice_get}
use Rattle.std.specs.List.{flat_map}
use Rattle.std.proofs.lemmas.List.{length-append, length-take-le, take_more, flat_map_more}
use Rattle.std.proofs.lemmas.List.Concat.{flat_map-cons}
use Rattle.std.proofs.lemmas.Option.{slice_get_within, get_or_from_slice_get}
use Rattle.vd_format.specs.declared.map.Entry.{Entry}
use Rattle.vd_format.specs.declared.journal.Fact2.{Fact2}
use Rattle.vd_format.specs.Numbers.{u32_bytes, u64_bytes, put_at}
use Rattle.vd_format.specs.Entries.{kind_of, entry_bytes}
use Rattle.vd_format.specs.Records.{fact_bytes}
use Rattle.vd_format.proofs.Bytes.{put_at-then, IsWritten, written-part}

pub entry_put : (bytes b1 b2 b3 : List ℕ) (at : ℕ) (e : Entry) → at + 16 ≤ length bytes → b1 ≡ put_at bytes at (u32_bytes e.storage) → b2 ≡ put_at b1 (at + 4) (u32_bytes (kind_of e)) → b3 ≡ put_at b2 (at + 8) (u64_bytes e.mask) → b3 ≡ put_at bytes at (entry_bytes e)
unfolding entry_bytes
entry_put bytes b1 b2 b3 at e inside e1 e2 e3 =
    let first : b2 ≡ put_at bytes at (u32_bytes e.storage ++ u32_bytes (kind_of e)) =
    e2 ∙ ap (λ (b : List ℕ). put_at b (at + 4) (u32_bytes (kind_of e))) e1 ∙ put_at-then bytes (u32_bytes e.storage) (u32_bytes (kind_of e)) at (omega arith) in
    e3 ∙ ap (λ (b : List ℕ). put_at b (at + 8) (u64_bytes e.mask)) first ∙ put_at-then bytes (u32_bytes e.storage ++ u32_bytes (kind_of e)) (u64_bytes e.mask) at (omega arith)

pub fact_put : (bytes b1 b2 : List ℕ) (at : ℕ) (f : Fact2) → at + 20 ≤ length bytes → b1 ≡ put_at bytes at (u32_bytes f.chunk) → b2 ≡ put_at b1 (at + 4) (entry_bytes f.entry) → b2 ≡ put_at bytes at (fact_bytes f)
unfolding fact_bytes
fact_put bytes b1 b2 at f inside e1 e2 = e2 ∙ ap (λ (b : List ℕ). put_at b (at + 4) (entry_bytes f.entry)) e1 ∙ put_at-then bytes (u32_bytes f.chunk) (entry_bytes f.entry) at (omega arith)

-- ---- one item more

length-items : {X : Type 0} (spell : X → List ℕ) (size : ℕ) → ((x : X) → length (spell x) ≡ size) → (xs : List X) → length (flat_map spell xs) ≡ size * length xs
length-items spell size each [] = omega arith
length-items spell size each (x ∷ xs) =
    let later = length-items spell size each xs in
    let both = length-append (spell x) (flat_map spell xs) in
    let here = each x in
    ap length (flat_map-cons spell x xs) ∙ omega (arith, later, both, here)

pub written-item : {X : Type 0} (spell : X → List ℕ) (size : ℕ) → ((x : X) → length (spell x) ≡ size) → (head : List ℕ) (start : ℕ) → length head ≡ start → (xs : List X) (i : ℕ) (x : X) (old new : List ℕ) (left n : ℕ)
    → slice_get xs i ≡ Some x → IsWritten old (head ++ flat_map spell (take i xs)) left → new ≡ put_at old (start + size * i) (spell x) → left ≡ size + n → IsWritten new (head ++ flat_map spell (take (i + 1) xs)) n
written-item {X} spell size each head start len xs i x old new left n at before put all =
    let inside : i < length xs = slice_get_within xs i x at in
    let items : length (flat_map spell (take i xs)) ≡ size * i = length-items spell size each (take i xs) ∙ ap (λ (k : ℕ). size * k) (length-take-le i xs (omega arith)) in
    let front : length (head ++ flat_map spell (take i xs)) ≡ start + size * i = omega (arith, length-append head (flat_map spell (take i xs)), len, items) in
    let here = each x in
    let one = written-part new (spell x) (start + size * i) n before put front (omega (arith, all, here)) in
    let more : take (i + 1) xs ≡ take i xs ++ x ∷ [] = take_more xs i x inside ∙ ap (λ (y : X). take i xs ++ y ∷ []) (get_or_from_slice_get xs i x x at) in
    record { are = one.are ∙ ap (λ (bytes : List ℕ). bytes ++ replicate n 0) (flat_map_more spell head (take i xs) x ∙ ap (λ (ys : List X). head ++ flat_map spell ys) (sym more)) }
