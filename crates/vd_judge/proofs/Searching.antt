-- A search for a content among those of a sector.
use Rattle.std.proofs.Common.{◌≡◌, ℕ, ◌+◌, ◌≤◌, inl, inr, Bool, true, false, List, [], ◌∷◌, ◌++◌, Option, Some, length, drop, refl, ap, sym, ◌∙◌, subst, arith, length-append}
use Rattle.std.specs.Prelude.{IsTrue, ◌↔◌, slice_get}
use Rattle.std.specs.Option.{option_to_list}
use Rattle.std.specs.List.{Contains}
use Rattle.std.proofs.lemmas.List.{append_assoc, drop-append-le}
use Rattle.std.proofs.lemmas.List.Elements.{Contains-push, Contains-push_cases}
use Rattle.vd_law.specs.declared.entry.Sector.{Sector}
use Rattle.vd_law.specs.declared.entry.CallId.{CallId}
use Rattle.vd_judge.specs.declared.contents.Search.{Search}
use Rattle.vd_law.specs.Entries.{Issue, Past, ◌▸◌}
use Rattle.vd_law.specs.Contents.{sector_in, issued_contents, versions}
use Rattle.vd_judge.specs.ContentStates.{IsSearch}

-- v wasn't there, and w comes
pub found-push : (found here : Bool) (xs : List Sector) (w v : Sector) → (IsTrue found ↔ Contains xs v) → (IsTrue here ↔ (w ≡ v)) → found ≡ false → (IsTrue here ↔ Contains (xs ++ w ∷ []) v)
found-push found here xs w v before now none = (
  λ yes. subst (Contains (xs ++ w ∷ [])) (now.0 yes) (Contains-push xs w),
  λ there. elim (Contains-push_cases xs w v there) [ inl earlier ↦ (let told : found ≡ true = before.1 earlier in cc) | inr same ↦ now.1 same ],
)

versions-more : (front back : List Sector) (firm : ℕ) (w : Sector) → firm ≤ length front + length back → drop firm (front ++ (back ++ w ∷ [])) ≡ drop firm (front ++ back) ++ w ∷ []
versions-more front back firm w within =
    ap (drop firm) (sym (append_assoc front back (w ∷ [])))
    ∙ drop-append-le firm (front ++ back) (w ∷ []) (omega (arith, within, length-append front back))

-- one more Issue on the sector, from `firm` on
pub search-issue : (start : List Sector) (p : Past) (s firm : ℕ) (v w : Sector) (id : CallId) (first : ℕ) (content : List Sector) (search : Search) (here : Bool) → length (option_to_list (slice_get start s)) ≡ 1 → Some w ≡ sector_in first content s → IsSearch start p s firm v search → search.found ≡ false → firm ≤ search.number + 1 → (IsTrue here ↔ (w ≡ v)) → IsSearch start (p ▸ Issue id first content) s firm v (record { number = search.number + 1; found = here })
search-issue start p s firm v w id first content search here told covers before none within now =
    let front = option_to_list (slice_get start s) in let back = issued_contents p s in
    let now_written : issued_contents (p ▸ Issue id first content) s ≡ back ++ w ∷ [] = ap (λ (o : Option Sector). back ++ option_to_list o) (sym covers) in
    let now_versions : drop firm (versions start (p ▸ Issue id first content) s) ≡ drop firm (front ++ back) ++ w ∷ [] = ap (λ (xs : List Sector). drop firm (front ++ xs)) now_written ∙ versions-more front back firm w (omega (arith, told, within, before.number)) in
    record {
      number = omega (arith, before.number, ap length now_written, length-append back (w ∷ []));
      found = subst (λ (xs : List Sector). IsTrue here ↔ Contains xs v) (sym now_versions) (found-push search.found here (drop firm (front ++ back)) w v before.found now none);
    }

-- w alone is there
pub found-only : (here : Bool) (w v : Sector) → (IsTrue here ↔ (w ≡ v)) → (IsTrue here ↔ Contains (w ∷ []) v)
found-only here w v now =
    found-push false here [] w v ((λ told. let impossible : false ≡ true = told in cc), (λ there. absurd (omega (arith, there.1)))) now refl

-- the same contents, as a change leaves them
pub found-changed : (found : Bool) (v : Sector) (xs ys : List Sector) → xs ≡ ys → (IsTrue found ↔ Contains ys v) → (IsTrue found ↔ Contains xs v)
found-changed found v xs ys same there = subst (λ (zs : List Sector). IsTrue found ↔ Contains zs v) (sym same) there
