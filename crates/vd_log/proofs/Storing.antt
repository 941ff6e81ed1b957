-- What stored entries stand for when sectors are put behind the others.
use Rattle.std.proofs.Common.{◌≡◌, ℕ, ◌+◌, ◌-◌, ◌≤◌, List, [], ◌∷◌, ◌++◌, length, take, drop, refl, ap, ◌∙◌, arith, length-drop}
use Rattle.std.specs.Prelude.{map}
use Rattle.std.specs.List.{All}
use Rattle.std.proofs.lemmas.List.{drop-append-le, take-append-le, map_push}
use Rattle.std.proofs.lemmas.List.Elements.{All-head, All-tail, All-weaker, All-push}
use Rattle.vd_law.specs.declared.entry.Sector.{Sector}
use Rattle.vd_log.specs.declared.sharing.Stretch.{Stretch}
use Rattle.vd_log.specs.declared.stored.Stored.{Stored}
use Rattle.vd_log.specs.declared.stored.Stored.TheVariants as stored
use Rattle.vd_law.specs.Entries.{Entry, Write, Ask, Issue, Seen}
use Rattle.vd_log.specs.StoredEntries.{content_in, entry_in, HasContentWithin}

pub content_at-append : (xs ys : List Sector) (a : Stretch) → a.start + a.count ≤ length xs → content_in (xs ++ ys) a ≡ content_in xs a
content_at-append xs ys a within =
    let size = (a.start + a.count) - a.start in
    let enough : size ≤ length (drop a.start xs) = omega (arith, within, length-drop a.start xs) in
    ap (take size) (drop-append-le a.start xs ys (omega (arith, within))) ∙ take-append-le size (drop a.start xs) ys enough

pub entry_in-append : (xs ys : List Sector) (e : Stored) → HasContentWithin (length xs) e → entry_in (xs ++ ys) e ≡ entry_in xs e
entry_in-append xs ys (stored.AskRead id first count) within = refl
entry_in-append xs ys (stored.AskWrite id first content) within = ap (λ (c : List Sector). Ask id (Write first c)) (content_at-append xs ys content within)
entry_in-append xs ys (stored.AskFlush id) within = refl
entry_in-append xs ys (stored.Issue id first content) within = ap (λ (c : List Sector). Issue id first c) (content_at-append xs ys content within)
entry_in-append xs ys (stored.Done id) within = refl
entry_in-append xs ys (stored.Broke id) within = refl
entry_in-append xs ys (stored.Seen id first content) within = ap (λ (c : List Sector). Seen id first c) (content_at-append xs ys content within)
entry_in-append xs ys (stored.Reply id answer) within = refl

pub within-more : (n m : ℕ) → n ≤ m → (e : Stored) → HasContentWithin n e → HasContentWithin m e
within-more n m le (stored.AskRead id first count) within = tt
within-more n m le (stored.AskWrite id first content) within = omega (arith, le, within)
within-more n m le (stored.AskFlush id) within = tt
within-more n m le (stored.Issue id first content) within = omega (arith, le, within)
within-more n m le (stored.Done id) within = tt
within-more n m le (stored.Broke id) within = tt
within-more n m le (stored.Seen id first content) within = omega (arith, le, within)
within-more n m le (stored.Reply id answer) within = tt

pub entries-append : (xs ys : List Sector) (es : List Stored) → All (HasContentWithin (length xs)) es → map (entry_in (xs ++ ys)) es ≡ map (entry_in xs) es
entries-append xs ys [] all = refl
entries-append xs ys (e ∷ es) all =
    ap (λ (first : Entry). first ∷ map (entry_in (xs ++ ys)) es) (entry_in-append xs ys e (All-head (HasContentWithin (length xs)) e es all))
    ∙ ap (λ (rest : List Entry). entry_in xs e ∷ rest) (entries-append xs ys es (All-tail (HasContentWithin (length xs)) e es all))

-- one more entry, whose content was put behind the others
pub entries-push : (xs ys : List Sector) (es : List Stored) (e : Stored) → All (HasContentWithin (length xs)) es → map (entry_in (xs ++ ys)) (es ++ e ∷ []) ≡ map (entry_in xs) es ++ entry_in (xs ++ ys) e ∷ []
entries-push xs ys es e all =
    map_push (entry_in (xs ++ ys)) es e ∙ ap (λ (front : List Entry). front ++ entry_in (xs ++ ys) e ∷ []) (entries-append xs ys es all)

pub within-push : (n m : ℕ) (es : List Stored) (e : Stored) → n ≤ m → All (HasContentWithin n) es → HasContentWithin m e → All (HasContentWithin m) (es ++ e ∷ [])
within-push n m es e le all last =
    All-push (HasContentWithin m) es e (All-weaker (HasContentWithin n) (HasContentWithin m) (within-more n m le) es all) last
