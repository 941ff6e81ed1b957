-- Every number of a trace that was read is in its range, and its limits are kept.
use Rattle.std.proofs.Common.{◌≡◌, ℕ, ◌+◌, ◌≤◌, List, [], ◌∷◌, ◌++◌, length, refl, arith, length-append}
use Rattle.std.proofs.lemmas.List.Sums.{sum_by-cons, sum_by-append}
use Rattle.std.proofs.lemmas.List.Elements.{All-nil, All-cons, All-head, All-tail, All-append}
use Rattle.std.specs.Prelude.{map, sum_by}
use Rattle.std.specs.List.{All, enumerate_from, filter_map}
use Rattle.hex.proofs.HexLemmas.{decode_of-ok}
use Rattle.vd_decimal.proofs.Spelling.{spells-below}
use Rattle.vd_trace.specs.declared.line.Line.{Line}
use Rattle.vd_trace.specs.declared.line.Line.TheVariants.{Nothing, Asks, Shows}
use Rattle.vd_trace.specs.declared.line.Work.{Work}
use Rattle.vd_trace.specs.declared.line.Work.TheVariants.{Read, Fill, Put, Flush}
use Rattle.vd_trace.specs.Lines.{SpellsWork, SpellsFields, SpellsLine, fields, sectors_of_line}
use Rattle.vd_trace.specs.Traces.{asking, showing, SpellsLines, script_of}
use Rattle.vd_trace.specs.Texts.{asking_line, showing_line, IsRequest, IsLine, IsScript}

work-ranged : (more : List (List ℕ)) (w : Work) → SpellsWork more w → IsRequest w
work-ranged (kind ∷ first ∷ count ∷ []) (Read f c) s = (spells-below 10 first f s.1, s.2.1, s.2.2)
work-ranged (kind ∷ first ∷ count ∷ byte ∷ []) (Fill f c b) s =
    let decoded = decode_of-ok byte (b ∷ []) s.3.decoded in (spells-below 10 first f s.1, s.2.1, s.2.2, decoded.3 0)
work-ranged (kind ∷ first ∷ digits ∷ []) (Put f d) s =
    let decoded = decode_of-ok digits d.bytes s.2.decoded in (spells-below 10 first f s.1, omega (arith, decoded.2, s.2.many), decoded.3)
work-ranged (kind ∷ []) Flush s = tt
work-ranged _ _ s = absurd s

fields-ranged : (guests : ℕ) (fs : List (List ℕ)) (says : Line) → SpellsFields guests fs says → IsLine guests says
fields-ranged guests _ Nothing s = absurd s
fields-ranged guests [] (Asks g w) s = absurd s
fields-ranged guests (guest ∷ more) (Asks g w) s = (spells-below 10 guest g s.0.0, s.0.1, s.0.2, work-ranged more w s.1)
fields-ranged guests (kind ∷ first ∷ count ∷ []) (Shows f c) s = (spells-below 10 first f s.1, s.2.1, s.2.2)
fields-ranged guests _ _ s = absurd s

line-ranged : (guests : ℕ) (line : List ℕ) (says : Line) → SpellsLine guests line says → IsLine guests says
line-ranged guests line Nothing s = tt
line-ranged guests line (Asks g w) s = fields-ranged guests (fields line) (Asks g w) s
line-ranged guests line (Shows f c) s = fields-ranged guests (fields line) (Shows f c) s

pub lines-ranged : (guests : ℕ) (before : List Line) (all : List (List ℕ)) (says : List Line) → SpellsLines guests before all says → All (IsLine guests) says
lines-ranged guests before [] [] s = All-nil (IsLine guests)
lines-ranged guests before [] (l ∷ says) s = absurd s
lines-ranged guests before (line ∷ all) [] s = absurd s
lines-ranged guests before (line ∷ all) (l ∷ says) s =
    All-cons (IsLine guests) l says (line-ranged guests line l s.0.spells) (lines-ranged guests (before ++ l ∷ []) all says s.2)

-- the lines that ask, and those that show, among lines that are counted from n
abbrev asks_from : ℕ → List Line → List Line
asks_from n says = map asking_line (filter_map asking (enumerate_from n says))

abbrev shows_from : ℕ → List Line → List Line
shows_from n says = map showing_line (filter_map showing (enumerate_from n says))

asks-all : (P : Line → Type 0) (n : ℕ) (says : List Line) → All P says → All P (asks_from n says)
asks-all P n [] all = All-nil P
asks-all P n (Nothing ∷ says) all = asks-all P (n + 1) says (All-tail P Nothing says all)
asks-all P n (Asks g w ∷ says) all = All-cons P (Asks g w) (asks_from (n + 1) says) (All-head P (Asks g w) says all) (asks-all P (n + 1) says (All-tail P (Asks g w) says all))
asks-all P n (Shows f c ∷ says) all = asks-all P (n + 1) says (All-tail P (Shows f c) says all)

shows-all : (P : Line → Type 0) (n : ℕ) (says : List Line) → All P says → All P (shows_from n says)
shows-all P n [] all = All-nil P
shows-all P n (Nothing ∷ says) all = shows-all P (n + 1) says (All-tail P Nothing says all)
shows-all P n (Asks g w ∷ says) all = shows-all P (n + 1) says (All-tail P (Asks g w) says all)
shows-all P n (Shows f c ∷ says) all = All-cons P (Shows f c) (shows_from (n + 1) says) (All-head P (Shows f c) says all) (shows-all P (n + 1) says (All-tail P (Shows f c) says all))

no-more : (n : ℕ) (says : List Line) → length (asks_from n says) + length (shows_from n says) ≤ length says
no-more n [] = omega arith
no-more n (Nothing ∷ says) = omega (arith, no-more (n + 1) says)
no-more n (Asks g w ∷ says) = omega (arith, no-more (n + 1) says)
no-more n (Shows f c ∷ says) = omega (arith, no-more (n + 1) says)

same-sectors : (n : ℕ) (says : List Line) → sum_by sectors_of_line (asks_from n says) + sum_by sectors_of_line (shows_from n says) ≡ sum_by sectors_of_line says
same-sectors n [] = refl
same-sectors n (Nothing ∷ says) = let rest = same-sectors (n + 1) says in rw (sum_by-cons sectors_of_line Nothing says) (omega (arith, rest))
same-sectors n (Asks g w ∷ says) =
    let rest = same-sectors (n + 1) says in
    rw (sum_by-cons sectors_of_line (Asks g w) says, sum_by-cons sectors_of_line (Asks g w) (asks_from (n + 1) says)) (omega (arith, rest))
same-sectors n (Shows f c ∷ says) =
    let rest = same-sectors (n + 1) says in
    rw (sum_by-cons sectors_of_line (Shows f c) says, sum_by-cons sectors_of_line (Shows f c) (shows_from (n + 1) says)) (omega (arith, rest))

pub script-ranged : (guests : ℕ) (all : List (List ℕ)) (says : List Line) → SpellsLines guests [] all says → length says ≤ 500000 → sum_by sectors_of_line says ≤ 262144 → IsScript (script_of guests says)
script-ranged guests all says spelled few small =
    let every = lines-ranged guests [] all says spelled in
    let asks = asks_from 1 says in
    let shows = shows_from 1 says in
    record {
      ranges = All-append (IsLine guests) asks shows (asks-all (IsLine guests) 1 says every) (shows-all (IsLine guests) 1 says every);
      few = omega (arith, length-append asks shows, no-more 1 says);
      small = omega (arith, sum_by-append sectors_of_line asks shows, same-sectors 1 says);
    }
