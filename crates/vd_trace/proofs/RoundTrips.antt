-- The text of a trace, read back.
use Rattle.std.proofs.Common.{◌≡◌, ℕ, ◌+◌, ◌-◌, ◌≤◌, false, List, [], ◌∷◌, ◌++◌, length, get_or, eqb, refl, ap, ◌∙◌, arith, append_assoc, length-append}
use Rattle.std.proofs.lemmas.Bool.{false_from_ne_true, eqb-true}
use Rattle.std.proofs.lemmas.List.Elements.{All-head, All-tail}
use Rattle.std.proofs.lemmas.List.Folds.{list_any-append}
use Rattle.std.proofs.lemmas.List.Splits.{slice_split_at}
use Rattle.std.proofs.lemmas.List.Sums.{sum_by-cons, sum_by_push}
use Rattle.std.specs.Prelude.{map, sum_by, codes}
use Rattle.std.specs.List.{All, flat_map, list_any, enumerate_from, filter_map}
use Rattle.std.specs.Str.Lines.{lines, lines_of_parts, strip_carriage_return}
use Rattle.vd_trace.specs.declared.line.Line.{Line}
use Rattle.vd_trace.specs.declared.line.Work.{Work}
use Rattle.vd_trace.specs.Lines.{is_show, sectors_of_line, InOrder, IsGood, KeepsLimits}
use Rattle.vd_trace.specs.Traces.{Asking, Showing, Script, asking, showing, SpellsLines}
use Rattle.vd_trace.specs.Texts.{line_body, trace_line_text, asking_line, showing_line, lines_of, who_asks, what_shows, ReadsBack, IsLine, IsScript}
use Rattle.vd_trace.proofs.Readings.{lines_of_parts-ended}
use Rattle.vd_trace.proofs.Written.{IsPlain, line-spells, line-short, line-plain}

-- nothing is stripped from a line as it is written
not-stripped : (body : List ℕ) → IsPlain body → strip_carriage_return body ≡ body
not-stripped [] is = refl
not-stripped (b ∷ body) is =
    let last : eqb (get_or (b ∷ body) (length (b ∷ body) - 1) 0) 13 ≡ false =
    false_from_ne_true _ (λ e. let same : get_or (b ∷ body) (length (b ∷ body) - 1) 0 ≡ 13 = eqb-true _ _ e in
    let high : 32 ≤ get_or (b ∷ body) (length (b ∷ body) - 1) 0 = is (length (b ∷ body) - 1) 0 (omega arith) in omega arith) in
    rw last refl

line-cut : (body rest : List ℕ) → IsPlain body → lines ((body ++ codes "\n") ++ rest) ≡ body ∷ lines rest
line-cut body rest is =
    ap lines (append_assoc body (codes "\n") rest)
    ∙ ap lines_of_parts (slice_split_at (λ b. eqb b 10) body 10 rest (λ k d inside. false_from_ne_true _ (λ e. let same : get_or body k d ≡ 10 = eqb-true _ _ e in let high : 32 ≤ get_or body k d = is k d inside in omega arith)) refl)
    ∙ lines_of_parts-ended body rest ∙ ap (λ (l : List ℕ). l ∷ lines rest) (not-stripped body is)

-- the lines of the text are those that were written
lines-written : (guests : ℕ) (says : List Line) → All (IsLine guests) says → lines (flat_map trace_line_text says) ≡ map line_body says
lines-written guests [] all = refl
lines-written guests (l ∷ says) all =
    line-cut (line_body l) (flat_map trace_line_text says) (line-plain guests l (All-head (IsLine guests) l says all))
    ∙ ap (λ (rest : List (List ℕ)). line_body l ∷ rest) (lines-written guests says (All-tail (IsLine guests) l says all))

-- there is place for these lines behind those before
record HasPlace (before says : List Line) : Type 0 where
  few : length before + length says ≤ 500000
  small : sum_by sectors_of_line before + sum_by sectors_of_line says ≤ 262144

place-within : (before : List Line) (l : Line) (says : List Line) → HasPlace before (l ∷ says) → KeepsLimits before l
place-within before l says has = record {
  lines = omega (arith, has.few);
  sectors = omega (arith, has.small, sum_by-cons sectors_of_line l says);
}

place-next : (before : List Line) (l : Line) (says : List Line) → HasPlace before (l ∷ says) → HasPlace (before ++ l ∷ []) says
place-next before l says has = record {
  few = omega (arith, has.few, length-append before (l ∷ []));
  small = omega (arith, has.small, sum_by-cons sectors_of_line l says, sum_by_push sectors_of_line before l);
}

good : (guests : ℕ) (before : List Line) (l : Line) → IsLine guests l → InOrder before l → IsGood guests before (line_body l) l
good guests before l is order = record { short = line-short guests l is; spells = line-spells guests l is; order = order }

shows-spelled : (guests : ℕ) (before : List Line) (shows : List Showing) → All (IsLine guests) (map showing_line shows) → HasPlace before (map showing_line shows) →
    SpellsLines guests before (map line_body (map showing_line shows)) (map showing_line shows)
shows-spelled guests before [] all has = tt
shows-spelled guests before (s ∷ shows) all has =
    let l = showing_line s in
    let rest = map showing_line shows in (
      good guests before l (All-head (IsLine guests) l rest all) tt,
      place-within before l rest has,
      shows-spelled guests (before ++ l ∷ []) shows (All-tail (IsLine guests) l rest all) (place-next before l rest has),
    )

still-none : (before : List Line) (a : Asking) → list_any is_show before ≡ false → list_any is_show (before ++ asking_line a ∷ []) ≡ false
still-none before a none = list_any-append is_show before (asking_line a ∷ []) ∙ rw none refl

all-spelled : (guests : ℕ) (before : List Line) (asks : List Asking) (shows : List Showing) → list_any is_show before ≡ false → All (IsLine guests) (map asking_line asks ++ map showing_line shows) →
    HasPlace before (map asking_line asks ++ map showing_line shows) → SpellsLines guests before (map line_body (map asking_line asks ++ map showing_line shows)) (map asking_line asks ++ map showing_line shows)
all-spelled guests before [] shows none all has = shows-spelled guests before shows all has
all-spelled guests before (a ∷ asks) shows none all has =
    let l = asking_line a in
    let rest = map asking_line asks ++ map showing_line shows in (
      good guests before l (All-head (IsLine guests) l rest all) none,
      place-within before l rest has,
      all-spelled guests (before ++ l ∷ []) asks shows (still-none before a none) (All-tail (IsLine guests) l rest all) (place-next before l rest has),
    )

-- what the lines say is what they were made of

no-asks : (n : ℕ) (shows : List Showing) → filter_map asking (enumerate_from n (map showing_line shows)) ≡ []
no-asks n [] = refl
no-asks n (s ∷ shows) = no-asks (n + 1) shows

asks-back : (n : ℕ) (asks : List Asking) (shows : List Showing) →
    map who_asks (filter_map asking (enumerate_from n (map asking_line asks ++ map showing_line shows))) ≡ map who_asks asks
asks-back n [] shows = ap (map who_asks) (no-asks n shows)
asks-back n (a ∷ asks) shows = ap (λ (rest : List (ℕ × Work)). who_asks a ∷ rest) (asks-back (n + 1) asks shows)

only-shows : (n : ℕ) (shows : List Showing) → map what_shows (filter_map showing (enumerate_from n (map showing_line shows))) ≡ map what_shows shows
only-shows n [] = refl
only-shows n (s ∷ shows) = ap (λ (rest : List (ℕ × ℕ)). what_shows s ∷ rest) (only-shows (n + 1) shows)

shows-back : (n : ℕ) (asks : List Asking) (shows : List Showing) →
    map what_shows (filter_map showing (enumerate_from n (map asking_line asks ++ map showing_line shows))) ≡ map what_shows shows
shows-back n [] shows = only-shows n shows
shows-back n (a ∷ asks) shows = shows-back (n + 1) asks shows

-- a trace's text is read back
pub reads-back : (trace : Script) → IsScript trace → ReadsBack trace
reads-back trace is =
    let says = lines_of trace in
    let place : HasPlace [] says = record { few = omega (arith, is.few); small = omega (arith, is.small) } in (
      says,
      rw (lines-written trace.guests says is.ranges) (all-spelled trace.guests [] trace.asks trace.shows refl is.ranges place),
      record { guests = refl; asks = asks-back 1 trace.asks trace.shows; shows = shows-back 1 trace.asks trace.shows },
    )
