-- The lines of what is read, of which the end is not known.
use Rattle.std.proofs.Common.{◌≡◌, ℕ, suc, ◌+◌, ◌-◌, ◌<◌, ◌≤◌, Bool, true, false, List, [], ◌∷◌, ◌++◌, length, take, drop, get_or, Some, None, eqb, sym, ◌∙◌, ap, refl, subst, arith, append-nil, append_assoc, length-append, length-take}
use Rattle.std.proofs.lemmas.Bool.{false_from_ne_true, eqb-true}
use Rattle.std.proofs.lemmas.List.Splits.{slice_split_at}
use Rattle.std.proofs.Math.Seq.{take-append_seam}
use Rattle.std.specs.Prelude.{if◌then◌else◌}
use Rattle.std.specs.List.{slice_split, onto_first}
use Rattle.std.specs.Str.Lines.{lines, lines_of_parts, strip_carriage_return}
use Rattle.memchr.specs.Find.{IsFirstByte, is_byte}
use Rattle.vd_trace.specs.declared.kept.Draft.{Draft}
use Rattle.vd_trace.specs.declared.line.Line.{Line}
use Rattle.vd_trace.specs.declared.error.TraceError.{TraceError}
use Rattle.vd_trace.specs.declared.error.TraceError.TheVariants.{Bad, TooMuch, Source, NoMemory}
use Rattle.vd_trace.specs.Traces.{SpellsLines, GoesTo}
use Rattle.vd_trace.specs.Keeping.{HasReadLines, Stops}
use Rattle.vd_trace.specs.Streaming.{StandsAt, EndsBy}
use Rattle.vd_trace.proofs.Drafts.{spells-length}
use Rattle.vd_trace.proofs.Splitting.{parted, unmet, cut-none}
use Rattle.std.proofs.lemmas.List.{nil_from_length}
use Rattle.vd_lists.proofs.Places.{slice_get_middle}

-- there is a part before the first newline, or at the end
abbrev pub parts : List ℕ → List (List ℕ)
parts bs = slice_split (λ b. eqb b 10) bs

first-of : (d : Bool) (b : ℕ) (rest : List (List ℕ)) → ((part : List ℕ) × (more : List (List ℕ)) × (rest ≡ part ∷ more)) →
    (part : List ℕ) × (more : List (List ℕ)) × ((if d then [] ∷ rest else onto_first b rest) ≡ part ∷ more)
first-of true b rest found = ([], rest, refl)
first-of false b rest found = (b ∷ found.0, found.1, ap (onto_first b) found.2)

pub first-part : (bs : List ℕ) → (part : List ℕ) × (more : List (List ℕ)) × (parts bs ≡ part ∷ more)
first-part [] = ([], [], refl)
first-part (b ∷ bs) = first-of (eqb b 10) b (parts bs) (first-part bs)

-- a line that ended, and what stands behind its end
pub lines_of_parts-ended : (line : List ℕ) (bs : List ℕ) → lines_of_parts (line ∷ parts bs) ≡ strip_carriage_return line ∷ lines bs
lines_of_parts-ended line bs = let rest = first-part bs in rw rest.2 refl

pub lines-cut : (w r : List ℕ) (i : ℕ) → IsFirstByte (is_byte 10) w (Some i) → lines (w ++ r) ≡ strip_carriage_return (take i w) ∷ lines (drop (i + 1) w ++ r)
lines-cut w r i first =
    let whole : w ++ r ≡ take i w ++ (get_or w i 0 ∷ (drop (i + 1) w ++ r)) = ap (λ (bs : List ℕ). bs ++ r) (parted w i first.0.high) ∙ append_assoc (take i w) (get_or w i 0 ∷ drop (i + 1) w) r in
    ap lines whole
    ∙ ap lines_of_parts (slice_split_at (λ b. eqb b 10) (take i w) (get_or w i 0) (drop (i + 1) w ++ r) (unmet 10 w i (let high : i < length w = first.0.high in omega arith) (λ k below. let zero : 0 ≤ k = omega arith in first.0.before k zero below)) first.1)
    ∙ lines_of_parts-ended (take i w) (drop (i + 1) w ++ r)

not_empty : (n : ℕ) → 0 < n → eqb n 0 ≡ false
not_empty n some = false_from_ne_true (eqb n 0) (λ e. let zero : n ≡ 0 = eqb-true n 0 e in omega arith)

-- a last line without an end
pub lines-last : (w : List ℕ) → IsFirstByte (is_byte 10) w None → 0 < length w → lines w ≡ w ∷ []
lines-last [] none some = absurd (omega arith)
lines-last (b ∷ w) none some = rw (cut-none 10 (b ∷ w) none, not_empty (length (b ∷ w)) some) refl

-- bytes without a newline are the beginning of the first part
parts-front : (w r : List ℕ) (part : List ℕ) (more : List (List ℕ)) → ((k : ℕ) → k < length w → ¬ (eqb (get_or w k 0) 10 ≡ true)) → parts r ≡ part ∷ more → parts (w ++ r) ≡ (w ++ part) ∷ more
parts-front [] r part more none rest = rest
parts-front (b ∷ w) r part more none rest =
    let here : eqb b 10 ≡ false = false_from_ne_true (eqb b 10) (none 0 (omega arith)) in
    rw here (ap (onto_first b) (parts-front w r part more (λ k below. none (suc k) (omega arith)) rest))

stripped-length : (line : List ℕ) → length line ≤ length (strip_carriage_return line) + 1
stripped-length line = by (eqb (get_or line (length line - 1) 0) 13) where
  by : (d : Bool) → length line ≤ length (if d then take (length line - 1) line else line) + 1
  by true = omega (arith, length-take (length line - 1) line)
  by false = omega arith

long-line : (line : List ℕ) (more : List (List ℕ)) → 1101 < length line → (x : List ℕ) × (others : List (List ℕ)) × (lines_of_parts (line ∷ more) ≡ x ∷ others) × (1100 < length x)
long-line [] more long = absurd (omega arith)
long-line (b ∷ line) [] long = (b ∷ line, [], rw (not_empty (length (b ∷ line)) (omega arith)) refl, omega arith)
long-line (b ∷ line) (next ∷ more) long = (strip_carriage_return (b ∷ line), lines_of_parts (next ∷ more), refl, omega (arith, stripped-length (b ∷ line)))

-- a line of which so many bytes are there is too long, wherever it ends
pub lines-long : (w r : List ℕ) → IsFirstByte (is_byte 10) w None → 1101 < length w → (x : List ℕ) × (others : List (List ℕ)) × (lines (w ++ r) ≡ x ∷ others) × (1100 < length x)
lines-long w r none long =
    let rest = first-part r in
    let whole = parts-front w r rest.0 rest.1 (λ k below. let zero : 0 ≤ k = omega arith in none k zero below) rest.2 in
    let line = long-line (w ++ rest.0) rest.1 (omega (arith, length-append w rest.0)) in
    (line.0, line.1, ap lines_of_parts whole ∙ line.2, line.3)

-- the line behind those that were read
goes-to : (guests : ℕ) (all done : List (List ℕ)) (line : List ℕ) (more : List (List ℕ)) (before : List Line) (number : ℕ) → all ≡ done ++ line ∷ more → SpellsLines guests [] done before →
    number ≡ length before + 1 → GoesTo guests all number before line
goes-to guests all done line more before number is spelled counted =
    let many : length done ≡ length before = spells-length guests [] done before spelled in
    rw is (record {
      counted = counted;
      good = rw (← many, take-append_seam done (line ∷ more)) spelled;
      there = rw (← many) (slice_get_middle done more line);
    })

pub stops-ends : (guests : ℕ) (all done : List (List ℕ)) (line : List ℕ) (more : List (List ℕ)) (told : Type 0) (e : TraceError) → (told → all ≡ done ++ line ∷ more) → Stops guests done line e → EndsBy guests all told e
stops-ends guests all done line more told (Bad number) is stops = λ now. (stops.0, line, goes-to guests all done line more stops.0 number (is now) stops.1 stops.2, stops.3)
stops-ends guests all done line more told (TooMuch number) is stops = λ now. (stops.0, line, stops.3, goes-to guests all done line more stops.0 number (is now) stops.1 stops.2, stops.4, stops.5)
stops-ends guests all done line more told Source is stops = tt
stops-ends guests all done line more told NoMemory is stops = tt

-- The ways of a step.

-- a line was taken
pub took-line : (all : List (List ℕ)) (told : Type 0) (w w' r line : List ℕ) (i : ℕ) (old new : Draft) → StandsAt all told (w ++ r) old → IsFirstByte (is_byte 10) w (Some i) →
    line ≡ strip_carriage_return (take i w) → w' ≡ drop (i + 1) w → ((done : List (List ℕ)) → HasReadLines done old → HasReadLines (done ++ line ∷ []) new) → StandsAt all told (w' ++ r) new
took-line all told w w' r line i old new stands first is left reads = record {
  done = stands.done ++ line ∷ [];
  read = reads stands.done stands.read;
  rest = λ now. stands.rest now ∙ ap (λ (more : List (List ℕ)). stands.done ++ more) (lines-cut w r i first ∙ ap (λ (l : List ℕ). l ∷ lines (drop (i + 1) w ++ r)) (sym is))
      ∙ sym (append_assoc stands.done (line ∷ []) (lines (drop (i + 1) w ++ r))) ∙ ap (λ (t : List ℕ). (stands.done ++ line ∷ []) ++ lines (t ++ r)) (sym left);
}

-- a line was not taken
pub refused-line : (all : List (List ℕ)) (told : Type 0) (w r line : List ℕ) (i : ℕ) (draft : Draft) (e : TraceError) → StandsAt all told (w ++ r) draft → IsFirstByte (is_byte 10) w (Some i) →
    line ≡ strip_carriage_return (take i w) → ((done : List (List ℕ)) → HasReadLines done draft → Stops draft.guests done line e) → EndsBy draft.guests all told e
refused-line all told w r line i draft e stands first is stops =
    stops-ends draft.guests all stands.done line (lines (drop (i + 1) w ++ r)) told e
    (λ now. stands.rest now ∙ ap (λ (more : List (List ℕ)). stands.done ++ more) (lines-cut w r i first ∙ ap (λ (l : List ℕ). l ∷ lines (drop (i + 1) w ++ r)) (sym is)))
    (stops stands.done stands.read)

-- a line is too long
pub long-stops : (all : List (List ℕ)) (told : Type 0) (w r : List ℕ) (draft : Draft) (number : ℕ) → StandsAt all told (w ++ r) draft → IsFirstByte (is_byte 10) w None → 1101 < length w →
    number ≡ draft.lines → EndsBy draft.guests all told (Bad (number + 1))
long-stops all told w r draft number stands none long is =
    let line = lines-long w r none long in
    stops-ends draft.guests all stands.done line.0 line.1 told (Bad (number + 1)) (λ now. stands.rest now ∙ ap (λ (more : List (List ℕ)). stands.done ++ more) line.2)
    (stands.read.says, stands.read.spelled, ap (λ (n : ℕ). n + 1) (is ∙ stands.read.kept.lines), λ says good. let short : length line.0 ≤ 1100 = good.short in absurd (omega (arith, short, line.3)))

-- a line is not refused for the source
pub no-source : (guests : ℕ) (done : List (List ℕ)) (line : List ℕ) (e : TraceError) → e ≡ Source → Stops guests done line e → ⊥
no-source guests done line e is stops = subst (Stops guests done line) is stops

-- At the end of the source.

-- nothing is left
pub all-read : (all : List (List ℕ)) (told : Type 0) (w r : List ℕ) (draft : Draft) → StandsAt all told (w ++ r) draft → told → r ≡ [] → length w ≡ 0 → HasReadLines all draft
all-read all told w r draft stands now none empty =
    let whole : all ≡ stands.done = stands.rest now ∙ ap (λ (bs : List ℕ). stands.done ++ lines (bs ++ r)) (nil_from_length w empty) ∙ ap (λ (bs : List ℕ). stands.done ++ lines bs) none ∙ append-nil stands.done in
    rw whole stands.read

-- a last line without an end is left
pub last-left : (all : List (List ℕ)) (told : Type 0) (w r : List ℕ) (draft : Draft) (stands : StandsAt all told (w ++ r) draft) → told → r ≡ [] → IsFirstByte (is_byte 10) w None → 0 < length w → all ≡ stands.done ++ w ∷ []
last-left all told w r draft stands now none clean some =
    stands.rest now ∙ ap (λ (bs : List ℕ). stands.done ++ lines (w ++ bs)) none ∙ ap (λ (bs : List ℕ). stands.done ++ lines bs) (append-nil w)
    ∙ ap (λ (more : List (List ℕ)). stands.done ++ more) (lines-last w clean some)
