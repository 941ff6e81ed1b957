-- How many bytes of a source the lines that were read take.
use Rattle.std.proofs.Common.{◌≡◌, ℕ, ◌+◌, ◌-◌, ◌<◌, ◌≤◌, inl, inr, Bool, true, false, List, [], ◌∷◌, ◌++◌, length, take, drop, get_or, Some, None, eqb, sym, ◌∙◌, ap, refl, subst, arith, append-nil, append_assoc, length-append}
use Rattle.std.proofs.lemmas.Bool.{eqb-true}
use Rattle.std.proofs.lemmas.List.{get_or_default}
use Rattle.std.proofs.lemmas.List.Splits.{slice_split_none}
use Rattle.std.specs.Io.{IsEmptyOrEndsWith}
use Rattle.std.specs.Prelude.{map, if◌then◌else◌, slice_index}
use Rattle.std.specs.List.{onto_first}
use Rattle.std.specs.Str.Lines.{lines, lines_of_parts, strip_carriage_return}
use Rattle.memchr.specs.Find.{IsFirstByte, is_byte}
use Rattle.vd_trace.specs.declared.kept.Draft.{Draft}
use Rattle.vd_trace.specs.Keeping.{HasReadLines}
use Rattle.vd_trace.specs.Streaming.{AreWhole, HasTaken, FailsBehind}
use Rattle.vd_trace.proofs.Readings.{parts, first-part}
use Rattle.vd_trace.proofs.Splitting.{parted, unmet}

-- the parts before a newline, and those behind it
onto-first : (x : ℕ) (front more : List (List ℕ)) → ((part : List ℕ) × (others : List (List ℕ)) × (front ≡ part ∷ others)) → onto_first x (front ++ more) ≡ onto_first x front ++ more
onto-first x front more found = rw found.2 refl

parts-both : (xs ys : List ℕ) → parts (xs ++ 10 ∷ ys) ≡ parts xs ++ parts ys
parts-both [] ys = refl
parts-both (x ∷ xs) ys = by (eqb x 10) (parts-both xs ys) where
  by : (d : Bool) → parts (xs ++ 10 ∷ ys) ≡ parts xs ++ parts ys →
      (if d then [] ∷ parts (xs ++ 10 ∷ ys) else onto_first x (parts (xs ++ 10 ∷ ys))) ≡ (if d then [] ∷ parts xs else onto_first x (parts xs)) ++ parts ys
  by true rest = ap (λ (more : List (List ℕ)). [] ∷ more) rest
  by false rest = ap (onto_first x) rest ∙ onto-first x (parts xs) (parts ys) (first-part xs)

lines_of_parts-both : (front : List (List ℕ)) (part : List ℕ) (more : List (List ℕ)) → lines_of_parts (front ++ part ∷ more) ≡ map strip_carriage_return front ++ lines_of_parts (part ∷ more)
lines_of_parts-both [] part more = refl
lines_of_parts-both (line ∷ []) part more = refl
lines_of_parts-both (line ∷ next ∷ front) part more = ap (λ (l : List (List ℕ)). strip_carriage_return line ∷ l) (lines_of_parts-both (next ∷ front) part more)

lines-both : (xs ys : List ℕ) → lines (xs ++ 10 ∷ ys) ≡ map strip_carriage_return (parts xs) ++ lines ys
lines-both xs ys =
    let rest = first-part ys in
    ap lines_of_parts (parts-both xs ys)
    ∙ ap (λ (ps : List (List ℕ)). lines_of_parts (parts xs ++ ps)) rest.2
    ∙ lines_of_parts-both (parts xs) rest.0 rest.1
    ∙ ap (λ (ps : List (List ℕ)). map strip_carriage_return (parts xs) ++ lines_of_parts ps) (sym rest.2)

-- the lines behind whole ones
lines-behind : (ended ys : List ℕ) → AreWhole ended → lines (ended ++ ys) ≡ lines ended ++ lines ys
lines-behind ended ys (inl none) = ap (λ (e : List ℕ). lines (e ++ ys)) none ∙ sym (ap (λ (e : List ℕ). lines e ++ lines ys) none)
lines-behind ended ys (inr (front, is)) =
    let own : lines ended ≡ map strip_carriage_return (parts front) = ap lines is ∙ lines-both front [] ∙ append-nil (map strip_carriage_return (parts front)) in
    ap (λ (e : List ℕ). lines (e ++ ys)) is ∙ ap lines (append_assoc front (10 ∷ []) ys) ∙ lines-both front ys ∙ ap (λ (l : List (List ℕ)). l ++ lines ys) (sym own)

-- no line was read
pub none-taken : (all left : List ℕ) (draft : Draft) → left ≡ all → HasReadLines [] draft → HasTaken all left draft
none-taken all left draft is read = record { ended = []; rest = sym is; whole = inl refl; read = read }

pub taken-left : (all left left' : List ℕ) (draft : Draft) → left' ≡ left → HasTaken all left draft → HasTaken all left' draft
taken-left all left left' draft same taken = subst (λ (l : List ℕ). HasTaken all l draft) (sym same) taken

-- one more line was read
pub more-taken : (all w w' r line : List ℕ) (i : ℕ) (old new : Draft) → HasTaken all (w ++ r) old → IsFirstByte (is_byte 10) w (Some i) → line ≡ strip_carriage_return (take i w) → w' ≡ drop (i + 1) w →
    ((done : List (List ℕ)) → HasReadLines done old → HasReadLines (done ++ line ∷ []) new) → HasTaken all (w' ++ r) new
more-taken all w w' r line i old new taken first is left reads =
    let high : i < length w = first.0.high in
    let cut : w ≡ take i w ++ 10 ∷ drop (i + 1) w = parted w i high ∙ ap (λ (b : ℕ). take i w ++ b ∷ drop (i + 1) w) (eqb-true (get_or w i 0) 10 first.1) in
    let clean : parts (take i w) ≡ take i w ∷ [] =
    slice_split_none (λ b. eqb b 10) (take i w) (unmet 10 w i (omega arith) (λ k below. let zero : 0 ≤ k = omega arith in first.0.before k zero below)) in
    let one : lines (take i w ++ 10 ∷ []) ≡ line ∷ [] = lines-both (take i w) [] ∙ ap (λ (ps : List (List ℕ)). map strip_carriage_return ps ++ []) clean ∙ ap (λ (l : List ℕ). l ∷ []) (sym is) in
    let all_lines : lines (taken.ended ++ (take i w ++ 10 ∷ [])) ≡ lines taken.ended ++ line ∷ [] =
    lines-behind taken.ended (take i w ++ 10 ∷ []) taken.whole ∙ ap (λ (l : List (List ℕ)). lines taken.ended ++ l) one in
    record {
      ended = taken.ended ++ (take i w ++ 10 ∷ []);
      rest = taken.rest ∙ ap (λ (t : List ℕ). taken.ended ++ (t ++ r)) cut
          ∙ ap (λ (t : List ℕ). taken.ended ++ t) (append_assoc (take i w) (10 ∷ drop (i + 1) w) r ∙ sym (append_assoc (take i w) (10 ∷ []) (drop (i + 1) w ++ r)))
          ∙ sym (append_assoc taken.ended (take i w ++ 10 ∷ []) (drop (i + 1) w ++ r))
          ∙ ap (λ (t : List ℕ). (taken.ended ++ (take i w ++ 10 ∷ [])) ++ (t ++ r)) (sym left);
      whole = inr (taken.ended ++ take i w, sym (append_assoc taken.ended (take i w) (10 ∷ [])));
      read = subst (λ (done : List (List ℕ)). HasReadLines done new) (sym all_lines) (reads (lines taken.ended) taken.read);
    }

at-end : (xs : List ℕ) (b : ℕ) → slice_index (xs ++ b ∷ []) (length xs) ≡ b
at-end [] b = refl
at-end (x ∷ xs) b = at-end xs b

whole-ends : (bytes : List ℕ) → AreWhole bytes → IsEmptyOrEndsWith bytes 10
whole-ends bytes (inl none) = λ some. absurd (let e = ap length none in omega (arith, e, some))
whole-ends bytes (inr (front, is)) = λ some.
    let last : length bytes - 1 ≡ length front = omega (arith, ap length is, length-append front (10 ∷ [])) in
    ap (slice_index bytes) last ∙ ap (λ (bs : List ℕ). slice_index bs (length front)) is ∙ at-end front 10

-- the source failed
pub fails-behind : (all w r r' : List ℕ) (draft : Draft) → HasTaken all (w ++ r) draft → IsFirstByte (is_byte 10) w None → length w ≤ 1101 → r' ≡ r → FailsBehind draft.guests all r'
fails-behind all w r r' draft taken none short same = record {
  ended = taken.ended;
  begun = w;
  given = taken.rest ∙ ap (λ (t : List ℕ). taken.ended ++ (w ++ t)) (sym same);
  whole = whole-ends taken.ended taken.whole;
  says = taken.read.says;
  good = taken.read.spelled;
  unended = λ k d inside e. let zero : 0 ≤ k = omega arith in none k zero inside (ap (λ (b : ℕ). eqb b 10) (sym (get_or_default w k d 0 inside) ∙ e));
  short = short;
}
