-- A line as it is written says what it was written from.
use Rattle.std.proofs.Common.{◌≡◌, ℕ, zero, suc, ◌+◌, ◌<◌, ◌≤◌, ◌^◌, ◌⊎◌, inl, inr, true, false, List, [], ◌∷◌, ◌++◌, length, get_or, None, eqb, leb, refl, sym, ap, ◌∙◌, arith, length-append}
use Rattle.std.proofs.lemmas.Bool.{false_from_ne_true, eqb-true, leb-true, cases_lt}
use Rattle.std.proofs.lemmas.Fmt.{length-decimal-le}
use Rattle.std.proofs.lemmas.List.Elements.{All-nil, All-cons, All-append}
use Rattle.std.proofs.lemmas.List.{get_or_default}
use Rattle.std.proofs.lemmas.List.Splits.{slice_split_at, slice_split_none}
use Rattle.std.specs.Prelude.{codes, decimal, is_some}
use Rattle.std.specs.List.{All, slice_split, join_with_byte}
use Rattle.hex.specs.Hex.{encode_lower, lower_digits, IsBytes, is_hex_digit, hex_digit_value}
use Rattle.hex.proofs.HexLemmas.{decode_of-encode_lower, decode_of-ok, length-encode_with}
use Rattle.vd_decimal.proofs.Spelling.{decimal-spells, spells-plain}
use Rattle.vd_trace.specs.declared.line.Line.{Line}
use Rattle.vd_trace.specs.declared.line.Line.TheVariants.{Nothing, Asks, Shows}
use Rattle.vd_trace.specs.declared.line.Work.{Work}
use Rattle.vd_trace.specs.declared.line.Work.TheVariants.{Read, Fill, Put, Flush}
use Rattle.vd_trace.specs.Lines.{IsNumber, SpellsWork, SpellsLine}
use Rattle.vd_trace.specs.Texts.{work_fields, line_fields, line_body, IsRequest, IsLine}

-- a field has neither blanks nor line ends in it
abbrev IsField : List ℕ → Type 0
IsField field = All (λ b. 48 ≤ b) field

abbrev AreFields : List (List ℕ) → Type 0
AreFields [] = Unit {0}
AreFields (field ∷ more) = IsField field × AreFields more

no-byte : (c : ℕ) (field : List ℕ) → c < 48 → IsField field → All (λ b. eqb b c ≡ false) field
no-byte c field low is = λ k d inside. false_from_ne_true _ (λ e. let same : get_or field k d ≡ c = eqb-true _ _ e in let high : 48 ≤ get_or field k d = is k d inside in omega arith)

number-field : (n : ℕ) → n < 10 ^ 10 → IsField (decimal n)
number-field n short = λ k d inside.
    let plain = spells-plain 10 (decimal n) n (decimal-spells 10 n (omega arith) short (omega arith)) in
    let digit : (48 ≤ get_or (decimal n) k 0) × (get_or (decimal n) k 0 ≤ 57) = plain.digits k inside in
    let same : get_or (decimal n) k d ≡ get_or (decimal n) k 0 = get_or_default (decimal n) k d 0 inside in omega arith

number-spells : (n : ℕ) → n < 10 ^ 10 → IsNumber (decimal n) n
number-spells n short = decimal-spells 10 n (omega arith) short (omega arith)

number-short : (n : ℕ) → n < 10 ^ 10 → length (decimal n) ≤ 10
number-short n short = length-decimal-le 10 n (omega arith) short (omega arith)

digit-high : (b : ℕ) → is_hex_digit b ≡ true → 48 ≤ b
digit-high b is = by (cases_lt b 48) where
  by : (b < 48) ⊎ (48 ≤ b) → 48 ≤ b
  by (inr high) = high
  by (inl low) =
      let none : hex_digit_value b ≡ None = rw (false_from_ne_true (leb 65 b) (λ e. omega (arith, leb-true 65 b e)), false_from_ne_true (leb 97 b) (λ e. omega (arith, leb-true 97 b e)), false_from_ne_true (leb 48 b) (λ e. omega (arith, leb-true 48 b e))) refl in
      let no : false ≡ true = ap is_some (sym none) ∙ is in cc

hex-field : (bytes : List ℕ) → IsBytes bytes → IsField (encode_lower bytes)
hex-field bytes are = λ k d inside. digit-high _ ((decode_of-ok (encode_lower bytes) bytes (decode_of-encode_lower bytes are)).1 k d inside)

-- fields that are joined by a blank are cut into them again
split-join : (field : List ℕ) (more : List (List ℕ)) → AreFields (field ∷ more) → slice_split (λ b. eqb b 32) (join_with_byte 32 (field ∷ more)) ≡ field ∷ more
split-join field [] are = slice_split_none (λ b. eqb b 32) field (no-byte 32 field (omega arith) are.0)
split-join field (next ∷ more) are =
    slice_split_at (λ b. eqb b 32) field 32 (join_with_byte 32 (next ∷ more)) (no-byte 32 field (omega arith) are.0) refl
    ∙ ap (λ (rest : List (List ℕ)). field ∷ rest) (split-join next more are.1)

one-byte : (b : ℕ) → b < 256 → IsBytes (b ∷ [])
one-byte b small zero = small
one-byte b small (suc i) = omega arith

high : (c : ℕ) → 48 ≤ c → IsField (c ∷ [])
high c is = All-cons (λ b. 48 ≤ b) c [] is (All-nil (λ b. 48 ≤ b))

work-are : (w : Work) → IsRequest w → AreFields (work_fields w)
work-are (Read f c) is = (high 82 (omega arith), (number-field f is.0, (number-field c (omega (arith, is.2)), tt)))
work-are (Fill f c b) is = (high 87 (omega arith), (number-field f is.0, (number-field c (omega (arith, is.2)), (hex-field (b ∷ []) (one-byte b is.3), tt))))
work-are (Put f s) is = (high 88 (omega arith), (number-field f is.0, (hex-field s.bytes is.2, tt)))
work-are Flush is = (high 70 (omega arith), tt)

line-are : (guests : ℕ) (says : Line) → IsLine guests says → AreFields (line_fields says)
line-are guests Nothing is = tt
line-are guests (Asks g w) is = (number-field g is.0, work-are w is.3)
line-are guests (Shows f c) is = (high 83 (omega arith), (number-field f is.0, (number-field c (omega (arith, is.2)), tt)))

work-spells : (w : Work) → IsRequest w → SpellsWork (work_fields w) w
work-spells (Read f c) is = (refl, number-spells f is.0, (number-spells c (omega (arith, is.2)), is.1, is.2))
work-spells (Fill f c b) is = (
  refl,
  number-spells f is.0,
  (number-spells c (omega (arith, is.2)), is.1, is.2),
  record {
    many = length-encode_with lower_digits (b ∷ []);
    decoded = decode_of-encode_lower (b ∷ []) (one-byte b is.3);
  },
)
work-spells (Put f s) is = (
  refl,
  number-spells f is.0,
  record {
    many = omega (arith, length-encode_with lower_digits s.bytes, is.1);
    decoded = decode_of-encode_lower s.bytes is.2;
  },
)
work-spells Flush is = refl

pub line-spells : (guests : ℕ) (says : Line) → IsLine guests says → SpellsLine guests (line_body says) says
line-spells guests Nothing is = tt
line-spells guests (Asks g w) is =
    rw (split-join (decimal g) (work_fields w) (line-are guests (Asks g w) is)) ((number-spells g is.0, is.1, is.2), work-spells w is.3)
line-spells guests (Shows f c) is =
    rw (split-join (codes "S") (decimal f ∷ decimal c ∷ []) (line-are guests (Shows f c) is)) (refl, number-spells f is.0, (number-spells c (omega (arith, is.2)), is.1, is.2))

-- how long a line may be
work-short : (w : Work) → IsRequest w → length (join_with_byte 32 (work_fields w)) ≤ 1050
work-short (Read f c) is =
    omega (arith, number-short f is.0, number-short c (omega (arith, is.2)), length-append (decimal f) (32 ∷ decimal c))
work-short (Fill f c b) is =
    let hex = encode_lower (b ∷ []) in
    omega (arith, number-short f is.0, number-short c (omega (arith, is.2)), length-encode_with lower_digits (b ∷ []), length-append (decimal f) (32 ∷ (decimal c ++ 32 ∷ hex)), length-append (decimal c) (32 ∷ hex))
work-short (Put f s) is =
    omega (arith, number-short f is.0, is.1, length-encode_with lower_digits s.bytes, length-append (decimal f) (32 ∷ encode_lower s.bytes))
work-short Flush is = omega arith

joined-short : (field : List ℕ) (more : List (List ℕ)) → length (join_with_byte 32 (field ∷ more)) ≤ length field + 1 + length (join_with_byte 32 more)
joined-short field [] = omega arith
joined-short field (next ∷ more) = omega (arith, length-append field (32 ∷ join_with_byte 32 (next ∷ more)))

pub line-short : (guests : ℕ) (says : Line) → IsLine guests says → length (line_body says) ≤ 1100
line-short guests Nothing is = omega arith
line-short guests (Asks g w) is = omega (arith, number-short g is.0, work-short w is.3, joined-short (decimal g) (work_fields w))
line-short guests (Shows f c) is = omega (arith, number-short f is.0, number-short c (omega (arith, is.2)), length-append (decimal f) (32 ∷ decimal c))

-- a line is neither ended nor does it look as if it were
abbrev pub IsPlain : List ℕ → Type 0
IsPlain body = All (λ b. 32 ≤ b) body

joined-plain : (parts : List (List ℕ)) → AreFields parts → IsPlain (join_with_byte 32 parts)
joined-plain [] are = All-nil (λ b. 32 ≤ b)
joined-plain (field ∷ []) are = λ k d inside. let h : 48 ≤ get_or field k d = are.0 k d inside in omega arith
joined-plain (field ∷ next ∷ more) are =
    All-append (λ b. 32 ≤ b) field (32 ∷ join_with_byte 32 (next ∷ more)) (λ k d inside. let h : 48 ≤ get_or field k d = are.0 k d inside in omega arith)
    (All-cons (λ b. 32 ≤ b) 32 (join_with_byte 32 (next ∷ more)) (omega arith) (joined-plain (next ∷ more) are.1))

pub line-plain : (guests : ℕ) (says : Line) → IsLine guests says → IsPlain (line_body says)
line-plain guests says is = joined-plain (line_fields says) (line-are guests says is)
