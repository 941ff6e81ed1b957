-- Which bytes spell a number.
use Rattle.std.proofs.Common.{ℕ, ◌≡◌, ◌<◌, ◌^◌, ◌↔◌, List, length, get_or, Option, Some, None, Result, Ok, Err, Bool, true, false, cond, refl, sym, ap, ◌∙◌, subst, arith, inl, inr}
use Rattle.std.specs.Fmt.{decimal}
use Rattle.std.specs.Str.{IsUtf8}
use Rattle.std.specs.Str.Parse.{digits_value, ParsesUnsigned}
use Rattle.std.specs.Result.{result_ok, OkIff}
use Rattle.std.proofs.lemmas.Bool.{and_parts, and_from, leb-true, ltb-true, le-leb, lt-ltb, cases_lt}
use Rattle.std.proofs.lemmas.Fmt.{IsAscii-from_digits, digits_decimal, length-decimal-le, digits_value-decimal, decimal_digit, decimal_nonempty, first_decimal, decimal-digits_value}
use Rattle.std.proofs.lemmas.Slice.Eq.{bytes_eq-Decides}
use Rattle.std.proofs.lemmas.Str.{IsUtf8-from_ascii}
use Rattle.std.proofs.lemmas.Str.Parse.{IsNumeralModel, numerals_by_value, tells_by_index, parse_digits, digits_value_short}
use Rattle.std.proofs.lemmas.Option.{cond_some}
use Rattle.vd_decimal.specs.Numbers.{SpellsNumber, number_in, AreDigits, ArePlain}

own : IsNumeralModel AreDigits (digits_value 10)
own = numerals_by_value _ tells_by_index

pub IsUtf8-digits : (bytes : List ℕ) → AreDigits bytes → IsUtf8 bytes
IsUtf8-digits bytes d = IsUtf8-from_ascii bytes (IsAscii-from_digits bytes (own.to bytes d))

-- what is printed begins with 0 only where it is `0`
one_zero : (n : ℕ) → n < 2 ^ 64 → get_or (decimal n) 0 0 ≡ 48 → length (decimal n) ≡ 1
one_zero n fits zero =
    elim (cases_lt 0 n) [
      | inl some ↦ let above : 48 < get_or (decimal n) 0 0 = first_decimal n some fits in absurd (omega arith)
      | inr none ↦ ap length (decimal_digit n (omega arith))
    ]

pub spells-plain : (most : ℕ) (bytes : List ℕ) (n : ℕ) → SpellsNumber most bytes n → ArePlain most bytes
spells-plain most bytes n s = record {
  few = s.digits;
  digits = rw s.printed (digits_decimal own n s.fits);
  no_zero = λ many zero. let one : length bytes ≡ 1 = ap length s.printed ∙ one_zero n s.fits (rw s.printed at zero) in omega arith;
}

plain-spells : (most : ℕ) (bytes : List ℕ) → ArePlain most bytes → 0 < length bytes → digits_value 10 bytes < 2 ^ 64 → SpellsNumber most bytes (digits_value 10 bytes)
plain-spells most bytes p some fits = record {
  printed = sym (decimal-digits_value own bytes p.digits some (λ zero. elim (cases_lt 1 (length bytes)) [ inl many ↦ absurd (p.no_zero many zero) | inr one ↦ omega arith ]) fits);
  digits = p.few;
  fits = fits;
}

spells-value : (most : ℕ) (bytes : List ℕ) (n : ℕ) → SpellsNumber most bytes n → digits_value 10 bytes ≡ n
spells-value most bytes n s = rw s.printed (digits_value-decimal own n s.fits)

spells-some : (most : ℕ) (bytes : List ℕ) (n : ℕ) → SpellsNumber most bytes n → 0 < length bytes
spells-some most bytes n s = rw s.printed (decimal_nonempty n s.fits)

parsed-some : {E : Type 0} (most : ℕ) (bytes : List ℕ) → ArePlain most bytes → (r : Result ℕ E) → OkIff r ((0 < length bytes) × (digits_value 10 bytes < 2 ^ 64)) (digits_value 10 bytes)
    → (n : ℕ) → (result_ok r ≡ Some n) ↔ SpellsNumber most bytes n
parsed-some most bytes p (Ok m) ((some, fits), value) n = (
  λ e. let same : m ≡ n = cc in subst (SpellsNumber most bytes) (sym value ∙ same) (plain-spells most bytes p some fits),
  λ s. ap Some (value ∙ spells-value most bytes n s),
)
parsed-some most bytes p (Err _) fails n = (
  λ e. absurd (cc),
  λ s. absurd (fails (spells-some most bytes n s, rw (spells-value most bytes n s) s.fits)),
)

-- what is parsed is the number that is spelled
pub parse-spells : {E : Type 0} (most : ℕ) (bytes : List ℕ) (r : Result ℕ E) → ArePlain most bytes → ParsesUnsigned 64 10 bytes r
    → (n : ℕ) → (result_ok r ≡ Some n) ↔ SpellsNumber most bytes n
parse-spells most bytes r p parsed n = parsed-some most bytes p r (parse_digits own 64 bytes r parsed p.digits) n

-- where the bytes have not the form, they spell none
pub plain-none : (most : ℕ) (bytes : List ℕ) → (ArePlain most bytes → ⊥) → (n : ℕ) → (None ≡ Some n) ↔ SpellsNumber most bytes n
plain-none most bytes other n = (λ e. absurd (cc), λ s. absurd (other (spells-plain most bytes n s)))

if-some : (b : Bool) (m n : ℕ) → b ≡ true → m ≡ n → cond b (Some m) None ≡ Some n
if-some true m n t e = ap Some e
if-some false m n t e = absurd (cc)

pub number_in-exact : (most : ℕ) (bytes : List ℕ) (n : ℕ) → (number_in most bytes ≡ Some n) ↔ SpellsNumber most bytes n
unfolding number_in
number_in-exact most bytes n = (
  λ e.
      let found = cond_some _ _ _ e in
      let both = and_parts _ _ found.0 in
      let first = and_parts _ _ both.0 in
      subst (SpellsNumber most bytes) found.1 (record {
        printed = (bytes_eq-Decides _ _).0 first.0;
        digits = leb-true _ _ first.1;
        fits = ltb-true _ _ both.1;
      }),
  λ s.
      let value = spells-value most bytes n s in
      let printed : bytes ≡ decimal (digits_value 10 bytes) = s.printed ∙ ap decimal (sym value) in
      let fits : digits_value 10 bytes < 2 ^ 64 = rw value s.fits in
      if-some _ _ _ (and_from _ _ (and_from _ _ ((bytes_eq-Decides _ _).1 printed) (le-leb _ _ s.digits)) (lt-ltb _ _ fits)) value,
)

same-numbers : (o p : Option ℕ) → ((n : ℕ) → o ≡ Some n → p ≡ Some n) → ((n : ℕ) → p ≡ Some n → o ≡ Some n) → o ≡ p
same-numbers None None f g = refl
same-numbers None (Some n) f g = g n refl
same-numbers (Some n) p f g = sym (f n refl)

-- what is some number exactly where the bytes spell it is the number in them
pub exact-value : (most : ℕ) (bytes : List ℕ) (o : Option ℕ) → ((n : ℕ) → (o ≡ Some n) ↔ SpellsNumber most bytes n) → o ≡ number_in most bytes
exact-value most bytes o exact =
    same-numbers o (number_in most bytes) (λ n e. (number_in-exact most bytes n).1 ((exact n).0 e)) (λ n e. (exact n).1 ((number_in-exact most bytes n).0 e))

-- a number of so many digits
pub spells-below : (most : ℕ) (bytes : List ℕ) (n : ℕ) → SpellsNumber most bytes n → n < 10 ^ most
spells-below most bytes n s = rw (← spells-value most bytes n s) (digits_value_short own bytes most (spells-plain most bytes n s).digits s.digits)

pub decimal-spells : (most n : ℕ) → 0 < most → n < 10 ^ most → n < 2 ^ 64 → SpellsNumber most (decimal n) n
decimal-spells most n some short fits = record { printed = refl; digits = length-decimal-le most n some short fits; fits = fits }
