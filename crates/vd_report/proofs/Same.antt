-- The token of a sector whose bytes are all the same, and of one whose bytes are not.
use Rattle.std.proofs.Common.{◌≡◌, ℕ, ◌+◌, Bool, true, false, List, [], ◌∷◌, ◌++◌, length, take, drop, get_or, eqb, sym, ◌∙◌, ap, refl, arith}
use Rattle.std.proofs.lemmas.Bool.{eqb-true, eq-eqb}
use Rattle.std.proofs.lemmas.List.Sums.{AllPass-from_list_all, list_all-from_AllPass}
use Rattle.std.proofs.lemmas.List.{take_all}
use Rattle.std.specs.Prelude.{codes}
use Rattle.std.specs.List.{All}
use Rattle.hex.specs.Hex.{encode_lower}
use Rattle.vd_report.specs.Tokens.{are_same, token}

are_same-all : (bytes : List ℕ) (byte : ℕ) → All (λ b. b ≡ byte) bytes → are_same bytes ≡ true
are_same-all [] byte all = refl
are_same-all (b ∷ bytes) byte all = list_all-from_AllPass (λ x. eqb x b) (b ∷ bytes)
    (λ k d inside. eq-eqb _ _ (all k d inside ∙ sym (all 0 0 (omega arith))))

all-are_same : (bytes : List ℕ) → are_same bytes ≡ true → All (λ b. b ≡ get_or bytes 0 0) bytes
all-are_same bytes same = λ k d inside. eqb-true _ _ (AllPass-from_list_all (λ b. eqb b (get_or bytes 0 0)) bytes same k d inside)

pub token-same : (bytes : List ℕ) (byte : ℕ) → All (λ b. b ≡ byte) bytes → token bytes ≡ codes "*" ++ encode_lower (take 1 bytes)
token-same bytes byte all = rw (are_same-all bytes byte all) refl

pub token-mixed : (bytes : List ℕ) → ((byte : ℕ) → ¬ (All (λ b. b ≡ byte) bytes)) → token bytes ≡ encode_lower bytes
token-mixed bytes mixed = cases (are_same bytes) refl where
  cases : (b : Bool) → are_same bytes ≡ b → token bytes ≡ encode_lower bytes
  cases true is = absurd (mixed (get_or bytes 0 0) (all-are_same bytes is))
  cases false is = rw is refl

-- what stands behind a first element, cut at its own length
pub take-behind : (n first : ℕ) (all rest : List ℕ) → all ≡ first ∷ rest → length all ≡ n + 1 → take n (drop 1 all) ≡ rest
take-behind n first all rest is size = rw is (take_all n rest (omega (arith, ap length is)))
