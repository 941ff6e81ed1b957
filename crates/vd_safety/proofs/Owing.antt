-- What the end of a write makes of the blocks that a flush is to log.
use Rattle.std.proofs.Common.{◌≡◌, ℕ, ◌<◌, ◌⊎◌, Bool, true, false, List, length, refl, sym, ◌∙◌, ap, inl, inr}
use Rattle.std.specs.Prelude.{if◌then◌else◌, slice_set}
use Rattle.std.proofs.lemmas.Bool.{cases_eq}
use Rattle.vd_keeper.specs.Keeping.{KeeperState}
use Rattle.vd_keeper.specs.Moves.{after_owe}
use Rattle.vd_safety.specs.Mirrors.{bit_of}
use Rattle.vd_safety.proofs.Updates.{bit-set-same, bit-set-other}

-- the owed blocks, with this one where it isn't stale
abbrev pub owed-by : (stale : Bool) (owed : List Bool) (b : ℕ) → List Bool
owed-by stale owed b = if stale then owed else slice_set owed b true

pub owing-is : (b : ℕ) (k : KeeperState) → after_owe b k ≡ record k { owed = owed-by (bit_of k.stale b) k.owed b }
owing-is b k = of (bit_of k.stale b)
  where
    of : (stale : Bool) → (if stale then k else record k { owed = slice_set k.owed b true }) ≡ record k { owed = owed-by stale k.owed b }
    of true = refl
    of false = refl

pub owed-more : (stale : Bool) (owed : List Bool) (b : ℕ) → b < length owed → (c : ℕ) → bit_of owed c ≡ true → bit_of (owed-by stale owed b) c ≡ true
owed-more true owed b within c is = is
owed-more false owed b within c is = elim (cases_eq c b) [
  | inl e ↦ ap (bit_of (slice_set owed b true)) e ∙ bit-set-same owed b true within
  | inr ne ↦ bit-set-other owed b c true ne ∙ is
]

pub owed-only : (stale : Bool) (owed : List Bool) (b : ℕ) → (c : ℕ) → bit_of (owed-by stale owed b) c ≡ true → (bit_of owed c ≡ true) ⊎ (c ≡ b)
owed-only true owed b c is = inl is
owed-only false owed b c is = elim (cases_eq c b) [
  | inl e ↦ inr e
  | inr ne ↦ inl (sym (bit-set-other owed b c true ne) ∙ is)
]

pub owed-own : (stale : Bool) (owed : List Bool) (b : ℕ) → b < length owed → (stale ≡ true) ⊎ (bit_of (owed-by stale owed b) b ≡ true)
owed-own true owed b within = inl refl
owed-own false owed b within = inr (bit-set-same owed b true within)
