-- What a source over a reader of std, and a sink over a writer, are seen as, and where they tell their bytes.
use Rattle.std.specs.Prelude.{◌≡◌, ℕ, ◌+◌, ◌<◌, List, [], length, Option, IsSome, Result, MatchResult, unwrap_or}
use Rattle.vd_law.specs.Counts.{next_count}

-- the reader or writer, and how many calls failed
pub record Over (S : Type 0) : Type 0 where
  pub inner : S
  pub faults : ℕ

module _ {S : Type 0} (known : S → Option (List ℕ)) where
  -- whichever value of this type it is, its bytes are known
  abbrev pub AlwaysKnown : Type 0
  AlwaysKnown = (s : S) → IsSome (known s)

  abbrev pub HasKnownBytes : Over S → Type 0
  HasKnownBytes o = IsSome (known o.inner)

  -- the known bytes, or none
  abbrev pub bytes_of : Over S → List ℕ
  bytes_of o = unwrap_or (known o.inner) []

  -- where the bytes are known, some of the text isn't among those that were added
  abbrev pub Lacks : (text : List ℕ) → (before after : Over S) → Type 0
  Lacks text before after = HasKnownBytes before → length (bytes_of after) < length (bytes_of before) + length text

-- the call that failed is counted, and no other
abbrev pub CountsFault : {A E : Type 0} → Result A E → (before now : ℕ) → Type 0
CountsFault result before now = MatchResult result (λ _. now ≡ before) (λ _. now ≡ next_count before)
