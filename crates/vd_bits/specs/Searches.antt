-- What a search of a set by its levels finds: a word of `span` numbers, of which the first is word 0, and then a number in it.
use Rattle.std.specs.Prelude.{◌≡◌, ℕ, ◌/◌, ◌<◌, ◌≤◌, Bool, false, true, List, length, Some, slice_get}

-- a number of the word is marked
abbrev pub HasOne : List Bool → (span word : ℕ) → Type 0
HasOne marked span word = (i : ℕ) × (i / span ≡ word) × (slice_get marked i ≡ Some true)

-- no number of the word is marked
abbrev pub NoneOf : List Bool → (span word : ℕ) → Type 0
NoneOf marked span word = (i : ℕ) → i / span ≡ word → i < length marked → slice_get marked i ≡ Some false

-- no number of the word of 64 numbers in which `from` stands is marked, from there on
abbrev pub NoneInWord : List Bool → (from : ℕ) → Type 0
NoneInWord marked from = (at : ℕ) → from ≤ at → at / 64 ≡ from / 64 → at < length marked → slice_get marked at ≡ Some false

-- `at` is the lowest marked number of the word
pub record IsLowestOf (marked : List Bool) (span word at : ℕ) : Type 0 where
  pub is_marked : slice_get marked at ≡ Some true
  pub inside : at / span ≡ word
  pub below : (i : ℕ) → i / span ≡ word → i < at → slice_get marked i ≡ Some false

-- the word has a marked number, all its numbers come at `from` or later, and those from there up to it are not marked
pub record IsFirstWord (marked : List Bool) (from span word : ℕ) : Type 0 where
  pub has : HasOne marked span word
  pub reached : (i : ℕ) → i / span ≡ word → from ≤ i
  pub below : (i : ℕ) → from ≤ i → i / span < word → i < length marked → slice_get marked i ≡ Some false
