-- A set of numbers, and above it the levels of flags by which it is searched.
use Rattle.std.specs.Prelude.{◌≡◌, ℕ, ◌+◌, ◌*◌, ◌/◌, ◌^◌, ◌<◌, ◌≤◌, Bool, true, List, length, Some, slice_get}
use Rattle.vd_bits.specs.Marks.{count_true}
use Rattle.vd_bits.specs.Searches.{HasOne}
use Rattle.vd_bits.specs.declared.marked.Marked.TheInside.{Inside}

-- the words have a flag for each run of `span` numbers, which is up where the set has a member in the run
pub record Summarizes (span : ℕ) (marked words : List Bool) : Type 0 where
  pub enough : length marked ≤ span * length words
  pub needed : span * length words < length marked + span
  pub up : (i : ℕ) → slice_get marked i ≡ Some true → slice_get words (i / span) ≡ Some true
  pub down : (word : ℕ) → slice_get words word ≡ Some true → HasOne marked span word

-- each level has a flag for each word of 64 flags of the level below, so that a flag of level n is that of 64 ^ (n + 1) numbers
abbrev pub AreLevels : (marked : List Bool) (above : List (List Bool)) → Type 0
AreLevels marked above = (n : ℕ) (level : List Bool) → slice_get above n ≡ Some level → Summarizes (64 ^ (n + 1)) marked level

-- each level has the word of a number
abbrev pub HasWord : (above : List (List Bool)) (page : ℕ) → Type 0
HasWord above page = (n : ℕ) (level : List Bool) → slice_get above n ≡ Some level → page / 64 ^ (n + 1) < length level

-- the levels of a set, of which the last has one word
pub record IsCovered (marked : List Bool) (above : List (List Bool)) : Type 0 where
  pub levels : AreLevels marked above
  pub last : length marked ≤ 64 ^ (length above + 1)

-- the members are counted, and numbers have 64 bits
pub record IsCounted (set : Inside) : Type 0 where
  pub count : set.count ≡ count_true set.flags
  pub fits : length set.flags < 2 ^ 64
  pub covered : IsCovered set.flags set.above.items
