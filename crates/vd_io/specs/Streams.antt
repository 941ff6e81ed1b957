-- What a read takes from a source, what a write leaves in a sink, and why either may fail.
use Rattle.std.specs.Prelude.{ℕ, ◌≡◌, ◌+◌, ◌-◌, ◌^◌, ◌<◌, ◌≤◌, List, [], ◌++◌, length, min, take, drop, Result, MatchResult, OnOk, OnErr}

-- n bytes went from the front of what was to come to the front of the room
pub record GivesBytes (n : ℕ) (rest rest' room room' : List ℕ) : Type 0 where
  pub bytes : rest ≡ take n room' ++ rest'
  pub others : drop n room' ≡ drop n room
  pub ended : n ≡ 0 → 0 < length room → rest ≡ []

-- a read gave so many bytes, or failed and changed nothing
abbrev pub Reads : {E : Type 0} → Result ℕ E → (rest rest' room room' : List ℕ) → Type 0
Reads result rest rest' room room' = MatchResult result (λ n. GivesBytes n rest rest' room room') (λ _. (rest' ≡ rest) × (room' ≡ room))

-- a front of the text was written
abbrev pub WritesPart : (text before after : List ℕ) → Type 0
WritesPart text before after = (k : ℕ) × (after ≡ before ++ take k text)

-- the text was written, all of it or, where the write failed, a front of it
pub record WritesText {E : Type 0} (text : List ℕ) (result : Result (Unit {0}) E) (before after : List ℕ) : Type 0 where
  pub ok : OnOk result (after ≡ before ++ text)
  pub err : OnErr result (WritesPart text before after)
