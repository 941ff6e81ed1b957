-- The status that the program ends with.
use Rattle.std.specs.Prelude.{ℕ, ◌≡◌, ◌<◌, ◌⊎◌}

-- It is one that the command may answer, or 6 in place of such a one below 2, where the text could not be written; or 5 or
-- 7, where a file could not be opened or there was no memory, and there was no command.
abbrev pub IsStatus : (MayAnswer : ℕ → Type 0) → ℕ → Type 0
IsStatus MayAnswer status = ((status ≡ 5) ⊎ (status ≡ 7))
    ⊎ ((answer : ℕ) × MayAnswer answer × ((status ≡ answer) ⊎ ((status ≡ 6) × (answer < 2))))
