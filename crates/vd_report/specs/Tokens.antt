-- How sectors are printed.
use Rattle.std.specs.Prelude.{ℕ, ◌==◌, Bool, if◌then◌else◌, List, [], ◌∷◌, ◌++◌, take, slice_index, codes}
use Rattle.std.specs.List.{list_all, flat_map}
use Rattle.vd_law.specs.declared.entry.Sector.{Sector}
use Rattle.hex.specs.Hex.{encode_lower}
use Rattle.vd_report.specs.Lines.{phrase}

-- all bytes are the first one
abbrev pub are_same : List ℕ → Bool
are_same bytes = list_all (λ b. b == slice_index bytes 0) bytes

-- a sector's bytes: a star and the two digits of one byte where all are equal, else the digits of each
abbrev pub token : List ℕ → List ℕ
token bytes = if are_same bytes then codes "*" ++ encode_lower (take 1 bytes) else encode_lower bytes

-- the sectors' tokens, each behind a blank
abbrev pub tokens : List Sector → List ℕ
tokens sectors = flat_map (λ s. codes " " ++ token s.bytes) sectors

-- the line that shows sectors from this one on
abbrev pub show_text : ℕ → List Sector → List ℕ
show_text first sectors = phrase (codes "show") (first ∷ []) ++ (tokens sectors ++ codes "\n")
