-- What a source and a sink in memory are seen as.
use Rattle.std.specs.Prelude.{ℕ, List}

-- the bytes still to come, the numbers of the reads that fail, how many reads there were, and how many failed
pub record Supply : Type 0 where
  pub rest : List ℕ
  pub fail : List ℕ
  pub calls : ℕ
  pub faults : ℕ

-- what was written, for how many bytes there was room, the numbers of the writes that fail, how many writes there were,
-- and how many failed
pub record Sheet : Type 0 where
  pub written : List ℕ
  pub size : ℕ
  pub fail : List ℕ
  pub calls : ℕ
  pub faults : ℕ
