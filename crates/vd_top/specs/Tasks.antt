-- What words ask for, as one value.
use Rattle.std.specs.Prelude.{ℕ, ◌≡◌, ◌≤◌, List}
use Rattle.vd_format.specs.declared.header.Header.{Header}
use Rattle.vd_format.specs.Headers.{IsValid}
use Rattle.vd_command.specs.declared.command.Command.TheVariants as commands
use Rattle.vd_command.specs.Words.{Spells}
use Rattle.vd_top.specs.declared.commands.Task as task
use Rattle.vd_top.specs.declared.commands.Task.TheVariants.{Show, Make, Run, Nothing}
use Rattle.vd_top.specs.Asks.{AsksFor, IsNoMake, AsksRun, IsNoRun, IsNoCommand}

-- over a base of so many sectors the words ask for an image with this valid header, and for no other
pub record IsMaking (words : List (List ℕ)) (base_sectors : ℕ) (h : Header) : Type 0 where
  pub asks : AsksFor words base_sectors h
  pub one : (other : Header) → AsksFor words base_sectors other → other ≡ h
  pub valid : IsValid h
  pub version : h.version ≡ 2
  pub no_run : IsNoRun words

-- over a base of so many sectors the words ask for this, and for nothing else
abbrev pub IsTask : (words : List (List ℕ)) (base_sectors : ℕ) → task.Task → Type 0
IsTask words base_sectors (Show first count) = Spells words (commands.Show first count) × (count ≤ 2048) × IsNoMake words × IsNoRun words
IsTask words base_sectors (Make h) = IsMaking words base_sectors h
IsTask words base_sectors Run = AsksRun words × IsNoMake words
IsTask words base_sectors Nothing = IsNoCommand words
