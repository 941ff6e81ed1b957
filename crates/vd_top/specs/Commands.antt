-- What the words are answered.
use Rattle.std.specs.Prelude.{ℕ, ◌≡◌, ◌<◌, List, None}
use Rattle.vd_device.specs.declared.store.Store as store
use Rattle.vd_device.specs.declared.base.Base as base
use Rattle.vd_io.specs.declared.source.Source as source
use Rattle.vd_format.specs.declared.header.Header.{Header}
use Rattle.vd_format.specs.Layouts.{store_need}
use Rattle.vd_command.specs.declared.command.Command.TheVariants.{Show}
use Rattle.vd_command.specs.Words.{Spells}
use Rattle.vd_report.specs.declared.line.Line.TheVariants.{BadWords}
use Rattle.vd_run.specs.declared.ending.End.{End}
use Rattle.vd_report.specs.Outcomes.{Outcome, Says}
use Rattle.vd_show.specs.Showing.{Finds}
use Rattle.vd_run.specs.Running.{RunEnds}
use Rattle.vd_make.specs.Making.{MakingEnds}
use Rattle.vd_make.specs.Images.{Makes}
use Rattle.vd_top.specs.Asks.{AsksFor, AsksRun, IsNoRun, IsNoCommand}
use Rattle.vd_device.specs.Devices.{Devices, devices}

module _ {S B : Type 0} (g : store.Ghosts S) (h : base.Ghosts B) where
  -- the answer to words that are no run
  pub data Answers (words : List (List ℕ)) (d d' : Devices S B) : Outcome → Type 0 where
    Outside : IsNoCommand words → Answers words d d' (Says BadWords)
    Shows : (first count : ℕ) (outcome : Outcome) → Spells words (Show first count) → Finds g h first count d d' outcome → Answers words d d' outcome
    Is_made_for : (header : Header) (outcome : Outcome) → AsksFor words (h.sectors d.base) header
        → MakingEnds g header d.store d'.store outcome → Answers words d d' outcome

  -- what making leaves of the image that the words ask for, where they do
  abbrev pub MakesWhatIsAsked : (words : List (List ℕ)) (status : ℕ) → (d d' : Devices S B) → Type 0
  MakesWhatIsAsked words status d d' = (header : Header) → AsksFor words (h.sectors d.base) header → Makes g header status d.store d'.store

  -- the words ask for no image that has room
  abbrev pub HasNoRoomFor : (words : List (List ℕ)) → Devices S B → Type 0
  HasNoRoomFor words d = (header : Header) → AsksFor words (h.sectors d.base) header → g.sectors d.store < store_need header

module _ {S B I : Type 0} (g : store.Ghosts S) (h : base.Ghosts B) (i : source.Ghosts I) where
  -- The answer to words, with what was handed out. The source is only read by a run.
  pub data IsDone (words : List (List ℕ)) (d : Devices S B) (end : End S B) (source source' : I) : Outcome → Type 0 where
    Is_answered : (outcome : Outcome) → IsNoRun words → source' ≡ source → end.history ≡ None → Answers g h words d (devices end.store end.base) outcome
        → IsDone words d end source source' outcome
    Is_run : (outcome : Outcome) → AsksRun words → RunEnds g h i d end source source' outcome → IsDone words d end source source' outcome
