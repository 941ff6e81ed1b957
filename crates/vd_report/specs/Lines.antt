-- The lines that name what became of a command, or of a part of one.
use Rattle.std.specs.Prelude.{ℕ, List, [], ◌∷◌, ◌++◌, codes, decimal}
use Rattle.std.specs.List.{flat_map}
use Rattle.vd_report.specs.declared.line.Line as line
use Rattle.vd_report.specs.declared.line.Line.TheVariants.{Ok, BadWords, NoMemory, SourceFault, NotBuilt, PastTheDisk, BadLine, TooMuch, LinePastTheDisk, NotImage, Version, BadField, TooSmall, OldVersion, BadEntry, DoubleChunk, BadBits, BadRecord, Changed, StoreFault, BaseFault, Made, Tracked, NotLess, NotZero, Worn, Local}
use Rattle.vd_report.specs.declared.line.About as about
use Rattle.vd_report.specs.declared.line.About.TheVariants.{Command, Closing, Reopening, Shown}

-- words, and numbers behind them, each behind a blank
abbrev pub phrase : List ℕ → List ℕ → List ℕ
phrase words numbers = words ++ flat_map (λ n. codes " " ++ decimal n) numbers

abbrev pub line_text : line.Line → List ℕ
line_text Ok = codes "ok"
line_text BadWords = codes "bad words"
line_text NoMemory = codes "no memory"
line_text SourceFault = codes "source fault"
line_text NotBuilt = codes "not built"
line_text PastTheDisk = codes "past the disk"
line_text (BadLine number) = phrase (codes "line") (number ∷ []) ++ codes ": bad"
line_text (TooMuch number) = phrase (codes "line") (number ∷ []) ++ codes ": too much"
line_text (LinePastTheDisk number) = phrase (codes "line") (number ∷ []) ++ codes ": past the disk"
line_text NotImage = codes "not image"
line_text (Version version) = phrase (codes "version") (version ∷ [])
line_text (BadField field) = phrase (codes "bad field") (field ∷ [])
line_text (TooSmall need have) = phrase (codes "too small") (need ∷ have ∷ [])
line_text OldVersion = codes "old version"
line_text (BadEntry chunk value) = phrase (codes "bad entry") (chunk ∷ value ∷ [])
line_text (DoubleChunk first second) = phrase (codes "double chunk") (first ∷ second ∷ [])
line_text (BadBits chunk) = phrase (codes "bad bits") (chunk ∷ [])
line_text (BadRecord slot) = phrase (codes "bad record") (slot ∷ [])
line_text (Changed field) = phrase (codes "changed") (field ∷ [])
line_text (StoreFault ticket) = phrase (codes "store fault") (ticket ∷ [])
line_text (BaseFault ticket) = phrase (codes "base fault") (ticket ∷ [])
line_text (Made need) = phrase (codes "made") (need ∷ [])
line_text (Tracked new) = phrase (codes "tracked") (new ∷ [])
line_text (NotLess tracked) = phrase (codes "not less") (tracked ∷ [])
line_text (NotZero sector) = phrase (codes "not zero") (sector ∷ [])
line_text (Worn generation) = phrase (codes "worn") (generation ∷ [])
line_text (Local local of) = phrase (codes "local") (local ∷ []) ++ phrase (codes " of") (of ∷ [])

-- what a line begins with: nothing, or what it is about
abbrev pub about_text : about.About → List ℕ
about_text Command = []
about_text Closing = codes "close "
about_text Reopening = codes "reopen "
about_text (Shown first) = phrase (codes "show") (first ∷ []) ++ codes " "
