-- The status with which a line ends a command.
use Rattle.std.specs.Prelude.{ℕ}
use Rattle.vd_report.specs.declared.line.Line.{Line}
use Rattle.vd_report.specs.declared.line.Line.TheVariants.{Ok, BadWords, NoMemory, SourceFault, NotBuilt, PastTheDisk, BadLine, TooMuch, LinePastTheDisk, NotImage, Version, BadField, TooSmall, OldVersion, BadEntry, DoubleChunk, BadBits, BadRecord, Changed, StoreFault, BaseFault, Made, Tracked, NotLess, NotZero, Worn, Local}

abbrev pub status_of_line : Line → ℕ
status_of_line Ok = 0
status_of_line BadWords = 2
status_of_line NoMemory = 7
status_of_line SourceFault = 6
status_of_line NotBuilt = 8
status_of_line PastTheDisk = 4
status_of_line (BadLine number) = 4
status_of_line (TooMuch number) = 4
status_of_line (LinePastTheDisk number) = 4
status_of_line NotImage = 3
status_of_line (Version version) = 3
status_of_line (BadField field) = 3
status_of_line (TooSmall need have) = 3
status_of_line OldVersion = 3
status_of_line (BadEntry chunk value) = 3
status_of_line (DoubleChunk first second) = 3
status_of_line (BadBits chunk) = 3
status_of_line (BadRecord slot) = 3
status_of_line (Changed field) = 3
status_of_line (StoreFault ticket) = 5
status_of_line (BaseFault ticket) = 5
status_of_line (Made need) = 0
status_of_line (Tracked new) = 0
status_of_line (NotLess tracked) = 1
status_of_line (NotZero sector) = 1
status_of_line (Worn generation) = 1
status_of_line (Local local of) = 0
