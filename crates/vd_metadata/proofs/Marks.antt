-- The blocks that were local when a core was made keep their marks where the marks stay, or become more.
use Rattle.std.proofs.Common.{◌≡◌, Bool, List, ◌∙◌, ap, slice_get}
use Rattle.vd_format.specs.declared.map.Entry.{Entry}
use Rattle.vd_keeper.specs.Entries.{union_of}
use Rattle.vd_keeper.proofs.Owed.{either-left}
use Rattle.vd_passes.specs.declared.shape.Shape.{Shape}
use Rattle.vd_machine.specs.Opened.{HaveMarks}

pub same-marks : (shape : Shape) (had : List Entry) {marks marks' : List Bool} → marks' ≡ marks → HaveMarks shape had marks → HaveMarks shape had marks'
same-marks shape had same have b within was = ap (λ (m : List Bool). slice_get m b) same ∙ have b within was

pub more-marks : (shape : Shape) (had : List Entry) (marks more : List Bool) → HaveMarks shape had marks → HaveMarks shape had (union_of marks more)
more-marks shape had marks more have b within was = either-left marks more b (have b within was)
