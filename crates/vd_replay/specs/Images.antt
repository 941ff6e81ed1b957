-- The image that a store holds.
use Rattle.std.specs.Prelude.{List}
use Rattle.vd_law.specs.declared.entry.Sector.{Sector}
use Rattle.vd_image.specs.Image.{Image}
use Rattle.vd_image.specs.CrashImages.{sectors_or}
use Rattle.vd_format.specs.Background.{zero_sector}

-- past its end there are zeros
abbrev pub image_of : List Sector → Image
image_of held = sectors_or zero_sector held
