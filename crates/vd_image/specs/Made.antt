-- A new image: its header, and zeros everywhere else.
use Rattle.std.specs.Prelude.{◌==◌, if◌then◌else◌}
use Rattle.vd_format.specs.Background.{zero_sector}
use Rattle.vd_format.specs.Headers.{spelling}
use Rattle.vd_image.specs.Log.{Sector}
use Rattle.vd_image.specs.Image.{Header, Image}

abbrev pub header_sector : Header → Sector
header_sector h = record { bytes = spelling h }

abbrev pub made_image : Header → Image
made_image h s = if s == 0 then header_sector h else zero_sector

-- a header of 16 blocks of 8 sectors in 4 chunks, over 3 storage chunks and 4 slots
abbrev pub small_header : Header
small_header = record { version = 2; block = 8; chunk = 4; storage = 3; slots = 4; size = 128; tracked = 96; generation = 1 }
