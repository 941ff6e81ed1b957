-- What a settled base read makes of a buffer.
use Rattle.std.specs.Prelude.{◌≡◌, ◌-◌, List, ◌++◌, length, replicate}
use Rattle.vd_law.specs.declared.entry.Sector.{Sector}
use Rattle.vd_device.specs.declared.base.Base as base
use Rattle.vd_device.specs.declared.ticket.Ticket.{Ticket}
use Rattle.vd_device.specs.declared.settled.Settled.{Settled}
use Rattle.vd_device.specs.declared.settled.Settled.TheVariants.{Done, NotYet, Failed}
use Rattle.vd_device.specs.Bases.{SettlesInBase}
use Rattle.vd_format.specs.Background.{zero_sector}

-- what was read comes first, and zeros behind it; else the buffer stays
abbrev pub buffer_after : Settled → (content old : List Sector) → List Sector
buffer_after Done content old = content ++ replicate (length old - length content) zero_sector
buffer_after (NotYet same) content old = old
buffer_after (Failed number) content old = old

module _ {B : Type 0} (h : base.Ghosts B) where
  -- a base read was settled, over what stood at the buffer's front
  pub record BufferSettled (answer : Settled) (ticket : Ticket) (old new : List Sector) (b b' : B) : Type 0 where
    pub front : List Sector
    pub content : List Sector
    pub settles : SettlesInBase h answer ticket front content b b'
    pub long : length content ≡ ticket.count
    pub after : new ≡ buffer_after answer content old
