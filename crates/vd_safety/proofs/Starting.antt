-- What a core is made from, by the steps of its making: the store was clean, a flush succeeded, the image was read.
use Rattle.std.proofs.Common.{ℕ, ◌≡◌, List, length, Some, ◌++◌}
use Rattle.std.specs.Prelude.{⊤, Ok, slice_get}
use Rattle.vd_law.specs.declared.entry.Sector.{Sector}
use Rattle.vd_device.specs.Disks.{Disk, IsClean}
use Rattle.vd_device.specs.Now.{flush_entries}
use Rattle.vd_device.specs.Quiet.{AddsNoWrite}
use Rattle.vd_image.specs.Image.{HasNoLater, DiskHas}
use Rattle.vd_image.specs.Layouts.{layout_of}
use Rattle.vd_image.specs.Decoders.{format_of}
use Rattle.vd_replay.specs.Images.{image_of}
use Rattle.vd_replay.specs.States.{IsWholeState, IsState}
use Rattle.vd_replay.specs.declared.state.State.{State}
use Rattle.vd_safety.proofs.Opening.{IsStart}
use Rattle.vd_safety.proofs.Clean.{WasClean, AreLeft, AreInside, clean-left}
use Rattle.vd_safety.proofs.Going.{was-clean, inside-quiet}
use Rattle.vd_format.specs.Background.{zero_sector, base_at}

-- The store `old` was clean; a flush made `mid` of it, and calls that only read `new`, from which the state was read.
pub record IsRead (s : State) (old mid new : Disk) (base disk : List Sector) : Type 0 where
  pub clean : IsClean old
  pub inside : AreInside old
  pub number : ℕ
  pub done : ⊤
  pub start : mid.start ≡ old.start
  pub flush : mid.log ≡ old.log ++ flush_entries number (Ok done)
  pub reads : AddsNoWrite mid new
  pub left : AreLeft new
  pub many : length new.held ≡ length new.start
  pub whole : IsWholeState s
  pub state : IsState (length new.held) (image_of new.held) s.header s
  pub no_later : HasNoLater (format_of s.header) (layout_of s.header) (image_of new.held) s.header.generation
  pub size : length disk ≡ s.header.size
  pub shows : (x : ℕ) (v : Sector) → slice_get disk x ≡ Some v → DiskHas (format_of s.header) (layout_of s.header) (base_at zero_sector base) zero_sector (image_of new.held) x v

-- the log since the store was clean
since : (s : State) (old mid new : Disk) (base disk : List Sector) → IsRead s old mid new base disk → WasClean old new
since s old mid new base disk h = was-clean old mid new h.number h.done h.clean h.start h.flush h.reads

pub read-inside : (s : State) (old mid new : Disk) (base disk : List Sector) → IsRead s old mid new base disk → AreInside new
read-inside s old mid new base disk h =
    let was = since s old mid new base disk h in
    inside-quiet old new (record { start = was.start; more = was.more; none = was.none; log = was.log }) h.inside

pub read-start : (s : State) (old mid new : Disk) (base disk : List Sector) → IsRead s old mid new base disk → IsStart s new.start new.held base disk new.log
read-start s old mid new base disk h =
    let was = since s old mid new base disk h in
    record {
      whole = h.whole;
      state = h.state;
      no_later = h.no_later;
      left = clean-left old new was h.left h.many (read-inside s old mid new base disk h);
      flush = was.flush;
      flushes = was.flushes;
      size = h.size;
      shows = h.shows;
    }
