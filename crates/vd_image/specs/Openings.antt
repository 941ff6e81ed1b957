-- Whether the content of a store opens as an image of version 2, and why it doesn't. Of an image of version 1 nothing is said here.
use Rattle.std.specs.Prelude.{ℕ, ◌≡◌, ◌<◌, ◌≤◌, Ok, Err}
use Rattle.vd_format.specs.Layouts.{store_need}
use Rattle.vd_image.specs.Image.{Header, HeaderError, Image, IsConsistent}
use Rattle.vd_image.specs.Layouts.{layout_of}
use Rattle.vd_image.specs.Decoders.{header_of, this_version, format_of}
use Rattle.vd_image.specs.Refusals.{Refusal, Refuses}

pub data OpeningRefusal : Type 0 where
  -- the store has fewer sectors than are needed
  TooSmall : (need have : ℕ) → OpeningRefusal
  BadHeader : (error : HeaderError) → OpeningRefusal
  BadImage : (refusal : Refusal) → OpeningRefusal

-- A store of so many sectors that holds this image is refused for this, and for nothing that comes before.
pub data RefusesOpening (sectors : ℕ) (image : Image) : OpeningRefusal → Type 0 where
  No_sectors : sectors ≡ 0 → RefusesOpening sectors image (TooSmall 1 0)
  Header_bad : (error : HeaderError) → 0 < sectors → header_of (image 0) ≡ Err error → RefusesOpening sectors image (BadHeader error)
  Store_small : (h : Header) → 0 < sectors → header_of (image 0) ≡ Ok h → sectors < store_need h → RefusesOpening sectors image (TooSmall (store_need h) sectors)
  Image_bad : (h : Header) (refusal : Refusal) → header_of (image 0) ≡ Ok h → h.version ≡ this_version → store_need h ≤ sectors → Refuses (format_of h) (layout_of h) image h.generation refusal → RefusesOpening sectors image (BadImage refusal)

-- the header is of the version that is read here, if there is one
abbrev pub IsThisVersion : Image → Type 0
IsThisVersion image = (h : Header) → header_of (image 0) ≡ Ok h → h.version ≡ this_version

-- it opens with this header
pub record Opens (sectors : ℕ) (image : Image) (h : Header) : Type 0 where
  pub reads : header_of (image 0) ≡ Ok h
  pub version : h.version ≡ this_version
  pub room : store_need h ≤ sectors
  pub consistent : IsConsistent (format_of h) (layout_of h) image h.generation
