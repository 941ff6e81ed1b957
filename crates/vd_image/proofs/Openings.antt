-- A store's content opens exactly where it is refused for nothing, and where the laws call it sound.
use Rattle.std.proofs.Common.{ℕ, ◌≡◌, ◌<◌, ◌≤◌, ◌⊎◌, inl, inr, Option, Some, None, Result, Ok, Err, arith, refl, ap, sym, subst, ◌∙◌}
use Rattle.std.proofs.lemmas.Bool.{cases_lt, cases_eq}
use Rattle.vd_format.specs.Headers.{IsValid, unless_wrong, first_wrong, judged_fields, zeros_in, fields_in}
use Rattle.vd_format.proofs.Rules.{none_wrong, valid_from}
use Rattle.vd_format.proofs.Headers.{Reads, No_image, Other_version, Judged, reads}
use Rattle.vd_image.specs.Log.{Sector}
use Rattle.vd_image.specs.Image.{Header, HeaderError, Image, Format, Layout, Geometry, geometry_of, IsConsistent, HasNoLater, IsSound}
use Rattle.vd_image.specs.Layouts.{layout_of}
use Rattle.vd_image.specs.Decoders.{header_of, this_version, format_of}
use Rattle.vd_image.specs.Refusals.{Refuses}
use Rattle.vd_format.specs.Layouts.{store_need}
use Rattle.vd_image.specs.Openings.{OpeningRefusal, TooSmall, BadHeader, BadImage, RefusesOpening, No_sectors, Header_bad, Store_small, Image_bad, IsThisVersion, Opens}
use Rattle.vd_image.proofs.Refusals.{consistent_not_refused, consistent_or_refused, refused_for_one}
use Rattle.vd_image.proofs.Telling.{told_page, told_slot}

-- a header that is read is valid
wrong_none : (h g : Header) (wrong : Option ℕ) → unless_wrong h wrong ≡ Ok g → (wrong ≡ None) × (h ≡ g)
wrong_none h g None told = (refl, cc)
wrong_none h g (Some n) told = absurd cc

read_valid : (sector : Sector) (h : Header) (read : Result Header HeaderError) → Reads sector read → read ≡ Ok h → IsValid h
read_valid sector h read (No_image magic none) told = absurd cc
read_valid sector h read (Other_version magic version other) told = absurd cc
read_valid sector h read (Judged magic version answer) told =
    let right = wrong_none (fields_in sector.bytes) h (first_wrong (judged_fields (fields_in sector.bytes) (zeros_in sector.bytes))) (sym answer ∙ told) in
    subst (λ (g : Header). IsValid g) right.1 (valid_from (fields_in sector.bytes) (zeros_in sector.bytes) version (none_wrong (fields_in sector.bytes) (zeros_in sector.bytes) right.0))

pub header_valid : (sector : Sector) (h : Header) → header_of sector ≡ Ok h → IsValid h
header_valid sector h told = read_valid sector h (header_of sector) (reads sector) told

-- need is at least one sector
needs_some : (h : Header) → 0 < store_need h
needs_some h = omega arith

-- what opens is refused for nothing
pub opens_not_refused : (sectors : ℕ) (image : Image) (h : Header) (r : OpeningRefusal) → Opens sectors image h → RefusesOpening sectors image r → ⊥
opens_not_refused sectors image h (TooSmall need have) opens (No_sectors none) = let room = opens.room in let some = needs_some h in omega arith
opens_not_refused sectors image h (BadHeader e) opens (Header_bad error some bad) = let good = opens.reads in cc
opens_not_refused sectors image h (TooSmall need have) opens (Store_small g some reads small) =
    let good = opens.reads in let same : h ≡ g = cc in let room : store_need g ≤ sectors = subst (λ (x : Header). store_need x ≤ sectors) same opens.room in omega arith
opens_not_refused sectors image h (BadImage r) opens (Image_bad g refusal reads version room refuses) =
    let good = opens.reads in
    let same : g ≡ h = cc in
    consistent_not_refused (format_of h) (layout_of h) image h.generation opens.consistent refusal (subst (λ (x : Header). Refuses (format_of x) (layout_of x) image x.generation refusal) same refuses)

-- and what isn't refused opens
pub opens_or_refused : (sectors : ℕ) (image : Image) → IsThisVersion image → ((h : Header) × Opens sectors image h) ⊎ ((r : OpeningRefusal) × RefusesOpening sectors image r)
opens_or_refused sectors image this = elim (cases_eq sectors 0) [
  | inl none ↦ inr (TooSmall 1 0, No_sectors none)
  | inr some ↦ by_header (omega arith) (header_of (image 0)) refl
]
  where
    by_header : 0 < sectors → (read : Result Header HeaderError) → header_of (image 0) ≡ read → ((h : Header) × Opens sectors image h) ⊎ ((r : OpeningRefusal) × RefusesOpening sectors image r)
    by_header some (Err error) bad = inr (BadHeader error, Header_bad error some bad)
    by_header some (Ok h) reads = elim (cases_lt sectors (store_need h)) [
      | inl small ↦ inr (TooSmall (store_need h) sectors, Store_small h some reads small)
      | inr room ↦
          let valid = header_valid (image 0) h reads in
          elim (consistent_or_refused (format_of h) (layout_of h) image h.generation (λ c within. told_page h image c valid) (λ k within. told_slot h image h.generation k valid)) [
            | inl consistent ↦ inl (h, record { reads = reads; version = this h reads; room = room; consistent = consistent })
            | inr bad ↦ inr (BadImage bad.0, Image_bad h bad.0 reads (this h reads) room bad.1)
          ]
    ]

-- and for one thing alone
pub opening_refused_for_one : (sectors : ℕ) (image : Image) (r q : OpeningRefusal) → RefusesOpening sectors image r → RefusesOpening sectors image q → r ≡ q
opening_refused_for_one sectors image r q (No_sectors none) (No_sectors also) = refl
opening_refused_for_one sectors image r q (No_sectors none) (Header_bad error some bad) = absurd (omega arith)
opening_refused_for_one sectors image r q (No_sectors none) (Store_small h some reads small) = absurd (omega arith)
opening_refused_for_one sectors image r q (No_sectors none) (Image_bad h refusal reads version room refuses) = absurd (let needs = needs_some h in omega arith)
opening_refused_for_one sectors image r q (Header_bad error some bad) (No_sectors none) = absurd (omega arith)
opening_refused_for_one sectors image r q (Header_bad error some bad) (Header_bad other more also) = let same : error ≡ other = cc in ap BadHeader same
opening_refused_for_one sectors image r q (Header_bad error some bad) (Store_small h more reads small) = absurd cc
opening_refused_for_one sectors image r q (Header_bad error some bad) (Image_bad h refusal reads version room refuses) = absurd cc
opening_refused_for_one sectors image r q (Store_small h some reads small) (No_sectors none) = absurd (omega arith)
opening_refused_for_one sectors image r q (Store_small h some reads small) (Header_bad error more bad) = absurd cc
opening_refused_for_one sectors image r q (Store_small h some reads small) (Store_small g more also smaller) = let same : h ≡ g = cc in ap (λ (x : Header). TooSmall (store_need x) sectors) same
opening_refused_for_one sectors image r q (Store_small h some reads small) (Image_bad g refusal also version room refuses) =
    absurd (let same : h ≡ g = cc in let enough : store_need h ≤ sectors = subst (λ (x : Header). store_need x ≤ sectors) (sym same) room in omega arith)
opening_refused_for_one sectors image r q (Image_bad h refusal reads version room refuses) (No_sectors none) = absurd (let needs = needs_some h in omega arith)
opening_refused_for_one sectors image r q (Image_bad h refusal reads version room refuses) (Header_bad error some bad) = absurd cc
opening_refused_for_one sectors image r q (Image_bad h refusal reads version room refuses) (Store_small g some also small) =
    absurd (let same : h ≡ g = cc in let enough : store_need g ≤ sectors = subst (λ (x : Header). store_need x ≤ sectors) same room in omega arith)
opening_refused_for_one sectors image r q (Image_bad h refusal reads version room refuses) (Image_bad g other also this enough rejects) =
    let same : g ≡ h = cc in
    ap BadImage (refused_for_one (format_of h) (layout_of h) image h.generation refusal other refuses (subst (λ (x : Header). Refuses (format_of x) (layout_of x) image x.generation other) same rejects))

-- The decoding and the layout are the same by each header that agrees with another but for `tracked` and the generation.

abbrev header_by : Geometry → Header
header_by z = record { version = z.version; block = z.block; chunk = z.chunk; storage = z.storage; slots = z.slots; size = z.size; tracked = 0; generation = 0 }

pub same_format : (g h : Header) → geometry_of g ≡ geometry_of h → format_of g ≡ format_of h
same_format g h same = ap (λ (z : Geometry). format_of (header_by z)) same

pub same_layout : (g h : Header) → geometry_of g ≡ geometry_of h → layout_of g ≡ layout_of h
same_layout g h same = ap (λ (z : Geometry). layout_of (header_by z)) same

pub same_need : (g h : Header) → geometry_of g ≡ geometry_of h → store_need g ≡ store_need h
same_need g h same = ap (λ (z : Geometry). store_need (header_by z)) same

-- an image that the laws call sound, by the numbers of some header, opens, and no slot has a record of a later generation
pub sound_opens : (g : Header) (sectors : ℕ) (image : Image) → g.version ≡ this_version → store_need g ≤ sectors → IsSound (format_of g) (layout_of g) image
    → (h : Header) × (geometry_of h ≡ geometry_of g) × Opens sectors image h × HasNoLater (format_of h) (layout_of h) image h.generation
sound_opens g sectors image version room sound = (
  sound.header,
  sound.geometry,
  record {
    reads = sound.reads;
    version = ap (λ (z : Geometry). z.version) sound.geometry ∙ version;
    room = subst (λ (n : ℕ). n ≤ sectors) (same_need g sound.header (sym sound.geometry)) room;
    consistent = subst (λ (l : Layout). IsConsistent (format_of sound.header) l image sound.header.generation) (same_layout g sound.header (sym sound.geometry))
        (subst (λ (f : Format). IsConsistent f (layout_of g) image sound.header.generation) (same_format g sound.header (sym sound.geometry)) sound.consistent);
  },
  subst (λ (l : Layout). HasNoLater (format_of sound.header) l image sound.header.generation) (same_layout g sound.header (sym sound.geometry))
      (subst (λ (f : Format). HasNoLater f (layout_of g) image sound.header.generation) (same_format g sound.header (sym sound.geometry)) sound.no_later),
)

-- and the other way
pub opens_sound : (sectors : ℕ) (image : Image) (h : Header) → Opens sectors image h → HasNoLater (format_of h) (layout_of h) image h.generation → IsSound (format_of h) (layout_of h) image
opens_sound sectors image h opens no_later = record { header = h; reads = opens.reads; geometry = refl; consistent = opens.consistent; no_later = no_later }
