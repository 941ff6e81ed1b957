-- A store whose header is new and whose sectors behind it, up to the storage, are zeros, is a new image.
use Rattle.std.proofs.Common.{ℕ, ◌≡◌, ◌<◌, ◌≤◌, inl, inr, Bool, List, length, Some, Err, refl, ap, sym, ◌∙◌, arith}
use Rattle.std.specs.Prelude.{if◌then◌else◌}
use Rattle.vd_law.specs.declared.entry.Sector.{Sector}
use Rattle.vd_format.specs.Headers.{IsValid, header_of}
use Rattle.vd_format.specs.Layouts.{storage_start, store_need}
use Rattle.vd_format.specs.declared.header.HeaderError.TheVariants.{NotImage}
use Rattle.vd_image.specs.Image.{Header, Image, Mapping, Record, Maps, GivesStorage, IsUnnamed, HasNoLater, DiskHas}
use Rattle.vd_image.specs.Layouts.{layout_of}
use Rattle.vd_image.specs.Decoders.{format_of, this_version}
use Rattle.vd_image.specs.Openings.{Opens}
use Rattle.vd_image.specs.CrashImages.{sectors_or}
use Rattle.vd_image.specs.Made.{header_sector, made_image}
use Rattle.std.proofs.lemmas.Bool.{ne_eqb}
use Rattle.vd_format.specs.Numbers.{has_magic}
use Rattle.vd_image.proofs.Layouts.{parts_apart}
use Rattle.vd_image.proofs.Made.{made_opens, made_slot_unread, made_gives_none}
use Rattle.vd_make.specs.Images.{IsNewImage}
use Rattle.vd_format.specs.Background.{zero_sector, background}

-- the image has the made one's header, map and slots
pub record IsLike (h : Header) (image : Image) : Type 0 where
  pub header : image 0 ≡ made_image h 0
  pub map : (c : ℕ) → c < (layout_of h).chunks → image ((layout_of h).map_at c) ≡ made_image h ((layout_of h).map_at c)
  pub slots : (k : ℕ) → k < h.slots → image ((layout_of h).slot_at k) ≡ made_image h ((layout_of h).slot_at k)

slot_unread : (h : Header) (image : Image) (k : ℕ) (r : Record) → IsLike h image → k < h.slots → (format_of h).record_of (image ((layout_of h).slot_at k)) ≡ Some r → ⊥
slot_unread h image k r like within reads = made_slot_unread h k r (ap (λ (v : Sector). (format_of h).record_of v) (sym (like.slots k within)) ∙ reads)

unnamed : (h : Header) (image : Image) (generation chunk : ℕ) → IsLike h image → IsUnnamed (format_of h) (layout_of h) image generation chunk
unnamed h image generation chunk like slot place fact counts names = slot_unread h image slot counts.item like counts.within counts.reads

made_unnamed : (h : Header) (generation chunk : ℕ) → IsUnnamed (format_of h) (layout_of h) (made_image h) generation chunk
made_unnamed h generation chunk slot place fact counts names = made_slot_unread h slot counts.item counts.reads

-- what maps a chunk in the image maps it in the made one
maps_made : (h : Header) (image : Image) (generation chunk : ℕ) (m : Mapping) → IsLike h image → Maps (format_of h) (layout_of h) image generation chunk m → Maps (format_of h) (layout_of h) (made_image h) generation chunk m
maps_made h image generation chunk m like (inl last) = absurd (slot_unread h image last.slot last.counts.item like last.counts.within last.counts.reads)
maps_made h image generation chunk m like (inr page) =
    inr (made_unnamed h generation chunk, page.1, ap (λ (v : Sector). (format_of h).mapping_of v chunk) (sym (like.map chunk page.1)) ∙ page.2)

gives_none : (h : Header) (image : Image) (generation chunk p : ℕ) → IsLike h image → GivesStorage (format_of h) (layout_of h) image generation chunk p → ⊥
gives_none h image generation chunk p like (m, maps, storage) = made_gives_none h generation chunk p (m, maps_made h image generation chunk m like maps, storage)

like_opens : (h : Header) (sectors : ℕ) (image : Image) → IsValid h → h.version ≡ this_version → store_need h ≤ sectors → IsLike h image → Opens sectors image h
like_opens h sectors image valid version room like =
    let opens = made_opens h valid version in
    record {
      reads = ap header_of like.header ∙ opens.reads;
      version = version;
      room = room;
      consistent = record {
        mappings = λ c within. (let good = opens.consistent.mappings c within in (good.0, ap (λ (v : Sector). (format_of h).mapping_of v c) (like.map c within) ∙ good.1, good.2));
        records = λ k within r reads current. absurd (slot_unread h image k r like within reads);
        one_to_one = λ c d p first second. absurd (gives_none h image h.generation c p like first);
      };
    }

like_no_later : (h : Header) (image : Image) → IsLike h image → HasNoLater (format_of h) (layout_of h) image h.generation
like_no_later h image like k r within reads = absurd (slot_unread h image k r like within reads)

like_disk : (h : Header) (image : Image) (base : ℕ → Sector) (s : ℕ) → IsValid h → h.version ≡ this_version → IsLike h image → s < h.size
    → DiskHas (format_of h) (layout_of h) base zero_sector image s (background base zero_sector h.tracked s)
like_disk h image base s valid version like within =
    let apart = parts_apart h valid in
    let chunk = (layout_of h).chunk_of ((layout_of h).block_of s) in
    let inside : chunk < (layout_of h).chunks = apart.chunks ((layout_of h).block_of s) (apart.blocks s within) in
    let opens = like_opens h (store_need h) image valid version (omega arith) like in
    let good = opens.consistent.mappings chunk inside in
    let maps : Maps (format_of h) (layout_of h) image h.generation chunk good.0 = inr (unnamed h image h.generation chunk like, inside, good.1) in
    record {
      header = h;
      reads = opens.reads;
      mapping = good.0;
      maps = maps;
      has = inr (
        (λ p local. gives_none h image h.generation chunk p like (good.0, maps, local.0)),
        ap (λ (b : Bool). if b then zero_sector else background base zero_sector h.tracked s) (sym (good.2.kind refl)),
      );
    }

made_more : (h : Header) (s : ℕ) → 1 ≤ s → made_image h s ≡ zero_sector
made_more h s some = ap (λ (b : Bool). if b then header_sector h else zero_sector) (ne_eqb s 0 (λ none. omega (arith, some, none)))

pub like_new : (h : Header) (image : Image) → image 0 ≡ header_sector h → ((s : ℕ) → 1 ≤ s → s < storage_start h → image s ≡ zero_sector) → IsLike h image
like_new h image first rest = record {
  header = first;
  map = λ c within. (
      rest ((layout_of h).map_at c) (omega arith) (omega (arith, within)) ∙ sym (made_more h ((layout_of h).map_at c) (omega arith)));
  slots = λ k within. (
      rest ((layout_of h).slot_at k) (omega arith) (omega (arith, within)) ∙ sym (made_more h ((layout_of h).slot_at k) (omega arith)));
}

pub new_image : (h : Header) (sectors : List Sector) → IsValid h → h.version ≡ this_version → store_need h ≤ length sectors → sectors_or zero_sector sectors 0 ≡ header_sector h
    → ((s : ℕ) → 1 ≤ s → s < storage_start h → sectors_or zero_sector sectors s ≡ zero_sector) → IsNewImage h sectors
new_image h sectors valid version room first rest =
    let like = like_new h (sectors_or zero_sector sectors) first rest in
    record {
      opens = like_opens h (length sectors) (sectors_or zero_sector sectors) valid version room like;
      no_later = like_no_later h (sectors_or zero_sector sectors) like;
      disk = λ base s within. like_disk h (sectors_or zero_sector sectors) base s valid version like within;
    }

-- zeros are no image
pub zeros_no_image : header_of zero_sector ≡ Err NotImage
unfolding header_of has_magic zero_sector
zeros_no_image = refl
