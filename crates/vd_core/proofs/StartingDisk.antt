-- What the guest's disk had at opening, by the state that was read from its image.
use Rattle.std.proofs.Common.{◌≡◌, ℕ, ◌+◌, ◌-◌, ◌*◌, ◌/◌, ◌<◌, ◌≤◌, inl, inr, sym, ◌∙◌, ap, subst, arith, Some, Ok}
use Rattle.std.proofs.Math.Nat.{mul_comm}
use Rattle.std.proofs.lemmas.Nat.{div-mul-add}
use Rattle.vd_law.specs.declared.entry.Sector.{Sector}
use Rattle.vd_format.specs.declared.header.Header.{Header}
use Rattle.vd_format.specs.Headers.{IsValid, header_of}
use Rattle.vd_format.specs.Layouts.{store_need}
use Rattle.vd_image.specs.Image.{Image, Mapping, Fact, Format, Layout, Counts, IsUnnamed, IsLastNamed, Maps, IsMapping, DiskHas}
use Rattle.vd_image.specs.Layouts.{layout_of, FitsInStore}
use Rattle.vd_image.specs.Decoders.{format_of, mapping_in}
use Rattle.vd_image.proofs.Deciding.{maps_one}
use Rattle.vd_image.proofs.Decoders.{entry_is_mapping}
use Rattle.vd_image.proofs.Layouts.{parts_apart, parts_inside}
use Rattle.vd_image.proofs.Openings.{header_valid}
use Rattle.vd_replay.specs.declared.state.State.{State}
use Rattle.vd_replay.specs.States.{IsState}
use Rattle.vd_passes.specs.Places.{IsIn}

-- Two images that have the same header, map and slots say the same of each chunk.
module _ (f : Format) (l : Layout) where
  abbrev HaveSame : Image → Image → Type 0
  HaveSame a b = ((c : ℕ) → c < l.chunks → a (l.map_at c) ≡ b (l.map_at c)) × ((k : ℕ) → k < l.slots → a (l.slot_at k) ≡ b (l.slot_at k))

  turned : (a b : Image) → HaveSame a b → HaveSame b a
  turned a b same = (λ c within. sym (same.0 c within), λ k within. sym (same.1 k within))

  counts-over : {a b : Image} {generation slot place : ℕ} {fact : Fact} → HaveSame a b → Counts f l a generation slot place fact → Counts f l b generation slot place fact
  counts-over same counts = record {
    item = counts.item;
    within = counts.within;
    reads = ap f.record_of (sym (same.1 _ counts.within)) ∙ counts.reads;
    current = counts.current;
    stands = counts.stands;
  }

  unnamed-over : (a b : Image) {generation chunk : ℕ} → HaveSame a b → IsUnnamed f l a generation chunk → IsUnnamed f l b generation chunk
  unnamed-over a b same none slot place fact counts = none slot place fact (counts-over (turned a b same) counts)

  named-over : (a b : Image) {generation chunk : ℕ} {m : Mapping} → HaveSame a b → IsLastNamed f l a generation chunk m → IsLastNamed f l b generation chunk m
  named-over a b same last = record {
    slot = last.slot;
    place = last.place;
    fact = last.fact;
    counts = counts-over same last.counts;
    names = last.names;
    mapping = last.mapping;
    last = λ k j other counts. last.last k j other (counts-over (turned a b same) counts);
  }

  maps-over : (a b : Image) (generation chunk : ℕ) (m : Mapping) → HaveSame a b → Maps f l a generation chunk m → Maps f l b generation chunk m
  maps-over a b generation chunk m same (inl last) = inl (named-over a b same last)
  maps-over a b generation chunk m same (inr other) = inr (unnamed-over a b same other.0, other.1, ap (λ v. f.mapping_of v chunk) (sym (same.0 chunk other.1)) ∙ other.2)

-- An image that has in a store's sectors what the state's image has there stands for the same disk.
module _ (sectors : ℕ) (image held : Image) (h : Header) (s : State) (is : IsState sectors held h s) (fits : store_need h ≤ sectors) (same : (a : ℕ) → a < sectors → image a ≡ held a) where
  valid : IsValid h
  valid = header_valid (held 0) h is.opens.reads

  inside : FitsInStore (layout_of h) (store_need h)
  inside = parts_inside h valid

  have-same : HaveSame (format_of h) (layout_of h) image held
  have-same = (λ c within. same ((layout_of h).map_at c) (let k = inside.map c within in omega arith), λ k within. same ((layout_of h).slot_at k) (let n = inside.slots k within in omega arith))

  module _ (base : ℕ → Sector) (zeros : Sector) (x : ℕ) (v : Sector) (disk : DiskHas (format_of h) (layout_of h) base zeros image x v) (less : x < h.size) where
    abbrev chunk : ℕ
    chunk = x / h.block / h.chunk

    header-there : header_of (held 0) ≡ Ok disk.header
    header-there = ap header_of (sym (same 0 (let n = inside.header in omega arith))) ∙ disk.reads

    header-is : disk.header ≡ h
    header-is = let a = header-there in let b = is.opens.reads in cc

    mapped : Maps (format_of h) (layout_of h) held h.generation chunk disk.mapping
    mapped = subst (λ (g : Header). Maps (format_of h) (layout_of h) held g.generation chunk disk.mapping) header-is (maps-over (format_of h) (layout_of h) image held disk.header.generation chunk disk.mapping have-same disk.maps)

    -- its mapping is one of the grammar
    grammar : IsMapping (layout_of h) chunk disk.mapping
    grammar =
        let apart = parts_apart h valid in let e = is.entries chunk (apart.chunks (x / h.block) (apart.blocks x less)) in
        let same-mapping = maps_one (format_of h) (layout_of h) held h.generation chunk disk.mapping (mapping_in h chunk e.entry) mapped e.maps in
        subst (λ (m : Mapping). IsMapping (layout_of h) chunk m) (sym same-mapping) ((entry_is_mapping h chunk e.entry valid).0 e.grammar)

    place-in : (p : ℕ) → disk.mapping.storage ≡ Some p → (layout_of h).place p x < sectors
    place-in p given = let n = inside.places p x (grammar.within p given) in omega (arith, n, fits)

    pub disk-over : DiskHas (format_of h) (layout_of h) base zeros held x v
    disk-over = record {
      header = disk.header;
      reads = header-there;
      mapping = disk.mapping;
      maps = subst (λ (g : Header). Maps (format_of h) (layout_of h) held g.generation chunk disk.mapping) (sym header-is) mapped;
      has = elim disk.has [
        | inl (p, local, there) ↦ inl (p, local, there ∙ same ((layout_of h).place p x) (place-in p local.0))
        | inr other ↦ inr other
      ];
    }

-- The block of a sector is the one that it lies in.
pub sector-block : (block b s : ℕ) → 0 < block → IsIn block b s → s / block ≡ b
sector-block block b s some in_block =
    let r : ℕ = s - block * b in
    let turn : b * block ≡ block * b = mul_comm b block in
    let less : r < block = (let to = in_block.1 in omega arith) in
    let parts : s ≡ b * block + r = (let from = in_block.0 in omega (arith, turn)) in
    ap (λ n. n / block) parts ∙ div-mul-add b block r less
