-- The grammar by which the map and the slots are read is that of an image.
use Rattle.std.proofs.Common.{ℕ, ◌≡◌, ◌*◌, ◌/◌, ◌%◌, ◌==◌, ◌&&◌, ◌≤◌, Bool, true, false, if◌then◌else◌, List, length, Option, Some, None, refl, ap, sym, ◌∙◌, subst}
use Rattle.std.specs.Option.{option_map}
use Rattle.std.proofs.lemmas.Bool.{eqb-true, eq-eqb, and_parts}
use Rattle.vd_format.specs.Headers.{IsValid}
use Rattle.vd_format.specs.Entries.{is_entry}
use Rattle.vd_format.specs.Records.{Said as Slot, Nothing, Facts, Outside, said_by, slot_of, are_facts}
use Rattle.vd_format.proofs.Entries.{entry_grammar, grammar_entry}
use Rattle.vd_format.proofs.Facts.{facts_grammar, grammar_facts}
use Rattle.vd_image.specs.Log.{Sector}
use Rattle.vd_image.specs.Image.{Header, Mapping, Record, IsCurrent, IsMapping, IsRecord, IsGoodMapping, IsGoodSlot}
use Rattle.vd_image.specs.Layouts.{layout_of, map_start, slots_start}
use Rattle.vd_image.specs.Decoders.{Entry, Said, IsEntry, has_kind, record_of, shape_of, mapping_in, record_in, format_of}
use Rattle.vd_image.proofs.Decoders.{entry_is_mapping}
use Rattle.vd_image.proofs.Records.{facts_fit, read_record_is_facts}
use Rattle.vd_replay.specs.Images.{image_of}
use Rattle.vd_replay.specs.Pages.{area_at, chunk_entry, IsEntryInGrammar}

-- ---- the map

-- the sectors of the map are those of the image
abbrev pub map_of : List Sector → Header → ℕ → Sector
map_of held h = area_at held (map_start h)

abbrev pub slots_of : List Sector → Header → ℕ → Sector
slots_of held h = area_at held (slots_start h)

-- the mapping of an entry that has a kind
pub mapping_read : (h : Header) (held : List Sector) (c : ℕ) → has_kind (map_of held h (c / 32)).bytes (16 * (c % 32)) ≡ true
    → (format_of h).mapping_of (image_of held ((layout_of h).map_at c)) c ≡ Some (mapping_in h c (chunk_entry (map_of held h) c))
mapping_read h held c kind = ap (λ (b : Bool). if b then Some (mapping_in h c (chunk_entry (map_of held h) c)) else None) kind

pub good_kind : (h : Header) (held : List Sector) (c : ℕ) → IsEntryInGrammar (shape_of h) (map_of held h) c → has_kind (map_of held h (c / 32)).bytes (16 * (c % 32)) ≡ true
good_kind h held c good = (and_parts (is_entry (shape_of h) c (chunk_entry (map_of held h) c)) (has_kind (map_of held h (c / 32)).bytes (16 * (c % 32))) good).1

pub good_entry : (h : Header) (held : List Sector) (c : ℕ) → IsEntryInGrammar (shape_of h) (map_of held h) c → IsEntry (shape_of h) c (chunk_entry (map_of held h) c)
good_entry h held c good = entry_grammar (shape_of h) c (chunk_entry (map_of held h) c) (and_parts (is_entry (shape_of h) c (chunk_entry (map_of held h) c)) (has_kind (map_of held h (c / 32)).bytes (16 * (c % 32))) good).0

pub good_mapping : (h : Header) (held : List Sector) (c : ℕ) → IsValid h → IsEntryInGrammar (shape_of h) (map_of held h) c → IsGoodMapping (format_of h) (layout_of h) (image_of held) c
good_mapping h held c valid good =
    (mapping_in h c (chunk_entry (map_of held h) c), mapping_read h held c (good_kind h held c good), (entry_is_mapping h c (chunk_entry (map_of held h) c) valid).0 (good_entry h held c good))

pub mapping_good : (h : Header) (held : List Sector) (c : ℕ) → IsValid h → IsGoodMapping (format_of h) (layout_of h) (image_of held) c → IsEntryInGrammar (shape_of h) (map_of held h) c
mapping_good h held c valid (m, reads, is) = by_kind (has_kind (map_of held h (c / 32)).bytes (16 * (c % 32))) refl
  where
    e : Entry
    e = chunk_entry (map_of held h) c

    by_kind : (b : Bool) → has_kind (map_of held h (c / 32)).bytes (16 * (c % 32)) ≡ b → IsEntryInGrammar (shape_of h) (map_of held h) c
    by_kind false none = absurd (let k : (format_of h).mapping_of (image_of held ((layout_of h).map_at c)) c ≡ None = ap (λ (b : Bool). if b then Some (mapping_in h c e) else None) none in cc)
    by_kind true some =
        let k = mapping_read h held c some in
        let same : m ≡ mapping_in h c e = cc in
        let entry : is_entry (shape_of h) c e ≡ true = grammar_entry (shape_of h) c e ((entry_is_mapping h c e valid).1 (subst (λ (n : Mapping). IsMapping (layout_of h) c n) same is)) in
        ap (λ (b : Bool). b && has_kind (map_of held h (c / 32)).bytes (16 * (c % 32))) entry ∙ some

-- ---- the slots

-- what a slot of this image says, by what was read
abbrev pub Views : Header → Sector → Slot → Type 0
Views h v Nothing = (r : Record) → (format_of h).record_of v ≡ Some r → IsCurrent r h.generation → ⊥
Views h v (Facts facts) = (s : Said) × (record_of v ≡ Some s) × IsCurrent (record_in h s) h.generation × IsRecord (layout_of h) (record_in h s) × (s.facts ≡ facts) × (1 ≤ length facts)
Views h v Outside = (s : Said) × (record_of v ≡ Some s) × IsCurrent (record_in h s) h.generation × (IsRecord (layout_of h) (record_in h s) → ⊥)

views_by : (h : Header) (v : Sector) → IsValid h → (x : Option Said) → record_of v ≡ x → Views h v (said_by (shape_of h) x)
views_by h v valid None none = λ r reads now. absurd (let e = ap (option_map (record_in h)) none in cc)
views_by h v valid (Some s) some = by_current (s.version == 2) refl (s.generation == h.generation) refl
  where
    same : (r : Record) → (format_of h).record_of v ≡ Some r → r ≡ record_in h s
    same r reads = let e = ap (option_map (record_in h)) some in cc

    inner : Slot
    inner = if s.well_formed && are_facts (shape_of h) 0 s.facts then Facts s.facts else Outside

    outer : Bool → Slot
    outer b = if b then inner else Nothing

    by_grammar : IsCurrent (record_in h s) h.generation → (a : Bool) → s.well_formed ≡ a → (b : Bool) → are_facts (shape_of h) 0 s.facts ≡ b → Views h v (if a && b then Facts s.facts else Outside)
    by_grammar now true well true are =
        let fits = facts_fit v s some well in
        (s, some, now, (read_record_is_facts h v s valid some well).0 (facts_grammar (shape_of h) s.facts fits.0 fits.1 are), refl, fits.0)
    by_grammar now true well false not =
        (s, some, now, λ is. absurd (let are = grammar_facts (shape_of h) s.facts ((read_record_is_facts h v s valid some well).1 is) in cc))
    by_grammar now false ill b any = (s, some, now, λ is. absurd (let well = is.well_formed in cc))

    by_current : (a : Bool) → (s.version == 2) ≡ a → (b : Bool) → (s.generation == h.generation) ≡ b → Views h v (said_by (shape_of h) (Some s))
    by_current true version true generation =
        let now : IsCurrent (record_in h s) h.generation = (version, eqb-true s.generation h.generation generation) in
        let e : said_by (shape_of h) (Some s) ≡ inner = ap (λ (a : Bool). outer (a && (s.generation == h.generation))) version ∙ ap outer generation in
        subst (Views h v) (sym e) (by_grammar now s.well_formed refl (are_facts (shape_of h) 0 s.facts) refl)
    by_current true version false generation =
        let e : said_by (shape_of h) (Some s) ≡ Nothing = ap (λ (a : Bool). outer (a && (s.generation == h.generation))) version ∙ ap outer generation in
        subst (Views h v) (sym e) (λ r reads now. absurd (let k = now.1 in let z = ap (λ (y : Record). y.generation) (same r reads) in let eq : s.generation ≡ h.generation = sym z ∙ k in let t = eq-eqb s.generation h.generation eq in cc))
    by_current false version b generation =
        let e : said_by (shape_of h) (Some s) ≡ Nothing = ap (λ (a : Bool). outer (a && (s.generation == h.generation))) version in
        subst (Views h v) (sym e) (λ r reads now. absurd (let k = now.0 in let z = ap (λ (y : Record). y.same_version) (same r reads) in cc))

pub views : (h : Header) (v : Sector) → IsValid h → Views h v (slot_of (shape_of h) v)
unfolding slot_of
views h v valid = views_by h v valid (record_of v) refl

-- the record of a slot is the one that was read
item_is : (h : Header) (v : Sector) (s : Said) (r : Record) → record_of v ≡ Some s → (format_of h).record_of v ≡ Some r → r ≡ record_in h s
item_is h v s r some reads = let e = ap (option_map (record_in h)) some in cc

pub good_slot : (h : Header) (held : List Sector) (k : ℕ) → IsValid h → (slot_of (shape_of h) (slots_of held h k) ≡ Outside → ⊥) → IsGoodSlot (format_of h) (layout_of h) (image_of held) h.generation k
good_slot h held k valid not r reads now = by_said (slot_of (shape_of h) v) refl (views h v valid)
  where
    v : Sector
    v = slots_of held h k

    by_said : (said : Slot) → slot_of (shape_of h) v ≡ said → Views h v said → IsRecord (layout_of h) r
    by_said Nothing is none = absurd (none r reads now)
    by_said (Facts facts) is w = subst (IsRecord (layout_of h)) (sym (item_is h v w.0 r w.1 reads)) w.3
    by_said Outside is w = absurd (not is)

pub slot_good : (h : Header) (held : List Sector) (k : ℕ) → IsValid h → IsGoodSlot (format_of h) (layout_of h) (image_of held) h.generation k → slot_of (shape_of h) (slots_of held h k) ≡ Outside → ⊥
slot_good h held k valid good is = by_said (slot_of (shape_of h) v) refl (views h v valid)
  where
    v : Sector
    v = slots_of held h k

    by_said : (said : Slot) → slot_of (shape_of h) v ≡ said → Views h v said → ⊥
    by_said Nothing also none = absurd cc
    by_said (Facts facts) also w = absurd cc
    by_said Outside also w = w.3 (good (record_in h w.0) (ap (option_map (record_in h)) w.1) w.2)
