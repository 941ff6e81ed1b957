-- The guest's disk, run by run.
use Rattle.std.proofs.Common.{ℕ, ◌≡◌, ◌+◌, ◌-◌, ◌/◌, ◌<◌, ◌≤◌, inl, inr, Bool, true, false, List, length, replicate, take, drop, Some, refl, ap, sym, ◌∙◌, subst, arith}
use Rattle.std.specs.Prelude.{slice_get, if◌then◌else◌}
use Rattle.std.proofs.lemmas.Bool.{cases_lt}
use Rattle.std.proofs.lemmas.Option.{slice_get_within, get_or_from_slice_get}
use Rattle.std.proofs.lemmas.List.{length-append, length-take, length-drop}
use Rattle.std.proofs.lemmas.Slice.{take-put_mid, take-put_mid_below}
use borrow.Rule.Slice.PartMut.{put_mid}
use Rattle.std.proofs.lemmas.List.FromFn.{length-map-range_with_len}
use Rattle.vd_law.specs.declared.entry.Sector.{Sector}
use Rattle.vd_format.specs.Headers.{IsValid}
use Rattle.vd_format.specs.Layouts.{chunks_of, store_need}
use Rattle.vd_format.specs.Entries.{empty_entry}
use Rattle.vd_table.proofs.Links.{none_some}
use Rattle.vd_image.specs.Image.{Header, DiskHas, Maps, IsLocalBy}
use Rattle.vd_image.specs.Layouts.{layout_of}
use Rattle.vd_image.specs.Decoders.{Entry, mapping_in, format_of}
use Rattle.vd_image.proofs.Layouts.{parts_inside}
use Rattle.vd_replay.specs.Images.{image_of}
use Rattle.vd_replay.specs.States.{IsSized, IsState, IsOldState, StateSays}
use Rattle.vd_replay.specs.Disks.{IsNotLocal, IsSource, source_further_on, FitsInTicket, IsFrom, ReadRun, AreShown, AreDiskSectors, ForDevice, ForSource, HasLocal, HasOfBase, HasSectorOfRange, NeedsBase, Spares}
use Rattle.vd_replay.specs.declared.state.State.{State}
use Rattle.vd_replay.specs.declared.disk.DiskFault.{DiskFault}
use Rattle.vd_replay.specs.declared.disk.DiskFault.TheVariants as fault
use Rattle.vd_replay.specs.declared.disk.Source.{Source}
use Rattle.vd_replay.specs.declared.disk.Source.TheVariants.{Local, Background, Zeros}
use Rattle.vd_replay.proofs.StateLaws.{storage_is, storage_from}
use Rattle.vd_format.specs.Background.{zero_sector, base_at, background, background_of, background_run, count_in_base}
use Rattle.vd_lists.proofs.Places.{slice_get_take, slice_get_copied, slice_get_run, slice_get_back}
use Rattle.vd_lists.proofs.Options.{same_option}

-- ---- runs

pub further_none : (source : Source) → source_further_on source 0 ≡ source
further_none (Local at) = ap Local (omega arith)
further_none Background = refl
further_none Zeros = refl

pub first_of_run : (s : State) (first : ℕ) (source : Source) → IsSource s first source → (i : ℕ) → i < 1 → IsSource s (first + i) (source_further_on source i)
first_of_run s first source is i less =
    let none : 0 ≡ i = omega (arith, less) in
    let here : first ≡ first + 0 = omega arith in
    subst (λ (k : ℕ). IsSource s (first + k) (source_further_on source k)) none (subst (λ (x : Source). IsSource s (first + 0) x) (sym (further_none source)) (subst (λ (k : ℕ). IsSource s k source) here is))

pub next_of_run : (s : State) (first n : ℕ) (source next : Source) → ((i : ℕ) → i < n → IsSource s (first + i) (source_further_on source i)) → next ≡ source_further_on source n → IsSource s (first + n) next → (i : ℕ) → i < n + 1 → IsSource s (first + i) (source_further_on source i)
next_of_run s first n source next run same is i less = elim (cases_lt i n) [
  | inl below ↦ run i below
  | inr above ↦ (let e : n ≡ i = omega arith in subst (λ (k : ℕ). IsSource s (first + k) (source_further_on source k)) e (subst (IsSource s (first + n)) same is))
]

-- a run lies in the store
pub run_inside : (s : State) (first n sectors : ℕ) (source : Source) → 0 < n → n ≤ 2048 → IsValid s.header → store_need s.header ≤ sectors → ((i : ℕ) → i < n → IsSource s (first + i) (source_further_on source i)) → FitsInTicket source n sectors
run_inside s first n sectors (Local at) some most valid room run =
    let last = run (n - 1) (omega arith) in
    let p = last.1.0 in
    let e = last.1.3 in
    let inside = parts_inside s.header valid in
    let k = inside.places p (first + (n - 1)) last.1.2 in
    (some, most, omega arith)
run_inside s first n sectors Background some most valid room run = most
run_inside s first n sectors Zeros some most valid room run = tt

-- ---- what fails

-- the fault of a run is one of the whole work
pub fault_of_run : {P Q P' Q' : ℕ → Type 0} (source : Source) (e : DiskFault) → ((n : ℕ) → P n → P' n) → ((n : ℕ) → Q n → Q' n) → ForSource source P Q e → ForDevice P' Q' e
fault_of_run (Local at) (fault.Store ticket) p q is = p ticket is
fault_of_run (Local at) (fault.Base ticket) p q is = absurd is
fault_of_run Background (fault.Store ticket) p q is = absurd is
fault_of_run Background (fault.Base ticket) p q is = q ticket is
fault_of_run Zeros (fault.Store ticket) p q is = absurd is
fault_of_run Zeros (fault.Base ticket) p q is = absurd is

-- the device that failed has the first sector of the run
pub wanted_by_run : (P Q : ℕ → Type 0) (s : State) (now sectors first count n k : ℕ) (source : Source) (e : DiskFault) → now ≡ sectors → n < count → IsSource s (first + n) source → ForSource source P Q e
    → NeedsBase (count_in_base now s.header.tracked (first + n) k) e → HasSectorOfRange (HasLocal s first count) (HasOfBase s sectors first count) e
wanted_by_run P Q s now sectors first count n k (Local at) (fault.Store ticket) same within is failed needs = record { place = n; at = at; within = within; source = is }
wanted_by_run P Q s now sectors first count n k (Local at) (fault.Base ticket) same within is failed needs = absurd failed
wanted_by_run P Q s now sectors first count n k Background (fault.Store ticket) same within is failed needs = absurd failed
wanted_by_run P Q s now sectors first count n k Background (fault.Base ticket) same within is failed needs =
    record { place = n; within = within; source = is; tracked = omega (arith, needs); inside = omega (arith, needs) }
wanted_by_run P Q s now sectors first count n k Zeros (fault.Store ticket) same within is failed needs = absurd failed
wanted_by_run P Q s now sectors first count n k Zeros (fault.Base ticket) same within is failed needs = absurd failed

-- a run without a sector of a device leaves that as it is
pub store_spared : (P Q : Type 0) (s : State) (first count n many : ℕ) (source : Source) → n < count → IsSource s (first + n) source → Spares source many P Q → (HasLocal s first count → ⊥) → P
store_spared P Q s first count n many (Local at) within is spared none = absurd (none (record { place = n; at = at; within = within; source = is }))
store_spared P Q s first count n many Background within is spared none = spared.0
store_spared P Q s first count n many Zeros within is spared none = spared.0

pub base_spared : (P Q : Type 0) (s : State) (now sectors first count n k : ℕ) (source : Source) → now ≡ sectors → n < count → IsSource s (first + n) source → Spares source (count_in_base now s.header.tracked (first + n) k) P Q
    → (HasOfBase s sectors first count → ⊥) → Q
base_spared P Q s now sectors first count n k (Local at) same within is spared none = spared
base_spared P Q s now sectors first count n k Background same within is spared none = elim (cases_lt 0 (count_in_base now s.header.tracked (first + n) k)) [
  | inl some ↦ absurd (none (record { place = n; within = within; source = is; tracked = omega (arith, some); inside = omega (arith, some) }))
  | inr empty ↦ spared.1 (omega (arith, empty))
]
base_spared P Q s now sectors first count n k Zeros same within is spared none = spared.1

-- ---- what is read

pub read_background_run : (held content : List Sector) (tracked first n : ℕ) (source : Source) (out : List Sector) → source ≡ Background → out ≡ background_run content tracked first n → ReadRun held content tracked source first out
unfolding background_run
read_background_run held content tracked first n source out is read = subst (λ (x : Source). ReadRun held content tracked x first out) (sym is) (record { each = each })
  where
    each : (i : ℕ) (v : Sector) → slice_get out i ≡ Some v → v ≡ background_of content tracked (first + i)
    each i v at =
        let less : i < n = (let k = slice_get_within out i v at in let m = ap length read ∙ length-map-range_with_len (background_of content tracked) first n in omega arith) in
        let there = slice_get_run (background_of content tracked) first n i less in
        let here = ap (λ (xs : List Sector). slice_get xs i) (sym read) ∙ at in
        cc

pub read_zeros : (held content : List Sector) (tracked first n : ℕ) (source : Source) (out : List Sector) → source ≡ Zeros → out ≡ replicate n zero_sector → ReadRun held content tracked source first out
read_zeros held content tracked first n source out is read =
    subst (λ (x : Source). ReadRun held content tracked x first out) (sym is) (record { each = λ i v at. sym (slice_get_copied n zero_sector v i (ap (λ (xs : List Sector). slice_get xs i) (sym read) ∙ at)) })

pub none_shown : (held content : List Sector) (s : State) (first : ℕ) (out : List Sector) → AreShown held content s first 0 out
none_shown held content s first out = record { each = λ i v less. absurd (omega (arith, less)) }

-- one more run, put in its place
pub more_shown : (held held' content content' : List Sector) (s : State) (first n count : ℕ) (out part out' : List Sector) (source : Source) → held' ≡ held → content' ≡ content
    → ((i : ℕ) → i < n → slice_get out' i ≡ slice_get out i) → ((i : ℕ) → i < count → slice_get out' (n + i) ≡ slice_get part i)
    → ((i : ℕ) → i < count → IsSource s (first + n + i) (source_further_on source i)) → ReadRun held' content' s.header.tracked source (first + n) part → AreShown held content s first n out → AreShown held' content' s first (n + count) out'
more_shown held held' content content' s first n count out part out' source same also front middle run read before = record { each = each }
  where
    each : (i : ℕ) (v : Sector) → i < n + count → slice_get out' i ≡ Some v → (x : Source) × IsSource s (first + i) x × IsFrom held' content' s.header.tracked x (first + i) v
    each i v less at = elim (cases_lt i n) [
      | inl below ↦ (let k = before.each i v below (sym (front i below) ∙ at) in
          (k.0, k.1, subst (λ (xs : List Sector). IsFrom held' xs s.header.tracked k.0 (first + i) v) (sym also) (subst (λ (xs : List Sector). IsFrom xs content s.header.tracked k.0 (first + i) v) (sym same) k.2)))
      | inr above ↦ (let j = i - n in
          let e : first + n + (i - n) ≡ first + i = omega arith in
          let there : n + (i - n) ≡ i = omega arith in
          let inside : i - n < count = omega arith in
          let here : slice_get part (i - n) ≡ Some v = sym (middle (i - n) inside) ∙ ap (slice_get out') there ∙ at in (
            source_further_on source (i - n),
            subst (λ (k : ℕ). IsSource s k (source_further_on source (i - n))) e (run (i - n) inside),
            subst (λ (k : ℕ). IsFrom held' content' s.header.tracked (source_further_on source (i - n)) k v) e (read.each (i - n) v here),
          ))
    ]

-- ---- the disk

pub part_length : (out : List Sector) (n count : ℕ) → n + count ≤ length out → length (take (n + count - n) (drop n out)) ≡ count
part_length out n count inside =
    let a = length-take (n + count - n) (drop n out) in
    let b = length-drop n out in
    omega arith

disk_has : (held content : List Sector) (s : State) (n : ℕ) (v : Sector) (source : Source) → IsSized s → IsState (length held) (image_of held) s.header s → IsSource s n source → IsFrom held content s.header.tracked source n v
    → DiskHas (format_of s.header) (layout_of s.header) (base_at zero_sector content) zero_sector (image_of held) n v
disk_has held content s n v source sized is = by_source source
  where
    h : Header
    h = s.header

    b : ℕ
    b = n / s.header.block

    c : ℕ
    c = n / s.header.block / s.header.chunk

    maps : (e : Entry) → slice_get s.map c ≡ Some e → Maps (format_of s.header) (layout_of s.header) (image_of held) s.header.generation c (mapping_in s.header c e)
    maps e at =
        let within : c < chunks_of s.header = (let k = slice_get_within s.map c e at in let m = sized.map in omega arith) in
        let w = is.entries c within in
        subst (λ (x : Entry). Maps (format_of s.header) (layout_of s.header) (image_of held) s.header.generation c (mapping_in s.header c x)) (same_option w.entry e (slice_get s.map c) w.stands at) w.maps

    not_local : (e : Entry) → slice_get s.map c ≡ Some e → IsNotLocal s n → (p : ℕ) → IsLocalBy (mapping_in s.header c e) b p → ⊥
    not_local e at (inl down) p local = absurd (let up = (is.fresh b false down).1 (e, at, local.1) in cc)
    not_local e at (inr none) p local = absurd (let some = (is.table c p).1 (e, at, storage_is e.storage p local.0) in none_some (sym none ∙ some))

    away : (e : Entry) (zeros : Bool) → slice_get s.map c ≡ Some e → e.zeros ≡ zeros → IsNotLocal s n → v ≡ (if zeros then zero_sector else background (base_at zero_sector content) zero_sector s.header.tracked n)
        → DiskHas (format_of s.header) (layout_of s.header) (base_at zero_sector content) zero_sector (image_of held) n v
    away e zeros at kind not v_is = record {
      header = s.header;
      reads = is.opens.reads;
      mapping = mapping_in s.header c e;
      maps = maps e at;
      has = inr (not_local e at not, v_is ∙ ap (λ (z : Bool). if z then zero_sector else background (base_at zero_sector content) zero_sector s.header.tracked n) (sym kind));
    }

    by_source : (source : Source) → IsSource s n source → IsFrom held content s.header.tracked source n v → DiskHas (format_of s.header) (layout_of s.header) (base_at zero_sector content) zero_sector (image_of held) n v
    by_source (Local at) where_is from =
        let mask = (is.fresh b true where_is.0).0 refl in
        let p = where_is.1.0 in
        let store = (is.table c p).0 where_is.1.1 in
        let same : store.0 ≡ mask.0 = same_option store.0 mask.0 (slice_get s.map c) store.1 mask.1 in
        record {
          header = s.header;
          reads = is.opens.reads;
          mapping = mapping_in s.header c mask.0;
          maps = maps mask.0 mask.1;
          has = inl (p, (storage_from mask.0.storage p (ap (λ (e : Entry). e.storage) (sym same) ∙ store.2), mask.2), sym (ap (image_of held) (sym where_is.1.3) ∙ get_or_from_slice_get held at v zero_sector from));
        }
    by_source Background where_is from = away where_is.1.0 false where_is.1.1 where_is.1.2 where_is.0 from
    by_source Zeros where_is from = away where_is.1.0 true where_is.1.1 where_is.1.2 where_is.0 from

old_has : (held content : List Sector) (s : State) (n : ℕ) (v : Sector) (source : Source) → IsOldState held s.header s → IsSource s n source → IsFrom held content s.header.tracked source n v → v ≡ background (base_at zero_sector content) zero_sector s.header.tracked n
old_has held content s n v (Local at) is where_is from = absurd (is.table (n / s.header.block / s.header.chunk) where_is.1.0 where_is.1.1)
old_has held content s n v Background is where_is from = from
old_has held content s n v Zeros is where_is from =
    let e = where_is.1.0 in
    let same : empty_entry ≡ e = slice_get_copied (chunks_of s.header) empty_entry e (n / s.header.block / s.header.chunk) (ap (λ (es : List Entry). slice_get es (n / s.header.block / s.header.chunk)) (sym is.map) ∙ where_is.1.1) in
    let k : false ≡ true = ap (λ (x : Entry). x.zeros) same ∙ where_is.1.2 in
    absurd cc

pub disk_is : (held content : List Sector) (s : State) (first n : ℕ) (out : List Sector) → IsSized s → length out ≤ n → AreShown held content s first n out → StateSays held s → AreDiskSectors held content s first out
disk_is held content s first n out sized all shown says = record {
  current = λ two i v at. (let k = shown.each i v (let w = slice_get_within out i v at in omega (arith, w, all)) at in disk_has held content s (first + i) v k.0 sized (says.current two) k.1 k.2);
  old = λ one i v at. (let k = shown.each i v (let w = slice_get_within out i v at in omega (arith, w, all)) at in old_has held content s (first + i) v k.0 (says.old one) k.1 k.2);
}

-- ---- a part that was written in its place

pub part_front : (out part : List Sector) (n k i : ℕ) → n ≤ length out → i < n → slice_get (put_mid n k out part) i ≡ slice_get out i
part_front out part n k i inside less =
    sym (slice_get_take n (put_mid n k out part) i less) ∙ ap (λ (xs : List Sector). slice_get xs i) (take-put_mid_below n k out part n (omega arith) inside) ∙ slice_get_take n out i less

pub part_middle : (out part : List Sector) (n k count i : ℕ) → n ≤ length out → length part ≡ count → i < count → slice_get (put_mid n k out part) (n + i) ≡ slice_get part i
part_middle out part n k count i inside size less =
    let front : length (take n out) ≡ n = length-take n out ∙ omega arith in
    sym (slice_get_take (n + count) (put_mid n k out part) (n + i) (omega arith)) ∙ ap (λ (xs : List Sector). slice_get xs (n + i)) (take-put_mid n k out part (n + count) (omega arith) inside)
    ∙ slice_get_back (take n out) part (n + i) (omega arith) ∙ ap (slice_get part) (omega arith)

pub part_size : (out part : List Sector) (n count : ℕ) → n + count ≤ length out → length part ≡ count → length (put_mid n (n + count - n) out part) ≡ length out
part_size out part n count fits size = simp (length-append, length-take, length-drop) (omega (arith, fits, size))
