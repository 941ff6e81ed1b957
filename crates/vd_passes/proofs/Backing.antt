-- The base, and zeros behind its tracked part, are what a disk is where nothing of it is local.
use Rattle.std.proofs.Common.{◌≡◌, ℕ, ◌+◌, ◌-◌, min, List, ◌++◌, length, replicate, sym, ◌∙◌, ap, arith, Some, slice_get}
use Rattle.std.proofs.lemmas.List.FromFn.{length-map-range_with_len}
use Rattle.std.proofs.lemmas.Option.{slice_get_within}
use Rattle.vd_lists.proofs.Places.{slice_get_run}
use Rattle.vd_law.specs.declared.entry.Sector.{Sector}
use Rattle.vd_law.proofs.Sectors.{sector_in-place}
use Rattle.vd_format.proofs.BackgroundLaws.{two_parts}
use Rattle.vd_passes.specs.Laying.{count_below, Backs}
use Rattle.vd_passes.proofs.Lists.{some-inj}
use Rattle.vd_format.specs.Background.{zero_sector, background_of, background_run}

run-is : (content : List Sector) (tracked first count k : ℕ) (v : Sector) → slice_get (background_run content tracked first count) k ≡ Some v → v ≡ background_of content tracked (first + k)
unfolding background_run
run-is content tracked first count k v at =
    let inside = slice_get_within (background_run content tracked first count) k v at in
    let long = length-map-range_with_len (background_of content tracked) first count in
    some-inj (sym at ∙ slice_get_run (background_of content tracked) first count k (omega (arith, inside, long)))

pub background-backs : (content : List Sector) (tracked limit : ℕ) → limit ≡ min (length content) tracked → Backs (background_of content tracked) limit content
background-backs content tracked limit is first count front long held s v on =
    let all = front ++ replicate (count - length front) zero_sector in
    let same : all ≡ background_run content tracked first count = two_parts content front tracked first count (long ∙ ap (λ (n : ℕ). count_below n first count) is) held in
    let place = sector_in-place first all s v on in
    let k : first + (s - first) ≡ s = (let from = place.0 in omega arith) in
    run-is content tracked first count (s - first) v (ap (λ (xs : List Sector). slice_get xs (s - first)) (sym same) ∙ place.1) ∙ ap (background_of content tracked) k
