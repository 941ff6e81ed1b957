use Rattle.std.proofs.Common.{◌≡◌, ◌*◌, ◌+◌, ◌-◌, ◌<◌, ◌∷◌, ◌++◌, List, [], length, map, take, sym, refl, ap, ◌∙◌, arith, length-set}
use Rattle.std.specs.Prelude.{min}
use Rattle.std.specs.List.{range_with_len}
use Rattle.std.proofs.lemmas.List.{take_more_set}
use Rattle.std.proofs.lemmas.List.FromFn.{map-range_with_len_more}
use Rattle.vd_format.specs.declared.map.Entry.{Entry}
use Rattle.vd_keeper.specs.Entries.{union_of, map_entry}
use Rattle.vd_keeper.proofs.putting.map_page.Goals as goal

pub loop-place-preserved : goal.loop-place-preserved
loop-place-preserved c =
    let entries = c.loop-place.entries in
    let place = c.loop-place.place in
    let entry = map_entry c.args.header.now c.args.table.now (union_of c.args.stale.now.bits c.args.snapshot.now.bits) in
    let size : length c.loop-place.entries ≡ 32 = c.loop-place.invariant.0 in
    let inside : c.loop-place.place < length c.loop-place.entries = omega (arith, c.min-count.ensures) in (
      length-set entries place c.entry_for.result ∙ c.loop-place.invariant.0,
      take_more_set entries place c.entry_for.result inside
          ∙ ap (λ (es : List Entry). es ++ c.entry_for.result ∷ []) c.loop-place.invariant.1
          ∙ ap (λ (e : Entry). map entry (range_with_len (32 * c.args.page) place) ++ e ∷ []) c.entry_for.ensures
          ∙ sym (map-range_with_len_more entry (32 * c.args.page) place (32 * c.args.page + place) refl),
    )
