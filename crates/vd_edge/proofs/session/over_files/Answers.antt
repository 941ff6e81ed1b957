use Rattle.std.proofs.Common.{◌≡◌, drop, IfOk, inl, inr}
use Rattle.std.specs.Vec.Iter.{into_iter_items}
use Rattle.vd_edge.proofs.session.over_files.Goals as goal

pub returns : goal.returns
returns g c =
    let given : IfOk c.args.args (λ given. c.as_slice-words.result.now ≡ drop 1 (into_iter_items given)) =
    rw c.as_slice-words.ensures.value (c.in-Ok-words_of.ensures) in
    elim c.on_devices.ensures [
      | inl early ↦ inl early
      | inr (answer, (out, store, base, out', named, post), which) ↦
          inr (answer, (c.as_slice-words.result, c.store_sectors.result, out, store, base, out', given, c.store_sectors.ensures, named, post), which)
    ]
