use Rattle.std.proofs.Common.{◌∙◌, ℕ, ◌<◌, ◌≤◌, ◌≡◌, ◌^◌, refl, sym, ap, subst, arith}
use Rattle.vd_device.specs.Disks.{TellsOrStopped}
use Rattle.vd_passes.specs.declared.shape.Shape.{Shape}
use Rattle.vd_replay.proofs.Starting.{whole-given}
use Rattle.vd_causes.proofs.Accounting.{opened-accounted}
use Rattle.vd_causes.proofs.Local.{new-local}
use Rattle.vd_safety.proofs.KeepsStopping.{opened-stopped}
use Rattle.vd_core.specs.Opening.{AreNew, disk_shape, empty_history}
use Rattle.vd_core.proofs.Known.{has-opening}
use Rattle.vd_core.proofs.OpeningParts.{new_view, opened-kept, opened-regions}
use Rattle.vd_core.proofs.OpeningTold.{new-bits, opened-logged, opened-told, opened-recorded}
use Rattle.vd_core.proofs.OpeningSafe.{opened-safely, opened-parts}
use Rattle.vd_core.proofs.state.Core.new.Goals as goal

bounded-by : (n sectors : ℕ) → n ≡ sectors → n < 2 ^ 64 → sectors < 2 ^ 64
bounded-by n sectors e h = omega arith

deep-by : (n depth : ℕ) → n ≡ depth → 128 ≤ n → 128 ≤ depth
deep-by n depth e h = omega arith

pub invariant_of-result : goal.invariant_of-result
invariant_of-result g c =
    let s = c.args.state in let parts = c.in-Ok.ensures in let whole = c.requires.whole in let x = c.args.store in let y = c.args.base in let room =
    c.args.room in
    let passes = c.in-Ok-new_passes.passes.items in let version = c.requires.version in
    let new = subst (λ (block : ℕ). AreNew c.args.passes block passes)
    (ap (λ (shape : Shape). shape.block) c.shape_of-shape.ensures) c.in-Ok-new_passes.ensures in
    let still = λ (recorded : g.S.Store.records x). subst (λ (n : ℕ). TellsOrStopped (g.S.Store.tells x) n (g.S.Store.disk x)) c.events.ensures.value
    (c.events.ensures.stopped recorded) in
    let all = λ (told : g.S.Store.tells x). sym c.events.ensures.value ∙ c.events.ensures.running told in
    let bounded = bounded-by _ _ c.sectors.ensures.value c.sectors.type_inv in
    let deep = deep-by _ _ c.depth.ensures.value c.depth.ensures.enough in
    let base_deep = deep-by _ _ c.depth-2.ensures.value c.depth-2.ensures.enough in (
      opened-parts g.S.Store g.B.Base x y s passes room c.of-begun_store.ensures c.of-begun_base.ensures
          (c.shape_of-shape.ensures ∙ ap (λ (n : ℕ). disk_shape s.header n) c.sectors-2.ensures.value) parts.keeper
          (parts.history ∙ ap (λ (n : ℕ). empty_history room n) c.events.ensures.value) c.room_of-spare.ensures.room (record {
            sound = opened-kept g.S.Store g.B.Base x y s whole passes c.args.passes room c.requires.fits bounded deep base_deep c.requires.idle c.requires.base_idle c.requires.most new c.room_of-spare.ensures.bounded still
                (opened-recorded g.B.Base (g.S.Store.events x) x y s whole version room new);
            faithful = λ told base_told. opened-told g.S.Store g.B.Base x y s room new (all told) whole version
                (c.sectors-2.ensures.content base_told ∙ c.sectors-2.ensures.value) (c.in_flight.ensures.honest told) (c.requires.says told);
            logged = λ told. opened-logged g.S.Store g.B.Base x y s room new (all told);
            accounted = opened-accounted (new_view g.B.Base (g.S.Store.events x) s passes room x y) _ new.each refl (λ n e. whole-given s n e whole)
                (whole.sized.map ∙ sym whole.sized.table)
                (new-local (new-bits s (g.B.Base.sectors y) whole)) refl refl refl;
            safe = λ told base_told. opened-safely g.S.Store g.B.Base x y s whole version room new (all told) (c.in_flight.ensures.honest told)
                (c.requires.says told)
                (c.sectors.ensures.start (c.in_flight.ensures.recorded told) ∙ c.sectors.ensures.value) (c.sectors.ensures.held told ∙ c.sectors.ensures.value)
                (c.requires.flushed told);
            stopped = opened-stopped still refl refl refl;
          }),
      parts.regions ∙ opened-regions g.S.Store g.B.Base x y s whole passes c.args.passes room c.requires.fits bounded deep base_deep c.requires.idle c.requires.base_idle c.requires.most new c.room_of-spare.ensures.bounded,
      whole.sized,
    )

pub returns-in-Ok-new_passes-clause-opening : goal.returns-in-Ok-new_passes-clause-opening
returns-in-Ok-new_passes-clause-opening g c = has-opening (invariant_of-result g c).0 c.in_flight.ensures.recorded
