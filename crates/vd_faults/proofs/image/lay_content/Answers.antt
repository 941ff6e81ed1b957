use Rattle.std.proofs.Common.{◌≡◌, ◌+◌, List, Some, length, set, refl, ap, ◌∙◌, inl, inr, arith}
use Rattle.std.specs.Prelude.{slice_get, ◌==◌, if◌then◌else◌}
use Rattle.std.proofs.lemmas.List.{length-set}
use Rattle.std.proofs.lemmas.Option.{slice_get_read, slice_get_cases}
use Rattle.vd_law.specs.declared.entry.Sector.{Sector}
use Rattle.vd_faults.specs.declared.versions.Versions.{Versions}
use Rattle.vd_faults.proofs.Laying.{versions-more, image-more, put-length}
use Rattle.vd_faults.proofs.image.lay_content.Goals as goal

pub loop-k-preserved : goal.loop-k-preserved
loop-k-preserved c =
    let inv = c.loop-k.invariant in let place = c.args.first + c.loop-k.k in
    let x = c.index.result.now in let all = c.loop-k.all.items in let image = c.loop-k.image.items in let content = c.args.content.now in
    let read : slice_get all place ≡ Some x = slice_get_read all (length all) place x refl (omega (arith, inv.0, c.requires.versions, c.loop-k-test.true)) c.index.ensures in
    elim (slice_get_cases content c.loop-k.k).1 [
      | inl some ↦ (
        length-set all place c.with_write-versions.result ∙ inv.0,
        ap length (c.put.ensures some.0 some.2) ∙ put-length (c.with_write-versions.result.written == c.with_write-versions.result.chosen) image place some.0 ∙ inv.1,
        (λ s. ap (λ (y : Versions). slice_get (set all place y) s) c.with_write-versions.ensures ∙ versions-more c.args.first c.loop-k.k content some.0 some.2 c.args.all.now.items all x read inv.2 s),
        (λ s. ap (λ (i : List Sector). slice_get i s) (c.put.ensures some.0 some.2)
            ∙ ap (λ (y : Versions). slice_get (if y.written == y.chosen then set image place some.0 else image) s) c.with_write-versions.ensures
            ∙ image-more c.args.first c.loop-k.k content some.0 some.2 c.args.all.now.items all x read inv.2 c.args.image.now.items image (omega (arith, inv.1, c.requires.sectors, c.loop-k-test.true)) inv.3 s),
      )
      | inr beyond ↦ absurd (omega (arith, beyond.0, c.loop-k-test.true))
    ]
