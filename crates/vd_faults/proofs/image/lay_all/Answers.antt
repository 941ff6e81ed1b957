use Rattle.std.proofs.Common.{◌≡◌, ℕ, length, take, sym, ◌∙◌, subst, inl, inr, arith}
use Rattle.std.proofs.lemmas.Option.{slice_get_cases}
use Rattle.vd_law.specs.Entries.{past}
use Rattle.vd_faults.specs.Versions.{HasLaidVersion}
use Rattle.vd_faults.proofs.Laying.{laid-last}
use Rattle.vd_faults.proofs.image.lay_all.Goals as goal

pub loop-i-preserved : goal.loop-i-preserved
loop-i-preserved c =
    let inv = c.loop-i.invariant in (
      c.lay_event.ensures.size ∙ inv.0,
      c.lay_event.ensures.image_size ∙ inv.1,
      λ target first. c.lay_event.ensures.lays c.args.image.now.items target (c.requires.same ∙ sym inv.0) (inv.2 target first),
    )

pub returns-clause-image : goal.returns-clause-image
returns-clause-image c = λ target first s within fits.
    let inv = c.loop-i.invariant in let log = c.args.tape.now.log.entries in
    elim (slice_get_cases c.loop-i.all.items s).1 [
      | inl some ↦ laid-last c.args.image.now.items target log s some.0 c.loop-i.image.items fits
          (subst (λ (k : ℕ). HasLaidVersion c.args.image.now.items target (past (take k log)) s some.0 c.loop-i.image.items) (let ended : c.loop-i.i ≡ length log = omega (arith, c.loop-i-test.false, c.loop-i.auto.i-end, c.len-i-end.ensures) in ended) (inv.2 target first s some.0 some.2))
      | inr beyond ↦ absurd (omega (arith, beyond.0, inv.0, c.requires.same, within))
    ]
