use Rattle.std.proofs.Common.{◌∙◌, sym, ap, refl, inl, inr}
use Rattle.std.specs.Prelude.{is_some}
use Rattle.vd_keeper.specs.declared.stage.Stage.TheVariants.{Rest, DataFlush, Broken}
use Rattle.vd_passes.specs.declared.pass.Pass.{Pass}
use Rattle.vd_machine.proofs.Members.{same-member}
use Rattle.vd_machine.proofs.Attended.{at-stage-of}
use Rattle.vd_core.specs.declared.outcome.Step.TheVariants.{Again}
use Rattle.vd_drive.proofs.Answering.{going-answers}
use Rattle.vd_drive.proofs.flush.go_on.Goals as goal

pub unreachable-requires : goal.unreachable-requires
unreachable-requires g c =
    let at = c.requires.phase in let waiting = c.is_waiting.ensures in let stage = sym c.stage.ensures in
    elim c.in-Rest.is [
      | inl rest ↦ at-stage-of c.requires.attended c.args.pass at.0 at.1 Rest (stage ∙ rest) at.2
      | inr (inl flush) ↦ (let out = at-stage-of c.requires.attended c.args.pass at.0 at.1 DataFlush (stage ∙ flush) at.2 in let some = ap is_some out.0.1 in
          let same =
          ap (λ (p : Pass). is_some p.ticket) (same-member c.args.core.now.passes c.args.pass at.0 waiting.0 at.1 waiting.1) in let told = waiting.2 in
          let none = c.if-is_waiting.false in cc)
      | inr (inr broken) ↦ at-stage-of c.requires.attended c.args.pass at.0 at.1 Broken (stage ∙ broken) at.2
    ]

pub returns-then-is_waiting : goal.returns-then-is_waiting
returns-then-is_waiting g c =
    assumption (going-answers g.S.Store g.B.Base c.args.pass c.args.core.now c.settle_meta.new.self c.requires.told c.requires.attended c.settle_meta.result
    (inl c.settle_meta.ensures.settles))

pub returns-in-Puts : goal.returns-in-Puts
returns-in-Puts g c =
    assumption (going-answers g.S.Store g.B.Base c.args.pass c.args.core.now c.put.new.self c.requires.told c.requires.attended Again (inr
    (refl, inl c.put.ensures.puts)))

pub returns-in-Syncs : goal.returns-in-Syncs
returns-in-Syncs g c =
    assumption (going-answers g.S.Store g.B.Base c.args.pass c.args.core.now c.sync.new.self c.requires.told c.requires.attended Again (inr (
      refl,
      inr
          (inl c.sync.ensures.syncs),
    )))

pub returns-in-Seals : goal.returns-in-Seals
returns-in-Seals g c =
    assumption (going-answers g.S.Store g.B.Base c.args.pass c.args.core.now c.seal.new.self c.requires.told c.requires.attended Again (inr (
      refl,
      inr
          (inr c.seal.ensures.seals),
    )))
