use Rattle.std.proofs.Common.{◌≡◌, ℕ, ◌+◌, inl, inr, [], get_or, take, subst, arith}
use Rattle.std.specs.List.{Contains}
use Rattle.std.proofs.lemmas.Bool.{cases_lt}
use Rattle.std.proofs.lemmas.Option.{get_or_from_slice_get}
use Rattle.vd_law.specs.declared.entry.Sector.{Sector}
use Rattle.vd_law.specs.Entries.{past}
use Rattle.vd_law.specs.Contents.{could_after}
use Rattle.vd_judge.proofs.rules.could_all.Goals as goal

pub loop-k-preserved : goal.loop-k-preserved
loop-k-preserved g c k v below at =
    elim (cases_lt k c.loop-k.k) [
      | inl earlier ↦ c.loop-k.invariant k v earlier at
      | inr last ↦ let same : c.loop-k.k ≡ k = omega arith in
          let disk = g.F.Flat.disk c.args.start.now in let p = past (take c.args.i c.args.log.now.entries) in
          let content = c.args.content.now in let none : Sector = record { bytes = [] } in
          subst (λ (w : Sector). Contains (could_after disk p (c.args.first + k)) w) (get_or_from_slice_get content k v none at)
          (subst (λ (n : ℕ). Contains (could_after disk p (c.args.first + n)) (get_or content n none)) same (c.could.ensures.0 c.if-not-could.false))
    ]
