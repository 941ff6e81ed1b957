use Rattle.std.proofs.Common.{refl, ap, ◌≡◌, ◌∙◌, ℕ, arith}
use Rattle.std.specs.Prelude.{replicate, vec_len}
use Rattle.vd_log.proofs.Copies.{nothing, none-shared}
use Rattle.vd_log.proofs.sharing.Shared.clear.Goals as goal

pub returns-clause-shared : goal.returns-clause-shared
returns-clause-shared c =
    let places : vec_len c.args.self.now.places ≡ 4096 = omega (arith, c.args.self.now.places.ok.0, c.requires.places) in
    let runs : vec_len c.args.self.now.runs ≡ 256 = omega (arith, c.args.self.now.runs.ok.0, c.requires.runs) in
    none-shared _ refl (c.fill.ensures.items (λ y same. same) ∙ ap (λ (n : ℕ). replicate n nothing) places) (c.fill-2.ensures.items (λ y same. same) ∙ ap (λ (n : ℕ). replicate n nothing) runs)
