use Rattle.std.proofs.Common.{sym, rules}
use Rattle.std.proofs.lemmas.Fn.{filter_same}
use Rattle.vd_faults.proofs.rules.Rules.release.Goals as goal

pub returns : goal.returns
returns c = rw (sym c.self.view_is) (filter_same _ _ _ (λ x b f' k. search rules) _ _ c.retain.ensures.filtered)
