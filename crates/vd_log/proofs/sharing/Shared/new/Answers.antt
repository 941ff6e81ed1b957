use Rattle.std.proofs.Common.{refl}
use Rattle.vd_log.proofs.Copies.{none-shared}
use Rattle.vd_log.proofs.sharing.Shared.new.Goals as goal

pub returns-clause-shared : goal.returns-clause-shared
returns-clause-shared c = none-shared _ refl (c.in_ok-from_elem.ensures.items_if_clones_equal (λ y same. same)) (c.in_ok-from_elem-2.ensures.items_if_clones_equal (λ y same. same))
