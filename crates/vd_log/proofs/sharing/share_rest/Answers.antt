use Rattle.std.proofs.Common.{List, sym, subst}
use Rattle.vd_law.specs.declared.entry.Sector.{Sector}
use Rattle.vd_log.specs.StoredEntries.{IsShared}
use Rattle.vd_log.proofs.Copies.{shared-append}
use Rattle.vd_log.proofs.sharing.share_rest.Goals as goal

pub returns-in-None-clause-shared : goal.returns-in-None-clause-shared
returns-in-None-clause-shared c =
    subst (λ (zs : List Sector). IsShared zs c.args.shared.now) (sym c.keep.ensures.sectors) (shared-append c.args.sectors.now.items c.args.content.now c.args.shared.now c.requires.shared)
