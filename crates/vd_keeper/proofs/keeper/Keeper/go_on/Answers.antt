use Rattle.std.proofs.Common.{sym, ap, ◌∙◌}
use Rattle.vd_keeper.specs.Keeping.{KeeperState}
use Rattle.vd_keeper.specs.Moves.{after_call, after_put}
use Rattle.vd_keeper.specs.KeeperFields.{keeper_state}
use Rattle.vd_keeper.proofs.Begun.{gone-on-data, gone-on-puts, gone-on-syncs, gone-nowhere, no-puts-left}
use Rattle.vd_keeper.proofs.keeper.Keeper.go_on.Goals as goal

pub returns-in-DataFlush : goal.returns-in-DataFlush
returns-in-DataFlush c =
    rw c.after_data-self-inside.ensures (gone-on-data (keeper_state c.self.inside) c.self.inside.stage c.in-DataFlush.is) ∙ ap (λ (k : KeeperState). after_call k.stage k) c.self.view_is

pub returns-in-Puts : goal.returns-in-Puts
returns-in-Puts c =
    gone-on-puts (keeper_state c.self.inside) c.self.inside.stage c.after_put-self-inside.result c.in-Puts.is (c.after_put-self-inside.ensures ∙ ap (λ (k : KeeperState). after_put k k.way) (sym c.self.view_is)) ∙ ap (λ (k : KeeperState). after_call k.stage k) c.self.view_is

pub returns-in-Syncs : goal.returns-in-Syncs
returns-in-Syncs c =
    gone-on-syncs (keeper_state c.self.inside) c.self.inside.stage c.after_sync-self-inside.result c.clear.new.set c.in-Syncs.is c.after_sync-self-inside.ensures (c.clear.ensures ∙ no-puts-left c.self.inside c.self.invariant)
    ∙ ap (λ (k : KeeperState). after_call k.stage k) c.self.view_is

pub returns-in-Rest : goal.returns-in-Rest
returns-in-Rest c = sym c.self.view_is ∙ gone-nowhere (keeper_state c.self.inside) c.self.inside.stage c.in-Rest.is ∙ ap (λ (k : KeeperState). after_call k.stage k) c.self.view_is
