use Rattle.std.proofs.Common.{true, false, not, sym, ap, ◌∙◌}
use Rattle.std.proofs.lemmas.Bool.{and_from, and_left, and_right, not_from_false, not_from_true}
use Rattle.vd_keeper.specs.Keeping.{KeeperState}
use Rattle.vd_keeper.specs.Moves.{none_of, after_put}
use Rattle.vd_keeper.specs.KeeperFields.{keeper_state}
use Rattle.vd_keeper.proofs.Counts.{left-some, after-records, after-recycle, some-counted, none-counted}
use Rattle.vd_keeper.proofs.keeper.Keeper.after_put.Goals as goal
use Rattle.vd_keeper.proofs.keeper.Keeper.after_put.Goals.{else-not-self-via-then-not-self+else-count-gt0, else-not-self-via-else-not-self}

pub returns-then-is_some : goal.returns-then-is_some
returns-then-is_some c =
    after-records (keeper_state c.self.inside) true c.in-Records.is (sym c.if-is_some.true ∙ c.is_some.ensures ∙ left-some c.self.inside c.self.invariant c.next.result c.next.ensures.next c.next.ensures.none.0)
    ∙ ap (λ (k : KeeperState). after_put k k.way) c.self.view_is

pub returns-else-is_some : goal.returns-else-is_some
returns-else-is_some c =
    after-records (keeper_state c.self.inside) false c.in-Records.is (sym c.if-is_some.false ∙ c.is_some.ensures ∙ left-some c.self.inside c.self.invariant c.next.result c.next.ensures.next c.next.ensures.none.0)
    ∙ ap (λ (k : KeeperState). after_put k k.way) c.self.view_is

pub returns-then-count-gt0 : goal.returns-then-count-gt0
returns-then-count-gt0 c =
    after-recycle (keeper_state c.self.inside) c.in-Recycle.tracked true c.in-Recycle.is
    (and_from (not c.self.inside.head) (not (none_of c.self.inside.marked)) (not_from_false c.self.inside.head c.if-not-self.true) (not_from_false (none_of c.self.inside.marked) (some-counted c.self.inside.marked (rw (sym c.count.ensures) c.if-count-gt0.true))))
    ∙ ap (λ (k : KeeperState). after_put k k.way) c.self.view_is

pub returns-else-not-self : goal.returns-else-not-self
returns-else-not-self c =
    after-recycle (keeper_state c.self.inside) c.in-Recycle.tracked false c.in-Recycle.is
    (elim c.else-not-self.branch [
      | else-not-self-via-then-not-self+else-count-gt0 w ↦ and_right (not c.self.inside.head) (not (none_of c.self.inside.marked)) (not_from_true (none_of c.self.inside.marked) (none-counted c.self.inside.marked (rw (sym w.count.ensures) w.if-count-gt0.false)))
      | else-not-self-via-else-not-self w ↦ and_left (not c.self.inside.head) (not (none_of c.self.inside.marked)) (not_from_true c.self.inside.head w.if-not-self.false)
    ])
    ∙ ap (λ (k : KeeperState). after_put k k.way) c.self.view_is
