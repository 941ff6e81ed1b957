use Rattle.std.proofs.Common.{◌≡◌, ◌⊎◌, ◌-◌, true, false, not, length, sym, ap, ◌∙◌}
use Rattle.std.specs.Prelude.{◌||◌, nat_lt}
use Rattle.std.proofs.lemmas.Bool.{or_left, not_from_false}
use Rattle.vd_keeper.specs.declared.stage.Stage.TheVariants.{Rest, Broken}
use Rattle.vd_keeper.specs.Entries.{union_of, chunks_with}
use Rattle.vd_keeper.specs.Flushes.{records_for}
use Rattle.vd_keeper.specs.Moves.{way_of}
use Rattle.vd_keeper.specs.KeeperFields.{keeper_state}
use Rattle.vd_keeper.proofs.Counts.{way-recycle, way-big, way-nothing, way-some, none-owed, some-owed, fits-or-not}
use Rattle.vd_keeper.proofs.keeper.Keeper.way_for.Goals as goal
use Rattle.vd_keeper.proofs.keeper.Keeper.way_for.Goals.{then-not-self, else-not-self, Joined-not-self}

rest : (c : Joined-not-self) → (c.self.inside.stage ≡ Rest) ⊎ (c.self.inside.stage ≡ Broken)
rest c = rw (sym c.self.view_is) at c.requires

big : (c : Joined-not-self) → c.if-not-self.value ≡ (not c.self.inside.sure || nat_lt (c.self.inside.header.slots - c.self.inside.next) (records_for (length (chunks_with c.self.inside.header (union_of c.self.inside.later.bits c.self.inside.snapshot.bits)))))
big c = elim c.if-not-self.branch [
  | then-not-self w ↦ w.value-is ∙ not_from_false c.self.inside.sure w.if-not-self.true ∙ sym (or_left (not c.self.inside.sure) (nat_lt (c.self.inside.header.slots - c.self.inside.next) (records_for (length (chunks_with c.self.inside.header (union_of c.self.inside.later.bits c.self.inside.snapshot.bits))))) (not_from_false c.self.inside.sure w.if-not-self.true))
  | else-not-self w ↦ w.value-is
      ∙ fits-or-not c.self.inside c.self.invariant (rest c) c.chunks-chunks.result c.from-left.result w.if-not-self.false c.chunks-chunks.ensures.chunks c.from-left.ensures
]

pub returns-in-Recycle : goal.returns-in-Recycle
returns-in-Recycle c = way-recycle c.args.route c.args.self.now c.in-Recycle.tracked c.in-Recycle.is

pub returns-then-left-chunks : goal.returns-then-left-chunks
returns-then-left-chunks c = way-big c.args.route (keeper_state c.self.inside) c.in-Owed.is (sym (big (goal.at.returns-then-left-chunks c).Joined-not-self) ∙ c.if-left-chunks.true) ∙ ap (way_of c.args.route) c.self.view_is

pub returns-then-chunks-eq0 : goal.returns-then-chunks-eq0
returns-then-chunks-eq0 c =
    let k = (goal.at.returns-then-chunks-eq0 c).Joined-not-self in
    way-nothing c.args.route (keeper_state c.self.inside) c.in-Owed.is (sym (big k) ∙ c.if-left-chunks.false) (none-owed c.self.inside c.self.invariant (rest k) (sym c.chunks-chunks.ensures.chunks ∙ c.if-chunks-eq0.true)) ∙ ap (way_of c.args.route) c.self.view_is

pub returns-else-chunks-eq0 : goal.returns-else-chunks-eq0
returns-else-chunks-eq0 c =
    let k = (goal.at.returns-else-chunks-eq0 c).Joined-not-self in
    way-some c.args.route (keeper_state c.self.inside) c.in-Owed.is (sym (big k) ∙ c.if-left-chunks.false) (some-owed c.self.inside c.self.invariant (rest k) (λ e. c.if-chunks-eq0.false (c.chunks-chunks.ensures.chunks ∙ e))) ∙ ap (way_of c.args.route) c.self.view_is
