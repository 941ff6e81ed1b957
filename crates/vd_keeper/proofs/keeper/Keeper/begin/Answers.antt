use Rattle.std.proofs.Common.{◌≡◌, ◌⊎◌, ◌≤◌, ℕ, nat_eq, false, length, sym, ap, ◌∙◌}
use Rattle.std.proofs.lemmas.Bool.{and_left, and_right, ne_eqb}
use Rattle.vd_bits.specs.Blocks.{Blocks}
use Rattle.vd_keeper.specs.declared.stage.Stage.TheVariants.{Rest, Broken}
use Rattle.vd_keeper.specs.declared.stage.Route.TheVariants.{Recycle}
use Rattle.vd_keeper.specs.Entries.{union_of}
use Rattle.vd_keeper.specs.Flushes.{is_recycle, last_generation}
use Rattle.vd_keeper.specs.Moves.{way_of, after_begin, is_worn_out, pages_with}
use Rattle.vd_keeper.specs.Sets.{chunks_from}
use Rattle.vd_keeper.specs.KeeperFields.{keeper_state}
use Rattle.vd_keeper.proofs.Begun.{begun-view, begun-keeper}
use Rattle.vd_keeper.proofs.keeper.Keeper.begin.Goals as goal
use Rattle.vd_keeper.proofs.keeper.Keeper.begin.Goals.{else-is_recycle-via-then-is_recycle+else-self-eq-LAST_GENERATION, else-is_recycle-via-else-is_recycle, After-mark_pages}

rest : (c : After-mark_pages) → (c.self.inside.stage ≡ Rest) ⊎ (c.self.inside.stage ≡ Broken)
rest c = rw (sym c.self.view_is) at c.requires.rest

tracked : (c : After-mark_pages) → (t : ℕ) → c.args.route ≡ Recycle t → t ≤ c.self.inside.header.tracked
tracked c = rw (sym c.self.view_is) at c.requires.tracked

way-is : (c : After-mark_pages) → c.way_for-way.result ≡ way_of c.args.route (keeper_state c.self.inside)
way-is c = c.way_for-way.ensures ∙ ap (way_of c.args.route) (sym c.self.view_is)

marks-are : (c : After-mark_pages) → c.mark_pages.new.marked ≡ union_of c.self.inside.marked (pages_with (length c.self.inside.marked) (chunks_from c.self.inside.later 0))
marks-are c = c.mark_pages.ensures ∙ ap (λ (b : Blocks). union_of c.self.inside.marked (pages_with (length c.self.inside.marked) (chunks_from b 0))) c.swap.ensures.y_after

worn : (c : After-mark_pages) → is_worn_out c.args.route (keeper_state c.self.inside) ≡ false
worn c =
    let is : is_recycle (way_of c.args.route (keeper_state c.self.inside)) ≡ c.is_recycle.result = sym (c.is_recycle.ensures ∙ ap is_recycle (way-is c)) in
    elim c.else-is_recycle.branch [
      | else-is_recycle-via-then-is_recycle+else-self-eq-LAST_GENERATION w ↦ and_right (is_recycle (way_of c.args.route (keeper_state c.self.inside))) (nat_eq c.self.inside.header.generation last_generation) (ne_eqb c.self.inside.header.generation last_generation w.if-self-eq-LAST_GENERATION.false)
      | else-is_recycle-via-else-is_recycle w ↦ and_left (is_recycle (way_of c.args.route (keeper_state c.self.inside))) (nat_eq c.self.inside.header.generation last_generation) (is ∙ w.if-is_recycle.false)
    ]

pub invariant_of-self : goal.invariant_of-self
invariant_of-self c =
    let k = (goal.at.invariant_of-self c).After-mark_pages in
    rw (c.swap.ensures.x_after, c.swap.ensures.y_after)
    (begun-keeper c.self.inside c.self.invariant (rest k) c.args.route c.way_for-way.result c.mark_pages.new.marked (way-is k) (marks-are k) (tracked k) (worn k))

pub returns-clause-begun : goal.returns-clause-begun
returns-clause-begun c e =
    let k = (goal.at.returns-clause-begun c).After-mark_pages in
    rw (c.swap.ensures.x_after, c.swap.ensures.y_after)
    (begun-view c.self.inside c.self.invariant (rest k) c.args.route c.way_for-way.result c.mark_pages.new.marked (way-is k) (marks-are k))
    ∙ ap (after_begin c.args.route) c.self.view_is
