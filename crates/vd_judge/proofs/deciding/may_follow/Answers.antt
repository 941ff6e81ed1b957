use Rattle.std.proofs.Common.{ℕ, length, take, sym, subst}
use Rattle.vd_law.specs.Entries.{entry_of, past}
use Rattle.vd_law.specs.Rules.{LiesInside}
use Rattle.vd_law.proofs.Inside.{lies-inside}
use Rattle.vd_judge.proofs.deciding.may_follow.Goals as goal

pub is_alone-requires-clause-inside : goal.is_alone-requires-clause-inside
is_alone-requires-clause-inside g c =
    let p = past (take c.args.i c.args.log.now.entries) in let e = entry_of c.args.event in
    subst (λ (size : ℕ). LiesInside size e) (sym c.sectors-size.ensures)
    (lies-inside (length (g.F.Flat.disk c.args.start.now)) p e c.requires.legal.regular.in_turn (c.is_in_place.ensures.0 c.if-not-is_in_place.false))

pub is_shown-requires-clause-inside : goal.is_shown-requires-clause-inside
is_shown-requires-clause-inside g c =
    let p = past (take c.args.i c.args.log.now.entries) in let e = entry_of c.args.event in
    lies-inside (length (g.F.Flat.disk c.args.start.now)) p e c.requires.legal.regular.in_turn (c.is_in_place.ensures.0 c.if-not-is_in_place.false)
