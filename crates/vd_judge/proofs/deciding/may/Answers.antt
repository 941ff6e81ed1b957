use Rattle.std.proofs.Common.{◌≡◌, ℕ, Option, length, take, drop, ap, subst, arith}
use Rattle.std.specs.Prelude.{◌↔◌, IsTrue, slice_get}
use Rattle.std.specs.Option.{option_to_list}
use Rattle.std.specs.List.{Contains}
use Rattle.vd_law.specs.declared.entry.Sector.{Sector}
use Rattle.vd_law.specs.Entries.{Past, past}
use Rattle.vd_law.specs.Contents.{versions}
use Rattle.vd_judge.specs.ContentStates.{IsSearch}
use Rattle.vd_law.proofs.Going.{goes_on}
use Rattle.vd_judge.proofs.deciding.may.Goals as goal

pub loop-i-init : goal.loop-i-init
loop-i-init g c = record {
  search = c.search_start-search.ensures.search (g.F.Flat.disk c.args.start.now) c.args.s c.sector.ensures;
  bound = omega (arith, c.search_start-search.ensures.number);
}

pub loop-i-preserved : goal.loop-i-preserved
loop-i-preserved g c =
    let disk = g.F.Flat.disk c.args.start.now in let es = c.args.log.now.entries in
    let told : length (option_to_list (slice_get disk c.args.s)) ≡ 1 = ap (λ (o : Option Sector). length (option_to_list o)) c.sector.ensures in
    record {
      search = goes_on (λ (p : Past). IsSearch disk p c.args.s c.firm-firm.result c.args.v.now c.search_with-search.result) es c.loop-i.i _ c.event.ensures
          (c.search_with-search.ensures.search disk (past (take c.loop-i.i es)) told c.loop-i.invariant.search);
      bound = omega (arith, c.search_with-search.ensures.bound, c.loop-i.invariant.bound);
    }

pub returns : goal.returns
returns g c =
    let disk = g.F.Flat.disk c.args.start.now in let es = c.args.log.now.entries in let p = past (take c.args.entries es) in
    let all : c.loop-i.i ≡ c.args.entries = omega arith in
    let over : IsSearch disk p c.args.s c.firm-firm.result c.args.v.now c.loop-i.search = subst (λ (n : ℕ). IsSearch disk (past (take n es)) c.args.s c.firm-firm.result c.args.v.now c.loop-i.search) all c.loop-i.invariant.search in
    subst (λ (firm : ℕ). IsTrue c.loop-i.search.found ↔ Contains (drop firm (versions disk p c.args.s)) c.args.v.now) c.firm-firm.ensures over.found
