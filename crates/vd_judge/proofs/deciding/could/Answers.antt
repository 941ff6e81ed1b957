use Rattle.std.proofs.Common.{◌≡◌, ℕ, Option, take, sym, subst, arith}
use Rattle.std.specs.Prelude.{◌↔◌, IsTrue}
use Rattle.std.specs.Option.{option_to_list}
use Rattle.std.specs.List.{Contains}
use Rattle.vd_law.specs.declared.entry.Sector.{Sector}
use Rattle.vd_law.specs.Entries.{entry_of, Past, ◌▸◌, past}
use Rattle.vd_law.specs.Contents.{could_after}
use Rattle.vd_judge.specs.ContentStates.{contents_after_change}
use Rattle.vd_law.proofs.Going.{goes_on}
use Rattle.vd_judge.proofs.Searching.{found-only, found-changed}
use Rattle.vd_judge.proofs.deciding.could.Goals as goal

pub loop-i-init : goal.loop-i-init
loop-i-init g c =
    subst (λ (o : Option Sector). IsTrue c.is_same_sector-found.result ↔ Contains (option_to_list o) c.args.v.now) (sym c.sector.ensures)
    (found-only c.is_same_sector-found.result c.sector.result c.args.v.now c.is_same_sector-found.ensures)

pub loop-i-preserved : goal.loop-i-preserved
loop-i-preserved g c =
    let disk = g.F.Flat.disk c.args.start.now in let es = c.args.log.now.entries in
    goes_on (λ (p : Past). IsTrue c.found_after-found.result ↔ Contains (could_after disk p c.args.s) c.args.v.now) es c.loop-i.i _ c.event.ensures
    (found-changed c.found_after-found.result c.args.v.now (could_after disk (past (take c.loop-i.i es) ▸ entry_of c.event.result) c.args.s) (contents_after_change c.change_by.result (could_after disk (past (take c.loop-i.i es)) c.args.s)) (c.change_by.ensures disk)
    (c.found_after-found.ensures (could_after disk (past (take c.loop-i.i es)) c.args.s) c.loop-i.invariant))

pub returns : goal.returns
returns g c =
    let disk = g.F.Flat.disk c.args.start.now in let es = c.args.log.now.entries in
    let all : c.loop-i.i ≡ c.args.entries = omega arith in
    subst (λ (n : ℕ). IsTrue c.loop-i.found ↔ Contains (could_after disk (past (take n es)) c.args.s) c.args.v.now) all c.loop-i.invariant
