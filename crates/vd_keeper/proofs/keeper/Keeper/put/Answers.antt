use Rattle.std.proofs.Common.{◌≡◌, ◌<◌, length, sym, refl, ap, ◌∙◌, subst}
use Rattle.vd_format.specs.Headers.{spelling}
use Rattle.vd_keeper.specs.declared.stage.Stage.TheVariants.{Puts}
use Rattle.vd_keeper.specs.declared.stage.Way.TheVariants.{Records}
use Rattle.vd_keeper.specs.declared.stage.Put.TheVariants as puts
use Rattle.vd_keeper.specs.Entries.{chunks_with}
use Rattle.vd_keeper.specs.Flushes.{is_recycle}
use Rattle.vd_keeper.specs.Moves.{Next_page, Next_header, HasPutDue}
use Rattle.vd_keeper.specs.KeeperFields.{keeper_state}
use Rattle.vd_keeper.proofs.Ended.{recycle-header}
use Rattle.vd_keeper.proofs.PutLaws.{record-keeper, record-put}
use Rattle.vd_keeper.proofs.keeper.Keeper.put.Goals as goal
use Rattle.vd_keeper.proofs.keeper.Keeper.put.Goals.{After-record_of-from}

at-puts : (c : After-record_of-from) → c.self.inside.stage ≡ Puts
at-puts c = rw (sym c.self.view_is) at c.requires.stage

due : (c : After-record_of-from) → c.self.inside.logged < length (chunks_with c.self.inside.header c.self.inside.snapshot.bits)
due c =
    let is : HasPutDue (keeper_state c.self.inside) = subst HasPutDue (sym c.self.view_is) c.requires.due in
    is.records c.in-Records.is

pub invariant_of-self : goal.invariant_of-self
invariant_of-self c =
    let k = (goal.at.invariant_of-self c).After-record_of-from in
    let done = c.record_of-from in
    rw c.from.ensures (record-keeper c.self.inside c.self.invariant done.result.2 done.result.1 c.in-Records.is (at-puts k) (due k) done.ensures.count done.ensures.rest)

pub returns-in-Records : goal.returns-in-Records
returns-in-Records c =
    let k = (goal.at.returns-in-Records c).After-record_of-from in
    let done = c.record_of-from in
    record {
      next = rw (c.from.ensures, ← c.self.view_is) (record-put c.self.inside c.self.invariant done.result.2 done.result.1 c.in-Records.is (at-puts k) (due k) done.ensures.count done.ensures.rest c.args.table.now done.result.0 done.ensures.bytes);
    }

pub returns-in-Some : goal.returns-in-Some
returns-in-Some c = record {
  next = rw (c.unmark.ensures, c.mark.ensures, ← c.self.view_is) (Next_page c.in-Some.at c.map_page-sector.result (ap is_recycle c.in-Recycle.is) c.in-Some.ensures.lowest c.map_page-sector.ensures);
}

pub returns-in-None : goal.returns-in-None
returns-in-None c = record {
  next =
      rw (← c.self.view_is)
      (Next_header c.write_header-sector.result (ap is_recycle c.in-Recycle.is) (c.in-None.ensures.none.0 refl)
      (c.write_header-sector.ensures.spelled ∙ ap spelling (c.next_header.ensures ∙ recycle-header c.self.inside.way c.in-Recycle.tracked c.self.inside.header c.in-Recycle.is)));
}
