use Rattle.std.proofs.Common.{List, length, sym, ◌∙◌, ap, subst, arith, length-append, length-set}
use Rattle.std.proofs.lemmas.List.Elements.{All-set}
use Rattle.vd_law.specs.declared.entry.Sector.{Sector}
use Rattle.vd_log.specs.StoredEntries.{IsAmong, IsShared}
use Rattle.vd_log.proofs.Copies.{shared-append}
use Rattle.vd_log.proofs.sharing.share_front.Goals as goal

pub returns-in-None-clause-shared : goal.returns-in-None-clause-shared
returns-in-None-clause-shared c =
    let kept = c.keep-kept.ensures in let size = ap length kept.sectors in let long = length-append c.args.sectors.now.items c.args.content.now in
    let is = subst (λ (zs : List Sector). IsShared zs c.args.shared.now) (sym kept.sectors) (shared-append c.args.sectors.now.items c.args.content.now c.args.shared.now c.requires.shared) in record {
      next = is.next;
      places = length-set _ _ _ ∙ is.places;
      each_place = All-set (IsAmong (length c.keep-kept.new.sectors.items)) c.args.shared.now.places.items c.place_of-place.result c.keep-kept.result (omega (arith, kept.place, kept.count, size, long)) is.each_place;
      runs = is.runs;
      each_run = is.each_run;
    }
