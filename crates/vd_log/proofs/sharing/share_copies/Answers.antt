use Rattle.std.proofs.Common.{List, sym, ◌∙◌, ap, subst, arith, length-set}
use Rattle.std.specs.Prelude.{replicate}
use Rattle.std.proofs.lemmas.List.Elements.{All-set, All-get_or}
use Rattle.vd_law.specs.declared.entry.Sector.{Sector}
use Rattle.vd_log.specs.StoredEntries.{content_in, IsOfOneSector, IsShared}
use Rattle.vd_log.proofs.Copies.{shared-append, kept-run, kept-copies}
use Rattle.vd_log.proofs.sharing.share_copies.Goals as goal

pub front_of-found-requires-clause-run : goal.front_of-found-requires-clause-run
front_of-found-requires-clause-run c =
    let runs = c.requires.shared.runs in let low = c.run_place-place.ensures in
    subst (λ (zs : List Sector). IsOfOneSector zs c.index.result.now) (sym c.as_slice.ensures.value)
    (subst (IsOfOneSector c.args.sectors.now.items) (sym c.index.ensures)
    (All-get_or (IsOfOneSector c.args.sectors.now.items) c.args.shared.now.runs.items c.run_place-place.result c.index.result.now (omega (arith, runs, low)) c.requires.shared.each_run))

pub returns-clause-content : goal.returns-clause-content
returns-clause-content c =
    let kept = c.keep_run-run.ensures in let most = c.if-count-gt-RUN.false in
    ap (λ (zs : List Sector). content_in zs (record { start = c.keep_run-run.result.start; count = c.args.count })) kept.sectors
    ∙ kept-copies c.args.sectors.now.items c.args.first.now 64 c.args.count c.keep_run-run.result kept.place (omega (arith, most))

pub returns-clause-shared : goal.returns-clause-shared
returns-clause-shared c =
    let kept = c.keep_run-run.ensures in let copies : List Sector = replicate 64 c.args.first.now in
    let is = subst (λ (zs : List Sector). IsShared zs c.args.shared.now) (sym kept.sectors) (shared-append c.args.sectors.now.items copies c.args.shared.now c.requires.shared) in record {
      next = is.next;
      places = is.places;
      each_place = is.each_place;
      runs = length-set _ _ _ ∙ is.runs;
      each_run = All-set (IsOfOneSector c.keep_run-run.new.sectors.items) c.args.shared.now.runs.items c.run_place-place.result c.keep_run-run.result
          (subst (λ (zs : List Sector). IsOfOneSector zs c.keep_run-run.result) (sym kept.sectors) (kept-run c.args.sectors.now.items c.args.first.now 64 c.keep_run-run.result kept.place kept.count)) is.each_run;
    }
