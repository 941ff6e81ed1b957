use Rattle.std.proofs.Common.{◌∙◌, sym, refl, ap, arith, inl, inr, slice_set, Some}
use Rattle.vd_passes.specs.declared.pass.Pass.{Pass}
use Rattle.vd_passes.specs.Requests.{requests}
use Rattle.vd_passes.specs.Causes.{OfBase, flying_of}
use Rattle.vd_device.proofs.Keeping.{base-keeps-same}
use Rattle.vd_lists.proofs.Changes.{slice_set_here}
use Rattle.vd_lists.proofs.Places.{read_place}
use Rattle.vd_machine.proofs.Members.{picked}
use Rattle.vd_machine.proofs.fetching.fetch_block.Goals as goal

pub returns-clause-fetches : goal.returns-clause-fetches
returns-clause-fetches g c =
    let at = c.requires.ready in let got = c.submit_read-ticket.ensures in λ fresh entries.
    inl (
      record {
        pass = c.index_mut-p.result.now;
        ticket = c.submit_read-ticket.result;
        there = read_place c.args.passes.now.items c.args.pass at.0 c.index_mut-p.result.now at.1 c.index_mut-p.ensures.value;
        after = ap (λ (x : Pass). requests c.args.shape.now fresh (slice_set c.args.passes.now.items c.args.pass x) entries) c.begin_fetch.ensures;
        kind = got.ticket.kind_is;
        first = got.ticket.first_is;
        count = got.ticket.count_is ∙ c.below-count.ensures;
        call = record { next = got.next; flight = got.flight; keeps = record { counts = got.counts; telling = got.telling } };
      },
      (let more = c.if-count-eq0.false in let count = c.below-count.ensures in omega (arith, more, count)),
    )

pub begin_fetch-requires : goal.begin_fetch-requires
begin_fetch-requires g c =
    let at = c.requires.ready in let none = ap (λ (p : Pass). p.fetch) (sym (picked c.args.passes.now.items c.args.pass at c.index_mut-p.result.now c.index_mut-p.ensures.value)) in none ∙ at.2.none.fetch

pub returns-clause-number : goal.returns-clause-number
returns-clause-number g c =
    let at = c.requires.ready in let passes = c.args.passes.now.items in let q = c.index_mut-p.result.now in let next = c.submit_read-ticket.ensures.next in
    let there = read_place passes c.args.pass at.0 q at.1 c.index_mut-p.ensures.value in
    (c.begin_fetch.new.self, slice_set_here passes c.args.pass c.begin_fetch.new.self q there, inr (ap (flying_of OfBase) c.begin_fetch.ensures ∙ ap Some next.number, next.last ∙ next.number))

pub returns-then-count-eq0-clause-number : goal.returns-then-count-eq0-clause-number
returns-then-count-eq0-clause-number g c =
    let at = c.requires.ready in let passes = c.args.passes.now.items in let q = c.index_mut-p.result.now in
    let there = read_place passes c.args.pass at.0 q at.1 c.index_mut-p.ensures.value in
    (c.fill.new.self, slice_set_here passes c.args.pass c.fill.new.self q there, inl (ap (flying_of OfBase) c.fill.ensures, refl))

pub returns-clause-keeps : goal.returns-clause-keeps
returns-clause-keeps g c = let got = c.submit_read-ticket.ensures in record { counts = got.counts; telling = got.telling }

pub returns-then-count-eq0-clause-keeps : goal.returns-then-count-eq0-clause-keeps
returns-then-count-eq0-clause-keeps g c = base-keeps-same g.B.Base c.args.base.now
