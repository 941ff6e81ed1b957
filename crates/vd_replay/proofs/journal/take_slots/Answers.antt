use Rattle.std.proofs.Common.{ℕ, ◌+◌, ◌≡◌, ◌<◌, List, length, ap, sym, ◌∙◌, subst, arith}
use Rattle.std.specs.Prelude.{slice_index_or}
use Rattle.std.proofs.lemmas.List.{get_or_default}
use Rattle.std.proofs.lemmas.Result.{err_from_is_err_and}
use Rattle.vd_law.specs.declared.entry.Sector.{Sector}
use Rattle.vd_replay.specs.Pages.{AreAt}
use Rattle.vd_replay.specs.Journal.{AreReplayed}
use Rattle.vd_replay.proofs.JournalLaws.{outside_further}
use Rattle.vd_replay.proofs.journal.take_slots.Goals as goal
use Rattle.vd_format.specs.Background.{zero_sector}

at_slot : (slot index n : ℕ) (at : ℕ → Sector) (sectors : List Sector) (d : Sector) → n ≡ slot + index → index < length sectors → AreAt at slot sectors → at n ≡ slice_index_or sectors index d
at_slot slot index n at sectors d is within each = ap at is ∙ each index within ∙ get_or_default sectors index zero_sector d within

pub returns-in_err-next-2-clause-replayed : goal.returns-in_err-next-2-clause-replayed
returns-in_err-next-2-clause-replayed c at pages each before =
    let p = err_from_is_err_and c.from_residual-in_err-next-2.result c.from_residual-in_err-next-2.ensures.1 in
    let number = c.loop-sector.invariant.number in
    let now = subst (λ (n : ℕ). AreReplayed c.args.shape.now at n pages c.loop-sector.map c.loop-sector.next) (sym number) (c.loop-sector.invariant.replayed at pages each before) in
    rw (p.1, p.2) (outside_further c.args.shape.now at (c.loop-sector.number + 1) (c.args.slot + length c.args.sectors.now) c.in_err-next-2.field-0.0 (omega arith)
    (c.in_err-next-2.ensures.replayed at pages (at_slot c.args.slot c.loop-sector.sector-index c.loop-sector.number at c.args.sectors.now _ number c.loop-sector-test.true each) now))

pub loop-sector-preserved : goal.loop-sector-preserved
loop-sector-preserved c =
    let number = c.loop-sector.invariant.number in
    record {
      number = omega arith;
      size = c.take_slot.ensures.size ∙ c.loop-sector.invariant.size;
      taken = record { within = (let w = c.in_ok-next-2.ensures.within in omega arith); grammar = c.in_ok-next-2.ensures.grammar c.loop-sector.invariant.taken.grammar };
      replayed = λ at pages each before.
          let now = subst (λ (n : ℕ). AreReplayed c.args.shape.now at n pages c.loop-sector.map c.loop-sector.next) (sym number) (c.loop-sector.invariant.replayed at pages each before) in
          subst (λ (n : ℕ). AreReplayed c.args.shape.now at n pages c.take_slot.new.map c.in_ok-next-2.next) (omega arith)
          (c.in_ok-next-2.ensures.replayed at pages (at_slot c.args.slot c.loop-sector.sector-index c.loop-sector.number at c.args.sectors.now _ number c.loop-sector-test.true each) now);
    }

pub returns-clause-replayed : goal.returns-clause-replayed
returns-clause-replayed c at pages each before =
    subst (λ (n : ℕ). AreReplayed c.args.shape.now at n pages c.loop-sector.map c.loop-sector.next) (omega arith) (c.loop-sector.invariant.replayed at pages each before)
