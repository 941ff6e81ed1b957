use Rattle.std.proofs.Common.{ℕ, ◌+◌, sym, ap, ◌∙◌, refl}
use Rattle.std.proofs.lemmas.List.{length_push}
use Rattle.vd_format.specs.SlotReading.{facts_in}
use Rattle.vd_format.proofs.SlotReading.{begins, goes_on, gives_up, ends}
use Rattle.vd_format.proofs.journal.records.read_facts.Goals as goal

pub loop-place-init : goal.loop-place-init
loop-place-init c =
    rw c.new-facts.ensures (record { len = refl; rest = begins c.args.shape.now c.args.bytes.now c.args.count })

pub returns-in_err-fact : goal.returns-in_err-fact
returns-in_err-fact c =
    let shape = c.args.shape.now in
    let bytes = c.args.bytes.now in
    c.from_residual.ensures
    ∙ sym (gives_up shape c.loop-place.from bytes c.args.count c.loop-place.place c.loop-place.facts (facts_in shape 0 bytes 24 c.args.count) c.loop-place-test.true (sym c.read_fact.ensures.next ∙ c.in_err-fact.was) c.loop-place.invariant.rest)

pub loop-place-preserved : goal.loop-place-preserved
loop-place-preserved c =
    let shape = c.args.shape.now in
    let bytes = c.args.bytes.now in
    let fact = c.in_ok-fact.fact in
    rw c.push.ensures (record {
      len = length_push c.loop-place.facts fact ∙ ap (λ (n : ℕ). n + 1) c.loop-place.invariant.len;
      rest = goes_on shape c.loop-place.from bytes c.args.count c.loop-place.place c.loop-place.facts fact (facts_in shape 0 bytes 24 c.args.count) c.loop-place-test.true (sym c.read_fact.ensures.next ∙ c.in_ok-fact.was) c.loop-place.invariant.rest;
    })

pub returns : goal.returns
returns c =
    let shape = c.args.shape.now in
    let bytes = c.args.bytes.now in
    sym (ends shape c.loop-place.from bytes c.args.count c.loop-place.place c.loop-place.facts (facts_in shape 0 bytes 24 c.args.count) c.loop-place-test.false c.loop-place.invariant.rest)
