use Rattle.std.proofs.Common.{◌≡◌, ◌+◌, ◌/◌, ◌%◌, ◌^◌, ◌<◌, ◌≤◌, get_or, length, arith}
use Rattle.vd_bits.proofs.RowLaws.{length_of_row}
use Rattle.vd_bits.proofs.RowSearch.{no_word, none_up, stays_in_word, lowest_up}
use Rattle.std.specs.Int.{trailing_zeros, w64}
use Rattle.vd_bits.proofs.flags.Flags.lowest_from.Goals as goal
use Rattle.vd_bits.proofs.flags.Flags.lowest_from.Goals.{After-row_known-else-rest-eq0-1}

pub returns-in_err-word-clause-none : goal.returns-in_err-word-clause-none
returns-in_err-word-clause-none c =
    let f = c.self.inside in
    let past : length f.words.items ≤ c.args.from / 64 = rw (← c.deref.ensures.value) c.in_err-word.ensures.lookup.3 in
    rw c.from_residual.ensures (λ at _ same h. absurd (no_word f.words.items f.len c.args.from at c.self.invariant past same (omega (arith, length_of_row f.words.items f.len c.args.self.now c.self.view_is))))

stays : (c : After-row_known-else-rest-eq0-1) → c.args.from % 64 + trailing_zeros w64 (c.in_ok-word.field-0.now / 2 ^ (c.args.from % 64)) < 64
stays c =
    let f = c.self.inside in
    stays_in_word f.words.items f.len c.args.from c.in_ok-word.field-0.now c.self.invariant (rw (← c.deref.ensures.value) (c.in_ok-word.ensures.lookup.3.1 0)) (omega arith) (omega arith)

pub overflow_add-result : goal.overflow_add-result
overflow_add-result c = omega (arith, stays c)

pub returns-then-rest-eq0-clause-none : goal.returns-then-rest-eq0-clause-none
returns-then-rest-eq0-clause-none c =
    let f = c.self.inside in
    let l = length_of_row f.words.items f.len c.args.self.now c.self.view_is in
    let is : c.in_ok-word.field-0.now ≡ get_or f.words.items (c.args.from / 64) 0 = rw (← c.deref.ensures.value) (c.in_ok-word.ensures.lookup.3.1 0) in
    λ at h same inside. rw (← c.self.view_is) (none_up f.words.items f.len c.args.from c.in_ok-word.field-0.now c.self.invariant is (omega arith) c.if-rest-eq0.true at h same (omega arith))

pub returns-else-rest-eq0-clause-found : goal.returns-else-rest-eq0-clause-found
returns-else-rest-eq0-clause-found c =
    let f = c.self.inside in
    let is : c.in_ok-word.field-0.now ≡ get_or f.words.items (c.args.from / 64) 0 = rw (← c.deref.ensures.value) (c.in_ok-word.ensures.lookup.3.1 0) in
    rw (← c.self.view_is) (lowest_up f.words.items f.len c.args.from c.in_ok-word.field-0.now c.self.invariant is (omega arith) (omega arith))

pub returns-else-rest-eq0-clause-word : goal.returns-else-rest-eq0-clause-word
returns-else-rest-eq0-clause-word c = omega (arith, stays c)
