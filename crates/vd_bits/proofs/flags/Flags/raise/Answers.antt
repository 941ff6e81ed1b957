use Rattle.std.proofs.Common.{◌≡◌, ◌-◌, ◌∙◌, ap, sym, arith, length, replicate, set, true}
use Rattle.vd_bits.specs.Rows.{row, IsRow}
use Rattle.vd_bits.proofs.RowLaws.{length_of_row}
use Rattle.vd_bits.proofs.RowFills.{enough, all_up, trimmed}
use Rattle.vd_bits.proofs.flags.Flags.raise.Goals as goal
use Rattle.vd_bits.proofs.flags.Flags.raise.Goals.{After-fill, After-self-1}

filled : (c : After-fill) → c.fill.new.self.items ≡ replicate (length c.self.inside.words.items) 18446744073709551615
filled c = rw (← c.self.inside.words.ok.0) (c.fill.ensures.items (λ y e. e))

same_length : (c : After-fill) → replicate c.self.inside.len true ≡ replicate (length c.args.self.now) true
same_length c = ap (λ n. replicate n true) (sym (length_of_row c.self.inside.words.items c.self.inside.len c.args.self.now c.self.view_is))

last_trimmed : (c : After-self-1) → IsRow (set c.fill.new.self.items (c.len-last.result - 1) c.ones.result) c.self.inside.len × (row (set c.fill.new.self.items (c.len-last.result - 1) c.ones.result) c.self.inside.len ≡ replicate c.self.inside.len true)
last_trimmed c =
    trimmed c.self.inside.words.items c.fill.new.self.items c.self.inside.len c.len-last.result c.ones.result c.self.invariant
    (rw (← c.self.inside.words.ok.0) (c.fill.ensures.items (λ y e. e))) (c.len-last.ensures ∙ c.fill.new.self.ok.0) c.if-rest-gt0.true c.ones.ensures

pub invariant_of-self : goal.invariant_of-self
invariant_of-self c = (last_trimmed c).0

pub returns-then-rest-gt0 : goal.returns-then-rest-gt0
returns-then-rest-gt0 c = (last_trimmed c).1 ∙ same_length (goal.at.returns-then-rest-gt0 c).After-fill

pub returns-else-rest-gt0 : goal.returns-else-rest-gt0
returns-else-rest-gt0 c =
    let k = (goal.at.returns-else-rest-gt0 c).After-fill in
    ap (λ ws. row ws k.self.inside.len) (filled k)
    ∙ ((all_up (length k.self.inside.words.items) k.self.inside.len (enough k.self.inside.words.items k.self.inside.len k.self.invariant) (omega arith)).1 ∙ same_length k)
