use Rattle.std.proofs.Common.{◌≡◌, ap, ◌∙◌, arith}
use Rattle.vd_bits.specs.Rows.{row}
use Rattle.vd_bits.proofs.RowLaws.{length_of_row}
use Rattle.vd_bits.proofs.flags.Flags.copy_from.Goals as goal

pub copy_from_slice-requires : goal.copy_from_slice-requires
copy_from_slice-requires c =
    let l = length_of_row c.self.inside.words.items c.self.inside.len c.args.self.now c.self.view_is in
    let o = length_of_row c.other.inside.words.items c.other.inside.len c.args.other.now c.other.view_is in
    omega (arith, c.self.inside.words.ok.0, c.other.inside.words.ok.0, c.deref.ensures.len, c.self.invariant.enough, c.self.invariant.needed, c.other.invariant.enough, c.other.invariant.needed)

pub invariant_of-self : goal.invariant_of-self
invariant_of-self c =
    let l = length_of_row c.self.inside.words.items c.self.inside.len c.args.self.now c.self.view_is in
    let o = length_of_row c.other.inside.words.items c.other.inside.len c.args.other.now c.other.view_is in
    let same : c.self.inside.len ≡ c.other.inside.len = omega arith in
    rw (c.copy_from_slice.ensures.items, c.deref.ensures.value, same) c.other.invariant

pub returns : goal.returns
returns c =
    let l = length_of_row c.self.inside.words.items c.self.inside.len c.args.self.now c.self.view_is in
    let o = length_of_row c.other.inside.words.items c.other.inside.len c.args.other.now c.other.view_is in
    let same : c.self.inside.len ≡ c.other.inside.len = omega arith in
    ap (λ ws. row ws c.self.inside.len) (c.copy_from_slice.ensures.items ∙ c.deref.ensures.value) ∙ (ap (λ n. row c.other.inside.words.items n) same ∙ c.other.view_is)
