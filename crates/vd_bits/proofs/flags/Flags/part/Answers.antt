use Rattle.std.proofs.Common.{◌+◌, ◌/◌, ◌%◌, ◌^◌, ◌≤◌, ap, ◌∙◌, arith, take, drop}
use lib.Bits.{bit_and}
use Rattle.std.proofs.lemmas.List.{get_or_read}
use Rattle.vd_bits.specs.Masks.{mask_of}
use Rattle.vd_bits.proofs.RowLaws.{has_word, length_of_row, part_is}
use Rattle.vd_bits.proofs.flags.Flags.part.Goals as goal

pub index-requires : goal.index-requires
index-requires c =
    let f = c.self.inside in
    let l = length_of_row f.words.items f.len c.args.self.now c.self.view_is in
    omega (arith, has_word f.words.items f.len c.args.at c.self.invariant (omega arith), f.words.ok.0)

pub returns : goal.returns
returns c =
    let f = c.self.inside in
    let l = length_of_row f.words.items f.len c.args.self.now c.self.view_is in
    let inside : c.args.at + c.args.count ≤ f.len = omega arith in
    let is = get_or_read f.words.items (c.args.at / 64) c.index.result.now (has_word f.words.items f.len c.args.at c.self.invariant (omega arith)) c.index.ensures 0 in
    ap (λ w. bit_and (w / 2 ^ (c.args.at % 64)) c.ones.result) is
    ∙ (part_is f.words.items f.len c.args.at c.args.count c.ones.result c.requires.one_word inside c.ones.ensures
    ∙ ap (λ s. mask_of (take c.args.count (drop c.args.at s))) c.self.view_is)
