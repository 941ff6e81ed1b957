use Rattle.std.proofs.Common.{◌≡◌, ◌+◌, ◌/◌, ◌≤◌, ◌++◌, get_or, ap, ◌∙◌, arith, take, drop}
use Rattle.std.proofs.lemmas.List.{get_or_read}
use Rattle.vd_bits.specs.Masks.{bits_of}
use Rattle.vd_bits.proofs.RowLaws.{has_word, length_of_row, laid_row, laid_is}
use Rattle.vd_bits.proofs.flags.Flags.put_part.Goals as goal
use Rattle.vd_bits.proofs.flags.Flags.put_part.Goals.{After-self-1}

pub index_mut-word-requires : goal.index_mut-word-requires
index_mut-word-requires c =
    let f = c.self.inside in
    let l = length_of_row f.words.items f.len c.args.self.now c.self.view_is in
    omega (arith, has_word f.words.items f.len c.args.at c.self.invariant (omega arith), f.words.ok.0)

inside : (c : After-self-1) → c.args.at + c.args.count ≤ c.self.inside.len
inside c = omega (arith, length_of_row c.self.inside.words.items c.self.inside.len c.args.self.now c.self.view_is)

read : (c : After-self-1) → c.index_mut-word.result.now ≡ get_or c.self.inside.words.items (c.args.at / 64) 0
read c =
    let f = c.self.inside in
    get_or_read f.words.items (c.args.at / 64) c.index_mut-word.result.now (has_word f.words.items f.len c.args.at c.self.invariant (omega (arith, inside c))) c.index_mut-word.ensures.value 0

pub invariant_of-self : goal.invariant_of-self
invariant_of-self c =
    laid_row c.self.inside.words.items c.self.inside.len c.args.at c.args.count c.index_mut-word.result.now c.ones.result c.args.mask c.self.invariant (read c) c.requires.one_word c.requires.some (inside c) c.ones.ensures c.requires.fits

pub returns : goal.returns
returns c =
    laid_is c.self.inside.words.items c.self.inside.len c.args.at c.args.count c.index_mut-word.result.now c.ones.result c.args.mask c.self.invariant (read c) c.requires.one_word c.requires.some (inside c) c.ones.ensures c.requires.fits
    ∙ ap (λ s. take c.args.at s ++ bits_of c.args.count c.args.mask ++ drop (c.args.at + c.args.count) s) c.self.view_is
