use Rattle.std.proofs.Common.{◌≡◌, ◌+◌, ◌^◌, length, take, ap, arith, subst}
use Rattle.std.specs.Option.{IfSome, IfNone}
use Rattle.std.proofs.lemmas.List.{length-take-le}
use Rattle.vd_bits.specs.Marks.{IsLowest, NoneFrom}
use Rattle.vd_bits.specs.Summaries.{AreLevels}
use Rattle.vd_bits.specs.Searches.{NoneOf, IsLowestOf, IsFirstWord}
use Rattle.vd_bits.proofs.WordLaws.{span_some, next_span}
use Rattle.vd_bits.proofs.LevelLaws.{levels-take}
use Rattle.vd_bits.proofs.SearchLaws.{answers, there-fits, there-found, there-none}
use Rattle.vd_bits.proofs.marked.Marked.first_from.Goals as goal
use Rattle.vd_bits.proofs.marked.Marked.first_from.Goals.{After-deref-2, After-descend}

levels : (c : After-deref-2) → AreLevels c.self.inside.flags (take c.in_ok-level.level c.deref-2.result.now)
levels c = rw c.deref-2.ensures.value (levels-take c.self.inside.flags c.self.inside.above.items c.in_ok-level.level c.self.invariant.covered.levels)

first : (c : After-deref-2) → IsFirstWord c.self.inside.flags c.args.from (64 ^ (c.in_ok-level.level + 1)) c.in_ok-level.word
first c = c.in_ok-level.ensures.first c.self.inside.flags (rw c.deref.ensures.value c.self.invariant.covered.levels) c.in_default.ensures.none

count : (c : After-deref-2) → length (take c.in_ok-level.level c.deref-2.result.now) ≡ c.in_ok-level.level
count c = length-take-le c.in_ok-level.level c.deref-2.result.now (omega (arith, c.in_ok-level.ensures.level, ap length c.deref.ensures.value, ap length c.deref-2.ensures.value))

pub descend-requires-clause-levels : goal.descend-requires-clause-levels
descend-requires-clause-levels c = levels c

pub descend-requires-clause-small : goal.descend-requires-clause-small
descend-requires-clause-small c =
    let n = c.in_ok-level.level in
    there-fits c.self.inside.flags c.args.from (64 ^ (n + 1)) c.in_ok-level.word (span_some (n + 1)) (first c) (2 ^ 64) (omega (arith, next_span n, span_some n)) (omega (arith, c.self.invariant.fits))

-- what the search below the word answers
found : (c : After-descend) → IfSome c.descend.result (IsLowest c.self.inside.flags c.args.from)
found c =
    let n = c.in_ok-level.level in let k = c.before in
    there-found c.self.inside.flags c.args.from (64 ^ (n + 1)) c.in_ok-level.word (span_some (n + 1)) (first k) c.descend.result
    (subst (λ count. IfSome c.descend.result (IsLowestOf c.self.inside.flags (64 ^ (count + 1)) c.in_ok-level.word)) (count k) c.descend.ensures.found)

none : (c : After-descend) → IfNone c.descend.result (NoneFrom c.self.inside.flags c.args.from)
none c =
    let n = c.in_ok-level.level in let k = c.before in
    there-none c.self.inside.flags c.args.from (64 ^ (n + 1)) c.in_ok-level.word (span_some (n + 1)) (first k) c.descend.result
    (subst (λ count. IfNone c.descend.result (NoneOf c.self.inside.flags (64 ^ (count + 1)) c.in_ok-level.word)) (count k) c.descend.ensures.none)

pub returns-clause-lowest : goal.returns-clause-lowest
returns-clause-lowest c = rw (← c.self.view_is) (found c)

pub returns-clause-none : goal.returns-clause-none
returns-clause-none c = rw (← c.self.view_is) (answers c.self.inside.flags c.args.from c.descend.result (found c) (none c))
