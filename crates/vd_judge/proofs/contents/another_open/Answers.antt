use Rattle.std.proofs.Common.{◌≡◌, ℕ, take, ap, sym, ◌∙◌, arith}
use Rattle.vd_law.specs.Entries.{entry_of, ◌▸◌, past}
use Rattle.vd_judge.specs.ContentStates.{some_open}
use Rattle.vd_law.proofs.Going.{past-more}
use Rattle.vd_judge.proofs.Finding.{some_open-any, none_open}
use Rattle.vd_judge.proofs.contents.another_open.Goals as goal

pub returns-then-is_open_of_another : goal.returns-then-is_open_of_another
returns-then-is_open_of_another c =
    let es = c.args.log.now.entries in let seen = past (take c.loop-i.i es) in
    sym (some_open-any (past (take c.args.k es)) c.args.id c.args.s (seen ▸ entry_of c.event.result)
    (sym (c.is_open_of_another.ensures seen c.loop-i.invariant) ∙ c.if-is_open_of_another.true))

pub loop-i-preserved : goal.loop-i-preserved
loop-i-preserved c =
    let es = c.args.log.now.entries in
    ap (some_open (past (take c.args.k es)) c.args.id c.args.s) (past-more es c.loop-i.i (entry_of c.event.result) c.event.ensures)
    ∙ sym (c.is_open_of_another.ensures (past (take c.loop-i.i es)) c.loop-i.invariant)
    ∙ c.if-is_open_of_another.false

pub returns : goal.returns
returns c =
    let es = c.args.log.now.entries in let all : c.args.k ≡ c.loop-i.i = omega arith in
    sym (none_open (past (take c.args.k es)) c.args.id c.args.s
    (ap (λ (n : ℕ). some_open (past (take c.args.k es)) c.args.id c.args.s (past (take n es))) all ∙ c.loop-i.invariant))
