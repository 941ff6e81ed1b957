use Rattle.std.proofs.Common.{◌≡◌, ℕ, ◌+◌, Bool, take, ap, sym, ◌∙◌, arith}
use Rattle.std.specs.Prelude.{if◌then◌else◌}
use Rattle.vd_law.specs.Entries.{entry_of, Past, past}
use Rattle.vd_law.specs.Calls.{before_ask}
use Rattle.vd_law.proofs.Going.{past-more}
use Rattle.vd_judge.proofs.contents.ask_place.Goals as goal
use Rattle.vd_judge.proofs.contents.ask_place.Goals.{then-is_ask_of, else-is_ask_of}

pub loop-i-preserved : goal.loop-i-preserved
loop-i-preserved c =
    let es = c.args.log.now.entries in let seen = past (take c.loop-i.i es) in
    let more : before_ask (past (take (c.loop-i.i + 1) es)) c.args.id ≡ (if c.is_ask_of.result then seen else before_ask seen c.args.id) = ap (λ (p : Past). before_ask p c.args.id) (past-more es c.loop-i.i (entry_of c.event.result) c.event.ensures) ∙ c.is_ask_of.ensures seen in
    record {
      within = elim c.if-is_ask_of.branch [ then-is_ask_of w ↦ omega arith | else-is_ask_of w ↦ omega arith ];
      before = elim c.if-is_ask_of.branch [
        | then-is_ask_of w ↦ ap (λ (n : ℕ). past (take n es)) w.place-is ∙ sym (more ∙ ap (λ (b : Bool). if b then seen else before_ask seen c.args.id) w.if-is_ask_of.true)
        | else-is_ask_of w ↦ ap (λ (n : ℕ). past (take n es)) w.place-is ∙ c.loop-i.invariant.before ∙ sym (more ∙ ap (λ (b : Bool). if b then seen else before_ask seen c.args.id) w.if-is_ask_of.false)
      ];
    }
