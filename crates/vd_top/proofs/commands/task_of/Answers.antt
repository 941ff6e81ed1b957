use Rattle.std.proofs.Common.{false, refl, subst}
use Rattle.std.proofs.lemmas.Option.{same_Some, none-some}
use Rattle.vd_command.specs.Words.{Spells}
use Rattle.vd_command.specs.declared.command.Command.TheVariants.{Show, Make, Run}
use Rattle.vd_top.proofs.CommandLaws.{asks_for, no_show, no_make, no_run, one_command, run_exact}
use Rattle.vd_top.proofs.commands.task_of.Goals as goal

pub returns-in-Show : goal.returns-in-Show
returns-in-Show c =
    let spells = subst (Spells _) c.in-Show.is ((c.in-Some.ensures.exact c.in-Some.command).0 refl) in
    let unique = one_command _ c.in-Some.command _ c.in-Show.is c.in-Some.ensures.exact in
    (spells, spells.allowed.1.1, no_make _ unique (λ size block chunk storage slots e. cc), no_run _ unique (λ e. cc))

pub returns-in-Make : goal.returns-in-Make
returns-in-Make c =
    let spells = subst (Spells _) c.in-Make.is ((c.in-Some.ensures.exact c.in-Some.command).0 refl) in
    asks_for _ _ _ _ _ _ c.args.base_sectors c.min.result c.min.ensures spells (one_command _ c.in-Some.command _ c.in-Make.is c.in-Some.ensures.exact)

pub returns-then-is_alone : goal.returns-then-is_alone
returns-then-is_alone c =
    let unique = one_command _ c.in-Some.command _ c.in-Run.is c.in-Some.ensures.exact in
    let asks = run_exact _ c.in-Some.command c.in-Run.guests c.in-Run.workers c.in-Run.copying c.in-Run.limit c.is_alone.result c.in-Run.is c.in-Some.ensures.exact c.is_alone.ensures in
    (asks.0 c.if-is_alone.true, no_make _ unique (λ size block chunk storage slots e. cc))

pub returns-else-is_alone : goal.returns-else-is_alone
returns-else-is_alone c =
    let unique = one_command _ c.in-Some.command _ c.in-Run.is c.in-Some.ensures.exact in
    let asks = run_exact _ c.in-Some.command c.in-Run.guests c.in-Run.workers c.in-Run.copying c.in-Run.limit c.is_alone.result c.in-Run.is c.in-Some.ensures.exact c.is_alone.ensures in (
      no_show _ unique (λ first count e. cc),
      no_make _ unique (λ size block chunk storage slots e. cc),
      (λ run. absurd (let yes = asks.1 run in let no = c.if-is_alone.false in cc)),
    )

pub returns-in_default : goal.returns-in_default
returns-in_default c = (
  (λ first count spells. c.in_default.not-Show first count (same_Some _ _ ((c.in-Some.ensures.exact (Show first count)).1 spells))),
  (λ size block chunk storage slots spells. c.in_default.not-Make size block chunk storage slots (same_Some _ _ ((c.in-Some.ensures.exact (Make size block chunk storage slots)).1 spells))),
  (λ spells. c.in_default.not-Run 1 0 false 0 (same_Some _ _ ((c.in-Some.ensures.exact (Run 1 0 false 0)).1 spells))),
)

pub returns-in-None : goal.returns-in-None
returns-in-None c = (
  (λ first count spells. none-some (Show first count) ((c.in-None.ensures.exact (Show first count)).1 spells)),
  (λ size block chunk storage slots spells. none-some (Make size block chunk storage slots) ((c.in-None.ensures.exact (Make size block chunk storage slots)).1 spells)),
  (λ spells. none-some (Run 1 0 false 0) ((c.in-None.ensures.exact (Run 1 0 false 0)).1 spells)),
)
