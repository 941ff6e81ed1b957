use Rattle.std.proofs.Common.{◌∷◌, ◌∙◌, sym, ap, map, string_bytes}
use Rattle.vd_command.proofs.Spelling.{exact-read}
use Rattle.vd_command.proofs.command.Command.parse.Goals as goal

pub returns-clause-exact : goal.returns-clause-exact
returns-clause-exact c =
    exact-read _ c.as_str.result.now (map string_bytes c.in_ok-name.arguments.now) _ c.read.ensures
    (ap (map string_bytes) c.in_ok-name.ensures.cases.0 ∙ ap (λ w. w ∷ map string_bytes c.in_ok-name.arguments.now) (sym c.as_str.ensures.value))
