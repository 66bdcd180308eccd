use Rattle.std.proofs.Common.{◌≡◌, drop}
use Rattle.som_model.specs.Lists.{every}
use Rattle.som_cmd_tasks.specs.Patterns.{names_client}
use Rattle.som_cmd.proofs.words.name_clients.Given as goal

abbrev pub invariant-loop-digit : goal.invariant-loop-digit
invariant-loop-digit l = every (names_client l.clients) (drop l.digit-index l.pattern) ≡ every (names_client l.clients) l.pattern
