use Rattle.std.proofs.Common.{◌≡◌, map, take}
use Rattle.som_cmd_tasks.specs.Patterns.{client_of}
use Rattle.som_cmd_tasks.proofs.pattern.clients_of.Given as goal

abbrev pub invariant-loop-digit : goal.invariant-loop-digit
invariant-loop-digit l = l.round.items ≡ map client_of (take l.digit-index l.pattern)
