use Rattle.som_cmd_tasks.proofs.Ending.{ToldSoFar}
use Rattle.som_cmd_tasks.proofs.ends.end_lines.Given as goal

abbrev pub invariant-loop-number : goal.invariant-loop-number
invariant-loop-number l = ToldSoFar l.ends l.number l.lines
