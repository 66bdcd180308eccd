use Rattle.std.proofs.Common.{take}
use Rattle.som_cmd_tasks.specs.Groups.{AllKept}
use Rattle.som_cmd_tasks.proofs.Comparing.{KeptSoFar}
use Rattle.som_cmd_tasks.proofs.fitting.look_at_each.Given as goal

abbrev pub invariant-loop-program : goal.invariant-loop-program
invariant-loop-program l = record {
  kept : KeptSoFar l.library l.shown l.programs l.program-index;
  all : AllKept l.shown (take l.program-index l.programs);
}
