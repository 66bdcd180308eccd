use Rattle.std.proofs.Common.{take}
use Rattle.std.specs.Prelude.{All}
use Rattle.som_model.specs.Conforming.{ProgramOk}
use Rattle.som_cmd_steps.specs.ImageSteps.{program_rules_kept}
use Rattle.som_cmd_steps.proofs.InTurn.{HavePassed}
use Rattle.som_cmd_tasks.proofs.checking.look_at_programs.Given as goal

abbrev pub invariant-loop-place : goal.invariant-loop-place
invariant-loop-place l = record {
  kept : HavePassed program_rules_kept l.names l.programs l.place;
  conform : All ProgramOk (take l.place l.programs);
}
