use Rattle.std.proofs.Common.{◌≡◌, length}
use Rattle.std.specs.Prelude.{All}
use Rattle.som_cliimage.specs.Limits.{IsWithinLimits}
use Rattle.som_cmd_steps.specs.ImageSteps.{program_in}
use Rattle.som_cmd_steps.proofs.InTurn.{HasRead}
use Rattle.som_cmd_tasks.proofs.checking.read_programs.Given as goal

abbrev pub invariant-loop-place : goal.invariant-loop-place
invariant-loop-place l = record {
  read : HasRead program_in l.names l.images l.place l.programs;
  long : length l.programs ≡ l.place;
  within : All IsWithinLimits l.programs;
}
