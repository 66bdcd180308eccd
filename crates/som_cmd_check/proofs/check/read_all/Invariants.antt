use Rattle.std.proofs.Common.{◌≡◌, length}
use Rattle.std.specs.Prelude.{All}
use Rattle.som_libimage.specs.Limits.{IsWithinLimits}
use Rattle.som_cmd_steps.specs.ImageSteps.{release_in}
use Rattle.som_cmd_steps.proofs.InTurn.{HasRead}
use Rattle.som_cmd_check.proofs.check.read_all.Given as goal

abbrev pub invariant-loop-place : goal.invariant-loop-place
invariant-loop-place l = record {
  read : HasRead release_in l.names l.images l.place l.releases;
  long : length l.releases ≡ l.place;
  within : All IsWithinLimits l.releases;
}
