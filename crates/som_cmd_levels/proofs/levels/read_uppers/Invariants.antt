use Rattle.std.proofs.Common.{◌≡◌, length}
use Rattle.som_cmd_levels.specs.Levels.{AreUppers}
use Rattle.som_cmd_levels.proofs.Stacking.{HaveRead}
use Rattle.som_cmd_levels.proofs.levels.read_uppers.Given as goal

abbrev pub invariant-loop-place : goal.invariant-loop-place
invariant-loop-place l = record {
  read : HaveRead l.names l.images l.place l.uppers;
  long : length l.uppers ≡ l.place;
  uppers : AreUppers 1 l.uppers;
}
