use Rattle.std.proofs.Common.{take}
use Rattle.std.specs.Prelude.{All}
use Rattle.som_model.specs.Conforming.{ReleaseOk}
use Rattle.som_cmd_steps.specs.ImageSteps.{rules_kept}
use Rattle.som_cmd_steps.proofs.InTurn.{HavePassed}
use Rattle.som_cmd_check.proofs.check.look_at_all_rules.Given as goal

abbrev pub invariant-loop-place : goal.invariant-loop-place
invariant-loop-place l = record {
  kept : HavePassed rules_kept l.names l.releases l.place;
  conform : All ReleaseOk (take l.place l.releases);
}
