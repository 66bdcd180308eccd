use Rattle.std.proofs.Common.{take}
use Rattle.std.specs.Prelude.{All}
use Rattle.som_model.specs.Conforming.{ProgramOk}
use Rattle.som_towerimage.specs.declared.level.Level.{Level}
use Rattle.som_cmd_steps.proofs.InTurn.{HavePassed}
use Rattle.som_cmd_levels.specs.Levels.{level_rules_kept}
use Rattle.som_cmd_levels.proofs.rules.look_at_uppers.Given as goal

abbrev pub invariant-loop-place : goal.invariant-loop-place
invariant-loop-place l = record {
  kept : HavePassed level_rules_kept l.names l.uppers l.place;
  conform : All (λ (x : Level). ProgramOk x.program) (take l.place l.uppers);
}
