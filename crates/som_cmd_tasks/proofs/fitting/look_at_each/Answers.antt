use Rattle.std.proofs.Common.{◌≡◌, None}
use Rattle.som_model.specs.declared.program.ClientProgram.{ClientProgram}
use Rattle.som_model.specs.Compatible.{first_break}
use Rattle.som_cmd_steps.proofs.InTurn.{taken_more}
use Rattle.som_cmd_tasks.proofs.Comparing.{kept_more}
use Rattle.som_cmd_tasks.proofs.fitting.look_at_each.Goals as goal

pub loop-program-preserved : goal.loop-program-preserved
loop-program-preserved c = record {
  kept = kept_more c.args.library.now c.args.shown.now c.args.programs.now c.loop-program.program-index c.program-item.result c.loop-program-test.true c.program-item.is tt c.loop-program.invariant.kept c.in_ok-look_at_base.ensures.follows;
  all = taken_more (λ (p : ClientProgram). first_break p.base c.args.shown.now ≡ None) c.args.programs.now c.loop-program.program-index c.program-item.result c.loop-program-test.true c.program-item.is c.loop-program.invariant.all c.in_ok-look_at_base.ensures.kept;
}
