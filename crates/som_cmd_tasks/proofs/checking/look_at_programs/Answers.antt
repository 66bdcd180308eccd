use Rattle.std.proofs.Common.{◌<◌, length, arith}
use Rattle.som_model.specs.declared.program.ClientProgram.{ClientProgram}
use Rattle.som_model.specs.Conforming.{ProgramOk}
use Rattle.som_cmd_steps.specs.ImageSteps.{program_rules_kept}
use Rattle.som_cmd_steps.proofs.InTurn.{taken_more, taken_all, passed_more}
use Rattle.som_cmd_tasks.proofs.checking.look_at_programs.Goals as goal

pub loop-place-preserved : goal.loop-place-preserved
loop-place-preserved c =
    let within : c.loop-place.place < length c.args.programs.now = omega (arith, c.requires) in
    record {
      kept = passed_more program_rules_kept c.args.names.now c.args.programs.now c.loop-place.place c.index-names-place.result c.index-programs-place.result c.loop-place-test.true c.index-names-place.is within c.index-programs-place.is
          tt c.loop-place.invariant.kept c.in_ok-look_at_program.ensures.follows;
      conform = taken_more (λ (r : ClientProgram). ProgramOk r) c.args.programs.now c.loop-place.place c.index-programs-place.result within c.index-programs-place.is c.loop-place.invariant.conform c.in_ok-look_at_program.ensures.conforms;
    }

pub returns-clause-conform : goal.returns-clause-conform
returns-clause-conform c = taken_all (λ (r : ClientProgram). ProgramOk r) c.args.programs.now c.loop-place.place (omega (arith, c.requires)) c.loop-place.invariant.conform
