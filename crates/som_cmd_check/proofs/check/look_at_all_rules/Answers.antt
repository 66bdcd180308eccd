use Rattle.std.proofs.Common.{◌<◌, length, arith}
use Rattle.som_model.specs.declared.program.Release.{Release}
use Rattle.som_model.specs.Conforming.{ReleaseOk}
use Rattle.som_cmd_steps.specs.ImageSteps.{rules_kept}
use Rattle.som_cmd_steps.proofs.InTurn.{taken_more, taken_all, passed_more}
use Rattle.som_cmd_check.proofs.check.look_at_all_rules.Goals as goal

pub loop-place-preserved : goal.loop-place-preserved
loop-place-preserved c =
    let within : c.loop-place.place < length c.args.releases.now = omega (arith, c.requires) in
    record {
      kept = passed_more rules_kept c.args.names.now c.args.releases.now c.loop-place.place c.index-names-place.result c.index-releases-place.result c.loop-place-test.true c.index-names-place.is within c.index-releases-place.is
          tt c.loop-place.invariant.kept c.in_ok-look_at_rules.ensures.follows;
      conform = taken_more (λ (r : Release). ReleaseOk r) c.args.releases.now c.loop-place.place c.index-releases-place.result within c.index-releases-place.is c.loop-place.invariant.conform c.in_ok-look_at_rules.ensures.conforms;
    }

pub returns-clause-conform : goal.returns-clause-conform
returns-clause-conform c = taken_all (λ (r : Release). ReleaseOk r) c.args.releases.now c.loop-place.place (omega (arith, c.requires)) c.loop-place.invariant.conform
