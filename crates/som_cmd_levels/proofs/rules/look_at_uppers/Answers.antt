use Rattle.std.proofs.Common.{◌≡◌, ◌<◌, Ok, length, subst, sym, arith}
use Rattle.som_model.specs.Conforming.{ProgramOk}
use Rattle.som_towerimage.specs.declared.level.Level.{Level}
use Rattle.som_cmd_steps.proofs.InTurn.{passed_more, taken_all, taken_more}
use Rattle.som_cmd_levels.specs.Levels.{level_rules_kept}
use Rattle.som_cmd_levels.proofs.Lists.{at_each}
use Rattle.som_cmd_levels.proofs.rules.look_at_uppers.Goals as goal

pub loop-place-preserved : goal.loop-place-preserved
loop-place-preserved c =
    let within : c.loop-place.place < length c.args.uppers.now = omega (arith, c.requires) in
    let u = c.in_ok-look_at_program.field-0 in
    record {
      kept = passed_more level_rules_kept c.args.names.now c.args.uppers.now c.loop-place.place c.index-names-place.result c.index-uppers-place.result c.loop-place-test.true c.index-names-place.is within c.index-uppers-place.is
          u c.loop-place.invariant.kept (subst (λ (x : Level). level_rules_kept c.index-names-place.result x ≡ Ok u) (sym c.index-uppers-place.is) c.in_ok-look_at_program.ensures.follows);
      conform = taken_more (λ (x : Level). ProgramOk x.program) c.args.uppers.now c.loop-place.place c.index-uppers-place.result within c.index-uppers-place.is c.loop-place.invariant.conform
          (subst (λ (x : Level). ProgramOk x.program) (sym c.index-uppers-place.is) c.in_ok-look_at_program.ensures.conforms);
    }

pub returns-clause-conform : goal.returns-clause-conform
returns-clause-conform c = at_each (λ (x : Level). ProgramOk x.program) c.args.uppers.now
    (taken_all (λ (x : Level). ProgramOk x.program) c.args.uppers.now c.loop-place.place (omega (arith, c.requires)) c.loop-place.invariant.conform)
