use Rattle.std.proofs.Common.{ap, sym, ◌∙◌, ◌++◌}
use Rattle.som_model.specs.declared.program.Interface.{Interface}
use Rattle.som_compat_levels.specs.Standing.{classes_of}
use Rattle.som_compat_levels.proofs.Placing.{in_module, next_level, no_level}
use Rattle.som_compat_levels.proofs.classes.add_levels.Goals as goal

pub loop-level-preserved : goal.loop-level-preserved
loop-level-preserved c = next_level c.loop-level.all.items c.add_faces.new.all.items c.level_module.result c.index-levels-level.result c.args.levels.now c.loop-level.level _ c.loop-level-test.true c.level_module.ensures c.index-levels-level.is
    (c.in_ok-add_faces.ensures ∙ ap (λ z. classes_of c.loop-level.all.items ++ in_module c.level_module.result z) c.as_slice.ensures
    ∙ ap (λ (z : Interface). classes_of c.loop-level.all.items ++ in_module c.level_module.result z.classes) (sym c.index-levels-level.is))
    c.loop-level.invariant

pub returns : goal.returns
returns c = no_level c.loop-level.all.items c.args.levels.now c.loop-level.level _ c.loop-level-test.false c.loop-level.invariant
