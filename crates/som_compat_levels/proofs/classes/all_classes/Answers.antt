use Rattle.std.proofs.Common.{◌∙◌, ◌++◌, ap}
use Rattle.som_model.specs.declared.key.Module.TheVariants as modules
use Rattle.som_level_laws.specs.Levels.{level_classes}
use Rattle.som_compat_levels.specs.Standing.{classes_of}
use Rattle.som_compat_levels.proofs.Placing.{in_module}
use Rattle.som_compat_levels.proofs.classes.all_classes.Goals as goal

pub returns : goal.returns
returns c =
    let above = level_classes c.args.levels.now in
    c.in_ok-add_levels.ensures
    ∙ ap (λ z. z ++ above) (c.in_ok-add_faces.ensures
    ∙ ap (λ z. classes_of z ++ in_module modules.Kernel c.args.kernel.now) c.new-all.ensures.items
    ∙ ap (λ z. in_module modules.Kernel z) c.requires.kernel)
