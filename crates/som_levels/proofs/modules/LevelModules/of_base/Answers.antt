use Rattle.std.proofs.Common.{◌∙◌, ap, sym}
use Rattle.som_model.specs.Lists.{among}
use Rattle.som_level_laws.specs.Levels.{level_module}
use Rattle.som_levels.specs.Places.{level_at}
use Rattle.som_order.specs.Names.{texts}
use Rattle.som_levels.proofs.Sizes.{base_named, base_unnamed}
use Rattle.som_levels.proofs.modules.LevelModules.of_base.Goals as goal

pub returns-in-Some : goal.returns-in-Some
returns-in-Some c =
    let flat = c.self.invariant.0 in
    rw (← c.self.view_is) (c.level_module.ensures ∙ ap level_module (c.level_at.ensures.is ∙ ap (λ l. level_at l c.in-Some.place) c.as_slice-in-Some.ensures)
    ∙ sym (base_named c.self.inside.sizes.now c.self.inside.base.now.classes c.args.name.now (texts c.self.inside.names.keys) c.in-Some.place c.self.invariant.1 flat.differ flat.all c.in-Some.ensures.some.0 (c.in-Some.ensures.some.1 ∙ c.as_slice.ensures)))

pub returns-in-None : goal.returns-in-None
returns-in-None c =
    rw (← c.self.view_is) (base_unnamed c.self.inside.sizes.now c.self.inside.base.now.classes c.args.name.now (texts c.self.inside.names.keys) c.self.invariant.1
    (ap (λ z. among z (texts c.self.inside.names.keys)) (sym c.as_slice.ensures) ∙ sym c.in-None.ensures.among))
