use Rattle.std.proofs.Common.{◌∙◌, ap}
use Rattle.som_level_laws.specs.Levels.{all_levels}
use Rattle.som_compat_levels.specs.Standing.{classes_of}
use Rattle.som_compat_levels.proofs.Leveling.{standing}
use Rattle.som_flat.proofs.Flattened.{flat_made}
use Rattle.som_flat.proofs.flatten.flat_interface.Goals as goal

pub flat_faces-requires : goal.flat_faces-requires
flat_faces-requires c =
    standing c.args.levels.now (classes_of c.deref.result.now) c.requires (ap classes_of c.deref.ensures.value ∙ c.in_ok-classes.ensures ∙ ap all_levels c.as_slice-2.ensures)

pub returns : goal.returns
returns c =
    flat_made c.args.levels.now (classes_of c.deref.result.now) c.in_ok-faces.faces (ap classes_of c.deref.ensures.value ∙ c.in_ok-classes.ensures ∙ ap all_levels c.as_slice-2.ensures) c.in_ok-faces.ensures
