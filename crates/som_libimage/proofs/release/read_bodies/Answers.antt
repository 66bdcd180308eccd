use Rattle.std.proofs.Common.{sym, ap, subst, ◌∙◌}
use Rattle.som_image_fields.specs.declared.method.Ranges.{Ranges}
use Rattle.som_image_decode.specs.declared.directory.Directory.{Directory}
use Rattle.som_image_decode.specs.Naming.{ranges_in}
use Rattle.som_image_classes.specs.NamedClasses.{AreSelectsOf}
use Rattle.som_image_classes.proofs.ClassPlaces.{ranges_known}
use Rattle.som_libimage.proofs.release.read_bodies.Goals as goal

pub read_parts-requires-clause-ranges : goal.read_parts-requires-clause-ranges
read_parts-requires-clause-ranges c = c.in_ok-ranges.ensures ∙ sym (ap (λ (d : Directory). ranges_in d) c.in_ok-directory.ensures ∙ ranges_known c.args.faces.now)

pub name_classes-requires-clause-selects : goal.name_classes-requires-clause-selects
name_classes-requires-clause-selects c =
    let same = c.in_ok-ranges.ensures ∙ sym (ap (λ (d : Directory). ranges_in d) c.in_ok-directory.ensures ∙ ranges_known c.args.faces.now) in
    subst (λ (r : Ranges). AreSelectsOf r c.in_ok-selects.selects.value) same c.in_ok-selects.ensures.known
