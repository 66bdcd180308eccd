use Rattle.std.proofs.Common.{◌∙◌, sym, ap}
use Rattle.som_model.specs.Classes.{is_a}
use Rattle.som_compat.specs.Views.{classes_of}
use Rattle.som_compat.proofs.Viewing.{known_of}
use Rattle.som_compat.proofs.Fronts.{none_above}
use Rattle.som_compat.proofs.ancestors.is_above.Goals as goal

pub returns-in-Some : goal.returns-in-Some
returns-in-Some c = λ x am above. let f = c.in-Some.ensures.finds in c.is_marked.ensures ∙ (above.by c.in-Some.place f.1 ∙ ap (is_a (classes_of c.args.lookup.now.faces.now) x) f.2)

pub returns-in-None : goal.returns-in-None
returns-in-None c = λ x am above. sym (none_above (classes_of c.args.lookup.now.faces.now) (known_of c.args.lookup.now.faces.now c.requires) x c.args.key.now am c.in-None.ensures.finds)
