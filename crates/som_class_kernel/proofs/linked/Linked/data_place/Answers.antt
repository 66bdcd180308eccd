use Rattle.std.proofs.Common.{◌≡◌, ◌∙◌, subst}
use Rattle.som_meta.specs.Numbering.{Numbering, key_at}
use Rattle.som_class_variables.specs.Variables.{place_in}
use Rattle.som_class_variables.proofs.Placing.{places_differ}
use Rattle.som_class_kernel.proofs.linked.Linked.data_place.Goals as goal

pub returns-clause-apart : goal.returns-clause-apart
returns-clause-apart c = λ other is d e.
    let value = c.classes-classes.ensures.value in
    let place = subst (λ (k : Numbering). c.data_place.result ≡ place_in k.classes (key_at k c.args.class) (key_at k c.args.variable.0) c.args.variable.1) value c.data_place.ensures.place in
    places_differ c.args.self.now.classes c.classes-classes.ensures.loaded c.args.class other c.args.variable is c.requires.variable d c.requires.below (e ∙ place)
