use Rattle.std.proofs.Common.{map, ap, ◌∙◌}
use Rattle.som_verify_forms.specs.Knowing.{all_of}
use Rattle.som_verify_classes.specs.Places.{key_at}
use Rattle.som_elab_body.proofs.methods.ancestors_of.Goals as goal

pub returns-clause-low : goal.returns-clause-low
returns-clause-low c = λ a m. c.requires.known.lists.low c.args.class a (rw c.list_at.ensures at m)

pub returns-clause-are : goal.returns-clause-are
returns-clause-are c = ap (map (key_at (all_of c.args.known.now))) c.list_at.ensures ∙ c.requires.known.lists.by c.args.class c.requires.class
