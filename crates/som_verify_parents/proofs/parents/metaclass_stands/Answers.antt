use Rattle.std.proofs.Common.{◌∙◌}
use Rattle.som_verify_classes.specs.Modules.{classes_of}
use Rattle.som_verify_classes.specs.Places.{with_kernel}
use Rattle.som_verify_classes.proofs.Rows.{meta_stands}
use Rattle.som_verify_parents.proofs.parents.metaclass_stands.Goals as goal

pub returns-in-Some : goal.returns-in-Some
returns-in-Some c = rw c.in-Some.is (c.is_some.ensures ∙ meta_stands (with_kernel (classes_of c.args.classes.now)) c.args.place c.in-Some.key c.find_class.result c.find_class.ensures)
