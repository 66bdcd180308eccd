use Rattle.std.proofs.Common.{sym, ◌∙◌}
use Rattle.som_verify_classes.specs.Modules.{classes_of}
use Rattle.som_verify_classes.specs.Places.{with_kernel}
use Rattle.som_verify_classes.proofs.Finding.{known_is}
use Rattle.som_verify_rules.proofs.known.type_is_known.Goals as goal

pub returns-in-Class : goal.returns-in-Class
returns-in-Class c = rw c.in-Class.is (c.is_some.ensures ∙ sym (known_is (with_kernel (classes_of c.args.classes.now)) c.in-Class.key c.args.number c.find_class.result c.find_class.ensures))
