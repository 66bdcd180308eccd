use Rattle.som_verify_classes.specs.Modules.{classes_of}
use Rattle.som_verify_classes.proofs.Finding.{no_derived, no_proxy}
use Rattle.som_verify_classes.proofs.table.find_class.Goals as goal

pub returns-in-Derived : goal.returns-in-Derived
returns-in-Derived c = rw c.in-Derived.is (no_derived c.args.limit c.in-Derived.parents (classes_of c.args.classes.now) c.requires.declared)

pub returns-in-Proxy : goal.returns-in-Proxy
returns-in-Proxy c = rw c.in-Proxy.is (no_proxy c.args.limit c.in-Proxy.of (classes_of c.args.classes.now) c.requires.declared)
