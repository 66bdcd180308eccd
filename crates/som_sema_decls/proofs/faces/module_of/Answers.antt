use Rattle.std.proofs.Common.{sym}
use Rattle.som_verify_classes.proofs.Finding.{module_past}
use Rattle.som_sema_decls.proofs.faces.module_of.Goals as goal

pub returns-else-place-lt-KERNEL_CLASSES : goal.returns-else-place-lt-KERNEL_CLASSES
returns-else-place-lt-KERNEL_CLASSES c = sym (module_past c.args.classes.now c.args.place c.index-classes-place.result c.if-place-lt-KERNEL_CLASSES.false c.requires)
