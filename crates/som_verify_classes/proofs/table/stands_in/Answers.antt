use Rattle.std.proofs.Common.{sym, ap, ◌∙◌}
use Rattle.som_model.specs.Keys.{same_module}
use Rattle.som_verify_classes.proofs.Finding.{module_past}
use Rattle.som_verify_classes.proofs.table.stands_in.Goals as goal

pub returns-else-place-lt-KERNEL_CLASSES : goal.returns-else-place-lt-KERNEL_CLASSES
returns-else-place-lt-KERNEL_CLASSES c =
    c.is_module-else-place-lt-KERNEL_CLASSES.ensures
    ∙ ap (same_module c.args.home) (sym (module_past c.args.classes.now c.args.place c.index-classes-place.result c.if-place-lt-KERNEL_CLASSES.false c.requires))
