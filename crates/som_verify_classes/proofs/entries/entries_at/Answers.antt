use Rattle.std.proofs.Common.{◌∙◌}
use Rattle.som_verify_classes.proofs.Rows.{entries_there}
use Rattle.som_verify_classes.proofs.entries.entries_at.Goals as goal

pub returns-else-place-lt-KERNEL_CLASSES : goal.returns-else-place-lt-KERNEL_CLASSES
returns-else-place-lt-KERNEL_CLASSES c = c.as_slice-else-place-lt-KERNEL_CLASSES.ensures
    ∙ entries_there c.args.classes.now c.args.place c.index-classes-place.result c.if-place-lt-KERNEL_CLASSES.false c.requires.place
