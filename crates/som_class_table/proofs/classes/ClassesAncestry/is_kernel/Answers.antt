use Rattle.std.proofs.Common.{◌∙◌}
use Rattle.som_class_table.proofs.Bodies.{kernel_is}
use Rattle.som_class_table.proofs.classes.ClassesAncestry.is_kernel.Goals as goal

pub returns : goal.returns
returns c = c.is_low.ensures ∙ kernel_is c.args.self.now c.know_loaded.ensures c.args.class c.requires
