use Rattle.std.proofs.Common.{◌≡◌, IfOk, subst}
use Rattle.som_model.specs.declared.key.ClassKey.{ClassKey}
use Rattle.som_elab_body.proofs.MethodLaws.{key_there}
use Rattle.som_elab_body.proofs.methods.key_of_place.Goals as goal

pub returns-else-class-lt-KERNEL_CLASSES : goal.returns-else-class-lt-KERNEL_CLASSES
returns-else-class-lt-KERNEL_CLASSES c =
    subst (λ z. IfOk c.named-else-class-lt-KERNEL_CLASSES.result (λ (k : ClassKey). k ≡ z))
    (key_there c.args.known.now.classes.now c.args.class c.index-known-class-else-class-lt-KERNEL_CLASSES.result c.if-class-lt-KERNEL_CLASSES.false c.requires.class) c.named-else-class-lt-KERNEL_CLASSES.ensures
