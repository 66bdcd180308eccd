use Rattle.std.proofs.Common.{List, ℕ, ap, sym, ◌∙◌}
use Rattle.std.proofs.lemmas.Result.{IfOk-weaker}
use Rattle.som_model.specs.declared.key.ClassKey.TheVariants as keys
use Rattle.som_model.specs.declared.key.Module.TheVariants as modules
use Rattle.som_verify_classes.specs.declared.types.Declared.{Declared}
use Rattle.som_verify_classes.specs.Modules.{class_of, classes_of}
use Rattle.som_witness_programs.proofs.Entries.{declared_key_at}
use Rattle.som_witness_programs.proofs.keys.key_at.Goals as goal

pub returns-then-place-lt-KERNEL_CLASSES : goal.returns-then-place-lt-KERNEL_CLASSES
returns-then-place-lt-KERNEL_CLASSES c =
    IfOk-weaker c.kernel_key.result _ _ (λ k e. e ∙ ap (λ (n : List ℕ). keys.Named modules.Kernel n) c.as_slice.ensures ∙ c.kernel_name.ensures (classes_of c.args.known.now.classes.now)) c.kernel_key.ensures

pub returns-else-place-lt-KERNEL_CLASSES : goal.returns-else-place-lt-KERNEL_CLASSES
returns-else-place-lt-KERNEL_CLASSES c =
    IfOk-weaker c.declared_key.result _ _ (λ k e. e
    ∙ ap (λ (d : Declared). (class_of d).key) (sym (c.declared_at.ensures c.declared_at.result.now))
    ∙ declared_key_at c.args.known.now.classes.now c.args.place c.declared_at.result.now c.if-place-lt-KERNEL_CLASSES.false c.requires.place) c.declared_key.ensures
