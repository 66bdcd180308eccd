use Rattle.som_sema_scope.specs.ClassNames.{module_in_scope}
use Rattle.som_sema.specs.TextRules.{text_s4}
use Rattle.som_verify_classes.specs.Modules.{classes_of}
use Rattle.som_verify_classes.specs.Places.{with_kernel}
use Rattle.som_sema.proofs.bases.metaclasses_descend.Goals as goal

pub returns : goal.returns
returns c = c.each_draft.ensures (text_s4 (module_in_scope c.args.scope.now) (with_kernel (classes_of c.args.classes.now))) (λ place d r at post. post d at)
