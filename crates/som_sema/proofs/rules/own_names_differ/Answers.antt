use Rattle.std.proofs.Common.{subst}
use Rattle.som_verify_classes.specs.Told.{Tells}
use Rattle.som_sema.proofs.Composing.{own_names}
use Rattle.som_sema.proofs.rules.own_names_differ.Goals as goal

pub returns-clause-tells : goal.returns-clause-tells
returns-clause-tells c = subst (λ o. Tells o c.class_names.result) (own_names c.args.classes.now c.args.base c.requires) c.class_names.ensures.tells

pub returns-clause-table : goal.returns-clause-table
returns-clause-table c = c.class_names.ensures.table
