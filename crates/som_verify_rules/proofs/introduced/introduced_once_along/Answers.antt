use Rattle.std.proofs.Common.{ap}
use Rattle.som_model.specs.Lists.{first}
use Rattle.som_verify_classes.specs.Along.{doubles_breach}
use Rattle.som_verify_classes.specs.Modules.{class_of}
use Rattle.som_verify_rules.proofs.SharedRows.{none_along}
use Rattle.som_verify_rules.proofs.introduced.introduced_once_along.Goals as goal

pub returns-then-none_shared : goal.returns-then-none_shared
returns-then-none_shared c = ap (λ z. first (doubles_breach 8 (class_of c.args.class.now) z)) (none_along c.args.rows.now c.args.list.now (c.requires.empty c.if-none_shared.true))
