use Rattle.std.proofs.Common.{refl}
use Rattle.som_verify_classes.proofs.Sets.{rest_is}
use Rattle.som_sema.proofs.Composing.{own_types_tell}
use Rattle.som_sema.proofs.rules.own_types_known.Goals as goal

pub returns : goal.returns
returns c = own_types_tell c.args.classes.now _ c.args.base _ c.types_known.result refl (rest_is c.args.classes.now c.args.base) c.types_known.ensures
