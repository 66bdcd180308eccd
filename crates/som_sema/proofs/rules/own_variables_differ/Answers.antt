use Rattle.som_model.specs.Rules.{s7}
use Rattle.som_verify_classes.proofs.Sets.{rest_is}
use Rattle.som_sema.proofs.Composing.{own_tell}
use Rattle.som_sema.proofs.rules.own_variables_differ.Goals as goal

pub returns : goal.returns
returns c = own_tell s7 c.args.classes.now _ c.args.base c.variables_differ.result (rest_is c.args.classes.now c.args.base) c.variables_differ.ensures
