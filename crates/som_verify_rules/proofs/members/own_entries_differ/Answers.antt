use Rattle.std.proofs.Common.{ap, ◌∙◌, map}
use Rattle.som_model.specs.Class.{entry_name}
use Rattle.som_order.specs.Names.{texts}
use Rattle.som_verify_classes.specs.Modules.{class_of}
use Rattle.som_verify_classes.proofs.Doubled.{doubles_tell}
use Rattle.som_verify_rules.proofs.members.own_entries_differ.Goals as goal

pub returns : goal.returns
returns c = doubles_tell 6 (class_of c.args.class.now) _ _ c.each_once.result (ap texts c.deref.ensures.value ∙ c.in_ok-names.ensures ∙ ap (map entry_name) c.as_slice.ensures) c.each_once.ensures
