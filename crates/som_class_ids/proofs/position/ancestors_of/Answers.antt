use Rattle.std.proofs.Common.{◌∙◌, sym}
use Rattle.som_class_ids.proofs.Placing.{list_get}
use Rattle.som_class_ids.proofs.position.ancestors_of.Goals as goal

pub returns : goal.returns
returns c = c.as_slice.ensures ∙ sym (list_get c.args.known.now c.args.class c.position_of.result.now c.position_of.ensures)
