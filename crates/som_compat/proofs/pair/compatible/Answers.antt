use Rattle.std.proofs.Common.{◌∙◌}
use Rattle.som_compat.proofs.Ending.{break_is}
use Rattle.som_compat.proofs.pair.compatible.Goals as goal

pub returns : goal.returns
returns c = c.compare.ensures ∙ break_is c.args.old.now c.args.new.now c.as_slice-old_faces.result.now c.as_slice-new_faces.result.now c.as_slice-old_faces.ensures c.as_slice-new_faces.ensures
