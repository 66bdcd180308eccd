use Rattle.std.proofs.Common.{◌∙◌}
use Rattle.som_verify_classes.proofs.Membership.{has_equal}
use Rattle.som_verify_classes.proofs.descent.has_place.Goals as goal

pub returns : goal.returns
returns c = c.contains.ensures.value ∙ has_equal c.args.place c.args.list.now
