use Rattle.std.proofs.Common.{◌∙◌, sym}
use Rattle.som_compat.proofs.Ending.{default_same}
use Rattle.som_compat.proofs.pair.class_at.Goals as goal

pub returns : goal.returns
returns c = λ d. default_same c.args.classes.now c.args.place d c.index-classes-place.result c.requires ∙ sym c.index-classes-place.is
