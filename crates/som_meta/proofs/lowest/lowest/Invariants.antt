use Rattle.std.proofs.Common.{◌≡◌, take}
use Rattle.som_model.specs.Lists.{without}
use Rattle.som_meta.specs.Planning.{is_above_some}
use Rattle.som_meta.proofs.lowest.lowest.Given as goal

abbrev pub invariant-loop-class : goal.invariant-loop-class
invariant-loop-class g l = l.lowest ≡ without (is_above_some (g.H.Ancestry.known l.known) l.classes) (take l.class-index l.classes)
