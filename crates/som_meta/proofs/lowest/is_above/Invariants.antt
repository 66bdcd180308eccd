use Rattle.std.proofs.Common.{◌≡◌, drop}
use Rattle.som_meta.specs.Planning.{is_above_some}
use Rattle.som_meta.proofs.lowest.is_above.Given as goal

abbrev pub invariant-loop-other : goal.invariant-loop-other
invariant-loop-other g l = is_above_some (g.H.Ancestry.known l.known) (drop l.other-index l.classes) l.class ≡ is_above_some (g.H.Ancestry.known l.known) l.classes l.class
