use Rattle.std.proofs.Common.{◌≡◌, drop}
use Rattle.som_model.specs.Lists.{among}
use Rattle.som_order.specs.Names.{texts}
use Rattle.som_verify_parents.proofs.double.is_among.Given as goal

abbrev pub invariant-loop-other : goal.invariant-loop-other
invariant-loop-other l = among l.name (texts (drop l.other-index l.names)) ≡ among l.name (texts l.names)
