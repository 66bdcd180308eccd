use Rattle.std.proofs.Common.{◌≡◌, drop, map}
use Rattle.som_model.specs.Keys.{same_method}
use Rattle.som_model.specs.Lists.{some}
use Rattle.som_verify_classes.specs.Inherited.{method_of}
use Rattle.som_verify_rules.proofs.overrides.is_among.Given as goal

abbrev pub invariant-loop-other : goal.invariant-loop-other
invariant-loop-other l = some (same_method (method_of l.method)) (map method_of (drop l.other-index l.methods)) ≡ some (same_method (method_of l.method)) (map method_of l.methods)
