use Rattle.std.proofs.Common.{◌≡◌, drop, flat_map}
use Rattle.som_model.specs.Rules.{s3}
use Rattle.som_model.specs.Lists.{first}
use Rattle.som_verify_classes.specs.Modules.{classes_of}
use Rattle.som_verify_parents.proofs.parents.parents_differ.Given as goal

abbrev pub invariant-loop-class : goal.invariant-loop-class
invariant-loop-class l = first (flat_map (s3) (classes_of (drop l.class-index l.classes))) ≡ first (flat_map (s3) (classes_of l.classes))
