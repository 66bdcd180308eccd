use Rattle.std.proofs.Common.{◌≡◌, drop, flat_map}
use Rattle.som_model.specs.Rules.{s6}
use Rattle.som_model.specs.Lists.{first}
use Rattle.som_verify_classes.specs.Modules.{classes_of}
use Rattle.som_verify_rules.proofs.members.entries_differ.Given as goal

abbrev pub invariant-loop-class : goal.invariant-loop-class
invariant-loop-class l = first (flat_map (s6) (classes_of (drop l.class-index l.classes))) ≡ first (flat_map (s6) (classes_of l.classes))
