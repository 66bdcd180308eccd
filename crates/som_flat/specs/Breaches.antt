-- What the flat interface breaks, with the number of the level at which the class stands.
use Rattle.std.specs.Prelude.{ℕ, List, [], ◌∷◌, ◌++◌, map, flat_map, Option}
use Rattle.som_model.specs.declared.program.Interface.{Interface}
use Rattle.som_model.specs.Lists.{first, or_else}
use Rattle.som_model.specs.Class.{Class}
use Rattle.som_model.specs.Compatible.{release_of}
use Rattle.som_model.specs.Kernel.{kernel}
use Rattle.som_model.specs.Rules.{RuleBreach, s1, s8}
use Rattle.som_rekey_laws.specs.Rekeying.{rekey_class}
use Rattle.som_verify_classes.specs.Modules.{module_of}
use Rattle.som_level_laws.specs.Levels.{level_classes}
use Rattle.som_compat_levels.specs.Told.{level_of}
use Rattle.som_flat_laws.specs.Flat.{flat_interface, flat_module}

-- what a class of a level breaks, with the number of its level
abbrev pub at_level : Class → List RuleBreach → List (ℕ × RuleBreach)
at_level c = map (λ b. (level_of (module_of c), b))

-- S1: the classes whose names a class before them has, after those before all of them
abbrev pub named_again : List Class → List Class → List (ℕ × RuleBreach)
named_again before [] = []
named_again before (c ∷ cs) = at_level c (s1 before c) ++ named_again (before ++ c ∷ []) cs

-- S8: the names that two ancestors of a class introduce in the flat interface
abbrev pub introduced_again : List Interface → Class → List (ℕ × RuleBreach)
introduced_again is c = at_level c (s8 (release_of (flat_interface is)) (rekey_class flat_module c))

-- the first rule that the flat interface breaks, with the number of the level of the class
abbrev pub flat_breach : List Interface → Option (ℕ × RuleBreach)
flat_breach is = or_else (first (named_again kernel (level_classes is))) (first (flat_map (introduced_again is) (level_classes is)))
