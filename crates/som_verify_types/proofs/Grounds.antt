-- What typing is to know of classes that break no rule which looks into no block.
use Rattle.std.proofs.Common.{◌≡◌, ℕ, List, ◌++◌, take, drop, flat_map, None}
use Rattle.som_model.specs.Lists.{first, or_else}
use Rattle.som_model.specs.Class.{Class}
use Rattle.som_model.specs.Conforming.{first_of_names, first_of_members}
use Rattle.som_model.specs.Kernel.{kernel}
use Rattle.som_model.specs.Rules.{RuleBreach, s5, s14}
use Rattle.som_verify_classes.specs.Faces.{classes_breach, rules_breach}
use Rattle.som_verify_classes.specs.Places.{with_kernel}
use Rattle.som_verify_classes.proofs.Before.{none_both}
use Rattle.som_verify_classes.proofs.Conformity.{or_none}
use Rattle.som_verify_classes.proofs.PlainMembers.{types_say}
use Rattle.som_verify_types.specs.Bodies.{AllSigsKnown}
use Rattle.som_verify_forms.proofs.NamesKnown.{declared_sig}

module _ (cs : List Class) (n : ℕ) (rules : rules_breach n cs ≡ None) where
  pub faces_none : classes_breach n cs ≡ None
  faces_none = (or_none (classes_breach n cs) (first (flat_map s14 (drop n cs))) rules).0

  abbrev base_types : List RuleBreach
  base_types = flat_map (s5 (kernel ++ take n cs)) (take n cs)

  abbrev own_types : List RuleBreach
  own_types = flat_map (s5 (kernel ++ cs)) (drop n cs)

  pub names_none : first_of_names kernel cs ≡ None
  names_none = (or_none (first_of_names kernel cs) (or_else (first (base_types ++ own_types)) (first_of_members kernel cs)) faces_none).0

  types_none : first (base_types ++ own_types) ≡ None
  types_none =
      (or_none (first (base_types ++ own_types)) (first_of_members kernel cs)
      (or_none (first_of_names kernel cs) (or_else (first (base_types ++ own_types)) (first_of_members kernel cs)) faces_none).1).0

  pub sigs_known : AllSigsKnown (with_kernel cs) cs
  sigs_known = record {
    by = λ c m. record {
      by = λ name sig way k. declared_sig n cs
          (types_say (kernel ++ take n cs) (take n cs) (none_both base_types own_types types_none).0)
          (types_say (with_kernel cs) (drop n cs) (none_both base_types own_types types_none).1) c name sig way m k;
    };
  }
