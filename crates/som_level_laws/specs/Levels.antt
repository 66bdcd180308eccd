-- Interfaces of libraries that stand one above the other, and when newer ones are compatible with older ones.
use Rattle.std.specs.Prelude.{ℕ, zero, suc, Bool, ◌&&◌, List, [], ◌∷◌, ◌++◌, map, flat_map, Option, Some, None}
use Rattle.som_model.specs.declared.key.Module.{Module}
use Rattle.som_model.specs.declared.key.Module.TheVariants as modules
use Rattle.som_model.specs.declared.key.MethodRef.{MethodRef}
use Rattle.som_model.specs.declared.program.Interface.{Interface}
use Rattle.som_model.specs.Lists.{first}
use Rattle.som_model.specs.Same.{same_option, same_sig}
use Rattle.som_model.specs.Keys.{same_method}
use Rattle.som_model.specs.Class.{Class, bare, class_in}
use Rattle.som_model.specs.Classes.{class_at}
use Rattle.som_model.specs.Kernel.{kernel}
use Rattle.som_model.specs.Owner.{owner}
use Rattle.som_model.specs.Compatible.{CompatBreach, failing, incompatible, k2, k3, k4, k6, order_of, signature}
use Rattle.som_release_laws.specs.Releasing.{AreKept}

-- the module of a level: the library, and above it the levels from 1 on
abbrev pub level_module : ℕ → Module
level_module zero = modules.Library
level_module (suc k) = modules.Upper (suc k)

-- the classes of level k, of which the faces alone are known
abbrev pub classes_of_level : ℕ → Interface → List Class
classes_of_level k i = map (λ f. class_in (level_module k) (bare f)) i.classes

-- the classes of level k and of those above it
abbrev pub levels_from : ℕ → List Interface → List Class
levels_from k [] = []
levels_from k (i ∷ is) = classes_of_level k i ++ levels_from (suc k) is

-- the classes of all levels in order, the lowest level first
abbrev pub level_classes : List Interface → List Class
level_classes is = levels_from 0 is

-- the classes of the kernel and of all levels
abbrev pub all_levels : List Interface → List Class
all_levels is = kernel ++ level_classes is

-- the class of c's name at c's level
abbrev pub counterpart : List Class → Class → Option Class
counterpart news c = class_at news c.key

-- the new owner of an entry is the new owner of its old owner
abbrev pub keeps_owner : List Class → List Class → MethodRef → Bool
keeps_owner olds news r = same_method (owner news r) (owner news (owner olds r))

-- an entry has the same signature in both, in each through its owner there, and keeps its owner
abbrev pub keeps_method : List Class → List Class → Class → List ℕ → Bool
keeps_method olds news c name =
    same_option same_sig (signature olds c.key name) (signature news c.key name) && keeps_owner olds news (record { class = c.key; name = name })

-- K5 across levels: each old entry keeps its signature and its owner
abbrev pub level_k5 : List Class → List Class → Class → List CompatBreach
level_k5 olds news c = map (λ p. incompatible 5 c (Some p.0) p.1) (failing (keeps_method olds news c) 0 (order_of c))

-- what a class breaks of K1 to K6, among all classes of the old levels and of the new ones
abbrev pub level_class_breaks : List Class → List Class → Class → List CompatBreach
level_class_breaks olds news c = elim (counterpart news c) [
  | None ↦ incompatible 1 c None 0 ∷ []
  | Some n ↦ k2 c n ++ (k3 olds news c ++ (k4 c n ++ (level_k5 olds news c ++ k6 news c)))
]

-- what breaks a rule at level k and above it, each with the number of its level
abbrev pub breaks_from : List Class → List Class → ℕ → List Interface → List (ℕ × CompatBreach)
breaks_from olds news k [] = []
breaks_from olds news k (i ∷ is) = map (λ b. (k, b)) (flat_map (level_class_breaks olds news) (classes_of_level k i)) ++ breaks_from olds news (suc k) is

-- all that breaks a rule: by the old levels, then by class order, by rule and by place
abbrev pub level_breaks : List Interface → List Interface → List (ℕ × CompatBreach)
level_breaks olds news = breaks_from (all_levels olds) (all_levels news) 0 olds

-- the first that breaks a rule, with the number of its level
abbrev pub first_level_break : List Interface → List Interface → Option (ℕ × CompatBreach)
first_level_break olds news = first (level_breaks olds news)

-- the new levels keep K1 to K6 of each class of the old ones, and the owner of each of its entries
abbrev pub CompatibleLevels : List Interface → List Interface → Type 0
CompatibleLevels olds news = AreKept (level_classes olds) (level_classes news)
