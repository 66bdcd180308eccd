-- Where a class is looked for by its name alone.
use Rattle.std.specs.Prelude.{ℕ, zero, suc, List, [], ◌∷◌, map, Option, Some, None}
use Rattle.som_model.specs.declared.key.Module.{Module}
use Rattle.som_model.specs.declared.key.Module.TheVariants as modules
use Rattle.som_model.specs.declared.key.ClassKey.{ClassKey, out-ClassKey}
use Rattle.som_model.specs.declared.key.ClassKey.TheVariants as keys
use Rattle.som_model.specs.declared.key.ClassKey.TheOpen.{ClassKey-F}
use Rattle.som_model.specs.Class.{Class}
use Rattle.som_model.specs.Classes.{class_at, greatest}

-- 0, or the level of a library above the lowest
abbrev pub level_of : Module → ℕ
level_of modules.Kernel = 0
level_of modules.Library = 0
level_of (modules.Upper n) = n
level_of modules.Client = 0

-- the level of a class's module
abbrev pub level_in : ClassKey-F ClassKey → ℕ
level_in (ClassKey-F.Named m name) = level_of m
level_in (ClassKey-F.Derived ks) = 0
level_in (ClassKey-F.Proxy of) = 0

-- the highest level of these classes
abbrev pub highest_of : List Class → ℕ
highest_of cs = greatest (map (λ (c : Class). level_in (out-ClassKey c.key)) cs)

-- the levels from this one down to level 1
abbrev pub levels_down : ℕ → List Module
levels_down zero = []
levels_down (suc n) = modules.Upper (suc n) ∷ levels_down n

abbrev pub key_if : Option Class → Option ClassKey
key_if None = None
key_if (Some c) = Some c.key

-- the key of the class of a name in a module
abbrev pub found_in : List Class → List ℕ → Module → Option ClassKey
found_in cs name m = key_if (class_at cs (keys.Named m name))
