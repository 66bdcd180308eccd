-- Whether two names of classes or methods are one.
use Rattle.std.specs.Prelude.{◌==◌, Bool, true, false, ◌&&◌, List, [], ◌∷◌}
use Rattle.std.specs.Str.{bytes_eq}
use Rattle.som_model.specs.declared.key.Module.{Module}
use Rattle.som_model.specs.declared.key.Module.TheVariants as modules
use Rattle.som_model.specs.declared.key.ClassKey.{ClassKey, fold-ClassKey, out-ClassKey}
use Rattle.som_model.specs.declared.key.ClassKey.TheOpen.{ClassKey-F}
use Rattle.som_model.specs.declared.key.MethodRef.{MethodRef}

abbrev pub same_module : Module → Module → Bool
same_module modules.Kernel modules.Kernel = true
same_module modules.Library modules.Library = true
same_module (modules.Upper m) (modules.Upper n) = m == n
same_module modules.Client modules.Client = true
same_module _ _ = false

-- each test holds of the key at its place, and there are as many
abbrev pub all_hold : List (ClassKey → Bool) → List ClassKey → Bool
all_hold [] [] = true
all_hold (f ∷ fs) (k ∷ ks) = f k && all_hold fs ks
all_hold [] (k ∷ ks) = false
all_hold (f ∷ fs) [] = false

-- one layer of two keys, where the parts of the first are tests
abbrev pub same_step : ClassKey-F (ClassKey → Bool) → ClassKey-F ClassKey → Bool
same_step (ClassKey-F.Named m x) (ClassKey-F.Named n y) = same_module m n && bytes_eq x y
same_step (ClassKey-F.Derived fs) (ClassKey-F.Derived ks) = all_hold fs ks
same_step (ClassKey-F.Proxy f) (ClassKey-F.Proxy k) = f k
same_step _ _ = false

-- whether two keys are one: the same module and name, or made of the same classes in the same way
abbrev pub same_key : ClassKey → ClassKey → Bool
same_key = fold-ClassKey (ClassKey → Bool) (λ x k. same_step x (out-ClassKey k))

abbrev pub same_method : MethodRef → MethodRef → Bool
same_method r s = same_key r.class s.class && bytes_eq r.name s.name
