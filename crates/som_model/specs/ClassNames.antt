-- The names of classes, as they are printed.
use Rattle.std.specs.Prelude.{ℕ, List, [], ◌∷◌, ◌++◌, codes}
use Rattle.som_model.specs.declared.key.ClassKey.{ClassKey, fold-ClassKey}
use Rattle.som_model.specs.declared.key.ClassKey.TheOpen.{ClassKey-F}

-- the names with commas between
abbrev pub name_list : List (List ℕ) → List ℕ
name_list [] = []
name_list (n ∷ []) = n
name_list (n ∷ ns) = n ++ codes "," ++ name_list ns

abbrev name_step : ClassKey-F (List ℕ) → List ℕ
name_step (ClassKey-F.Named m name) = name
name_step (ClassKey-F.Derived names) = codes "Derived(" ++ name_list names ++ codes ")"
name_step (ClassKey-F.Proxy name) = codes "Proxy(" ++ name ++ codes ")"

-- the name of a class
abbrev pub class_name : ClassKey → List ℕ
class_name = fold-ClassKey (List ℕ) name_step
