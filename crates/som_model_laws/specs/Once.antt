-- Lists in which nothing stands twice.
use Rattle.std.specs.Prelude.{Bool, if◌then◌else◌, List, [], ◌∷◌, ◌++◌}
use Rattle.som_model.specs.Lists.{some}

-- what is seen, and then what is new in the list, each once
abbrev pub add_new : {A : Type 0} → (A → A → Bool) → List A → A → List A
add_new same seen x = if some (same x) seen then seen else seen ++ x ∷ []

abbrev pub adds : {A : Type 0} → (A → A → Bool) → List A → List A → List A
adds same seen [] = seen
adds same seen (x ∷ xs) = adds same (add_new same seen x) xs
