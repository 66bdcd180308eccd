-- Parents and metaclasses that stand before their classes.
use Rattle.std.specs.Prelude.{◌≡◌, ℕ, ◌<◌, Bool, true, false, List, [], ◌∷◌, map, take, Option, Some, None, is_some, Result, Ok, Err}
use Rattle.som_model.specs.Lists.{Mem, every, first}
use Rattle.som_model.specs.Class.{Class}
use Rattle.som_model.specs.Classes.{class_at}
use Rattle.som_model.specs.Rules.{s2}
use Rattle.som_model.specs.declared.key.ClassKey.{ClassKey}
use Rattle.som_verify_classes.specs.Told.{Tells}
use Rattle.som_verify_classes.specs.Places.{key_at}
use Rattle.som_verify_classes.specs.declared.types.VerifyFault.{VerifyFault}

-- whether each of these classes stands before the place
abbrev pub all_stand : List Class → ℕ → List ClassKey → Bool
all_stand cs place ks = every (λ k. is_some (class_at (take place cs) k)) ks

-- the row of these parents, if all stand before the place
abbrev pub RowStands : List Class → ℕ → List ClassKey → Option (List ℕ) → Type 0
RowStands cs place parents (Some row) = (all_stand cs place parents ≡ true) × (map (key_at cs) row ≡ parents) × ((p : ℕ) → Mem p row → p < place)
RowStands cs place parents None = all_stand cs place parents ≡ false

-- the row of a class whose parents and metaclass stand before it
abbrev pub ClassStands : List Class → ℕ → Class → Result (List ℕ) VerifyFault → Type 0
ClassStands cs place c (Ok row) = (first (s2 (take place cs) c) ≡ None) × (map (key_at cs) row ≡ c.decl.face.parents) × ((p : ℕ) → Mem p row → p < place)
ClassStands cs place c (Err e) = Tells {A = List ℕ} (first (s2 (take place cs) c)) (Err e)

-- the rows of the kernel's classes
abbrev pub kernel_rows : List (List ℕ)
kernel_rows = [] ∷ (0 ∷ []) ∷ (0 ∷ []) ∷ (1 ∷ []) ∷ []
