-- Classes that are looked up by their names.
use Rattle.std.specs.Prelude.{◌≡◌, ◌<◌, ℕ, List, map, length, Option, Some, None}
use Rattle.som_model.specs.declared.class.ClassFace.{ClassFace}
use Rattle.som_order.specs.Names.{name_at}

abbrev pub face_names : List ClassFace → List (List ℕ)
face_names fs = map (λ f. f.name) fs

-- a place at which a name stands, and none where it stands nowhere
abbrev pub FindsName : List (List ℕ) → List ℕ → Option ℕ → Type 0
FindsName names x (Some place) = (place < length names) × (name_at names place ≡ x)
FindsName names x None = (place : ℕ) → place < length names → name_at names place ≡ x → ⊥
