-- Names that are introduced twice among all classes.
use Rattle.std.specs.Prelude.{◌≡◌, ℕ, ◌⊎◌, List, [], ◌∷◌, map, flat_map, filter, slice_index_or}
use Rattle.som_model.specs.Lists.{Mem, among}
use Rattle.som_model.specs.Class.{Class, introduced}
use Rattle.som_order.specs.Names.{texts}
use Rattle.std.specs.Borrow.{Bor}

-- a name stands in the list, and stands there again
abbrev pub Twice : List ℕ → List (List ℕ) → Type 0
Twice name [] = ⊥
Twice name (x ∷ xs) = ((name ≡ x) × Mem name xs) ⊎ Twice name xs

-- all of the list are seen, and what stands there twice is shared
pub record Covers (done seen shared : List (List ℕ)) : Type 0 where
  pub all : (name : List ℕ) → Mem name done → Mem name seen
  pub twice : (name : List ℕ) → Twice name done → Mem name shared

-- the names that are introduced, class by class
abbrev pub all_introduced : List Class → List (List ℕ)
all_introduced cs = flat_map (λ (c : Class). introduced c.decl.face.entries) cs

-- those that are among others
abbrev pub kept : List (List ℕ) → List (List ℕ) → List (List ℕ)
kept shared names = filter (λ name. among name shared) names

-- the names of a row
abbrev pub row_names : List (List (Bor (List ℕ))) → ℕ → List (List ℕ)
row_names rows place = texts (slice_index_or rows place [])

-- of each class the names that it introduces and that are shared; what stands twice among all classes is shared
pub record AreSharedRows (cs : List Class) (rows : List (List (Bor (List ℕ)))) : Type 0 where
  pub shared : List (List ℕ)
  pub twice : (name : List ℕ) → Twice name (all_introduced cs) → Mem name shared
  pub by : map texts rows ≡ map (λ (c : Class). kept shared (introduced c.decl.face.entries)) cs
