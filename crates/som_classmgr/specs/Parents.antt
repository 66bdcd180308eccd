-- The parents of a class by their places, and what they have.
use Rattle.std.specs.Prelude.{◌≡◌, ℕ, Option, Some, slice_get}
use Rattle.som_model.specs.declared.key.ClassKey.{ClassKey}
use Rattle.som_model.specs.Ancestors.{Descends}
use Rattle.som_model.specs.Classes.{hierarchy, parents_of}
use Rattle.som_meta.specs.Numbering.{Numbering, key_at, method_at}

-- the parent of a class at this place
abbrev pub parent_at : Numbering → ℕ → ℕ → Option ClassKey
parent_at k n i = slice_get (parents_of k.classes (key_at k n)) i

-- there is a parent at this place, and it has the method
pub record HasMethodAbove (k : Numbering) (n i : ℕ) (t : ℕ × ℕ) : Type 0 where
  pub parent : ClassKey
  pub there : parent_at k n i ≡ Some parent
  pub below : Descends (hierarchy k.classes) parent (method_at k t).class
