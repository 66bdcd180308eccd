-- Where the numbered classes stand: their parents and ancestors by number.
use Rattle.std.specs.Prelude.{◌≡◌, ◌==◌, ℕ, ◌+◌, ◌≤◌, List, [], ◌∷◌, map, length, slice_get, slice_index_or, Some}
use Rattle.som_model.specs.Lists.{Mem, joined}
use Rattle.som_model_laws.specs.Once.{adds}
use Rattle.som_model_laws.specs.Rows.{AreMarks}
use Rattle.som_class_ids.specs.declared.position.Position.{Position}
use Rattle.som_class_ids.specs.declared.position.Kind.{Kind}
use Rattle.som_class_ids.specs.declared.position.Kind.TheVariants as kinds

-- the parents of each class
abbrev pub rows : List Position → List (List ℕ)
rows ps = map (λ (p : Position). p.parents) ps

-- each class and its ancestors
abbrev pub lists : List Position → List (List ℕ)
lists ps = map (λ (p : Position). p.ancestors) ps

-- no ancestor of a class has a higher number
abbrev pub AreLow : List Position → Type 0
AreLow ps = (p a : ℕ) → Mem a (slice_index_or (lists ps) p []) → a ≤ p

abbrev pub rank_list : List Position → List ℕ
rank_list ps = map (λ (p : Position). p.rank) ps

-- the marks of each declared class tell its ancestors, none of which has a higher number
pub record AreMarked (ps : List Position) : Type 0 where
  pub low : AreLow ps
  pub marks : (n : ℕ) (p : Position) → slice_get ps n ≡ Some p → p.kind ≡ kinds.Declared → AreMarks p.marks p.ancestors × (length p.marks ≡ n + 1)

-- the class of this number is made so of these parents
pub record IsMade (ps : List Position) (kind : Kind) (parents : List ℕ) (n : ℕ) : Type 0 where
  pub position : Position
  pub there : slice_get ps n ≡ Some position
  pub kind_is : position.kind ≡ kind
  pub parents_are : position.parents ≡ parents

-- the position of the class that comes next: itself, and then the ancestors of its parents, each once
pub record IsNext (known : List Position) (kind : Kind) (parents : List ℕ) (rank : ℕ) (p : Position) : Type 0 where
  pub kind_is : p.kind ≡ kind
  pub parents_are : p.parents ≡ parents
  pub rank_is : p.rank ≡ rank
  pub ancestors : p.ancestors ≡ adds ◌==◌ [] (length known ∷ joined (map (λ q. slice_index_or (lists known) q []) parents))
  pub marks : kind ≡ kinds.Declared → AreMarks p.marks p.ancestors
  pub long : kind ≡ kinds.Declared → length p.marks ≡ length known + 1
