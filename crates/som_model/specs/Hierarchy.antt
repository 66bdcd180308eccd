-- Hierarchies of classes, by any names for them.
use Rattle.std.specs.Prelude.{◌≡◌, ℕ, ◌<◌, Bool, true, List}
use Rattle.som_model.specs.Lists.{Mem}

-- the parents of each class from left to right, a number that is lower for each parent, and whether two names are one
pub record Hierarchy (K : Type 0) : Type 0 where
  pub parents : K → List K
  pub height : K → ℕ
  pub same : K → K → Bool

-- each parent stands lower
abbrev pub Falls : {K : Type 0} → Hierarchy K → Type 0
Falls {K} h = (x p : K) → Mem p (h.parents x) → h.height p < h.height x

-- the test tells names apart
pub record Tells {K : Type 0} (h : Hierarchy K) : Type 0 where
  pub one : (x : K) → h.same x x ≡ true
  pub two : (x y : K) → h.same x y ≡ true → x ≡ y
