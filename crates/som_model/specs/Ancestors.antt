-- The ancestors of a class.
use Rattle.std.specs.Prelude.{ℕ, zero, suc, Bool, List, [], ◌∷◌, map}
use Rattle.som_model.specs.Lists.{Mem, firsts, joined, some}
use Rattle.som_model.specs.Hierarchy.{Hierarchy}

-- X is A, or some parent of X descends from A
pub data Descends {K : Type 0} (h : Hierarchy K) : K → K → Type 0 where
  itself : {x : K} → Descends h x x
  by_parent : {x a : K} (p : K) → Mem p (h.parents x) → Descends h p a → Descends h x a

-- X, and then the ancestors of its parents from left to right, first occurrences kept, up to so many levels
abbrev pub anc_within : {K : Type 0} → Hierarchy K → ℕ → K → List K
anc_within h zero x = x ∷ []
anc_within h (suc n) x = firsts h.same (x ∷ joined (map (anc_within h n) (h.parents x)))

-- X and its ancestors; as many levels as X is high are all levels
abbrev pub anc : {K : Type 0} → Hierarchy K → K → List K
anc h x = anc_within h (h.height x) x

-- whether a class is one of the list
abbrev pub member : {K : Type 0} → Hierarchy K → K → List K → Bool
member h a xs = some (h.same a) xs

-- whether X descends from A
abbrev pub descends : {K : Type 0} → Hierarchy K → K → K → Bool
descends h x a = member h a (anc h x)
