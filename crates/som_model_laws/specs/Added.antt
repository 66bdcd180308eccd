-- The names that an effective order adds to the listed ones.
use Rattle.std.specs.Prelude.{ℕ, List, [], ◌∷◌, length, drop}
use Rattle.som_model.specs.EffectiveOrder.{effective_order}

-- the first list is the second with some items left out
pub data IsThinned {A : Type 0} : List A → List A → Type 0 where
  nothing : IsThinned [] []
  kept : {xs ys : List A} (x : A) → IsThinned xs ys → IsThinned (x ∷ xs) (x ∷ ys)
  left_out : {xs ys : List A} (y : A) → IsThinned xs ys → IsThinned xs (y ∷ ys)

-- what stands after the listed names
abbrev pub added : List (List ℕ) → List (List ℕ) → List (List ℕ)
added listed introduced = drop (length listed) (effective_order listed introduced)
