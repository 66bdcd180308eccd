-- An index of the names in a diamond.
use Rattle.std.specs.Prelude.{◌≡◌, ℕ, List, [], ◌∷◌, Some, map}
use Rattle.som_names.specs.declared.named.Named.{Named}
use Rattle.som_names.specs.Index.{named_at}

-- a class with these ancestors, whose names of one letter each have tokens at these places
abbrev pub named : ℕ → List ℕ → List ℕ → List ℕ → Named
named class ancestors letters places = record { ancestors = ancestors; names = map (λ letter. letter ∷ []) letters; tokens = map (λ place. (class, place)) places }

-- classes 1 and 2 are under 0 and introduce b (98), class 2 also c (99), and class 3 is under both
pub record IsIndex (index : List (ℕ × Named)) : Type 0 where
  pub root : named_at index 0 ≡ Some (named 0 (0 ∷ []) [] [])
  pub left : named_at index 1 ≡ Some (named 1 (1 ∷ 0 ∷ []) (98 ∷ []) (0 ∷ []))
  pub right : named_at index 2 ≡ Some (named 2 (2 ∷ 0 ∷ []) (98 ∷ 99 ∷ []) (0 ∷ 1 ∷ []))
  pub lower : named_at index 3 ≡ Some (named 3 (3 ∷ 1 ∷ 0 ∷ 2 ∷ []) [] [])
