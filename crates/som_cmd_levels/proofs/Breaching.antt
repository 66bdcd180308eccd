-- At which level a breach is.
use Rattle.std.proofs.Common.{◌≡◌, ◌⊎◌, inl, inr, ℕ, suc, ◌+◌, ◌<◌, List, [], ◌∷◌, ◌++◌, length, map, flat_map, Option, Some, sym, ap, arith}
use Rattle.som_model.specs.Class.{Class}
use Rattle.som_model.specs.Compatible.{CompatBreach}
use Rattle.som_model.specs.Lists.{first}
use Rattle.som_model.specs.declared.program.Interface.{Interface}
use Rattle.som_level_laws.specs.Levels.{all_levels, breaks_from, classes_of_level, first_level_break, level_class_breaks}

same_level : (k : ℕ) (b : CompatBreach) (found : ℕ × CompatBreach) → ◌≡◌ {A = Option (ℕ × CompatBreach)} (Some (k, b)) (Some found) → found.0 ≡ k
same_level k b found e = let same : (k, b) ≡ found = cc in ap (λ (x : ℕ × CompatBreach). x.0) (sym same)

-- the first is of this level, or of one above it
here_or : (k : ℕ) (bs : List CompatBreach) (rest : List (ℕ × CompatBreach)) (found : ℕ × CompatBreach) → first (map (λ b. (k, b)) bs ++ rest) ≡ Some found → (found.0 ≡ k) ⊎ (first rest ≡ Some found)
here_or k [] rest found e = inr e
here_or k (b ∷ bs) rest found e = inl (same_level k b found e)

above : (olds news : List Class) (k : ℕ) (is : List Interface) (found : ℕ × CompatBreach) → first (breaks_from olds news k is) ≡ Some found → found.0 < k + length is
above olds news k [] found e = absurd cc
above olds news k (i ∷ is) found e = elim (here_or k (flat_map (level_class_breaks olds news) (classes_of_level k i)) (breaks_from olds news (suc k) is) found e) [
  | inl at ↦ omega (arith, at)
  | inr more ↦ (let rest = above olds news (suc k) is found more in omega (arith, rest))
]

pub at_level : (olds news : List Interface) (found : ℕ × CompatBreach) → first_level_break olds news ≡ Some found → found.0 < length olds
at_level olds news found e = let some = above (all_levels olds) (all_levels news) 0 olds found e in omega (arith, some)
