-- Steps that are taken for each of several images, under its name; the first that refuses, refuses for all.
use Rattle.std.specs.Prelude.{ℕ, List, [], ◌∷◌, Result, Ok}
use Rattle.som_model.specs.Steps.{◌>>=◌}
use Rattle.som_cmd_steps.specs.declared.stop.Refusal.{Refusal}

-- what each image is read as
abbrev pub each_read : {A : Type 0} → (List ℕ → List ℕ → Result A Refusal) → List (List ℕ) → List (List ℕ) → Result (List A) Refusal
each_read read [] images = Ok []
each_read read (n ∷ ns) [] = Ok []
each_read read (n ∷ ns) (b ∷ bs) = do
  x ← read n b
  xs ← each_read read ns bs
  Ok (x ∷ xs)

-- whether each passes a test
abbrev pub each_passes : {A : Type 0} → (List ℕ → A → Result (Unit {0}) Refusal) → List (List ℕ) → List A → Result (Unit {0}) Refusal
each_passes test [] xs = Ok tt
each_passes test (n ∷ ns) [] = Ok tt
each_passes test (n ∷ ns) (x ∷ xs) = do
  passed ← test n x
  each_passes test ns xs
