-- The first of a list that passes a test.
use Rattle.std.specs.Prelude.{◌≡◌, Bool, true, false, List, ◌∷◌, ◌++◌}
use Rattle.som_model.specs.Lists.{Mem}

-- a stands in the list and passes the test, and none before it passes
pub record IsFirst {A : Type 0} (test : A → Bool) (xs : List A) (a : A) : Type 0 where
  pub before : List A
  pub after : List A
  pub parts : xs ≡ before ++ a ∷ after
  pub passes : test a ≡ true
  pub earlier : (b : A) → Mem b before → test b ≡ false
