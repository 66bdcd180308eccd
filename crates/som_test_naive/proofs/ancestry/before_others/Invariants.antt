use Rattle.std.proofs.Common.{◌≡◌, ◌==◌, ◌∷◌, ◌++◌, drop}
use Rattle.som_model.specs.Lists.{without}
use Rattle.som_test_naive.proofs.ancestry.before_others.Given as goal

abbrev pub invariant-loop-class : goal.invariant-loop-class
invariant-loop-class l = l.list ++ without (λ y. l.x == y) (drop l.class-index l.classes) ≡ l.x ∷ without (λ y. l.x == y) l.classes
