use Rattle.som_model_laws.specs.Rows.{AreAncestors}
use Rattle.som_verify_parents.proofs.ancestry.ancestors.Given as goal

abbrev pub invariant-loop-place : goal.invariant-loop-place
invariant-loop-place l = AreAncestors l.rows l.place l.all.items
