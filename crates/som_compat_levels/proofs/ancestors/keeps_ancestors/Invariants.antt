use Rattle.std.proofs.Common.{◌≡◌, ◌<◌, ℕ, true, Some, slice_get}
use Rattle.som_model.specs.declared.key.ClassKey.{ClassKey}
use Rattle.som_model.specs.Classes.{ancestors, is_a}
use Rattle.som_verify_classes.specs.Places.{key_at}
use Rattle.som_compat_levels.specs.Tables.{classes_in}
use Rattle.som_compat_levels.proofs.ancestors.keeps_ancestors.Given as goal

abbrev pub invariant-loop-number : goal.invariant-loop-number
invariant-loop-number l = (i : ℕ) (y : ClassKey) → i < l.number → slice_get (ancestors (classes_in l.old) (key_at (classes_in l.old) l.place)) i ≡ Some y → is_a (classes_in l.new) (key_at (classes_in l.old) l.place) y ≡ true
