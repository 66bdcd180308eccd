use Rattle.std.proofs.Common.{◌≡◌, ◌<◌, ℕ}
use Rattle.som_compat_levels.specs.Standing.{classes_of}
use Rattle.som_model.specs.declared.key.ClassKey.TheVariants as keys
use Rattle.som_verify_classes.specs.Places.{key_at}
use Rattle.som_compat_levels.proofs.finding.find_among.Given as goal

abbrev pub invariant-loop-place : goal.invariant-loop-place
invariant-loop-place l = (k : ℕ) → k < l.place → key_at (classes_of l.classes) k ≡ keys.Named l.home l.name → ⊥
