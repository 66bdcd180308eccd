use Rattle.std.proofs.Common.{◌<◌, ℕ}
use Rattle.som_compat_levels.specs.Owners.{IsEntryAt}
use Rattle.som_compat_levels.proofs.entries.find_among.Given as goal

abbrev pub invariant-loop-number : goal.invariant-loop-number
invariant-loop-number l = (n : ℕ) → n < l.number → IsEntryAt l.entries l.name n → ⊥
