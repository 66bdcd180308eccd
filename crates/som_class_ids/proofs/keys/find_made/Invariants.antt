use Rattle.std.proofs.Common.{◌≡◌, ◌<◌, ℕ}
use Rattle.som_meta.specs.Numbering.{key_at}
use Rattle.som_class_ids.proofs.keys.find_made.Given as goal

abbrev pub invariant-loop-number : goal.invariant-loop-number
invariant-loop-number l = (m : ℕ) → m < l.number → key_at l.numbers m ≡ l.key → ⊥
