use Rattle.std.proofs.Common.{◌≡◌, ℕ, map, take}
use Rattle.som_model.specs.Lists.{Mem}
use Rattle.som_meta.specs.Numbering.{IsNumbered, key_at}
use Rattle.som_class_ids.proofs.keys.+stands_for.Given as goal

abbrev pub invariant-stand_for-loop-i : goal.invariant-stand_for-loop-i
invariant-stand_for-loop-i l = ((n : ℕ) → Mem n l.classes → IsNumbered l.numbers n) → map (key_at l.numbers) (take l.i l.classes) ≡ take l.i l.keys
