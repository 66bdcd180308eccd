use Rattle.std.proofs.Common.{◌≡◌, ◌<◌, ℕ, length, map, take}
use Rattle.som_model.specs.Lists.{Mem}
use Rattle.som_model.specs.Loads.{keys_of}
use Rattle.som_class_ids.specs.Classes.{classes_of}
use Rattle.som_class_ids.specs.Numbers.{at}
use Rattle.som_class_ids.proofs.declared.numbers_of.Given as goal

abbrev pub invariant-loop-key : goal.invariant-loop-key
invariant-loop-key l = record {
  within : (n : ℕ) → Mem n l.numbers → n < length l.classes;
  keys : map (at (keys_of (classes_of l.classes))) l.numbers ≡ take l.key-index l.keys;
}
