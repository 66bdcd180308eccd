use Rattle.std.proofs.Common.{◌≡◌, length}
use Rattle.som_model.specs.Loads.{keys_of}
use Rattle.som_class_ids.specs.Classes.{classes_of}
use Rattle.som_class_ids.specs.Numbers.{ArePlaced}
use Rattle.som_class_ids.proofs.declared.declared_positions.Given as goal

abbrev pub invariant-loop-place : goal.invariant-loop-place
invariant-loop-place l = record {
  placed : ArePlaced (classes_of l.classes) (keys_of (classes_of l.classes)) l.positions;
  each : length l.positions ≡ l.place;
}
