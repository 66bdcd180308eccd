use Rattle.std.proofs.Common.{◌≡◌, drop}
use Rattle.som_model.specs.Class.{entry_of}
use Rattle.som_class_methods.proofs.entries.entry_place.Given as goal

abbrev pub invariant-loop-place : goal.invariant-loop-place
invariant-loop-place l = entry_of (drop l.place l.entries) l.name ≡ entry_of l.entries l.name
