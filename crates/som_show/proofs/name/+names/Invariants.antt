use Rattle.std.proofs.Common.{◌≡◌, ◌++◌, ◌∷◌, take, flat_map}
use Rattle.som_model.specs.ClassNames.{class_name}
use Rattle.som_show.proofs.name.+names.Given as goal

abbrev pub invariant-add_classes-loop-key : goal.invariant-add_classes-loop-key
invariant-add_classes-loop-key l = l.line.items ≡ l.initial.line.items ++ flat_map (λ k. 44 ∷ class_name k) (take l.key-index l.others)
