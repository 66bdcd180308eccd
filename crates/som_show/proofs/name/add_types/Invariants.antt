use Rattle.std.proofs.Common.{◌≡◌, ◌++◌, ◌∷◌, take, flat_map}
use Rattle.som_show.specs.Shown.{type_name}
use Rattle.som_show.proofs.name.add_types.Given as goal

abbrev pub invariant-loop-kind : goal.invariant-loop-kind
invariant-loop-kind l = l.line.items ≡ l.initial.line.items ++ flat_map (λ k. 44 ∷ type_name k) (take l.kind-index l.others)
