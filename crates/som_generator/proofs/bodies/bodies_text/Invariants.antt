use Rattle.std.proofs.Common.{◌≡◌, ◌++◌, flat_map}
use Rattle.som_generator.specs.Generated.{body_lines, numbers}
use Rattle.som_generator.proofs.bodies.bodies_text.Given as goal

abbrev pub invariant-loop-number : goal.invariant-loop-number
invariant-loop-number l = l.text.items ≡ l.initial.text.items ++ flat_map (body_lines l.edition) (numbers l.number)
