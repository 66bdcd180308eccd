use Rattle.std.proofs.Common.{◌≡◌, ◌++◌, flat_map}
use Rattle.som_generator.specs.Generated.{interface_line, numbers}
use Rattle.som_generator.proofs.interfaces.interfaces_text.Given as goal

abbrev pub invariant-loop-number : goal.invariant-loop-number
invariant-loop-number l = l.text.items ≡ l.initial.text.items ++ flat_map (interface_line l.edition) (numbers l.number)
