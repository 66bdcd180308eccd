use Rattle.std.proofs.Common.{◌≡◌, ◌++◌, flat_map}
use Rattle.som_generator.specs.Generated.{adding_lines, numbers}
use Rattle.som_generator.proofs.client_main.main_text.Given as goal

abbrev pub invariant-loop-number : goal.invariant-loop-number
invariant-loop-number l = l.text.items ≡ l.initial.text.items ++ flat_map adding_lines (numbers l.number)
