use Rattle.std.proofs.Common.{◌≡◌, ◌++◌, take}
use Rattle.std.specs.List.{flat_map}
use Rattle.som_image_fields.specs.SyntaxSpelling.{select}
use Rattle.som_wire.proofs.selects.append_selects.Given as goal

abbrev pub invariant-loop-one : goal.invariant-loop-one
invariant-loop-one l = l.out ≡ l.fn.out ++ flat_map select (take l.one-index l.selects)
