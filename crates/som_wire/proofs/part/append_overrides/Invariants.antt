use Rattle.std.proofs.Common.{◌≡◌, ◌++◌, take}
use Rattle.std.specs.List.{flat_map}
use Rattle.som_image_fields.specs.SyntaxSpelling.{overridden}
use Rattle.som_wire.proofs.part.append_overrides.Given as goal

abbrev pub invariant-loop-replaced : goal.invariant-loop-replaced
invariant-loop-replaced l = l.out ≡ l.fn.out ++ flat_map overridden (take l.replaced-index l.overrides)
