use Rattle.std.proofs.Common.{◌≡◌, ◌++◌, take}
use Rattle.std.specs.List.{flat_map}
use Rattle.som_image_fields.specs.SyntaxSpelling.{part}
use Rattle.som_image_classes.proofs.parts.with_parts.Given as goal

abbrev pub invariant-loop-part : goal.invariant-loop-part
invariant-loop-part l = l.image ≡ l.fn.front ++ flat_map part (take l.part-index l.parts)
