use Rattle.std.proofs.Common.{◌≡◌, ◌++◌, take}
use Rattle.std.specs.List.{flat_map}
use Rattle.std.specs.Int.{w16}
use Rattle.som_image_fields.specs.Spelling.{number}
use Rattle.som_image_fields.proofs.face.append_parents.Given as goal

abbrev pub invariant-loop-parent : goal.invariant-loop-parent
invariant-loop-parent l = l.out ≡ l.fn.out ++ flat_map (number w16) (take l.parent-index l.parents)
