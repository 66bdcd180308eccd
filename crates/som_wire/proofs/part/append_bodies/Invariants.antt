use Rattle.std.proofs.Common.{◌≡◌, ◌++◌, take}
use Rattle.std.specs.List.{flat_map}
use Rattle.som_image_fields.specs.SyntaxSpelling.{body}
use Rattle.som_wire.proofs.part.append_bodies.Given as goal

abbrev pub invariant-loop-body : goal.invariant-loop-body
invariant-loop-body l = l.out ≡ l.fn.out ++ flat_map body (take l.body-index l.bodies)
