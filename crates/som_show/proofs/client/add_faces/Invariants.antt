use Rattle.std.proofs.Common.{◌≡◌, ◌++◌, take, flat_map}
use Rattle.som_show.specs.Shown.{face_lines}
use Rattle.som_show.proofs.client.add_faces.Given as goal

abbrev pub invariant-loop-face : goal.invariant-loop-face
invariant-loop-face l = l.lines ≡ l.initial.lines ++ flat_map face_lines (take l.face-index l.faces)
