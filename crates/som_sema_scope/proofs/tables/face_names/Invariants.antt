use Rattle.std.proofs.Common.{◌≡◌, ◌++◌, drop}
use Rattle.som_order.specs.Names.{texts}
use Rattle.som_sema_scope.specs.ClassNames.{face_names}
use Rattle.som_sema_scope.proofs.tables.face_names.Given as goal

abbrev pub invariant-loop-face : goal.invariant-loop-face
invariant-loop-face l = texts l.names.items ++ face_names (drop l.face-index l.faces) ≡ face_names l.faces
