use Rattle.som_compat_levels.specs.Standing.{classes_of}
use Rattle.som_flat.proofs.Flattened.{face_is}
use Rattle.som_flat.proofs.faces.flat_face.Goals as goal

pub returns : goal.returns
returns c =
    face_is (classes_of c.args.classes.now) c.args.place c.level_face-face.result.now c.in_ok-copy.field-0 c.in_ok-rekey_keys.field-0 c.in_ok-rekey_metaclass.field-0 c.in_ok-entries.entries
    c.level_face-face.ensures c.in_ok-copy.ensures c.in_ok-rekey_keys.ensures c.in_ok-rekey_metaclass.ensures c.in_ok-entries.ensures
