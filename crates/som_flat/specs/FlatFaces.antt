-- Faces of classes as the flat interface has them.
use Rattle.std.specs.Prelude.{List}
use Rattle.som_model.specs.declared.key.ClassKey.{ClassKey}
use Rattle.som_model.specs.declared.class.Entry.{Entry}
use Rattle.som_model.specs.declared.class.ClassFace.{ClassFace}
use Rattle.som_model.specs.Class.{Class}
use Rattle.som_rekey_laws.specs.Rekeying.{rekey_entry, rekey_face}
use Rattle.som_flat_laws.specs.Flat.{entry_by_owner, face_by_owners, flat_module}

-- an entry of a class as the flat interface of these classes has it
abbrev pub flat_entry_of : List Class → ClassKey → Entry → Entry
flat_entry_of cs k e = rekey_entry flat_module (entry_by_owner cs k e)

-- the face of a class as the flat interface of these classes has it
abbrev pub flat_face_of : List Class → Class → ClassFace
flat_face_of cs c = rekey_face flat_module (face_by_owners cs c)
