-- The faces and parts of classes that come of naming the numbers and slots of an image.
use Rattle.std.specs.Prelude.{ℕ, suc, ◌==◌, if◌then◌else◌, List, [], ◌∷◌, map, All, Option, Some, None}
use Rattle.som_model.specs.declared.key.ClassKey.{ClassKey}
use Rattle.som_model.specs.declared.class.Sig.{Sig}
use Rattle.som_model.specs.declared.class.Entry.{Entry}
use Rattle.som_model.specs.declared.class.Entry.TheVariants as named_entries
use Rattle.som_model.specs.declared.class.Body.{Body}
use Rattle.som_model.specs.declared.class.Body.TheVariants as named_bodies
use Rattle.som_model.specs.declared.class.Variable.{Variable}
use Rattle.som_model.specs.declared.class.Override.{Override}
use Rattle.som_model.specs.declared.class.Select.{Select}
use Rattle.som_model.specs.declared.class.ClassFace.{ClassFace}
use Rattle.som_model.specs.declared.class.ClassDecl.{ClassDecl}
use Rattle.som_model.specs.declared.program.Interface.{Interface}
use Rattle.som_image_fields.specs.declared.sig.WireSig.{WireSig}
use Rattle.som_image_fields.specs.declared.entry.WireEntry.{WireEntry}
use Rattle.som_image_fields.specs.declared.entry.WireEntry.TheVariants as entries
use Rattle.som_image_fields.specs.declared.face.WireFace.{WireFace}
use Rattle.som_image_fields.specs.declared.method.Ranges.{Ranges}
use Rattle.som_image_fields.specs.Spelling.{FitsMethod}
use Rattle.som_image_fields.specs.declared.selects.WireSelect.{WireSelect}
use Rattle.som_image_fields.specs.declared.selects.WireSelects.{WireSelects}
use Rattle.som_image_fields.specs.declared.syntax.WireVariable.{WireVariable}
use Rattle.som_image_fields.specs.declared.syntax.WireBody.{WireBody}
use Rattle.som_image_fields.specs.declared.syntax.WireBody.TheVariants as bodies
use Rattle.som_image_fields.specs.declared.syntax.WireOverride.{WireOverride}
use Rattle.som_image_fields.specs.declared.syntax.WirePart.{WirePart}
use Rattle.som_image_decode.specs.declared.directory.Directory.{Directory}
use Rattle.som_image_decode.specs.Naming.{library_directory, key_at, method_named, kind_named}
use Rattle.som_image_decode.specs.NamedBlocks.{block_named}
use Rattle.som_image_classes.specs.declared.named_part.NamedPart.{NamedPart}

-- ---- faces

abbrev pub sig_named : List ClassKey → WireSig → Sig
sig_named ks s = record { result = kind_named ks s.result; params = map (kind_named ks) s.params }

abbrev pub entry_named : List ClassKey → WireEntry → Entry
entry_named ks (entries.Introduced name s w) = named_entries.Introduced name (sig_named ks s) w
entry_named ks (entries.Moved name to) = named_entries.Moved name (key_at ks to)

abbrev pub metaclass_named : List ClassKey → Option ℕ → Option ClassKey
metaclass_named ks None = None
metaclass_named ks (Some n) = Some (key_at ks n)

abbrev pub face_named : List ClassKey → WireFace → ClassFace
face_named ks f = record {
  name = f.name;
  major = f.major;
  minor = f.minor;
  parents = map (key_at ks) f.parents;
  metaclass = metaclass_named ks f.metaclass;
  entries = map (entry_named ks) f.entries;
}

-- ---- parts

abbrev pub variable_named : List ClassKey → WireVariable → Variable
variable_named ks v = record { name = v.name; kind = kind_named ks v.kind }

abbrev pub body_named : Directory → WireBody → Body
body_named d (bodies.User b) = named_bodies.User (block_named d b)
body_named d (bodies.Get n) = named_bodies.Get n
body_named d (bodies.Set n) = named_bodies.Set n

abbrev pub override_named : Directory → WireOverride → Override
override_named d o = record { method = method_named d o.method; block = block_named d o.block }

-- a class without selects
abbrev pub class_named : Directory → WireFace → WirePart → ClassDecl
class_named d f p = record {
  face = face_named d.keys f;
  variables = map (variable_named d.keys) p.variables;
  bodies = map (body_named d) p.bodies;
  overrides = map (override_named d) p.overrides;
  selects = [];
}

-- ---- classes

-- each face with the part of its place
abbrev pub classes_named : Directory → List WireFace → List WirePart → List ClassDecl
classes_named d (f ∷ fs) (p ∷ ps) = class_named d f p ∷ classes_named d fs ps
classes_named d [] ps = []
classes_named d (f ∷ fs) [] = []

-- ---- classes from parts with names

-- the part that one with numbers stands for
abbrev pub part_named : Directory → WirePart → NamedPart
part_named d p = record {
  variables = map (variable_named d.keys) p.variables;
  bodies = map (body_named d) p.bodies;
  overrides = map (override_named d) p.overrides;
}

-- a class of a face and a part with names, without selects
abbrev pub class_of : Directory → WireFace → NamedPart → ClassDecl
class_of d f p = record { face = face_named d.keys f; variables = p.variables; bodies = p.bodies; overrides = p.overrides; selects = [] }

-- each face with the part of its place
abbrev pub classes_of : Directory → List WireFace → List NamedPart → List ClassDecl
classes_of d (f ∷ fs) (p ∷ ps) = class_of d f p ∷ classes_of d fs ps
classes_of d [] ps = []
classes_of d (f ∷ fs) [] = []

-- ---- selects

abbrev pub select_named : Directory → WireSelect → Select
select_named d s = record { method = method_named d s.method; parent = s.parent }

-- the methods of all selects are those of classes that there are
abbrev pub AreSelectsOf : Ranges → List WireSelects → Type 0
AreSelectsOf ranges cs = All (λ c. All (λ s. FitsMethod ranges s.method) c.selects) cs

-- the selects that stand under the number of a class
abbrev pub selects_under : ℕ → List WireSelects → List WireSelect
selects_under n [] = []
selects_under n (c ∷ cs) = if c.class == n then c.selects else selects_under n cs

-- a class with these selects
abbrev pub selecting : Directory → List WireSelect → ClassDecl → ClassDecl
selecting d ss c = record {
  face = c.face;
  variables = c.variables;
  bodies = c.bodies;
  overrides = c.overrides;
  selects = map (select_named d) ss;
}

-- classes with the numbers from n on, each with the selects under its number
abbrev pub with_selects : Directory → ℕ → List WireSelects → List ClassDecl → List ClassDecl
with_selects d n groups [] = []
with_selects d n groups (c ∷ cs) = selecting d (selects_under n groups) c ∷ with_selects d (suc n) groups cs

-- ---- interfaces

-- the interface that faces stand for, by the classes of their numbers
abbrev pub interface_by : List ClassKey → List WireFace → Interface
interface_by ks fs = record { classes = map (face_named ks) fs }

-- the interface that the faces of a library stand for
abbrev pub interface_named : List WireFace → Interface
interface_named fs = interface_by (library_directory fs).keys fs
