-- The faces and parts with numbers that come of numbering classes.
use Rattle.std.specs.Prelude.{ℕ, suc, ◌<◌, ◌^◌, if◌then◌else◌, List, [], ◌∷◌, map, All, Option, Some, None, IfSome}
use Rattle.som_model.specs.declared.key.ClassKey.{ClassKey}
use Rattle.som_model.specs.declared.class.Sig.{Sig}
use Rattle.som_model.specs.declared.class.Entry.{Entry}
use Rattle.som_model.specs.declared.class.Entry.TheVariants as named_entries
use Rattle.som_model.specs.declared.class.Body.{Body}
use Rattle.som_model.specs.declared.class.Body.TheVariants as named_bodies
use Rattle.som_model.specs.declared.class.Variable.{Variable}
use Rattle.som_model.specs.declared.class.Override.{Override}
use Rattle.som_model.specs.declared.class.Select.{Select}
use Rattle.som_model.specs.declared.class.ClassFace.{ClassFace}
use Rattle.som_model.specs.declared.class.ClassDecl.{ClassDecl}
use Rattle.som_model.specs.Lists.{Mem}
use Rattle.som_model.specs.Images.{has_selects}
use Rattle.som_image_fields.specs.declared.sig.WireSig.{WireSig}
use Rattle.som_image_fields.specs.declared.entry.WireEntry.{WireEntry}
use Rattle.som_image_fields.specs.declared.entry.WireEntry.TheVariants as entries
use Rattle.som_image_fields.specs.declared.face.WireFace.{WireFace}
use Rattle.som_image_fields.specs.declared.selects.WireSelect.{WireSelect}
use Rattle.som_image_fields.specs.declared.selects.WireSelects.{WireSelects}
use Rattle.som_image_fields.specs.declared.syntax.WireVariable.{WireVariable}
use Rattle.som_image_fields.specs.declared.syntax.WireBody.{WireBody}
use Rattle.som_image_fields.specs.declared.syntax.WireBody.TheVariants as bodies
use Rattle.som_image_fields.specs.declared.syntax.WireOverride.{WireOverride}
use Rattle.som_image_fields.specs.declared.syntax.WirePart.{WirePart}
use Rattle.som_image_decode.specs.declared.directory.Directory.{Directory}
use Rattle.som_image_encode.specs.Numbering.{number_of, method_numbered, MethodKnown, kind_numbered, IsKnown, IsValue}
use Rattle.som_image_encode.specs.NumberedBlocks.{block_numbered}
use Rattle.som_image_encode.specs.ReadyBlocks.{BlockReady}

-- ---- faces

abbrev pub sig_numbered : List ClassKey → Sig → WireSig
sig_numbered ks s = record { result = kind_numbered ks s.result; params = map (kind_numbered ks) s.params }

pub record SigKnown (ks : List ClassKey) (s : Sig) : Type 0 where
  pub result : IsKnown ks s.result
  pub params : All (IsValue ks) s.params

abbrev pub entry_numbered : List ClassKey → Entry → WireEntry
entry_numbered ks (named_entries.Introduced name s w) = entries.Introduced name (sig_numbered ks s) w
entry_numbered ks (named_entries.Moved name to) = entries.Moved name (number_of ks to)

abbrev pub EntryKnown : List ClassKey → Entry → Type 0
EntryKnown ks (named_entries.Introduced name s w) = SigKnown ks s
EntryKnown ks (named_entries.Moved name to) = Mem to ks

abbrev pub metaclass_numbered : List ClassKey → Option ClassKey → Option ℕ
metaclass_numbered ks None = None
metaclass_numbered ks (Some k) = Some (number_of ks k)

abbrev pub face_numbered : List ClassKey → ClassFace → WireFace
face_numbered ks f = record {
  name = f.name;
  major = f.major;
  minor = f.minor;
  parents = map (number_of ks) f.parents;
  metaclass = metaclass_numbered ks f.metaclass;
  entries = map (entry_numbered ks) f.entries;
}

-- a face that names no class but these
pub record FaceKnown (ks : List ClassKey) (f : ClassFace) : Type 0 where
  pub parents : All (λ k. Mem k ks) f.parents
  pub metaclass : IfSome f.metaclass (λ k. Mem k ks)
  pub entries : All (EntryKnown ks) f.entries

-- ---- parts

abbrev pub variable_numbered : List ClassKey → Variable → WireVariable
variable_numbered ks v = record { name = v.name; kind = kind_numbered ks v.kind }

abbrev pub body_numbered : Directory → Body → WireBody
body_numbered d (named_bodies.User b) = bodies.User (block_numbered d b)
body_numbered d (named_bodies.Get n) = bodies.Get n
body_numbered d (named_bodies.Set n) = bodies.Set n

-- a body whose block can be numbered, or of whose variable the number is a byte
abbrev pub BodyReady : Directory → Body → Type 0
BodyReady d (named_bodies.User b) = BlockReady d b
BodyReady d (named_bodies.Get n) = n < 2 ^ 8
BodyReady d (named_bodies.Set n) = n < 2 ^ 8

abbrev pub override_numbered : Directory → Override → WireOverride
override_numbered d o = record { method = method_numbered d o.method; block = block_numbered d o.block }

pub record OverrideReady (d : Directory) (o : Override) : Type 0 where
  pub method : MethodKnown d o.method
  pub block : BlockReady d o.block

abbrev pub part_numbered : Directory → ClassDecl → WirePart
part_numbered d c = record {
  variables = map (variable_numbered d.keys) c.variables;
  bodies = map (body_numbered d) c.bodies;
  overrides = map (override_numbered d) c.overrides;
}

-- ---- selects

abbrev pub select_numbered : Directory → Select → WireSelect
select_numbered d s = record { method = method_numbered d s.method; parent = s.parent }

-- of the classes with the numbers from n on, each that has selects, with its number
abbrev pub selects_numbered : Directory → ℕ → List ClassDecl → List WireSelects
selects_numbered d n [] = []
selects_numbered d n (c ∷ cs) = if has_selects c then record { class = n; selects = map (select_numbered d) c.selects } ∷ selects_numbered d (suc n) cs else selects_numbered d (suc n) cs

-- a class that names nothing but what is there, with blocks that can be numbered
pub record ClassKnown (d : Directory) (c : ClassDecl) : Type 0 where
  pub face : FaceKnown d.keys c.face
  pub variables : All (λ v. IsValue d.keys v.kind) c.variables
  pub bodies : All (BodyReady d) c.bodies
  pub overrides : All (OverrideReady d) c.overrides
  pub selects : All (λ s. MethodKnown d s.method) c.selects
