-- The one spelling of each field, and which values can stand in it.
use Rattle.std.specs.Prelude.{ℕ, ◌-◌, ◌<◌, ◌≤◌, ◌^◌, List, [], ◌∷◌, ◌++◌, length, Option, Some, None, IfSome, Bool, true, false, IsTrue, All, slice_index}
use Rattle.std.specs.List.{flat_map}
use Rattle.std.specs.Int.{Width, w8, w16, w32, to_be_bytes}
use Rattle.som_model.specs.declared.limits.TheConstants.{MAX_TEXT, MAX_VERSION, MAX_PARAMETERS, MAX_PARENTS, MAX_ENTRIES}
use Rattle.som_model.specs.declared.class.Way.{Way}
use Rattle.som_model.specs.declared.class.Way.TheVariants as ways
use Rattle.som_image_fields.specs.declared.kind.WireType.{WireType}
use Rattle.som_image_fields.specs.declared.kind.WireType.TheVariants as types
use Rattle.som_image_fields.specs.declared.sig.WireSig.{WireSig}
use Rattle.som_image_fields.specs.declared.entry.WireEntry.{WireEntry}
use Rattle.som_image_fields.specs.declared.entry.WireEntry.TheVariants as entries
use Rattle.som_image_fields.specs.declared.face.WireFace.{WireFace}
use Rattle.som_image_fields.specs.declared.method.WireMethod.{WireMethod}
use Rattle.som_image_fields.specs.declared.method.Ranges.{Ranges}

-- a number, its highest byte first
abbrev pub number : Width → ℕ → List ℕ
number w n = to_be_bytes w n

-- a length, and that many bytes
abbrev pub text : List ℕ → List ℕ
text t = number w16 (length t) ++ t

abbrev pub FitsText : List ℕ → Type 0
FitsText t = length t ≤ MAX_TEXT

-- a count, and that many things
abbrev pub counted : {A : Type 0} → Width → (A → List ℕ) → List A → List ℕ
counted w spell xs = number w (length xs) ++ flat_map spell xs

-- so many things, each of which fits
abbrev pub FitsCounted : {A : Type 0} → ℕ → ℕ → (A → Type 0) → List A → Type 0
FitsCounted least most Fits xs = (least ≤ length xs) × (length xs ≤ most) × All Fits xs

-- the most classes that there can be, since their number has 2 bytes
abbrev pub most_classes : ℕ
most_classes = 2 ^ 16 - 1

-- ---- types and signatures

abbrev pub kind : WireType → List ℕ
kind types.Void = 0 ∷ []
kind types.Long = 1 ∷ []
kind types.Boolean = 2 ∷ []
kind types.Str = 3 ∷ []
kind (types.Class class) = 4 ∷ number w16 class

-- void is a result alone, and a class is one of so many
abbrev pub FitsKind : ℕ → Bool → WireType → Type 0
FitsKind classes is_result types.Void = IsTrue is_result
FitsKind classes is_result types.Long = Unit {0}
FitsKind classes is_result types.Boolean = Unit {0}
FitsKind classes is_result types.Str = Unit {0}
FitsKind classes is_result (types.Class class) = class < classes

-- the result, and the parameters after their number
abbrev pub sig : WireSig → List ℕ
sig s = kind s.result ++ counted w8 kind s.params

pub record FitsSig (classes : ℕ) (s : WireSig) : Type 0 where
  pub result : FitsKind classes true s.result
  pub params : FitsCounted 0 MAX_PARAMETERS (FitsKind classes false) s.params

-- ---- entries

abbrev pub way : Way → List ℕ
way ways.Offset = 0 ∷ []
way ways.Lookup = 1 ∷ []

-- a name, and how and with which signature it is introduced, or to which class it was moved
abbrev pub entry : WireEntry → List ℕ
entry (entries.Introduced name s w) = text name ++ way w ++ sig s
entry (entries.Moved name to) = text name ++ 2 ∷ number w16 to

abbrev pub FitsEntry : ℕ → WireEntry → Type 0
FitsEntry classes (entries.Introduced name s w) = FitsText name × FitsSig classes s
FitsEntry classes (entries.Moved name to) = FitsText name × (to < classes)

-- ---- faces

abbrev pub metaclass : Option ℕ → List ℕ
metaclass None = 0 ∷ []
metaclass (Some class) = 1 ∷ number w16 class

-- the fields of a face in their order
abbrev pub face : WireFace → List ℕ
face f =
    text f.name ++ number w32 f.major ++ number w32 f.minor
    ++ counted w8 (number w16) f.parents
    ++ metaclass f.metaclass
    ++ counted w16 entry f.entries

pub record FitsFace (classes : ℕ) (f : WireFace) : Type 0 where
  pub name : FitsText f.name
  pub major : f.major ≤ MAX_VERSION
  pub minor : f.minor ≤ MAX_VERSION
  pub parents : FitsCounted 1 MAX_PARENTS (λ class. class < classes) f.parents
  pub metaclass : IfSome f.metaclass (λ class. class < classes)
  pub entries : FitsCounted 0 MAX_ENTRIES (FitsEntry classes) f.entries

-- ---- methods

-- a class, and the place in its entries
abbrev pub method : WireMethod → List ℕ
method m = number w16 m.class ++ number w16 m.slot

pub record FitsMethod (ranges : Ranges) (m : WireMethod) : Type 0 where
  pub class : m.class < ranges.classes
  pub slot : m.slot < slice_index ranges.entries m.class

-- ranges are numbers of 2 bytes
pub record AreShort (ranges : Ranges) : Type 0 where
  pub classes : ranges.classes < 2 ^ 16
  pub entries : (i : ℕ) → slice_index ranges.entries i < 2 ^ 16

-- a method that fits some ranges
pub record FitsSomeRanges (m : WireMethod) : Type 0 where
  pub class : m.class < most_classes
  pub slot : m.slot < 2 ^ 16 - 1
