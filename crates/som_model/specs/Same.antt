-- Whether two types, signatures, entries, faces or interfaces are one.
use Rattle.std.specs.Prelude.{◌==◌, Bool, true, false, ◌&&◌, List, [], ◌∷◌, Option, Some, None}
use Rattle.std.specs.Str.{bytes_eq}
use Rattle.som_model.specs.declared.key.ValueType.{ValueType}
use Rattle.som_model.specs.declared.key.ValueType.TheVariants as types
use Rattle.som_model.specs.declared.class.Sig.{Sig}
use Rattle.som_model.specs.declared.class.Way.{Way}
use Rattle.som_model.specs.declared.class.Way.TheVariants as ways
use Rattle.som_model.specs.declared.class.Entry.{Entry}
use Rattle.som_model.specs.declared.class.Entry.TheVariants as entries
use Rattle.som_model.specs.declared.class.ClassFace.{ClassFace}
use Rattle.som_model.specs.declared.program.Interface.{Interface}
use Rattle.som_model.specs.Keys.{same_key}

-- lists of one length, whose items are one by the test
abbrev pub same_list : {A : Type 0} → (A → A → Bool) → List A → List A → Bool
same_list same [] [] = true
same_list same (x ∷ xs) (y ∷ ys) = same x y && same_list same xs ys
same_list same [] (y ∷ ys) = false
same_list same (x ∷ xs) [] = false

abbrev pub same_option : {A : Type 0} → (A → A → Bool) → Option A → Option A → Bool
same_option same None None = true
same_option same (Some x) (Some y) = same x y
same_option same _ _ = false

abbrev pub same_type : ValueType → ValueType → Bool
same_type types.Void types.Void = true
same_type types.Long types.Long = true
same_type types.Boolean types.Boolean = true
same_type types.Str types.Str = true
same_type (types.Class k) (types.Class m) = same_key k m
same_type _ _ = false

-- whether two signatures are one: result and parameters
abbrev pub same_sig : Sig → Sig → Bool
same_sig a b = same_type a.result b.result && same_list same_type a.params b.params

abbrev pub same_way : Way → Way → Bool
same_way ways.Offset ways.Offset = true
same_way ways.Lookup ways.Lookup = true
same_way _ _ = false

abbrev pub same_entry : Entry → Entry → Bool
same_entry (entries.Introduced x s v) (entries.Introduced y t w) = bytes_eq x y && (same_sig s t && same_way v w)
same_entry (entries.Moved x k) (entries.Moved y m) = bytes_eq x y && same_key k m
same_entry _ _ = false

abbrev pub same_face : ClassFace → ClassFace → Bool
same_face a b =
    bytes_eq a.name b.name && ((a.major == b.major) && ((a.minor == b.minor)
    && (same_list same_key a.parents b.parents && (same_option same_key a.metaclass b.metaclass && same_list same_entry a.entries b.entries))))

-- whether two interfaces are one: face by face, in order
abbrev pub same_interface : Interface → Interface → Bool
same_interface a b = same_list same_face a.classes b.classes
