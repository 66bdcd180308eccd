-- The kernel's classes, in the order of their numbers.
use Rattle.std.specs.Prelude.{ℕ, List, [], ◌∷◌, codes, None}
use Rattle.som_model.specs.declared.key.Module.TheVariants as modules
use Rattle.som_model.specs.declared.key.ClassKey.{ClassKey}
use Rattle.som_model.specs.declared.key.ClassKey.TheVariants as keys
use Rattle.som_model.specs.declared.key.ValueType.{ValueType}
use Rattle.som_model.specs.declared.key.ValueType.TheVariants as types
use Rattle.som_model.specs.declared.key.MethodRef.{MethodRef}
use Rattle.som_model.specs.declared.class.Entry.{Entry}
use Rattle.som_model.specs.declared.class.Entry.TheVariants as entries
use Rattle.som_model.specs.declared.class.Way.TheVariants as ways
use Rattle.som_model.specs.declared.class.ClassFace.{ClassFace}
use Rattle.som_model.specs.declared.program.Interface.{Interface}
use Rattle.som_model.specs.Class.{Class, bare, class_in}
use Rattle.std.specs.Prelude.{map}

abbrev pub kernel_key : List ℕ → ClassKey
kernel_key name = keys.Named modules.Kernel name

abbrev pub som_object : ClassKey
som_object = kernel_key (codes "SOMObject")

abbrev pub som_class : ClassKey
som_class = kernel_key (codes "SOMClass")

abbrev pub som_class_mgr : ClassKey
som_class_mgr = kernel_key (codes "SOMClassMgr")

abbrev pub before_after : ClassKey
before_after = kernel_key (codes "SOMMBeforeAfter")

abbrev method_of : ClassKey → List ℕ → MethodRef
method_of k name = record { class = k; name = name }

abbrev pub som_init : MethodRef
som_init = method_of som_object (codes "somInit")

abbrev pub som_uninit : MethodRef
som_uninit = method_of som_object (codes "somUninit")

abbrev pub som_free : MethodRef
som_free = method_of som_object (codes "somFree")

abbrev pub som_dispatch_name : MethodRef
som_dispatch_name = method_of som_object (codes "somDispatchName")

abbrev pub som_new : MethodRef
som_new = method_of som_class (codes "somNew")

abbrev pub before_method : MethodRef
before_method = method_of before_after (codes "sommBeforeMethod")

abbrev pub after_method : MethodRef
after_method = method_of before_after (codes "sommAfterMethod")

-- an entry that is introduced, called by offset
abbrev pub method : List ℕ → ValueType → List ValueType → Entry
method name result params = entries.Introduced name (record { result = result; params = params }) ways.Offset

abbrev pub a_class : ValueType
a_class = types.Class som_class

abbrev pub an_object : ValueType
an_object = types.Class som_object

-- version 0.0, no metaclass
abbrev pub kernel_face : List ℕ → List ClassKey → List Entry → ClassFace
kernel_face name parents entries = record { name = name; major = 0; minor = 0; parents = parents; metaclass = None; entries = entries }

abbrev pub object_face : ClassFace
object_face = kernel_face (codes "SOMObject") [] (
    method (codes "somInit") types.Void [] ∷
    method (codes "somUninit") types.Void [] ∷
    method (codes "somFree") types.Void [] ∷
    method (codes "somGetClass") a_class [] ∷
    method (codes "somGetClassName") types.Str [] ∷
    method (codes "somIsA") types.Boolean (a_class ∷ []) ∷
    method (codes "somIsInstanceOf") types.Boolean (a_class ∷ []) ∷
    method (codes "somRespondsTo") types.Boolean (types.Str ∷ []) ∷
    method (codes "somDispatchName") types.Str (types.Str ∷ []) ∷ [])

abbrev pub class_face : ClassFace
class_face = kernel_face (codes "SOMClass") (som_object ∷ []) (
    method (codes "somNew") an_object [] ∷
    method (codes "somNewNoInit") an_object [] ∷
    method (codes "somGetName") types.Str [] ∷
    method (codes "somDescendedFrom") types.Boolean (a_class ∷ []) ∷
    method (codes "somSupportsMethod") types.Boolean (types.Str ∷ []) ∷
    method (codes "somCheckVersion") types.Boolean (types.Long ∷ types.Long ∷ []) ∷ [])

abbrev pub class_mgr_face : ClassFace
class_mgr_face = kernel_face (codes "SOMClassMgr") (som_object ∷ []) (
    method (codes "somFindClass") a_class (types.Str ∷ types.Long ∷ types.Long ∷ []) ∷ [])

abbrev pub before_after_face : ClassFace
before_after_face = kernel_face (codes "SOMMBeforeAfter") (som_class ∷ []) (
    method (codes "sommBeforeMethod") types.Void (an_object ∷ types.Str ∷ []) ∷
    method (codes "sommAfterMethod") types.Void (an_object ∷ types.Str ∷ []) ∷ [])

-- the kernel's interface
abbrev pub kernel_interface : Interface
kernel_interface = record { classes = object_face ∷ class_face ∷ class_mgr_face ∷ before_after_face ∷ [] }

-- the kernel's classes; their bodies are the kernel's own
abbrev pub kernel : List Class
kernel = map (λ f. class_in modules.Kernel (bare f)) kernel_interface.classes
