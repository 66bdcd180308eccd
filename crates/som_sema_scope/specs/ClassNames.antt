-- The classes that names stand for.
use Rattle.std.specs.Prelude.{ℕ, if◌then◌else◌, List, map, Option, Some, None}
use Rattle.som_model.specs.declared.key.Module.{Module}
use Rattle.som_model.specs.declared.key.Module.TheVariants as modules
use Rattle.som_model.specs.declared.key.ClassKey.{ClassKey}
use Rattle.som_model.specs.declared.key.ClassKey.TheVariants as keys
use Rattle.som_model.specs.declared.key.ValueType.{ValueType}
use Rattle.som_model.specs.declared.key.ValueType.TheVariants as types
use Rattle.som_model.specs.declared.class.ClassFace.{ClassFace}
use Rattle.som_model.specs.Kernel.{kernel_interface}
use Rattle.som_model.specs.Lists.{among}
use Rattle.som_order.specs.Names.{texts}
use Rattle.som_ast.specs.declared.words.TypeName.{TypeName}
use Rattle.som_ast.specs.declared.words.TypeName.TheVariants as names
use Rattle.som_sema_scope.specs.declared.scope.Scope.{Scope}
use Rattle.som_sema_scope.specs.Words.{once}

-- the names of faces
abbrev pub face_names : List ClassFace → List (List ℕ)
face_names fs = map (λ (f : ClassFace). f.name) fs

abbrev pub kernel_names : List (List ℕ)
kernel_names = once (face_names kernel_interface.classes)

-- the module of the class that a name stands for: the own interfaces are asked first, then the base, then the kernel.
-- A name that none of them has is the own module's, which then has no class of that name
abbrev pub module_by_names : Module → List (List ℕ) → List (List ℕ) → List (List ℕ) → List ℕ → Module
module_by_names m own base kernel name = if among name own then m else (if among name base then modules.Library else (if among name kernel then modules.Kernel else m))

-- the module of the class that a name stands for, by the tables of a scope
abbrev pub module_in_scope : Scope → List ℕ → Module
module_in_scope s = module_by_names s.module (texts s.own.keys) (texts s.base.keys) (texts s.kernel.keys)

-- the key of the class that a name stands for
abbrev pub key_of : (List ℕ → Module) → List ℕ → ClassKey
key_of module_of name = keys.Named (module_of name) name

-- the type that is written
abbrev pub type_of : (List ℕ → Module) → TypeName → ValueType
type_of module_of names.Long = types.Long
type_of module_of names.Boolean = types.Boolean
type_of module_of names.Str = types.Str
type_of module_of (names.Class w) = types.Class (key_of module_of w.text)

-- the type of a result, which is void where none is written
abbrev pub result_of : (List ℕ → Module) → Option TypeName → ValueType
result_of module_of None = types.Void
result_of module_of (Some t) = type_of module_of t
