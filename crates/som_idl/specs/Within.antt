-- Trees whose names and version numbers are within their limits, as those of texts are.
use Rattle.std.specs.Prelude.{ℕ, ◌≤◌, ⊤, length, All, Option, IfSome}
use Rattle.som_model.specs.declared.limits.TheConstants.{MAX_NAME, MAX_VERSION}
use Rattle.som_ast.specs.declared.words.TypeName.{TypeName}
use Rattle.som_ast.specs.declared.words.TypeName.TheVariants as types
use Rattle.som_ast.specs.declared.words.Word.{Word}
use Rattle.som_ast.specs.declared.interface.Export.{Export}
use Rattle.som_ast.specs.declared.interface.Export.TheVariants as exports
use Rattle.som_ast.specs.declared.interface.IdlFile.{IdlFile}
use Rattle.som_ast.specs.declared.interface.IdlInterface.{IdlInterface}
use Rattle.som_ast.specs.declared.interface.Item.{Item}
use Rattle.som_ast.specs.declared.interface.Item.TheVariants as items
use Rattle.som_ast.specs.declared.interface.Modifier.{Modifier}
use Rattle.som_ast.specs.declared.interface.Modifier.TheVariants as modifiers
use Rattle.som_ast.specs.declared.interface.Param.{Param}

abbrev pub WordWithin : Word → Type 0
WordWithin w = length w.text ≤ MAX_NAME

abbrev pub VersionWithin : ℕ → Type 0
VersionWithin n = n ≤ MAX_VERSION

abbrev pub TypeWithin : TypeName → Type 0
TypeWithin types.Long = ⊤
TypeWithin types.Boolean = ⊤
TypeWithin types.Str = ⊤
TypeWithin (types.Class w) = WordWithin w

abbrev pub ResultWithin : Option TypeName → Type 0
ResultWithin o = IfSome o TypeWithin

pub record ParamWithin (p : Param) : Type 0 where
  pub kind : TypeWithin p.kind
  pub name : WordWithin p.name

abbrev pub ExportWithin : Export → Type 0
ExportWithin (exports.Attribute readonly kind names) = TypeWithin kind × All WordWithin names
ExportWithin (exports.Operation result name params) = ResultWithin result × WordWithin name × All ParamWithin params

abbrev pub ModifierWithin : Modifier → Type 0
ModifierWithin modifiers.Override = ⊤
ModifierWithin modifiers.NameLookup = ⊤
ModifierWithin modifiers.Offset = ⊤
ModifierWithin (modifiers.Select parent) = WordWithin parent

abbrev pub ItemWithin : Item → Type 0
ItemWithin (items.ReleaseOrder names) = All WordWithin names
ItemWithin (items.Metaclass name) = WordWithin name
ItemWithin (items.Major n) = VersionWithin n
ItemWithin (items.Minor n) = VersionWithin n
ItemWithin (items.Method name ms) = WordWithin name × All ModifierWithin ms
ItemWithin (items.Variables kind names) = TypeWithin kind × All WordWithin names

pub record InterfaceWithin (i : IdlInterface) : Type 0 where
  pub name : WordWithin i.name
  pub parents : All WordWithin i.parents
  pub before : All ExportWithin i.before
  pub items : All ItemWithin i.items
  pub after : All ExportWithin i.after

-- each name of the file is at most as long as a name may be, and each version number is one that a class may have
pub record FileWithin (f : IdlFile) : Type 0 where
  pub interfaces : All InterfaceWithin f.interfaces
