-- What an interface declares: its face with the methods that it introduces in the order of declaration, and its variables.
use Rattle.std.specs.Prelude.{ℕ, Bool, if◌then◌else◌, List, [], ◌∷◌, ◌++◌, map, flat_map, codes, option_map}
use Rattle.som_model.specs.declared.key.Module.{Module}
use Rattle.som_model.specs.declared.key.ValueType.{ValueType}
use Rattle.som_model.specs.declared.key.ValueType.TheVariants as types
use Rattle.som_model.specs.declared.class.Way.{Way}
use Rattle.som_model.specs.declared.class.Way.TheVariants as ways
use Rattle.som_model.specs.declared.class.Entry.{Entry}
use Rattle.som_model.specs.declared.class.Entry.TheVariants as entries
use Rattle.som_model.specs.declared.class.Variable.{Variable}
use Rattle.som_model.specs.declared.class.ClassDecl.{ClassDecl}
use Rattle.som_model.specs.Lists.{among, first}
use Rattle.som_ast.specs.declared.words.Word.{Word}
use Rattle.som_ast.specs.declared.interface.IdlInterface.{IdlInterface}
use Rattle.som_ast.specs.declared.interface.Param.{Param}
use Rattle.som_ast.specs.declared.interface.Export.{Export}
use Rattle.som_ast.specs.declared.interface.Export.TheVariants as exports
use Rattle.som_ast.specs.declared.interface.Item.{Item}
use Rattle.som_ast.specs.declared.interface.Item.TheVariants as items
use Rattle.som_sema_scope.specs.ClassNames.{key_of, type_of, result_of}
use Rattle.som_sema_drafts.specs.Items.{by_name, major_in, metaclass_names, minor_in, number_of, or_object}
use Rattle.som_sema_drafts.specs.declared.drafts.Draft.{Draft}

-- how a method is called: by its name exactly where it is said so
abbrev pub way_of : List (List ℕ) → List ℕ → Way
way_of by_name name = if among name by_name then ways.Lookup else ways.Offset

abbrev pub method : List (List ℕ) → List ℕ → ValueType → List ValueType → Entry
method by_name name result params = entries.Introduced name (record { result = result; params = params }) (way_of by_name name)

-- an attribute declares a method that reads it, and then one that sets it unless it is read only
abbrev pub getter : List ℕ → List ℕ
getter name = codes "_get_" ++ name

abbrev pub setter : List ℕ → List ℕ
setter name = codes "_set_" ++ name

abbrev pub accessors : List (List ℕ) → Bool → ValueType → List ℕ → List Entry
accessors by_name readonly kind name = method by_name (getter name) kind [] ∷ (if readonly then [] else method by_name (setter name) types.Void (kind ∷ []) ∷ [])

abbrev pub param_types : (List ℕ → Module) → List Param → List ValueType
param_types module_of ps = map (λ (p : Param). type_of module_of p.kind) ps

abbrev pub export_entries : (List ℕ → Module) → List (List ℕ) → Export → List Entry
export_entries module_of by_name (exports.Attribute readonly kind names) = flat_map (λ (w : Word). accessors by_name readonly (type_of module_of kind) w.text) names
export_entries module_of by_name (exports.Operation result name params) = method by_name name.text (result_of module_of result) (param_types module_of params) ∷ []

-- the methods that an interface introduces, in the order of declaration
abbrev pub introduces : (List ℕ → Module) → IdlInterface → List Entry
introduces module_of i = flat_map (export_entries module_of (by_name i.items)) i.before ++ flat_map (export_entries module_of (by_name i.items)) i.after

abbrev pub variables_of : ValueType → List Word → List Variable
variables_of kind ws = map (λ (w : Word). record { name = w.text; kind = kind }) ws

-- an attribute has a variable of its name
abbrev pub export_variables : (List ℕ → Module) → Export → List Variable
export_variables module_of (exports.Attribute readonly kind names) = variables_of (type_of module_of kind) names
export_variables module_of (exports.Operation result name params) = []

abbrev pub item_variables : (List ℕ → Module) → Item → List Variable
item_variables module_of (items.Variables kind names) = variables_of (type_of module_of kind) names
item_variables module_of _ = []

-- the variables, in the order of the text
abbrev pub variables : (List ℕ → Module) → IdlInterface → List Variable
variables module_of i = flat_map (export_variables module_of) i.before ++ flat_map (item_variables module_of) i.items ++ flat_map (export_variables module_of) i.after

-- the face but for moved entries, and the variables; versions that aren't given are 0
abbrev pub draft_class : (List ℕ → Module) → IdlInterface → ClassDecl
draft_class module_of i = record {
  face = record {
    name = i.name.text;
    major = number_of major_in i.items;
    minor = number_of minor_in i.items;
    parents = map (key_of module_of) (or_object i.parents);
    metaclass = option_map (key_of module_of) (first (metaclass_names i.items));
    entries = introduces module_of i;
  };
  variables = variables module_of i;
  bodies = [];
  overrides = [];
  selects = [];
}

-- an interface and its draft
pub record InterfaceDraft : Type 0 where
  pub text : IdlInterface
  pub class : ClassDecl

abbrev pub draft_of : (List ℕ → Module) → IdlInterface → InterfaceDraft
draft_of module_of i = record { text = i; class = draft_class module_of i }

-- the interface and the class of a draft, as the code borrows them
abbrev pub plain_draft : Draft → InterfaceDraft
plain_draft d = record { text = d.text.now; class = d.decl }

abbrev pub plain_drafts : List Draft → List InterfaceDraft
plain_drafts ds = map plain_draft ds

abbrev pub draft_classes : List InterfaceDraft → List ClassDecl
draft_classes ds = map (λ (d : InterfaceDraft). d.class) ds
